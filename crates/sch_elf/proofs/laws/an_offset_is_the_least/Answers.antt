use Rattle.sch_elf.proofs.WrittenStands.{congruent, least_of_all, not_before}
use Rattle.sch_elf.proofs.laws.an_offset_is_the_least.Goals as goal

pub returns-clause-behind : goal.returns-clause-behind
returns-clause-behind c = not_before

pub returns-clause-congruent : goal.returns-clause-congruent
returns-clause-congruent c = congruent

pub returns-clause-least : goal.returns-clause-least
returns-clause-least c = least_of_all
