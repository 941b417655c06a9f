use Rattle.sch_insn.proofs.PrefixCode.{one_spelling, one_instruction, no_proper_prefix, spells_short}
use Rattle.sch_insn.proofs.laws.spellings_are_a_prefix_code.Goals as goal
use Rattle.std.proofs.Common.{refl}

pub returns-clause-spelled : goal.returns-clause-spelled
returns-clause-spelled c = λ i v. record { valid = v; same = refl }

pub returns-clause-one_spelling : goal.returns-clause-one_spelling
returns-clause-one_spelling c = one_spelling

pub returns-clause-one_instruction : goal.returns-clause-one_instruction
returns-clause-one_instruction c = one_instruction

pub returns-clause-no_proper_prefix : goal.returns-clause-no_proper_prefix
returns-clause-no_proper_prefix c = no_proper_prefix

pub returns-clause-short : goal.returns-clause-short
returns-clause-short c = spells_short
