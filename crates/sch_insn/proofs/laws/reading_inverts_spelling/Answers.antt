use Rattle.sch_insn.proofs.Reading.{decode_spelling}
use Rattle.sch_insn.proofs.PrefixCode.{was_spelled, within}
use Rattle.sch_insn.proofs.laws.reading_inverts_spelling.Goals as goal

pub returns-clause-reads : goal.returns-clause-reads
returns-clause-reads c = decode_spelling

pub returns-clause-was_spelled : goal.returns-clause-was_spelled
returns-clause-was_spelled c = was_spelled

pub returns-clause-within : goal.returns-clause-within
returns-clause-within c = within
