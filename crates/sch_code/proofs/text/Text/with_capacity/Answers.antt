use Rattle.std.proofs.Common.{[], refl, arith}
use Rattle.sch_code.proofs.Spelled.{empty_by, text_empty}
use Rattle.sch_code.proofs.text.Text.with_capacity.Goals as goal

pub invariant_of-result : goal.invariant_of-result
invariant_of-result c = (text_empty, omega arith)

pub returns : goal.returns
returns c = empty_by [] refl
