use Rattle.std.proofs.Common.{refl}
use Rattle.std.specs.Prelude.{bit_or, bit_and, bit_xor}
use Rattle.sch_insn.specs.Machine.{sum_of, difference_of, bits_of}
use Rattle.sch_insn.specs.Step.{compare}
use Rattle.sch_step.proofs.RowsOfWords.{changes, compares, row, with_word}
use Rattle.sch_step.proofs.processor.Processor.act_on_two.Goals as goal

pub returns-in-AddTo : goal.returns-in-AddTo
returns-in-AddTo c = changes c.in-AddTo.m sum_of c.in-AddTo.is c.add_to.ensures c.reg.ensures refl

pub returns-in-OrTo : goal.returns-in-OrTo
returns-in-OrTo c = changes c.in-OrTo.m (λ v b. bits_of (bit_or v b)) c.in-OrTo.is c.or_to.ensures c.reg-in-OrTo.ensures refl

pub returns-in-AndTo : goal.returns-in-AndTo
returns-in-AndTo c = changes c.in-AndTo.m (λ v b. bits_of (bit_and v b)) c.in-AndTo.is c.and_to.ensures c.reg-in-AndTo.ensures refl

pub returns-in-SubTo : goal.returns-in-SubTo
returns-in-SubTo c = changes c.in-SubTo.m difference_of c.in-SubTo.is c.sub_to.ensures c.reg-in-SubTo.ensures refl

pub returns-in-XorTo : goal.returns-in-XorTo
returns-in-XorTo c = changes c.in-XorTo.m (λ v b. bits_of (bit_xor v b)) c.in-XorTo.is c.xor_to.ensures c.reg-in-XorTo.ensures refl

pub returns-in-CmpTo : goal.returns-in-CmpTo
returns-in-CmpTo c = compares c.in-CmpTo.m difference_of c.in-CmpTo.is c.cmp_to.ensures c.reg-in-CmpTo.ensures refl

pub returns-in-TestTo : goal.returns-in-TestTo
returns-in-TestTo c = compares c.in-TestTo.m (λ v b. bits_of (bit_and v b)) c.in-TestTo.is c.test_to.ensures c.reg-in-TestTo.ensures refl

pub returns-in-CmpFrom : goal.returns-in-CmpFrom
returns-in-CmpFrom c = with_word (λ a d. compare d c.in-CmpFrom.m (λ v. difference_of a v)) c.in-CmpFrom.is c.cmp_from.ensures c.reg-in-CmpFrom.ensures refl

pub returns-in-AddFrom : goal.returns-in-AddFrom
returns-in-AddFrom c = row c.in-AddFrom.is c.add_from.ensures

pub returns-in-OrFrom : goal.returns-in-OrFrom
returns-in-OrFrom c = row c.in-OrFrom.is c.or_from.ensures

pub returns-in-AndFrom : goal.returns-in-AndFrom
returns-in-AndFrom c = row c.in-AndFrom.is c.and_from.ensures

pub returns-in-SubFrom : goal.returns-in-SubFrom
returns-in-SubFrom c = row c.in-SubFrom.is c.sub_from.ensures

pub returns-in-XorFrom : goal.returns-in-XorFrom
returns-in-XorFrom c = row c.in-XorFrom.is c.xor_from.ensures

pub returns-in_default : goal.returns-in_default
returns-in_default c = c.act_with_number.ensures
