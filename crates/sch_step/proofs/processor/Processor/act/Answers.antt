use Rattle.std.proofs.Common.{refl, Ok, Err}
use Rattle.sch_insn.specs.Machine.{store, with_place, with_register, add64}
use Rattle.sch_insn.specs.declared.state.StuckCause.TheVariants.{Kernel}
use Rattle.sch_step.proofs.RowsOfWords.{row, with_word}
use Rattle.sch_step.proofs.processor.Processor.act.Goals as goal

pub returns-in-MovTo : goal.returns-in-MovTo
returns-in-MovTo c = with_word (λ w d. store d c.in-MovTo.m w) c.in-MovTo.is c.mov_to.ensures c.reg.ensures refl

pub returns-in-MovNumber : goal.returns-in-MovNumber
returns-in-MovNumber c = with_word (λ w d. store d c.in-MovNumber.m w) c.in-MovNumber.is c.mov_to-in-MovNumber.ensures c.word_in.ensures refl

pub returns-in-Lea : goal.returns-in-Lea
returns-in-Lea c = with_word (λ w d. Ok (with_register c.in-Lea.r w d)) c.in-Lea.is c.set-in-Lea.ensures c.address.ensures refl

pub returns-in-Jump : goal.returns-in-Jump
returns-in-Jump c = with_word (λ w d. Ok (with_place (add64 c.args.next w) d)) c.in-Jump.is (record { value = refl; same = tt }) c.word_in-in-Jump.ensures refl

pub returns-in-Jump8 : goal.returns-in-Jump8
returns-in-Jump8 c = with_word (λ w d. Ok (with_place (add64 c.args.next w) d)) c.in-Jump8.is (record { value = refl; same = tt }) c.word_in_byte.ensures refl

pub returns-in-Syscall : goal.returns-in-Syscall
returns-in-Syscall c = with_word (λ w d. Err (Kernel w)) c.in-Syscall.is (record { value = refl; same = refl }) c.reg-in-Syscall.ensures refl

pub returns-in-MovFrom : goal.returns-in-MovFrom
returns-in-MovFrom c = row c.in-MovFrom.is c.mov_from.ensures

pub returns-in-StoreByte : goal.returns-in-StoreByte
returns-in-StoreByte c = row c.in-StoreByte.is c.store_byte.ensures

pub returns-in-LoadByte : goal.returns-in-LoadByte
returns-in-LoadByte c = row c.in-LoadByte.is c.load_byte.ensures

pub returns-in-Imul : goal.returns-in-Imul
returns-in-Imul c = row c.in-Imul.is c.imul.ensures

pub returns-in-Neg : goal.returns-in-Neg
returns-in-Neg c = row c.in-Neg.is c.neg.ensures

pub returns-in-Idiv : goal.returns-in-Idiv
returns-in-Idiv c = row c.in-Idiv.is c.idiv.ensures

pub returns-in-Cqo : goal.returns-in-Cqo
returns-in-Cqo c = row c.in-Cqo.is c.cqo.ensures

pub returns-in-Shl : goal.returns-in-Shl
returns-in-Shl c = row c.in-Shl.is c.shl.ensures

pub returns-in-Shr : goal.returns-in-Shr
returns-in-Shr c = row c.in-Shr.is c.shr.ensures

pub returns-in-Sar : goal.returns-in-Sar
returns-in-Sar c = row c.in-Sar.is c.sar.ensures

pub returns-in_default : goal.returns-in_default
returns-in_default c = c.act_on_two.ensures
