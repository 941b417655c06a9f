use Rattle.sch_insn.specs.Machine.{with_place}
use Rattle.sch_step.specs.View.{core_of}
use Rattle.sch_step.proofs.StuckRows.{row}
use Rattle.sch_step.proofs.processor.Processor.stuck_cause.Goals as goal

pub returns-in-MovFrom : goal.returns-in-MovFrom
returns-in-MovFrom c = row (with_place c.args.next (core_of c.args.self.now)) c.in-MovFrom.is (c.unreadable.ensures.used _)

pub returns-in-CmpTo : goal.returns-in-CmpTo
returns-in-CmpTo c = row (with_place c.args.next (core_of c.args.self.now)) c.in-CmpTo.is (c.unreadable-in-CmpTo.ensures.used _)

pub returns-in-AddFrom : goal.returns-in-AddFrom
returns-in-AddFrom c = row (with_place c.args.next (core_of c.args.self.now)) c.in-AddFrom.is (c.unreadable-in-AddFrom.ensures.used _)

pub returns-in-OrFrom : goal.returns-in-OrFrom
returns-in-OrFrom c = row (with_place c.args.next (core_of c.args.self.now)) c.in-OrFrom.is (c.unreadable-in-OrFrom.ensures.used _)

pub returns-in-AndFrom : goal.returns-in-AndFrom
returns-in-AndFrom c = row (with_place c.args.next (core_of c.args.self.now)) c.in-AndFrom.is (c.unreadable-in-AndFrom.ensures.used _)

pub returns-in-SubFrom : goal.returns-in-SubFrom
returns-in-SubFrom c = row (with_place c.args.next (core_of c.args.self.now)) c.in-SubFrom.is (c.unreadable-in-SubFrom.ensures.used _)

pub returns-in-XorFrom : goal.returns-in-XorFrom
returns-in-XorFrom c = row (with_place c.args.next (core_of c.args.self.now)) c.in-XorFrom.is (c.unreadable-in-XorFrom.ensures.used _)

pub returns-in-CmpFrom : goal.returns-in-CmpFrom
returns-in-CmpFrom c = row (with_place c.args.next (core_of c.args.self.now)) c.in-CmpFrom.is (c.unreadable-in-CmpFrom.ensures.used _)

pub returns-in-CmpNumber : goal.returns-in-CmpNumber
returns-in-CmpNumber c = row (with_place c.args.next (core_of c.args.self.now)) c.in-CmpNumber.is (c.unreadable-in-CmpNumber.ensures.used _)

pub returns-in-CmpNumber8 : goal.returns-in-CmpNumber8
returns-in-CmpNumber8 c = row (with_place c.args.next (core_of c.args.self.now)) c.in-CmpNumber8.is (c.unreadable-in-CmpNumber8.ensures.used _)

pub returns-in-TestTo : goal.returns-in-TestTo
returns-in-TestTo c = row (with_place c.args.next (core_of c.args.self.now)) c.in-TestTo.is (c.unreadable-in-TestTo.ensures.used _)

pub returns-in-Imul : goal.returns-in-Imul
returns-in-Imul c = row (with_place c.args.next (core_of c.args.self.now)) c.in-Imul.is (c.unreadable-in-Imul.ensures.used _)

pub returns-in-JumpTo : goal.returns-in-JumpTo
returns-in-JumpTo c = row (with_place c.args.next (core_of c.args.self.now)) c.in-JumpTo.is (c.unreadable-in-JumpTo.ensures.used _)
