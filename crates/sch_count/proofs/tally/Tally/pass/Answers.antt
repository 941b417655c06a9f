use Rattle.std.proofs.Common.{◌++◌, None, true, refl}
use Rattle.sch_word.specs.declared.mark.MarkKind.TheVariants.{Enter, Call, Return, Tail, Save}
use Rattle.sch_word.specs.runs.Activations.{Activations, settled, with_mark}
use Rattle.sch_count.proofs.TallySteps.{passed_call, passed_enter, passed_other, passed_return, passed_save, passed_tail, settled_at, settled_free, tail_over}
use Rattle.sch_count.proofs.tally.Tally.pass.Goals as goal

pub returns-in-Enter-clause-tallies : goal.returns-in-Enter-clause-tallies
returns-in-Enter-clause-tallies c = λ a over h.
    let m = Enter c.in-Enter.body in
    passed_enter c.enter.new.self a over c.args.mark c.in-Enter.body c.in-Enter.is
    (c.enter.ensures.tallies (settled m a) over (settled_free m a) (settled_at c.settle.new.self a over c.args.mark m c.in-Enter.is (c.settle.ensures.tallies a over h)))

pub returns-in_ok-suspend-in-Call-clause-tallies : goal.returns-in_ok-suspend-in-Call-clause-tallies
returns-in_ok-suspend-in-Call-clause-tallies c = λ a over h.
    let m = Call c.in-Call.field-0 in
    passed_call c.suspend.new.self a over c.args.mark c.in-Call.field-0 c.in-Call.is
    (c.in_ok-suspend-in-Call.ensures.tallies (settled m a) over c.in-Call.field-0 (settled_at c.settle.new.self a over c.args.mark m c.in-Call.is (c.settle.ensures.tallies a over h)))

pub returns-in-Return-clause-tallies : goal.returns-in-Return-clause-tallies
returns-in-Return-clause-tallies c = λ a over h.
    let b = settled Return a in
    let closed : Activations = record { current = None; suspended = b.suspended; handed_over = b.handed_over; ended = b.ended ++ with_mark Return b.current } in
    passed_return c.resume.new.self a over c.args.mark c.in-Return.is
    (c.resume.ensures.tallies closed over refl
    (c.close.ensures.tallies b over Return refl refl refl (settled_at c.settle.new.self a over c.args.mark Return c.in-Return.is (c.settle.ensures.tallies a over h))))

pub returns-in-Tail-clause-tallies : goal.returns-in-Tail-clause-tallies
returns-in-Tail-clause-tallies c = λ a over h.
    let m = Tail c.in-Tail.field-0 in
    let b = settled m a in
    let t = c.close-in-Tail.new.self in
    passed_tail (record { rows = t.rows; current = t.current; suspended = t.suspended; handed_over = true }) a over c.args.mark c.in-Tail.field-0 c.in-Tail.is
    (tail_over t b.suspended (b.ended ++ with_mark m b.current) over b.handed_over
    (c.close-in-Tail.ensures.tallies b over m refl refl refl (settled_at c.settle.new.self a over c.args.mark m c.in-Tail.is (c.settle.ensures.tallies a over h))))

pub returns-in-Save-clause-tallies : goal.returns-in-Save-clause-tallies
returns-in-Save-clause-tallies c = λ a over h.
    let m = Save c.in-Save.field-0 in
    passed_save c.save.new.self a over c.args.mark c.in-Save.field-0 c.in-Save.is
    (c.save.ensures.tallies (settled m a) over c.in-Save.field-0 (settled_at c.settle.new.self a over c.args.mark m c.in-Save.is (c.settle.ensures.tallies a over h)))

pub returns-in_default-clause-tallies : goal.returns-in_default-clause-tallies
returns-in_default-clause-tallies c = λ a over h.
    passed_other c.settle.new.self a over c.args.mark c.in_default.not-Enter c.in_default.not-Call c.in_default.not-Return c.in_default.not-Tail c.in_default.not-Save
    (c.settle.ensures.tallies a over h)
