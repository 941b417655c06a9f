use Rattle.std.proofs.Common.{◌≡◌, ◌+◌, ◌++◌, ◌∷◌, [], take, get_or, refl, sym, ap, ◌∙◌, subst, arith, append-nil, append_assoc, add-one, length-append}
use Rattle.std.proofs.lemmas.List.{length-take-le, take_all}
use Rattle.std.proofs.Math.Seq.{take-suc}
use Rattle.sch_word.specs.declared.mark.MarkKind.TheVariants.{Enter}
use Rattle.sch_word.specs.runs.Activations.{activations, none_yet}
use Rattle.sch_count.specs.ActivationCounts.{replaced}
use Rattle.sch_count.specs.Tallied.{IsKnown, TalliesMarks}
use Rattle.sch_count.proofs.RunMarks.{one_more, room_after}
use Rattle.sch_count.proofs.tally.Tally.pass_all.Goals as goal

pub loop-mark-init : goal.loop-mark-init
loop-mark-init c = (refl, λ before h. subst (TalliesMarks c.args.self.now) (sym (append-nil before)) h)

pub pass-requires-clause-known : goal.pass-requires-clause-known
pass-requires-clause-known c =
    subst (λ n. IsKnown n (get_or c.args.marks.now c.loop-mark.mark-index (Enter 0))) (sym c.loop-mark.invariant.0) (c.requires.known c.loop-mark.mark-index (Enter 0) c.loop-mark-test.true)

pub pass-requires-clause-room : goal.pass-requires-clause-room
pass-requires-clause-room c =
    let r = c.requires.room in
    let now = r.marks ++ take c.loop-mark.mark-index c.args.marks.now in
    let few = r.few in
    let end = c.loop-mark.auto.mark-index-end in
    let size = length-take-le c.loop-mark.mark-index c.args.marks.now end in
    room_after c.loop-mark.self now (c.loop-mark.invariant.1 r.marks r.tallies) (omega (arith, few, end, size, length-append r.marks (take c.loop-mark.mark-index c.args.marks.now)))

pub returns-in_err-pass-clause-rows : goal.returns-in_err-pass-clause-rows
returns-in_err-pass-clause-rows c = c.pass.ensures.rows ∙ c.loop-mark.invariant.0

pub loop-mark-preserved : goal.loop-mark-preserved
loop-mark-preserved c = (
  c.pass.ensures.rows ∙ c.loop-mark.invariant.0,
  λ before h.
      let i = c.loop-mark.mark-index in
      let marks = c.args.marks.now in
      let m = get_or marks i (Enter 0) in
      let now = before ++ take i marks in
      let next : now ++ m ∷ [] ≡ before ++ take (i + 1) marks = append_assoc before (take i marks) (m ∷ []) ∙ ap (λ l. before ++ l) (sym (take-suc marks i (Enter 0) c.loop-mark-test.true) ∙ ap (λ n. take n marks) (sym (add-one i))) in
      subst (TalliesMarks c.pass.new.self) next
      (one_more c.pass.new.self now m (c.in_ok-pass.ensures.tallies (activations now) (replaced none_yet now) (c.loop-mark.invariant.1 before h))),
)

pub returns-clause-tallies : goal.returns-clause-tallies
returns-clause-tallies c = λ before h.
    subst (λ l. TalliesMarks c.loop-mark.self (before ++ l)) (take_all c.loop-mark.mark-index c.args.marks.now c.loop-mark-test.false) (c.loop-mark.invariant.1 before h)

pub returns-clause-rows : goal.returns-clause-rows
returns-clause-rows c = c.loop-mark.invariant.0
