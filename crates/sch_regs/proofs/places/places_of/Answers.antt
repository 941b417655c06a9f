use Rattle.std.proofs.Common.{rules, arith, ◌≡◌, ◌*◌, ◌∙◌, ap, length, refl, ◌<◌, ◌^◌, sym, subst}
use Rattle.std.proofs.lemmas.Grind.{common_steps}
use Rattle.std.proofs.lemmas.List.{length-replicate}
use Rattle.std.specs.FinSet as set
use Rattle.sch_control.specs.flow.RestoredView.{restored}
use Rattle.sch_regs.specs.NotedSets.{assign_noted}
use Rattle.sch_regs.specs.PlaceChoice.{arrived, in_order, slots, table_of}
use Rattle.sch_regs.specs.SetsAsTests.{noted_in}
use Rattle.sch_regs.proofs.PlacedBodies.{code_of, ends, entered_within, few_slots, numbering, scope, some_words, variables_within}
use Rattle.sch_regs.proofs.TableMade.{table_made}
use Rattle.sch_regs.proofs.places.places_of.Goals as goal

pub note-requires : goal.note-requires
note-requires g c =
    let b = c.args.b.now in (
      first_of (search rules, grind (arith, common_steps), omega arith),
      (
        first_of (search rules, grind (arith, common_steps), omega arith),
        (some_words b, variables_within b (64 * g.row.N) b.fits),
      ),
    )

pub all_arrived-requires : goal.all_arrived-requires
all_arrived-requires g c =
    let b = c.args.b.now in
    let k = entered_within b in
    let e = c.formals.ensures in (
      first_of (search rules, grind (arith, common_steps), omega arith),
      (omega arith, (omega (arith, k, e), b.fits)),
    )

pub assign-requires : goal.assign-requires
assign-requires g c =
    let b = c.args.b.now in
    let long : length c.as_slice.result.now ≡ b.body.now.variables
    = ap length c.as_slice.ensures.value ∙ (c.note.ensures.1.1 ∙ (ap length c.in_ok-noted.ensures ∙ length-replicate b.body.now.variables set.empty)) in
    let l = b.fits in (
      first_of (search rules, grind (arith, common_steps), omega arith),
      (
        first_of (search rules, grind (arith, common_steps), omega arith),
        (
          first_of (search rules, grind (arith, common_steps), omega arith),
          (omega (arith, long, l), variables_within b (length c.as_slice.result.now) (omega (arith, long))),
        ),
      ),
    )

pub returns : goal.returns
returns g c =
    let b = c.args.b.now in
    let e = restored b.exp in
    let same : assign_noted (noted_in c.as_slice.result.now) e (arrived c.formals.result) ≡ table_of b.body.now.entry e
    = ap (λ s. assign_noted (noted_in s) e (arrived c.formals.result)) c.as_slice.ensures.value
    ∙ (ap (λ n. assign_noted (noted_in c.note.new.noted.items) e (arrived n)) c.formals.ensures
    ∙ table_made (code_of b) e refl (scope b) (numbering b) (ends b) c.new-none.result c.note.new.before c.in_ok-noted.noted.items c.note.new.noted.items c.new-none.ensures
    (ap length c.in_ok-noted.ensures ∙ length-replicate b.body.now.variables set.empty) c.note.ensures) in
    let all = (c.assign.ensures b.body.now.variables (arrived c.formals.result) c.in_ok-placing.ensures).shown (subst (λ u. slots u < 2 ^ 32) (sym same) (few_slots b)) in
    c.from_vec.ensures ∙ (all.places ∙ ap (in_order b.body.now.variables) same)
