use Rattle.std.proofs.Common.{rules, arith, length, ◌≡◌, ◌≤◌, ◌<◌, ◌+◌, ◌*◌, ◌∙◌, ap, refl}
use Rattle.std.proofs.lemmas.Grind.{common_steps}
use Rattle.std.specs.FinSet as set
use Rattle.sch_sets.proofs.Membership.{contains-empty}
use Rattle.sch_control.specs.Meaning.{no_region}
use Rattle.sch_homes.specs.Homes.{first_home, homes_end, slots_end}
use Rattle.sch_homes.specs.View.{entry_of, tree_of}
use Rattle.sch_homes.proofs.BodyLimits.{body_few, homes_low, places_few, slots_low}
use Rattle.sch_homes.proofs.SavedInReach.{apart_below}
use Rattle.sch_homes.proofs.TablePlan.{homes_by, room_is}
use Rattle.sch_homes.proofs.frame_room.room_for.Goals as goal

pub mark_saved-requires : goal.mark_saved-requires
mark_saved-requires g c =
    let b = c.args.b.now.restored.now in (
      first_of (search rules, grind (arith, common_steps), omega arith),
      (first_of (search rules, grind (arith, common_steps), omega arith), apart_below b.body.now.variables (64 * g.row.N) b.fits (tree_of c.args.b.now) no_region b.apart),
    )

pub slots_end-first-requires : goal.slots_end-first-requires
slots_end-first-requires g c =
    let p = c.args.b.now in
    let same : slots_end c.late_slots.result c.as_slice-places.result.now ≡ first_home (entry_of p) (tree_of p) p.places =
    ap (slots_end c.late_slots.result) c.as_slice-places.ensures ∙ ap (λ late. slots_end late p.places) c.late_slots.ensures in
    let low = slots_low p in
    omega (arith, same, low)

pub give_homes-requires : goal.give_homes-requires
give_homes-requires g c =
    let p = c.args.b.now in
    let same : c.slots_end-first.result ≡ first_home (entry_of p) (tree_of p) p.places =
    c.slots_end-first.ensures ∙ (ap (slots_end c.late_slots.result) c.as_slice-places.ensures ∙ ap (λ late. slots_end late p.places) c.late_slots.ensures) in
    let low = slots_low p in
    let few = places_few p in
    let many = ap length c.as_slice-places.ensures in
    let whole = p.whole in
    let fits = p.restored.now.fits in (
      first_of (search rules, grind (arith, common_steps), omega arith),
      (omega (arith, many, whole, fits), omega (arith, same, low, few, many)),
    )

pub calls_end-requires : goal.calls_end-requires
calls_end-requires g c =
    let p = c.args.b.now in
    let e = tree_of p in
    let test =
    homes_by (entry_of p) e p.places (set.contains c.mark_saved.new.saved) (set.contains c.new-saved.result) c.mark_saved.ensures
    (λ x. ap (λ s. set.contains s x) c.new-saved.ensures ∙ contains-empty x) in
    let ends : c.in_ok-homes.homes.end ≡ homes_end (entry_of p) e p.places =
    (room_is (entry_of p) e p.places _ _ _ _ _ (set.contains c.mark_saved.new.saved) _ c.as_slice-places.ensures c.late_slots.ensures c.slots_end-first.ensures
    test c.in_ok-homes.ensures.homes c.in_ok-homes.ensures.end refl).1.0 in
    let low = homes_low p in (first_of (search rules, grind (arith, common_steps), omega arith), (body_few p, omega (arith, ends, low)))

pub returns-clause-homes : goal.returns-clause-homes
returns-clause-homes g c =
    let p = c.args.b.now in
    let e = tree_of p in
    let test =
    homes_by (entry_of p) e p.places (set.contains c.mark_saved.new.saved) (set.contains c.new-saved.result) c.mark_saved.ensures
    (λ x. ap (λ s. set.contains s x) c.new-saved.ensures ∙ contains-empty x) in
    (room_is (entry_of p) e p.places _ _ _ _ _ (set.contains c.mark_saved.new.saved) _ c.as_slice-places.ensures c.late_slots.ensures c.slots_end-first.ensures
    test c.in_ok-homes.ensures.homes c.in_ok-homes.ensures.end c.in_ok-words.ensures).0

pub returns-clause-end : goal.returns-clause-end
returns-clause-end g c =
    let p = c.args.b.now in
    let e = tree_of p in
    let test =
    homes_by (entry_of p) e p.places (set.contains c.mark_saved.new.saved) (set.contains c.new-saved.result) c.mark_saved.ensures
    (λ x. ap (λ s. set.contains s x) c.new-saved.ensures ∙ contains-empty x) in
    (room_is (entry_of p) e p.places _ _ _ _ _ (set.contains c.mark_saved.new.saved) _ c.as_slice-places.ensures c.late_slots.ensures c.slots_end-first.ensures
    test c.in_ok-homes.ensures.homes c.in_ok-homes.ensures.end c.in_ok-words.ensures).1.0

pub returns-clause-words : goal.returns-clause-words
returns-clause-words g c =
    let p = c.args.b.now in
    let e = tree_of p in
    let test =
    homes_by (entry_of p) e p.places (set.contains c.mark_saved.new.saved) (set.contains c.new-saved.result) c.mark_saved.ensures
    (λ x. ap (λ s. set.contains s x) c.new-saved.ensures ∙ contains-empty x) in
    (room_is (entry_of p) e p.places _ _ _ _ _ (set.contains c.mark_saved.new.saved) _ c.as_slice-places.ensures c.late_slots.ensures c.slots_end-first.ensures
    test c.in_ok-homes.ensures.homes c.in_ok-homes.ensures.end c.in_ok-words.ensures).1.1
