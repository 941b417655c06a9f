-- Each slot in which a variable lives is below the number of variables that live in slots.
use Rattle.std.proofs.Common.{◌≡◌, ℕ, zero, suc, ◌<◌, true, List, [], ◌∷◌, length, Some, sym, ap, ◌∙◌, subst, arith}
use Rattle.std.specs.Prelude.{slice_get}
use Rattle.sch_word.specs.declared.place.Place.{Place}
use Rattle.sch_word.specs.declared.place.Place.TheVariants.{Slot}
use Rattle.sch_control.specs.Tree.{Code, Expression}
use Rattle.sch_control.specs.Valid.{ended, in_scope_whole, numbered}
use Rattle.sch_control.specs.flow.Bare.{erased}
use Rattle.sch_control.specs.flow.Places.{formals_of, place_of}
use Rattle.sch_homes.specs.Laws.{AreDense}
use Rattle.sch_regs.specs.PlaceChoice.{arrived, nothing_behind, place_in, places, slots, table_of}
use Rattle.sch_regs.proofs.OneChoice.{Below, slot_of}
use Rattle.sch_regs.proofs.WellBound.{assign_below}
use Rattle.sch_regs.proofs.WholeBodies.{first_slots, place_at, slots_same}
use Rattle.sch_word.proofs.facts.NumberSets.{numbers_mapped}

-- a place that is listed under a number is that of the variable
pub listed_place : (places : List Place) (x : ℕ) (p : Place) → slice_get places x ≡ Some p → (x < length places) × (place_of places x ≡ p)
listed_place [] x p h = absurd (cc)
listed_place (q ∷ places) zero p h = (omega arith, cc)
listed_place (q ∷ places) (suc x) p h = let rest = listed_place places x p h in let lt = rest.0 in (omega (arith, lt), rest.1)

pub dense : (c : Code) (e : Expression) → erased e ≡ c.expression → in_scope_whole c ≡ true → numbered c ≡ true → ended c ≡ true → AreDense (places c.entry c.variables e)
dense c e is i n d x j h =
    let at = listed_place (places c.entry c.variables e) x (Slot j) h in
    let there = at.0 in
    let whole = numbers_mapped (place_in (table_of c.entry e)) 0 c.variables in
    let lt : x < c.variables = omega (arith, there, whole) in
    let same : place_in (table_of c.entry e) x ≡ Slot j =
    ap (place_in (table_of c.entry e)) (omega arith) ∙ (sym (place_at (place_in (table_of c.entry e)) 0 c.variables x lt) ∙ at.1) in
    subst (λ m. j < m) (sym (slots_same c e is i n d))
    (subst (Below (slots (table_of c.entry e))) same
    (slot_of (slots (table_of c.entry e)) (table_of c.entry e) (assign_below e nothing_behind (arrived (formals_of c.entry)) (first_slots (formals_of c.entry))) x))
