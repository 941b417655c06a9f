-- A procedure's closure and its arguments come into their places.
use Rattle.std.proofs.Common.{◌≡◌, ◌≢◌, ℕ, zero, suc, ◌+◌, ◌<◌, ◌≤◌, List, length, Option, Some, None, Bool, true, false, cond, refl, sym, ap, ◌∙◌, subst, arith, ◌⊎◌, inl, inr}
use Rattle.std.specs.Prelude.{nat_lt, slice_get}
use Rattle.std.proofs.lemmas.Bool.{cases_eq, le-ltb, lt-ltb, ltb-true, ltb-false}
use Rattle.std.proofs.lemmas.Option.{slice_get_within, none-some}
use Rattle.sch_word.specs.declared.place.Place.{Place}
use Rattle.sch_word.specs.values.Values.{Value}
use Rattle.sch_control.specs.declared.body.Entry.{Entry}
use Rattle.sch_control.specs.Meaning.{Result, Callee, entry_environment, nothing}
use Rattle.sch_control.specs.Run as control_run
use Rattle.sch_word.specs.runs.Procedures.{Procedure}
use Rattle.sch_word.specs.declared.mark.MarkKind.{MarkKind}
use Rattle.sch_word.specs.runs.Computation.{State}
use Rattle.sch_frames.specs.declared.instruction.Instruction.{Instruction}
use Rattle.sch_frames.specs.declared.instruction.Instruction.TheVariants.{Copy}
use Rattle.sch_frames.specs.Does.{EndsAs, world}
use Rattle.sch_frames.specs.Meaning.{Cell, Frame, set, with_place, cell_of, execute_each, entry_places, beginning}
use Rattle.sch_word.specs.values.Places.{same_place, link_place}
use Rattle.sch_control.specs.flow.Places.{formals_of, variable_arrival}
use Rattle.sch_frames.proofs.FramePlaces.{set_other, set_self}
use Rattle.sch_layout.specs.BodyLayout.{Plan, under, spill, arrivals, entering}
use Rattle.sch_layout.specs.SharedPlaces.{place_before, Arrives, entered_with}
use Rattle.sch_layout.proofs.does.PlacesAgree.{Agrees, meant, same_meant}
use Rattle.sch_layout.proofs.does.MovesDo.{under_does}
use Rattle.sch_word.proofs.facts.Places.{places_same}

module _ (plan : Plan) where
  stands_placed : (before x : ℕ) → x < before → place_before plan before x ≡ plan.place x
  stands_placed before x lt = ap (λ t. cond t (plan.place x) (variable_arrival x)) (lt-ltb x before lt)

  stands_arrived : (before x : ℕ) → before ≤ x → place_before plan before x ≡ variable_arrival x
  stands_arrived before x le = ap (λ t. cond t (plan.place x) (variable_arrival x)) (le-ltb x before le)

  -- bringing one into its place leaves the others where they stand
  stands_other : (y x : ℕ) → x ≢ y → place_before plan (suc y) x ≡ place_before plan y x
  stands_other y x n = by (nat_lt x y) refl where
    by : (t : Bool) → nat_lt x y ≡ t → place_before plan (suc y) x ≡ place_before plan y x
    by true i = let lt : x < y = ltb-true x y i in stands_placed (suc y) x (omega (arith, lt)) ∙ sym (stands_placed y x lt)
    by false i = let le : y ≤ x = ltb-false x y i in stands_arrived (suc y) x (omega (arith, le, n)) ∙ sym (stands_arrived y x le)

module _ (plan : Plan) (live : ℕ → Type 0) (count : ℕ) (come : Arrives plan live count) (self : Value) (arguments : List Value) where
  -- before one is brought into its place the live variables stand where they are said to
  abbrev Standing : (before : ℕ) → (Place → Cell) → Type 0
  Standing before places = (x : ℕ) (v : Value) → live x → x < count → entry_environment self arguments x ≡ Some v → places (place_before plan before x) ≡ meant x v

  arrives : (x : ℕ) (v : Value) → entry_environment self arguments x ≡ Some v → entry_places self arguments (variable_arrival x) ≡ meant x v
  arrives zero v e = refl
  arrives (suc zero) v e = same_meant 1 self v e
  arrives (suc (suc zero)) v e = ap cell_of e
  arrives (suc (suc (suc zero))) v e = ap cell_of e
  arrives (suc (suc (suc (suc zero)))) v e = ap cell_of e
  arrives (suc (suc (suc (suc (suc zero))))) v e = ap cell_of e
  arrives (suc (suc (suc (suc (suc (suc zero)))))) v e = ap cell_of e
  arrives (suc (suc (suc (suc (suc (suc (suc zero))))))) v e = ap cell_of e
  arrives (suc (suc (suc (suc (suc (suc (suc (suc j)))))))) v e = ap (λ n. cell_of (slice_get arguments n)) (handed j) ∙ ap cell_of e where
    handed : (j : ℕ) → 6 + j ≡ suc (suc (suc (suc (suc (suc j)))))
    handed j = omega arith

  first : plan.place 0 ≡ link_place → Standing 1 (entry_places self arguments)
  first link zero v l lt e = ap (entry_places self arguments) link ∙ arrives 0 v e
  first link (suc x) v l lt e = ap (entry_places self arguments) (stands_arrived plan 1 (suc x) (omega arith)) ∙ arrives (suc x) v e

  -- one that stays where it arrives
  stays : (y : ℕ) (places : Place → Cell) → same_place (plan.place y) (variable_arrival y) ≡ true → Standing y places → Standing (suc y) places
  stays y places s a x v l lt e = by (cases_eq x y) where
    by : (x ≡ y) ⊎ (x ≡ y → ⊥) → places (place_before plan (suc y) x) ≡ meant x v
    by (inl i) =
        ap places (stands_placed plan (suc y) x (omega (arith, i)) ∙ (ap plan.place i ∙ (places_same (plan.place y) (variable_arrival y) s ∙ (ap variable_arrival (sym i) ∙ sym (stands_arrived plan y x (omega (arith, i)))))))
        ∙ a x v l lt e
    by (inr n) = ap places (stands_other plan y x n) ∙ a x v l lt e

  -- one that is brought into its place
  comes : (y : ℕ) (places : Place → Cell) → y < count → same_place (plan.place y) (variable_arrival y) ≡ false → Standing y places → Standing (suc y) (set places (plan.place y) (places (variable_arrival y)))
  comes y places few s a x v l lt e = by (cases_eq x y) where
    by : (x ≡ y) ⊎ (x ≡ y → ⊥) → set places (plan.place y) (places (variable_arrival y)) (place_before plan (suc y) x) ≡ meant x v
    by (inl i) =
        ap (set places (plan.place y) (places (variable_arrival y))) (stands_placed plan (suc y) x (omega (arith, i)) ∙ ap plan.place i)
        ∙ (set_self places (plan.place y) (places (variable_arrival y)) ∙ (ap places (ap variable_arrival (sym i) ∙ sym (stands_arrived plan y x (omega (arith, i)))) ∙ a x v l lt e))
    by (inr n) =
        ap (set places (plan.place y) (places (variable_arrival y))) (stands_other plan y x n)
        ∙ (set_other places (plan.place y) (place_before plan y x) (places (variable_arrival y)) (come y few s x lt l n) ∙ a x v l lt e)

  module _ (callee : Callee) (depth : ℕ) where
    arrive : (left from : ℕ) (rest : List Instruction) (f : Frame) (s : State Procedure) (r : Result) → from + left ≡ count → Standing from f.places
        → ((f : Frame) (marks : List MarkKind) → Standing count f.places → EndsAs r (execute_each callee depth rest None f (world s marks)))
        → (marks : List MarkKind) → EndsAs r (execute_each callee depth (arrivals plan from left rest) None f (world s marks))
    arrive zero from rest f s r e a go marks = go f marks (subst (λ n. Standing n f.places) (omega (arith, e)) a)
    arrive (suc left) from rest f s r e a go marks =
        by (same_place (plan.place from) (variable_arrival from)) refl (λ f a marks. arrive left (suc from) rest f s r (omega (arith, e)) a go marks) where
          by : (t : Bool) → same_place (plan.place from) (variable_arrival from) ≡ t
              → ((f : Frame) → Standing (suc from) f.places → (marks : List MarkKind) → EndsAs r (execute_each callee depth (arrivals plan (suc from) left rest) None f (world s marks)))
              → EndsAs r (execute_each callee depth (cond t (arrivals plan (suc from) left rest) (under (spill plan from) (Copy (plan.place from) (variable_arrival from)) (arrivals plan (suc from) left rest))) None f (world s marks))
          by true i more = more f (stays from f.places i a) marks
          by false i more =
              under_does plan.limit callee depth s (spill plan from) (Copy (plan.place from) (variable_arrival from)) _ f r
              (λ marks. more (with_place f (plan.place from) (f.places (variable_arrival from))) (comes from f.places (omega (arith, e)) i a) marks) marks

  agrees : (e : Entry) → count ≡ 2 + e.formals → length arguments ≡ e.formals → (places : Place → Cell) → Standing count places
      → {kept : ℕ → Type 0} → Agrees plan live kept (control_run.beginning (Some e) self arguments) nothing places
  agrees e c l places a {kept} = record { here = λ x v lx h. here x v lx h (few x v h); home = λ x v s k h. absurd (none-some v h) } where
    few : (x : ℕ) (v : Value) → entry_environment self arguments x ≡ Some v → x < count
    few zero v h = omega (arith, c)
    few (suc zero) v h = omega (arith, c)
    few (suc (suc k)) v h = let i : k < length arguments = slice_get_within arguments k v h in omega (arith, c, l, i)

    here : (x : ℕ) (v : Value) → live x → entry_environment self arguments x ≡ Some v → x < count → places (plan.place x) ≡ meant x v
    here x v lx h lt = ap places (sym (stands_placed plan count x lt)) ∙ a x v lx lt h

-- What is done behind the entering code is done from the values of the live variables in their places.
pub enters : (plan : Plan) (live kept : ℕ → Type 0) → plan.place 0 ≡ link_place → (entry : Option Entry) → Arrives plan live (entered_with entry)
    → (self : Value) (arguments : List Value) → length arguments ≡ formals_of entry → (callee : Callee) (depth : ℕ) (rest : List Instruction) (s : State Procedure) (r : Result)
    → ((f : Frame) (marks : List MarkKind) → Agrees plan live kept (control_run.beginning entry self arguments) nothing f.places → EndsAs r (execute_each callee depth rest None f (world s marks)))
    → (marks : List MarkKind) → EndsAs r (execute_each callee depth (entering plan entry rest) None (beginning entry self arguments) (world s marks))
enters plan live kept link None come self arguments l callee depth rest s r go marks =
    go (beginning None self arguments) marks (record { here = λ x v lx h. absurd (none-some v h); home = λ x v s k h. absurd (none-some v h) })
enters plan live kept link (Some e) come self arguments l callee depth rest s r go marks =
    arrive plan live (2 + e.formals) come self arguments callee depth (suc e.formals) 1 rest _ s r (omega arith) (first plan live (2 + e.formals) come self arguments link)
    (λ f marks a. go f marks (agrees plan live (2 + e.formals) come self arguments e refl l f.places a)) marks
