-- A variable other than the return address and the closure has one of the argument_registers registers or a slot.
use Rattle.std.proofs.Common.{◌≡◌, ℕ, zero, suc, ◌<◌, ◌≤◌, Bool, true, false, List, [], ◌∷◌, refl, subst, arith}
use Rattle.std.specs.Prelude.{nat_eq, cond}
use Rattle.std.proofs.lemmas.Bool.{eqb-true, eq-eqb}
use Rattle.std.proofs.lemmas.Bool.Decides.{nat_tests}
use Rattle.sch_regs.proofs.OneChoice.{Below}
use Rattle.sch_word.specs.trees.NumberSets.{has}
use Rattle.sch_word.specs.declared.place.Place.{Place}
use Rattle.sch_word.specs.declared.place.Place.TheVariants.{Reg, Slot}
use Rattle.sch_word.proofs.facts.Booleans.{or_left, or_right}
use Rattle.sch_control.specs.Tree.{Expression, perform, bind, sequence, branch, fix, call, tail_call, return, end, save}
use Rattle.sch_control.specs.Valid.{member_variables}
use Rattle.sch_control.specs.flow.LiveTests.{is_live, Behind}
use Rattle.sch_word.specs.values.Registers.{argument_registers}
use Rattle.sch_control.specs.flow.Places.{arrival, is_usual}
use Rattle.sch_regs.specs.PlaceChoice.{Table, place_in, held, first_free, choose, choose_each, live_first, around, assign, arrived}

-- one of the six registers, or any slot
abbrev pub proper : Place → Bool
proper (Reg r) = has r argument_registers
proper (Slot k) = true

abbrev pub Proper : Table → Type 0
Proper [] = Unit {0}
Proper (w ∷ t) = (1 < w.0 → proper w.1 ≡ true) × Proper t

pub proper_of : (t : Table) → Proper t → (x : ℕ) → 1 < x → proper (place_in t x) ≡ true
proper_of [] p x l = refl
proper_of (w ∷ t) p x l = by (nat_eq x w.0) refl (proper_of t p.1 x l) where
  by : (b : Bool) → nat_eq x w.0 ≡ b → proper (place_in t x) ≡ true → proper (cond b w.1 (place_in t x)) ≡ true
  by true e h = p.0 (subst (λ z. 1 < z) (eqb-true x w.0 e) l)
  by false e h = h

proper_free : (live : ℕ → Bool) (t : Table) (rs : List ℕ) → ((r : ℕ) → has r rs ≡ true → has r argument_registers ≡ true) → proper (first_free live t rs) ≡ true
proper_free live t [] f = refl
proper_free live t (r ∷ rs) f = by (held live t r) (proper_free live t rs (λ z h. f z (or_right (nat_eq z r) _ h))) where
  by : (b : Bool) → proper (first_free live t rs) ≡ true → proper (cond b (first_free live t rs) (Reg r)) ≡ true
  by true h = h
  by false h = f r (or_left (nat_eq r r) (has r rs) (eq-eqb r r refl))

choose_proper : (live : ℕ → Bool) (y : ℕ) (t : Table) → Proper t → Proper (choose live y t)
choose_proper live y t p = ((λ l. proper_free live t argument_registers (λ r h. h)), p)

each_proper : (live : ℕ → Bool) (ys : List ℕ) (t : Table) → Proper t → Proper (choose_each live ys t)
each_proper live [] t p = p
each_proper live (y ∷ ys) t p = each_proper live ys (choose live y t) (choose_proper live y t p)

pub assign_proper : (e : Expression) (l : Behind) (t : Table) → Proper t → Proper (assign e l t)
assign_proper (perform o) l t s = s
assign_proper (bind y a b) l t s = assign_proper b l _ (choose_proper (λ x. is_live x b (l x)) y _ (assign_proper a _ t s))
assign_proper (sequence a b) l t s = assign_proper b l _ (assign_proper a _ t s)
assign_proper (branch a b c) l t s = assign_proper c l _ (assign_proper b l _ (assign_proper a _ t s))
assign_proper (fix members e) l t s =
    let live : ℕ → Bool = around members (λ x. is_live x e (l x)) in assign_proper e l _ (each_proper live (live_first live (member_variables members)) t s)
assign_proper (call a restores) l t s = s
assign_proper (tail_call a) l t s = s
assign_proper (return e) l t s = assign_proper e _ t s
assign_proper (end e) l t s = assign_proper e _ t s
assign_proper (save saves e) l t s = assign_proper e l t s

arrival_proper : (k : ℕ) → proper (arrival k) ≡ true
arrival_proper zero = refl
arrival_proper (suc zero) = refl
arrival_proper (suc (suc zero)) = refl
arrival_proper (suc (suc (suc zero))) = refl
arrival_proper (suc (suc (suc (suc zero)))) = refl
arrival_proper (suc (suc (suc (suc (suc zero))))) = refl
arrival_proper (suc (suc (suc (suc (suc (suc k)))))) = refl

pub first_proper : (n : ℕ) → Proper (arrived n)
first_proper zero = ((λ l. absurd (omega (arith, l))), ((λ l. absurd (omega (arith, l))), tt))
first_proper (suc n) = ((λ l. arrival_proper n), first_proper n)

-- with a bound on slots it is a place that the type of a body with places allows
pub usual_of : (m n : ℕ) (p : Place) → proper p ≡ true → Below m p → m ≤ n → is_usual n p ≡ true
usual_of m n (Reg r) h b l = h
usual_of m n (Slot k) h b l = grind (arith, nat_tests, b, l)
