-- The return address is live after each call of a procedure.
use Rattle.std.proofs.Common.{◌≡◌, ℕ, Bool, true, false, refl, sym, ◌∙◌, inl, inr}
use Rattle.std.specs.Prelude.{nat_eq}
use Rattle.std.specs.Bool.{MatchBool}
use Rattle.std.proofs.lemmas.Bool.{eqb-false}
use Rattle.sch_word.proofs.facts.Booleans.{and_left, and_right, not_left, not_right}
use Rattle.sch_control.specs.Meaning.{binds, no_region}
use Rattle.sch_control.specs.Tree.{Expression, perform, bind, sequence, branch, fix, call, tail_call, return, end, save}
use Rattle.sch_control.specs.Valid.{Position, value, no_call, procedure_end, form_end, is_value, positioned}
use Rattle.sch_control.specs.flow.Live.{Across, Live}
use Rattle.sch_control.proofs.VariableLists.{among_is}
use Rattle.sch_paths.specs.Exact.{LiveAfterCalls}
use Rattle.sch_paths.proofs.saves.LiveHeads.{through}
use Rattle.sch_paths.proofs.paths.MeetsByCases.{has_path}

-- what is live behind an expression whatever its value is live before it
past : (x : ℕ) (e : Expression) (at : Position) → positioned e at ≡ true → is_value at ≡ true → binds x e ≡ false → (K : Bool → Type 0) → ((t : Bool) → K t) → Live x e K
past x e at p v n K k = let path = has_path no_region e in through x no_region e at p v n path.1 path.0 path.2 K (k path.0)

chosen : (t : Bool) {A B : Type 0} → A → B → MatchBool t A B
chosen true a b = a
chosen false a b = b

pub returns_live : (e : Expression) → positioned e procedure_end ≡ true → binds 0 e ≡ false → (L : Bool → Type 0) → Live 0 e L
returns_live (perform o) p n L = absurd (cc)
returns_live (bind y a b) p n L =
    let rest = not_right (nat_eq 0 y) _ n in
    past 0 a value (and_left (positioned a value) _ p) refl (not_left (binds 0 a) _ rest) (λ t. Across y 0 (Live 0 b L))
    (λ t. (eqb-false 0 y (not_left (nat_eq 0 y) _ n), returns_live b (and_right (positioned a value) _ p) (not_right (binds 0 a) _ rest) L))
returns_live (sequence a b) p n L =
    past 0 a no_call (and_left (positioned a no_call) _ p) refl (not_left (binds 0 a) _ n) (λ t. Live 0 b L)
    (λ t. returns_live b (and_right (positioned a no_call) _ p) (not_right (binds 0 a) _ n) L)
returns_live (branch a b c) p n L =
    let arms = and_right (positioned a value) _ p in
    let rest = not_right (binds 0 a) _ n in
    past 0 a value (and_left (positioned a value) _ p) refl (not_left (binds 0 a) _ n) (λ t. MatchBool t (Live 0 b L) (Live 0 c L))
    (λ t. chosen t (returns_live b (and_left (positioned b procedure_end) _ arms) (not_left (binds 0 b) _ rest) L)
    (returns_live c (and_right (positioned b procedure_end) _ arms) (not_right (binds 0 b) _ rest) L))
returns_live (fix members e) p n L = (sym (among_is 0 members) ∙ not_left _ _ n, inr (returns_live e p (not_right _ _ n) L))
returns_live (call a listed) p n L = absurd (cc)
returns_live (tail_call a) p n L = inl refl
returns_live (return e) p n L = past 0 e no_call p refl n (λ t. 0 ≡ 0) (λ t. refl)
returns_live (end e) p n L = absurd (cc)
returns_live (save saves e) p n L = returns_live e p n L

-- in an expression whose value is wanted
inner_calls : (e : Expression) (at : Position) → positioned e at ≡ true → is_value at ≡ true → binds 0 e ≡ false → (L : Bool → Type 0) → ((t : Bool) → L t) → LiveAfterCalls 0 e L
inner_calls (perform o) at p v n L l = tt
inner_calls (bind y a b) at p v n L l =
    let rest = not_right (nat_eq 0 y) _ n in
    let in_b = and_right (positioned a value) _ p in (
      inner_calls a value (and_left (positioned a value) _ p) refl (not_left (binds 0 a) _ rest) (λ t. Across y 0 (Live 0 b L))
          (λ t. (eqb-false 0 y (not_left (nat_eq 0 y) _ n), past 0 b at in_b v (not_right (binds 0 a) _ rest) L l)),
      inner_calls b at in_b v (not_right (binds 0 a) _ rest) L l,
    )
inner_calls (sequence a b) at p v n L l =
    let in_b = and_right (positioned a no_call) _ p in (
      inner_calls a no_call (and_left (positioned a no_call) _ p) refl (not_left (binds 0 a) _ n) (λ t. Live 0 b L) (λ t. past 0 b at in_b v (not_right (binds 0 a) _ n) L l),
      inner_calls b at in_b v (not_right (binds 0 a) _ n) L l,
    )
inner_calls (branch a b c) at p v n L l =
    let arms = and_right (positioned a value) _ p in
    let rest = not_right (binds 0 a) _ n in (
      inner_calls a value (and_left (positioned a value) _ p) refl (not_left (binds 0 a) _ n) (λ t. MatchBool t (Live 0 b L) (Live 0 c L))
          (λ t. chosen t (past 0 b at (and_left (positioned b at) _ arms) v (not_left (binds 0 b) _ rest) L l) (past 0 c at (and_right (positioned b at) _ arms) v (not_right (binds 0 b) _ rest) L l)),
      (inner_calls b at (and_left (positioned b at) _ arms) v (not_left (binds 0 b) _ rest) L l, inner_calls c at (and_right (positioned b at) _ arms) v (not_right (binds 0 b) _ rest) L l),
    )
inner_calls (fix members e) at p v n L l = inner_calls e at p v (not_right _ _ n) L l
inner_calls (call a listed) at p v n L l = inl (l true)
inner_calls (tail_call a) at p v n L l = tt
inner_calls (return e) value p v n L l = absurd (cc)
inner_calls (return e) no_call p v n L l = absurd (cc)
inner_calls (return e) procedure_end p v n L l = absurd (cc)
inner_calls (return e) form_end p v n L l = absurd (cc)
inner_calls (end e) value p v n L l = absurd (cc)
inner_calls (end e) no_call p v n L l = absurd (cc)
inner_calls (end e) procedure_end p v n L l = absurd (cc)
inner_calls (end e) form_end p v n L l = absurd (cc)
inner_calls (save saves e) at p v n L l = inner_calls e at p v n L l

pub return_address : (e : Expression) → positioned e procedure_end ≡ true → binds 0 e ≡ false → (L : Bool → Type 0) → LiveAfterCalls 0 e L
return_address (perform o) p n L = tt
return_address (bind y a b) p n L =
    let rest = not_right (nat_eq 0 y) _ n in
    let in_b = and_right (positioned a value) _ p in (
      inner_calls a value (and_left (positioned a value) _ p) refl (not_left (binds 0 a) _ rest) (λ t. Across y 0 (Live 0 b L))
          (λ t. (eqb-false 0 y (not_left (nat_eq 0 y) _ n), returns_live b in_b (not_right (binds 0 a) _ rest) L)),
      return_address b in_b (not_right (binds 0 a) _ rest) L,
    )
return_address (sequence a b) p n L =
    let in_b = and_right (positioned a no_call) _ p in (
      inner_calls a no_call (and_left (positioned a no_call) _ p) refl (not_left (binds 0 a) _ n) (λ t. Live 0 b L) (λ t. returns_live b in_b (not_right (binds 0 a) _ n) L),
      return_address b in_b (not_right (binds 0 a) _ n) L,
    )
return_address (branch a b c) p n L =
    let arms = and_right (positioned a value) _ p in
    let rest = not_right (binds 0 a) _ n in
    let in_b = and_left (positioned b procedure_end) _ arms in
    let in_c = and_right (positioned b procedure_end) _ arms in (
      inner_calls a value (and_left (positioned a value) _ p) refl (not_left (binds 0 a) _ n) (λ t. MatchBool t (Live 0 b L) (Live 0 c L))
          (λ t. chosen t (returns_live b in_b (not_left (binds 0 b) _ rest) L) (returns_live c in_c (not_right (binds 0 b) _ rest) L)),
      (return_address b in_b (not_left (binds 0 b) _ rest) L, return_address c in_c (not_right (binds 0 b) _ rest) L),
    )
return_address (fix members e) p n L = return_address e p (not_right _ _ n) L
return_address (call a listed) p n L = absurd (cc)
return_address (tail_call a) p n L = tt
return_address (return e) p n L = inner_calls e no_call p refl n (λ t. 0 ≡ 0) (λ t. refl)
return_address (end e) p n L = absurd (cc)
return_address (save saves e) p n L = return_address e p n L
