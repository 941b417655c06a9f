-- The turns of the loops that make an order table.
use Rattle.std.proofs.Common.{◌≡◌, ℕ, suc, ◌+◌, ◌-◌, ◌<◌, ◌≤◌, Bool, true, false, List, [], ◌∷◌, ◌++◌, length, drop, get_or, refl, sym, ap, ◌∙◌, subst, arith, add-one, append_assoc, append-nil}
use Rattle.std.specs.Prelude.{nat_lt, ◌&&◌}
use Rattle.std.specs.List.{list_all}
use Rattle.std.proofs.lemmas.List.{drop_all, get_or_default}
use Rattle.sch_word.specs.trees.NumberSets.{has, unless, without_repeats}
use Rattle.sch_word.specs.trees.Bindings.{numbers}
use Rattle.sch_word.proofs.facts.Lists.{next_left}
use Rattle.sch_control.specs.Valid.{bound_parts}
use Rattle.sch_control.specs.OrderTable.{others, given_order, given_orders}
use Rattle.sch_word.proofs.facts.Booleans.{and_right}

pub unless_append : (b : Bool) (k : ℕ) (xs : List ℕ) → unless b k [] ++ xs ≡ unless b k xs
unless_append true k xs = refl
unless_append false k xs = refl

pub others_turn : (parts all all' whole : List ℕ) (k n : ℕ) → k < n → all' ≡ all ++ unless (has k parts) k [] → all ++ others parts (numbers k (n - k)) ≡ whole
    → all' ++ others parts (numbers (k + 1) (n - (k + 1))) ≡ whole
others_turn parts all all' whole k n l h e =
    let m : n - k ≡ suc (n - (k + 1)) = omega (arith, l) in
    let e' : all ++ others parts (numbers k (suc (n - (k + 1)))) ≡ whole = subst (λ j. all ++ others parts (numbers k j) ≡ whole) m e in
    let rest = others parts (numbers (k + 1) (n - (k + 1))) in
    rw h (append_assoc all (unless (has k parts) k []) rest ∙ ap (λ r. all ++ r) (unless_append (has k parts) k rest)
    ∙ ap (λ j. all ++ unless (has k parts) k (others parts (numbers j (n - (k + 1))))) (omega arith) ∙ e')

pub others_end : (parts all whole : List ℕ) (k n : ℕ) → n ≤ k → all ++ others parts (numbers k (n - k)) ≡ whole → all ≡ whole
others_end parts all whole k n l e =
    let m : n - k ≡ 0 = omega (arith, l) in
    sym (append-nil all) ∙ subst (λ j. all ++ others parts (numbers k j) ≡ whole) m e

pub orders_turn : (sites : List ℕ) (bound : List (List ℕ)) (i : ℕ) (parts order : List ℕ) (all all' whole : List (List ℕ)) → i < length sites → i < length bound → parts ≡ get_or bound i parts
    → order ≡ given_order (get_or sites i 0) parts → all' ≡ all ++ order ∷ []
    → all ++ given_orders (drop i sites) (drop i bound) ≡ whole → all' ++ given_orders (drop (i + 1) sites) (drop (i + 1) bound) ≡ whole
orders_turn sites bound i parts order all all' whole l m is o h k =
    let x = get_or sites i 0 in
    let s : drop i sites ≡ x ∷ drop (suc i) sites = next_left sites i x l (get_or_default sites i 0 x l) in
    let b : drop i bound ≡ parts ∷ drop (suc i) bound = next_left bound i parts m is in
    let k1 : all ++ given_orders (x ∷ drop (suc i) sites) (drop i bound) ≡ whole = subst (λ r. all ++ given_orders r (drop i bound) ≡ whole) s k in
    let k2 : all ++ given_orders (x ∷ drop (suc i) sites) (parts ∷ drop (suc i) bound) ≡ whole = subst (λ r. all ++ given_orders (x ∷ drop (suc i) sites) r ≡ whole) b k1 in
    rw (h, add-one, append_assoc all (order ∷ []) (given_orders (drop (suc i) sites) (drop (suc i) bound)), o) k2

pub orders_end : (sites : List ℕ) (bound : List (List ℕ)) (i : ℕ) (all whole : List (List ℕ)) → length sites ≤ i → all ++ given_orders (drop i sites) (drop i bound) ≡ whole → all ≡ whole
orders_end sites bound i all whole l k =
    let k' : all ++ [] ≡ whole = subst (λ r. all ++ given_orders r (drop i bound) ≡ whole) (drop_all i sites l) k in
    sym (append-nil all) ∙ k'

-- what is bound is listed for each site
pub as_many : (sites : List ℕ) (bound : List (List ℕ)) → bound_parts sites bound ≡ true → length sites ≡ length bound
as_many [] [] h = refl
as_many [] (parts ∷ bound) h = absurd (cc)
as_many (width ∷ sites) [] h = absurd (cc)
as_many (width ∷ sites) (parts ∷ bound) h =
    ap suc (as_many sites bound (and_right (without_repeats parts) (bound_parts sites bound) (and_right (list_all (λ k. nat_lt k width) parts) (without_repeats parts && bound_parts sites bound) h)))
