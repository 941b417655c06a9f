-- The turns of the loops that make the order table.
use Rattle.std.proofs.Common.{◌≡◌, ℕ, suc, ◌+◌, ◌<◌, ◌≤◌, List, [], ◌∷◌, ◌++◌, length, drop, get_or, sym, ap, ◌∙◌, subst, add-one, append_assoc, append-nil}
use Rattle.std.proofs.lemmas.List.{drop_all, get_or_default}
use Rattle.sch_word.specs.trees.NumberSets.{has, unless}
use Rattle.sch_word.proofs.facts.Lists.{next_left}
use Rattle.sch_control.specs.OrderTable.{others}
use Rattle.sch_control.proofs.OrderLists.{unless_append}
use Rattle.sch_orders.specs.declared.listed_call.ListedCall.{ListedCall}
use Rattle.sch_orders.specs.ListedTable.{with_call, with_calls}

pub evaluated_turn : (bound order all all' whole : List ℕ) (i : ℕ) → i < length order → all' ≡ all ++ unless (has (get_or order i 0) bound) (get_or order i 0) []
    → all ++ others bound (drop i order) ≡ whole → all' ++ others bound (drop (i + 1) order) ≡ whole
evaluated_turn bound order all all' whole i l h e =
    let k : ℕ = get_or order i 0 in
    let rest : List ℕ = others bound (drop (suc i) order) in
    let next : drop i order ≡ k ∷ drop (suc i) order = next_left order i k l (get_or_default order i 0 k l) in
    let e' : all ++ unless (has k bound) k rest ≡ whole = subst (λ ks. all ++ others bound ks ≡ whole) next e in
    rw (h, add-one) (append_assoc all (unless (has k bound) k []) rest ∙ (ap (λ r. all ++ r) (unless_append (has k bound) k rest) ∙ e'))

pub evaluated_end : (bound order all whole : List ℕ) (i : ℕ) → length order ≤ i → all ++ others bound (drop i order) ≡ whole → all ≡ whole
evaluated_end bound order all whole i l e = sym (append-nil all) ∙ subst (λ ks. all ++ others bound ks ≡ whole) (drop_all i order l) e

pub table_turn : (bound table table' whole : List (List ℕ)) (calls : List ListedCall) (i : ℕ) (c : ListedCall) → i < length calls → c ≡ get_or calls i c
    → table' ≡ with_call bound table c → with_calls bound table (drop i calls) ≡ whole → with_calls bound table' (drop (i + 1) calls) ≡ whole
table_turn bound table table' whole calls i c l is h e =
    let e' : with_calls bound table (c ∷ drop (suc i) calls) ≡ whole = subst (λ cs. with_calls bound table cs ≡ whole) (next_left calls i c l is) e in
    rw (h, add-one) e'

pub table_end : (bound table whole : List (List ℕ)) (calls : List ListedCall) (i : ℕ) → length calls ≤ i → with_calls bound table (drop i calls) ≡ whole → table ≡ whole
table_end bound table whole calls i l e = subst (λ cs. with_calls bound table cs ≡ whole) (drop_all i calls l) e
