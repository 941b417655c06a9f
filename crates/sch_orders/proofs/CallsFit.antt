-- The calls of trees stand at sites of their widths.
use Rattle.std.proofs.Common.{◌≡◌, ℕ, suc, Bool, true, false, List, [], ◌∷◌, ◌++◌, length, refl, sym, ap, ◌∙◌, subst}
use Rattle.std.specs.Prelude.{nat_eq, ◌&&◌, slice_get}
use Rattle.std.specs.List.{count_by, flat_map, list_all}
use Rattle.std.proofs.lemmas.List.Folds.{list_all-append}
use Rattle.sch_word.specs.runs.Orders.{is_permutation}
use Rattle.sch_word.specs.trees.Shape.{is_width}
use Rattle.sch_word.proofs.facts.Booleans.{and_of, and_parts}
use Rattle.sch_control.specs.declared.operation.Application.{Application}
use Rattle.sch_control.specs.AtomsAndSites.{operands_sites}
use Rattle.sch_control.specs.flow.Bare.{erased}
use Rattle.sch_control.specs.Tree.{Code, Expression, perform, bind, sequence, branch, fix, call, tail_call, return, end, save, Source}
use Rattle.sch_control.specs.Valid.{sites_of, sites_of_each, sites_once}
use Rattle.sch_control.proofs.NumberRows.{permutation_length}
use Rattle.sch_orders.specs.declared.listed_call.ListedCall.{ListedCall}
use Rattle.sch_orders.specs.ListedCalls.{listed_calls}
use Rattle.sch_orders.specs.ListedTable.{call_fits, calls_fit}

-- what calls save and restore has no sites
pub sites_erased : (e : Expression) → sites_of (erased e) ≡ sites_of e
sites_erased (perform o) = refl
sites_erased (bind x a b) = rw (sites_erased a, sites_erased b) refl
sites_erased (sequence a b) = rw (sites_erased a, sites_erased b) refl
sites_erased (branch a b c) = rw (sites_erased a, sites_erased b, sites_erased c) refl
sites_erased (fix members e) = sites_erased e
sites_erased (call a restores) = refl
sites_erased (tail_call a) = refl
sites_erased (return e) = sites_erased e
sites_erased (end e) = sites_erased e
sites_erased (save saves e) = sites_erased e

-- the first and the second of two lists pass
both : {X : Type 0} (f : X → Bool) (xs ys : List X) → list_all f (xs ++ ys) ≡ true → (list_all f xs ≡ true) × (list_all f ys ≡ true)
both f xs ys h = and_parts (list_all f xs) (list_all f ys) (sym (list_all-append f xs ys) ∙ h)

joined : {X : Type 0} (f : X → Bool) (xs ys : List X) → list_all f xs ≡ true → list_all f ys ≡ true → list_all f (xs ++ ys) ≡ true
joined f xs ys h k = list_all-append f xs ys ∙ and_of (list_all f xs) (list_all f ys) h k

module _ (sites : List ℕ) where
  -- a site that is listed with its width
  abbrev pub at_width : ℕ × ℕ → Bool
  at_width at = is_width (slice_get sites at.0) at.1

  module _ (listed : (tail : Bool) → Application ℕ → ListedCall) (stands : (tail : Bool) (a : Application ℕ) → (listed tail a).site ≡ a.site)
      (once : (tail : Bool) (a : Application ℕ) → is_permutation (suc (length a.operands)) (listed tail a).order ≡ true) where
    one_fits : (tail : Bool) (a : Application ℕ) → list_all at_width ((a.site, suc (length a.operands)) ∷ operands_sites (a.operator ∷ a.operands)) ≡ true
        → list_all (call_fits sites) (listed tail a ∷ []) ≡ true
    one_fits tail a h =
        let c : ListedCall = listed tail a in
        let long : length c.order ≡ suc (length a.operands) = permutation_length (suc (length a.operands)) c.order (once tail a) in
        let wide : is_width (slice_get sites c.site) (length c.order) ≡ true =
        ap (λ s. is_width (slice_get sites s) (length c.order)) (stands tail a) ∙ (ap (is_width (slice_get sites a.site)) long
        ∙ (and_parts (at_width (a.site, suc (length a.operands))) (list_all at_width (operands_sites (a.operator ∷ a.operands))) h).0) in
        and_of (call_fits sites c) true
        (and_of (is_width (slice_get sites c.site) (length c.order)) (is_permutation (length c.order) c.order) wide
        (subst (λ n. is_permutation n c.order ≡ true) (sym long) (once tail a))) refl

    pub tree_fits : (e : Expression) → list_all at_width (sites_of e) ≡ true → list_all (call_fits sites) (listed_calls listed e) ≡ true
    tree_fits (perform o) h = refl
    tree_fits (bind x a b) h =
        let p = both at_width (sites_of a) (sites_of b) h in joined (call_fits sites) (listed_calls listed a) (listed_calls listed b) (tree_fits a p.0) (tree_fits b p.1)
    tree_fits (sequence a b) h =
        let p = both at_width (sites_of a) (sites_of b) h in joined (call_fits sites) (listed_calls listed a) (listed_calls listed b) (tree_fits a p.0) (tree_fits b p.1)
    tree_fits (branch a b c) h =
        let p = both at_width (sites_of a) (sites_of b ++ sites_of c) h in
        let q = both at_width (sites_of b) (sites_of c) p.1 in
        joined (call_fits sites) (listed_calls listed a) (listed_calls listed b ++ listed_calls listed c) (tree_fits a p.0)
        (joined (call_fits sites) (listed_calls listed b) (listed_calls listed c) (tree_fits b q.0) (tree_fits c q.1))
    tree_fits (fix members e) h = tree_fits e h
    tree_fits (call a restores) h = one_fits false a h
    tree_fits (tail_call a) h = one_fits true a h
    tree_fits (return e) h = tree_fits e h
    tree_fits (end e) h = tree_fits e h
    tree_fits (save saves e) h = tree_fits e h

  -- calls of some bodies, of each what it has
  codes_fit : (calls : Code → List ListedCall) → ((c : Code) → list_all at_width (sites_of c.expression) ≡ true → list_all (call_fits sites) (calls c) ≡ true)
      → (cs : List Code) → list_all at_width (sites_of_each cs) ≡ true → list_all (call_fits sites) (flat_map calls cs) ≡ true
  codes_fit calls each [] h = refl
  codes_fit calls each (c ∷ cs) h =
      let p = both at_width (sites_of c.expression) (sites_of_each cs) h in
      joined (call_fits sites) (calls c) (flat_map calls cs) (each c p.0) (codes_fit calls each cs p.1)

all_second : {X : Type 0} (f g : X → Bool) (xs : List X) → list_all (λ x. f x && g x) xs ≡ true → list_all g xs ≡ true
all_second f g [] h = refl
all_second f g (x ∷ xs) h =
    let p = and_parts (f x && g x) (list_all (λ x. f x && g x) xs) h in
    and_of (g x) (list_all g xs) (and_parts (f x) (g x) p.0).1 (all_second f g xs p.1)

-- calls of the bodies of a program, each of whose sites stands once
pub program_calls_fit : (p : Source) (calls : Code → List ListedCall)
    → ((sites : List ℕ) (c : Code) → list_all (at_width sites) (sites_of c.expression) ≡ true → list_all (call_fits sites) (calls c) ≡ true)
    → sites_once p ≡ true → calls_fit p (flat_map calls p.bodies) ≡ true
program_calls_fit p calls each once =
    codes_fit p.sites calls (each p.sites) p.bodies
    (all_second (λ at. nat_eq (count_by (λ other. nat_eq other.0 at.0) (sites_of_each p.bodies)) 1) (at_width p.sites) (sites_of_each p.bodies) once)
