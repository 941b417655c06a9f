-- What is listed of the empty set.
use Rattle.std.proofs.Common.{◌≡◌, ℕ, true, false, List, [], ◌∷◌, refl, sym, ◌∙◌}
use Rattle.std.specs.FinSet as set
use Rattle.std.specs.Ordering.{nat_cmp}
use Rattle.sch_sets.proofs.Membership.{contains-empty}
use Rattle.sch_word.specs.trees.NumberSets.{has}
use Rattle.sch_word.proofs.facts.Booleans.{not_left}
use Rattle.sch_word.proofs.facts.NumberTests.{same}
use Rattle.sch_control.proofs.NumberLists.{has_items}

none_listed : (ks : List ℕ) → ((x : ℕ) → has x ks ≡ false) → ks ≡ []
none_listed [] h = refl
none_listed (k ∷ ks) h =
    let e : true ≡ false = sym (same k) ∙ not_left _ (has k ks) (h k) in
    absurd (cc)

pub items_empty : set.items (set.empty {R = nat_cmp}) ≡ []
items_empty = none_listed (set.items set.empty) (λ x. sym (has_items set.empty x) ∙ contains-empty x)
