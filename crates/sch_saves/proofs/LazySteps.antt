-- The steps that make the tree of a body with lazy regions.
use Rattle.std.proofs.Common.{◌≡◌, ℕ, ◌≤◌, List, ap, sym, ◌∙◌, subst}
use Rattle.std.specs.Prelude.{◌||◌, not, filter}
use Rattle.std.specs.FinSet as set
use Rattle.std.proofs.Math.Path.{fun_ext}
use Rattle.sch_sets.specs.Members.{NumberSet}
use Rattle.sch_sets.proofs.Membership.{contains-empty}
use Rattle.sch_word.specs.trees.NumberSets.{has}
use Rattle.sch_control.specs.Meaning.{no_region}
use Rattle.sch_control.specs.Tree.{Expression, save}
use Rattle.sch_control.specs.flow.Regions.{SavesBelow}
use Rattle.sch_saves.specs.LazyRegions.{needed, round, with_needs, outermost, lazily_saved}
use Rattle.sch_saves.proofs.LazyTrees.{marked_below}

pub save_made : (saves kept : List ℕ) (inside within : NumberSet) (e r x : Expression) → kept ≡ filter (λ y. not (set.contains inside y)) saves
    → ((y : ℕ) → set.contains within y ≡ (has y saves || set.contains inside y)) → r ≡ outermost (λ y. set.contains within y) e
    → x ≡ round kept r → x ≡ outermost (λ y. set.contains inside y) (save saves e)
save_made saves kept inside within e r x k w made h =
    h ∙ (ap (λ z. round z r) k ∙ ap (round (filter (λ y. not (set.contains inside y)) saves)) (made ∙ ap (λ f. outermost f e) (fun_ext w)))

pub whole_made : (n count : ℕ) (e whole x : Expression) (s : NumberSet) → n ≡ count → s ≡ set.empty → whole ≡ round (needed n e) (with_needs n e)
    → x ≡ outermost (λ y. set.contains s y) whole → x ≡ lazily_saved count e
whole_made n count e whole x s is none made h =
    h ∙ (ap (λ f. outermost f whole) (fun_ext (λ y. ap (λ z. set.contains z y) none ∙ contains-empty y))
    ∙ (ap (outermost no_region) made ∙ ap (λ m. lazily_saved m e) is))

pub whole_below : (n bound : ℕ) (e whole : Expression) → n ≤ bound → whole ≡ round (needed n e) (with_needs n e) → SavesBelow bound whole
whole_below n bound e whole l made = subst (SavesBelow bound) (sym made) (marked_below n bound e l)
