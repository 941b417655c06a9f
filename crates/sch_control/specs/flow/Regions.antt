-- What the lists of regions and of restores are in a body that has them.
use Rattle.std.specs.Prelude.{◌≡◌, ℕ, Bool, true, ◌&&◌, not, nat_lt}
use Rattle.std.specs.List.{list_all}
use Rattle.sch_control.specs.Meaning.{with_region}
use Rattle.sch_control.specs.Tree.{Expression, bind, sequence, branch, fix, call, return, end, save}
use Rattle.sch_word.specs.trees.NumberSets.{without_repeats}

-- A region saves some of the first `variables` variables, each once, and none that a region round it saves. `inside` has the
-- variables of the regions round the expression.
abbrev pub regions_apart : (variables : ℕ) → Expression → (inside : ℕ → Bool) → Bool
regions_apart variables (bind y a b) inside = regions_apart variables a inside && regions_apart variables b inside
regions_apart variables (sequence a b) inside = regions_apart variables a inside && regions_apart variables b inside
regions_apart variables (branch a b c) inside =
    regions_apart variables a inside && (regions_apart variables b inside && regions_apart variables c inside)
regions_apart variables (fix members e) inside = regions_apart variables e inside
regions_apart variables (return e) inside = regions_apart variables e inside
regions_apart variables (end e) inside = regions_apart variables e inside
regions_apart variables (save saves e) inside =
    without_repeats saves && (list_all (λ x. nat_lt x variables && not (inside x)) saves && regions_apart variables e (with_region saves inside))
regions_apart variables _ inside = true

-- each call restores what a region round it saves, each variable once
abbrev pub restores_saved : Expression → (inside : ℕ → Bool) → Bool
restores_saved (bind y a b) inside = restores_saved a inside && restores_saved b inside
restores_saved (sequence a b) inside = restores_saved a inside && restores_saved b inside
restores_saved (branch a b c) inside = restores_saved a inside && (restores_saved b inside && restores_saved c inside)
restores_saved (fix members e) inside = restores_saved e inside
restores_saved (call a restores) inside = without_repeats restores && list_all inside restores
restores_saved (return e) inside = restores_saved e inside
restores_saved (end e) inside = restores_saved e inside
restores_saved (save saves e) inside = restores_saved e (with_region saves inside)
restores_saved _ inside = true

-- each region of an expression saves numbers below a bound
abbrev pub SavesBelow : (bound : ℕ) → Expression → Type 0
SavesBelow bound (bind y a b) = SavesBelow bound a × SavesBelow bound b
SavesBelow bound (sequence a b) = SavesBelow bound a × SavesBelow bound b
SavesBelow bound (branch a b c) = SavesBelow bound a × (SavesBelow bound b × SavesBelow bound c)
SavesBelow bound (fix members e) = SavesBelow bound e
SavesBelow bound (return e) = SavesBelow bound e
SavesBelow bound (end e) = SavesBelow bound e
SavesBelow bound (save saves e) = (list_all (λ x. nat_lt x bound) saves ≡ true) × SavesBelow bound e
SavesBelow bound _ = Unit {0}
