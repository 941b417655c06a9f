-- Which variables are live, and which are wanted before the next call, as tests: the cases of `Live` and of `Soon`.
use Rattle.std.specs.Prelude.{ℕ, Bool, true, false, ◌||◌, ◌&&◌, not, cond, nat_eq, Option, Some, None}
use Rattle.std.specs.FinSet as set
use Rattle.sch_sets.specs.Members.{NumberSet}
use Rattle.sch_word.specs.trees.NumberSets.{has}
use Rattle.sch_control.specs.AtomsAndSites.{operation_atoms, application_atoms, member_atoms}
use Rattle.sch_control.specs.Meaning.{heads}
use Rattle.sch_control.specs.Tree.{Expression, perform, bind, sequence, branch, fix, call, tail_call, return, end, save}
use Rattle.sch_control.specs.Valid.{member_variables}
use Rattle.sch_control.specs.flow.Live.{named, known}

abbrev pub by_result : Option Bool → (Bool → Bool) → Bool
by_result (Some t) l = l t
by_result None l = l true || l false

abbrev pub is_live : ℕ → Expression → (Bool → Bool) → Bool
is_live x (perform o) l = has x (named (operation_atoms o)) || by_result (known o) l
is_live x (bind y a b) l = is_live x a (λ t. not (nat_eq x y) && is_live x b l)
is_live x (sequence a b) l = is_live x a (λ t. is_live x b l)
is_live x (branch a b c) l = is_live x a (λ t. cond t (is_live x b l) (is_live x c l))
is_live x (fix members e) l = not (has x (member_variables members)) && (has x (named (member_atoms members)) || is_live x e l)
is_live x (call a restores) l = has x (named (application_atoms a)) || (l true || l false)
is_live x (tail_call a) l = nat_eq x 0 || has x (named (application_atoms a))
is_live x (return e) l = is_live x e (λ t. nat_eq x 0)
is_live x (end e) l = is_live x e (λ t. false)
is_live x (save saves e) l = is_live x e l

abbrev pub is_soon : ℕ → Expression → (Bool → Bool) → Bool
is_soon x (perform o) s = has x (named (operation_atoms o)) || by_result (known o) s
is_soon x (bind y a b) s = is_soon x a (λ t. not (nat_eq x y) && is_soon x b s)
is_soon x (sequence a b) s = is_soon x a (λ t. is_soon x b s)
is_soon x (branch a b c) s = is_soon x a (λ t. cond t (is_soon x b s) (is_soon x c s))
is_soon x (fix members e) s = not (has x (member_variables members)) && (has x (named (member_atoms members)) || is_soon x e s)
is_soon x (call a restores) s = has x (named (application_atoms a))
is_soon x (tail_call a) s = nat_eq x 0 || has x (named (application_atoms a))
is_soon x (return e) s = is_soon x e (λ t. nat_eq x 0)
is_soon x (end e) s = is_soon x e (λ t. false)
is_soon x (save saves e) s = has x (heads e saves) || is_soon x e s

-- what holds behind an expression, by whether its value is true
abbrev pub Behind : Type 0
Behind = ℕ → Bool → Bool

-- as two sets say: of what holds where the value counts as true, and of what holds where it is `#f`
abbrev pub behind : (on_true on_false : NumberSet) → Behind
behind on_true on_false x t = set.contains (cond t on_true on_false) x
