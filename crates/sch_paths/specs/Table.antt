-- The variables to save round an expression, by the result that it has.
use Rattle.std.specs.Prelude.{ℕ, Bool, true, false, ◌||◌, ◌&&◌, not, Option, Some, None}
use Rattle.sch_word.specs.trees.NumberSets.{has}
use Rattle.sch_control.specs.Tree.{Expression, perform, bind, sequence, branch, fix, call, tail_call, return, end, save}
use Rattle.sch_control.specs.flow.Live.{known}

-- it is known that the result is another one
abbrev pub is_other : Option Bool → Bool → Bool
is_other None r = false
is_other (Some true) r = not r
is_other (Some false) r = r

-- Each path of that result has a call after which the variable is live: the two sets of a variable's expression. Where no path
-- has the result, that is every variable.
abbrev pub saved_by : ℕ → Expression → (result : Bool) → Bool
saved_by x (perform o) r = is_other (known o) r
saved_by x (bind y a b) r = (saved_by x a true && saved_by x a false) || saved_by x b r
saved_by x (sequence a b) r = (saved_by x a true && saved_by x a false) || saved_by x b r
saved_by x (branch a b c) r = (saved_by x a true || saved_by x b r) && (saved_by x a false || saved_by x c r)
saved_by x (fix members e) r = saved_by x e r
saved_by x (call a listed) r = has x listed
saved_by x (tail_call a) r = false
saved_by x (return e) r = saved_by x e true && saved_by x e false
saved_by x (end e) r = saved_by x e true && saved_by x e false
saved_by x (save saves e) r = saved_by x e r

-- the variables to save round an expression
abbrev pub needs : ℕ → Expression → Bool
needs x e = saved_by x e true && saved_by x e false
