-- Where a body saves which variables: lazily, which is round the body and round the arms of its tests, what each way through
-- needs (Burger, Waddell and Dybvig, PLDI 1995).
use Rattle.std.specs.Prelude.{ℕ, Bool, not, List, [], ◌∷◌, filter}
use Rattle.sch_word.specs.trees.Bindings.{numbers}
use Rattle.sch_control.specs.Meaning.{no_region, with_region}
use Rattle.sch_control.specs.Tree.{Expression, perform, bind, sequence, branch, fix, call, tail_call, return, end, save}
use Rattle.sch_paths.specs.Table.{needs}

-- those of the first variables that an expression needs: every way through it has a call after which they are live
abbrev pub needed : (variables : ℕ) → Expression → List ℕ
needed variables e = filter (λ x. needs x e) (numbers 0 variables)

-- a region round an expression, where there is something to save
abbrev pub round : List ℕ → Expression → Expression
round [] e = e
round (x ∷ xs) e = save (x ∷ xs) e

-- round each arm stands a region of what the arm needs
abbrev pub with_needs : (variables : ℕ) → Expression → Expression
with_needs variables (perform o) = perform o
with_needs variables (bind x a b) = bind x (with_needs variables a) (with_needs variables b)
with_needs variables (sequence a b) = sequence (with_needs variables a) (with_needs variables b)
with_needs variables (branch a b c) =
    branch (with_needs variables a)
    (round (needed variables b) (with_needs variables b)) (round (needed variables c) (with_needs variables c))
with_needs variables (fix members e) = fix members (with_needs variables e)
with_needs variables (call a listed) = call a listed
with_needs variables (tail_call a) = tail_call a
with_needs variables (return e) = return (with_needs variables e)
with_needs variables (end e) = end (with_needs variables e)
with_needs variables (save saves e) = with_needs variables e

-- what a region saves is not saved again inside it
abbrev pub outermost : (inside : ℕ → Bool) → Expression → Expression
outermost inside (perform o) = perform o
outermost inside (bind x a b) = bind x (outermost inside a) (outermost inside b)
outermost inside (sequence a b) = sequence (outermost inside a) (outermost inside b)
outermost inside (branch a b c) = branch (outermost inside a) (outermost inside b) (outermost inside c)
outermost inside (fix members e) = fix members (outermost inside e)
outermost inside (call a listed) = call a listed
outermost inside (tail_call a) = tail_call a
outermost inside (return e) = return (outermost inside e)
outermost inside (end e) = end (outermost inside e)
outermost inside (save saves e) = round (filter (λ x. not (inside x)) saves) (outermost (with_region saves inside) e)

-- a body with a region round it and round each arm
abbrev pub lazily_saved : (variables : ℕ) → Expression → Expression
lazily_saved variables e = outermost no_region (round (needed variables e) (with_needs variables e))
