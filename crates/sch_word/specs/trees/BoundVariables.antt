-- How many variables a node binds, in any language of trees.
use Rattle.std.specs.Prelude.{ℕ, ◌+◌, List, [], ◌∷◌}
use Rattle.sch_word.specs.trees.Shape.{Procedure, Shape, bind, fix, letrec, lambda, new_cells, fix_closures}

-- the formals of some procedures
abbrev pub formals_in : List Procedure → ℕ
formals_in [] = 0
formals_in (p ∷ ps) = p.formals + formals_in ps

-- a group of procedures binds its variables, and in their bodies the formals
abbrev pub bound_in : Shape → ℕ
bound_in (bind site inits) = inits
bound_in (fix count ps) = count + formals_in ps
bound_in (letrec site inits) = inits
bound_in (lambda p) = p.formals
bound_in (new_cells count) = count
bound_in (fix_closures count made) = count
bound_in _ = 0
