-- What the walk over a tree adds to what it has found before. The free variables are found from the end of the
-- text to its beginning.
use Rattle.std.specs.Prelude.{◌≡◌, ℕ, List, [], ◌∷◌, reverse}
use Rattle.sch_word.specs.trees.NumberSets.{insert, union}
use Rattle.sch_word.specs.trees.Bindings.{without}
use Rattle.sch_cells.specs.declared.tree.NewCell.{NewCell}
use Rattle.sch_cells.specs.Tree.{Tree, Trees, Lambdas, constant, literal, variable, global, set_variable, set_global, define, branch, sequence, bind, fix, letrec, lambda, call, operation, new_cells, cell_get, cell_set, no_trees, and_tree, no_lambdas, and_lambda, count, count_lambdas, Function}
use Rattle.sch_cells.specs.Variables.{cells_bound, and_some, without_each}

-- the variables whose values new cells hold, before those found
abbrev pub found_cells : List NewCell → List ℕ → List ℕ
found_cells [] xs = xs
found_cells (c ∷ cs) xs = and_some c.content (found_cells cs xs)

-- the free variables of a tree, before those found
abbrev mutual
  pub found : Tree → List ℕ → List ℕ
  found (constant c) xs = xs
  found (literal n) xs = xs
  found (variable x) xs = insert x xs
  found (global g) xs = xs
  found (set_variable x e) xs = insert x (found e xs)
  found (set_global g e) xs = found e xs
  found (define g e) xs = found e xs
  found (branch a b c) xs = found a (found b (found c xs))
  found (sequence es) xs = found_each es xs
  found (bind site first es e) xs = found_each es (union (without first (count es) (found e [])) xs)
  found (fix first ls e) xs = union (without first (count_lambdas ls) (found_lambdas ls (found e []))) xs
  found (letrec site first es e) xs = union (without first (count es) (found_each es (found e []))) xs
  found (lambda name first formals rest e) xs = union (without first formals (found e [])) xs
  found (call site spread f es) xs = found f (found_each es xs)
  found (operation site which es) xs = found_each es xs
  found (new_cells cs e) xs = found_cells cs (union (without_each (cells_bound cs) (found e [])) xs)
  found (cell_get x) xs = insert x xs
  found (cell_set x e) xs = insert x (found e xs)

  pub found_each : Trees → List ℕ → List ℕ
  found_each no_trees xs = xs
  found_each (and_tree e es) xs = found e (found_each es xs)

  pub found_lambdas : Lambdas → List ℕ → List ℕ
  found_lambdas no_lambdas xs = xs
  found_lambdas (and_lambda name first formals rest e ls) xs = union (without first formals (found e [])) (found_lambdas ls xs)

-- the fields of each procedure in a tree, before those of the procedures after it
abbrev mutual
  pub fields_found : Tree → List (List ℕ) → List (List ℕ)
  fields_found (constant c) all = all
  fields_found (literal n) all = all
  fields_found (variable x) all = all
  fields_found (global g) all = all
  fields_found (set_variable x e) all = fields_found e all
  fields_found (set_global g e) all = fields_found e all
  fields_found (define g e) all = fields_found e all
  fields_found (branch a b c) all = fields_found a (fields_found b (fields_found c all))
  fields_found (sequence es) all = fields_of_each es all
  fields_found (bind site first es e) all = fields_of_each es (fields_found e all)
  fields_found (fix first ls e) all = fields_of_lambdas ls (fields_found e all)
  fields_found (letrec site first es e) all = fields_of_each es (fields_found e all)
  fields_found (lambda name first formals rest e) all = without first formals (found e []) ∷ fields_found e all
  fields_found (call site spread f es) all = fields_found f (fields_of_each es all)
  fields_found (operation site which es) all = fields_of_each es all
  fields_found (new_cells cs e) all = fields_found e all
  fields_found (cell_get x) all = all
  fields_found (cell_set x e) all = fields_found e all

  pub fields_of_each : Trees → List (List ℕ) → List (List ℕ)
  fields_of_each no_trees all = all
  fields_of_each (and_tree e es) all = fields_found e (fields_of_each es all)

  pub fields_of_lambdas : Lambdas → List (List ℕ) → List (List ℕ)
  fields_of_lambdas no_lambdas all = all
  fields_of_lambdas (and_lambda name first formals rest e ls) all =
      without first formals (found e []) ∷ fields_found e (fields_of_lambdas ls all)

-- What a walk has found in a tree: the free variables and the fields before it and after it, each from the last to the first.
abbrev pub Finds : Tree → (free free' : List ℕ) → (fields fields' : List (List ℕ)) → Type 0
Finds e free free' fields fields' = record {
  free : reverse free' ≡ found e (reverse free);
  fields : reverse fields' ≡ fields_found e (reverse fields);
}

abbrev pub FindsEach : Trees → (free free' : List ℕ) → (fields fields' : List (List ℕ)) → Type 0
FindsEach es free free' fields fields' = record {
  free : reverse free' ≡ found_each es (reverse free);
  fields : reverse fields' ≡ fields_of_each es (reverse fields);
}

abbrev pub FindsLambda : Function → (free free' : List ℕ) → (fields fields' : List (List ℕ)) → Type 0
FindsLambda f free free' fields fields' = record {
  free : reverse free' ≡ union (without f.first f.formals (found f.body [])) (reverse free);
  fields : reverse fields' ≡ without f.first f.formals (found f.body []) ∷ fields_found f.body (reverse fields);
}

abbrev pub FindsLambdas : Lambdas → (free free' : List ℕ) → (fields fields' : List (List ℕ)) → Type 0
FindsLambdas ls free free' fields fields' = record {
  free : reverse free' ≡ found_lambdas ls (reverse free);
  fields : reverse fields' ≡ fields_of_lambdas ls (reverse fields);
}
