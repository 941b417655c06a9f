-- The tree without assignments for a tree with them.
use Rattle.std.specs.Prelude.{◌≡◌, ℕ, zero, suc, ◌+◌, ◌<◌, Bool, true, false, List, [], ◌∷◌, Some, None}
use Rattle.sch_cells.specs.Tree.{Tree, Trees, Lambdas, Source, constant, literal, variable, global, set_variable, set_global, define, branch, sequence, bind, fix, letrec, lambda, call, operation, new_cells, cell_get, cell_set, no_trees, and_tree, no_lambdas, and_lambda, count, count_lambdas}
use Rattle.sch_word.specs.trees.Bindings.{scope_with}
use Rattle.sch_cells.specs.declared.tree.NewCell.{NewCell}
use Rattle.sch_cells.specs.Variables.{assigns}
use Rattle.sch_word.specs.trees.NumberSets.{In}

-- The cell of the variable x is in the variable x + n, where n is more than any number of the tree's.
module _ (n : ℕ) where
  abbrev pub and_cell : Bool → ℕ → List NewCell → List NewCell
  and_cell true x cs = record { variable = x + n; content = Some x } ∷ cs
  and_cell false x cs = cs

  abbrev pub empty_cells : (x m : ℕ) → List NewCell
  empty_cells x zero = []
  empty_cells x (suc m) = record { variable = x + n; content = None } ∷ empty_cells (suc x) m

  abbrev pub reading : Bool → ℕ → Tree
  reading true x = cell_get (x + n)
  reading false x = variable x

  -- the values of m variables from x on go into their cells
  abbrev pub filling : (x m : ℕ) → Tree → Trees
  filling x zero e = and_tree e no_trees
  filling x (suc m) e = and_tree (cell_set (x + n) (variable x)) (filling (suc x) m e)

  -- the m variables from x on are below n
  pub record Low (x m : ℕ) : Type 0 where
    pub at : (i : ℕ) → i < m → x + i < n

abbrev pub wrapped : List NewCell → Tree → Tree
wrapped [] e = e
wrapped (c ∷ cs) e = new_cells (c ∷ cs) e

-- `has_cell` tells which variables have cells.
module _ (has_cell : ℕ → Bool) (n : ℕ) where
  -- a cell for each of the m variables from x on that becomes one
  abbrev pub cells_for : (x m : ℕ) → List NewCell
  cells_for x zero = []
  cells_for x (suc m) = and_cell n (has_cell x) x (cells_for (suc x) m)

  abbrev mutual
    pub converted : Tree → Tree
    converted (constant c) = constant c
    converted (literal k) = literal k
    converted (variable x) = reading n (has_cell x) x
    converted (global g) = global g
    converted (set_variable x e) = cell_set (x + n) (converted e)
    converted (set_global g e) = set_global g (converted e)
    converted (define g e) = define g (converted e)
    converted (branch a b c) = branch (converted a) (converted b) (converted c)
    converted (sequence es) = sequence (converted_each es)
    converted (bind site x es e) = bind site x (converted_each es) (wrapped (cells_for x (count es)) (converted e))
    converted (fix x ls e) = fix x (converted_lambdas ls) (converted e)
    converted (letrec site x es e) =
        new_cells (empty_cells n x (count es)) (bind site x (converted_each es) (sequence (filling n x (count es) (converted e))))
    converted (lambda name x m rest e) = lambda name x m rest (wrapped (cells_for x m) (converted e))
    converted (call site spread f es) = call site spread (converted f) (converted_each es)
    converted (operation site which es) = operation site which (converted_each es)
    converted (new_cells cs e) = cell_get 0
    converted (cell_get x) = cell_get 0
    converted (cell_set x e) = cell_get 0

    pub converted_each : Trees → Trees
    converted_each no_trees = no_trees
    converted_each (and_tree e es) = and_tree (converted e) (converted_each es)

    pub converted_lambdas : Lambdas → Lambdas
    converted_lambdas no_lambdas = no_lambdas
    converted_lambdas (and_lambda name x m rest e ls) = and_lambda name x m rest (wrapped (cells_for x m) (converted e)) (converted_lambdas ls)

  -- ## Where the conversion is right

  pub record Agree (x m : ℕ) (e : Tree) : Type 0 where
    pub at : (i : ℕ) → i < m → has_cell (x + i) ≡ assigns e (x + i)

  pub record AllAre (b : Bool) (x m : ℕ) : Type 0 where
    pub at : (i : ℕ) → i < m → has_cell (x + i) ≡ b

  abbrev mutual
    pub Right : Tree → List ℕ → Type 0
    Right (constant c) S = Unit {0}
    Right (literal k) S = Unit {0}
    Right (variable x) S = In x S
    Right (global g) S = Unit {0}
    Right (set_variable x e) S = (has_cell x ≡ true) × In x S × Right e S
    Right (set_global g e) S = Right e S
    Right (define g e) S = Right e S
    Right (branch a b c) S = Right a S × Right b S × Right c S
    Right (sequence es) S = RightEach es S
    Right (bind site x es e) S = RightEach es S × Agree x (count es) e × Low n x (count es) × Right e (scope_with x (count es) S)
    Right (fix x ls e) S =
        AllAre false x (count_lambdas ls) × Low n x (count_lambdas ls) × RightLambdas ls (scope_with x (count_lambdas ls) S) × Right e (scope_with x (count_lambdas ls) S)
    Right (letrec site x es e) S =
        AllAre true x (count es) × Low n x (count es) × RightEach es (scope_with x (count es) S) × Right e (scope_with x (count es) S)
    Right (lambda name x m rest e) S = Agree x m e × Low n x m × Right e (scope_with x m S)
    Right (call site spread f es) S = Right f S × RightEach es S
    Right (operation site which es) S = RightEach es S
    Right (new_cells cs e) S = ⊥
    Right (cell_get x) S = ⊥
    Right (cell_set x e) S = ⊥

    pub RightEach : Trees → List ℕ → Type 0
    RightEach no_trees S = Unit {0}
    RightEach (and_tree e es) S = Right e S × RightEach es S

    pub RightLambdas : Lambdas → List ℕ → Type 0
    RightLambdas no_lambdas S = Unit {0}
    RightLambdas (and_lambda name x m rest e ls) S = (Agree x m e × Low n x m × Right e (scope_with x m S)) × RightLambdas ls S

  abbrev pub converted_source : Source → Source
  converted_source p = record {
    statics = p.statics;
    library = converted_lambdas p.library;
    forms = converted_each p.forms;
    sites = p.sites;
    variables = n + n;
  }
