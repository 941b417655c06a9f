-- What holds of the trees of a valid program: no variable that a body binds is a field of its record, and the
-- nodes are those without assignments. And where the bodies of a tree stand.
use Rattle.std.specs.Prelude.{◌≡◌, ℕ, suc, ◌+◌, Bool, List, slice_get, Some}
use Rattle.sch_word.specs.trees.Bindings.{numbers}
use Rattle.sch_cells.specs.Tree.{Tree, Trees, Lambdas, constant, literal, variable, global, set_variable, set_global, define, branch, sequence, bind, fix, letrec, lambda, call, operation, new_cells, cell_get, cell_set, no_trees, and_tree, no_lambdas, and_lambda, count, count_lambdas}
use Rattle.sch_cells.specs.Variables.{cells_bound}
use Rattle.sch_cells.specs.Clear.{Apart}
use Rattle.sch_flat.specs.Tree as to
use Rattle.sch_closure.specs.Closed.{procedures, procedures_each, procedures_lambdas, fields_of, body_of}

abbrev mutual
  pub Fresh : Tree → (fields : List ℕ) → Type 0
  Fresh (constant c) fs = Unit {0}
  Fresh (literal k) fs = Unit {0}
  Fresh (variable x) fs = Unit {0}
  Fresh (global g) fs = Unit {0}
  Fresh (set_variable x e) fs = ⊥
  Fresh (set_global g e) fs = Fresh e fs
  Fresh (define g e) fs = Fresh e fs
  Fresh (branch a b c) fs = Fresh a fs × Fresh b fs × Fresh c fs
  Fresh (sequence es) fs = FreshEach es fs
  Fresh (bind site x es e) fs = Apart (numbers x (count es)) fs × FreshEach es fs × Fresh e fs
  Fresh (fix x ls e) fs = Apart (numbers x (count_lambdas ls)) fs × FreshLambdas ls × Fresh e fs
  Fresh (letrec site x es e) fs = ⊥
  Fresh (lambda name x m rest e) fs = Apart (numbers x m) (fields_of x m e) × Fresh e (fields_of x m e)
  Fresh (call site spread f es) fs = Fresh f fs × FreshEach es fs
  Fresh (operation site which es) fs = FreshEach es fs
  Fresh (new_cells cs e) fs = Apart (cells_bound cs) fs × Fresh e fs
  Fresh (cell_get x) fs = Unit {0}
  Fresh (cell_set x e) fs = Fresh e fs

  pub FreshEach : Trees → (fields : List ℕ) → Type 0
  FreshEach no_trees fs = Unit {0}
  FreshEach (and_tree e es) fs = Fresh e fs × FreshEach es fs

  pub FreshLambdas : Lambdas → Type 0
  FreshLambdas no_lambdas = Unit {0}
  FreshLambdas (and_lambda name x m rest e ls) = (Apart (numbers x m) (fields_of x m e) × Fresh e (fields_of x m e)) × FreshLambdas ls

-- what is made of the procedures in a tree stands in a list, from a label on
module _ {A : Type 0} (of : (name : List ℕ) → (first formals : ℕ) → (rest : Bool) → Tree → (label : ℕ) → A) (all : List A) where
  abbrev mutual
    pub Stands : Tree → (n : ℕ) → Type 0
    Stands (constant c) n = Unit {0}
    Stands (literal k) n = Unit {0}
    Stands (variable x) n = Unit {0}
    Stands (global g) n = Unit {0}
    Stands (set_variable x e) n = Stands e n
    Stands (set_global g e) n = Stands e n
    Stands (define g e) n = Stands e n
    Stands (branch a b c) n = Stands a n × Stands b (n + procedures a) × Stands c (n + procedures a + procedures b)
    Stands (sequence es) n = EachStands es n
    Stands (bind site x es e) n = EachStands es n × Stands e (n + procedures_each es)
    Stands (fix x ls e) n = LambdasStand ls n × Stands e (n + procedures_lambdas ls)
    Stands (letrec site x es e) n = EachStands es n × Stands e (n + procedures_each es)
    Stands (lambda name x m rest e) n = (slice_get all n ≡ Some (of name x m rest e n)) × Stands e (suc n)
    Stands (call site spread f es) n = Stands f n × EachStands es (n + procedures f)
    Stands (operation site which es) n = EachStands es n
    Stands (new_cells cs e) n = Stands e n
    Stands (cell_get x) n = Unit {0}
    Stands (cell_set x e) n = Stands e n

    pub EachStands : Trees → (n : ℕ) → Type 0
    EachStands no_trees n = Unit {0}
    EachStands (and_tree e es) n = Stands e n × EachStands es (n + procedures e)

    pub LambdasStand : Lambdas → (n : ℕ) → Type 0
    LambdasStand no_lambdas n = Unit {0}
    LambdasStand (and_lambda name x m rest e ls) n =
        ((slice_get all n ≡ Some (of name x m rest e n)) × Stands e (suc n)) × LambdasStand ls (suc n + procedures e)

-- the bodies of a tree stand in the list of all of them
abbrev pub Stand : List to.Body → Tree → (n : ℕ) → Type 0
Stand all e n = Stands body_of all e n

abbrev pub StandEach : List to.Body → Trees → (n : ℕ) → Type 0
StandEach all es n = EachStands body_of all es n

abbrev pub StandLambdas : List to.Body → Lambdas → (n : ℕ) → Type 0
StandLambdas all ls n = LambdasStand body_of all ls n
