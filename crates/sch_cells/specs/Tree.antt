-- The cell language's trees as plain data. Unlike the core language's, a variable has a number of its own
-- in the whole program; and where no variable is assigned, cells stand for those that were.
use Rattle.std.specs.Prelude.{ℕ, suc, Bool, List, [], ◌∷◌}
use Rattle.sch_word.specs.declared.constant.Const.{Const}
use Rattle.sch_word.specs.declared.primitive.Primitive.{Primitive}
use Rattle.sch_word.specs.runs.Runs.{Statics}
use Rattle.sch_cells.specs.declared.tree.NewCell.{NewCell}

-- `first` is the number of the first variable that a node binds; the others follow it. `new_cells` binds
-- variables to new cells, each of which holds the value of another variable or nothing.
mutual
  pub data Tree : Type 0 where
    constant : Const → Tree
    literal : ℕ → Tree
    variable : ℕ → Tree
    global : ℕ → Tree
    set_variable : ℕ → Tree → Tree
    set_global : ℕ → Tree → Tree
    define : ℕ → Tree → Tree
    branch : Tree → Tree → Tree → Tree
    sequence : Trees → Tree
    bind : (site first : ℕ) → Trees → Tree → Tree
    fix : (first : ℕ) → Lambdas → Tree → Tree
    letrec : (site first : ℕ) → Trees → Tree → Tree
    lambda : (name : List ℕ) → (first formals : ℕ) → (rest : Bool) → Tree → Tree
    call : (site : ℕ) → (spread : Bool) → Tree → Trees → Tree
    operation : (site : ℕ) → Primitive → Trees → Tree
    new_cells : List NewCell → Tree → Tree
    cell_get : ℕ → Tree
    cell_set : ℕ → Tree → Tree

  pub data Trees : Type 0 where
    no_trees : Trees
    and_tree : Tree → Trees → Trees

  pub data Lambdas : Type 0 where
    no_lambdas : Lambdas
    and_lambda : (name : List ℕ) → (first formals : ℕ) → (rest : Bool) → Tree → Lambdas → Lambdas

abbrev pub count : Trees → ℕ
count no_trees = 0
count (and_tree e es) = suc (count es)

abbrev pub count_lambdas : Lambdas → ℕ
count_lambdas no_lambdas = 0
count_lambdas (and_lambda name first formals rest e ls) = suc (count_lambdas ls)

-- a list of trees, as a tree has it
abbrev pub trees : List Tree → Trees
trees [] = no_trees
trees (e ∷ es) = and_tree e (trees es)

-- a lambda as plain data
pub record Function : Type 0 where
  pub name : List ℕ
  pub first : ℕ
  pub formals : ℕ
  pub rest : Bool
  pub body : Tree

-- a list of lambdas, as a tree has it
abbrev pub lambdas : List Function → Lambdas
lambdas [] = no_lambdas
lambdas (l ∷ ls) = and_lambda l.name l.first l.formals l.rest l.body (lambdas ls)

-- A program: what stands ready when it starts, the library's procedures, its top-level forms, for
-- each site how many parts it has, and how many numbers of variables it uses.
pub record Source : Type 0 where
  pub statics : Statics
  pub library : Lambdas
  pub forms : Trees
  pub sites : List ℕ
  pub variables : ℕ
