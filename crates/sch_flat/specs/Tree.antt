-- Flat trees as plain data. They differ from the trees of cells in that no body has a free variable: a
-- procedure is a record of the values that it needs, and the bodies of all procedures stand in one list.
use Rattle.std.specs.Prelude.{ℕ, suc, Bool, List, [], ◌∷◌, Option}
use Rattle.sch_word.specs.declared.constant.Const.{Const}
use Rattle.sch_word.specs.declared.primitive.Primitive.{Primitive}
use Rattle.sch_word.specs.runs.Runs.{Statics}

-- a variable that the body binds, by its number, or a field of the record that was entered, by its place
pub data Variable : Type 0 where
  bound : ℕ → Variable
  free : ℕ → Variable

-- a record that is made: the label of its body, and the variables whose values its fields take
pub record Made : Type 0 where
  pub label : ℕ
  pub fields : List Variable

-- a new cell: the variable that has it, and the variable whose value it holds at first, or none
pub record NewCell : Type 0 where
  pub variable : ℕ
  pub content : Option Variable

-- `first` is the number of the first variable that a node binds; the others follow it. `new_cells` binds
-- variables to new cells.
mutual
  pub data Tree : Type 0 where
    constant : Const → Tree
    literal : ℕ → Tree
    variable : Variable → Tree
    global : ℕ → Tree
    set_global : ℕ → Tree → Tree
    define : ℕ → Tree → Tree
    branch : Tree → Tree → Tree → Tree
    sequence : Trees → Tree
    bind : (site first : ℕ) → Trees → Tree → Tree
    make_closure : Made → Tree
    fix_closures : (first : ℕ) → List Made → Tree → Tree
    call : (site : ℕ) → (spread : Bool) → Tree → Trees → Tree
    operation : (site : ℕ) → Primitive → Trees → Tree
    new_cells : List NewCell → Tree → Tree
    cell_get : Variable → Tree
    cell_set : Variable → Tree → Tree

  pub data Trees : Type 0 where
    no_trees : Trees
    and_tree : Tree → Trees → Trees

abbrev pub count : Trees → ℕ
count no_trees = 0
count (and_tree e es) = suc (count es)

-- a list of trees, as a tree has it
abbrev pub trees : List Tree → Trees
trees [] = no_trees
trees (e ∷ es) = and_tree e (trees es)

-- The body of a procedure: the variables that it binds, the fields of its record, and its code.
pub record Body : Type 0 where
  pub name : List ℕ
  pub first : ℕ
  pub formals : ℕ
  pub rest : Bool
  pub fields : ℕ
  pub code : Tree

-- A program: what stands ready when it starts, the labels of the library's procedures, the bodies by
-- their labels, its top-level forms, for each form how many bodies stand before those of its procedures,
-- and for each site how many parts it has.
pub record Source : Type 0 where
  pub statics : Statics
  pub library : List ℕ
  pub bodies : List Body
  pub forms : Trees
  pub starts : List ℕ
  pub sites : List ℕ
