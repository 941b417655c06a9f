-- The plain tree of a value of the program's type.
use Rattle.std.specs.Prelude.{List}
use Rattle.sch_cells.specs.declared.tree.Exp.{Exp, Constant, Literal, Var, Global, SetVar', SetGlobal', Define', If', Seq, Seq', Let', Fix', Rec', Lambda', Call', Prim', NewCells', CellGet, CellSet', Row_of-Exp, end_of-Exp, more_of-Exp, Row_of-Lambda, end_of-Lambda, more_of-Lambda}
use Rattle.sch_cells.specs.declared.tree.Exp.TheBlock.{hidden-the_row-Lambda-1}
use Rattle.sch_cells.specs.declared.tree.Lambda.{Lambda}
use Rattle.sch_cells.specs.Tree.{Tree, Trees, Lambdas, constant, literal, variable, global, set_variable, set_global, define, branch, sequence, bind, fix, letrec, lambda, call, operation, new_cells, cell_get, cell_set, no_trees, and_tree, no_lambdas, and_lambda, Function}

abbrev mutual
  pub tree : Exp → Tree
  tree (Constant c) = constant c
  tree (Literal n) = literal n
  tree (Var x) = variable x
  tree (Global g) = global g
  tree (SetVar' x p e) = set_variable x (tree e)
  tree (SetGlobal' g p e) = set_global g (tree e)
  tree (Define' g p e) = define g (tree e)
  tree (If' p a q b r c) = branch (tree a) (tree b) (tree c)
  tree (Seq' s es) = sequence (trees_of_row es)
  tree (Let' site first s es p e) = bind site first (trees_of_row es) (tree e)
  tree (Fix' first s ls p e) = fix first (lambdas_of_row ls) (tree e)
  tree (Rec' site first s es p e) = letrec site first (trees_of_row es) (tree e)
  tree (Lambda' p name first formals rest body) = lambda name first formals rest (tree body)
  tree (Call' site spread p f s es) = call site spread (tree f) (trees_of_row es)
  tree (Prim' site which s es) = operation site which (trees_of_row es)
  tree (NewCells' cs p e) = new_cells cs (tree e)
  tree (CellGet x) = cell_get x
  tree (CellSet' x p e) = cell_set x (tree e)

  pub trees_of_row : {m : _} → Row_of-Exp m → Trees
  trees_of_row end_of-Exp = no_trees
  trees_of_row (more_of-Exp e es) = and_tree (tree e) (trees_of_row es)

  pub lambdas_of_row : {m : _} → Row_of-Lambda m → Lambdas
  lambdas_of_row end_of-Lambda = no_lambdas
  lambdas_of_row (more_of-Lambda name first formals rest body ls) = and_lambda name first formals rest (tree body) (lambdas_of_row ls)

abbrev pub listed : Tree → Trees
listed (sequence es) = es
listed _ = no_trees

-- the trees of a list of expressions
abbrev pub trees_of : List Exp → Trees
trees_of es = listed (tree (Seq es))

-- the lambdas of a list
abbrev pub lambdas_of : List Lambda → Lambdas
lambdas_of ls = lambdas_of_row (hidden-the_row-Lambda-1 ls)

-- a lambda as plain data
abbrev pub function : Lambda → Function
function l = record { name = l.name; first = l.first; formals = l.formals; rest = l.rest; body = tree l.body }
