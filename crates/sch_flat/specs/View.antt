-- The plain data of a program's parts.
use Rattle.std.specs.Prelude.{List, Option, Some, None, map}
use Rattle.sch_flat.specs.declared.tree.Variable.{Variable}
use Rattle.sch_flat.specs.declared.tree.Variable.TheVariants as place
use Rattle.sch_flat.specs.declared.tree.Made.{Made}
use Rattle.sch_flat.specs.declared.tree.NewCell.{NewCell}
use Rattle.sch_flat.specs.declared.tree.Body.{Body}
use Rattle.sch_flat.specs.declared.tree.Exp.{Exp, Constant, Literal, Var, Global, SetGlobal', Define', If', Seq, Seq', Let', MakeClosure, FixClosures', Call', Prim', NewCells', CellGet, CellSet', Row_of-Exp, end_of-Exp, more_of-Exp}
use Rattle.sch_flat.specs.Tree as plain
use Rattle.sch_flat.specs.Tree.{Tree, Trees, constant, literal, variable, global, set_global, define, branch, sequence, bind, make_closure, fix_closures, call, operation, new_cells, cell_get, cell_set, no_trees, and_tree}

abbrev pub used : Variable → plain.Variable
used (place.Bound x) = plain.bound x
used (place.Free k) = plain.free k

abbrev pub made : Made → plain.Made
made m = record { label = m.label; fields = map used m.fields }

abbrev pub used_or_none : Option Variable → Option plain.Variable
used_or_none None = None
used_or_none (Some v) = Some (used v)

abbrev pub new_cell : NewCell → plain.NewCell
new_cell c = record { variable = c.variable; content = used_or_none c.content }

abbrev mutual
  pub tree : Exp → Tree
  tree (Constant c) = constant c
  tree (Literal n) = literal n
  tree (Var v) = variable (used v)
  tree (Global g) = global g
  tree (SetGlobal' g p e) = set_global g (tree e)
  tree (Define' g p e) = define g (tree e)
  tree (If' p a q b r c) = branch (tree a) (tree b) (tree c)
  tree (Seq' s es) = sequence (trees_of_row es)
  tree (Let' site first s es p e) = bind site first (trees_of_row es) (tree e)
  tree (MakeClosure m) = make_closure (made m)
  tree (FixClosures' first ms p e) = fix_closures first (map made ms) (tree e)
  tree (Call' site spread p f s es) = call site spread (tree f) (trees_of_row es)
  tree (Prim' site which s es) = operation site which (trees_of_row es)
  tree (NewCells' cs p e) = new_cells (map new_cell cs) (tree e)
  tree (CellGet v) = cell_get (used v)
  tree (CellSet' v p e) = cell_set (used v) (tree e)

  pub trees_of_row : {m : _} → Row_of-Exp m → Trees
  trees_of_row end_of-Exp = no_trees
  trees_of_row (more_of-Exp e es) = and_tree (tree e) (trees_of_row es)

abbrev pub listed : Tree → Trees
listed (sequence es) = es
listed _ = no_trees

-- the trees of a list of expressions
abbrev pub trees_of : List Exp → Trees
trees_of es = listed (tree (Seq es))

abbrev pub body : Body → plain.Body
body b = record { name = b.name; first = b.first; formals = b.formals; rest = b.rest; fields = b.fields; code = tree b.code }
