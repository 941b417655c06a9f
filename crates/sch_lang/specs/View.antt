-- The plain tree of a value of the program's type.
use Rattle.std.specs.Prelude.{List}
use Rattle.sch_lang.specs.declared.tree.Exp.{Exp, Constant, Literal, Local, Global, SetLocal', SetGlobal', Define', If', Seq, Seq', Let', Fix', Rec', Lambda', Call', Prim', Row_of-Exp, end_of-Exp, more_of-Exp, Row_of-Lambda, end_of-Lambda, more_of-Lambda}
use Rattle.sch_lang.specs.declared.tree.Exp.TheBlock.{hidden-the_row-Lambda-1}
use Rattle.sch_lang.specs.declared.tree.Lambda.{Lambda}
use Rattle.sch_lang.specs.Tree.{Expression, Expressions, Lambdas, constant, literal, local, global, set_local, set_global, define, branch, sequence, bind, fix, letrec, lambda, call, operation, no_expressions, and_expression, no_lambdas, and_lambda, Function}

abbrev mutual
  pub expression : Exp → Expression
  expression (Constant c) = constant c
  expression (Literal n) = literal n
  expression (Local k) = local k
  expression (Global g) = global g
  expression (SetLocal' k p e) = set_local k (expression e)
  expression (SetGlobal' g p e) = set_global g (expression e)
  expression (Define' g p e) = define g (expression e)
  expression (If' p a q b r c) = branch (expression a) (expression b) (expression c)
  expression (Seq' s es) = sequence (expressions_of_row es)
  expression (Let' site s es p e) = bind site (expressions_of_row es) (expression e)
  expression (Fix' s ls p e) = fix (lambdas_of_row ls) (expression e)
  expression (Rec' site s es p e) = letrec site (expressions_of_row es) (expression e)
  expression (Lambda' p name formals rest body) = lambda name formals rest (expression body)
  expression (Call' site p f s es) = call site (expression f) (expressions_of_row es)
  expression (Prim' site which s es) = operation site which (expressions_of_row es)

  pub expressions_of_row : {m : _} → Row_of-Exp m → Expressions
  expressions_of_row end_of-Exp = no_expressions
  expressions_of_row (more_of-Exp e es) = and_expression (expression e) (expressions_of_row es)

  pub lambdas_of_row : {m : _} → Row_of-Lambda m → Lambdas
  lambdas_of_row end_of-Lambda = no_lambdas
  lambdas_of_row (more_of-Lambda name formals rest body ls) = and_lambda name formals rest (expression body) (lambdas_of_row ls)

abbrev pub listed : Expression → Expressions
listed (sequence es) = es
listed _ = no_expressions

-- the trees of a list of expressions
abbrev pub expressions_of : List Exp → Expressions
expressions_of es = listed (expression (Seq es))

-- the lambdas of a list
abbrev pub lambdas_of : List Lambda → Lambdas
lambdas_of ls = lambdas_of_row (hidden-the_row-Lambda-1 ls)

-- a lambda as plain data
abbrev pub function : Lambda → Function
function l = record { name = l.name; formals = l.formals; rest = l.rest; body = expression l.body }
