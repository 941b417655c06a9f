-- What closing makes of a tree: a flat tree, and the bodies of the procedures in it.
use Rattle.std.specs.Prelude.{ℕ, suc, ◌+◌, Bool, cond, List, [], ◌∷◌, ◌++◌, length, map, nat_eq, Option, Some, None}
use Rattle.sch_word.specs.trees.Bindings.{without}
use Rattle.sch_cells.specs.declared.tree.NewCell.{NewCell}
use Rattle.sch_cells.specs.Tree as from
use Rattle.sch_cells.specs.Tree.{Tree, Trees, Lambdas, constant, literal, variable, global, set_variable, set_global, define, branch, sequence, bind, fix, letrec, lambda, call, operation, new_cells, cell_get, cell_set, no_trees, and_tree, no_lambdas, and_lambda}
use Rattle.sch_cells.specs.Variables.{free}
use Rattle.sch_flat.specs.Tree as to

-- ## Variables

-- a variable in a body whose record has these, of which `k` stand before
abbrev pub place_from : (k : ℕ) → List ℕ → ℕ → to.Variable
place_from k [] x = to.bound x
place_from k (y ∷ fields) x = cond (nat_eq x y) (to.free k) (place_from (suc k) fields x)

-- a variable in a body whose record has these: a field where it is one of them, else one that the body binds
abbrev pub place : List ℕ → ℕ → to.Variable
place fields x = place_from 0 fields x

abbrev pub place_or_none : List ℕ → Option ℕ → Option to.Variable
place_or_none fields None = None
place_or_none fields (Some x) = Some (place fields x)

abbrev pub placed : List ℕ → NewCell → to.NewCell
placed fields c = record { variable = c.variable; content = place_or_none fields c.content }

-- ## How many procedures a tree has

abbrev mutual
  pub procedures : Tree → ℕ
  procedures (constant c) = 0
  procedures (literal n) = 0
  procedures (variable x) = 0
  procedures (global g) = 0
  procedures (set_variable x e) = procedures e
  procedures (set_global g e) = procedures e
  procedures (define g e) = procedures e
  procedures (branch a b c) = procedures a + (procedures b + procedures c)
  procedures (sequence es) = procedures_each es
  procedures (bind site first es e) = procedures_each es + procedures e
  procedures (fix first ls e) = procedures_lambdas ls + procedures e
  procedures (letrec site first es e) = procedures_each es + procedures e
  procedures (lambda name first formals rest e) = suc (procedures e)
  procedures (call site spread f es) = procedures f + procedures_each es
  procedures (operation site which es) = procedures_each es
  procedures (new_cells cs e) = procedures e
  procedures (cell_get x) = 0
  procedures (cell_set x e) = procedures e

  pub procedures_each : Trees → ℕ
  procedures_each no_trees = 0
  procedures_each (and_tree e es) = procedures e + procedures_each es

  pub procedures_lambdas : Lambdas → ℕ
  procedures_lambdas no_lambdas = 0
  procedures_lambdas (and_lambda name first formals rest e ls) = suc (procedures e + procedures_lambdas ls)

-- ## Flat trees

-- The fields of a procedure's record: its free variables.
abbrev pub fields_of : (first formals : ℕ) → Tree → List ℕ
fields_of first formals e = without first formals (free e)

-- the record of a procedure with this label, in a body whose record has these fields
abbrev pub made : (first formals : ℕ) → Tree → (fields : List ℕ) → (label : ℕ) → to.Made
made first formals e fields label = record { label = label; fields = map (place fields) (fields_of first formals e) }

-- The tree in a body whose record has these fields. Labels are numbers in the order of the text, outer before
-- inner, and those in the tree begin at n.
abbrev mutual
  pub closed : Tree → (fields : List ℕ) → (n : ℕ) → to.Tree
  closed (constant c) fields n = to.constant c
  closed (literal k) fields n = to.literal k
  closed (variable x) fields n = to.variable (place fields x)
  closed (global g) fields n = to.global g
  closed (set_global g e) fields n = to.set_global g (closed e fields n)
  closed (define g e) fields n = to.define g (closed e fields n)
  closed (branch a b c) fields n =
      to.branch (closed a fields n) (closed b fields (n + procedures a)) (closed c fields (n + procedures a + procedures b))
  closed (sequence es) fields n = to.sequence (closed_each es fields n)
  closed (bind site first es e) fields n = to.bind site first (closed_each es fields n) (closed e fields (n + procedures_each es))
  closed (fix first ls e) fields n = to.fix_closures first (made_each ls fields n) (closed e fields (n + procedures_lambdas ls))
  closed (lambda name first formals rest e) fields n = to.make_closure (made first formals e fields n)
  closed (call site spread f es) fields n = to.call site spread (closed f fields n) (closed_each es fields (n + procedures f))
  closed (operation site which es) fields n = to.operation site which (closed_each es fields n)
  closed (new_cells cs e) fields n = to.new_cells (map (placed fields) cs) (closed e fields n)
  closed (cell_get x) fields n = to.cell_get (place fields x)
  closed (cell_set x e) fields n = to.cell_set (place fields x) (closed e fields n)
  -- these stand in no program without assignments
  closed (set_variable x e) fields n = closed e fields n
  closed (letrec site first es e) fields n = to.bind site first (closed_each es fields n) (closed e fields (n + procedures_each es))

  pub closed_each : Trees → (fields : List ℕ) → (n : ℕ) → to.Trees
  closed_each no_trees fields n = to.no_trees
  closed_each (and_tree e es) fields n = to.and_tree (closed e fields n) (closed_each es fields (n + procedures e))

  pub made_each : Lambdas → (fields : List ℕ) → (n : ℕ) → List to.Made
  made_each no_lambdas fields n = []
  made_each (and_lambda name first formals rest e ls) fields n =
      made first formals e fields n ∷ made_each ls fields (suc n + procedures e)

-- ## Procedures

-- what is made of each procedure in a tree with its label, where labels begin at n: of each before those inside it
module _ {A : Type 0} (of : (name : List ℕ) → (first formals : ℕ) → (rest : Bool) → Tree → (label : ℕ) → A) where
  abbrev mutual
    pub all_procedures : Tree → (n : ℕ) → List A
    all_procedures (constant c) n = []
    all_procedures (literal k) n = []
    all_procedures (variable x) n = []
    all_procedures (global g) n = []
    all_procedures (set_variable x e) n = all_procedures e n
    all_procedures (set_global g e) n = all_procedures e n
    all_procedures (define g e) n = all_procedures e n
    all_procedures (branch a b c) n =
        all_procedures a n ++ (all_procedures b (n + procedures a) ++ all_procedures c (n + procedures a + procedures b))
    all_procedures (sequence es) n = all_of_each es n
    all_procedures (bind site first es e) n = all_of_each es n ++ all_procedures e (n + procedures_each es)
    all_procedures (fix first ls e) n = all_of_lambdas ls n ++ all_procedures e (n + procedures_lambdas ls)
    all_procedures (letrec site first es e) n = all_of_each es n ++ all_procedures e (n + procedures_each es)
    all_procedures (lambda name first formals rest e) n = of name first formals rest e n ∷ all_procedures e (suc n)
    all_procedures (call site spread f es) n = all_procedures f n ++ all_of_each es (n + procedures f)
    all_procedures (operation site which es) n = all_of_each es n
    all_procedures (new_cells cs e) n = all_procedures e n
    all_procedures (cell_get x) n = []
    all_procedures (cell_set x e) n = all_procedures e n

    pub all_of_each : Trees → (n : ℕ) → List A
    all_of_each no_trees n = []
    all_of_each (and_tree e es) n = all_procedures e n ++ all_of_each es (n + procedures e)

    pub all_of_lambdas : Lambdas → (n : ℕ) → List A
    all_of_lambdas no_lambdas n = []
    all_of_lambdas (and_lambda name first formals rest e ls) n =
        of name first formals rest e n ∷ (all_procedures e (suc n) ++ all_of_lambdas ls (suc n + procedures e))

-- the free variables of a procedure of the text
abbrev pub captured : (name : List ℕ) → (first formals : ℕ) → (rest : Bool) → Tree → (label : ℕ) → List ℕ
captured name first formals rest e label = fields_of first formals e

-- the fields of all procedures of a program by their labels: the library's first
abbrev pub program_fields : (library : Lambdas) → (forms : Trees) → List (List ℕ)
program_fields library forms = all_of_lambdas captured library 0 ++ all_of_each captured forms (procedures_lambdas library)

-- the body of a procedure of the text
abbrev pub body_of : (name : List ℕ) → (first formals : ℕ) → (rest : Bool) → Tree → (label : ℕ) → to.Body
body_of name first formals rest e label = record {
  name = name;
  first = first;
  formals = formals;
  rest = rest;
  fields = length (fields_of first formals e);
  code = closed e (fields_of first formals e) (suc label);
}

-- ## Programs

-- the labels of a group's procedures, which begin at n
abbrev pub labels : Lambdas → (n : ℕ) → List ℕ
labels no_lambdas n = []
labels (and_lambda name first formals rest e ls) n = n ∷ labels ls (suc n + procedures e)

-- how many bodies stand before those of each form's procedures
abbrev pub starts : Trees → (n : ℕ) → List ℕ
starts no_trees n = []
starts (and_tree e es) n = n ∷ starts es (n + procedures e)

-- the flat program: the bodies of the library first
abbrev pub closed_source : from.Source → to.Source
closed_source p = record {
  statics = p.statics;
  library = labels p.library 0;
  bodies = all_of_lambdas body_of p.library 0 ++ all_of_each body_of p.forms (procedures_lambdas p.library);
  forms = closed_each p.forms [] (procedures_lambdas p.library);
  starts = starts p.forms (procedures_lambdas p.library);
  sites = p.sites;
}
