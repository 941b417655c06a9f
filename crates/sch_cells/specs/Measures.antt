-- What is counted over a tree: any measure of its nodes, and its levels.
use Rattle.std.specs.Prelude.{ℕ, ◌+◌, max, Bool, true, ◌&&◌, List, [], ◌++◌, length}
use Rattle.sch_cells.specs.Tree.{Tree, Trees, Lambdas, Source, constant, literal, variable, global, set_variable, set_global, define, branch, sequence, bind, fix, letrec, lambda, call, operation, new_cells, cell_get, cell_set, no_trees, and_tree, no_lambdas, and_lambda, count, count_lambdas}
use Rattle.sch_word.specs.trees.Shape as shapes
use Rattle.sch_word.specs.trees.Shape.{Shape, site_of, call_site_of, tests_in, dropped_in, size_of, procedures_size}
use Rattle.sch_word.specs.trees.NodeWeights.{procedures_weight, weight_of}
use Rattle.sch_cells.specs.Bodies.{procedure, procedures}

-- A measure of nodes over a whole tree: `here` at each node, the outer before the inner, in the order
-- of the text, joined. The lambdas of a Fix are no nodes of their own; `here` sees them at the Fix.
module _ {A : Type 0} (nothing : A) (join : A → A → A) (here : Tree → A) where
  abbrev mutual
    pub over : Tree → A
    over (constant c) = here (constant c)
    over (literal n) = here (literal n)
    over (variable x) = here (variable x)
    over (global g) = here (global g)
    over (set_variable x e) = join (here (set_variable x e)) (over e)
    over (set_global g e) = join (here (set_global g e)) (over e)
    over (define g e) = join (here (define g e)) (over e)
    over (branch a b c) = join (here (branch a b c)) (join (over a) (join (over b) (over c)))
    over (sequence es) = join (here (sequence es)) (over_each es)
    over (bind site first es e) = join (here (bind site first es e)) (join (over_each es) (over e))
    over (fix first ls e) = join (here (fix first ls e)) (join (over_lambdas ls) (over e))
    over (letrec site first es e) = join (here (letrec site first es e)) (join (over_each es) (over e))
    over (lambda name first formals rest e) = join (here (lambda name first formals rest e)) (over e)
    over (call site spread f es) = join (here (call site spread f es)) (join (over f) (over_each es))
    over (operation site which es) = join (here (operation site which es)) (over_each es)
    over (new_cells cs e) = join (here (new_cells cs e)) (over e)
    over (cell_get x) = here (cell_get x)
    over (cell_set x e) = join (here (cell_set x e)) (over e)

    pub over_each : Trees → A
    over_each no_trees = nothing
    over_each (and_tree e es) = join (over e) (over_each es)

    pub over_lambdas : Lambdas → A
    over_lambdas no_lambdas = nothing
    over_lambdas (and_lambda name first formals rest e ls) = join (over e) (over_lambdas ls)

  -- over the library's bodies, then the forms
  abbrev pub over_source : Source → A
  over_source p = join (over_lambdas p.library) (over_each p.forms)

-- ## Shapes

-- the atoms among some parts of a sequence, but for the last part
abbrev pub one_if_atom : Tree → ℕ
one_if_atom (constant c) = 1
one_if_atom (literal n) = 1
one_if_atom (variable x) = 1
one_if_atom _ = 0

abbrev pub dropped_parts : Trees → ℕ
dropped_parts no_trees = 0
dropped_parts (and_tree e no_trees) = 0
dropped_parts (and_tree e (and_tree e' es)) = one_if_atom e + dropped_parts (and_tree e' es)

abbrev pub shape : Tree → Shape
shape (constant c) = shapes.constant c
shape (literal n) = shapes.literal n
shape (variable x) = shapes.variable
shape (global g) = shapes.global g
shape (set_variable x e) = shapes.set_variable
shape (set_global g e) = shapes.set_global g
shape (define g e) = shapes.define g
shape (branch a b c) = shapes.branch
shape (sequence es) = shapes.sequence (count es) (dropped_parts es)
shape (bind site first es e) = shapes.bind site (count es)
shape (fix first ls e) = shapes.fix (count_lambdas ls) (procedures ls)
shape (letrec site first es e) = shapes.letrec site (count es)
shape (lambda name first formals rest e) = shapes.lambda (procedure name first formals rest e)
shape (call site spread f es) = shapes.call site (count es) spread
shape (operation site which es) = shapes.operation site which (count es)
shape (new_cells cs e) = shapes.new_cells (length cs)
shape (cell_get x) = shapes.cell_get
shape (cell_set x e) = shapes.cell_set

-- ## What is counted of a program

-- the sites in the order of the text, each with how many parts it has
abbrev pub sites_of : Source → List (ℕ × ℕ)
sites_of p = over_source [] (λ a b. a ++ b) (λ e. site_of (shape e)) p

-- the sites of calls and primitives
abbrev pub call_sites_of : Source → List ℕ
call_sites_of p = over_source [] (λ a b. a ++ b) (λ e. call_site_of (shape e)) p

-- how many If nodes
abbrev pub tests_of : Source → ℕ
tests_of p = over_source 0 (λ a b. a + b) (λ e. tests_in (shape e)) p

-- how many atoms a sequence drops
abbrev pub dropped_of : Source → ℕ
dropped_of p = over_source 0 (λ a b. a + b) (λ e. dropped_in (shape e)) p

-- all nodes, formals, variables bound, procedures with their free variables, and forms
abbrev pub program_size : Source → ℕ
program_size p = procedures_size (procedures p.library) + count p.forms + over_source 0 (λ a b. a + b) (λ e. size_of (shape e)) p

-- How much work there is at most in the bodies of the language Control that are made of a program: what its library's
-- procedures and its nodes weigh, and one for the end of each form.
abbrev pub weight : Source → ℕ
weight p = procedures_weight (procedures p.library) + count p.forms + over_source 0 (λ a b. a + b) (λ e. weight_of (shape e)) p

-- a test of every node
abbrev pub every : (Tree → Bool) → Source → Bool
every test p = over_source true (λ a b. a && b) test p

-- ## Levels

-- how deep the nodes of a tree are nested; a lambda of a Fix or of the library is a level, as a Lambda node is
abbrev mutual
  pub levels : Tree → ℕ
  levels (constant c) = 1
  levels (literal n) = 1
  levels (variable x) = 1
  levels (global g) = 1
  levels (set_variable x e) = 1 + levels e
  levels (set_global g e) = 1 + levels e
  levels (define g e) = 1 + levels e
  levels (branch a b c) = 1 + max (levels a) (max (levels b) (levels c))
  levels (sequence es) = 1 + levels_each es
  levels (bind site first es e) = 1 + max (levels_each es) (levels e)
  levels (fix first ls e) = 1 + max (levels_lambdas ls) (levels e)
  levels (letrec site first es e) = 1 + max (levels_each es) (levels e)
  levels (lambda name first formals rest e) = 1 + levels e
  levels (call site spread f es) = 1 + max (levels f) (levels_each es)
  levels (operation site which es) = 1 + levels_each es
  levels (new_cells cs e) = 1 + levels e
  levels (cell_get x) = 1
  levels (cell_set x e) = 1 + levels e

  pub levels_each : Trees → ℕ
  levels_each no_trees = 0
  levels_each (and_tree e es) = max (levels e) (levels_each es)

  pub levels_lambdas : Lambdas → ℕ
  levels_lambdas no_lambdas = 0
  levels_lambdas (and_lambda name first formals rest e ls) = max (1 + levels e) (levels_lambdas ls)
