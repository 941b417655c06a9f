-- What is counted over flat trees.
use Rattle.std.specs.Prelude.{ℕ, ◌+◌, max, Bool, true, false, cond, List, [], ◌∷◌, ◌++◌, length, map}
use Rattle.sch_word.specs.trees.Shape as shapes
use Rattle.sch_word.specs.trees.Shape.{Shape}
use Rattle.sch_word.specs.trees.NodeWeights.{all_entered, weight_of}
use Rattle.sch_flat.specs.Tree.{Variable, bound, free, Made, Tree, Trees, Body, Source, constant, literal, variable, global, set_global, define, branch, sequence, bind, make_closure, fix_closures, call, operation, new_cells, cell_get, cell_set, no_trees, and_tree, count}

-- ## Shapes

abbrev pub is_atom : Tree → Bool
is_atom (constant c) = true
is_atom (literal n) = true
is_atom (variable v) = true
is_atom _ = false

-- the atoms among the parts of a sequence, but for the last part
abbrev pub dropped : Trees → ℕ
dropped no_trees = 0
dropped (and_tree e no_trees) = 0
dropped (and_tree e (and_tree e' es)) = cond (is_atom e) 1 0 + dropped (and_tree e' es)

abbrev pub made_shape : Made → shapes.Made
made_shape m = record { label = m.label; fields = length m.fields }

abbrev pub made_shapes : List Made → List shapes.Made
made_shapes [] = []
made_shapes (m ∷ ms) = made_shape m ∷ made_shapes ms

abbrev pub field_shape : Variable → Shape
field_shape (bound x) = shapes.variable
field_shape (free k) = shapes.field

abbrev pub shape : Tree → Shape
shape (constant c) = shapes.constant c
shape (literal n) = shapes.literal n
shape (variable v) = field_shape v
shape (global g) = shapes.global g
shape (set_global g e) = shapes.set_global g
shape (define g e) = shapes.define g
shape (branch a b c) = shapes.branch
shape (sequence es) = shapes.sequence (count es) (dropped es)
shape (bind site first es e) = shapes.bind site (count es)
shape (make_closure m) = shapes.make_closure (made_shape m)
shape (fix_closures first ms e) = shapes.fix_closures (length ms) (made_shapes ms)
shape (call site spread f es) = shapes.call site (count es) spread
shape (operation site which es) = shapes.operation site which (count es)
shape (new_cells cs e) = shapes.new_cells (length cs)
shape (cell_get v) = shapes.cell_get
shape (cell_set v e) = shapes.cell_set

-- A measure of nodes over a tree: `here` at each node, the outer before the inner, in the order of the
-- text, joined.
module _ {A : Type 0} (nothing : A) (join : A → A → A) (here : Shape → A) where
  abbrev mutual
    pub over : Tree → A
    over (constant c) = here (shape (constant c))
    over (literal n) = here (shape (literal n))
    over (variable v) = here (shape (variable v))
    over (global g) = here (shape (global g))
    over (set_global g e) = join (here (shape (set_global g e))) (over e)
    over (define g e) = join (here (shape (define g e))) (over e)
    over (branch a b c) = join (here (shape (branch a b c))) (join (over a) (join (over b) (over c)))
    over (sequence es) = join (here (shape (sequence es))) (over_each es)
    over (bind site first es e) = join (here (shape (bind site first es e))) (join (over_each es) (over e))
    over (make_closure m) = here (shape (make_closure m))
    over (fix_closures first ms e) = join (here (shape (fix_closures first ms e))) (over e)
    over (call site spread f es) = join (here (shape (call site spread f es))) (join (over f) (over_each es))
    over (operation site which es) = join (here (shape (operation site which es))) (over_each es)
    over (new_cells cs e) = join (here (shape (new_cells cs e))) (over e)
    over (cell_get v) = here (shape (cell_get v))
    over (cell_set v e) = join (here (shape (cell_set v e))) (over e)

    pub over_each : Trees → A
    over_each no_trees = nothing
    over_each (and_tree e es) = join (over e) (over_each es)

  abbrev pub over_bodies : List Body → A
  over_bodies [] = nothing
  over_bodies (b ∷ bs) = join (over b.code) (over_bodies bs)

  -- over the bodies, then the forms
  abbrev pub over_source : Source → A
  over_source p = join (over_bodies p.bodies) (over_each p.forms)

-- ## The program

-- the sites of a program and how many parts each has
abbrev pub sites_of : Source → List (ℕ × ℕ)
sites_of p = over_source [] (λ a b. a ++ b) shapes.site_of p

-- the sites of its calls and primitives
abbrev pub call_sites_of : Source → List ℕ
call_sites_of p = over_source [] (λ a b. a ++ b) shapes.call_site_of p

-- how many If nodes
abbrev pub tests_of : Source → ℕ
tests_of p = over_source 0 (λ a b. a + b) shapes.tests_in p

-- how many atoms are dropped
abbrev pub dropped_of : Source → ℕ
dropped_of p = over_source 0 (λ a b. a + b) shapes.dropped_in p

-- for each body one, its formals and the fields of its record
abbrev pub bodies_size : List Body → ℕ
bodies_size [] = 0
bodies_size (b ∷ bs) = 1 + b.formals + b.fields + bodies_size bs

-- all nodes, formals, variables bound, bodies with the fields of their records, and forms of a program
abbrev pub program_size : Source → ℕ
program_size p = bodies_size p.bodies + count p.forms + over_source 0 (λ a b. a + b) shapes.size_of p

-- ## Work

abbrev pub bodies_weight : List Body → ℕ
bodies_weight bs = all_entered (map (λ b. b.formals) bs)

-- How much work there is at most in the bodies of the language Control that are made of a program: what its bodies and
-- nodes weigh, and one for the end of each form.
abbrev pub weight : Source → ℕ
weight p = bodies_weight p.bodies + count p.forms + over_source 0 (λ a b. a + b) weight_of p

-- ## The variables of a body

-- one for a part that is no constant, no literal and no variable that the body binds
abbrev pub one_unless_simple : Tree → ℕ
one_unless_simple (constant c) = 0
one_unless_simple (literal n) = 0
one_unless_simple (variable (bound x)) = 0
one_unless_simple _ = 1

-- How many variables a body may need once its parts are bound: those that it binds, and one for each
-- operator, operand, value that is set or defined, and part of a sequence before its last, that is not
-- simple.
abbrev mutual
  pub variables : Tree → ℕ
  variables (constant c) = 0
  variables (literal n) = 0
  variables (variable v) = 0
  variables (global g) = 0
  variables (set_global g e) = one_unless_simple e + variables e
  variables (define g e) = one_unless_simple e + variables e
  variables (branch a b c) = variables a + (variables b + variables c)
  variables (sequence es) = variables_parts es
  variables (bind site first es e) = count es + (variables_each es + variables e)
  variables (make_closure m) = 0
  variables (fix_closures first ms e) = length ms + variables e
  variables (call site spread f es) = one_unless_simple f + (variables f + variables_operands es)
  variables (operation site which es) = variables_operands es
  variables (new_cells cs e) = length cs + variables e
  variables (cell_get v) = 0
  variables (cell_set v e) = one_unless_simple e + variables e

  -- the inits of a binding
  pub variables_each : Trees → ℕ
  variables_each no_trees = 0
  variables_each (and_tree e es) = variables e + variables_each es

  pub variables_operands : Trees → ℕ
  variables_operands no_trees = 0
  variables_operands (and_tree e es) = one_unless_simple e + (variables e + variables_operands es)

  -- the parts of a sequence
  pub variables_parts : Trees → ℕ
  variables_parts no_trees = 0
  variables_parts (and_tree e no_trees) = variables e
  variables_parts (and_tree e (and_tree e' es)) = one_unless_simple e + (variables e + variables_parts (and_tree e' es))

abbrev pub body_variables : Body → ℕ
body_variables b = b.formals + variables b.code

-- ## Levels

-- how deep the nodes of a tree are nested; the body of a procedure is a tree of its own
abbrev mutual
  pub levels : Tree → ℕ
  levels (constant c) = 1
  levels (literal n) = 1
  levels (variable v) = 1
  levels (global g) = 1
  levels (set_global g e) = 1 + levels e
  levels (define g e) = 1 + levels e
  levels (branch a b c) = 1 + max (levels a) (max (levels b) (levels c))
  levels (sequence es) = 1 + levels_each es
  levels (bind site first es e) = 1 + max (levels_each es) (levels e)
  levels (make_closure m) = 1
  levels (fix_closures first ms e) = 1 + levels e
  levels (call site spread f es) = 1 + max (levels f) (levels_each es)
  levels (operation site which es) = 1 + levels_each es
  levels (new_cells cs e) = 1 + levels e
  levels (cell_get v) = 1
  levels (cell_set v e) = 1 + levels e

  pub levels_each : Trees → ℕ
  levels_each no_trees = 0
  levels_each (and_tree e es) = max (levels e) (levels_each es)
