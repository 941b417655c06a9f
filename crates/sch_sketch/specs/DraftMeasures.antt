-- What is gathered over a draft: any measure of its nodes, and its size.
use Rattle.std.specs.Prelude.{ℕ, ◌+◌}
use Rattle.sch_sketch.specs.Draft.{Draft, Drafts, constant, symbol, literal, local, global, set_local, set_global, define, branch, sequence, bind, letrec, lambda, call, operation, no_drafts, and_draft, count}

-- A measure of nodes over a whole draft: `here` at each node, the outer before the inner, in the order of the
-- text, joined.
module _ {A : Type 0} (nothing : A) (join : A → A → A) (here : Draft → A) where
  abbrev mutual
    pub over : Draft → A
    over (constant c) = here (constant c)
    over (symbol x) = here (symbol x)
    over (literal d) = here (literal d)
    over (local k) = here (local k)
    over (global x) = here (global x)
    over (set_local k e) = join (here (set_local k e)) (over e)
    over (set_global x e) = join (here (set_global x e)) (over e)
    over (define x e) = join (here (define x e)) (over e)
    over (branch a b c) = join (here (branch a b c)) (join (over a) (join (over b) (over c)))
    over (sequence es) = join (here (sequence es)) (over_each es)
    over (bind vs es e) = join (here (bind vs es e)) (join (over_each es) (over e))
    over (letrec vs p es e) = join (here (letrec vs p es e)) (join (over_each es) (over e))
    over (lambda n r e) = join (here (lambda n r e)) (over e)
    over (call vs f es) = join (here (call vs f es)) (join (over f) (over_each es))
    over (operation p es) = join (here (operation p es)) (over_each es)

    pub over_each : Drafts → A
    over_each no_drafts = nothing
    over_each (and_draft e es) = join (over e) (over_each es)

-- ## Sizes

-- a node, and the variables that it binds
abbrev pub node_and_bound : Draft → ℕ
node_and_bound (bind vs es e) = 1 + count es
node_and_bound (letrec vs p es e) = 1 + count es
node_and_bound (lambda n r e) = 1 + n
node_and_bound _ = 1

-- the nodes and the bound variables
abbrev pub size : Draft → ℕ
size = over 0 (λ a b. a + b) node_and_bound

abbrev pub size_each : Drafts → ℕ
size_each = over_each 0 (λ a b. a + b) node_and_bound
