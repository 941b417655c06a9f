-- Sound drafts: variables are bound, nodes have the parts that they must have and no more than they may have,
-- and the inits of a group of procedures are such. And how deep drafts are nested.
use Rattle.std.specs.Prelude.{◌≡◌, ◌≤◌, ◌<◌, ◌+◌, ℕ, max, Bool, true, false}
use Rattle.sch_word.specs.trees.Shape.{max_operands}
use Rattle.sch_word.specs.values.Literals.{constant_known}
use Rattle.sch_word.specs.values.Primitives.{operands_of}
use Rattle.sch_sketch.specs.Draft.{Draft, Drafts, constant, symbol, literal, local, global, set_local, set_global, define, branch, sequence, bind, letrec, lambda, call, operation}
use Rattle.sch_sketch.specs.Draft.{no_drafts, and_draft, count}

abbrev pub IsProcedure : Draft → Type 0
IsProcedure (lambda n r e) = Unit {0}
IsProcedure _ = ⊥

abbrev pub AreProcedures : Drafts → Type 0
AreProcedures no_drafts = Unit {0}
AreProcedures (and_draft e es) = IsProcedure e × AreProcedures es

abbrev pub AreProceduresIf : Bool → Drafts → Type 0
AreProceduresIf true es = AreProcedures es
AreProceduresIf false es = Unit {0}

-- a variable that takes the rest is one of the formals
abbrev pub HasRest : (rest : Bool) → (formals : ℕ) → Type 0
HasRest true n = 1 ≤ n
HasRest false n = Unit {0}

-- a draft where this number of variables is bound
abbrev mutual
  pub IsSound : (bound : ℕ) → Draft → Type 0
  IsSound bound (constant c) = constant_known 0 c ≡ true
  IsSound bound (symbol x) = Unit {0}
  IsSound bound (literal d) = Unit {0}
  IsSound bound (local k) = k < bound
  IsSound bound (global x) = Unit {0}
  IsSound bound (set_local k e) = (k < bound) × IsSound bound e
  IsSound bound (set_global x e) = IsSound bound e
  IsSound bound (define x e) = IsSound bound e
  IsSound bound (branch a b c) = IsSound bound a × IsSound bound b × IsSound bound c
  IsSound bound (sequence es) = (1 ≤ count es) × AreSound bound es
  IsSound bound (bind vs es e) = (count es ≤ max_operands) × AreSound bound es × IsSound (bound + count es) e
  IsSound bound (letrec vs p es e) =
      (count es ≤ max_operands) × AreProceduresIf p es × AreSound (bound + count es) es × IsSound (bound + count es) e
  IsSound bound (lambda n r e) = HasRest r n × (n ≤ max_operands) × IsSound (bound + n) e
  IsSound bound (call vs f es) = (count es ≤ max_operands) × IsSound bound f × AreSound bound es
  IsSound bound (operation p es) = (count es ≡ operands_of p) × AreSound bound es

  pub AreSound : (bound : ℕ) → Drafts → Type 0
  AreSound bound no_drafts = Unit {0}
  AreSound bound (and_draft e es) = IsSound bound e × AreSound bound es

abbrev mutual
  pub levels : Draft → ℕ
  levels (constant c) = 1
  levels (symbol x) = 1
  levels (literal d) = 1
  levels (local k) = 1
  levels (global x) = 1
  levels (set_local k e) = 1 + levels e
  levels (set_global x e) = 1 + levels e
  levels (define x e) = 1 + levels e
  levels (branch a b c) = 1 + max (levels a) (max (levels b) (levels c))
  levels (sequence es) = 1 + levels_each es
  levels (bind vs es e) = 1 + max (levels_each es) (levels e)
  levels (letrec vs p es e) = 1 + max (levels_each es) (levels e)
  levels (lambda n r e) = 1 + levels e
  levels (call vs f es) = 1 + max (levels f) (levels_each es)
  levels (operation p es) = 1 + levels_each es

  pub levels_each : Drafts → ℕ
  levels_each no_drafts = 0
  levels_each (and_draft e es) = max (levels e) (levels_each es)
