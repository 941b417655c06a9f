-- How many nodes and bytes the symbols, the literals and the globals of a draft take.
use Rattle.std.specs.Prelude.{◌+◌, ℕ, length}
use Rattle.sch_sketch.specs.Draft.{Draft, Drafts, symbol, literal, global, set_global, define}
use Rattle.sch_sketch.specs.DraftMeasures.{over, over_each}
use Rattle.sch_sketch.specs.Measure.{literal_size}

-- a symbol and a global are a node each, and a symbol has its name; each name is counted as often as it stands
abbrev pub statics_here : Draft → ℕ
statics_here (symbol x) = 1 + length x
statics_here (literal d) = literal_size d
statics_here (global x) = 1
statics_here (set_global x e) = 1
statics_here (define x e) = 1
statics_here _ = 0

abbrev pub statics_in : Draft → ℕ
statics_in = over 0 (λ a b. a + b) statics_here

abbrev pub statics_in_each : Drafts → ℕ
statics_in_each = over_each 0 (λ a b. a + b) statics_here
