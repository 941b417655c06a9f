-- The rows of operations (R5RS 6.2.5, 6.3.1, 6.3.5 and 6.3.6): what is made of their operands.
use Rattle.std.specs.Prelude.{ℕ, zero, suc, ◌-◌, true, false}
use Rattle.sch_word.specs.declared.constant.Const.TheVariants.{Fixnum, Character}
use Rattle.sch_word.specs.declared.primitive.Primitive.{Primitive}
use Rattle.sch_word.specs.declared.primitive.Primitive.TheVariants.{MakeString}
use Rattle.sch_read.specs.Grammar.{Data, none, cons}
use Rattle.sch_read.specs.Parts.{how_many, offset}
use Rattle.sch_names.specs.declared.operation.Operation.{Operation}
use Rattle.sch_names.specs.declared.operation.Operation.TheVariants.{Exact, Unit, UnitAnd, Nested, Chained, Filled, Not}
use Rattle.sch_names.specs.Operations.{unit_of}
use Rattle.sch_sketch.specs.declared.fault.Fault.TheVariants.{BadForm}
use Rattle.sch_sketch.specs.declared.sketch.Row.TheVariants.{Chain, Join}
use Rattle.sch_sketch.specs.Draft.{constant, local}
use Rattle.sch_sketch.specs.Sketch.{Sketch, text, rest, wrong, leaf, node, no_sketch, and_sketch, choosing, binding, operating, nothing, but_one}
use Rattle.sch_sketch.specs.Small.{one, two, three, truth, texts, fresh_each}

abbrev pub unit : ℕ → Primitive → Sketch
unit at p = leaf at (constant (Fixnum (unit_of p)))

-- `(not a)`
abbrev pub denial : ℕ → Data → Sketch
denial at (cons a none) = node choosing at (three (text a) (truth at false) (truth at true))
denial at _ = wrong (BadForm at)

-- what a string or a vector is filled with, where no operand says it
abbrev pub filler : ℕ → Primitive → Sketch
filler at MakeString = leaf at (constant (Character 32))
filler at _ = leaf at nothing

-- Where operands are joined from the left or compared in a chain, they have variables: the last is nearest.
abbrev pub combination : Operation → ℕ → Data → Sketch
combination (Exact p) at xs = node (operating p) at (texts xs no_sketch)
combination (Unit p) at xs = unit at p
combination (UnitAnd p) at xs = node (operating p) at (and_sketch (unit at p) (texts xs no_sketch))
combination (Nested p) at xs = node (binding (fresh_each xs)) at (texts xs (one (rest (Join p (but_one (how_many xs)) (but_one (how_many xs))) at none none)))
combination (Chained p) at xs = node (binding (fresh_each xs)) at (texts xs (one (rest (Chain p) at xs none)))
combination (Filled p) at xs = node (operating p) at (texts xs (one (filler at p)))
combination Not at xs = denial at xs

-- The first operands, of which there are k more than one, joined from the left. The first of them has `far`
-- variables bound nearer, and each other one fewer than the one before it.
abbrev pub row_join : Primitive → (k far : ℕ) → ℕ → Sketch
row_join p zero far at = leaf at (local far)
row_join p (suc k) far at = node (operating p) at (two (rest (Join p k far) at none none) (leaf at (local (far - suc k))))

-- The operands from one on, each compared with the next: they are the nearest variables, so that of each has those after it nearer.
abbrev pub row_chain : Primitive → ℕ → Data → Sketch
row_chain p at (cons a (cons b none)) = node (operating p) at (two (leaf at (local 1)) (leaf at (local 0)))
row_chain p at (cons a (cons b (cons c xs))) =
    node choosing at (three (node (operating p) at (two (leaf at (local (how_many (cons b (cons c xs))))) (leaf at (local (how_many (cons c xs))))))
    (rest (Chain p) (offset b) (cons b (cons c xs)) none) (truth at false))
row_chain p at _ = wrong (BadForm at)
