-- How many variables belong to a Rec. Each gets a cell, and its value is bound to a variable before.
use Rattle.std.specs.Prelude.{ℕ, ◌+◌}
use Rattle.sch_word.specs.trees.Shape as shapes
use Rattle.sch_word.specs.trees.Shape.{Shape}
use Rattle.sch_cells.specs.Tree.{Source}
use Rattle.sch_cells.specs.Measures.{over_source, shape}

abbrev pub recursive_in : Shape → ℕ
recursive_in (shapes.letrec site inits) = inits
recursive_in _ = 0

abbrev pub recursive_of : Source → ℕ
recursive_of p = over_source 0 (λ a b. a + b) (λ e. recursive_in (shape e)) p
