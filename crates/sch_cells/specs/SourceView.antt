-- The plain data of a program, from its parts.
use Rattle.std.specs.Prelude.{ℕ, List}
use Rattle.sch_word.specs.declared.statics.Statics as declared
use Rattle.sch_word.specs.values.StaticsView.{statics}
use Rattle.sch_cells.specs.declared.tree.Exp.{Exp}
use Rattle.sch_cells.specs.declared.tree.Lambda.{Lambda}
use Rattle.sch_cells.specs.Tree.{Source}
use Rattle.sch_cells.specs.View.{trees_of, lambdas_of}

abbrev pub source_of : declared.Statics → List Lambda → List Exp → List ℕ → ℕ → Source
source_of ready library forms sites variables = record {
  statics = statics ready;
  library = lambdas_of library;
  forms = trees_of forms;
  sites = sites;
  variables = variables;
}
