-- The plain data of a program, from its parts.
use Rattle.std.specs.Prelude.{ℕ, List, map}
use Rattle.sch_word.specs.declared.statics.Statics.{Statics}
use Rattle.sch_word.specs.values.StaticsView.{statics}
use Rattle.sch_flat.specs.declared.tree.Body.{Body}
use Rattle.sch_flat.specs.declared.tree.Exp.{Exp}
use Rattle.sch_flat.specs.Tree.{Source}
use Rattle.sch_flat.specs.View.{trees_of, body}

abbrev pub source_of : Statics → List ℕ → List Body → List Exp → List ℕ → List ℕ → Source
source_of ready library bodies forms starts sites = record {
  statics = statics ready;
  library = library;
  bodies = map body bodies;
  forms = trees_of forms;
  starts = starts;
  sites = sites;
}
