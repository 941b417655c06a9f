-- The plain data of a program of the program's type, from its parts.
use Rattle.std.specs.Prelude.{ℕ, List, [], ◌∷◌}
use Rattle.sch_word.specs.declared.statics.Statics.{Statics}
use Rattle.sch_word.specs.values.StaticsView as view
use Rattle.sch_control.specs.declared.body.Body.{Body}
use Rattle.sch_control.specs.Tree.{Code, Source}
use Rattle.sch_control.specs.View.{code}

abbrev pub code_of : Body → Code
code_of b = code b.name b.entry b.variables b.exp

abbrev pub codes_of : List Body → List Code
codes_of [] = []
codes_of (b ∷ bodies) = code_of b ∷ codes_of bodies

abbrev pub source_of : Statics → List ℕ → List Body → List ℕ → List (List ℕ) → Source
source_of statics library bodies sites bound = record {
  statics = view.statics statics;
  library = library;
  bodies = codes_of bodies;
  sites = sites;
  bound = bound;
}
