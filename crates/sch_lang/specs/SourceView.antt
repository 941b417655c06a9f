-- The plain data of a program of the program's type, from its parts.
use Rattle.std.specs.Prelude.{ℕ, List, Option}
use Rattle.sch_word.specs.declared.literal.Lit.{Lit}
use Rattle.sch_word.specs.values.LiteralView.{literals_of}
use Rattle.sch_lang.specs.declared.tree.Exp.{Exp}
use Rattle.sch_lang.specs.declared.tree.Lambda.{Lambda}
use Rattle.sch_lang.specs.Tree.{Source}
use Rattle.sch_lang.specs.View.{expressions_of, lambdas_of}

abbrev pub source_of : List (List ℕ) → List Lit → List (Option ℕ) → List Lambda → List Exp → List ℕ → Source
source_of symbols literals globals library forms sites = record {
  statics = record { symbols = symbols; literals = literals_of literals; globals = globals };
  library = lambdas_of library;
  forms = expressions_of forms;
  sites = sites;
}
