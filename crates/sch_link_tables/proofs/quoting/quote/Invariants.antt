use Rattle.std.proofs.Common.{◌≡◌, List, [], ◌∷◌, length}
use Rattle.sch_word.specs.values.MadeView.{made}
use Rattle.sch_word.proofs.facts.TreesInOrder.{ComeBefore}
use Rattle.sch_read.specs.Grammar.{Datum}
use Rattle.sch_read.specs.DatumParts.{parts, lent_trees}
use Rattle.sch_read.specs.Views.{tree_of}
use Rattle.sch_names.specs.NamesView.{names_of}
use Rattle.sch_link_tables.proofs.QuoteSteps.{quoted}
use Rattle.sch_link_tables.proofs.quoting.quote.Given as goal

-- the literals are those of data behind the ones that are left
abbrev pub invariant-each : goal.invariant-each
invariant-each l = (there : List Datum) × (made l.literals ≡ quoted (names_of l.symbols) there) × ComeBefore parts (lent_trees l.order) there (tree_of l.d ∷ [])

abbrev pub decreases-each : goal.decreases-each
decreases-each l = length l.order
