use Rattle.std.proofs.Common.{◌+◌, List, length}
use Rattle.sch_word.specs.values.Literals.{Literal}
use Rattle.sch_word.specs.values.LiteralParts.{parts, plain, lent}
use Rattle.sch_word.specs.values.LiteralView.{literals_of}
use Rattle.sch_word.proofs.facts.TreesInOrder.{ComeBefore}
use Rattle.sch_select_data.specs.PlacedView.{ArePut}
use Rattle.sch_select_data.specs.PlacedWords.{units_in_each}
use Rattle.sch_select_data.proofs.placing.put_literals.Given as goal

-- the literals behind those that are left are put
abbrev pub invariant-each : goal.invariant-each
invariant-each l = (there : List Literal) × ComeBefore parts (lent l.order) there (plain l.literals)
    × ArePut there (l.first_unit + units_in_each (literals_of l.literals)) l.placed

abbrev pub decreases-each : goal.decreases-each
decreases-each l = length l.order
