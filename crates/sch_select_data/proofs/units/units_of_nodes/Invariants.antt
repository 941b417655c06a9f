use Rattle.std.proofs.Common.{◌≡◌, ◌+◌, drop}
use Rattle.std.specs.Prelude.{sum_by}
use Rattle.sch_word.specs.values.LiteralParts.{lent}
use Rattle.sch_select_data.specs.PlacedWords.{own_units}
use Rattle.sch_select_data.proofs.units.units_of_nodes.Given as goal

abbrev pub invariant-loop-l : goal.invariant-loop-l
invariant-loop-l l = l.units + sum_by own_units (lent (drop l.l-index l.nodes)) ≡ sum_by own_units (lent l.nodes)
