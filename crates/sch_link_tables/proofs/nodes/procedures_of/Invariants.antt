use Rattle.std.proofs.Common.{◌≡◌, length, map, reverse}
use Rattle.sch_lang.specs.View.{expressions_of, function}
use Rattle.sch_lang.proofs.ListViews.{left}
use Rattle.sch_link_tables.specs.Numbered.{procedures_of}
use Rattle.sch_link_tables.proofs.ProcedureLists.{onto}
use Rattle.sch_link_tables.proofs.nodes.procedures_of.Given as goal

abbrev pub invariant-loop-e : goal.invariant-loop-e
invariant-loop-e l = onto (map function l.all) (procedures_of (left (reverse l.left))) ≡ procedures_of (expressions_of l.fn.es)

abbrev pub decreases-loop-e : goal.decreases-loop-e
decreases-loop-e l = length l.left
