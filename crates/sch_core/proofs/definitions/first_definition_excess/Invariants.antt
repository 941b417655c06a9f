use Rattle.std.proofs.Common.{◌≡◌, drop}
use Rattle.sch_read.specs.Views.{data_of}
use Rattle.sch_link_program.specs.Definitions.{definitions_of}
use Rattle.sch_toplevel.specs.Items.{item_places}
use Rattle.sch_core.specs.Excess.{first_definition_excess}
use Rattle.sch_core.proofs.definitions.first_definition_excess.Given as goal

abbrev pub invariant-loop-i : goal.invariant-loop-i
invariant-loop-i l = first_definition_excess (item_places (data_of (drop l.i l.items))) (definitions_of (drop l.i l.definitions)) ≡ first_definition_excess (item_places (data_of l.items)) (definitions_of l.definitions)
