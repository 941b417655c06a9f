use Rattle.std.proofs.Common.{◌≡◌, ◌++◌, drop}
use Rattle.sch_link_tables.specs.Programs.{seen}
use Rattle.sch_toplevel.specs.Views.{given}
use Rattle.sch_link_program.specs.Definitions.{definitions_of}
use Rattle.sch_core.proofs.libraries.seen_names.Given as goal

abbrev pub invariant-loop-d : goal.invariant-loop-d
invariant-loop-d l = given l.names ++ seen (definitions_of (drop l.d-index l.definitions)) ≡ seen (definitions_of l.definitions)
