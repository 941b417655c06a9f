use Rattle.std.proofs.Common.{◌≡◌, ◌++◌, drop, map, reverse}
use Rattle.sch_names.specs.ScopeView.{given_names}
use Rattle.sch_sketch.specs.DraftView.{draft_of}
use Rattle.sch_core.specs.LibraryDefinitions.{AreNamedProcedures}
use Rattle.sch_core.proofs.items.DefinitionSteps.{defined, procedures}
use Rattle.sch_core.proofs.definitions.definitions.Given as goal

abbrev pub invariant-loop-name : goal.invariant-loop-name
invariant-loop-name l = record {
  named : defined l.all ++ given_names (drop l.name-index l.names) ≡ given_names l.names;
  made : procedures l.all ++ map draft_of (reverse l.left) ≡ map draft_of l.fn.drafts;
  whole : AreNamedProcedures (given_names (drop l.name-index l.names)) (map draft_of (reverse l.left));
}
