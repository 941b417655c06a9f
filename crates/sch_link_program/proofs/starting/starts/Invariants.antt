use Rattle.std.proofs.Common.{◌≡◌, ◌++◌, drop}
use Rattle.sch_names.specs.NamesView.{names_of}
use Rattle.sch_link_tables.specs.Programs.{starts}
use Rattle.sch_link_program.specs.Definitions.{kept_definitions}
use Rattle.sch_link_program.proofs.starting.starts.Given as goal

abbrev pub invariant-loop-global : goal.invariant-loop-global
invariant-loop-global l = l.all ++ starts (kept_definitions l.definitions) (names_of l.held) (drop l.global-index l.globals) ≡ starts (kept_definitions l.definitions) (names_of l.held) l.globals
