use Rattle.std.proofs.Common.{◌≡◌, ℕ, List, ◌||◌, ◌&&◌, drop}
use Rattle.sch_names.specs.Scope.{is_among}
use Rattle.sch_names.specs.NamesView.{names_of}
use Rattle.sch_link_tables.specs.Programs.{seen}
use Rattle.sch_link_program.specs.Definitions.{definitions_of}
use Rattle.sch_link_program.proofs.keeping.held.Given as goal

abbrev pub invariant-loop-d : goal.invariant-loop-d
invariant-loop-d l =
    (x : List ℕ) → (is_among x (names_of l.names) || (is_among x (names_of l.own) && is_among x (seen (definitions_of (drop l.d-index l.definitions))))) ≡ (is_among x (names_of l.own) && is_among x (seen (definitions_of l.definitions)))
