use Rattle.std.proofs.Common.{◌≡◌, ◌++◌, ◌||◌, ℕ, List, drop, length, map, reverse}
use Rattle.sch_names.specs.Scope.{is_among}
use Rattle.sch_names.specs.NamesView.{names_of}
use Rattle.sch_link_tables.specs.Named.{library_global}
use Rattle.sch_link_tables.specs.Programs.{kept, globals_of_each}
use Rattle.sch_link_program.specs.Definitions.{definitions_of, kept_definitions}
use Rattle.sch_link_program.proofs.keeping.kept.Given as goal

abbrev pub invariant-loop-left : goal.invariant-loop-left
invariant-loop-left l = record {
  whole : l.left ++ drop (length l.left) l.definitions ≡ l.definitions;
  names :
      (x : List ℕ) → is_among x (names_of l.asked.named.now ++ names_of l.wanted.globals.names)
      ≡ (is_among x (names_of l.asked.named.now) || is_among x (globals_of_each (kept (definitions_of (drop (length l.left) l.definitions)) (names_of l.asked.named.now ++ map library_global (names_of l.asked.held.now)))));
  list : reverse (kept_definitions l.all) ≡ kept (definitions_of (drop (length l.left) l.definitions)) (names_of l.asked.named.now ++ map library_global (names_of l.asked.held.now));
}

abbrev pub decreases-loop-left : goal.decreases-loop-left
decreases-loop-left l = length l.left
