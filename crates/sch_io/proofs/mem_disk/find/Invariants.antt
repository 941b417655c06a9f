use Rattle.std.proofs.Common.{◌≡◌, take}
use Rattle.std.specs.Prelude.{IfSome}
use Rattle.std.specs.Option.{option_map}
use Rattle.std.specs.FinMap.{get}
use Rattle.sch_io.specs.Stored.{LiesWithin, file_of, files_of}
use Rattle.sch_io.proofs.mem_disk.find.Given as goal

abbrev pub invariant-loop-entry : goal.invariant-loop-entry
invariant-loop-entry l = IfSome l.found (LiesWithin l.text)
    × (get (files_of l.text (take l.entry-index l.entries)) l.name ≡ option_map (λ entry. (file_of l.text entry).1) l.found)
