use Rattle.std.proofs.Common.{◌≡◌, take, map}
use Rattle.std.specs.Prelude.{All}
use Rattle.sch_io.specs.Stored.{LiesWithin, file_of}
use Rattle.sch_io.proofs.mem_disk.fill.Given as goal

abbrev pub invariant-loop-name : goal.invariant-loop-name
invariant-loop-name l = All (LiesWithin l.text.items) l.entries.items
    × (map (file_of l.text.items) l.entries.items ≡ take l.name-index l.files)
