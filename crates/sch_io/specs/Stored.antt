-- Files that lie one after another in a text.
use Rattle.std.specs.Prelude.{◌≤◌, ℕ, List, map, length, slice_range}
use Rattle.std.specs.FinMap.{empty}
use Rattle.sch_io.specs.Files.{Files, written}
use Rattle.sch_io.specs.declared.mem_disk.Entry.{Entry}

-- an entry's file: a name, and the bytes after it
abbrev pub file_of : List ℕ → Entry → List ℕ × List ℕ
file_of text entry = (slice_range text entry.name_at entry.bytes_at, slice_range text entry.bytes_at entry.end)

-- the files of the entries, each of which replaced those of its name before it
abbrev pub files_of : List ℕ → List Entry → Files
files_of text entries = written empty (map (file_of text) entries)

pub record LiesWithin (text : List ℕ) (entry : Entry) : Type 0 where
  pub name : entry.name_at ≤ entry.bytes_at
  pub bytes : entry.bytes_at ≤ entry.end
  pub whole : entry.end ≤ length text
