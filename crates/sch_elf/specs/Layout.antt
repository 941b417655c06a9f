-- How the segments of an image lie in memory.
use Rattle.std.specs.Prelude.{◌≤◌, ◌<◌, ℕ, ◌+◌, ◌^◌, List, ◌++◌, length, map, sum_by, replicate, All, AllPairs}
use Rattle.sch_word.specs.values.Memory as words
use Rattle.sch_elf.specs.Constants.{max_image_size, max_segments}
use Rattle.sch_elf.specs.declared.image.Segment.{Segment}

-- the size of a segment in memory, in bytes
abbrev pub size_of : Segment → ℕ
size_of segment = length segment.bytes + segment.zeros

-- the address after its last byte
abbrev pub end_of : Segment → ℕ
end_of segment = segment.address + size_of segment

-- no address lies in both
abbrev pub AreApart : Segment → Segment → Type 0
AreApart one other = (address : ℕ) → one.address ≤ address → address < end_of one → other.address ≤ address → address < end_of other → ⊥

-- What every image keeps: it has at most 8 segments, no two overlap, none goes past the lower half of
-- the address space, and together they have at most 3 GiB.
pub record IsImageLayout (segments : List Segment) : Type 0 where
  pub few : length segments ≤ max_segments
  pub apart : AllPairs AreApart segments
  pub ends : All (λ segment. end_of segment ≤ 2 ^ 47) segments
  pub total : sum_by size_of segments ≤ max_image_size

-- the memory that a segment starts with: its bytes and then its zeros
abbrev pub memory_of : Segment → words.Segment
memory_of segment = record {
  address = segment.address;
  readable = segment.read;
  writable = segment.write;
  executable = segment.execute;
  bytes = segment.bytes ++ replicate segment.zeros 0;
}

abbrev pub memory : List Segment → List words.Segment
memory segments = map memory_of segments
