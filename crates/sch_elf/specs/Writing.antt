-- The bytes of an image as they are written.
use Rattle.std.specs.Prelude.{ℕ, ◌+◌, ◌-◌, ◌*◌, ◌%◌, List, [], ◌∷◌, ◌++◌, length, replicate, if◌then◌else◌}
use Rattle.std.specs.List.{flat_map}
use Rattle.byteorder.specs.Endian.{little_bytes}
use Rattle.sch_elf.specs.Constants.{EM_X86_64, ET_EXEC, EV_CURRENT, PF_R, PF_W, PF_X, PT_LOAD, file_header_size, identification, page_size, program_header_size}
use Rattle.sch_elf.specs.declared.header.ProgramHeader.{ProgramHeader}
use Rattle.sch_elf.specs.Layout.{size_of}
use Rattle.sch_elf.specs.declared.image.Segment.{Segment}
use Rattle.sch_elf.specs.declared.image.Image.{Image}

-- fields one after another, each a size and a number
abbrev pub fields : List (ℕ × ℕ) → List ℕ
fields [] = []
fields (field ∷ more) = little_bytes field.0 field.1 ++ fields more

-- the file header, with `count` program headers right after it and no section headers
abbrev pub file_header_bytes : ℕ → ℕ → List ℕ
file_header_bytes entry count =
    identification ++ (replicate 9 0
    ++ (fields ((2, ET_EXEC) ∷ (2, EM_X86_64) ∷ (4, EV_CURRENT) ∷ (8, entry) ∷ [])
    ++ (fields ((8, file_header_size) ∷ (8, 0) ∷ (4, 0) ∷ (2, file_header_size) ∷ [])
    ++ fields ((2, program_header_size) ∷ (2, count) ∷ (2, 0) ∷ (2, 0) ∷ (2, 0) ∷ []))))

abbrev pub program_header_bytes : ProgramHeader → List ℕ
program_header_bytes header =
    fields ((4, header.p_type) ∷ (4, header.p_flags) ∷ (8, header.p_offset) ∷ (8, header.p_vaddr) ∷ [])
    ++ fields ((8, header.p_paddr) ∷ (8, header.p_filesz) ∷ (8, header.p_memsz) ∷ (8, header.p_align) ∷ [])

-- the rights, as p_flags
abbrev pub flags_of : Segment → ℕ
flags_of segment = (if segment.execute then PF_X else 0) + (if segment.write then PF_W else 0) + (if segment.read then PF_R else 0)

-- the PT_LOAD header of a segment whose bytes stand at an offset
abbrev pub load : ℕ → Segment → ProgramHeader
load offset segment = record {
  p_type = PT_LOAD;
  p_flags = flags_of segment;
  p_offset = offset;
  p_vaddr = segment.address;
  p_paddr = segment.address;
  p_filesz = length segment.bytes;
  p_memsz = size_of segment;
  p_align = page_size;
}

-- the least offset from `end` on that equals the address modulo the size of a page
abbrev pub offset_from : ℕ → ℕ → ℕ
offset_from end address = end + (address % page_size + (page_size - end % page_size)) % page_size

-- the headers of the segments, whose bytes are placed from `end` on
abbrev pub placed : ℕ → List Segment → List ProgramHeader
placed end [] = []
placed end (segment ∷ more) =
    load (offset_from end segment.address) segment ∷ placed (offset_from end segment.address + length segment.bytes) more

-- their bytes, with zeros in the gaps
abbrev pub contents : ℕ → List Segment → List ℕ
contents end [] = []
contents end (segment ∷ more) =
    replicate (offset_from end segment.address - end) 0
    ++ (segment.bytes ++ contents (offset_from end segment.address + length segment.bytes) more)

-- where the headers end
abbrev pub start : List Segment → ℕ
start segments = file_header_size + program_header_size * length segments

abbrev pub image_bytes : Image → List ℕ
image_bytes image =
    file_header_bytes image.entry (length image.segments)
    ++ (flat_map program_header_bytes (placed (start image.segments) image.segments) ++ contents (start image.segments) image.segments)

-- as many bytes are enough for the contents, gaps included
abbrev pub need : List Segment → ℕ
need [] = 0
need (segment ∷ more) = page_size + length segment.bytes + need more
