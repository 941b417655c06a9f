-- Which image the bytes of a file stand for.
use Rattle.std.specs.Prelude.{◌≡◌, ◌≢◌, ◌≤◌, ◌<◌, ℕ, ◌+◌, ◌-◌, ◌/◌, ◌%◌, ◌^◌, ◌==◌, Bool, List, length, take, drop, map, filter, sum_by, All}
use Rattle.sch_elf.specs.Constants.{EM_X86_64, ET_EXEC, EV_CURRENT, PF_R, PF_W, PF_X, PT_DYNAMIC, PT_INTERP, PT_LOAD, file_header_size, identification}
use Rattle.sch_elf.specs.Constants.{max_image_size, max_program_headers, max_segments, program_header_size}
use Rattle.sch_elf.specs.Elf.{file_header, program_header, header_place, first_headers, is_load}
use Rattle.sch_elf.specs.declared.header.ProgramHeader.{ProgramHeader}
use Rattle.sch_elf.specs.declared.header.FileHeader.{FileHeader}
use Rattle.sch_elf.specs.declared.image.Segment.{Segment}
use Rattle.sch_elf.specs.declared.image.Image.{Image}

-- an executable for x86-64, of the current version and without flags, with the header sizes of ELF-64
-- and 1 to 16 program headers
pub record IsForThisMachine (header : FileHeader) : Type 0 where
  pub executable : header.e_type ≡ ET_EXEC
  pub machine : header.e_machine ≡ EM_X86_64
  pub version : header.e_version ≡ EV_CURRENT
  pub no_flags : header.e_flags ≡ 0
  pub header_size : header.e_ehsize ≡ file_header_size
  pub entry_size : header.e_phentsize ≡ program_header_size
  pub some : 0 < header.e_phnum
  pub few : header.e_phnum ≤ max_program_headers

-- no address lies in the memory of both
abbrev pub DoNotOverlap : ProgramHeader → ProgramHeader → Type 0
DoNotOverlap one other = (address : ℕ) → one.p_vaddr ≤ address → address < one.p_vaddr + one.p_memsz → other.p_vaddr ≤ address → address < other.p_vaddr + other.p_memsz → ⊥

-- What is asked of a PT_LOAD header in a file of `size` bytes, by the PT_LOAD headers before it.
pub record IsLoadable (size : ℕ) (earlier : List ProgramHeader) (header : ProgramHeader) : Type 0 where
  pub fills : header.p_filesz ≤ header.p_memsz
  pub inside : header.p_offset + header.p_filesz ≤ size
  pub aligned : 1 < header.p_align → header.p_vaddr % header.p_align ≡ header.p_offset % header.p_align
  pub ends : header.p_vaddr + header.p_memsz ≤ 2 ^ 47
  pub apart : All (λ other. DoNotOverlap other header) earlier
  pub few : length earlier < max_segments

-- What is asked of the program header of this number: it lies in the file, it is neither PT_DYNAMIC
-- nor PT_INTERP, and a PT_LOAD is loadable.
pub record IsSound (file : List ℕ) (i : ℕ) : Type 0 where
  pub whole : header_place file i + program_header_size ≤ length file
  pub not_dynamic : (program_header file (header_place file i)).p_type ≢ PT_DYNAMIC
  pub no_interpreter : (program_header file (header_place file i)).p_type ≢ PT_INTERP
  pub loadable : (program_header file (header_place file i)).p_type ≡ PT_LOAD →
      IsLoadable (length file) (filter is_load (first_headers file i)) (program_header file (header_place file i))

-- the PT_LOAD headers of a file
abbrev pub loads : List ℕ → List ProgramHeader
loads file = filter is_load (first_headers file (file_header file).e_phnum)

-- whether this bit of p_flags is set: PF_X, PF_W or PF_R
abbrev pub has_flag : ℕ → ProgramHeader → Bool
has_flag bit header = header.p_flags / bit % 2 == 1

-- the segment of a PT_LOAD header: p_filesz bytes of the file from p_offset on, and zeros up to p_memsz
abbrev pub file_segment : List ℕ → ProgramHeader → Segment
file_segment file header = record {
  address = header.p_vaddr;
  read = has_flag PF_R header;
  write = has_flag PF_W header;
  execute = has_flag PF_X header;
  bytes = take header.p_filesz (drop header.p_offset file);
  zeros = header.p_memsz - header.p_filesz;
}

-- The file stands for the image: it is an executable for this machine, each of its program headers is
-- sound, and the image has its entry and, for each PT_LOAD in order, a segment. Headers of other
-- types, section fields, bytes 7 to 15, p_paddr and other bits of p_flags do not matter.
pub record StandsFor (file : List ℕ) (image : Image) : Type 0 where
  pub long : file_header_size ≤ length file
  pub elf : take 7 file ≡ identification
  pub machine : IsForThisMachine (file_header file)
  pub headers : (i : ℕ) → i < (file_header file).e_phnum → IsSound file i
  pub total : sum_by (λ header. header.p_memsz) (loads file) ≤ max_image_size
  pub entry : image.entry ≡ (file_header file).e_entry
  pub segments : image.segments ≡ map (file_segment file) (loads file)
