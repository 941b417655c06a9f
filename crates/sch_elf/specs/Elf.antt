-- The headers of an ELF-64 file (ELF-64 Object File Format, version 1.5, "File header" and "Program
-- header"; System V ABI, AMD64 supplement).
use Rattle.std.specs.Prelude.{ℕ, zero, suc, ◌+◌, ◌*◌, ◌==◌, List, [], ◌∷◌, Bool}
use Rattle.sch_elf.specs.Constants.{PT_LOAD, program_header_size}
use Rattle.sch_elf.specs.Numbers.{number}
use Rattle.sch_elf.specs.declared.header.FileHeader.{FileHeader}
use Rattle.sch_elf.specs.declared.header.ProgramHeader.{ProgramHeader}

-- the file header (Elf64_Ehdr)
abbrev pub file_header : List ℕ → FileHeader
file_header file = record {
  e_type = number 2 16 file;
  e_machine = number 2 18 file;
  e_version = number 4 20 file;
  e_entry = number 8 24 file;
  e_phoff = number 8 32 file;
  e_flags = number 4 48 file;
  e_ehsize = number 2 52 file;
  e_phentsize = number 2 54 file;
  e_phnum = number 2 56 file;
}

-- the program header (Elf64_Phdr) at a place
abbrev pub program_header : List ℕ → ℕ → ProgramHeader
program_header file place = record {
  p_type = number 4 place file;
  p_flags = number 4 (place + 4) file;
  p_offset = number 8 (place + 8) file;
  p_vaddr = number 8 (place + 16) file;
  p_paddr = number 8 (place + 24) file;
  p_filesz = number 8 (place + 32) file;
  p_memsz = number 8 (place + 40) file;
  p_align = number 8 (place + 48) file;
}

-- the place of the program header of this number
abbrev pub header_place : List ℕ → ℕ → ℕ
header_place file i = (file_header file).e_phoff + program_header_size * i

-- `count` program headers from a place on
abbrev pub headers_from : List ℕ → ℕ → ℕ → List ProgramHeader
headers_from file place zero = []
headers_from file place (suc count) = program_header file place ∷ headers_from file (place + program_header_size) count

-- the program headers before the one of this number
abbrev pub first_headers : List ℕ → ℕ → List ProgramHeader
first_headers file count = headers_from file (file_header file).e_phoff count

-- the segment is loaded
abbrev pub is_load : ProgramHeader → Bool
is_load header = header.p_type == PT_LOAD
