-- The constants of ELF-64 by their names (ELF-64 Object File Format, version 1.5; System V ABI, AMD64
-- supplement), and the limits on what is read and written.
use Rattle.std.specs.Prelude.{ℕ, List, [], ◌∷◌}

-- e_ident: the magic number, then EI_CLASS, EI_DATA and EI_VERSION; in all there are EI_NIDENT bytes
abbrev pub ELFCLASS64 : ℕ
ELFCLASS64 = 2

abbrev pub ELFDATA2LSB : ℕ
ELFDATA2LSB = 1

abbrev pub EV_CURRENT : ℕ
EV_CURRENT = 1

-- 0x7F and "ELF", in this class, this data encoding and this version
abbrev pub identification : List ℕ
identification = 0x7F ∷ 0x45 ∷ 0x4C ∷ 0x46 ∷ ELFCLASS64 ∷ ELFDATA2LSB ∷ EV_CURRENT ∷ []

-- e_type and e_machine
abbrev pub ET_EXEC : ℕ
ET_EXEC = 2

abbrev pub EM_X86_64 : ℕ
EM_X86_64 = 62

-- p_type
abbrev pub PT_LOAD : ℕ
PT_LOAD = 1

abbrev pub PT_DYNAMIC : ℕ
PT_DYNAMIC = 2

abbrev pub PT_INTERP : ℕ
PT_INTERP = 3

-- the bits of p_flags
abbrev pub PF_X : ℕ
PF_X = 0x1

abbrev pub PF_W : ℕ
PF_W = 0x2

abbrev pub PF_R : ℕ
PF_R = 0x4

-- the sizes in bytes of Elf64_Ehdr and Elf64_Phdr
abbrev pub file_header_size : ℕ
file_header_size = 64

abbrev pub program_header_size : ℕ
program_header_size = 56

-- the size in bytes of a page
abbrev pub page_size : ℕ
page_size = 0x1000

abbrev pub max_program_headers : ℕ
max_program_headers = 16

abbrev pub max_segments : ℕ
max_segments = 8

-- the most bytes of memory that all segments of an image have together: 3 GiB
abbrev pub max_image_size : ℕ
max_image_size = 0xC0000000
