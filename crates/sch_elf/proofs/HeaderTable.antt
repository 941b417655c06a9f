-- The headers of a file: what is written is read back, and what stands at each number.
use Rattle.std.proofs.Common.{◌≡◌, ℕ, zero, suc, ◌+◌, ◌*◌, ◌^◌, ◌≤◌, ◌<◌, List, [], ◌∷◌, ◌++◌, length, get_or, take, refl, ap, arith, sym, ◌∙◌, append_assoc, length-append}
use Rattle.std.specs.Prelude.{true, filter}
use Rattle.std.specs.List.{flat_map, AllByRecursion}
use Rattle.std.proofs.Math.Seq.{drop-append_seam, drop-append-add}
use Rattle.byteorder.specs.Endian.{little_number, little_bytes}
use Rattle.byteorder.specs.Numbers.{little_number-reads_back}
use Rattle.sch_elf.specs.Elf.{program_header, headers_from, is_load}
use Rattle.sch_elf.specs.Numbers.{number}
use Rattle.sch_elf.specs.declared.header.ProgramHeader.{ProgramHeader}
use Rattle.sch_elf.specs.Writing.{program_header_bytes}

-- what is answered in place of a header that is not there
pub no_header : ProgramHeader
no_header = record { p_type = 0; p_flags = 0; p_offset = 0; p_vaddr = 0; p_paddr = 0; p_filesz = 0; p_memsz = 0; p_align = 0 }

-- a number that was written is read back
pub reads : (size x : ℕ) → x < 256 ^ size → little_number size (little_bytes size x ++ []) ≡ x
reads size x h = little_number-reads_back size x [] h

-- the fields' numbers fit their sizes
pub record HasRoom (h : ProgramHeader) : Type 0 where
  pub kind : h.p_type < 256 ^ 4
  pub flags : h.p_flags < 256 ^ 4
  pub offset : h.p_offset < 256 ^ 8
  pub vaddr : h.p_vaddr < 256 ^ 8
  pub paddr : h.p_paddr < 256 ^ 8
  pub filesz : h.p_filesz < 256 ^ 8
  pub memsz : h.p_memsz < 256 ^ 8
  pub align : h.p_align < 256 ^ 8

at_front : (h : ProgramHeader) (rest : List ℕ) → HasRoom h → program_header (program_header_bytes h ++ rest) 0 ≡ h
at_front h rest room =
    let e0 : number 4 0 (program_header_bytes h ++ rest) ≡ h.p_type = reads 4 h.p_type room.kind in
    let e1 : number 4 4 (program_header_bytes h ++ rest) ≡ h.p_flags = reads 4 h.p_flags room.flags in
    let e2 : number 8 8 (program_header_bytes h ++ rest) ≡ h.p_offset = reads 8 h.p_offset room.offset in
    let e3 : number 8 16 (program_header_bytes h ++ rest) ≡ h.p_vaddr = reads 8 h.p_vaddr room.vaddr in
    let e4 : number 8 24 (program_header_bytes h ++ rest) ≡ h.p_paddr = reads 8 h.p_paddr room.paddr in
    let e5 : number 8 32 (program_header_bytes h ++ rest) ≡ h.p_filesz = reads 8 h.p_filesz room.filesz in
    let e6 : number 8 40 (program_header_bytes h ++ rest) ≡ h.p_memsz = reads 8 h.p_memsz room.memsz in
    let e7 : number 8 48 (program_header_bytes h ++ rest) ≡ h.p_align = reads 8 h.p_align room.align in
    λ i. record { p_type = e0 i; p_flags = e1 i; p_offset = e2 i; p_vaddr = e3 i; p_paddr = e4 i; p_filesz = e5 i; p_memsz = e6 i; p_align = e7 i }

shifted : (front xs : List ℕ) → program_header (front ++ xs) (length front) ≡ program_header xs 0
shifted front xs =
    let e0 : number 4 (length front) (front ++ xs) ≡ number 4 0 xs = ap (little_number 4) (drop-append_seam front xs) in
    let e1 : number 4 (length front + 4) (front ++ xs) ≡ number 4 4 xs = ap (little_number 4) (drop-append-add front xs 4) in
    let e2 : number 8 (length front + 8) (front ++ xs) ≡ number 8 8 xs = ap (little_number 8) (drop-append-add front xs 8) in
    let e3 : number 8 (length front + 16) (front ++ xs) ≡ number 8 16 xs = ap (little_number 8) (drop-append-add front xs 16) in
    let e4 : number 8 (length front + 24) (front ++ xs) ≡ number 8 24 xs = ap (little_number 8) (drop-append-add front xs 24) in
    let e5 : number 8 (length front + 32) (front ++ xs) ≡ number 8 32 xs = ap (little_number 8) (drop-append-add front xs 32) in
    let e6 : number 8 (length front + 40) (front ++ xs) ≡ number 8 40 xs = ap (little_number 8) (drop-append-add front xs 40) in
    let e7 : number 8 (length front + 48) (front ++ xs) ≡ number 8 48 xs = ap (little_number 8) (drop-append-add front xs 48) in
    λ i. record { p_type = e0 i; p_flags = e1 i; p_offset = e2 i; p_vaddr = e3 i; p_paddr = e4 i; p_filesz = e5 i; p_memsz = e6 i; p_align = e7 i }

header_read : (file front : List ℕ) (h : ProgramHeader) (rest : List ℕ) → file ≡ front ++ (program_header_bytes h ++ rest) → HasRoom h → program_header file (length front) ≡ h
header_read file front h rest e room = ap (λ f. program_header f (length front)) e ∙ shifted front (program_header_bytes h ++ rest) ∙ at_front h rest room

-- a table of headers that was written is read back
pub headers_read : (hs : List ProgramHeader) (file front rest : List ℕ) (place : ℕ) → place ≡ length front →
    file ≡ front ++ (flat_map program_header_bytes hs ++ rest) → AllByRecursion HasRoom hs → headers_from file place (length hs) ≡ hs
headers_read [] file front rest place p e room = refl
headers_read (h ∷ hs) file front rest place p e room =
    let after : List ℕ = flat_map program_header_bytes hs ++ rest in
    let split : file ≡ front ++ (program_header_bytes h ++ after) = e ∙ ap (λ t. front ++ t) (append_assoc (program_header_bytes h) (flat_map program_header_bytes hs) rest) in
    let here : program_header file place ≡ h = ap (program_header file) p ∙ header_read file front h after split room.0 in
    let size : length (program_header_bytes h) ≡ 56 = refl in
    let next : place + 56 ≡ length (front ++ program_header_bytes h) = omega (arith, p, size, length-append front (program_header_bytes h)) in
    let more : headers_from file (place + 56) (length hs) ≡ hs =
    headers_read hs file (front ++ program_header_bytes h) rest (place + 56) next (split ∙ sym (append_assoc front (program_header_bytes h) after)) room.1 in
    λ i. here i ∷ more i

-- the first headers of a table
pub headers_before : (file : List ℕ) (n i place : ℕ) → i ≤ n → headers_from file place i ≡ take i (headers_from file place n)
headers_before file n zero place h = refl
headers_before file zero (suc i) place h = absurd (omega arith)
headers_before file (suc n) (suc i) place h = ap (λ t. program_header file place ∷ t) (headers_before file n i (place + 56) (omega arith))

-- the header of a number in a table
pub header_at : (file : List ℕ) (n i place : ℕ) (d : ProgramHeader) → i < n → program_header file (place + 56 * i) ≡ get_or (headers_from file place n) i d
header_at file zero i place d h = absurd (omega arith)
header_at file (suc n) zero place d h = ap (program_header file) (omega arith)
header_at file (suc n) (suc i) place d h =
    let e : place + 56 * suc i ≡ (place + 56) + 56 * i = omega arith in
    ap (program_header file) e ∙ header_at file n i (place + 56) d (omega arith)

pub length-headers_from : (file : List ℕ) (n place : ℕ) → length (headers_from file place n) ≡ n
length-headers_from file zero place = refl
length-headers_from file (suc n) place = ap suc (length-headers_from file n (place + 56))

-- where all are loaded, all are kept
pub all_kept : (hs : List ProgramHeader) (i : ℕ) → AllByRecursion (λ h. is_load h ≡ true) hs → filter is_load (take i hs) ≡ take i hs
all_kept hs zero all = refl
all_kept [] (suc i) all = refl
all_kept (h ∷ hs) (suc i) all = rw all.0 (ap (λ t. h ∷ t) (all_kept hs i all.1))
