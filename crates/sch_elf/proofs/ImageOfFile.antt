-- What is read of a file is an image, and the only one.
use Rattle.std.proofs.Common.{◌≡◌, ℕ, zero, suc, ◌+◌, ◌-◌, ◌*◌, ◌^◌, ◌≤◌, ◌<◌, List, [], ◌∷◌, ◌++◌, length, get_or, take, drop, refl, ap, arith, sym, ◌∙◌, subst, length-append}
use Rattle.std.specs.Prelude.{Bool, true, false, filter, map, sum_by, cond, ◌==◌, All, AllPairs}
use Rattle.std.proofs.lemmas.Bool.Decides.{nat_tests}
use Rattle.std.proofs.lemmas.List.{take_more, get_or_default, length-map, length-take-le, length-drop, append-nil}
use Rattle.std.proofs.Math.ListN.{get_or-map}
use Rattle.std.specs.List.{AllByRecursion}
use Rattle.std.proofs.lemmas.List.Elements.{filter-append, All-push, recursion_from_All}
use mathlib.Core.HLevel.{Σ_prop_path}
use Rattle.std.proofs.Math.Bridge.{le_prop}
use Rattle.std.proofs.lemmas.List.Quantifiers.{all_pairs_push}
use Rattle.std.proofs.lemmas.List.Sums.{sum_by_push, sum_by-take-le, sum_by-cons}
use Rattle.sch_elf.specs.Constants.{max_image_size}
use Rattle.sch_elf.specs.Elf.{file_header, first_headers, header_place, headers_from, is_load, program_header}
use Rattle.sch_elf.specs.Layout.{AreApart, IsImageLayout, end_of, size_of}
use Rattle.sch_elf.specs.Stands.{DoNotOverlap, IsLoadable, IsSound, file_segment}
use Rattle.sch_elf.specs.declared.header.ProgramHeader.{ProgramHeader}
use Rattle.sch_elf.specs.declared.image.Segment.{Segment}
use Rattle.sch_elf.specs.declared.image.Image.{Image}
use Rattle.sch_elf.proofs.HeaderTable.{no_header}

-- the memory of one header more
pub memory_more : (hs : List ProgramHeader) (i : ℕ) (d : ProgramHeader) → i < length hs →
    sum_by (λ h. h.p_memsz) (take (i + 1) hs) ≡ sum_by (λ h. h.p_memsz) (take i hs) + (get_or hs i d).p_memsz
memory_more hs i d lt = ap (λ l. sum_by (λ h. h.p_memsz) l) (take_more hs i d lt) ∙ sum_by_push (λ (h : ProgramHeader). h.p_memsz) (take i hs) (get_or hs i d)

pub memory_part : (hs : List ProgramHeader) (i : ℕ) → sum_by (λ h. h.p_memsz) (take i hs) ≤ sum_by (λ h. h.p_memsz) hs
memory_part hs i = sum_by-take-le (λ (h : ProgramHeader). h.p_memsz) hs i

headers_more : (file : List ℕ) (n place : ℕ) → headers_from file place (suc n) ≡ headers_from file place n ++ program_header file (place + 56 * n) ∷ []
headers_more file zero place = ap (λ p. program_header file p ∷ []) (omega arith)
headers_more file (suc n) place =
    let e : (place + 56) + 56 * n ≡ place + 56 * suc n = omega arith in
    ap (λ t. program_header file place ∷ t) (headers_more file n (place + 56) ∙ ap (λ p. headers_from file (place + 56) n ++ program_header file p ∷ []) e)

-- one header more
pub loads_suc : (file : List ℕ) (i : ℕ) →
    filter is_load (first_headers file (suc i)) ≡ filter is_load (first_headers file i) ++ filter is_load (program_header file (header_place file i) ∷ [])
loads_suc file i =
    ap (filter is_load) (headers_more file i (file_header file).e_phoff)
    ∙ filter-append is_load (first_headers file i) (program_header file (header_place file i) ∷ [])

pub loads_more : (file : List ℕ) (i : ℕ) →
    filter is_load (first_headers file (i + 1)) ≡ filter is_load (first_headers file i) ++ filter is_load (program_header file (header_place file i) ∷ [])
loads_more file i = let e : i + 1 ≡ suc i = omega arith in ap (λ n. filter is_load (first_headers file n)) e ∙ loads_suc file i

-- what is known of the PT_LOAD headers of a file of `size` bytes
pub record AreLoadable (size : ℕ) (hs : List ProgramHeader) : Type 0 where
  pub few : length hs ≤ 8
  pub apart : AllPairs DoNotOverlap hs
  pub inside : All (λ h. (h.p_filesz ≤ h.p_memsz) × (h.p_offset + h.p_filesz ≤ size)) hs
  pub ends : All (λ h. h.p_vaddr + h.p_memsz ≤ 2 ^ 47) hs

one_more : (size : ℕ) (hs : List ProgramHeader) (h : ProgramHeader) → AreLoadable size hs → IsLoadable size hs h → AreLoadable size (hs ++ h ∷ [])
one_more size hs h all one = record {
  few = omega (arith, length-append hs (h ∷ []), one.few);
  apart = all_pairs_push DoNotOverlap hs h all.apart one.apart;
  inside = All-push (λ g. (g.p_filesz ≤ g.p_memsz) × (g.p_offset + g.p_filesz ≤ size)) hs h all.inside (one.fills, one.inside);
  ends = All-push (λ g. g.p_vaddr + g.p_memsz ≤ 2 ^ 47) hs h all.ends one.ends;
}

is_load_type : (n : ℕ) → (n == 1) ≡ true → n ≡ 1
is_load_type n e = grind (arith, nat_tests)

added : (size : ℕ) (hs : List ProgramHeader) (h : ProgramHeader) (b : Bool) → is_load h ≡ b → AreLoadable size hs → (h.p_type ≡ 1 → IsLoadable size hs h) → AreLoadable size (hs ++ cond b (h ∷ []) [])
added size hs h true e all one = one_more size hs h all (one (is_load_type h.p_type e))
added size hs h false e all one = subst (AreLoadable size) (sym (append-nil hs)) all

pub all_loadable : (file : List ℕ) (n : ℕ) → ((i : ℕ) → i < n → IsSound file i) → AreLoadable (length file) (filter is_load (first_headers file n))
all_loadable file zero sound = record { few = omega arith; apart = λ i j d lt within. absurd (omega arith); inside = λ k d within. absurd (omega arith); ends = λ k d within. absurd (omega arith) }
all_loadable file (suc n) sound =
    let h = program_header file (header_place file n) in
    let before = all_loadable file n (λ i lt. sound i (omega arith)) in
    subst (AreLoadable (length file)) (sym (loads_suc file n)) (added (length file) (filter is_load (first_headers file n)) h (is_load h) refl before (sound n (omega arith)).loadable)

-- a segment that is read has its header's place and size
size_read : (file : List ℕ) (h : ProgramHeader) → h.p_filesz ≤ h.p_memsz → h.p_offset + h.p_filesz ≤ length file → size_of (file_segment file h) ≡ h.p_memsz
size_read file h fills inside =
    let rest : length (drop h.p_offset file) ≡ length file - h.p_offset = length-drop h.p_offset file in
    let bytes : length (take h.p_filesz (drop h.p_offset file)) ≡ h.p_filesz = length-take-le h.p_filesz (drop h.p_offset file) (omega arith) in
    omega (arith, bytes)

apart_read : (file : List ℕ) (one other : ProgramHeader) → size_of (file_segment file one) ≡ one.p_memsz → size_of (file_segment file other) ≡ other.p_memsz →
    DoNotOverlap one other → AreApart (file_segment file one) (file_segment file other)
apart_read file one other s t apart = λ address a b c d. apart address a (omega (arith, s, b)) c (omega (arith, t, d))

-- the segment of a number is that of the header of this number
segment_at : (file : List ℕ) (hs : List ProgramHeader) (i : ℕ) (d : Segment) → i < length hs → get_or (map (file_segment file) hs) i d ≡ file_segment file (get_or hs i no_header)
segment_at file hs i d lt =
    get_or_default (map (file_segment file) hs) i d (file_segment file no_header) (omega (arith, length-map hs (file_segment file)))
    ∙ get_or-map (file_segment file) hs i no_header

total_read : (file : List ℕ) (hs : List ProgramHeader) → AllByRecursion (λ h. (h.p_filesz ≤ h.p_memsz) × (h.p_offset + h.p_filesz ≤ length file)) hs →
    sum_by size_of (map (file_segment file) hs) ≡ sum_by (λ h. h.p_memsz) hs
total_read file [] all = refl
total_read file (h ∷ hs) all =
    let here : size_of (file_segment file h) ≡ h.p_memsz = size_read file h all.0.0 all.0.1 in
    sum_by-cons size_of (file_segment file h) (map (file_segment file) hs)
    ∙ ap (λ n. n + sum_by size_of (map (file_segment file) hs)) here
    ∙ ap (λ n. h.p_memsz + n) (total_read file hs all.1)
    ∙ sym (sum_by-cons (λ (g : ProgramHeader). g.p_memsz) h hs)

-- what is read of loadable headers lies as the segments of an image do
pub laid_out_read : (file : List ℕ) (hs : List ProgramHeader) → AreLoadable (length file) hs → sum_by (λ h. h.p_memsz) hs ≤ max_image_size → IsImageLayout (map (file_segment file) hs)
laid_out_read file hs all total =
    let count : length (map (file_segment file) hs) ≡ length hs = length-map hs (file_segment file) in
    let size : (i : ℕ) → i < length hs → size_of (file_segment file (get_or hs i no_header)) ≡ (get_or hs i no_header).p_memsz =
    λ i lt. size_read file (get_or hs i no_header) (all.inside i no_header lt).0 (all.inside i no_header lt).1 in
    record {
      few = omega (arith, count, all.few);
      apart = λ i j d before within.
          let jn : j < length hs = omega (arith, count) in
          let in_ : i < length hs = omega arith in
          subst (λ s. AreApart s (get_or (map (file_segment file) hs) j d)) (sym (segment_at file hs i d in_))
          (subst (λ t. AreApart (file_segment file (get_or hs i no_header)) t) (sym (segment_at file hs j d jn))
          (apart_read file (get_or hs i no_header) (get_or hs j no_header) (size i in_) (size j jn) (all.apart i j no_header before jn)));
      ends = λ k d within.
          let kn : k < length hs = omega (arith, count) in
          subst (λ s. end_of s ≤ 2 ^ 47) (sym (segment_at file hs k d kn)) (omega (arith, size k kn, all.ends k no_header kn));
      total = omega (arith, total_read file hs (recursion_from_All (λ h. (h.p_filesz ≤ h.p_memsz) × (h.p_offset + h.p_filesz ≤ length file)) hs all.inside));
    }

laid_out-prop : (ss : List Segment) → IsProp (IsImageLayout ss)
laid_out-prop ss = hlevel le_prop

-- an image is its entry and its segments
pub same_image : (one other : Image) → one.entry ≡ other.entry → one.segments ≡ other.segments → one ≡ other
same_image one other e s =
    let pairs : ◌≡◌ {A = (ss : List Segment) × IsImageLayout ss} (one.segments, one.laid_out) (other.segments, other.laid_out) = Σ_prop_path laid_out-prop s in
    λ i. record { entry = e i; segments = (pairs i).0; laid_out = (pairs i).1 }
