-- The bytes that are written stand for the image.
use Rattle.std.proofs.Common.{◌≡◌, ℕ, zero, suc, ◌+◌, ◌-◌, ◌*◌, ◌/◌, ◌%◌, ◌^◌, ◌≤◌, ◌<◌, List, [], ◌∷◌, ◌++◌, length, get_or, take, drop, min, refl, ap, arith, sym, ◌∙◌, subst, append_assoc, length-append}
use Rattle.std.specs.Prelude.{Bool, true, false, filter, map, sum_by, replicate, if◌then◌else◌, ◌==◌}
use Rattle.std.specs.List.{flat_map, AllByRecursion}
use Rattle.std.proofs.Math.Seq.{drop-append_seam, take-append_seam, take-length}
use Rattle.std.proofs.lemmas.List.{get_or-take, length-replicate, length-take}
use Rattle.std.proofs.lemmas.List.Elements.{recursion_from_All}
use Rattle.std.proofs.lemmas.List.Sums.{sum_by-cons}
use Rattle.sch_elf.specs.Constants.{page_size}
use Rattle.sch_elf.specs.Elf.{file_header, first_headers, header_place, headers_from, is_load, program_header}
use Rattle.sch_elf.specs.declared.header.ProgramHeader.{ProgramHeader}
use Rattle.sch_elf.specs.Layout.{AreApart, IsImageLayout, end_of, size_of}
use Rattle.sch_elf.specs.Stands.{DoNotOverlap, IsForThisMachine, IsLoadable, IsSound, StandsFor, loads, file_segment}
use Rattle.sch_elf.specs.Writing.{contents, file_header_bytes, image_bytes, load, need, offset_from, placed, program_header_bytes, start}
use Rattle.sch_elf.specs.declared.image.Segment.{Segment}
use Rattle.sch_elf.specs.declared.image.Image.{Image}
use Rattle.sch_elf.proofs.HeaderTable.{HasRoom, all_kept, header_at, headers_before, headers_read, reads, no_header}
use Rattle.sch_elf.proofs.FileOfImage.{headers_end, length-headers, length-placed, need-le}

-- the rights
flags_read : (x w r : Bool) →
    (((((if x then 1 else 0) + (if w then 2 else 0) + (if r then 4 else 0)) / 4 % 2 == 1) ≡ r)
    × ((((if x then 1 else 0) + (if w then 2 else 0) + (if r then 4 else 0)) / 2 % 2 == 1) ≡ w)
    × ((((if x then 1 else 0) + (if w then 2 else 0) + (if r then 4 else 0)) / 1 % 2 == 1) ≡ x))
flags_read true true true = (refl, refl, refl)
flags_read true true false = (refl, refl, refl)
flags_read true false true = (refl, refl, refl)
flags_read true false false = (refl, refl, refl)
flags_read false true true = (refl, refl, refl)
flags_read false true false = (refl, refl, refl)
flags_read false false true = (refl, refl, refl)
flags_read false false false = (refl, refl, refl)

flags_below : (x w r : Bool) → (if x then 1 else 0) + (if w then 2 else 0) + (if r then 4 else 0) < 256 ^ 4
flags_below true true true = omega arith
flags_below true true false = omega arith
flags_below true false true = omega arith
flags_below true false false = omega arith
flags_below false true true = omega arith
flags_below false true false = omega arith
flags_below false false true = omega arith
flags_below false false false = omega arith

-- a segment is read back
segment_read : (file front : List ℕ) (s : Segment) (rest : List ℕ) (offset : ℕ) → offset ≡ length front → file ≡ front ++ (s.bytes ++ rest) → file_segment file (load offset s) ≡ s
segment_read file front s rest offset o e =
    let flags = flags_read s.execute s.write s.read in
    let bytes : take (length s.bytes) (drop offset file) ≡ s.bytes =
    ap (λ n. take (length s.bytes) (drop n file)) o ∙ ap (λ f. take (length s.bytes) (drop (length front) f)) e
    ∙ ap (take (length s.bytes)) (drop-append_seam front (s.bytes ++ rest)) ∙ take-append_seam s.bytes rest in
    let zeros : (length s.bytes + s.zeros) - length s.bytes ≡ s.zeros = omega arith in
    λ i. record { address = s.address; read = flags.0 i; write = flags.1 i; execute = flags.2 i; bytes = bytes i; zeros = zeros i }

-- all segments are read back
segments_read : (ss : List Segment) (file front : List ℕ) (end : ℕ) → end ≡ length front → file ≡ front ++ contents end ss → map (file_segment file) (placed end ss) ≡ ss
segments_read [] file front end n e = refl
segments_read (s ∷ ss) file front end n e =
    let offset : ℕ = offset_from end s.address in
    let gap : List ℕ = replicate (offset - end) 0 in
    let rest : List ℕ = contents (offset + length s.bytes) ss in
    let split : file ≡ (front ++ gap) ++ (s.bytes ++ rest) = e ∙ sym (append_assoc front gap (s.bytes ++ rest)) in
    let at : offset ≡ length (front ++ gap) = omega (arith, n, length-append front gap, length-replicate {A = ℕ} (offset - end) 0) in
    let next : offset + length s.bytes ≡ length ((front ++ gap) ++ s.bytes) = omega (arith, at, length-append (front ++ gap) s.bytes) in
    let here : file_segment file (load offset s) ≡ s = segment_read file (front ++ gap) s rest offset at split in
    let more : map (file_segment file) (placed (offset + length s.bytes) ss) ≡ ss =
    segments_read ss file ((front ++ gap) ++ s.bytes) (offset + length s.bytes) next (split ∙ sym (append_assoc (front ++ gap) s.bytes rest)) in
    λ i. here i ∷ more i

placed_loads : (ss : List Segment) (end : ℕ) → AllByRecursion (λ h. is_load h ≡ true) (placed end ss)
placed_loads [] end = tt
placed_loads (s ∷ ss) end = (refl, placed_loads ss (offset_from end s.address + length s.bytes))

placed_total : (ss : List Segment) (end : ℕ) → sum_by (λ h. h.p_memsz) (placed end ss) ≡ sum_by size_of ss
placed_total [] end = refl
placed_total (s ∷ ss) end =
    let next : ℕ = offset_from end s.address + length s.bytes in
    sum_by-cons (λ (h : ProgramHeader). h.p_memsz) (load (offset_from end s.address) s) (placed next ss)
    ∙ ap (λ n. size_of s + n) (placed_total ss next)
    ∙ sym (sum_by-cons size_of s ss)

-- an offset equals its address modulo the size of a page
pub congruent : (end address : ℕ) → offset_from end address % page_size ≡ address % page_size
congruent end address = omega arith

-- it is none before the end, and the least of those
pub not_before : (end address : ℕ) → end ≤ offset_from end address
not_before end address = omega arith

pub least_of_all : (end address other : ℕ) → end ≤ other → other % page_size ≡ address % page_size → offset_from end address ≤ other
least_of_all end address other behind equal = omega (arith, behind, equal)

-- where the header of a number lies, and what it says
record IsAt (total : ℕ) (s : Segment) (h : ProgramHeader) : Type 0 where
  offset : ℕ
  is : h ≡ load offset s
  aligned : s.address % page_size ≡ offset % page_size
  inside : offset + length s.bytes ≤ total

placed_at : (ss : List Segment) (end total i : ℕ) (d : ProgramHeader) (e : Segment) → i < length ss → end + length (contents end ss) ≤ total → IsAt total (get_or ss i e) (get_or (placed end ss) i d)
placed_at [] end total i d e lt h = absurd (omega arith)
placed_at (s ∷ ss) end total zero d e lt h =
    let offset : ℕ = offset_from end s.address in
    let gap : List ℕ = replicate (offset - end) 0 in
    let rest : List ℕ = contents (offset + length s.bytes) ss in
    record {
      offset = offset;
      is = refl;
      aligned = sym (congruent end s.address);
      inside = omega (arith, length-append gap (s.bytes ++ rest), length-append s.bytes rest, length-replicate {A = ℕ} (offset - end) 0);
    }
placed_at (s ∷ ss) end total (suc i) d e lt h =
    let offset : ℕ = offset_from end s.address in
    let gap : List ℕ = replicate (offset - end) 0 in
    let rest : List ℕ = contents (offset + length s.bytes) ss in
    placed_at ss (offset + length s.bytes) total i d e (omega arith)
    (omega (arith, length-append gap (s.bytes ++ rest), length-append s.bytes rest, length-replicate {A = ℕ} (offset - end) 0))

placed_room : (ss : List Segment) (end : ℕ) → end + need ss < 2 ^ 63 → AllByRecursion (λ s. end_of s ≤ 2 ^ 47) ss → AllByRecursion HasRoom (placed end ss)
placed_room [] end h all = tt
placed_room (s ∷ ss) end h all =
    let offset : ℕ = offset_from end s.address in (
      record {
        kind = omega arith;
        flags = flags_below s.execute s.write s.read;
        offset = omega arith;
        vaddr = omega (arith, all.0);
        paddr = omega (arith, all.0);
        filesz = omega (arith, all.0);
        memsz = omega (arith, all.0);
        align = omega arith;
      },
      placed_room ss (offset + length s.bytes) (omega arith) all.1,
    )

-- what is known of the header of a number makes it sound
sound_of : (file : List ℕ) (i : ℕ) (h : ProgramHeader) (earlier : List ProgramHeader) →
    program_header file (header_place file i) ≡ h → filter is_load (first_headers file i) ≡ earlier →
    header_place file i + 56 ≤ length file → h.p_type ≡ 1 → IsLoadable (length file) earlier h → IsSound file i
sound_of file i h earlier at before whole kind loadable =
    let type : (program_header file (header_place file i)).p_type ≡ 1 = ap (λ x. x.p_type) at ∙ kind in
    record {
      whole = whole;
      not_dynamic = λ e. absurd (omega (arith, type, e));
      no_interpreter = λ e. absurd (omega (arith, type, e));
      loadable = λ _. subst (λ x. IsLoadable (length file) (filter is_load (first_headers file i)) x) (sym at) (subst (λ l. IsLoadable (length file) l h) (sym before) loadable);
    }

-- the headers of two segments that are apart do not overlap
apart_at : (one other : Segment) (h g : ProgramHeader) (total : ℕ) → IsAt total one h → IsAt total other g → AreApart one other → DoNotOverlap h g
apart_at one other h g total a b apart =
    subst (λ x. DoNotOverlap x g) (sym a.is) (subst (λ y. DoNotOverlap (load a.offset one) y) (sym b.is) apart)

loadable_at : (ss : List Segment) (end total i : ℕ) (e : Segment) (d : ProgramHeader) → IsImageLayout ss → i < length ss → end + length (contents end ss) ≤ total →
    IsLoadable total (take i (placed end ss)) (get_or (placed end ss) i d)
loadable_at ss end total i e d laid lt room =
    let all : List ProgramHeader = placed end ss in
    let at = placed_at ss end total i d e lt room in
    let size : length (take i all) ≡ min i (length all) = length-take i all in
    subst (λ h. IsLoadable total (take i all) h) (sym at.is) (record {
      fills = omega arith;
      inside = at.inside;
      aligned = λ _. at.aligned;
      ends = laid.ends i e lt;
      apart = λ k d' h.
          let below : k < i = omega (arith, size, h) in
          let same : get_or (take i all) k d' ≡ get_or all k d' = get_or-take i all k d' below in
          subst (λ g. DoNotOverlap g (load at.offset (get_or ss i e))) (sym same)
          (apart_at (get_or ss k e) (get_or ss i e) (get_or all k d') (load at.offset (get_or ss i e)) total
          (placed_at ss end total k d' e (omega arith) room) (record { offset = at.offset; is = refl; aligned = at.aligned; inside = at.inside })
          (laid.apart k i e below lt));
      few = omega (arith, size, laid.few);
    })

-- an image's file header, field by field
image_phnum : (image : Image) → length image.segments ≤ 8 → (file_header (image_bytes image)).e_phnum ≡ length image.segments
image_phnum image few = reads 2 (length image.segments) (omega arith)

image_entry : (image : Image) → image.entry < 2 ^ 64 → (file_header (image_bytes image)).e_entry ≡ image.entry
image_entry image fits = reads 8 image.entry (omega arith)

image_machine : (image : Image) → 0 < length image.segments → length image.segments ≤ 8 → IsForThisMachine (file_header (image_bytes image))
image_machine image some few =
    let count = image_phnum image few in
    record {
      executable = refl;
      machine = refl;
      version = refl;
      no_flags = refl;
      header_size = refl;
      entry_size = refl;
      some = omega (arith, count);
      few = omega (arith, count);
    }

-- how long the file is
image_length : (image : Image) → length (image_bytes image) ≡ start image.segments + length (contents (start image.segments) image.segments)
image_length image =
    let ss = image.segments in
    let header : List ℕ = file_header_bytes image.entry (length ss) in
    let table : List ℕ = flat_map program_header_bytes (placed (start ss) ss) in
    let rest : List ℕ = contents (start ss) ss in
    let size : length header ≡ 64 = refl in
    omega (arith, size, length-append header (table ++ rest), length-append table rest, length-headers (placed (start ss) ss), length-placed ss (start ss))

-- the headers of the file are those of the segments
image_headers : (image : Image) → IsImageLayout image.segments → headers_from (image_bytes image) 64 (length image.segments) ≡ placed (start image.segments) image.segments
image_headers image laid =
    let ss = image.segments in
    let all : List ProgramHeader = placed (start ss) ss in
    let header : List ℕ = file_header_bytes image.entry (length ss) in
    let room : start ss + need ss < 2 ^ 63 = omega (arith, need-le ss, laid.few, laid.total) in
    let read : headers_from (image_bytes image) 64 (length all) ≡ all = headers_read all (image_bytes image) header (contents (start ss) ss) 64 refl refl
    (placed_room ss (start ss) room (recursion_from_All (λ s. end_of s ≤ 2 ^ 47) ss laid.ends)) in
    ap (λ n. headers_from (image_bytes image) 64 n) (sym (length-placed ss (start ss))) ∙ read

some_segment : Segment
some_segment = record { address = 0; read = false; write = false; execute = false; bytes = []; zeros = 0 }

kept_of : (xs ys : List ProgramHeader) → xs ≡ ys → filter is_load xs ≡ filter is_load ys
kept_of xs ys e = ap (filter is_load) e

at_number : (xs ys : List ProgramHeader) (i : ℕ) → xs ≡ ys → get_or xs i no_header ≡ get_or ys i no_header
at_number xs ys i e = ap (λ l. get_or l i no_header) e

image_sound : (image : Image) (i : ℕ) → IsImageLayout image.segments → i < length image.segments → IsSound (image_bytes image) i
image_sound image i laid lt =
    let ss = image.segments in
    let n : ℕ = length ss in
    let file : List ℕ = image_bytes image in
    let all : List ProgramHeader = placed (start ss) ss in
    let heads : headers_from file 64 n ≡ all = image_headers image laid in
    let here : program_header file (64 + 56 * i) ≡ get_or all i no_header = header_at file n i 64 no_header lt ∙ at_number _ _ i heads in
    let before : headers_from file 64 i ≡ take i all = headers_before file n i 64 (omega arith) ∙ ap (take i) heads in
    let earlier : filter is_load (headers_from file 64 i) ≡ take i all = kept_of _ _ before ∙ all_kept all i (placed_loads ss (start ss)) in
    let size : start ss + length (contents (start ss) ss) ≤ length file = omega (arith, image_length image) in
    let kind : (get_or all i no_header).p_type ≡ 1 = ap (λ h. h.p_type) (placed_at ss (start ss) (length file) i no_header some_segment lt size).is in
    sound_of file i (get_or all i no_header) (take i all) here earlier (omega (arith, image_length image)) kind
    (loadable_at ss (start ss) (length file) i some_segment no_header laid lt size)

-- the file that is written stands for the image
pub image_stands : (image : Image) → 0 < length image.segments → image.entry < 2 ^ 64 → StandsFor (image_bytes image) image
image_stands image some fits =
    let ss = image.segments in
    let n : ℕ = length ss in
    let file : List ℕ = image_bytes image in
    let laid : IsImageLayout ss = image.laid_out in
    let all : List ProgramHeader = placed (start ss) ss in
    let count : (file_header file).e_phnum ≡ n = image_phnum image laid.few in
    let heads : headers_from file 64 n ≡ all = image_headers image laid in
    let whole : take (length all) all ≡ all = take-length all in
    let loaded : loads file ≡ all = ap (λ k. filter is_load (headers_from file 64 k)) count ∙ ap (filter is_load) (heads ∙ sym whole)
    ∙ all_kept all (length all) (placed_loads ss (start ss)) ∙ whole in
    let header : List ℕ = file_header_bytes image.entry n in
    let table : List ℕ = flat_map program_header_bytes all in
    let front : start ss ≡ length (header ++ table) = sym (headers_end header (header ++ table) image.entry n ss refl refl) in
    record {
      long = omega (arith, image_length image);
      elf = refl;
      machine = image_machine image some laid.few;
      headers = λ i lt. image_sound image i laid (omega (arith, count));
      total = omega (arith, ap (λ l. sum_by (λ h. h.p_memsz) l) loaded, placed_total ss (start ss), laid.total);
      entry = sym (image_entry image fits);
      segments = sym (ap (λ l. map (file_segment file) l) loaded ∙ segments_read ss file (header ++ table) (start ss) front (sym (append_assoc header table (contents (start ss) ss))));
    }
