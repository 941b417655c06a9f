-- The bytes of an image, segment by segment.
use Rattle.std.proofs.Common.{◌≡◌, ℕ, suc, ◌+◌, ◌-◌, ◌*◌, ◌≤◌, List, [], ◌∷◌, ◌++◌, length, refl, ap, arith, ◌∙◌, append_assoc, length-append}
use Rattle.std.specs.Prelude.{replicate, sum_by}
use Rattle.std.specs.List.{flat_map}
use Rattle.std.proofs.lemmas.List.{length-replicate}
use Rattle.std.proofs.lemmas.List.Sums.{sum_by-cons}
use Rattle.sch_elf.specs.declared.header.ProgramHeader.{ProgramHeader}
use Rattle.sch_elf.specs.Layout.{size_of}
use Rattle.sch_elf.specs.Writing.{contents, file_header_bytes, image_bytes, load, need, offset_from, placed, program_header_bytes, start}
use Rattle.sch_elf.specs.declared.image.Segment.{Segment}
use Rattle.sch_elf.specs.declared.image.Image.{Image}

-- where the file ends after one segment more
written_length : (file file' : List ℕ) (segment : Segment) →
    file' ≡ file ++ (replicate (offset_from (length file) segment.address - length file) 0 ++ segment.bytes) →
    length file' ≡ offset_from (length file) segment.address + length segment.bytes
written_length file file' segment e =
    let gap : List ℕ = replicate (offset_from (length file) segment.address - length file) 0 in
    omega (arith, ap length e, length-append file (gap ++ segment.bytes), length-append gap segment.bytes, length-replicate {A = ℕ} (offset_from (length file) segment.address - length file) 0)

-- one segment more was written
pub contents_step : (file file' : List ℕ) (segment : Segment) (more : List Segment) →
    file' ≡ file ++ (replicate (offset_from (length file) segment.address - length file) 0 ++ segment.bytes) →
    file' ++ contents (length file') more ≡ file ++ contents (length file) (segment ∷ more)
contents_step file file' segment more e =
    let offset : ℕ = offset_from (length file) segment.address in
    let gap : List ℕ = replicate (offset - length file) 0 in
    let rest = contents (offset + length segment.bytes) more in
    ap (λ n. file' ++ contents n more) (written_length file file' segment e)
    ∙ ap (λ f. f ++ rest) e
    ∙ append_assoc file (gap ++ segment.bytes) rest
    ∙ ap (λ t. file ++ t) (append_assoc gap segment.bytes rest)

pub contents_bound : (file file' : List ℕ) (segment : Segment) (more : List Segment) →
    file' ≡ file ++ (replicate (offset_from (length file) segment.address - length file) 0 ++ segment.bytes) →
    length file' + need more ≤ length file + need (segment ∷ more)
contents_bound file file' segment more e = omega (arith, written_length file file' segment e)

pub headers_step : (file file' : List ℕ) (end offset size : ℕ) (segment : Segment) (more : List Segment) →
    offset ≡ offset_from end segment.address → size ≡ length segment.bytes →
    file' ≡ file ++ program_header_bytes (load offset segment) →
    file' ++ flat_map program_header_bytes (placed (offset + size) more) ≡ file ++ flat_map program_header_bytes (placed end (segment ∷ more))
headers_step file file' end offset size segment more o l e =
    let rest = flat_map program_header_bytes (placed (offset + size) more) in
    ap (λ f. f ++ rest) e
    ∙ append_assoc file (program_header_bytes (load offset segment)) rest
    ∙ ap (λ n. file ++ (program_header_bytes (load n segment) ++ flat_map program_header_bytes (placed (n + size) more))) o
    ∙ ap (λ n. file ++ (program_header_bytes (load (offset_from end segment.address) segment) ++ flat_map program_header_bytes (placed (offset_from end segment.address + n) more))) l

-- how much room the segments of an image need at most
pub need-le : (segments : List Segment) → need segments ≤ 4096 * length segments + sum_by size_of segments
need-le [] = omega arith
need-le (segment ∷ more) = omega (arith, need-le more, sum_by-cons size_of segment more)

pub length-headers : (headers : List ProgramHeader) → length (flat_map program_header_bytes headers) ≡ 56 * length headers
length-headers [] = refl
length-headers (header ∷ more) =
    let e : length (program_header_bytes header ++ flat_map program_header_bytes more) ≡ length (program_header_bytes header) + length (flat_map program_header_bytes more) =
    length-append (program_header_bytes header) (flat_map program_header_bytes more) in
    let h : length (program_header_bytes header) ≡ 56 = refl in
    omega (arith, e, h, length-headers more)

pub length-placed : (segments : List Segment) (end : ℕ) → length (placed end segments) ≡ length segments
length-placed [] end = refl
length-placed (segment ∷ more) end = ap suc (length-placed more (offset_from end segment.address + length segment.bytes))

-- where the headers end
pub headers_end : (header file : List ℕ) (entry count : ℕ) (segments : List Segment) →
    header ≡ file_header_bytes entry count →
    file ≡ header ++ flat_map program_header_bytes (placed (start segments) segments) →
    length file ≡ start segments
headers_end header file entry count segments h e =
    let table = flat_map program_header_bytes (placed (start segments) segments) in
    let size : length (file_header_bytes entry count) ≡ 64 = refl in
    omega (arith, ap length e, length-append header table, ap length h, size, length-headers (placed (start segments) segments), length-placed segments (start segments))

-- the three parts of a file
pub whole : (header heads file : List ℕ) (image : Image) (segments : List Segment) → segments ≡ image.segments →
    header ≡ file_header_bytes image.entry (length segments) →
    heads ≡ header ++ flat_map program_header_bytes (placed (start segments) segments) →
    file ≡ heads ++ contents (length heads) segments →
    file ≡ image_bytes image
whole header heads file image segments s h e f =
    let table : List ℕ = flat_map program_header_bytes (placed (start segments) segments) in
    let rest : List ℕ = contents (start segments) segments in
    f ∙ ap (λ n. heads ++ contents n segments) (headers_end header heads image.entry (length segments) segments h e)
    ∙ ap (λ x. x ++ rest) e
    ∙ append_assoc header table rest
    ∙ ap (λ x. x ++ (table ++ rest)) h
    ∙ ap (λ x. file_header_bytes image.entry (length x) ++ (flat_map program_header_bytes (placed (start x) x) ++ contents (start x) x)) s
