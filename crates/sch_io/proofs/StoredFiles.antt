-- Files one after another in a text: one more file, and more text.
use Rattle.std.proofs.Common.{◌≡◌, ℕ, ◌+◌, ◌-◌, ◌≤◌, ◌<◌, List, [], ◌∷◌, ◌++◌, length, get_or, take, drop, refl, ap, arith, ◌∙◌, true, false, Some, append_assoc, length-append, length-drop}
use Rattle.std.specs.Prelude.{cond, map, slice_range, All}
use Rattle.std.specs.List.{AllByRecursion}
use Rattle.std.specs.Cmp.Lexicographic.{nat_list_cmp_total}
use Rattle.std.specs.FinMap.{get, insert, empty, get-insert}
use Rattle.std.specs.Str.{bytes_eq}
use Rattle.std.proofs.lemmas.Grind.{common_steps}
use Rattle.std.proofs.lemmas.List.{take_more, drop-append-le, take-append-le, map-append}
use Rattle.std.proofs.lemmas.List.Elements.{recursion_from_All}
use Rattle.std.proofs.lemmas.Map.Text.{is_eq-slice_cmp}
use Rattle.sch_io.specs.Files.{Files, written}
use Rattle.sch_io.specs.Stored.{LiesWithin, file_of, files_of}
use Rattle.sch_io.specs.declared.mem_disk.Entry.{Entry}

pub written-push : (fs : List (List ℕ × List ℕ)) (m : Files) (f : List ℕ × List ℕ) → written m (fs ++ f ∷ []) ≡ insert (written m fs) f.0 f.1
written-push [] m f = refl
written-push (g ∷ fs) m f = written-push fs (insert m g.0 g.1) f

-- what a name stands for after one file more
get-push : (fs : List (List ℕ × List ℕ)) (f : List ℕ × List ℕ) (name : List ℕ) →
    get (written empty (fs ++ f ∷ [])) name ≡ cond (bytes_eq name f.0) (Some f.1) (get (written empty fs) name)
get-push fs f name =
    ap (λ m. get m name) (written-push fs empty f)
    ∙ get-insert nat_list_cmp_total (written empty fs) f.0 f.1 name
    ∙ ap (λ b. cond b (Some f.1) (get (written empty fs) name)) (is_eq-slice_cmp name f.0)

one_more : (text : List ℕ) (es : List Entry) (name : List ℕ) (i : ℕ) (d : Entry) → i < length es →
    get (files_of text (take (i + 1) es)) name
    ≡ cond (bytes_eq name (file_of text (get_or es i d)).0) (Some (file_of text (get_or es i d)).1) (get (files_of text (take i es)) name)
one_more text es name i d h =
    ap (λ l. get (files_of text l) name) (take_more es i d h)
    ∙ ap (λ fs. get (written empty fs) name) (map-append (file_of text) (take i es) (get_or es i d ∷ []))
    ∙ get-push (map (file_of text) (take i es)) (file_of text (get_or es i d)) name

-- the last entry that was looked at has the name
pub found : (text : List ℕ) (es : List Entry) (name : List ℕ) (i : ℕ) (d : Entry) → i < length es →
    bytes_eq name (file_of text (get_or es i d)).0 ≡ true →
    get (files_of text (take (i + 1) es)) name ≡ Some (file_of text (get_or es i d)).1
found text es name i d h e = one_more text es name i d h ∙ (rw e refl)

-- or not
pub passed : (text : List ℕ) (es : List Entry) (name : List ℕ) (i : ℕ) (d : Entry) → i < length es →
    bytes_eq name (file_of text (get_or es i d)).0 ≡ false →
    get (files_of text (take (i + 1) es)) name ≡ get (files_of text (take i es)) name
passed text es name i d h e = one_more text es name i d h ∙ (rw e refl)

range-more : (s t : List ℕ) (i j : ℕ) → i ≤ j → j ≤ length s → slice_range (s ++ t) i j ≡ slice_range s i j
range-more s t i j h k =
    let a : i ≤ length s = omega arith in
    let b : j - i ≤ length (drop i s) = simp length-drop (omega arith) in
    rw (drop-append-le i s t, take-append-le (j - i) (drop i s) t) refl

file_of-more : (s t : List ℕ) (e : Entry) → LiesWithin s e → file_of (s ++ t) e ≡ file_of s e
file_of-more s t e h =
    let a : e.bytes_at ≤ length s = omega (arith, h.whole, h.bytes) in
    rw (range-more s t e.name_at e.bytes_at h.name a, range-more s t e.bytes_at e.end h.bytes h.whole) refl

files-more : (s t : List ℕ) (es : List Entry) → AllByRecursion (LiesWithin s) es → map (file_of (s ++ t)) es ≡ map (file_of s) es
files-more s t [] h = refl
files-more s t (e ∷ es) h = rw (file_of-more s t e h.0, files-more s t es h.1) refl

-- the middle and the last part
range-middle : (s t u : List ℕ) → slice_range ((s ++ t) ++ u) (length s) (length s + length t) ≡ t
range-middle s t u = grind (arith, common_steps)

range-last : (s t : List ℕ) → slice_range (s ++ t) (length s) (length s + length t) ≡ t
range-last s t = grind (arith, common_steps)

pub files-added : (s n b : List ℕ) (es : List Entry) (at mid end : ℕ) → All (LiesWithin s) es →
    at ≡ length s → mid ≡ length s + length n → end ≡ length s + length n + length b →
    map (file_of ((s ++ n) ++ b)) (es ++ record { name_at = at; bytes_at = mid; end = end } ∷ []) ≡ map (file_of s) es ++ (n, b) ∷ []
files-added s n b es at mid end h e f g =
    let e0 : Entry = record { name_at = at; bytes_at = mid; end = end } in
    let a : map (file_of ((s ++ n) ++ b)) es ≡ map (file_of s) es = ap (λ x. map (file_of x) es) (append_assoc s n b) ∙ files-more s (n ++ b) es (recursion_from_All (LiesWithin s) es h) in
    let name : slice_range ((s ++ n) ++ b) at mid ≡ n = rw (e, f) (range-middle s n b) in
    let last : slice_range ((s ++ n) ++ b) mid end ≡ b = rw (f, g, ← length-append s n) (range-last (s ++ n) b) in
    map-append (file_of ((s ++ n) ++ b)) es (e0 ∷ []) ∙ (rw (a, name, last) refl)
