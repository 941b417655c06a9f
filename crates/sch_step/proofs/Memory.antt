-- Which segment serves: where segments lie apart, any one that holds the bytes is the first that does.
use Rattle.std.proofs.Common.{◌≡◌, ℕ, zero, suc, ◌+◌, ◌-◌, ◌<◌, ◌≤◌, List, [], ◌∷◌, length, drop, get_or, set, subst, Bool, true, false, cond, Option, Some, None, refl, sym, ap, ◌∙◌, arith, nat_le, ◌&&◌}
use Rattle.std.proofs.lemmas.Bool.Decides.{nat_tests}
use Rattle.std.proofs.lemmas.List.{map-set, length-map, length-set}
use Rattle.std.specs.Prelude.{map, Result, Ok, Err}
use Rattle.std.specs.Result.{result_err}
use Rattle.sch_word.specs.values.Options.{when_ok}
use Rattle.sch_word.specs.values.Memory as words
use Rattle.sch_insn.specs.declared.state.StuckCause.{StuckCause}
use Rattle.sch_insn.specs.declared.state.StuckCause.TheVariants.{Access}
use Rattle.sch_insn.specs.Machine.{Core, holds, bytes_from, put_bytes, with_bytes, behind_segment, stored, or_access, with_segments, write_bytes}
use Rattle.sch_insn.proofs.PutSize.{size_put}
use Rattle.sch_step.specs.declared.segment.Segment.{Segment}
use Rattle.sch_step.specs.Layout.{segment_view, segment_at, IsMemory, NoneHolds}

behind : (g : words.Segment) (gs : List words.Segment) → IsMemory (g ∷ gs) → IsMemory gs
behind g gs h = record {
  apart = λ i j a n l m z e. h.apart (suc i) (suc j) a n (omega (arith, l)) (omega (arith, m)) z e;
  ends = λ i. h.ends (suc i);
}

-- The bytes from an address on in a segment, where it has the right.
abbrev pub in_segment : (words.Segment → Bool) → words.Segment → ℕ → Option (List ℕ)
in_segment right g a = cond (right g) (Some (drop (a - g.address) g.bytes)) None

serves : (right : words.Segment → Bool) (gs : List words.Segment) (i a n : ℕ) → 0 < n → IsMemory gs → i < length gs → holds (segment_at gs i) a n ≡ true
    → bytes_from right gs a n ≡ in_segment right (segment_at gs i) a
serves right [] i a n z laid l e = absurd (omega (arith, l))
serves right (g ∷ gs) zero a n z laid l e = ap (λ b. cond b (in_segment right g a) (bytes_from right gs a n)) e
serves right (g ∷ gs) (suc i) a n z laid l e =
    let within : i < length gs = omega (arith, l) in
    let first : holds g a n ≡ false = laid.apart zero (suc i) a n (omega arith) l z e in
    ap (λ b. cond b (in_segment right g a) (bytes_from right gs a n)) first ∙ serves right gs i a n z (behind g gs laid) within e

pub none_serves : (right : words.Segment → Bool) (gs : List words.Segment) (a n : ℕ) → NoneHolds gs a n → bytes_from right gs a n ≡ None
none_serves right [] a n h = refl
none_serves right (g ∷ gs) a n h =
    ap (λ b. cond b (in_segment right g a) (bytes_from right gs a n)) (h zero (omega arith)) ∙ none_serves right gs a n (λ i l. h (suc i) (omega (arith, l)))

-- The segment of the program at an index is that of the definitions.
pub at_index : (items : List Segment) (i : ℕ) (x : Segment) → i < length items → x ≡ get_or items i x → segment_at (map segment_view items) i ≡ segment_view x
at_index [] i x l e = absurd (omega (arith, l))
at_index (g ∷ gs) zero x l e = ap segment_view (sym e)
at_index (g ∷ gs) (suc i) x l e = at_index gs i x (omega (arith, l)) e

served : (right : words.Segment → Bool) (items : List Segment) (i a n : ℕ) (x : Segment) → 0 < n → IsMemory (map segment_view items) → i < length items
    → holds (segment_at (map segment_view items) i) a n ≡ true → x ≡ get_or items i x → bytes_from right (map segment_view items) a n ≡ in_segment right (segment_view x) a
served right items i a n x z laid l e is =
    let within : i < length (map segment_view items) = omega (arith, l, length-map items segment_view) in
    serves right (map segment_view items) i a n z laid within e ∙ ap (λ g. in_segment right g a) (at_index items i x l is)

pub served_open : (right : words.Segment → Bool) (items : List Segment) (i a n : ℕ) (x : Segment) → 0 < n → IsMemory (map segment_view items) → i < length items
    → holds (segment_at (map segment_view items) i) a n ≡ true → x ≡ get_or items i x → right (segment_view x) ≡ true
    → bytes_from right (map segment_view items) a n ≡ Some (drop (a - x.address) x.bytes.items)
served_open right items i a n x z laid l e is r =
    let none : Option (List ℕ) = None in
    served right items i a n x z laid l e is ∙ ap (λ b. cond b (Some (drop (a - x.address) x.bytes.items)) none) r

pub served_shut : (right : words.Segment → Bool) (items : List Segment) (i a n : ℕ) (x : Segment) → 0 < n → IsMemory (map segment_view items) → i < length items
    → holds (segment_at (map segment_view items) i) a n ≡ true → x ≡ get_or items i x → right (segment_view x) ≡ false → bytes_from right (map segment_view items) a n ≡ None
served_shut right items i a n x z laid l e is r =
    let none : Option (List ℕ) = None in
    served right items i a n x z laid l e is ∙ ap (λ b. cond b (Some (drop (a - x.address) x.bytes.items)) none) r

-- ---- writing

-- Memory with other bytes in the segment at an index, where it has the right.
abbrev into : List words.Segment → ℕ → ℕ → List ℕ → words.Segment → Option (List words.Segment)
into gs i a ys g = cond g.writable (Some (set gs i (with_bytes g (put_bytes g.bytes (a - g.address) ys)))) None

into_behind : (g : words.Segment) (gs : List words.Segment) (i a : ℕ) (ys : List ℕ) (h : words.Segment) → behind_segment g (into gs i a ys h) ≡ into (g ∷ gs) (suc i) a ys h
into_behind g gs i a ys h = go h.writable
  where
    go : (b : Bool) → behind_segment g (cond b (Some (set gs i (with_bytes h (put_bytes h.bytes (a - h.address) ys)))) None) ≡ cond b
        (Some (set (g ∷ gs) (suc i) (with_bytes h (put_bytes h.bytes (a - h.address) ys)))) None
    go true = refl
    go false = refl

stores : (gs : List words.Segment) (i a : ℕ) (ys : List ℕ) → 0 < length ys → IsMemory gs → i < length gs → holds (segment_at gs i) a (length ys) ≡ true
    → stored gs a ys ≡ into gs i a ys (segment_at gs i)
stores [] i a ys z laid l e = absurd (omega (arith, l))
stores (g ∷ gs) zero a ys z laid l e = ap (λ b. cond b (into (g ∷ gs) zero a ys g) (behind_segment g (stored gs a ys))) e
stores (g ∷ gs) (suc i) a ys z laid l e =
    let within : i < length gs = omega (arith, l) in
    let first : holds g a (length ys) ≡ false = laid.apart zero (suc i) a (length ys) (omega arith) l z e in
    ap (λ b. cond b (into (g ∷ gs) zero a ys g) (behind_segment g (stored gs a ys))) first ∙ ap (behind_segment g) (stores gs i a ys z (behind g gs laid) within e)
    ∙ into_behind g gs i a ys (segment_at gs i)

none_stores : (gs : List words.Segment) (a : ℕ) (ys : List ℕ) → NoneHolds gs a (length ys) → stored gs a ys ≡ None
none_stores [] a ys h = refl
none_stores (g ∷ gs) a ys h =
    ap (λ b. cond b (into (g ∷ gs) zero a ys g) (behind_segment g (stored gs a ys))) (h zero (omega arith)) ∙ ap (behind_segment g) (none_stores gs a ys (λ i l. h (suc i) (omega (arith, l))))

pub no_place : (gs : List words.Segment) (a n : ℕ) (ys : List ℕ) → length ys ≡ n → NoneHolds gs a n → stored gs a ys ≡ None
no_place gs a n ys e h = none_stores gs a ys (subst (NoneHolds gs a) (sym e) h)

pub shut_place : (items : List Segment) (i a n : ℕ) (x : Segment) (ys : List ℕ) → length ys ≡ n → 0 < n → IsMemory (map segment_view items) → i < length items
    → holds (segment_at (map segment_view items) i) a n ≡ true → x ≡ get_or items i x → x.writable ≡ false → stored (map segment_view items) a ys ≡ None
shut_place items i a n x ys size z laid l e is w =
    let within : i < length (map segment_view items) = omega (arith, l, length-map items segment_view) in
    let some : 0 < length ys = omega (arith, size, z) in
    let here : holds (segment_at (map segment_view items) i) a (length ys) ≡ true = subst (λ k. holds (segment_at (map segment_view items) i) a k ≡ true) (sym size) e in
    let none : Option (List words.Segment) = None in
    stores (map segment_view items) i a ys some laid within here
    ∙ ap (into (map segment_view items) i a ys) (at_index items i x l is)
    ∙ ap (λ b. cond b (Some (set (map segment_view items) i (with_bytes (segment_view x) (put_bytes x.bytes.items (a - x.address) ys)))) none) w

pub open_place : (items : List Segment) (i : ℕ) (x : Segment) → i < length items → x ≡ get_or items i x → x.writable ≡ true → (segment_at (map segment_view items) i).writable ≡ true
open_place items i x l is w = ap (λ g. g.writable) (at_index items i x l is) ∙ w

pub written : (c : Core) (items : List Segment) (i a : ℕ) (x y : Segment) (ys : List ℕ) → c.segments ≡ map segment_view items → 0 < length ys → IsMemory (map segment_view items) → i < length items
    → holds (segment_at (map segment_view items) i) a (length ys) ≡ true → x ≡ get_or items i x → (segment_at (map segment_view items) i).writable ≡ true
    → segment_view y ≡ with_bytes (segment_view x) (put_bytes x.bytes.items (a - x.address) ys) → write_bytes c a ys ≡ Ok (with_segments (map segment_view (set items i y)) c)
written c items i a x y ys p some laid l e is w made =
    let within : i < length (map segment_view items) = omega (arith, l, length-map items segment_view) in
    let none : Option (List words.Segment) = None in
    let may : x.writable ≡ true = sym (ap (λ g. g.writable) (at_index items i x l is)) ∙ w in
    let store : Option (List words.Segment) → Result Core StuckCause = λ o. when_ok (or_access a o) (λ gs. Ok (with_segments gs c)) in
    ap (λ gs. store (stored gs a ys)) p
    ∙ ap store (stores (map segment_view items) i a ys some laid within e)
    ∙ ap (λ g. store (into (map segment_view items) i a ys g)) (at_index items i x l is)
    ∙ ap (λ b. store (cond b (Some (set (map segment_view items) i (with_bytes (segment_view x) (put_bytes x.bytes.items (a - x.address) ys)))) none)) may
    ∙ ap (λ g. store (Some (set (map segment_view items) i g))) (sym made)
    ∙ ap (λ gs. store (Some gs)) (sym (map-set segment_view items i y))

pub not_written : (c : Core) (a : ℕ) (ys : List ℕ) → stored c.segments a ys ≡ None → write_bytes c a ys ≡ Err (Access a)
not_written c a ys e = ap (λ o. when_ok (or_access a o) (λ gs. Ok (with_segments gs c))) e

-- Where a place is found, any n bytes may be written there.
pub may_write : (c : Core) (items : List Segment) (i a n : ℕ) (ys : List ℕ) → c.segments ≡ map segment_view items → length ys ≡ n → 0 < n → IsMemory (map segment_view items) → i < length items
    → holds (segment_at (map segment_view items) i) a n ≡ true → (segment_at (map segment_view items) i).writable ≡ true → result_err (write_bytes c a ys) ≡ None
may_write c items i a n ys p size z laid l e w =
    let within : i < length (map segment_view items) = omega (arith, l, length-map items segment_view) in
    let some : 0 < length ys = omega (arith, size, z) in
    let here : holds (segment_at (map segment_view items) i) a (length ys) ≡ true = subst (λ k. holds (segment_at (map segment_view items) i) a k ≡ true) (sym size) e in
    let none : Option (List words.Segment) = None in
    let g = segment_at (map segment_view items) i in
    let store : Option (List words.Segment) → Result Core StuckCause = λ o. when_ok (or_access a o) (λ gs. Ok (with_segments gs c)) in
    ap (λ gs. result_err (store (stored gs a ys))) p
    ∙ ap (λ o. result_err (store o)) (stores (map segment_view items) i a ys some laid within here)
    ∙ ap (λ b. result_err (store (cond b (Some (set (map segment_view items) i (with_bytes g (put_bytes g.bytes (a - g.address) ys)))) none))) w

pub may_not_write : (c : Core) (a : ℕ) (ys : List ℕ) → stored c.segments a ys ≡ None → result_err (write_bytes c a ys) ≡ Some (Access a)
may_not_write c a ys e = ap result_err (not_written c a ys e)

-- ---- segments stay laid out

-- A list of segments with the same addresses and lengths.
record SameShape (gs hs : List words.Segment) : Type 0 where
  pub count : length hs ≡ length gs
  pub address : (i : ℕ) → (segment_at hs i).address ≡ (segment_at gs i).address
  pub size : (i : ℕ) → length (segment_at hs i).bytes ≡ length (segment_at gs i).bytes

same_shape : (gs : List words.Segment) (i : ℕ) (y : words.Segment) → y.address ≡ (segment_at gs i).address → length y.bytes ≡ length (segment_at gs i).bytes → SameShape gs (set gs i y)
same_shape gs i y ea es = record { count = length-set gs i y; address = λ j. addresses gs i j ea; size = λ j. sizes gs i j es }
  where
    addresses : (gs : List words.Segment) (i j : ℕ) → y.address ≡ (segment_at gs i).address → (segment_at (set gs i y) j).address ≡ (segment_at gs j).address
    addresses [] i j e = refl
    addresses (g ∷ gs) zero zero e = e
    addresses (g ∷ gs) zero (suc j) e = refl
    addresses (g ∷ gs) (suc i) zero e = refl
    addresses (g ∷ gs) (suc i) (suc j) e = addresses gs i j e

    sizes : (gs : List words.Segment) (i j : ℕ) → length y.bytes ≡ length (segment_at gs i).bytes → length (segment_at (set gs i y) j).bytes ≡ length (segment_at gs j).bytes
    sizes [] i j e = refl
    sizes (g ∷ gs) zero zero e = e
    sizes (g ∷ gs) zero (suc j) e = refl
    sizes (g ∷ gs) (suc i) zero e = refl
    sizes (g ∷ gs) (suc i) (suc j) e = sizes gs i j e

pub same_holds : (g h : words.Segment) (a n : ℕ) → h.address ≡ g.address → length h.bytes ≡ length g.bytes → holds h a n ≡ holds g a n
same_holds g h a n e s = ap (λ k. nat_le k a && nat_le (a + n) (k + length h.bytes)) e ∙ ap (λ k. nat_le g.address a && nat_le (a + n) (g.address + k)) s

still_laid_out : (gs hs : List words.Segment) → SameShape gs hs → IsMemory gs → IsMemory hs
still_laid_out gs hs s laid = record {
  apart = λ i j a n l m z e.
      let before : j < length gs = omega (arith, m, s.count) in
      same_holds (segment_at gs i) (segment_at hs i) a n (s.address i) (s.size i)
      ∙ laid.apart i j a n l before z (sym (same_holds (segment_at gs j) (segment_at hs j) a n (s.address j) (s.size j)) ∙ e);
  ends = λ i. let low = laid.ends i in omega (arith, low, s.address i, s.size i);
}

pub begins : (g : words.Segment) (a n : ℕ) → holds g a n ≡ true → g.address ≤ a
begins g a n e = grind (arith, nat_tests)

pub fits : (g : words.Segment) (a n : ℕ) → holds g a n ≡ true → (a - g.address) + n ≤ length g.bytes
fits g a n e = grind (arith, nat_tests)

-- The bytes at an address that a segment of the program holds lie within it.
pub begins_before : (items : List Segment) (i a n : ℕ) (x : Segment) → i < length items → holds (segment_at (map segment_view items) i) a n ≡ true → x ≡ get_or items i x → x.address ≤ a
begins_before items i a n x l e is = begins (segment_view x) a n (subst (λ g. holds g a n ≡ true) (at_index items i x l is) e)

pub lies_within : (items : List Segment) (i a n : ℕ) (x : Segment) → i < length items → holds (segment_at (map segment_view items) i) a n ≡ true → x ≡ get_or items i x
    → (a - x.address) + n ≤ length x.bytes.items
lies_within items i a n x l e is = fits (segment_view x) a n (subst (λ g. holds g a n ≡ true) (at_index items i x l is) e)

pub stays_laid_out : (items : List Segment) (i a : ℕ) (x y : Segment) (ys : List ℕ) → IsMemory (map segment_view items) → i < length items
    → holds (segment_at (map segment_view items) i) a (length ys) ≡ true → x ≡ get_or items i x → segment_view y ≡ with_bytes (segment_view x) (put_bytes x.bytes.items (a - x.address) ys)
    → IsMemory (map segment_view (set items i y))
stays_laid_out items i a x y ys laid l e is made =
    let at = at_index items i x l is in
    let room = fits (segment_view x) a (length ys) (subst (λ g. holds g a (length ys) ≡ true) at e) in
    let shape = same_shape (map segment_view items) i (segment_view y) (ap (λ g. g.address) made ∙ sym (ap (λ g. g.address) at))
    (ap (λ g. length g.bytes) made ∙ size_put x.bytes.items (a - x.address) ys room ∙ sym (ap (λ g. length g.bytes) at)) in
    subst IsMemory (sym (map-set segment_view items i y)) (still_laid_out (map segment_view items) (set (map segment_view items) i (segment_view y)) shape laid)
