-- What is kept of a memory that nothing can write over stays what is fetched, whatever is written.
use Rattle.std.proofs.Common.{◌≡◌, ℕ, zero, suc, ◌+◌, ◌-◌, ◌<◌, ◌≤◌, ◌^◌, List, [], ◌∷◌, length, drop, get_or, set, subst, Bool, true, false, cond, Option, Some, None, refl, sym, ap, ◌∙◌, arith, length-drop, ◌&&◌}
use Rattle.std.proofs.lemmas.List.{map-set}
use Rattle.std.proofs.lemmas.List.Elements.{All-set}
use Rattle.std.specs.Prelude.{map, not, replicate, IfSome}
use Rattle.sch_word.specs.values.Memory as words
use Rattle.sch_insn.specs.declared.insn.Insn.{Insn}
use Rattle.sch_insn.specs.Spelling.{IsValid}
use Rattle.sch_insn.specs.Decode.{decode}
use Rattle.sch_word.specs.values.Options.{when_some}
use Rattle.std.proofs.Math.Bool.{and-false}
use Rattle.sch_insn.specs.Machine.{holds, bytes_from, put_bytes, with_bytes}
use Rattle.sch_insn.specs.Step.{fetch}
use Rattle.sch_insn.proofs.PutSize.{size_put}
use Rattle.sch_step.specs.declared.segment.Segment.{Segment}
use Rattle.sch_step.specs.declared.fetched.Fetched.{Fetched}
use Rattle.sch_step.specs.Layout.{segment_view, segment_at, IsMemory}
use Rattle.sch_step.proofs.Memory.{same_holds, at_index, begins, fits}
use Rattle.sch_step.specs.Fetched.{is_fixed, fetch_fixed, IsFetched, AreFetched, nothing_fetched}

-- ---- what is kept is what is fetched

may : (h e w : Bool) (x r s : Option (List ℕ)) (bs : List ℕ) → (r ≡ Some bs → s ≡ Some bs) → cond h (cond (e && not w) x None) r ≡ Some bs → cond h (cond e x None) s ≡ Some bs
may false e w x r s bs f is = f is
may true true false x r s bs f is = is
may true true true x r s bs f is = absurd cc
may true false w x r s bs f is = is

executable : (gs : List words.Segment) (a n : ℕ) (bs : List ℕ) → bytes_from is_fixed gs a n ≡ Some bs → bytes_from (λ g. g.executable) gs a n ≡ Some bs
executable [] a n bs is = is
executable (g ∷ gs) a n bs is =
    may (holds g a n) g.executable g.writable (Some (drop (a - g.address) g.bytes)) (bytes_from is_fixed gs a n) (bytes_from (λ g. g.executable) gs a n) bs (executable gs a n bs) is

read : (o q : Option (List ℕ)) (p : Insn × ℕ) → ((bs : List ℕ) → o ≡ Some bs → q ≡ Some bs) → when_some o decode ≡ Some p → when_some q decode ≡ Some p
read None q p f is = absurd cc
read (Some bs) q p f is = ap (λ o. when_some o decode) (f bs refl) ∙ is

pub fetches : (gs : List words.Segment) (a : ℕ) (p : Insn × ℕ) → fetch_fixed gs a ≡ Some p → fetch gs a ≡ Some p
fetches gs a p is = read (bytes_from is_fixed gs a 1) (bytes_from (λ g. g.executable) gs a 1) p (executable gs a 1) is

pub is_fixed_by : (g : words.Segment) → g.executable ≡ true → g.writable ≡ false → is_fixed g ≡ true
is_fixed_by g e w = ap (λ b. b && not g.writable) e ∙ ap not w

-- ---- what is written lies in other segments

not_fixed : (g : words.Segment) → g.writable ≡ true → is_fixed g ≡ false
not_fixed g w = ap (λ b. g.executable && not b) w ∙ and-false g.executable

bytes_stay : (gs : List words.Segment) (i : ℕ) (y : words.Segment) (a n : ℕ) → y.address ≡ (segment_at gs i).address → length y.bytes ≡ length (segment_at gs i).bytes
    → is_fixed y ≡ false → is_fixed (segment_at gs i) ≡ false → bytes_from is_fixed (set gs i y) a n ≡ bytes_from is_fixed gs a n
bytes_stay [] i y a n ea es u v = refl
bytes_stay (g ∷ gs) zero y a n ea es u v =
    let none : Option (List ℕ) = None in
    let rest = bytes_from is_fixed gs a n in
    ap (λ b. cond b (cond (is_fixed y) (Some (drop (a - y.address) y.bytes)) none) rest) (same_holds g y a n ea es)
    ∙ ap (λ b. cond (holds g a n) (cond b (Some (drop (a - y.address) y.bytes)) none) rest) u
    ∙ sym (ap (λ b. cond (holds g a n) (cond b (Some (drop (a - g.address) g.bytes)) none) rest) v)
bytes_stay (g ∷ gs) (suc i) y a n ea es u v =
    let none : Option (List ℕ) = None in
    ap (λ r. cond (holds g a n) (cond (is_fixed g) (Some (drop (a - g.address) g.bytes)) none) r) (bytes_stay gs i y a n ea es u v)

pub still_fetched : (items : List Segment) (i a : ℕ) (x y : Segment) (ys : List ℕ) (fs : List Fetched) → AreFetched (map segment_view items) fs → i < length items
    → holds (segment_at (map segment_view items) i) a (length ys) ≡ true → x ≡ get_or items i x → (segment_at (map segment_view items) i).writable ≡ true
    → segment_view y ≡ with_bytes (segment_view x) (put_bytes x.bytes.items (a - x.address) ys) → AreFetched (map segment_view (set items i y)) fs
still_fetched items i a x y ys fs kept l e is w made =
    subst (λ hs. AreFetched hs fs) (sym (map-set segment_view items i y)) (λ k d lt some. stays (get_or fs k d) (kept k d lt some))
  where
    gs : List words.Segment
    gs = map segment_view items

    at : segment_at gs i ≡ segment_view x
    at = at_index items i x l is

    room : (a - x.address) + length ys ≤ length x.bytes.items
    room = fits (segment_view x) a (length ys) (subst (λ g. holds g a (length ys) ≡ true) at e)

    address : y.address ≡ (segment_at gs i).address
    address = ap (λ g. g.address) made ∙ sym (ap (λ g. g.address) at)

    size : length y.bytes.items ≡ length (segment_at gs i).bytes
    size = ap (λ g. length g.bytes) made ∙ size_put x.bytes.items (a - x.address) ys room ∙ sym (ap (λ g. length g.bytes) at)

    before : is_fixed (segment_at gs i) ≡ false
    before = not_fixed (segment_at gs i) w

    after : is_fixed (segment_view y) ≡ false
    after = ap is_fixed made ∙ sym (ap is_fixed at) ∙ before

    stays : (f : Fetched) → IsFetched gs f → IsFetched (set gs i (segment_view y)) f
    stays f h = record {
      valid = h.valid;
      low = h.low;
      fixed = ap (λ o. when_some o decode) (bytes_stay gs i (segment_view y) f.at 1 address size after before) ∙ h.fixed;
    }

-- ---- the places

pub none_are : (gs : List words.Segment) (n : ℕ) → AreFetched gs (replicate n nothing_fetched)
none_are gs zero k d l some = absurd (omega (arith, l))
none_are gs (suc n) zero d l some = absurd (omega (arith, some))
none_are gs (suc n) (suc k) d l some = none_are gs n k d (omega (arith, l)) some

-- One more is kept in its place.
pub one_kept : (gs : List words.Segment) (fs : List Fetched) (k : ℕ) (f : Fetched) (o : Option (Insn × ℕ)) → AreFetched gs fs → o ≡ Some (f.insn, f.size)
    → fetch_fixed gs f.at ≡ o → IfSome o (λ p. IsValid p.0) → IfSome o (λ p. f.at + p.1 ≤ 2 ^ 47) → AreFetched gs (set fs k f)
one_kept gs fs k f o kept is fixed valid low = All-set (λ f. 0 < f.size → IsFetched gs f) fs k f (λ some. here) kept
  where
    here : IsFetched gs f
    here = record {
      valid = subst (λ o. IfSome o (λ p. IsValid p.0)) is valid;
      low = subst (λ o. IfSome o (λ p. f.at + p.1 ≤ 2 ^ 47)) is low;
      fixed = fixed ∙ is;
    }

-- What is found at its place is what is fetched.
pub found_at : (gs : List words.Segment) (fs : List Fetched) (k : ℕ) (f : Fetched) → AreFetched gs fs → k < length fs → f ≡ get_or fs k f → 0 < f.size → IsFetched gs f
found_at gs fs k f kept l is some = subst (IsFetched gs) (sym is) (kept k f l (subst (λ g. 0 < g.size) is some))

pub found_here : (gs : List words.Segment) (f : Fetched) (a : ℕ) → IsFetched gs f → f.at ≡ a → fetch gs a ≡ Some (f.insn, f.size)
found_here gs f a h e = fetches gs a (f.insn, f.size) (subst (λ p. fetch_fixed gs p ≡ Some (f.insn, f.size)) e h.fixed)

-- ---- where an instruction ends

ends_low : (o : Option (Insn × ℕ)) (a n : ℕ) → a + n ≤ 2 ^ 47 → IfSome o (λ p. p.1 ≤ n) → IfSome o (λ p. a + p.1 ≤ 2 ^ 47)
ends_low None a n l within = tt
ends_low (Some p) a n l within = omega (arith, l, within)

-- No instruction that is read in a segment ends behind 2^47.
pub read_low : (items : List Segment) (i a : ℕ) (x : Segment) (bytes : List ℕ) (o : Option (Insn × ℕ)) → IsMemory (map segment_view items) → i < length items
    → holds (segment_at (map segment_view items) i) a 1 ≡ true → x ≡ get_or items i x → bytes ≡ drop (a - x.address) x.bytes.items → IfSome o (λ p. p.1 ≤ length bytes)
    → IfSome o (λ p. a + p.1 ≤ 2 ^ 47)
read_low items i a x bytes o laid l e is read within =
    let at = at_index items i x l is in
    let here : holds (segment_view x) a 1 ≡ true = subst (λ g. holds g a 1 ≡ true) at e in
    let end : x.address + length x.bytes.items ≤ 2 ^ 47 = subst (λ g. g.address + length g.bytes ≤ 2 ^ 47) at (laid.ends i) in
    let begin : x.address ≤ a = begins (segment_view x) a 1 here in
    let room : (a - x.address) + 1 ≤ length x.bytes.items = fits (segment_view x) a 1 here in
    let rest : length bytes ≡ length x.bytes.items - (a - x.address) = ap length read ∙ length-drop (a - x.address) x.bytes.items in
    ends_low o a (length bytes) (omega (arith, end, begin, room, rest)) within
