-- What is put out of items, with forms for their jumps, is what they are resolved to.
use Rattle.std.proofs.Common.{◌≡◌, ℕ, ◌+◌, ◌<◌, ◌≤◌, List, [], ◌∷◌, ◌++◌, length, Bool, true, false, cond, refl, sym, ap, ◌∙◌, subst, arith, append_assoc, length-append}
use Rattle.std.proofs.lemmas.Int.{ints}
use Rattle.std.specs.Int.{w8, w32}
use Rattle.std.specs.List.{flat_map}
use Rattle.std.specs.Prelude.{ℤ, pos, negsuc, ◌+ℤ◌, ◌-ℤ◌, FitsSigned}
use Rattle.sch_insn.specs.declared.insn.Insn.{Insn}
use Rattle.sch_insn.specs.Spelling.{AllValid, IsCondition, IsValid, spelling}
use Rattle.sch_insn.specs.Machine.{add64, word}
use Rattle.sch_jumps.specs.Sizes.{Set, end_from, is_near, jump_count}
use Rattle.sch_jumps.specs.Least.{AllReach}
use Rattle.sch_jumps.specs.Places as pieces
use Rattle.sch_jumps.proofs.Exact.{fits_by}
use Rattle.sch_jumps.proofs.Growth.{near_parts}
use Rattle.sch_asm.specs.declared.item.Item.{Item}
use Rattle.sch_asm.specs.declared.item.Item.TheVariants.{Label, Plain, Jump, JumpIf, LoadLabel, LoadWord, StoreWord, Mark}
use Rattle.sch_asm.specs.Items.{IsItem, AreItems}
use Rattle.sch_asm.specs.Codes.{Codes}
use Rattle.sch_asm.specs.Stands.{GoesTo, BranchesTo}
use Rattle.sch_asm.specs.Layout.{ReachFrom, Reaches, branch_of, displacement, emitted_from, insns_of, jump_of, jumps_in, jumps_of, marked_from, marks_of, size_from, size_of}
use Rattle.sch_asm.specs.Pieces.{skeleton}

-- ---- displacements

word_by : (next to : ℕ) (d : ℤ) → pos next +ℤ d ≡ pos to → next < 4294967296 → to < 2147483648 → add64 next (word d) ≡ to
word_by next to (pos n) e small lt = let s : next + n ≡ to = omega (arith, ints) in omega (arith, lt)
word_by next to (negsuc n) e small lt = let s : next ≡ to + n + 1 = omega (arith, ints) in omega (arith, lt)

leads : (next to : ℕ) → next < 4294967296 → to < 2147483648 → add64 next (word (displacement next to)) ≡ to
leads next to small lt = word_by next to (pos to -ℤ pos next) (omega (arith, ints)) small lt

wide_by : (z : ℤ) (next to : ℕ) → z ≡ pos to -ℤ pos next → next < 2147483648 → to < 2147483648 → FitsSigned w32 z
wide_by (pos n) next to e a b = record { sfits = omega (arith, ints) }
wide_by (negsuc n) next to e a b = record { sfits = omega (arith, ints) }

pub wide : (next to : ℕ) → next < 2147483648 → to < 2147483648 → FitsSigned w32 (displacement next to)
wide next to a b = wide_by (pos to -ℤ pos next) next to refl a b

pub slim : (next to : ℕ) → is_near next to ≡ true → FitsSigned w8 (displacement next to)
slim next to e = let p = near_parts next to e in fits_by (pos to -ℤ pos next) next to refl p.0 p.1

-- ---- the two forms of a jump

jump_size : (b : Bool) (d : ℤ) → length (spelling (jump_of b d)) ≡ cond b 5 2
jump_size true d = refl
jump_size false d = refl

branch_size : (b : Bool) (c : ℕ) (d : ℤ) → length (spelling (branch_of b c d)) ≡ cond b 6 2
branch_size true c d = refl
branch_size false c d = refl

jump_goes : (b : Bool) (d : ℤ) (next to : ℕ) → add64 next (word d) ≡ to → GoesTo (jump_of b d) next to
jump_goes true d next to e = e
jump_goes false d next to e = e

branch_goes : (b : Bool) (c : ℕ) (d : ℤ) (next to : ℕ) → add64 next (word d) ≡ to → BranchesTo c (branch_of b c d) next to
branch_goes true c d next to e = (refl, e)
branch_goes false c d next to e = (refl, e)

jump_valid : (b : Bool) (d : ℤ) → (b ≡ false → FitsSigned w8 d) → FitsSigned w32 d → IsValid (jump_of b d)
jump_valid true d short long = long
jump_valid false d short long = short refl

branch_valid : (b : Bool) (c : ℕ) (d : ℤ) → IsCondition c → (b ≡ false → FitsSigned w8 d) → FitsSigned w32 d → IsValid (branch_of b c d)
branch_valid true c d v short long = (v, long)
branch_valid false c d v short long = (v, short refl)

short_jump : (b : Bool) (a to n : ℕ) → (b ≡ false → is_near (a + 2) to ≡ true) → b ≡ false → FitsSigned w8 (displacement (a + cond b n 2) to)
short_jump b a to n near e = subst (λ t. FitsSigned w8 (displacement (a + cond t n 2) to)) (sym e) (slim (a + 2) to (near e))

-- ---- items from an address on

module _ (place : ℕ → ℕ) (long : Set) where
  -- a label's place is the address of its item
  abbrev Owns : ℕ → Item → Type 0
  Owns a (Label l) = place l ≡ a
  Owns a _ = Unit {0}

  abbrev pub Own : (k a : ℕ) → List Item → Type 0
  Own k a [] = Unit {0}
  Own k a (i ∷ is) = Owns a i × Own (k + jumps_of i) (a + size_of (long k) i) is

module _ (place : ℕ → ℕ) (small : (l : ℕ) → place l < 2147483648) (long : Set) where
  jump_leads : (b : Bool) (a l : ℕ) (d : ℤ) → a + cond b 5 2 < 2147483648 → d ≡ displacement (a + cond b 5 2) (place l) → GoesTo (jump_of b d) (a + length (spelling (jump_of b d))) (place l)
  jump_leads b a l d lt e =
      let n = a + cond b 5 2 in
      subst (λ m. GoesTo (jump_of b d) (a + m) (place l)) (sym (jump_size b d)) (jump_goes b d n (place l) (ap (λ z. add64 n (word z)) e ∙ leads n (place l) (omega (arith, lt)) (small l)))

  branch_leads : (b : Bool) (a c l : ℕ) (d : ℤ) → a + cond b 6 2 < 2147483648 → d ≡ displacement (a + cond b 6 2) (place l) → BranchesTo c (branch_of b c d) (a + length (spelling (branch_of b c d))) (place l)
  branch_leads b a c l d lt e =
      let n = a + cond b 6 2 in
      subst (λ m. BranchesTo c (branch_of b c d) (a + m) (place l)) (sym (branch_size b c d)) (branch_goes b c d n (place l) (ap (λ z. add64 n (word z)) e ∙ leads n (place l) (omega (arith, lt)) (small l)))

  pub codes : (is : List Item) (k a : ℕ) → a + size_from long k is < 2147483648 → AreItems is → Own place long k a is → Codes place a is (emitted_from place long k a is) (marked_from long k a is)
  codes [] k a lt v h = (refl, refl)
  codes (Label l ∷ is) k a lt v h =
      let e : a + 0 ≡ a = omega arith in
      (h.0, subst (λ b. Codes place b is (emitted_from place long (k + 0) (a + 0) is) (marked_from long (k + 0) (a + 0) is)) e (codes is (k + 0) (a + 0) (omega (arith, lt)) v.1 h.1))
  codes (Mark m ∷ is) k a lt v h =
      let e : a + 0 ≡ a = omega arith in
      (_, refl, subst (λ b. Codes place b is (emitted_from place long (k + 0) (a + 0) is) (marked_from long (k + 0) (a + 0) is)) e (codes is (k + 0) (a + 0) (omega (arith, lt)) v.1 h.1))
  codes (Plain i ∷ is) k a lt v h = (_, refl, codes is (k + 0) (a + length (spelling i)) (omega (arith, lt)) v.1 h.1)
  codes (Jump l ∷ is) k a lt v h =
      let n = a + cond (long k) 5 2 in
      let d = displacement n (place l) in
      (_, _, refl, jump_leads (long k) a l d (omega (arith, lt)) refl, subst (λ m. Codes place (a + m) is (emitted_from place long (k + 1) n is) (marked_from long (k + 1) n is)) (sym (jump_size (long k) d)) (codes is (k + 1) n (omega (arith, lt)) v.1 h.1))
  codes (JumpIf c l ∷ is) k a lt v h =
      let n = a + cond (long k) 6 2 in
      let d = displacement n (place l) in
      (_, _, refl, branch_leads (long k) a c l d (omega (arith, lt)) refl, subst (λ m. Codes place (a + m) is (emitted_from place long (k + 1) n is) (marked_from long (k + 1) n is)) (sym (branch_size (long k) c d)) (codes is (k + 1) n (omega (arith, lt)) v.1 h.1))
  codes (LoadLabel n l ∷ is) k a lt v h = (_, _, refl, leads (a + 7) (place l) (omega (arith, lt)) (small l), codes is (k + 0) (a + 7) (omega (arith, lt)) v.1 h.1)
  codes (LoadWord n to ∷ is) k a lt v h = (_, _, refl, leads (a + 7) to (omega (arith, lt)) (omega (arith, v.0.1.1)), codes is (k + 0) (a + 7) (omega (arith, lt)) v.1 h.1)
  codes (StoreWord to n ∷ is) k a lt v h = (_, _, refl, leads (a + 7) to (omega (arith, lt)) (omega (arith, v.0.1.1)), codes is (k + 0) (a + 7) (omega (arith, lt)) v.1 h.1)

  one_valid : (i : Item) (is : List Insn) (b : Bool) (a : ℕ) → a + size_of b i < 2147483648 → IsItem i → Reaches place b a i → AllValid is → AllValid (insns_of place b (a + size_of b i) i ++ is)
  one_valid (Label l) is b a lt v r h = h
  one_valid (Mark m) is b a lt v r h = h
  one_valid (Plain i) is b a lt v r h = (v.0, h)
  one_valid (Jump l) is b a lt v r h =
      let n = a + cond b 5 2 in
      (jump_valid b (displacement n (place l)) (short_jump b a (place l) 5 r) (wide n (place l) lt (small l)), h)
  one_valid (JumpIf c l) is b a lt v r h =
      let n = a + cond b 6 2 in
      (branch_valid b c (displacement n (place l)) v (short_jump b a (place l) 6 r) (wide n (place l) lt (small l)), h)
  one_valid (LoadLabel r l) is b a lt v _ h = ((wide (a + 7) (place l) lt (small l), v, refl), h)
  one_valid (LoadWord r to) is b a lt v _ h = ((wide (a + 7) to lt (omega (arith, v.1.1)), v.0), h)
  one_valid (StoreWord to r) is b a lt v _ h = ((wide (a + 7) to lt (omega (arith, v.1.1)), v.0), h)

  pub emitted_valid : (is : List Item) (k a : ℕ) → a + size_from long k is < 2147483648 → AreItems is → ReachFrom place long k a is → AllValid (emitted_from place long k a is)
  emitted_valid [] k a lt v r = tt
  emitted_valid (i ∷ is) k a lt v r =
      let k' = k + jumps_of i in
      let a' = a + size_of (long k) i in
      one_valid i (emitted_from place long k' a' is) (long k) a (omega (arith, lt)) v.0 r.0 (emitted_valid is k' a' (omega (arith, lt)) v.1 r.1)

-- ---- the size of what is put out

one_size : (place : ℕ → ℕ) (b : Bool) (next : ℕ) (i : Item) (is : List Insn) → length (flat_map spelling (insns_of place b next i ++ is)) ≡ size_of b i + length (flat_map spelling is)
one_size place b next (Label l) is = omega arith
one_size place b next (Mark m) is = omega arith
one_size place b next (Plain i) is = length-append (spelling i) (flat_map spelling is)
one_size place true next (Jump l) is = omega arith
one_size place false next (Jump l) is = omega arith
one_size place true next (JumpIf c l) is = omega arith
one_size place false next (JumpIf c l) is = omega arith
one_size place b next (LoadLabel r l) is = omega arith
one_size place b next (LoadWord r to) is = omega arith
one_size place b next (StoreWord to r) is = omega arith

pub emitted_size : (place : ℕ → ℕ) (long : Set) (is : List Item) (k a : ℕ) → length (flat_map spelling (emitted_from place long k a is)) ≡ size_from long k is
emitted_size place long [] k a = refl
emitted_size place long (i ∷ is) k a =
    let k' = k + jumps_of i in
    let a' = a + size_of (long k) i in
    one_size place (long k) a' i (emitted_from place long k' a' is) ∙ ap (λ n. size_of (long k) i + n) (emitted_size place long is k' a')

-- ---- two lists of items

pub jumps_append : (xs ys : List Item) → jumps_in (xs ++ ys) ≡ jumps_in xs + jumps_in ys
jumps_append [] ys = omega arith
jumps_append (x ∷ xs) ys = omega (arith, jumps_append xs ys)

pub size_append : (long : Set) (xs ys : List Item) (k : ℕ) → size_from long k (xs ++ ys) ≡ size_from long k xs + size_from long (k + jumps_in xs) ys
size_append long [] ys k = let e : k ≡ k + 0 = omega arith in let m = ap (λ j. size_from long j ys) e in omega (arith, m)
size_append long (x ∷ xs) ys k =
    let h = size_append long xs ys (k + jumps_of x) in
    let e : k + jumps_of x + jumps_in xs ≡ k + jumps_in (x ∷ xs) = omega arith in
    let m = ap (λ j. size_from long j ys) e in
    omega (arith, h, m)

pub emitted_append : (place : ℕ → ℕ) (long : Set) (xs ys : List Item) (k a : ℕ) → emitted_from place long k a (xs ++ ys) ≡ emitted_from place long k a xs ++ emitted_from place long (k + jumps_in xs) (a + size_from long k xs) ys
emitted_append place long [] ys k a =
    let d : k ≡ k + 0 = omega arith in
    let e : a ≡ a + 0 = omega arith in
    ap (λ j. emitted_from place long j a ys) d ∙ ap (λ b. emitted_from place long (k + 0) b ys) e
emitted_append place long (x ∷ xs) ys k a =
    let j = k + jumps_of x in
    let b = a + size_of (long k) x in
    let d : j + jumps_in xs ≡ k + jumps_in (x ∷ xs) = omega arith in
    let e : b + size_from long j xs ≡ a + size_from long k (x ∷ xs) = omega arith in
    let later = emitted_from place long j b xs in
    ap (λ l. insns_of place (long k) b x ++ l) (emitted_append place long xs ys j b ∙ ap (λ i. later ++ emitted_from place long i (b + size_from long j xs) ys) d ∙ ap (λ c. later ++ emitted_from place long (k + jumps_in (x ∷ xs)) c ys) e)
    ∙ sym (append_assoc (insns_of place (long k) b x) later (emitted_from place long (k + jumps_in (x ∷ xs)) (a + size_from long k (x ∷ xs)) ys))

pub marked_append : (long : Set) (xs ys : List Item) (k a : ℕ) → marked_from long k a (xs ++ ys) ≡ marked_from long k a xs ++ marked_from long (k + jumps_in xs) (a + size_from long k xs) ys
marked_append long [] ys k a =
    let d : k ≡ k + 0 = omega arith in
    let e : a ≡ a + 0 = omega arith in
    ap (λ j. marked_from long j a ys) d ∙ ap (λ b. marked_from long (k + 0) b ys) e
marked_append long (x ∷ xs) ys k a =
    let j = k + jumps_of x in
    let b = a + size_of (long k) x in
    let d : j + jumps_in xs ≡ k + jumps_in (x ∷ xs) = omega arith in
    let e : b + size_from long j xs ≡ a + size_from long k (x ∷ xs) = omega arith in
    let later = marked_from long j b xs in
    ap (λ l. marks_of a x ++ l) (marked_append long xs ys j b ∙ ap (λ i. later ++ marked_from long i (b + size_from long j xs) ys) d ∙ ap (λ c. later ++ marked_from long (k + jumps_in (x ∷ xs)) c ys) e)
    ∙ sym (append_assoc (marks_of a x) later (marked_from long (k + jumps_in (x ∷ xs)) (a + size_from long k (x ∷ xs)) ys))

pub reach_front : (place : ℕ → ℕ) (long : Set) (xs ys : List Item) (k a : ℕ) → ReachFrom place long k a (xs ++ ys) → ReachFrom place long k a xs
reach_front place long [] ys k a h = tt
reach_front place long (x ∷ xs) ys k a h = (h.0, reach_front place long xs ys (k + jumps_of x) (a + size_of (long k) x) h.1)

pub reach_back : (place : ℕ → ℕ) (long : Set) (xs ys : List Item) (k a : ℕ) → ReachFrom place long k a (xs ++ ys) → ReachFrom place long (k + jumps_in xs) (a + size_from long k xs) ys
reach_back place long [] ys k a h =
    let d : k ≡ k + 0 = omega arith in
    let e : a ≡ a + 0 = omega arith in
    subst (λ b. ReachFrom place long (k + 0) b ys) e (subst (λ j. ReachFrom place long j a ys) d h)
reach_back place long (x ∷ xs) ys k a h =
    let j = k + jumps_of x in
    let b = a + size_of (long k) x in
    let d : j + jumps_in xs ≡ k + jumps_in (x ∷ xs) = omega arith in
    let e : b + size_from long j xs ≡ a + size_from long k (x ∷ xs) = omega arith in
    subst (λ c. ReachFrom place long (k + jumps_in (x ∷ xs)) c ys) e (subst (λ i. ReachFrom place long i (b + size_from long j xs) ys) d (reach_back place long xs ys j b h.1))

-- ---- what is known of pieces is known of their items

at_same : (P : ℕ → ℕ → Type 0) (k a : ℕ) → P k a → P (k + 0) (a + 0)
at_same P k a h =
    let d : k ≡ k + 0 = omega arith in
    let e : a ≡ a + 0 = omega arith in
    subst (P (k + 0)) e (subst (λ j. P j a) d h)

count_same : (P : ℕ → Type 0) (k : ℕ) → P k → P (k + 0)
count_same P k h = let d : k ≡ k + 0 = omega arith in subst P d h

pub own_items : (place : ℕ → ℕ) (long : Set) (is : List Item) (k a : ℕ) → pieces.Own long place k a (skeleton is) → Own place long k a is
own_items place long [] k a h = tt
own_items place long (Label l ∷ is) k a h = (h.0, at_same (λ j b. Own place long j b is) k a (own_items place long is k a h.1))
own_items place long (Mark m ∷ is) k a h = (tt, count_same (λ j. Own place long j (a + 0) is) k (own_items place long is k (a + 0) h))
own_items place long (Plain i ∷ is) k a h = (tt, count_same (λ j. Own place long j (a + length (spelling i)) is) k (own_items place long is k (a + length (spelling i)) h))
own_items place long (Jump l ∷ is) k a h = (tt, own_items place long is (k + 1) (a + cond (long k) 5 2) h)
own_items place long (JumpIf c l ∷ is) k a h = (tt, own_items place long is (k + 1) (a + cond (long k) 6 2) h)
own_items place long (LoadLabel r l ∷ is) k a h = (tt, count_same (λ j. Own place long j (a + 7) is) k (own_items place long is k (a + 7) h))
own_items place long (LoadWord r w ∷ is) k a h = (tt, count_same (λ j. Own place long j (a + 7) is) k (own_items place long is k (a + 7) h))
own_items place long (StoreWord w r ∷ is) k a h = (tt, count_same (λ j. Own place long j (a + 7) is) k (own_items place long is k (a + 7) h))

pub reach_items : (place : ℕ → ℕ) (long : Set) (is : List Item) (k a : ℕ) → AllReach long place k a (skeleton is) → ReachFrom place long k a is
reach_items place long [] k a h = tt
reach_items place long (Label l ∷ is) k a h = (tt, at_same (λ j b. ReachFrom place long j b is) k a (reach_items place long is k a h))
reach_items place long (Mark m ∷ is) k a h = (tt, count_same (λ j. ReachFrom place long j (a + 0) is) k (reach_items place long is k (a + 0) h))
reach_items place long (Plain i ∷ is) k a h = (tt, count_same (λ j. ReachFrom place long j (a + length (spelling i)) is) k (reach_items place long is k (a + length (spelling i)) h))
reach_items place long (Jump l ∷ is) k a h = (h.0, reach_items place long is (k + 1) (a + cond (long k) 5 2) h.1)
reach_items place long (JumpIf c l ∷ is) k a h = (h.0, reach_items place long is (k + 1) (a + cond (long k) 6 2) h.1)
reach_items place long (LoadLabel r l ∷ is) k a h = (tt, count_same (λ j. ReachFrom place long j (a + 7) is) k (reach_items place long is k (a + 7) h))
reach_items place long (LoadWord r w ∷ is) k a h = (tt, count_same (λ j. ReachFrom place long j (a + 7) is) k (reach_items place long is k (a + 7) h))
reach_items place long (StoreWord w r ∷ is) k a h = (tt, count_same (λ j. ReachFrom place long j (a + 7) is) k (reach_items place long is k (a + 7) h))

unmoved : (long : Set) (is : List Item) (k : ℕ) → size_from long (k + 0) is ≡ size_from long k is
unmoved long is k = let e : k + 0 ≡ k = omega arith in ap (λ j. size_from long j is) e

pub end_items : (long : Set) (is : List Item) (k a : ℕ) → end_from long k a (skeleton is) ≡ a + size_from long k is
end_items long [] k a = omega arith
end_items long (Label l ∷ is) k a = let h = end_items long is k a in let e = unmoved long is k in omega (arith, h, e)
end_items long (Mark m ∷ is) k a = let h = end_items long is k (a + 0) in let e = unmoved long is k in omega (arith, h, e)
end_items long (Plain i ∷ is) k a = let h = end_items long is k (a + length (spelling i)) in let e = unmoved long is k in omega (arith, h, e)
end_items long (Jump l ∷ is) k a = let h = end_items long is (k + 1) (a + cond (long k) 5 2) in omega (arith, h)
end_items long (JumpIf c l ∷ is) k a = let h = end_items long is (k + 1) (a + cond (long k) 6 2) in omega (arith, h)
end_items long (LoadLabel r l ∷ is) k a = let h = end_items long is k (a + 7) in let e = unmoved long is k in omega (arith, h, e)
end_items long (LoadWord r w ∷ is) k a = let h = end_items long is k (a + 7) in let e = unmoved long is k in omega (arith, h, e)
end_items long (StoreWord w r ∷ is) k a = let h = end_items long is k (a + 7) in let e = unmoved long is k in omega (arith, h, e)

pub jumps_items : (is : List Item) → jump_count (skeleton is) ≡ jumps_in is
jumps_items [] = refl
jumps_items (Label l ∷ is) = let h = jumps_items is in omega (arith, h)
jumps_items (Mark m ∷ is) = let h = jumps_items is in omega (arith, h)
jumps_items (Plain i ∷ is) = let h = jumps_items is in omega (arith, h)
jumps_items (Jump l ∷ is) = let h = jumps_items is in omega (arith, h)
jumps_items (JumpIf c l ∷ is) = let h = jumps_items is in omega (arith, h)
jumps_items (LoadLabel r l ∷ is) = let h = jumps_items is in omega (arith, h)
jumps_items (LoadWord r w ∷ is) = let h = jumps_items is in omega (arith, h)
jumps_items (StoreWord w r ∷ is) = let h = jumps_items is in omega (arith, h)

one_jump : (i : Item) → jumps_of i ≤ 1
one_jump (Label l) = omega arith
one_jump (Mark m) = omega arith
one_jump (Plain i) = omega arith
one_jump (Jump l) = omega arith
one_jump (JumpIf c l) = omega arith
one_jump (LoadLabel r l) = omega arith
one_jump (LoadWord r w) = omega arith
one_jump (StoreWord w r) = omega arith

pub few_jumps : (is : List Item) → jumps_in is ≤ length is
few_jumps [] = omega arith
few_jumps (i ∷ is) = let h = few_jumps is in let e = one_jump i in omega (arith, h, e)
