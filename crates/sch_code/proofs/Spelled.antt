-- A text spells the instructions whose spellings it is.
use Rattle.std.proofs.Common.{◌≡◌, ℕ, zero, suc, ◌+◌, ◌<◌, ◌≤◌, List, [], ◌∷◌, ◌++◌, length, take, Some, None, refl, sym, ap, ◌∙◌, subst, arith, append-nil, length-append}
use Rattle.std.proofs.lemmas.List.{length-take, take-take}
use Rattle.std.specs.List.{flat_map}
use Rattle.std.proofs.lemmas.List.Concat.{flat_map-append}
use Rattle.std.proofs.Math.Seq.{take-append-add, drop-append_seam}
use Rattle.sch_insn.specs.declared.insn.Insn.{Insn}
use Rattle.sch_insn.specs.Decode.{decode}
use Rattle.sch_insn.specs.Spelling.{AllValid, IsValid, spelling}
use Rattle.sch_insn.proofs.Reading.{decode_spelling}
use Rattle.sch_code.specs.Text.{IsText, and_behind, first_spelled, spelled_by}

-- a spelling has some bytes
some_bytes : (i : Insn) (bs : List ℕ) → IsValid i → bs ≡ spelling i → 0 < length bs
some_bytes i [] v e =
    let p : Insn × ℕ = (i, length (spelling i)) in
    let clash : None ≡ Some p = ap (λ l. decode (l ++ [])) e ∙ decode_spelling i [] v in
    absurd cc
some_bytes i (b ∷ bs) v e = omega arith

-- spellings are read as their instructions
reads_back : (is : List Insn) (n : ℕ) → AllValid is → length (flat_map spelling is) ≤ n → first_spelled n (flat_map spelling is) ≡ is
reads_back [] zero v le = refl
reads_back [] (suc n) v le = refl
reads_back (i ∷ is) zero v le =
    let some = some_bytes i (spelling i) v.0 refl in let l = length-append (spelling i) (flat_map spelling is) in absurd (omega (arith, le, some, l))
reads_back (i ∷ is) (suc n) v le =
    let rest = flat_map spelling is in
    let some = some_bytes i (spelling i) v.0 refl in
    let l = length-append (spelling i) rest in
    ap (and_behind (first_spelled n) (spelling i ++ rest)) (decode_spelling i rest v.0)
    ∙ ap (λ bs. i ∷ first_spelled n bs) (drop-append_seam (spelling i) rest)
    ∙ ap (λ all. i ∷ all) (reads_back is n v.1 (omega (arith, le, some, l)))

spelled_back : (is : List Insn) → AllValid is → spelled_by (flat_map spelling is) ≡ is
unfolding spelled_by
spelled_back is v = reads_back is (length (flat_map spelling is)) v (omega arith)

valid_append : (is : List Insn) (i : Insn) → AllValid is → IsValid i → AllValid (is ++ i ∷ [])
valid_append [] i v h = (h, tt)
valid_append (j ∷ is) i v h = (v.0, valid_append is i v.1 h)

-- there are no more instructions than bytes
no_more : (is : List Insn) → AllValid is → length is ≤ length (flat_map spelling is)
no_more [] v = omega arith
no_more (i ∷ is) v =
    let some = some_bytes i (spelling i) v.0 refl in let l = length-append (spelling i) (flat_map spelling is) in let h = no_more is v.1 in omega (arith, some, l, h)

pub few : (bytes : List ℕ) (count : ℕ) → IsText bytes count → count ≤ length bytes
few bytes count t = let h = no_more (spelled_by bytes) t.valid in let l = ap length t.whole in omega (arith, h, l, t.counted)

record Spells (bytes : List ℕ) (is : List Insn) : Type 0 where
  valid : AllValid is
  same : bytes ≡ flat_map spelling is

spelled_is : (bytes : List ℕ) (is : List Insn) → Spells bytes is → spelled_by bytes ≡ is
spelled_is bytes is s = ap spelled_by s.same ∙ spelled_back is s.valid

is_text : (bytes : List ℕ) (is : List Insn) → Spells bytes is → IsText bytes (length is)
is_text bytes is s =
    let e = spelled_is bytes is s in
    record { valid = subst AllValid (sym e) s.valid; whole = s.same ∙ ap (flat_map spelling) (sym e); counted = ap length (sym e) }

one_more : (bytes bytes' : List ℕ) (count : ℕ) (i : Insn) → IsText bytes count → IsValid i → bytes' ≡ bytes ++ spelling i → Spells bytes' (spelled_by bytes ++ i ∷ [])
one_more bytes bytes' count i t v e =
    let is = spelled_by bytes in
    record {
      valid = valid_append is i t.valid v;
      same = e ∙ ap (λ l. l ++ spelling i) t.whole ∙ ap (λ l. flat_map spelling is ++ l) (sym (append-nil (spelling i))) ∙ sym (flat_map-append spelling is (i ∷ []));
    }

pub pushed : (bytes bytes' : List ℕ) (count : ℕ) (i : Insn) → IsText bytes count → IsValid i → bytes' ≡ bytes ++ spelling i → spelled_by bytes' ≡ spelled_by bytes ++ i ∷ []
pushed bytes bytes' count i t v e = spelled_is bytes' (spelled_by bytes ++ i ∷ []) (one_more bytes bytes' count i t v e)

pub text_more : (bytes bytes' : List ℕ) (count count' : ℕ) (i : Insn) → IsText bytes count → IsValid i → bytes' ≡ bytes ++ spelling i → count' ≡ count + 1 → IsText bytes' count'
text_more bytes bytes' count count' i t v e f =
    let is = spelled_by bytes in
    let l = length-append is (i ∷ []) in
    subst (IsText bytes') (omega (arith, l, f, t.counted)) (is_text bytes' (is ++ i ∷ []) (one_more bytes bytes' count i t v e))

-- Some bytes were put over those from a place on: of them only the front is kept.
pub record Overwritten (all before whole spelled : List ℕ) (at room size : ℕ) : Type 0 where
  pub put : take (at + room) all ≡ before ++ whole
  pub front : take (length spelled) whole ≡ spelled
  pub count : size ≡ length spelled
  pub place : length before ≡ at
  pub few : size ≤ room

module _ (all before whole spelled : List ℕ) (at room size : ℕ) where
  pub front_kept : Overwritten all before whole spelled at room size → take (at + size) all ≡ before ++ spelled
  front_kept h =
      sym (take-take (at + size) (at + room) all (omega (arith, h.few))) ∙ ap (take (at + size)) h.put
      ∙ ap (λ n. take (n + size) (before ++ whole)) (sym h.place) ∙ take-append-add before whole size
      ∙ ap (λ l. before ++ l) (ap (λ n. take n whole) h.count ∙ h.front)

  pub front_within : Overwritten all before whole spelled at room size → at + size ≤ length all
  front_within h =
      let a = ap length h.put in let b = length-append before whole in let c = length-take (at + room) all in
      let d = ap length h.front in let e = length-take (length spelled) whole in
      omega (arith, a, b, c, d, e, h.count, h.place)

pub text_empty : IsText [] 0
text_empty = is_text [] [] (record { valid = tt; same = refl })

pub empty_by : (bytes : List ℕ) → bytes ≡ [] → spelled_by bytes ≡ []
empty_by bytes e = spelled_is bytes [] (record { valid = tt; same = e })
