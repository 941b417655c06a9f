-- A list of items in parts: the next part, and what is put out behind it.
use Rattle.std.proofs.Common.{◌≡◌, ℕ, suc, ◌+◌, ◌<◌, List, ◌∷◌, ◌++◌, Vec, length, drop, slice_index_or, flat_map, sym, ap, ◌∙◌, subst, arith, append_assoc, drop-cons, length-append}
use Rattle.std.specs.declared.alloc.Global.{Global}
use Rattle.sch_insn.specs.declared.insn.Insn.{Insn}
use Rattle.sch_jumps.specs.Sizes.{Set}
use Rattle.sch_asm.specs.declared.item.Item.{Item}
use Rattle.sch_asm.specs.declared.item.Mark as mark
use Rattle.sch_asm.specs.ItemParts.{items_in_parts}
use Rattle.sch_asm.specs.Layout.{ReachFrom, emitted_from, jumps_in, marked_from, size_from}
use Rattle.sch_asm.proofs.Emitted.{emitted_append, few_jumps, jumps_append, marked_append, reach_back, size_append}

-- behind its first part a list has the others
pub next_part : (earlier : List (Vec Item Global)) (last : List Item) (i : ℕ) (part : Vec Item Global) (items : List Item) → i < length earlier → part ≡ slice_index_or earlier i part → items ≡ part.items
    → items_in_parts (drop i earlier) last ≡ items ++ items_in_parts (drop (i + 1) earlier) last
next_part earlier last i part items within is same =
    let next : suc i ≡ i + 1 = omega arith in
    let rest = drop (i + 1) earlier in
    let cut : drop i earlier ≡ part ∷ rest = drop-cons earlier i part within ∙ ap (λ p. p ∷ drop (suc i) earlier) (sym is) ∙ ap (λ n. part ∷ drop n earlier) next in
    ap (λ l. items_in_parts l last) cut ∙ append_assoc part.items (flat_map (λ other. other.items) rest) last ∙ ap (λ l. l ++ items_in_parts rest last) (sym same)

-- Where items have two parts, what holds of them from (k, a) on holds of the second from behind the first on.
module _ (place : ℕ → ℕ) (long : Set) (xs ys all : List Item) (split : all ≡ xs ++ ys) (k a k' a' : ℕ) (jumps : k' ≡ k + jumps_in xs) (end : a' ≡ a + size_from long k xs) where
  pub code_behind : (code code' whole : List Insn) → code' ≡ code ++ emitted_from place long k a xs → code ++ emitted_from place long k a all ≡ whole → code' ++ emitted_from place long k' a' ys ≡ whole
  code_behind code code' whole h is =
      let front = emitted_from place long k a xs in
      ap (λ l. l ++ emitted_from place long k' a' ys) h ∙ ap (λ j. (code ++ front) ++ emitted_from place long j a' ys) jumps ∙ ap (λ b. (code ++ front) ++ emitted_from place long (k + jumps_in xs) b ys) end
      ∙ append_assoc code front (emitted_from place long (k + jumps_in xs) (a + size_from long k xs) ys) ∙ ap (λ l. code ++ l) (sym (emitted_append place long xs ys k a)) ∙ ap (λ l. code ++ emitted_from place long k a l) (sym split) ∙ is

  pub marks_behind : (marks marks' whole : List mark.Mark) → marks' ≡ marks ++ marked_from long k a xs → marks ++ marked_from long k a all ≡ whole → marks' ++ marked_from long k' a' ys ≡ whole
  marks_behind marks marks' whole h is =
      let front = marked_from long k a xs in
      ap (λ l. l ++ marked_from long k' a' ys) h ∙ ap (λ j. (marks ++ front) ++ marked_from long j a' ys) jumps ∙ ap (λ b. (marks ++ front) ++ marked_from long (k + jumps_in xs) b ys) end
      ∙ append_assoc marks front (marked_from long (k + jumps_in xs) (a + size_from long k xs) ys) ∙ ap (λ l. marks ++ l) (sym (marked_append long xs ys k a)) ∙ ap (λ l. marks ++ marked_from long k a l) (sym split) ∙ is

  pub end_behind : (whole : ℕ) → a + size_from long k all ≡ whole → a' + size_from long k' ys ≡ whole
  end_behind whole is =
      let both = ap (size_from long k) split ∙ size_append long xs ys k in
      let same = ap (λ j. size_from long j ys) jumps in
      omega (arith, is, both, same, end)

  pub count_behind : (whole : ℕ) → k + jumps_in all ≡ whole → k' + jumps_in ys ≡ whole
  count_behind whole is =
      let both = ap jumps_in split ∙ jumps_append xs ys in
      omega (arith, is, both, jumps)

  pub few_behind : (n : ℕ) → k + length all < n → k' + length ys < n
  few_behind n few =
      let both = ap length split ∙ length-append xs ys in
      let some = few_jumps xs in
      omega (arith, few, both, some, jumps)

  pub reach_behind : ReachFrom place long k a all → ReachFrom place long k' a' ys
  reach_behind reach =
      subst (λ j. ReachFrom place long j a' ys) (sym jumps) (subst (λ b. ReachFrom place long (k + jumps_in xs) b ys) (sym end) (reach_back place long xs ys k a (subst (ReachFrom place long k a) split reach)))
