-- The marks of a text that ends below 2^32 have addresses below it, so that a listing has lines for them.
use Rattle.std.proofs.Common.{◌≡◌, ◌+◌, ◌≤◌, ◌<◌, ◌^◌, ℕ, List, [], ◌∷◌, length, arith, refl, subst, sym, length-append}
use Rattle.std.proofs.lemmas.List.Elements.{All-cons, All-nil}
use Rattle.std.specs.Prelude.{All}
use Rattle.std.specs.List.{flat_map}
use Rattle.sch_insn.specs.declared.insn.Arg.TheVariants.{Rip}
use Rattle.sch_insn.specs.declared.insn.Insn.{Insn}
use Rattle.sch_insn.specs.declared.insn.Insn.TheVariants as insn
use Rattle.sch_insn.specs.Spelling.{spelling}
use Rattle.sch_asm.specs.Codes.{Codes}
use Rattle.sch_asm.specs.declared.item.Item.{Item}
use Rattle.sch_asm.specs.declared.item.Item.TheVariants.{Label, Plain, Jump, JumpIf, LoadLabel, LoadWord, StoreWord, Mark}
use Rattle.sch_asm.specs.declared.item.Mark as mark
use Rattle.sch_listing.specs.Lines.{IsListedMark}

module _ (place_of : ℕ → ℕ) (limit : ℕ) (small : limit < 2 ^ 32) where
  -- what is left of the text behind an instruction
  behind : (a size : ℕ) (i : Insn) (code rest : List Insn) → code ≡ i ∷ rest → length (spelling i) ≡ size → a + length (flat_map spelling code) ≤ limit
      → (a + size) + length (flat_map spelling rest) ≤ limit
  behind a size i code rest is sized within =
      let all = subst (λ code. a + length (flat_map spelling code) ≤ limit) is within in
      omega (arith, all, sized, length-append (spelling i) (flat_map spelling rest))

  pub marks_listed : (items : List Item) (a : ℕ) (code : List Insn) (marks : List mark.Mark) → Codes place_of a items code marks → a + length (flat_map spelling code) ≤ limit
      → All IsListedMark marks
  marks_listed [] a code marks h within = subst (All IsListedMark) (sym h.1) (All-nil IsListedMark)
  marks_listed (Label l ∷ is) a code marks h within = marks_listed is a code marks h.1 within
  marks_listed (Mark m ∷ is) a code marks h within =
      subst (All IsListedMark) (sym h.1)
      (All-cons IsListedMark (record { address = a; kind = m }) h.0 (omega (arith, within, small)) (marks_listed is a code h.0 h.2 within))
  marks_listed (Plain i ∷ is) a code marks h within =
      marks_listed is (a + length (spelling i)) h.0 marks h.2 (behind a (length (spelling i)) i code h.0 h.1 refl within)
  marks_listed (Jump l ∷ is) a code marks h within =
      marks_listed is (a + length (spelling h.0)) h.1 marks h.4 (behind a (length (spelling h.0)) h.0 code h.1 h.2 refl within)
  marks_listed (JumpIf c l ∷ is) a code marks h within =
      marks_listed is (a + length (spelling h.0)) h.1 marks h.4 (behind a (length (spelling h.0)) h.0 code h.1 h.2 refl within)
  marks_listed (LoadLabel r l ∷ is) a code marks h within =
      marks_listed is (a + 7) h.1 marks h.4 (behind a 7 (insn.Lea r (Rip h.0)) code h.1 h.2 refl within)
  marks_listed (LoadWord r at ∷ is) a code marks h within =
      marks_listed is (a + 7) h.1 marks h.4 (behind a 7 (insn.MovFrom r (Rip h.0)) code h.1 h.2 refl within)
  marks_listed (StoreWord at r ∷ is) a code marks h within =
      marks_listed is (a + 7) h.1 marks h.4 (behind a 7 (insn.MovTo (Rip h.0) r) code h.1 h.2 refl within)
