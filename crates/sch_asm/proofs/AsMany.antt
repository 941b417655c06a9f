-- There are as many instructions as items that are one, whatever forms they have.
use Rattle.std.proofs.Common.{◌≡◌, ℕ, suc, ◌+◌, List, [], ◌∷◌, length, ap, ◌∙◌}
use Rattle.sch_insn.specs.declared.insn.Insn.{Insn}
use Rattle.sch_insn.specs.Spelling.{spelling}
use Rattle.sch_asm.specs.declared.item.Item.{Item}
use Rattle.sch_asm.specs.declared.item.Item.TheVariants.{Label, Plain, Jump, JumpIf, LoadLabel, LoadWord, StoreWord, Mark}
use Rattle.sch_asm.specs.declared.item.Mark as mark
use Rattle.sch_asm.specs.Codes.{Codes, instructions_in}

module _ (place_of : ℕ → ℕ) where
  pub as_many : (a : ℕ) (is : List Item) (code : List Insn) (marks : List mark.Mark) → Codes place_of a is code marks → length code ≡ instructions_in is
  as_many a [] code marks h = ap length h.0
  as_many a (Label l ∷ is) code marks h = as_many a is code marks h.1
  as_many a (Mark m ∷ is) code marks h = as_many a is code h.0 h.2
  as_many a (Plain i ∷ is) code marks h = ap length h.1 ∙ ap suc (as_many (a + length (spelling i)) is h.0 marks h.2)
  as_many a (Jump l ∷ is) code marks h = ap length h.2 ∙ ap suc (as_many (a + length (spelling h.0)) is h.1 marks h.4)
  as_many a (JumpIf c l ∷ is) code marks h = ap length h.2 ∙ ap suc (as_many (a + length (spelling h.0)) is h.1 marks h.4)
  as_many a (LoadLabel r l ∷ is) code marks h = ap length h.2 ∙ ap suc (as_many (a + 7) is h.1 marks h.4)
  as_many a (LoadWord r at ∷ is) code marks h = ap length h.2 ∙ ap suc (as_many (a + 7) is h.1 marks h.4)
  as_many a (StoreWord at r ∷ is) code marks h = ap length h.2 ∙ ap suc (as_many (a + 7) is h.1 marks h.4)
