-- That items stand in a text, whatever forms their instructions have and however long these are.
use Rattle.std.specs.Prelude.{◌≡◌, ℕ, ◌+◌, ◌≤◌, List, [], ◌∷◌, ◌++◌, length, Some, ℤ, cond, ◌==◌}
use Rattle.sch_word.specs.values.Memory.{Segment}
use Rattle.sch_word.specs.runs.ProgramLayout.{data_address}
use Rattle.sch_insn.specs.declared.insn.Arg.TheVariants.{Rip}
use Rattle.sch_insn.specs.declared.insn.Insn.{Insn}
use Rattle.sch_insn.specs.declared.insn.Insn.TheVariants as insn
use Rattle.sch_insn.specs.Machine.{add64, word}
use Rattle.sch_insn.specs.Step.{fetch, row}
use Rattle.sch_asm.specs.declared.item.Item.{Item}
use Rattle.sch_asm.specs.declared.item.Item.TheVariants.{Label, Plain, Jump, JumpIf, LoadLabel, LoadWord, StoreWord, Mark}
use Rattle.sch_asm.specs.declared.item.Mark as mark
use Rattle.sch_word.specs.declared.mark.MarkKind.{MarkKind}

-- The marks of an address, in their order.
abbrev pub marks_at : List mark.Mark → ℕ → List MarkKind
marks_at [] a = []
marks_at (m ∷ ms) a = cond (m.address == a) (m.kind ∷ marks_at ms a) (marks_at ms a)

-- Where a direct jump goes, from the address behind it.
abbrev pub GoesTo : Insn → ℕ → ℕ → Type 0
GoesTo (insn.Jump d) next to = add64 next (word d) ≡ to
GoesTo (insn.Jump8 d) next to = add64 next (word d) ≡ to
GoesTo _ next to = ⊥

abbrev pub BranchesTo : ℕ → Insn → ℕ → ℕ → Type 0
BranchesTo c (insn.JumpIf n d) next to = (c ≡ n) × (add64 next (word d) ≡ to)
BranchesTo c (insn.JumpIf8 n d) next to = (c ≡ n) × (add64 next (word d) ≡ to)
BranchesTo c _ next to = ⊥

-- The text of a program, the marks of each address, and the address of each label. The text ends before
-- the data begin.
pub record Setting : Type 0 where
  pub text : Segment
  pub marks : ℕ → List MarkKind
  pub place_of : ℕ → ℕ
  pub apart : text.address + length text.bytes ≤ data_address

module _ (setting : Setting) where
  -- An instruction stands at an address, n bytes long, with these marks, or one that does the same, as another form of it.
  abbrev pub Found : ℕ → Insn → ℕ → List MarkKind → Type 0
  Found a i n waiting = (there : Insn) × (fetch (setting.text ∷ []) a ≡ Some (there, n)) × (row there ≡ row i) × (setting.marks a ≡ waiting)

  -- The items stand from an address on, where these marks wait for the first instruction. What stands
  -- behind an instruction is found by its length.
  abbrev pub Stands : List MarkKind → ℕ → List Item → Type 0
  Stands waiting a [] = Unit {0}
  Stands waiting a (Label l ∷ is) = (waiting ≡ []) × (setting.place_of l ≡ a) × Stands [] a is
  Stands waiting a (Mark m ∷ is) = Stands (waiting ++ m ∷ []) a is
  Stands waiting a (Plain i ∷ is) = (n : ℕ) × Found a i n waiting × Stands [] (a + n) is
  Stands waiting a (Jump l ∷ is) = (n : ℕ) × (i : Insn) × Found a i n waiting × GoesTo i (a + n) (setting.place_of l) × Stands [] (a + n) is
  Stands waiting a (JumpIf c l ∷ is) = (n : ℕ) × (i : Insn) × Found a i n waiting × BranchesTo c i (a + n) (setting.place_of l) × Stands [] (a + n) is
  Stands waiting a (LoadLabel r l ∷ is) = (n : ℕ) × (d : ℤ) × Found a (insn.Lea r (Rip d)) n waiting × (add64 (a + n) (word d) ≡ setting.place_of l) × Stands [] (a + n) is
  Stands waiting a (LoadWord r at ∷ is) = (n : ℕ) × (d : ℤ) × Found a (insn.MovFrom r (Rip d)) n waiting × (add64 (a + n) (word d) ≡ at) × Stands [] (a + n) is
  Stands waiting a (StoreWord at r ∷ is) = (n : ℕ) × (d : ℤ) × Found a (insn.MovTo (Rip d) r) n waiting × (add64 (a + n) (word d) ≡ at) × Stands [] (a + n) is
