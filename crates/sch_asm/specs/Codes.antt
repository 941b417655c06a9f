-- What items are resolved to: instructions, marks and the bytes of words.
use Rattle.std.specs.Prelude.{◌≡◌, ℕ, suc, ◌+◌, ◌^◌, ◌<◌, List, [], ◌∷◌, length, ℤ}
use Rattle.std.specs.Int.{w64, to_le_bytes}
use Rattle.std.specs.List.{flat_map}
use Rattle.sch_word.specs.runs.ProgramLayout.{text_address, max_text_size}
use Rattle.sch_insn.specs.declared.insn.Arg.TheVariants.{Rip}
use Rattle.sch_insn.specs.declared.insn.Insn.{Insn}
use Rattle.sch_insn.specs.declared.insn.Insn.TheVariants as insn
use Rattle.sch_insn.specs.Spelling.{spelling}
use Rattle.sch_insn.specs.Machine.{add64, word}
use Rattle.sch_asm.specs.declared.error.AsmError.{AsmError}
use Rattle.sch_asm.specs.declared.error.AsmError.TheVariants.{TextTooLarge, Memory}
use Rattle.sch_asm.specs.declared.assembly.Word.{Word}
use Rattle.sch_asm.specs.declared.assembly.Word.TheVariants.{Fixed, Address}
use Rattle.sch_asm.specs.declared.item.Item.{Item}
use Rattle.sch_asm.specs.declared.item.Item.TheVariants.{Label, Plain, Jump, JumpIf, LoadLabel, LoadWord, StoreWord, Mark}
use Rattle.sch_asm.specs.declared.item.Mark as mark
use Rattle.sch_asm.specs.Stands.{GoesTo, BranchesTo}

module _ (place_of : ℕ → ℕ) where
  -- Items from an address on are these instructions and these marks, where each label has its place. No
  -- form of a jump is named: a jump is any instruction that goes there.
  abbrev pub Codes : ℕ → List Item → List Insn → List mark.Mark → Type 0
  Codes a [] code marks = (code ≡ []) × (marks ≡ [])
  Codes a (Label l ∷ is) code marks = (place_of l ≡ a) × Codes a is code marks
  Codes a (Mark m ∷ is) code marks = (rest : List mark.Mark) × (marks ≡ record { address = a; kind = m } ∷ rest) × Codes a is code rest
  Codes a (Plain i ∷ is) code marks = (rest : List Insn) × (code ≡ i ∷ rest) × Codes (a + length (spelling i)) is rest marks
  Codes a (Jump l ∷ is) code marks = (i : Insn) × (rest : List Insn) × (code ≡ i ∷ rest) × GoesTo i (a + length (spelling i)) (place_of l) × Codes (a + length (spelling i)) is rest marks
  Codes a (JumpIf c l ∷ is) code marks =
      (i : Insn) × (rest : List Insn) × (code ≡ i ∷ rest) × BranchesTo c i (a + length (spelling i)) (place_of l) × Codes (a + length (spelling i)) is rest marks
  Codes a (LoadLabel r l ∷ is) code marks = (d : ℤ) × (rest : List Insn) × (code ≡ insn.Lea r (Rip d) ∷ rest) × (add64 (a + 7) (word d) ≡ place_of l) × Codes (a + 7) is rest marks
  Codes a (LoadWord r at ∷ is) code marks = (d : ℤ) × (rest : List Insn) × (code ≡ insn.MovFrom r (Rip d) ∷ rest) × (add64 (a + 7) (word d) ≡ at) × Codes (a + 7) is rest marks
  Codes a (StoreWord at r ∷ is) code marks = (d : ℤ) × (rest : List Insn) × (code ≡ insn.MovTo (Rip d) r ∷ rest) × (add64 (a + 7) (word d) ≡ at) × Codes (a + 7) is rest marks

  abbrev pub value_of : Word → ℕ
  value_of (Fixed n) = n
  value_of (Address l) = place_of l

  -- the eight bytes of a word, the lowest first
  abbrev pub bytes_of : Word → List ℕ
  bytes_of w = to_le_bytes w64 (value_of w)

-- Items and words with an address for each label, from the address of the text on. Every address lies below 2^31.
pub record AreResolved (items : List Item) (data_words : List Word) (code : List Insn) (marks : List mark.Mark) (words : List ℕ) : Type 0 where
  pub place_of : ℕ → ℕ
  pub small : (l : ℕ) → place_of l < 2 ^ 31
  pub codes : Codes place_of text_address items code marks
  pub bytes : words ≡ flat_map (bytes_of place_of) data_words

-- ---- how many items become instructions, whatever forms these have: labels and marks do not

abbrev pub instructions_in : List Item → ℕ
instructions_in [] = 0
instructions_in (Label l ∷ is) = instructions_in is
instructions_in (Mark m ∷ is) = instructions_in is
instructions_in (_ ∷ is) = suc (instructions_in is)

-- ---- how long a text is at most: where all jumps have their long forms

abbrev pub item_size : Item → ℕ
item_size (Label l) = 0
item_size (Plain i) = length (spelling i)
item_size (Jump l) = 5
item_size (JumpIf c l) = 6
item_size (LoadLabel r l) = 7
item_size (LoadWord r a) = 7
item_size (StoreWord a r) = 7
item_size (Mark m) = 0

abbrev pub text_size : List Item → ℕ
text_size [] = 0
text_size (i ∷ is) = item_size i + text_size is

-- ---- what is refused

-- The error of a text that has this number of bytes: it is too large, or there was no memory.
abbrev pub IsTooLarge : ℕ → AsmError → Type 0
IsTooLarge size (TextTooLarge bytes) = (bytes ≡ size) × (max_text_size < bytes)
IsTooLarge size Memory = Unit {0}
