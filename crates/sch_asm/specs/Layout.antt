-- Where the items of a text stand, one behind the other from an address on, and what is put out of them.
use Rattle.std.specs.Prelude.{◌≡◌, ℕ, ◌+◌, ◌<◌, List, [], ◌∷◌, ◌++◌, length, slice_index, Bool, true, false, cond, ℤ, pos, ◌-ℤ◌}
use Rattle.sch_word.specs.runs.ProgramLayout.{text_address}
use Rattle.sch_insn.specs.declared.insn.Arg.TheVariants.{Rip}
use Rattle.sch_insn.specs.declared.insn.Insn.{Insn}
use Rattle.sch_insn.specs.declared.insn.Insn.TheVariants as insn
use Rattle.sch_insn.specs.Spelling.{IsValid}
use Rattle.sch_asm.specs.declared.assembly.Word.{Word}
use Rattle.sch_asm.specs.declared.assembly.Word.TheVariants.{Fixed, Address}
use Rattle.sch_asm.specs.declared.item.Item.{Item}
use Rattle.sch_asm.specs.declared.item.Item.TheVariants.{Label, Plain, Jump, JumpIf, LoadLabel, LoadWord, StoreWord, Mark}
use Rattle.sch_asm.specs.declared.item.Mark as mark
use Rattle.sch_jumps.specs.Sizes.{Set, is_near, jump_count}
use Rattle.sch_jumps.specs.Least.{AllReach, IsLeast}
use Rattle.sch_jumps.specs.Places.{Own}
use Rattle.sch_jumps.specs.Spans.{set_of}
use Rattle.sch_asm.specs.Codes.{item_size}
use Rattle.sch_asm.specs.Pieces.{skeleton}

-- ---- labels

-- The labels that stand are below n.
abbrev pub StandsBelow : ℕ → Item → Type 0
StandsBelow n (Label l) = l < n
StandsBelow n _ = Unit {0}

abbrev pub StandBelow : ℕ → List Item → Type 0
StandBelow n [] = Unit {0}
StandBelow n (i ∷ is) = StandsBelow n i × StandBelow n is

-- The labels that are used are below n.
abbrev pub UsesBelow : ℕ → Item → Type 0
UsesBelow n (Jump l) = l < n
UsesBelow n (JumpIf c l) = l < n
UsesBelow n (LoadLabel r l) = l < n
UsesBelow n _ = Unit {0}

abbrev pub UseBelow : ℕ → List Item → Type 0
UseBelow n [] = Unit {0}
UseBelow n (i ∷ is) = UsesBelow n i × UseBelow n is

abbrev pub WordBelow : ℕ → Word → Type 0
WordBelow n (Address l) = l < n
WordBelow n (Fixed v) = Unit {0}

abbrev pub WordsBelow : ℕ → List Word → Type 0
WordsBelow n [] = Unit {0}
WordsBelow n (w ∷ ws) = WordBelow n w × WordsBelow n ws

-- ---- sizes

abbrev pub IsSized : Item → Type 0
IsSized (Plain i) = IsValid i
IsSized _ = Unit {0}

-- ---- what is put out

abbrev pub displacement : ℕ → ℕ → ℤ
displacement next to = pos to -ℤ pos next

-- A jump, in its long or its short form.
abbrev pub jump_of : Bool → ℤ → Insn
jump_of true d = insn.Jump d
jump_of false d = insn.Jump8 d

abbrev pub branch_of : Bool → ℕ → ℤ → Insn
branch_of true c d = insn.JumpIf c d
branch_of false c d = insn.JumpIf8 c d

-- How many jumps an item is, and how many bytes it has where they are long or not.
abbrev pub jumps_of : Item → ℕ
jumps_of (Jump l) = 1
jumps_of (JumpIf c l) = 1
jumps_of _ = 0

abbrev pub size_of : Bool → Item → ℕ
size_of long (Jump l) = cond long 5 2
size_of long (JumpIf c l) = cond long 6 2
size_of long i = item_size i

-- The instruction of an item that ends before the address `next`.
abbrev pub insns_of : (ℕ → ℕ) → Bool → ℕ → Item → List Insn
insns_of place long next (Label l) = []
insns_of place long next (Plain i) = i ∷ []
insns_of place long next (Jump l) = jump_of long (displacement next (place l)) ∷ []
insns_of place long next (JumpIf c l) = branch_of long c (displacement next (place l)) ∷ []
insns_of place long next (LoadLabel r l) = insn.Lea r (Rip (displacement next (place l))) ∷ []
insns_of place long next (LoadWord r a) = insn.MovFrom r (Rip (displacement next a)) ∷ []
insns_of place long next (StoreWord a r) = insn.MovTo (Rip (displacement next a)) r ∷ []
insns_of place long next (Mark m) = []

-- The instruction of an item that stands at an address.
abbrev pub insns_at : (ℕ → ℕ) → Bool → ℕ → Item → List Insn
insns_at place long a i = insns_of place long (a + size_of long i) i

abbrev pub marks_of : ℕ → Item → List mark.Mark
marks_of a (Mark m) = record { address = a; kind = m } ∷ []
marks_of a _ = []

-- A short jump that stands at an address reaches its label.
abbrev pub Reaches : (ℕ → ℕ) → Bool → ℕ → Item → Type 0
Reaches place long a (Jump l) = long ≡ false → is_near (a + 2) (place l) ≡ true
Reaches place long a (JumpIf c l) = long ≡ false → is_near (a + 2) (place l) ≡ true
Reaches place long a _ = Unit {0}

-- Items that stand from an address on, k jumps before them, where `place` has the address of each label and `long` says
-- of each jump whether it is long.
module _ (place : ℕ → ℕ) (long : Set) where
  abbrev pub emitted_from : (k a : ℕ) → List Item → List Insn
  emitted_from k a [] = []
  emitted_from k a (i ∷ is) = insns_at place (long k) a i ++ emitted_from (k + jumps_of i) (a + size_of (long k) i) is

  abbrev pub ReachFrom : (k a : ℕ) → List Item → Type 0
  ReachFrom k a [] = Unit {0}
  ReachFrom k a (i ∷ is) = Reaches place (long k) a i × ReachFrom (k + jumps_of i) (a + size_of (long k) i) is

module _ (long : Set) where
  abbrev pub marked_from : (k a : ℕ) → List Item → List mark.Mark
  marked_from k a [] = []
  marked_from k a (i ∷ is) = marks_of a i ++ marked_from (k + jumps_of i) (a + size_of (long k) i) is

  abbrev pub size_from : (k : ℕ) → List Item → ℕ
  size_from k [] = 0
  size_from k (i ∷ is) = size_of (long k) i + size_from (k + jumps_of i) is

abbrev pub jumps_in : List Item → ℕ
jumps_in [] = 0
jumps_in (i ∷ is) = jumps_of i + jumps_in is

-- The table is that of items and words: each label that stands has the address of its item, each short jump reaches its
-- label, and each label that is used has a place in the table.
pub record IsLaidOut (items : List Item) (words : List Word) (places : List ℕ) (longs : List Bool) : Type 0 where
  pub least : IsLeast (skeleton items) (set_of longs)
  pub each : length longs ≡ jump_count (skeleton items)
  pub standing : Own (set_of longs) (slice_index places) 0 text_address (skeleton items)
  pub reach : AllReach (set_of longs) (slice_index places) 0 text_address (skeleton items)
  pub uses : UseBelow (length places) items
  pub words_use : WordsBelow (length places) words
