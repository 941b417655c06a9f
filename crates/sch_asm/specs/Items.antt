-- What items and words keep before they have addresses.
use Rattle.std.specs.Prelude.{◌≡◌, ◌≢◌, ℕ, ◌<◌, ◌≤◌, nat_le, nat_lt, List, [], ◌∷◌, ◌++◌, All, AllPairs, Bool, true, false, not, ◌&&◌, ◌||◌, IsTrue}
use Rattle.sch_word.specs.runs.ProgramLayout.{data_address}
use Rattle.sch_word.specs.trees.NumberSets.{has}
use Rattle.sch_insn.specs.declared.insn.Arg.{Arg}
use Rattle.sch_insn.specs.declared.insn.Arg.TheVariants.{Rip}
use Rattle.sch_insn.specs.declared.insn.Insn.{Insn}
use Rattle.sch_insn.specs.declared.insn.Insn.TheVariants as insn
use Rattle.sch_insn.specs.Spelling.{IsValid, IsCondition}
use Rattle.sch_asm.specs.declared.item.Item.{Item}
use Rattle.sch_asm.specs.declared.item.Item.TheVariants.{Label, Plain, Jump, JumpIf, LoadLabel, LoadWord, StoreWord, Mark}
use Rattle.sch_asm.specs.declared.assembly.Word.{Word}
use Rattle.sch_asm.specs.declared.assembly.Word.TheVariants.{Fixed, Address}
use Rattle.sch_asm.specs.declared.routine.Routine.{Routine}
use Rattle.sch_asm.specs.declared.routine.TheConstants.{FIRST_INNER_LABEL, FIRST_LABEL}
use Rattle.sch_asm.specs.Routines.{label_of, routine_count}

-- ---- one item

-- What an operand names does not depend on where its instruction stands.
abbrev pub IsFree : Arg → Type 0
IsFree (Rip d) = ⊥
IsFree _ = Unit {0}

-- Nor does what an instruction does: it has no Rip operand and is no direct jump.
abbrev pub IsPlain : Insn → Type 0
IsPlain (insn.MovTo m r) = IsFree m
IsPlain (insn.MovFrom r m) = IsFree m
IsPlain (insn.MovNumber m n) = IsFree m
IsPlain (insn.MovWord r n) = Unit {0}
IsPlain (insn.StoreByte m r) = IsFree m
IsPlain (insn.LoadByte r m) = IsFree m
IsPlain (insn.Lea r m) = IsFree m
IsPlain (insn.AddTo m r) = IsFree m
IsPlain (insn.OrTo m r) = IsFree m
IsPlain (insn.AndTo m r) = IsFree m
IsPlain (insn.SubTo m r) = IsFree m
IsPlain (insn.XorTo m r) = IsFree m
IsPlain (insn.CmpTo m r) = IsFree m
IsPlain (insn.AddFrom r m) = IsFree m
IsPlain (insn.OrFrom r m) = IsFree m
IsPlain (insn.AndFrom r m) = IsFree m
IsPlain (insn.SubFrom r m) = IsFree m
IsPlain (insn.XorFrom r m) = IsFree m
IsPlain (insn.CmpFrom r m) = IsFree m
IsPlain (insn.AddNumber m n) = IsFree m
IsPlain (insn.OrNumber m n) = IsFree m
IsPlain (insn.AndNumber m n) = IsFree m
IsPlain (insn.SubNumber m n) = IsFree m
IsPlain (insn.XorNumber m n) = IsFree m
IsPlain (insn.CmpNumber m n) = IsFree m
IsPlain (insn.AddNumber8 m n) = IsFree m
IsPlain (insn.OrNumber8 m n) = IsFree m
IsPlain (insn.AndNumber8 m n) = IsFree m
IsPlain (insn.SubNumber8 m n) = IsFree m
IsPlain (insn.XorNumber8 m n) = IsFree m
IsPlain (insn.CmpNumber8 m n) = IsFree m
IsPlain (insn.TestTo m r) = IsFree m
IsPlain (insn.Imul r m) = IsFree m
IsPlain (insn.Neg m) = IsFree m
IsPlain (insn.Idiv m) = IsFree m
IsPlain insn.Cqo = Unit {0}
IsPlain (insn.Shl m k) = IsFree m
IsPlain (insn.Shr m k) = IsFree m
IsPlain (insn.Sar m k) = IsFree m
IsPlain (insn.Jump d) = ⊥
IsPlain (insn.Jump8 d) = ⊥
IsPlain (insn.JumpTo m) = IsFree m
IsPlain (insn.JumpIf c d) = ⊥
IsPlain (insn.JumpIf8 c d) = ⊥
IsPlain insn.Syscall = Unit {0}

-- The addresses of data words: from that of the data on, and eight bytes below 2^31.
abbrev pub IsDataWord : ℕ → Type 0
IsDataWord a = (data_address ≤ a) × (a ≤ 0x7FFFFFF8)

abbrev pub IsItem : Item → Type 0
IsItem (Label l) = Unit {0}
IsItem (Plain i) = IsValid i × IsPlain i
IsItem (Jump l) = Unit {0}
IsItem (JumpIf c l) = IsCondition c
IsItem (LoadLabel r l) = r < 16
IsItem (LoadWord r a) = (r < 16) × IsDataWord a
IsItem (StoreWord a r) = (r < 16) × IsDataWord a
IsItem (Mark m) = Unit {0}

abbrev pub AreItems : List Item → Type 0
AreItems [] = Unit {0}
AreItems (i ∷ is) = IsItem i × AreItems is

-- ---- labels

-- The labels that stand in items, in their order.
abbrev pub labels_in : List Item → List ℕ
labels_in [] = []
labels_in (Label l ∷ is) = l ∷ labels_in is
labels_in (_ ∷ is) = labels_in is

-- The labels that items and words use.
abbrev pub uses_in : List Item → List ℕ
uses_in [] = []
uses_in (Jump l ∷ is) = l ∷ uses_in is
uses_in (JumpIf c l ∷ is) = l ∷ uses_in is
uses_in (LoadLabel r l ∷ is) = l ∷ uses_in is
uses_in (_ ∷ is) = uses_in is

abbrev pub word_uses : List Word → List ℕ
word_uses [] = []
word_uses (Address l ∷ ws) = l ∷ word_uses ws
word_uses (Fixed n ∷ ws) = word_uses ws

abbrev pub IsEachOnce : List ℕ → Type 0
IsEachOnce ls = AllPairs (λ l m. l ≢ m) ls

-- Whether a label is that of a routine.
abbrev pub is_routine : ℕ → Bool
is_routine l = nat_lt l routine_count

-- Whether it is one inside a routine.
abbrev pub is_inner : ℕ → Bool
is_inner l = nat_le FIRST_INNER_LABEL l && nat_lt l FIRST_LABEL

-- Each label that is used is a routine's or stands in the items.
abbrev pub AreKnown : List Item → List Word → Type 0
AreKnown is ws = All (λ l. IsTrue (is_routine l || has l (labels_in is))) (uses_in is ++ word_uses ws)

-- ---- marks

-- Marks wait for the instruction behind them. None waits at a label, since a jump there would pass it too,
-- and none at the end.
abbrev pub marks_arrive : (waiting : Bool) → List Item → Bool
marks_arrive waiting [] = not waiting
marks_arrive waiting (Label l ∷ is) = not waiting && marks_arrive false is
marks_arrive waiting (Mark m ∷ is) = marks_arrive true is
marks_arrive waiting (_ ∷ is) = marks_arrive false is

-- ---- what `resolve` joins

-- The labels of a program's own items begin behind those of the routines.
abbrev pub AreOwn : List Item → Type 0
AreOwn is = All (λ l. FIRST_LABEL ≤ l) (labels_in is)

-- The items of the routines: every routine's label stands in them, and their other labels are inside
-- routines. They have no data.
pub record AreRoutines (items : List Item) (words : List Word) (zeros : ℕ) : Type 0 where
  pub complete : (k : Routine) → IsTrue (has (label_of k) (labels_in items))
  pub others : All (λ l. IsTrue (is_routine l || is_inner l)) (labels_in items)
  pub no_words : words ≡ []
  pub no_zeros : zeros ≡ 0
