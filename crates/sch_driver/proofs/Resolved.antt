-- What items are resolved to: how many instructions, and which marks.
use Rattle.std.proofs.Common.{◌≡◌, ◌≤◌, ℕ, suc, ◌+◌, List, [], ◌∷◌, ◌++◌, length, map, refl, ap, ◌∙◌, arith, append-nil}
use Rattle.sch_word.specs.runs.ProgramLayout.{text_address}
use Rattle.sch_insn.specs.declared.insn.Insn.{Insn}
use Rattle.sch_insn.specs.Spelling.{spelling}
use Rattle.sch_asm.specs.declared.assembly.Word.{Word}
use Rattle.sch_asm.specs.declared.item.Item.{Item}
use Rattle.sch_asm.specs.declared.item.Item.TheVariants.{Label, Plain, Jump, JumpIf, LoadLabel, LoadWord, StoreWord, Mark}
use Rattle.sch_asm.specs.declared.item.Mark as mark
use Rattle.sch_word.specs.declared.mark.MarkKind.{MarkKind}
use Rattle.sch_asm.specs.Codes.{AreResolved, Codes, instructions_in}
use Rattle.sch_asm.proofs.AsMany.{as_many}
use Rattle.sch_asm.specs.Narrow.{narrowed}
use Rattle.sch_runtime.specs.Code.{all_routines, routine_items}
use Rattle.sch_select_memory.specs.ValueCode.{value_code}
use Rattle.sch_select.specs.Sizes.{kinds_in}

-- ---- instructions

both_count : (is more : List Item) → instructions_in (is ++ more) ≡ instructions_in is + instructions_in more
both_count [] more = omega arith
both_count (Label l ∷ is) more = both_count is more
both_count (Mark m ∷ is) more = both_count is more
both_count (Plain i ∷ is) more = let h = both_count is more in omega (arith, h)
both_count (Jump l ∷ is) more = let h = both_count is more in omega (arith, h)
both_count (JumpIf k l ∷ is) more = let h = both_count is more in omega (arith, h)
both_count (LoadLabel r l ∷ is) more = let h = both_count is more in omega (arith, h)
both_count (LoadWord r l ∷ is) more = let h = both_count is more in omega (arith, h)
both_count (StoreWord l r ∷ is) more = let h = both_count is more in omega (arith, h)

-- of the routines, those that know nothing of values but fixnums have 89
routines_count : instructions_in routine_items ≡ 89
routines_count = refl

-- with the routines there are more than before them
pub resolved_many : (is routines : List Item) (data_words : List Word) (code : List Insn) (marks : List mark.Mark) (words : List ℕ) (heap_end : ℕ) → routines ≡ all_routines heap_end
    → AreResolved (is ++ routines) data_words code marks words → suc (instructions_in is) ≤ length code
resolved_many is routines data_words code marks words heap_end are r =
    let all = as_many r.place_of text_address (is ++ routines) code marks r.codes in
    let both = both_count is routines in
    let own = ap instructions_in are ∙ both_count (narrowed (value_code heap_end)) routine_items in
    let others = routines_count in
    omega (arith, all, both, own, others)

-- ---- marks

abbrev kinds : List mark.Mark → List MarkKind
kinds marks = map (λ m. m.kind) marks

module _ (place_of : ℕ → ℕ) where
  codes_kinds : (a : ℕ) (is : List Item) (code : List Insn) (marks : List mark.Mark) → Codes place_of a is code marks
      → kinds marks ≡ kinds_in is
  codes_kinds a [] code marks c = ap kinds c.1
  codes_kinds a (Label l ∷ is) code marks c = codes_kinds a is code marks c.1
  codes_kinds a (Mark m ∷ is) code marks c = ap kinds c.1 ∙ ap (λ ks. m ∷ ks) (codes_kinds a is code c.0 c.2)
  codes_kinds a (Plain i ∷ is) code marks c = codes_kinds (a + length (spelling i)) is c.0 marks c.2
  codes_kinds a (Jump l ∷ is) code marks c = codes_kinds (a + length (spelling c.0)) is c.1 marks c.4
  codes_kinds a (JumpIf k l ∷ is) code marks c = codes_kinds (a + length (spelling c.0)) is c.1 marks c.4
  codes_kinds a (LoadLabel r l ∷ is) code marks c = codes_kinds (a + 7) is c.1 marks c.4
  codes_kinds a (LoadWord r l ∷ is) code marks c = codes_kinds (a + 7) is c.1 marks c.4
  codes_kinds a (StoreWord l r ∷ is) code marks c = codes_kinds (a + 7) is c.1 marks c.4

both_kinds : (is more : List Item) → kinds_in (is ++ more) ≡ kinds_in is ++ kinds_in more
both_kinds [] more = refl
both_kinds (Label l ∷ is) more = both_kinds is more
both_kinds (Mark m ∷ is) more = ap (λ ks. m ∷ ks) (both_kinds is more)
both_kinds (Plain i ∷ is) more = both_kinds is more
both_kinds (Jump l ∷ is) more = both_kinds is more
both_kinds (JumpIf k l ∷ is) more = both_kinds is more
both_kinds (LoadLabel r l ∷ is) more = both_kinds is more
both_kinds (LoadWord r l ∷ is) more = both_kinds is more
both_kinds (StoreWord l r ∷ is) more = both_kinds is more

routines_unmarked : (heap_end : ℕ) → kinds_in (all_routines heap_end) ≡ []
routines_unmarked heap_end = refl

-- with the routines there are as many as before them
pub resolved_kinds : (is routines : List Item) (data_words : List Word) (code : List Insn) (marks : List mark.Mark) (words : List ℕ) (heap_end : ℕ) → routines ≡ all_routines heap_end
    → AreResolved (is ++ routines) data_words code marks words → kinds marks ≡ kinds_in is
resolved_kinds is routines data_words code marks words heap_end are r =
    codes_kinds r.place_of text_address (is ++ routines) code marks r.codes
    ∙ (both_kinds is routines ∙ (ap (λ ks. kinds_in is ++ ks) (ap kinds_in are ∙ routines_unmarked heap_end) ∙ append-nil (kinds_in is)))
