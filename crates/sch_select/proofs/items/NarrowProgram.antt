-- What holds of selected items holds of their shortest forms.
use Rattle.std.proofs.Common.{◌≡◌, ℕ, suc, List, [], ◌∷◌, ◌++◌, All, Bool, Option, Some, None, refl, sym, ap, ◌∙◌, subst}
use Rattle.std.specs.Prelude.{ℤ, IsTrue, not, ◌&&◌, ◌||◌, ◌≤◌, nat_lt}
use Rattle.sch_word.specs.trees.NumberSets.{has}
use Rattle.sch_word.specs.declared.mark.MarkKind.{MarkKind}
use Rattle.sch_word.specs.declared.mark.MarkKind.TheVariants as mark
use Rattle.sch_insn.specs.declared.insn.Arg.TheVariants.{Base8, Base32}
use Rattle.sch_insn.specs.declared.insn.Insn.{Insn}
use Rattle.sch_insn.specs.declared.insn.Insn.TheVariants.{MovTo, AddNumber}
use Rattle.sch_asm.specs.declared.assembly.Word.{Word}
use Rattle.sch_asm.specs.declared.item.Item.{Item}
use Rattle.sch_asm.specs.declared.item.Item.TheVariants as item
use Rattle.sch_asm.specs.declared.routine.TheConstants.{FIRST_LABEL}
use Rattle.sch_asm.specs.Items.{AreKnown, AreOwn, IsEachOnce, is_routine, labels_in, uses_in, word_uses}
use Rattle.sch_asm.specs.Narrow.{narrow_item, narrowed, short_number, with_operand}
use Rattle.sch_asm.proofs.NarrowItems.{item_same, narrowed_labels, narrowed_uses}
use Rattle.sch_select.specs.Jumps.{goes_ahead, jumps_ahead}
use Rattle.sch_select.specs.MarkedStores.{checks_operator, loads_frame, moves_word, returns, stands_before, stores_marked, waiting_mark, writes_frame}
use Rattle.sch_asm.specs.Codes.{instructions_in}
use Rattle.sch_select.specs.Sizes.{kinds_in}

-- ---- labels

pub narrowed_own : (is : List Item) → AreOwn is → AreOwn (narrowed is)
narrowed_own is h = subst (All (λ l. FIRST_LABEL ≤ l)) (sym (narrowed_labels is)) h

pub narrowed_once : (is : List Item) → IsEachOnce (labels_in is) → IsEachOnce (labels_in (narrowed is))
narrowed_once is h = subst IsEachOnce (sym (narrowed_labels is)) h

pub narrowed_known : (is : List Item) (ws : List Word) → AreKnown is ws → AreKnown (narrowed is) ws
narrowed_known is ws h =
    subst (λ ls. All (λ l. IsTrue (is_routine l || has l ls)) (uses_in (narrowed is) ++ word_uses ws)) (sym (narrowed_labels is))
    (subst (λ us. All (λ l. IsTrue (is_routine l || has l (labels_in is))) (us ++ word_uses ws)) (sym (narrowed_uses is)) h)

both : (a b c d : Bool) → a ≡ b → c ≡ d → (a && c) ≡ (b && d)
both a b c d e f = ap (λ t. t && c) e ∙ ap (λ t. b && t) f

goes_same : (first label : ℕ) (is : List Item) → goes_ahead first label (narrowed is) ≡ goes_ahead first label is
goes_same first label is = ap (λ ls. nat_lt label first || has label ls) (narrowed_labels is)

pub narrowed_ahead : (own : ℕ) (is : List Item) → jumps_ahead own (narrowed is) ≡ jumps_ahead own is
narrowed_ahead own [] = refl
narrowed_ahead own (item.Jump l ∷ is) = both _ (goes_ahead FIRST_LABEL l is) _ (jumps_ahead own is) (goes_same FIRST_LABEL l is) (narrowed_ahead own is)
narrowed_ahead own (item.JumpIf c l ∷ is) = both _ (goes_ahead FIRST_LABEL l is) _ (jumps_ahead own is) (goes_same FIRST_LABEL l is) (narrowed_ahead own is)
narrowed_ahead own (item.LoadLabel r l ∷ is) = both _ (goes_ahead own l is) _ (jumps_ahead own is) (goes_same own l is) (narrowed_ahead own is)
narrowed_ahead own (_ ∷ is) = narrowed_ahead own is

-- ---- counts and marks

pub narrowed_instructions : (is : List Item) → instructions_in (narrowed is) ≡ instructions_in is
narrowed_instructions [] = refl
narrowed_instructions (item.Label l ∷ is) = narrowed_instructions is
narrowed_instructions (item.Mark m ∷ is) = narrowed_instructions is
narrowed_instructions (_ ∷ is) = ap suc (narrowed_instructions is)

pub narrowed_kinds : (is : List Item) → kinds_in (narrowed is) ≡ kinds_in is
narrowed_kinds [] = refl
narrowed_kinds (item.Mark m ∷ is) = ap (λ ms. m ∷ ms) (narrowed_kinds is)
narrowed_kinds (_ ∷ is) = narrowed_kinds is

-- ---- stores

writes_numbers : (i : Insn) → writes_frame (item.Plain (short_number i)) ≡ writes_frame (item.Plain i)
writes_numbers (AddNumber m n) = refl
writes_numbers _ = refl

writes_operands : (i : Insn) (b : ℕ) (d : ℤ) → writes_frame (item.Plain (with_operand (Base8 b d) i)) ≡ writes_frame (item.Plain (with_operand (Base32 b d) i))
writes_operands (MovTo m r) b d = refl
writes_operands _ b d = refl

writes_same : (i : Item) → writes_frame (narrow_item i) ≡ writes_frame i
writes_same i = item_same writes_frame writes_numbers writes_operands i

loads_numbers : (i : Insn) → loads_frame (item.Plain (short_number i)) ≡ loads_frame (item.Plain i)
loads_numbers (AddNumber m n) = refl
loads_numbers _ = refl

loads_operands : (i : Insn) (b : ℕ) (d : ℤ) → loads_frame (item.Plain (with_operand (Base8 b d) i)) ≡ loads_frame (item.Plain (with_operand (Base32 b d) i))
loads_operands (MovTo m r) b d = refl
loads_operands _ b d = refl

moves_numbers : (i : Insn) → moves_word (item.Plain (short_number i)) ≡ moves_word (item.Plain i)
moves_numbers (AddNumber m n) = refl
moves_numbers _ = refl

moves_operands : (i : Insn) (b : ℕ) (d : ℤ) → moves_word (item.Plain (with_operand (Base8 b d) i)) ≡ moves_word (item.Plain (with_operand (Base32 b d) i))
moves_operands (MovTo m r) b d = refl
moves_operands _ b d = refl

checks_numbers : (i : Insn) → checks_operator (item.Plain (short_number i)) ≡ checks_operator (item.Plain i)
checks_numbers (AddNumber m n) = refl
checks_numbers _ = refl

checks_operands : (i : Insn) (b : ℕ) (d : ℤ) → checks_operator (item.Plain (with_operand (Base8 b d) i)) ≡ checks_operator (item.Plain (with_operand (Base32 b d) i))
checks_operands (MovTo m r) b d = refl
checks_operands _ b d = refl

returns_numbers : (i : Insn) → returns (item.Plain (short_number i)) ≡ returns (item.Plain i)
returns_numbers (AddNumber m n) = refl
returns_numbers _ = refl

returns_operands : (i : Insn) (b : ℕ) (d : ℤ) → returns (item.Plain (with_operand (Base8 b d) i)) ≡ returns (item.Plain (with_operand (Base32 b d) i))
returns_operands (MovTo m r) b d = refl
returns_operands _ b d = refl

stands_same : (m : MarkKind) (i : Item) → stands_before m (narrow_item i) ≡ stands_before m i
stands_same (mark.Save x) i = writes_same i
stands_same (mark.Spill x) i = writes_same i
stands_same mark.Argument i = writes_same i
stands_same mark.Temp i = item_same moves_word moves_numbers moves_operands i
stands_same (mark.Restore x) i = item_same loads_frame loads_numbers loads_operands i
stands_same (mark.Call site) i = item_same checks_operator checks_numbers checks_operands i
stands_same (mark.Tail site) i = item_same checks_operator checks_numbers checks_operands i
stands_same mark.Return i = item_same returns returns_numbers returns_operands i
stands_same (mark.Enter label) i = refl

pub narrowed_stores : (waits : Option MarkKind) (is : List Item) → stores_marked waits (narrowed is) ≡ stores_marked waits is
narrowed_stores None [] = refl
narrowed_stores (Some m) [] = refl
narrowed_stores (Some m) (i ∷ is) = both _ (stands_before m i) _ (stores_marked None is) (stands_same m i) (narrowed_stores None is)
narrowed_stores None (item.Mark m ∷ is) = narrowed_stores (waiting_mark m) is
narrowed_stores None (item.Plain i ∷ is) =
    both _ (not (writes_frame (item.Plain i))) _ (stores_marked None is) (ap not (writes_same (item.Plain i))) (narrowed_stores None is)
narrowed_stores None (_ ∷ is) = narrowed_stores None is
