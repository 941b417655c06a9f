-- All routines keep to the form of routines, name the frame's register only to put its address into RCX, and read RCX only where they have
-- set it or were handed a word in it; and in them the heap's register goes on by what is charged. None of this sees how long a number or a
-- displacement is, nor where the heap ends.
use Rattle.std.proofs.Common.{◌≡◌, ℕ, ◌+◌, List, [], ◌∷◌, ◌++◌, true, Option, Some, None, cond, refl, sym, ap, ◌∙◌, ◌&&◌}
use Rattle.std.specs.Prelude.{ℤ, Bool, IsTrue, false, not, nat_eq, nat_le, ◌||◌}
use Rattle.std.specs.List.{list_all}
use Rattle.std.proofs.lemmas.List.{map-append}
use Rattle.sch_insn.specs.declared.insn.Arg.TheVariants.{Base8, Base32}
use Rattle.sch_insn.specs.declared.insn.Insn.{Insn}
use Rattle.sch_insn.specs.declared.insn.Insn.TheVariants.{MovTo, AddNumber}
use Rattle.sch_word.specs.declared.registers.TheConstants.{RCX, R11}
use Rattle.sch_asm.specs.declared.item.Item.{Item}
use Rattle.sch_asm.specs.declared.item.Item.TheVariants as item
use Rattle.sch_asm.specs.Narrow.{narrow_item, narrowed, short_number, with_operand}
use Rattle.sch_runtime.specs.Code.{all_routines, routine_items}
use Rattle.sch_runtime.specs.Form.{Return, in_register, in_word, exits, behind, each_keeps, ends, goes_right, keeps_form, kept_times}
use Rattle.sch_runtime.specs.Form.{labels_at, leaves}
use Rattle.sch_select_memory.specs.ValueCode.{value_code}
use Rattle.sch_runtime.specs.FrameRegister.{leaves_frame}
use Rattle.sch_runtime.specs.HeapRegister.{passes_by_numbers}
use Rattle.sch_runtime.specs.HandedWord.{calls_kernel, falls_through, comes_with_word, reads_register, sets_first, sets_register}
use Rattle.sch_asm.proofs.NarrowItems.{item_same}

-- ## The form

behind_numbers : (at : Return) (i : Insn) → behind at (item.Plain (short_number i)) ≡ behind at (item.Plain i)
behind_numbers in_register (AddNumber m n) = refl
behind_numbers in_register _ = refl
behind_numbers (in_word a) (AddNumber m n) = refl
behind_numbers (in_word a) _ = refl
behind_numbers (exits numbered) (AddNumber m n) = refl
behind_numbers (exits numbered) _ = refl

behind_operands : (at : Return) (i : Insn) (b : ℕ) (d : ℤ) → behind at (item.Plain (with_operand (Base8 b d) i)) ≡ behind at (item.Plain (with_operand (Base32 b d) i))
behind_operands in_register (MovTo m r) b d = refl
behind_operands in_register _ b d = refl
behind_operands (in_word a) (MovTo m r) b d = refl
behind_operands (in_word a) _ b d = refl
behind_operands (exits numbered) (MovTo m r) b d = refl
behind_operands (exits numbered) _ b d = refl

behind_same : (at : Return) (i : Item) → behind at (narrow_item i) ≡ behind at i
behind_same at i = item_same (behind at) (behind_numbers at) (behind_operands at) i

labels_same : (at : Option Return) (is : List Item) → labels_at at (narrowed is) ≡ labels_at at is
labels_same None is = refl
labels_same (Some at) [] = refl
labels_same (Some at) (item.Label l ∷ is) = ap (λ ls. (l, behind at (item.Label l)) ∷ ls) (labels_same (behind at (item.Label l)) is)
labels_same (Some at) (item.Plain i ∷ is) = ap (λ there. labels_at there (narrowed is)) (behind_same at (item.Plain i)) ∙ labels_same (behind at (item.Plain i)) is
labels_same (Some at) (item.Jump l ∷ is) = labels_same (behind at (item.Jump l)) is
labels_same (Some at) (item.JumpIf c l ∷ is) = labels_same (behind at (item.JumpIf c l)) is
labels_same (Some at) (item.LoadLabel r l ∷ is) = labels_same (behind at (item.LoadLabel r l)) is
labels_same (Some at) (item.LoadWord r a ∷ is) = labels_same (behind at (item.LoadWord r a)) is
labels_same (Some at) (item.StoreWord a r ∷ is) = labels_same (behind at (item.StoreWord a r)) is
labels_same (Some at) (item.Mark m ∷ is) = labels_same (behind at (item.Mark m)) is

goes_same : (labels : List (ℕ × Option Return)) (at : Return) (i : Item) → goes_right labels at (narrow_item i) ≡ goes_right labels at i
goes_same labels at (item.Plain i) = refl
goes_same labels at _ = refl

keeps_same : (labels : List (ℕ × Option Return)) (at : Option Return) (is : List Item) → each_keeps labels at (narrowed is) ≡ each_keeps labels at is
keeps_same labels None is = refl
keeps_same labels (Some at) [] = refl
keeps_same labels (Some at) (i ∷ is) =
    ap (λ b. b && each_keeps labels (behind at (narrow_item i)) (narrowed is)) (goes_same labels at i)
    ∙ ap (λ there. goes_right labels at i && each_keeps labels there (narrowed is)) (behind_same at i)
    ∙ ap (λ b. goes_right labels at i && b) (keeps_same labels (behind at i) is)

times_same : (is : List Item) → kept_times (narrowed is) ≡ kept_times is
times_same [] = refl
times_same (item.StoreWord a r ∷ is) = ap (λ n. cond (nat_eq r R11) 1 0 + n) (times_same is)
times_same (_ ∷ is) = times_same is

left_numbers : (i : Insn) → leaves (item.Plain (short_number i)) ≡ leaves (item.Plain i)
left_numbers (AddNumber m n) = refl
left_numbers _ = refl

left_operands : (i : Insn) (b : ℕ) (d : ℤ)
    → leaves (item.Plain (with_operand (Base8 b d) i)) ≡ leaves (item.Plain (with_operand (Base32 b d) i))
left_operands (MovTo m r) b d = refl
left_operands _ b d = refl

ends_same : (left : Bool) (is : List Item) → ends left (narrowed is) ≡ ends left is
ends_same left [] = refl
ends_same left (i ∷ is) = ap (λ b. ends b (narrowed is)) (item_same leaves left_numbers left_operands i) ∙ ends_same (leaves i) is

each_same : (is : List Item)
    → each_keeps (labels_at (Some in_register) (narrowed is)) (Some in_register) (narrowed is)
    ≡ each_keeps (labels_at (Some in_register) is) (Some in_register) is
each_same is =
    let start = Some in_register in
    ap (λ labels. each_keeps labels start (narrowed is)) (labels_same start is)
    ∙ keeps_same (labels_at start is) start is

form_same : (is : List Item) → keeps_form (narrowed is) ≡ keeps_form is
form_same is =
    let start = Some in_register in
    ap (λ n. nat_le n 1 && (ends false (narrowed is) && each_keeps (labels_at start (narrowed is)) start (narrowed is))) (times_same is)
    ∙ ap (λ b. nat_le (kept_times is) 1 && (b && each_keeps (labels_at start (narrowed is)) start (narrowed is))) (ends_same false is)
    ∙ ap (λ b. nat_le (kept_times is) 1 && (ends false is && b)) (each_same is)

-- the items before they have their shortest forms
wide_keep : (heap_end : ℕ) → keeps_form (value_code heap_end ++ routine_items) ≡ true
wide_keep heap_end = refl

pub routines_keep : (heap_end : ℕ) → IsTrue (keeps_form (all_routines heap_end))
routines_keep heap_end =
    ap keeps_form (sym (map-append narrow_item (value_code heap_end) routine_items)) ∙ form_same (value_code heap_end ++ routine_items) ∙ wide_keep heap_end

-- ## The address of the frame

leaves_numbers : (i : Insn) → leaves_frame (item.Plain (short_number i)) ≡ leaves_frame (item.Plain i)
leaves_numbers (AddNumber m n) = refl
leaves_numbers _ = refl

leaves_operands : (i : Insn) (b : ℕ) (d : ℤ) → leaves_frame (item.Plain (with_operand (Base8 b d) i)) ≡ leaves_frame (item.Plain (with_operand (Base32 b d) i))
leaves_operands (MovTo m r) b d = refl
leaves_operands _ b d = refl

quiet_same : (is : List Item) → list_all leaves_frame (narrowed is) ≡ list_all leaves_frame is
quiet_same [] = refl
quiet_same (i ∷ is) =
    ap (λ b. b && list_all leaves_frame (narrowed is)) (item_same leaves_frame leaves_numbers leaves_operands i)
    ∙ ap (λ b. leaves_frame i && b) (quiet_same is)

wide_quiet : (heap_end : ℕ) → list_all leaves_frame (value_code heap_end ++ routine_items) ≡ true
wide_quiet heap_end = refl

pub routines_quiet : (heap_end : ℕ) → IsTrue (list_all leaves_frame (all_routines heap_end))
routines_quiet heap_end =
    ap (list_all leaves_frame) (sym (map-append narrow_item (value_code heap_end) routine_items)) ∙ quiet_same (value_code heap_end ++ routine_items) ∙ wide_quiet heap_end

-- ## What is read of RCX

handed_numbers : (unset : Bool) (rest : List Item) (i : Insn) → sets_first unset (item.Plain (short_number i) ∷ rest) ≡ sets_first unset (item.Plain i ∷ rest)
handed_numbers unset rest (AddNumber m n) = refl
handed_numbers unset rest _ = refl

handed_operands : (unset : Bool) (rest : List Item) (i : Insn) (b : ℕ) (d : ℤ)
    → sets_first unset (item.Plain (with_operand (Base8 b d) i) ∷ rest) ≡ sets_first unset (item.Plain (with_operand (Base32 b d) i) ∷ rest)
handed_operands unset rest (MovTo m r) b d = refl
handed_operands unset rest _ b d = refl

handed_same : (unset : Bool) (is : List Item) → sets_first unset (narrowed is) ≡ sets_first unset is
handed_same unset [] = refl
handed_same unset (item.Plain i ∷ is) =
    item_same (λ k. sets_first unset (k ∷ narrowed is)) (handed_numbers unset (narrowed is)) (handed_operands unset (narrowed is)) (item.Plain i)
    ∙ ap (λ b. (not (reads_register RCX i) || not unset) && b) (handed_same (calls_kernel i || (falls_through i && (not (sets_register RCX i) && unset))) is)
handed_same unset (item.Label l ∷ is) = ap (λ b. (not (comes_with_word l) || not unset) && b) (handed_same (not (comes_with_word l)) is)
handed_same unset (item.Jump l ∷ is) = ap (λ b. (not (comes_with_word l) || not unset) && b) (handed_same false is)
handed_same unset (item.JumpIf c l ∷ is) = ap (λ b. (not (comes_with_word l) || not unset) && b) (handed_same unset is)
handed_same unset (item.LoadLabel r l ∷ is) = ap (λ b. not (comes_with_word l) && b) (handed_same (not (nat_eq r RCX) && unset) is)
handed_same unset (item.LoadWord r a ∷ is) = handed_same (not (nat_eq r RCX) && unset) is
handed_same unset (item.StoreWord a r ∷ is) = ap (λ b. (not (nat_eq r RCX) || not unset) && b) (handed_same unset is)
handed_same unset (item.Mark m ∷ is) = handed_same unset is

wide_handed : (heap_end : ℕ) → sets_first true (value_code heap_end ++ routine_items) ≡ true
wide_handed heap_end = refl

pub routines_handed : (heap_end : ℕ) → IsTrue (sets_first true (all_routines heap_end))
routines_handed heap_end =
    ap (sets_first true) (sym (map-append narrow_item (value_code heap_end) routine_items)) ∙ handed_same true (value_code heap_end ++ routine_items) ∙ wide_handed heap_end

-- ## The heap's register

heap_numbers : (i : Insn) → passes_by_numbers (item.Plain (short_number i)) ≡ passes_by_numbers (item.Plain i)
heap_numbers (AddNumber m n) = refl
heap_numbers _ = refl

heap_operands : (i : Insn) (b : ℕ) (d : ℤ) → passes_by_numbers (item.Plain (with_operand (Base8 b d) i)) ≡ passes_by_numbers (item.Plain (with_operand (Base32 b d) i))
heap_operands (MovTo m r) b d = refl
heap_operands _ b d = refl

heap_same : (is : List Item) → list_all passes_by_numbers (narrowed is) ≡ list_all passes_by_numbers is
heap_same [] = refl
heap_same (i ∷ is) =
    ap (λ b. b && list_all passes_by_numbers (narrowed is)) (item_same passes_by_numbers heap_numbers heap_operands i)
    ∙ ap (λ b. passes_by_numbers i && b) (heap_same is)

wide_heap : (heap_end : ℕ) → list_all passes_by_numbers (value_code heap_end ++ routine_items) ≡ true
wide_heap heap_end = refl

pub routines_heap : (heap_end : ℕ) → IsTrue (list_all passes_by_numbers (all_routines heap_end))
routines_heap heap_end =
    ap (list_all passes_by_numbers) (sym (map-append narrow_item (value_code heap_end) routine_items)) ∙ heap_same (value_code heap_end ++ routine_items) ∙ wide_heap heap_end
