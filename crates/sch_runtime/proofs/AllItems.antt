-- All routines are what an `Asm` may have, and what `resolve` joins to a program.
use Rattle.std.proofs.Common.{◌≡◌, ℕ, ◌≤◌, List, [], ◌∷◌, ◌++◌, Bool, true, false, refl, arith, ◌∙◌}
use Rattle.std.specs.List.{AllByRecursion, list_all}
use Rattle.std.specs.Prelude.{IsTrue, ◌||◌}
use Rattle.std.proofs.lemmas.Bool.{and_from, and_parts, leb-true}
use Rattle.std.proofs.lemmas.List.Elements.{All-from_recursion}
use Rattle.sch_word.specs.trees.NumberSets.{has}
use Rattle.sch_word.specs.declared.stop.Stop.TheVariants.{WrongType, OutOfRange, NotProcedure, WrongCount, DivideByZero, Overflow, HeapLimit, DepthLimit, Unset, OutputFailed}
use Rattle.sch_asm.specs.declared.item.Item.{Item}
use Rattle.sch_asm.specs.declared.routine.LeftOver.TheVariants.{FromFirst, FromSecond, FromThird, FromFourth, FromFifth, FromSixth, InSlots}
use Rattle.sch_asm.specs.declared.routine.Routine.{Routine}
use Rattle.sch_asm.specs.declared.routine.Routine.TheVariants.{End, Stop, Put, PutFixnum, FillWords, FillBytes, PutValue, NewVector, NewString, NewList}
use Rattle.sch_asm.specs.Codes.{text_size}
use Rattle.sch_asm.specs.Effects.{AreEffective}
use Rattle.sch_asm.specs.Items.{AreItems, AreKnown, AreRoutines, IsEachOnce, is_inner, is_routine, labels_in, marks_arrive, uses_in, word_uses}
use Rattle.sch_asm.specs.Narrow.{is_narrow_item, narrowed}
use Rattle.sch_asm.specs.Routines.{label_of}
use Rattle.sch_asm.proofs.NarrowItems.{all_narrow, narrowed_marked, narrowed_size, narrowed_sound}
use Rattle.sch_asm.proofs.Standing.{arrive_append}
use Rattle.sch_asm.proofs.Tables.{each_once, size_append, sound_append}
use Rattle.sch_select_memory.proofs.Sound.{fits_short, items_say, items_valid}
use Rattle.sch_select_memory.specs.Addresses.{heap_offset, max_heap_end}
use Rattle.sch_select_memory.specs.ValueCode.{value_code}
use Rattle.sch_runtime.specs.Code.{all_routines, routine_items}
use Rattle.sch_runtime.proofs.Effective.{effective_behind}
use Rattle.sch_runtime.proofs.RoutineItems.{routines_sound}

-- where the heap ends is a number that fits
value_valid : (heap_end : ℕ) → heap_end ≤ max_heap_end → items_valid (value_code heap_end) ≡ true
value_valid heap_end near = rw (fits_short (heap_offset heap_end) (omega (arith, near))) refl

pub all_sound : (heap_end : ℕ) → heap_end ≤ max_heap_end → AreItems (all_routines heap_end)
all_sound heap_end near =
    sound_append (narrowed (value_code heap_end)) routine_items (narrowed_sound (value_code heap_end) (items_say (value_code heap_end) (value_valid heap_end near))) routines_sound

-- ---- labels

says : (P : ℕ → Bool) (ls : List ℕ) → list_all P ls ≡ true → AllByRecursion (λ l. IsTrue (P l)) ls
says P [] e = tt
says P (l ∷ ls) e = let p = and_parts (P l) (list_all P ls) e in (p.0, says P ls p.1)

pub all_once : (heap_end : ℕ) → IsEachOnce (labels_in (all_routines heap_end))
all_once heap_end = each_once (labels_in (all_routines heap_end)) refl

pub all_known : (heap_end : ℕ) → AreKnown (all_routines heap_end) []
all_known heap_end =
    let labels = labels_in (all_routines heap_end) in
    let uses = uses_in (all_routines heap_end) ++ word_uses [] in
    let known : ℕ → Bool = λ l. is_routine l || has l labels in
    All-from_recursion (λ l. IsTrue (known l)) uses (says known uses refl)

pub all_joined : (heap_end : ℕ) → AreRoutines (all_routines heap_end) [] 0
all_joined heap_end = record {
  complete = complete;
  others = All-from_recursion (λ l. IsTrue (is_routine l || is_inner l)) (labels_in (all_routines heap_end))
      (says (λ l. is_routine l || is_inner l) (labels_in (all_routines heap_end)) refl);
  no_words = refl;
  no_zeros = refl;
}
  where
    complete : (k : Routine) → IsTrue (has (label_of k) (labels_in (all_routines heap_end)))
    complete End = refl
    complete (Stop WrongType) = refl
    complete (Stop OutOfRange) = refl
    complete (Stop NotProcedure) = refl
    complete (Stop WrongCount) = refl
    complete (Stop DivideByZero) = refl
    complete (Stop Overflow) = refl
    complete (Stop HeapLimit) = refl
    complete (Stop DepthLimit) = refl
    complete (Stop Unset) = refl
    complete (Stop OutputFailed) = refl
    complete Put = refl
    complete PutFixnum = refl
    complete FillWords = refl
    complete FillBytes = refl
    complete PutValue = refl
    complete NewVector = refl
    complete NewString = refl
    complete (NewList FromFirst) = refl
    complete (NewList FromSecond) = refl
    complete (NewList FromThird) = refl
    complete (NewList FromFourth) = refl
    complete (NewList FromFifth) = refl
    complete (NewList FromSixth) = refl
    complete (NewList InSlots) = refl

-- ---- marks, sizes and effects

value_marked : (heap_end : ℕ) → marks_arrive false (value_code heap_end) ≡ true
value_marked heap_end = refl

narrow_marked : (heap_end : ℕ) → IsTrue (marks_arrive false (narrowed (value_code heap_end)))
narrow_marked heap_end = narrowed_marked (value_code heap_end) false ∙ value_marked heap_end

pub all_marked : (heap_end : ℕ) → IsTrue (marks_arrive false (all_routines heap_end))
all_marked heap_end = arrive_append (narrowed (value_code heap_end)) routine_items false (narrow_marked heap_end) refl

pub all_effective : (heap_end : ℕ) → AreEffective (all_routines heap_end)
all_effective heap_end = effective_behind (narrowed (value_code heap_end)) (narrow_marked heap_end)

-- how long they are does not depend on a number
value_small : (heap_end : ℕ) → text_size (value_code heap_end) ≤ 2001
value_small heap_end = leb-true (text_size (value_code heap_end)) 2001 refl

others_small : text_size routine_items ≤ 447
others_small = leb-true (text_size routine_items) 447 refl

pub all_small : (heap_end : ℕ) → text_size (all_routines heap_end) ≤ 2560
all_small heap_end =
    let both = size_append (narrowed (value_code heap_end)) routine_items in
    let narrow = narrowed_size (value_code heap_end) in
    let wide = value_small heap_end in
    let others = others_small in
    omega (arith, both, narrow, wide, others)

narrow_both : (xs ys : List Item) → list_all is_narrow_item xs ≡ true → list_all is_narrow_item ys ≡ true → list_all is_narrow_item (xs ++ ys) ≡ true
narrow_both [] ys e f = f
narrow_both (x ∷ xs) ys e f =
    let p = and_parts (is_narrow_item x) (list_all is_narrow_item xs) e in
    and_from (is_narrow_item x) (list_all is_narrow_item (xs ++ ys)) p.0 (narrow_both xs ys p.1 f)

pub all_are_narrow : (heap_end : ℕ) → IsTrue (list_all is_narrow_item (all_routines heap_end))
all_are_narrow heap_end = narrow_both (narrowed (value_code heap_end)) routine_items (all_narrow (value_code heap_end)) refl
