-- The tables of a text are those of its items.
use Rattle.std.proofs.Common.{◌-◌, ◌≡◌, ◌≢◌, ℕ, zero, suc, ◌+◌, ◌*◌, ◌<◌, ◌≤◌, List, [], ◌∷◌, ◌++◌, length, Bool, true, false, refl, sym, subst, arith, ⊎_elim, ◌==◌, ◌||◌}
use Rattle.std.specs.Prelude.{not, slice_index, IsTrue, All, AllPairs}
use Rattle.std.specs.List.{AllByRecursion}
use Rattle.std.proofs.lemmas.Bool.{eqb-true, eqb-false, and_parts, cases_lt, or_parts}
use Rattle.std.proofs.lemmas.Bool.Decides.{nat_tests}
use Rattle.std.proofs.lemmas.List.{map-append}
use Rattle.std.proofs.lemmas.List.Elements.{recursion_from_All}
use Rattle.std.proofs.lemmas.List.Kept.{AllPairs-cons}
use Rattle.std.proofs.Math.ListN.{get_or-eq_default}
use Rattle.sch_insn.proofs.PrefixCode.{spelling_short}
use Rattle.sch_word.specs.trees.NumberSets.{has, without_repeats}
use Rattle.sch_word.proofs.facts.Booleans.{not_true}
use Rattle.sch_word.specs.declared.stop.Stop.TheVariants.{WrongType, OutOfRange, NotProcedure, WrongCount, DivideByZero, Overflow, HeapLimit, DepthLimit, Unset, OutputFailed}
use Rattle.sch_asm.specs.declared.assembly.Word.{Word}
use Rattle.sch_asm.specs.declared.assembly.Word.TheVariants.{Fixed, Address}
use Rattle.sch_asm.specs.declared.item.Item.{Item}
use Rattle.sch_asm.specs.declared.item.Item.TheVariants.{Label, Plain, Jump, JumpIf, LoadLabel, LoadWord, StoreWord, Mark}
use Rattle.sch_asm.specs.declared.routine.TheConstants.{FIRST_LABEL}
use Rattle.sch_asm.specs.declared.routine.Routine.{Routine}
use Rattle.sch_asm.specs.declared.routine.LeftOver.TheVariants.{FromFirst, FromSecond, FromThird, FromFourth, FromFifth, FromSixth, InSlots}
use Rattle.sch_asm.specs.declared.routine.Routine.TheVariants.{End, Stop, Put, PutFixnum, FillWords, FillBytes, PutValue, NewVector, NewString, NewList}
use Rattle.sch_asm.specs.Routines.{label_of}
use Rattle.sch_asm.specs.Items.{AreItems, AreKnown, AreOwn, IsEachOnce, is_inner, is_routine, labels_in, uses_in, word_uses}
use Rattle.sch_asm.specs.Codes.{item_size, text_size}
use Rattle.sch_jumps.specs.declared.piece.Piece.{Piece}
use Rattle.sch_jumps.specs.declared.piece.Piece.TheVariants as piece
use Rattle.sch_jumps.specs.Places.{Absent, Once}
use Rattle.sch_jumps.specs.Spans.{LabelsBelow}
use Rattle.sch_asm.specs.Layout.{StandBelow, UseBelow, WordsBelow}
use Rattle.sch_asm.specs.Pieces.{piece_of, skeleton}

-- ---- sizes

pub size_append : (xs ys : List Item) → text_size (xs ++ ys) ≡ text_size xs + text_size ys
size_append [] ys = omega arith
size_append (x ∷ xs) ys = let e = size_append xs ys in omega arith

size_small : (i : Item) → item_size i ≤ 15
size_small (Label l) = omega arith
size_small (Plain i) = spelling_short i
size_small (Jump l) = omega arith
size_small (JumpIf c l) = omega arith
size_small (LoadLabel r l) = omega arith
size_small (LoadWord r a) = omega arith
size_small (StoreWord a r) = omega arith
size_small (Mark m) = omega arith

pub size_bound : (is : List Item) → text_size is ≤ 15 * length is
size_bound [] = omega arith
size_bound (i ∷ is) = let h = size_small i in let k = size_bound is in omega arith

-- ---- labels that stand

among_by : (m l n : ℕ) (ms : List ℕ) (t : Bool) → (l == m) ≡ t → m < n → (IsTrue (has l ms) → l < n) → IsTrue (t || has l ms) → l < n
among_by m l n ms true t lt h e = let same = eqb-true l m t in subst (λ k. k < n) (sym same) lt
among_by m l n ms false t lt h e = h e

-- a label that is among those that stand is below
pub among_below : (is : List Item) (l n : ℕ) → StandBelow n is → IsTrue (has l (labels_in is)) → l < n
among_below [] l n h e = absurd cc
among_below (Label m ∷ is) l n h e = among_by m l n (labels_in is) (l == m) refl h.0 (among_below is l n h.1) e
among_below (Plain i ∷ is) l n h e = among_below is l n h.1 e
among_below (Jump m ∷ is) l n h e = among_below is l n h.1 e
among_below (JumpIf c m ∷ is) l n h e = among_below is l n h.1 e
among_below (LoadLabel r m ∷ is) l n h e = among_below is l n h.1 e
among_below (LoadWord r a ∷ is) l n h e = among_below is l n h.1 e
among_below (StoreWord a r ∷ is) l n h e = among_below is l n h.1 e
among_below (Mark m ∷ is) l n h e = among_below is l n h.1 e

-- ---- labels that are used

use_below : (is : List Item) (n : ℕ) → AllByRecursion (λ l. l < n) (uses_in is) → UseBelow n is
use_below [] n h = tt
use_below (Label m ∷ is) n h = (tt, use_below is n h)
use_below (Plain i ∷ is) n h = (tt, use_below is n h)
use_below (Jump m ∷ is) n h = (h.0, use_below is n h.1)
use_below (JumpIf c m ∷ is) n h = (h.0, use_below is n h.1)
use_below (LoadLabel r m ∷ is) n h = (h.0, use_below is n h.1)
use_below (LoadWord r a ∷ is) n h = (tt, use_below is n h)
use_below (StoreWord a r ∷ is) n h = (tt, use_below is n h)
use_below (Mark m ∷ is) n h = (tt, use_below is n h)

words_below : (ws : List Word) (n : ℕ) → AllByRecursion (λ l. l < n) (word_uses ws) → WordsBelow n ws
words_below [] n h = tt
words_below (Fixed v ∷ ws) n h = (tt, words_below ws n h)
words_below (Address l ∷ ws) n h = (h.0, words_below ws n h.1)

front_of : (P : ℕ → Type 0) (xs ys : List ℕ) → AllByRecursion P (xs ++ ys) → AllByRecursion P xs
front_of P [] ys h = tt
front_of P (x ∷ xs) ys h = (h.0, front_of P xs ys h.1)

back_of : (P : ℕ → Type 0) (xs ys : List ℕ) → AllByRecursion P (xs ++ ys) → AllByRecursion P ys
back_of P [] ys h = h
back_of P (x ∷ xs) ys h = back_of P xs ys h.1

all_by : (P Q : ℕ → Type 0) → ((l : ℕ) → P l → Q l) → (ls : List ℕ) → AllByRecursion P ls → AllByRecursion Q ls
all_by P Q f [] h = tt
all_by P Q f (l ∷ ls) h = (f l h.0, all_by P Q f ls h.1)

-- the routine of a label
routine_at : (l : ℕ) → l < 25 → (k : Routine) × (label_of k ≡ l)
routine_at l lt = ⊎_elim (λ a. by_stop l a) (λ b. ⊎_elim (λ c. by_put l b c) (λ d. ⊎_elim (λ e. by_fill l d e) (λ f. by_value l f lt) (cases_lt l 15)) (cases_lt l 13)) (cases_lt l 11)
  where
    by_list : (m : ℕ) → m < 7 → (k : Routine) × (label_of k ≡ 18 + m)
    by_list zero lt = (NewList FromFirst, refl)
    by_list (suc zero) lt = (NewList FromSecond, refl)
    by_list (suc (suc zero)) lt = (NewList FromThird, refl)
    by_list (suc (suc (suc zero))) lt = (NewList FromFourth, refl)
    by_list (suc (suc (suc (suc zero)))) lt = (NewList FromFifth, refl)
    by_list (suc (suc (suc (suc (suc zero))))) lt = (NewList FromSixth, refl)
    by_list (suc (suc (suc (suc (suc (suc zero)))))) lt = (NewList InSlots, refl)
    by_list (suc (suc (suc (suc (suc (suc (suc m))))))) lt = absurd (omega arith)

    by_value : (l : ℕ) → 15 ≤ l → l < 25 → (k : Routine) × (label_of k ≡ l)
    by_value l b c =
        ⊎_elim (λ d. (PutValue, omega arith))
        (λ d. ⊎_elim (λ e. (NewVector, omega arith)) (λ e. ⊎_elim (λ f. (NewString, omega arith)) (λ f. let r = by_list (l - 18) (omega arith) in let at = r.1 in (r.0, omega arith)) (cases_lt l 18)) (cases_lt l 17))
        (cases_lt l 16)

    by_fill : (l : ℕ) → 13 ≤ l → l < 15 → (k : Routine) × (label_of k ≡ l)
    by_fill l b c = ⊎_elim (λ d. (FillWords, omega arith)) (λ d. (FillBytes, omega arith)) (cases_lt l 14)

    by_put : (l : ℕ) → 11 ≤ l → l < 13 → (k : Routine) × (label_of k ≡ l)
    by_put l b c = ⊎_elim (λ d. (Put, omega arith)) (λ d. (PutFixnum, omega arith)) (cases_lt l 12)

    by_stop : (l : ℕ) → l < 11 → (k : Routine) × (label_of k ≡ l)
    by_stop zero lt = (End, refl)
    by_stop (suc zero) lt = (Stop WrongType, refl)
    by_stop (suc (suc zero)) lt = (Stop OutOfRange, refl)
    by_stop (suc (suc (suc zero))) lt = (Stop NotProcedure, refl)
    by_stop (suc (suc (suc (suc zero)))) lt = (Stop WrongCount, refl)
    by_stop (suc (suc (suc (suc (suc zero))))) lt = (Stop DivideByZero, refl)
    by_stop (suc (suc (suc (suc (suc (suc zero)))))) lt = (Stop Overflow, refl)
    by_stop (suc (suc (suc (suc (suc (suc (suc zero))))))) lt = (Stop HeapLimit, refl)
    by_stop (suc (suc (suc (suc (suc (suc (suc (suc zero)))))))) lt = (Stop DepthLimit, refl)
    by_stop (suc (suc (suc (suc (suc (suc (suc (suc (suc zero))))))))) lt = (Stop Unset, refl)
    by_stop (suc (suc (suc (suc (suc (suc (suc (suc (suc (suc zero)))))))))) lt = (Stop OutputFailed, refl)
    by_stop (suc (suc (suc (suc (suc (suc (suc (suc (suc (suc (suc l))))))))))) lt = absurd (omega arith)

routine_low : (l : ℕ) → IsTrue (is_routine l) → l < 25
routine_low l e = grind (arith, nat_tests)

-- ---- two lists of items, the one behind the other

pub use_append : (xs ys : List Item) (n : ℕ) → UseBelow n xs → UseBelow n ys → UseBelow n (xs ++ ys)
use_append [] ys n h k = k
use_append (x ∷ xs) ys n h k = (h.0, use_append xs ys n h.1 k)

pub use_front : (xs ys : List Item) (n : ℕ) → UseBelow n (xs ++ ys) → UseBelow n xs
use_front [] ys n h = tt
use_front (x ∷ xs) ys n h = (h.0, use_front xs ys n h.1)

pub use_back : (xs ys : List Item) (n : ℕ) → UseBelow n (xs ++ ys) → UseBelow n ys
use_back [] ys n h = h
use_back (x ∷ xs) ys n h = use_back xs ys n h.1

pub sound_front : (xs ys : List Item) → AreItems (xs ++ ys) → AreItems xs
sound_front [] ys h = tt
sound_front (x ∷ xs) ys h = (h.0, sound_front xs ys h.1)

pub sound_back : (xs ys : List Item) → AreItems (xs ++ ys) → AreItems ys
sound_back [] ys h = h
sound_back (x ∷ xs) ys h = sound_back xs ys h.1

pub sound_append : (xs ys : List Item) → AreItems xs → AreItems ys → AreItems (xs ++ ys)
sound_append [] ys h k = k
sound_append (x ∷ xs) ys h k = (h.0, sound_append xs ys h.1 k)

-- ---- the places of labels

absent_items : (l : ℕ) (is : List Item) → AllByRecursion (λ m. l ≢ m) (labels_in is) → Absent l (skeleton is)
absent_items l [] h = tt
absent_items l (Label m ∷ is) h = (h.0, absent_items l is h.1)
absent_items l (Plain i ∷ is) h = absent_items l is h
absent_items l (Jump m ∷ is) h = absent_items l is h
absent_items l (JumpIf c m ∷ is) h = absent_items l is h
absent_items l (LoadLabel r m ∷ is) h = absent_items l is h
absent_items l (LoadWord r a ∷ is) h = absent_items l is h
absent_items l (StoreWord a r ∷ is) h = absent_items l is h
absent_items l (Mark m ∷ is) h = absent_items l is h

pairs_head : (l : ℕ) (ls : List ℕ) → AllPairs (λ a b. a ≢ b) (l ∷ ls) → All (λ m. l ≢ m) ls
pairs_head l ls h k d lt = h 0 (suc k) d (omega arith) (omega arith)

pairs_tail : (l : ℕ) (ls : List ℕ) → AllPairs (λ a b. a ≢ b) (l ∷ ls) → AllPairs (λ a b. a ≢ b) ls
pairs_tail l ls h i j d lt within = h (suc i) (suc j) d (omega arith) (omega arith)

once_by : (is : List Item) → IsEachOnce (labels_in is) → Once (skeleton is)
once_by [] h = tt
once_by (Label m ∷ is) h = (absent_items m is (recursion_from_All _ (labels_in is) (pairs_head m (labels_in is) h)), once_by is (pairs_tail m (labels_in is) h))
once_by (Plain i ∷ is) h = once_by is h
once_by (Jump m ∷ is) h = once_by is h
once_by (JumpIf c m ∷ is) h = once_by is h
once_by (LoadLabel r m ∷ is) h = once_by is h
once_by (LoadWord r a ∷ is) h = once_by is h
once_by (StoreWord a r ∷ is) h = once_by is h
once_by (Mark m ∷ is) h = once_by is h

absent_append : (l : ℕ) (ps qs : List Piece) → Absent l ps → Absent l qs → Absent l (ps ++ qs)
absent_append l [] qs h k = k
absent_append l (piece.Bytes n ∷ ps) qs h k = absent_append l ps qs h k
absent_append l (piece.Label m ∷ ps) qs h k = (h.0, absent_append l ps qs h.1 k)
absent_append l (piece.Jump n m ∷ ps) qs h k = absent_append l ps qs h k

absent_above : (l : ℕ) (is : List Item) → StandBelow FIRST_LABEL is → FIRST_LABEL ≤ l → Absent l (skeleton is)
absent_above l [] h le = tt
absent_above l (Label m ∷ is) h le = (λ e. omega (arith, h.0, le, e), absent_above l is h.1 le)
absent_above l (Plain i ∷ is) h le = absent_above l is h.1 le
absent_above l (Jump m ∷ is) h le = absent_above l is h.1 le
absent_above l (JumpIf c m ∷ is) h le = absent_above l is h.1 le
absent_above l (LoadLabel r m ∷ is) h le = absent_above l is h.1 le
absent_above l (LoadWord r a ∷ is) h le = absent_above l is h.1 le
absent_above l (StoreWord a r ∷ is) h le = absent_above l is h.1 le
absent_above l (Mark m ∷ is) h le = absent_above l is h.1 le

-- a program's own labels are none of the routines'
once_append : (xs ys : List Item) → Once (skeleton xs) → Once (skeleton ys) → AllByRecursion (λ l. FIRST_LABEL ≤ l) (labels_in xs) → StandBelow FIRST_LABEL ys → Once (skeleton xs ++ skeleton ys)
once_append [] ys h k own low = k
once_append (Label m ∷ xs) ys h k own low = (absent_append m (skeleton xs) (skeleton ys) h.0 (absent_above m ys low own.0), once_append xs ys h.1 k own.1 low)
once_append (Plain i ∷ xs) ys h k own low = once_append xs ys h k own low
once_append (Jump m ∷ xs) ys h k own low = once_append xs ys h k own low
once_append (JumpIf c m ∷ xs) ys h k own low = once_append xs ys h k own low
once_append (LoadLabel r m ∷ xs) ys h k own low = once_append xs ys h k own low
once_append (LoadWord r a ∷ xs) ys h k own low = once_append xs ys h k own low
once_append (StoreWord a r ∷ xs) ys h k own low = once_append xs ys h k own low
once_append (Mark m ∷ xs) ys h k own low = once_append xs ys h k own low

-- No label stands twice in the items of a program and of routines.
pub once_in_both : (xs ys : List Item) → IsEachOnce (labels_in xs) → IsEachOnce (labels_in ys) → AllByRecursion (λ l. FIRST_LABEL ≤ l) (labels_in xs) → StandBelow FIRST_LABEL ys → Once (skeleton (xs ++ ys))
once_in_both xs ys once once' own low = subst Once (sym (map-append piece_of xs ys)) (once_append xs ys (once_by xs once) (once_by ys once') own low)

-- A table that has room for all pieces has room for each label that stands.
pub stand_below : (is : List Item) (n : ℕ) → LabelsBelow n (skeleton is) → StandBelow n is
stand_below [] n h = tt
stand_below (Label m ∷ is) n h = (h.0, stand_below is n h.1)
stand_below (Plain i ∷ is) n h = (tt, stand_below is n h.1)
stand_below (Jump m ∷ is) n h = (tt, stand_below is n h.1)
stand_below (JumpIf c m ∷ is) n h = (tt, stand_below is n h.1)
stand_below (LoadLabel r m ∷ is) n h = (tt, stand_below is n h.1)
stand_below (LoadWord r a ∷ is) n h = (tt, stand_below is n h.1)
stand_below (StoreWord a r ∷ is) n h = (tt, stand_below is n h.1)
stand_below (Mark m ∷ is) n h = (tt, stand_below is n h.1)

pub stand_front : (xs ys : List Item) (n : ℕ) → StandBelow n (xs ++ ys) → StandBelow n xs
stand_front [] ys n h = tt
stand_front (x ∷ xs) ys n h = (h.0, stand_front xs ys n h.1)

pub stand_back : (xs ys : List Item) (n : ℕ) → StandBelow n (xs ++ ys) → StandBelow n ys
stand_back [] ys n h = h
stand_back (x ∷ xs) ys n h = stand_back xs ys n h.1

stand_by : (is : List Item) (n : ℕ) → AllByRecursion (λ l. l < n) (labels_in is) → StandBelow n is
stand_by [] n h = tt
stand_by (Label m ∷ is) n h = (h.0, stand_by is n h.1)
stand_by (Plain i ∷ is) n h = (tt, stand_by is n h)
stand_by (Jump m ∷ is) n h = (tt, stand_by is n h)
stand_by (JumpIf c m ∷ is) n h = (tt, stand_by is n h)
stand_by (LoadLabel r m ∷ is) n h = (tt, stand_by is n h)
stand_by (LoadWord r a ∷ is) n h = (tt, stand_by is n h)
stand_by (StoreWord a r ∷ is) n h = (tt, stand_by is n h)
stand_by (Mark m ∷ is) n h = (tt, stand_by is n h)

-- ---- tables

-- each number is below a bound
abbrev pub Below : ℕ → List ℕ → Type 0
Below n t = (k : ℕ) → k < length t → slice_index t k < n

-- also behind the table
pub below_anywhere : (t : List ℕ) (n : ℕ) → 0 < n → Below n t → (k : ℕ) → slice_index t k < n
below_anywhere t n some h k =
    ⊎_elim (λ lt. h k lt) (λ le. subst (λ x. x < n) (sym (get_or-eq_default t 0 le)) some) (cases_lt k (length t))

-- ---- all labels that are used have a place in the table

-- a list of known labels
known_below : (xs ys : List Item) (n : ℕ) → ((k : Routine) → IsTrue (has (label_of k) (labels_in ys))) → StandBelow n xs → StandBelow n ys → (l : ℕ) → IsTrue (is_routine l || has l (labels_in xs)) → l < n
known_below xs ys n complete h k l e = by (is_routine l) refl e
  where
    by : (t : Bool) → is_routine l ≡ t → IsTrue (t || has l (labels_in xs)) → l < n
    by true t e =
        let r = routine_at l (routine_low l t) in
        among_below ys l n k (subst (λ m. IsTrue (has m (labels_in ys))) r.1 (complete r.0))
    by false t e = among_below xs l n h e

pub uses_known : (xs ys : List Item) (ws : List Word) (n : ℕ) → ((k : Routine) → IsTrue (has (label_of k) (labels_in ys))) → StandBelow n xs → StandBelow n ys → AreKnown xs ws → UseBelow n xs × WordsBelow n ws
uses_known xs ys ws n complete h k known =
    let all = all_by (λ l. IsTrue (is_routine l || has l (labels_in xs))) (λ l. l < n) (known_below xs ys n complete h k) (uses_in xs ++ word_uses ws) (recursion_from_All _ (uses_in xs ++ word_uses ws) known) in
    (use_below xs n (front_of (λ l. l < n) (uses_in xs) (word_uses ws) all), words_below ws n (back_of (λ l. l < n) (uses_in xs) (word_uses ws) all))

low_label : (l : ℕ) → IsTrue (is_routine l || is_inner l) → l < FIRST_LABEL
low_label l e = grind (arith, nat_tests)

-- the labels of routines are below those of a program
pub routines_low : (ys : List Item) → All (λ l. IsTrue (is_routine l || is_inner l)) (labels_in ys) → StandBelow FIRST_LABEL ys
routines_low ys h = stand_by ys FIRST_LABEL (all_by (λ l. IsTrue (is_routine l || is_inner l)) (λ l. l < FIRST_LABEL) low_label (labels_in ys) (recursion_from_All _ (labels_in ys) h))

pub own_high : (xs : List Item) → AreOwn xs → AllByRecursion (λ l. FIRST_LABEL ≤ l) (labels_in xs)
own_high xs h = recursion_from_All _ (labels_in xs) h

-- ---- a list without repeats, by a test

differs_from : (ls : List ℕ) (l : ℕ) → has l ls ≡ false → All (λ m. l ≢ m) ls
differs_from [] l e k d lt same = absurd (omega arith)
differs_from (m ∷ ms) l e zero d lt same = let p = or_parts (l == m) (has l ms) e in eqb-false l m p.0 same
differs_from (m ∷ ms) l e (suc k) d lt same = let p = or_parts (l == m) (has l ms) e in differs_from ms l p.1 k d (omega arith) same

pub each_once : (ls : List ℕ) → without_repeats ls ≡ true → IsEachOnce ls
each_once [] e = λ i j d lt within. absurd (omega arith)
each_once (l ∷ ls) e =
    let p = and_parts (not (has l ls)) (without_repeats ls) e in
    AllPairs-cons (λ a b. a ≢ b) l ls (differs_from ls l (not_true (has l ls) p.0)) (each_once ls p.1)
