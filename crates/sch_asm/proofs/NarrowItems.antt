-- Items in their narrow forms: what holds of items holds of these.
use Rattle.std.proofs.Common.{◌≡◌, ℕ, ◌+◌, ◌≤◌, List, [], ◌∷◌, ◌++◌, Bool, true, false, refl, ap, ◌∙◌, arith}
use Rattle.std.specs.Prelude.{ℤ, not, ◌&&◌}
use Rattle.std.specs.List.{list_all}
use Rattle.std.proofs.lemmas.Bool.{and_from}
use Rattle.sch_asm.specs.declared.item.Item.{Item}
use Rattle.sch_asm.specs.declared.item.Item.TheVariants.{Label, Plain, Jump, JumpIf, LoadLabel, LoadWord, StoreWord, Mark}
use Rattle.sch_word.specs.declared.mark.MarkKind.{MarkKind}
use Rattle.sch_asm.specs.Codes.{text_size}
use Rattle.sch_asm.specs.Items.{AreItems, labels_in, marks_arrive, uses_in}
use Rattle.sch_insn.specs.declared.insn.Arg.TheVariants.{Base8, Base32}
use Rattle.sch_insn.specs.declared.insn.Insn.{Insn}
use Rattle.sch_asm.specs.Narrow.{is_narrow_item, narrow_item, narrowed, short_number, with_operand}
use Rattle.sch_asm.specs.Stands.{Setting, Stands}
use Rattle.sch_asm.proofs.Shortest.{narrow_is_narrow, narrow_same, plain_narrow, row_narrow, size_narrow, valid_narrow}

pub all_narrow : (is : List Item) → list_all is_narrow_item (narrowed is) ≡ true
all_narrow [] = refl
all_narrow (Plain i ∷ is) = and_from _ (list_all is_narrow_item (narrowed is)) (narrow_is_narrow i) (all_narrow is)
all_narrow (Label l ∷ is) = all_narrow is
all_narrow (_ ∷ is) = all_narrow is

pub narrowed_sound : (is : List Item) → AreItems is → AreItems (narrowed is)
narrowed_sound [] h = h
narrowed_sound (Plain i ∷ is) h = ((valid_narrow i h.0.0, plain_narrow i h.0.1), narrowed_sound is h.1)
narrowed_sound (Label l ∷ is) h = (h.0, narrowed_sound is h.1)
narrowed_sound (_ ∷ is) h = (h.0, narrowed_sound is h.1)

pub narrowed_labels : (is : List Item) → labels_in (narrowed is) ≡ labels_in is
narrowed_labels [] = refl
narrowed_labels (Label l ∷ is) = ap (λ ls. l ∷ ls) (narrowed_labels is)
narrowed_labels (_ ∷ is) = narrowed_labels is

pub narrowed_uses : (is : List Item) → uses_in (narrowed is) ≡ uses_in is
narrowed_uses [] = refl
narrowed_uses (Jump l ∷ is) = ap (λ ls. l ∷ ls) (narrowed_uses is)
narrowed_uses (JumpIf c l ∷ is) = ap (λ ls. l ∷ ls) (narrowed_uses is)
narrowed_uses (LoadLabel r l ∷ is) = ap (λ ls. l ∷ ls) (narrowed_uses is)
narrowed_uses (_ ∷ is) = narrowed_uses is

pub narrowed_marked : (is : List Item) (waiting : Bool) → marks_arrive waiting (narrowed is) ≡ marks_arrive waiting is
narrowed_marked [] waiting = refl
narrowed_marked (Label l ∷ is) waiting = ap (λ b. not waiting && b) (narrowed_marked is false)
narrowed_marked (Mark m ∷ is) waiting = narrowed_marked is true
narrowed_marked (_ ∷ is) waiting = narrowed_marked is false

pub narrowed_size : (is : List Item) → text_size (narrowed is) ≤ text_size is
narrowed_size [] = omega arith
narrowed_size (Plain i ∷ is) = let h = narrowed_size is in let s = size_narrow i in omega (arith, h, s)
narrowed_size (Label l ∷ is) = let h = narrowed_size is in omega (arith, h)
narrowed_size (_ ∷ is) = let h = narrowed_size is in omega (arith, h)

-- what sees neither how long a number is nor how long a displacement is the same of the narrow form
pub item_same : {A : Type 0} (f : Item → A) → ((i : Insn) → f (Plain (short_number i)) ≡ f (Plain i))
    → ((i : Insn) (b : ℕ) (d : ℤ) → f (Plain (with_operand (Base8 b d) i)) ≡ f (Plain (with_operand (Base32 b d) i))) → (i : Item) → f (narrow_item i) ≡ f i
item_same f numbers operands (Plain i) = narrow_same (λ j. f (Plain j)) numbers operands i
item_same f numbers operands _ = refl

-- Where the narrow forms stand, the items do.
module _ (setting : Setting) where
  pub stands_wide : (is : List Item) (waiting : List MarkKind) (a : ℕ) → Stands setting waiting a (narrowed is) → Stands setting waiting a is
  stands_wide [] waiting a h = h
  stands_wide (Label l ∷ is) waiting a h = (h.0, h.1, stands_wide is [] a h.2)
  stands_wide (Mark m ∷ is) waiting a h = stands_wide is (waiting ++ m ∷ []) a h
  stands_wide (Plain i ∷ is) waiting a h = (h.0, (h.1.0, h.1.1, h.1.2 ∙ row_narrow i, h.1.3), stands_wide is [] (a + h.0) h.2)
  stands_wide (Jump l ∷ is) waiting a h = (h.0, h.1, h.2, h.3, stands_wide is [] (a + h.0) h.4)
  stands_wide (JumpIf c l ∷ is) waiting a h = (h.0, h.1, h.2, h.3, stands_wide is [] (a + h.0) h.4)
  stands_wide (LoadLabel r l ∷ is) waiting a h = (h.0, h.1, h.2, h.3, stands_wide is [] (a + h.0) h.4)
  stands_wide (LoadWord r l ∷ is) waiting a h = (h.0, h.1, h.2, h.3, stands_wide is [] (a + h.0) h.4)
  stands_wide (StoreWord l r ∷ is) waiting a h = (h.0, h.1, h.2, h.3, stands_wide is [] (a + h.0) h.4)
