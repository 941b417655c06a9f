-- The forms of the jumps of what is put out are those that were chosen.
use Rattle.std.proofs.Common.{◌≡◌, ℕ, zero, suc, ◌+◌, List, [], ◌∷◌, length, Bool, true, false, refl, ap, ◌∙◌, arith}
use Rattle.std.specs.Prelude.{ℤ}
use Rattle.sch_insn.specs.declared.insn.Insn.{Insn}
use Rattle.sch_insn.specs.declared.insn.Insn.TheVariants as insn
use Rattle.sch_jumps.specs.Sizes.{Set}
use Rattle.sch_jumps.specs.Spans.{set_of}
use Rattle.sch_asm.specs.declared.item.Item.{Item}
use Rattle.sch_asm.specs.declared.item.Item.TheVariants.{Label, Plain, Jump, JumpIf, LoadLabel, LoadWord, StoreWord, Mark}
use Rattle.sch_asm.specs.Items.{AreItems, IsPlain}
use Rattle.sch_asm.specs.Forms.{jump_forms}
use Rattle.sch_asm.specs.Layout.{branch_of, emitted_from, jump_of, jumps_in, size_of, displacement}
use Rattle.sch_insn.specs.Spelling.{spelling}

-- what a set says of the n jumps from number k on
abbrev pub said : Set → (k n : ℕ) → List Bool
said long k zero = []
said long k (suc n) = long k ∷ said long (k + 1) n

jump_form : (b : Bool) (d : ℤ) (is : List Insn) → jump_forms (jump_of b d ∷ is) ≡ b ∷ jump_forms is
jump_form true d is = refl
jump_form false d is = refl

branch_form : (b : Bool) (c : ℕ) (d : ℤ) (is : List Insn) → jump_forms (branch_of b c d ∷ is) ≡ b ∷ jump_forms is
branch_form true c d is = refl
branch_form false c d is = refl

plain_form : (i : Insn) (is : List Insn) → IsPlain i → jump_forms (i ∷ is) ≡ jump_forms is
plain_form (insn.MovTo m r) is h = refl
plain_form (insn.MovFrom r m) is h = refl
plain_form (insn.MovNumber m n) is h = refl
plain_form (insn.MovWord r n) is h = refl
plain_form (insn.StoreByte m r) is h = refl
plain_form (insn.LoadByte r m) is h = refl
plain_form (insn.Lea r m) is h = refl
plain_form (insn.AddTo m r) is h = refl
plain_form (insn.OrTo m r) is h = refl
plain_form (insn.AndTo m r) is h = refl
plain_form (insn.SubTo m r) is h = refl
plain_form (insn.XorTo m r) is h = refl
plain_form (insn.CmpTo m r) is h = refl
plain_form (insn.AddFrom r m) is h = refl
plain_form (insn.OrFrom r m) is h = refl
plain_form (insn.AndFrom r m) is h = refl
plain_form (insn.SubFrom r m) is h = refl
plain_form (insn.XorFrom r m) is h = refl
plain_form (insn.CmpFrom r m) is h = refl
plain_form (insn.AddNumber m n) is h = refl
plain_form (insn.OrNumber m n) is h = refl
plain_form (insn.AndNumber m n) is h = refl
plain_form (insn.SubNumber m n) is h = refl
plain_form (insn.XorNumber m n) is h = refl
plain_form (insn.CmpNumber m n) is h = refl
plain_form (insn.AddNumber8 m n) is h = refl
plain_form (insn.OrNumber8 m n) is h = refl
plain_form (insn.AndNumber8 m n) is h = refl
plain_form (insn.SubNumber8 m n) is h = refl
plain_form (insn.XorNumber8 m n) is h = refl
plain_form (insn.CmpNumber8 m n) is h = refl
plain_form (insn.TestTo m r) is h = refl
plain_form (insn.Imul r m) is h = refl
plain_form (insn.Neg m) is h = refl
plain_form (insn.Idiv m) is h = refl
plain_form insn.Cqo is h = refl
plain_form (insn.Shl m k) is h = refl
plain_form (insn.Shr m k) is h = refl
plain_form (insn.Sar m k) is h = refl
plain_form (insn.Jump d) is h = absurd h
plain_form (insn.Jump8 d) is h = absurd h
plain_form (insn.JumpTo m) is h = refl
plain_form (insn.JumpIf c d) is h = absurd h
plain_form (insn.JumpIf8 c d) is h = absurd h
plain_form insn.Syscall is h = refl

unmoved : (long : Set) (k n : ℕ) → said long (k + 0) n ≡ said long k n
unmoved long k n = let e : k + 0 ≡ k = omega arith in ap (λ j. said long j n) e

none_more : (n : ℕ) → n ≡ 0 + n
none_more n = omega arith

one_more : (n : ℕ) → suc n ≡ 1 + n
one_more n = omega arith

pub forms_said : (place : ℕ → ℕ) (long : Set) (is : List Item) (k a : ℕ) → AreItems is → jump_forms (emitted_from place long k a is) ≡ said long k (jumps_in is)
forms_said place long [] k a v = refl
forms_said place long (Label l ∷ is) k a v = forms_said place long is (k + 0) (a + 0) v.1 ∙ unmoved long k (jumps_in is) ∙ ap (said long k) (none_more (jumps_in is))
forms_said place long (Mark m ∷ is) k a v = forms_said place long is (k + 0) (a + 0) v.1 ∙ unmoved long k (jumps_in is) ∙ ap (said long k) (none_more (jumps_in is))
forms_said place long (Plain i ∷ is) k a v =
    let b = a + length (spelling i) in
    plain_form i (emitted_from place long (k + 0) b is) v.0.1 ∙ forms_said place long is (k + 0) b v.1 ∙ unmoved long k (jumps_in is) ∙ ap (said long k) (none_more (jumps_in is))
forms_said place long (Jump l ∷ is) k a v =
    let b = a + size_of (long k) (Jump l) in
    jump_form (long k) (displacement b (place l)) (emitted_from place long (k + 1) b is) ∙ ap (λ r. long k ∷ r) (forms_said place long is (k + 1) b v.1) ∙ ap (said long k) (one_more (jumps_in is))
forms_said place long (JumpIf c l ∷ is) k a v =
    let b = a + size_of (long k) (JumpIf c l) in
    branch_form (long k) c (displacement b (place l)) (emitted_from place long (k + 1) b is) ∙ ap (λ r. long k ∷ r) (forms_said place long is (k + 1) b v.1) ∙ ap (said long k) (one_more (jumps_in is))
forms_said place long (LoadLabel r l ∷ is) k a v = forms_said place long is (k + 0) (a + 7) v.1 ∙ unmoved long k (jumps_in is) ∙ ap (said long k) (none_more (jumps_in is))
forms_said place long (LoadWord r w ∷ is) k a v = forms_said place long is (k + 0) (a + 7) v.1 ∙ unmoved long k (jumps_in is) ∙ ap (said long k) (none_more (jumps_in is))
forms_said place long (StoreWord w r ∷ is) k a v = forms_said place long is (k + 0) (a + 7) v.1 ∙ unmoved long k (jumps_in is) ∙ ap (said long k) (none_more (jumps_in is))

-- a list says what it is
later_said : (b : Bool) (bs : List Bool) (k n : ℕ) → said (set_of (b ∷ bs)) (suc k) n ≡ said (set_of bs) k n
later_said b bs k zero = refl
later_said b bs k (suc n) =
    let e : suc k + 1 ≡ suc (k + 1) = omega arith in
    ap (λ r. set_of bs k ∷ r) (ap (λ j. said (set_of (b ∷ bs)) j n) e ∙ later_said b bs (k + 1) n)

pub said_of : (bs : List Bool) → said (set_of bs) 0 (length bs) ≡ bs
said_of [] = refl
said_of (b ∷ bs) = ap (λ r. b ∷ r) (later_said b bs 0 (length bs) ∙ said_of bs)
