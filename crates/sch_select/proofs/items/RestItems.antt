-- What the items before the body of a procedure owe, be they a check alone or the making of a list.
use Rattle.std.proofs.Common.{◌≡◌, ℕ, ◌+◌, ◌-◌, ◌*◌, ◌<◌, ◌≤◌, List, [], ◌∷◌, ◌++◌, Bool, true, false, Option, Some, None}
use Rattle.std.proofs.Common.{refl, ap, ◌∙◌, arith, ◌||◌}
use Rattle.std.specs.Prelude.{pos, nat_lt}
use Rattle.std.proofs.lemmas.Bool.{ltb-true, lt-ltb}
use Rattle.std.proofs.Math.Bool.{or-true}
use Rattle.sch_word.specs.trees.NumberSets.{has}
use Rattle.sch_word.specs.trees.Shape.{max_operands}
use Rattle.sch_word.proofs.facts.NumberSets.{in_here, in_more}
use Rattle.sch_control.specs.declared.body.Entry.{Entry}
use Rattle.sch_insn.proofs.PrefixCode.{spelling_short}
use Rattle.sch_insn.specs.declared.insn.Arg.TheVariants.{Reg}
use Rattle.sch_insn.specs.declared.insn.Insn.TheVariants.{MovNumber, SubNumber, CmpNumber}
use Rattle.sch_asm.specs.declared.item.Item.{Item}
use Rattle.sch_asm.specs.declared.item.Item.TheVariants as item
use Rattle.sch_asm.specs.Codes.{instructions_in, text_size}
use Rattle.sch_asm.specs.declared.routine.TheConstants.{FIRST_LABEL}
use Rattle.sch_asm.specs.Items.{labels_in, marks_arrive}
use Rattle.sch_select.specs.Jumps.{jumps_ahead, goes_ahead}
use Rattle.sch_select.specs.Program.{count_code, entry_code, passed_code}
use Rattle.sch_select_memory.specs.RestCode.{list_code, list_label, check_enough}
use Rattle.sch_select_memory.proofs.Sound.{items_valid, fits_32, in_front, fits_short}

-- ---- marks: there are none

list_quiet : (b : Bool) (required n : ℕ) (rest : List Item)
    → marks_arrive false (list_code b required n rest) ≡ marks_arrive false rest
list_quiet true required n rest = refl
list_quiet false required n rest = refl

pub count_quiet : (b : Bool) (formals n : ℕ) (rest : List Item)
    → marks_arrive false (count_code b formals n rest) ≡ marks_arrive false rest
count_quiet false formals n rest = refl
count_quiet true formals n rest = list_quiet (nat_lt (formals - 1) 6) (formals - 1) n rest

-- ---- what stands behind stays behind

list_appends : (b : Bool) (required n : ℕ) (rest : List Item)
    → list_code b required n rest ≡ list_code b required n [] ++ rest
list_appends true required n rest = refl
list_appends false required n rest = refl

count_appends : (b : Bool) (formals n : ℕ) (rest : List Item)
    → count_code b formals n rest ≡ count_code b formals n [] ++ rest
count_appends false formals n rest = refl
count_appends true formals n rest =
    ap (λ items. check_enough (formals - 1) items) (list_appends (nat_lt (formals - 1) 6) (formals - 1) n rest)

pub entry_appends : (entry : Option Entry) (n : ℕ) (rest : List Item) → entry_code entry n rest ≡ entry_code entry n [] ++ rest
entry_appends None n rest = refl
entry_appends (Some e) n rest = count_appends e.rest e.formals n rest

pub passed_appends : (entry : Option Entry) (out : ℕ) (rest : List Item) → passed_code entry out rest ≡ passed_code entry out [] ++ rest
passed_appends None out rest = refl
passed_appends (Some e) out rest = refl

-- ---- instructions and bytes

list_keeps : (b : Bool) (required n : ℕ) (rest : List Item)
    → instructions_in rest ≤ instructions_in (list_code b required n rest)
list_keeps true required n rest = omega arith
list_keeps false required n rest = omega arith

pub count_keeps : (b : Bool) (formals n : ℕ) (rest : List Item)
    → instructions_in rest ≤ instructions_in (count_code b formals n rest)
count_keeps false formals n rest = omega arith
count_keeps true formals n rest =
    let h = list_keeps (nat_lt (formals - 1) 6) (formals - 1) n rest in omega (arith, h)

list_adds : (b : Bool) (required n : ℕ) (rest : List Item)
    → text_size (list_code b required n rest) ≤ 32 + text_size rest
list_adds true required n rest = omega arith
list_adds false required n rest =
    let s = spelling_short (MovNumber (Reg 1) (pos (8 * (required - 6)))) in omega (arith, s)

pub count_adds : (b : Bool) (formals n : ℕ) (rest : List Item)
    → text_size (count_code b formals n rest) ≤ 58 + text_size rest
count_adds false formals n rest = let s = spelling_short (CmpNumber (Reg 0) (pos formals)) in omega (arith, s)
count_adds true formals n rest =
    let s = spelling_short (CmpNumber (Reg 0) (pos (formals - 1))) in
    let t = spelling_short (SubNumber (Reg 0) (pos (formals - 1))) in
    let h = list_adds (nat_lt (formals - 1) 6) (formals - 1) n rest in omega (arith, s, t, h)

-- ---- labels

abbrev pub count_labels : (rest : Bool) → (n : ℕ) → List ℕ
count_labels false n = []
count_labels true n = n ∷ []

list_labelled : (b : Bool) (required n : ℕ) (rest : List Item)
    → labels_in (list_code b required n rest) ≡ n ∷ labels_in rest
list_labelled true required n rest = refl
list_labelled false required n rest = refl

pub count_labelled : (b : Bool) (formals n : ℕ) (rest : List Item)
    → labels_in (count_code b formals n rest) ≡ count_labels b n ++ labels_in rest
count_labelled false formals n rest = refl
count_labelled true formals n rest = list_labelled (nat_lt (formals - 1) 6) (formals - 1) n rest

pub count_behind : (b : Bool) (formals n : ℕ) (rest : List Item) (l : ℕ) → has l (labels_in rest) ≡ true
    → has l (labels_in (count_code b formals n rest)) ≡ true
count_behind false formals n rest l e = e
count_behind true formals n rest l e =
    ap (has l) (list_labelled (nat_lt (formals - 1) 6) (formals - 1) n rest) ∙ in_more l n (labels_in rest) e

-- ---- jumps

-- the label of a list stands behind, and the routine's are below those of bodies
list_ahead : (own : ℕ) (b : Bool) (required n : ℕ) → nat_lt required 6 ≡ b → (rest : List Item)
    → jumps_ahead own (list_code b required n rest) ≡ jumps_ahead own rest
list_ahead own b required n e rest = by b e
  where
    here : (first : ℕ) → (nat_lt n first || has n (n ∷ labels_in rest)) ≡ true
    here first = ap (λ t. nat_lt n first || t) (in_here n (labels_in rest)) ∙ or-true (nat_lt n first)

    low : (m : ℕ) → m < 7 → goes_ahead FIRST_LABEL (list_label m) (item.Label n ∷ rest) ≡ true
    low m lt = ap (λ a. a || has (list_label m) (n ∷ labels_in rest))
        (lt-ltb (list_label m) FIRST_LABEL (omega (arith, lt)))

    by : (b : Bool) → nat_lt required 6 ≡ b → jumps_ahead own (list_code b required n rest) ≡ jumps_ahead own rest
    by true e = let lt = ltb-true required 6 e in in_front (goes_ahead own n (item.Label n ∷ rest)) _ (here own)
        ∙ in_front (goes_ahead FIRST_LABEL (list_label required) (item.Label n ∷ rest)) (jumps_ahead own rest)
        (low required (omega (arith, lt)))
    by false e = in_front (goes_ahead own n (item.Label n ∷ rest)) _ (here own)
        ∙ in_front (goes_ahead FIRST_LABEL (list_label 6) (item.Label n ∷ rest)) (jumps_ahead own rest)
        (low 6 (omega arith))

pub count_ahead : (own : ℕ) (b : Bool) (formals n : ℕ) (rest : List Item)
    → jumps_ahead own (count_code b formals n rest) ≡ jumps_ahead own rest
count_ahead own false formals n rest = refl
count_ahead own true formals n rest = list_ahead own (nat_lt (formals - 1) 6) (formals - 1) n refl rest

-- ---- immediates

list_valid : (b : Bool) (required n : ℕ) → required ≤ max_operands → (rest : List Item)
    → items_valid (list_code b required n rest) ≡ items_valid rest
list_valid true required n le rest = refl
list_valid false required n le rest = in_front (fits_32 (pos (8 * (required - 6)))) (items_valid rest)
    (fits_short (8 * (required - 6)) (omega (arith, le)))

pub count_valid : (b : Bool) (formals n : ℕ) → formals ≤ max_operands → (rest : List Item)
    → items_valid (count_code b formals n rest) ≡ items_valid rest
count_valid false formals n le rest = in_front (fits_32 (pos formals)) (items_valid rest)
    (fits_short formals (omega (arith, le)))
count_valid true formals n le rest =
    let ok = fits_short (formals - 1) (omega (arith, le)) in
    in_front (fits_32 (pos (formals - 1))) _ ok ∙ in_front (fits_32 (pos (formals - 1))) _ ok
    ∙ list_valid (nat_lt (formals - 1) 6) (formals - 1) n (omega (arith, le)) rest
