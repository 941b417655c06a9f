-- No label stands twice in a program's items.
use Rattle.std.proofs.Common.{◌≡◌, ◌≢◌, ℕ, suc, ◌+◌, ◌<◌, ◌≤◌, List, [], ◌∷◌, ◌++◌, length, Bool, true, false}
use Rattle.std.proofs.Common.{Option, Some, None, refl, sym, ap, ◌∙◌, subst, arith, append_assoc, ◌&&◌, ◌||◌}
use Rattle.std.specs.Prelude.{not, nat_eq, nat_lt}
use Rattle.std.specs.List.{list_all}
use Rattle.std.proofs.lemmas.Bool.{and_parts, ltb-true, ltb-false, eqb-true}
use Rattle.sch_word.specs.values.Literals.{count_literals}
use Rattle.sch_word.specs.trees.NumberSets.{has, without_repeats}
use Rattle.sch_frames.specs.declared.instruction.Instruction.{Instruction}
use Rattle.sch_frames.specs.declared.instruction.Instruction.TheVariants.{Do, Store, Copy, Pass, Fix, Call}
use Rattle.sch_frames.specs.declared.instruction.Instruction.TheVariants.{Tail, Return, End, IfFalse, Jump, Label}
use Rattle.sch_frames.specs.declared.instruction.Instruction.TheVariants.{Mark}
use Rattle.sch_control.specs.declared.body.Entry.{Entry}
use Rattle.sch_frames.specs.Tree.{Code, Source}
use Rattle.sch_frames.specs.Valid as frames
use Rattle.sch_frames.specs.Valid.{forward, jumps_ahead}
use Rattle.sch_asm.specs.declared.item.Item.{Item}
use Rattle.sch_asm.specs.declared.item.Item.TheVariants as item
use Rattle.sch_asm.specs.declared.routine.Routine.TheVariants as routine
use Rattle.sch_asm.specs.Routines.{label_of}
use Rattle.sch_asm.specs.declared.routine.TheConstants.{FIRST_LABEL}
use Rattle.sch_asm.specs.Items.{IsEachOnce, labels_in}
use Rattle.sch_asm.proofs.Tables.{each_once}
use Rattle.sch_select.proofs.items.RestItems.{count_labels, count_labelled}
use Rattle.sch_select_memory.specs.Addresses.{body_label}
use Rattle.sch_select.specs.Select.{all_labels_needed, labels_needed, instruction_code, body_code}
use Rattle.sch_select.specs.Program.{passed_code, entry_code, form_code, forms_code, labels_end, own_label}
use Rattle.sch_select.specs.Program.{selected_code}
use Rattle.sch_select_data.specs.Data.{heap_of}
use Rattle.sch_word.proofs.facts.NumberSets.{in_here, in_more}
use Rattle.sch_select.proofs.items.Labels.{one_label, Block, Apart, Labelled, absent_append, absent_more}
use Rattle.sch_select.proofs.items.Labels.{distinct_append, distinct_more}
use Rattle.sch_select.proofs.items.Labels.{group_labelled, operation_labels, operation_labelled, operation_block}

-- elements of one list that another one has not
apart_by : (xs ys : List ℕ) → ((x : ℕ) → has x xs ≡ true → has x ys ≡ false) → Apart xs ys
apart_by [] ys h = tt
apart_by (x ∷ xs) ys h = (h x (in_here x xs), apart_by xs ys (λ y e. h y (in_more y x xs e)))

-- an element of a block is in its range
pub low_end : {a b : ℕ} {ls : List ℕ} → Block a b ls → (y : ℕ) → has y ls ≡ true → a ≤ y
low_end {a} {b} {ls} p y e = by (nat_lt y a) refl
  where
    by : (t : Bool) → nat_lt y a ≡ t → a ≤ y
    by false f = ltb-false y a f
    by true f = absurd (let bad : true ≡ false = sym e ∙ p.below y (ltb-true y a f) in cc)

pub high_end : {a b : ℕ} {ls : List ℕ} → Block a b ls → (y : ℕ) → has y ls ≡ true → y < b
high_end {a} {b} {ls} p y e = by (nat_lt y b) refl
  where
    by : (t : Bool) → nat_lt y b ≡ t → y < b
    by true f = ltb-true y b f
    by false f = absurd (let bad : true ≡ false = sym e ∙ p.above y (ltb-false y b f) in cc)

module _ (base : ℕ) where
  abbrev pub instruction_labels : ℕ → Instruction → List ℕ
  instruction_labels n (Do o) = operation_labels n o
  instruction_labels n (Call spread count) = n ∷ []
  instruction_labels n (Label l) = (base + l) ∷ []
  instruction_labels n _ = []

  abbrev pub body_labels : ℕ → List Instruction → List ℕ
  body_labels n [] = []
  body_labels n (i ∷ instructions) = instruction_labels n i ++ body_labels (n + labels_needed i) instructions

  module _ (out words heap_end literals : ℕ) where
    instruction_labelled : (n : ℕ) (i : Instruction) → Labelled (instruction_code base out words heap_end literals n i)
        (instruction_labels n i)
    instruction_labelled n (Do o) rest = operation_labelled heap_end literals n o rest
    instruction_labelled n (Fix members spills) rest = group_labelled heap_end members spills rest
    instruction_labelled n _ rest = refl

    pub body_labelled : (n : ℕ) (instructions : List Instruction)
        → Labelled (body_code base out words heap_end literals n instructions) (body_labels n instructions)
    body_labelled n [] rest = refl
    body_labelled n (i ∷ instructions) rest =
        instruction_labelled n i (body_code base out words heap_end literals (n + labels_needed i) instructions rest)
        ∙ ap (λ l. instruction_labels n i ++ l) (body_labelled (n + labels_needed i) instructions rest)
        ∙ sym (append_assoc (instruction_labels n i) (body_labels (n + labels_needed i) instructions)
        (labels_in rest))

  absent : (y n : ℕ) (instructions : List Instruction) → y < n
      → ((l : ℕ) → has l (frames.labels_in instructions) ≡ true → y ≢ base + l)
      → has y (body_labels n instructions) ≡ false
  absent y n [] lt h = refl
  absent y n (Label l ∷ instructions) lt h =
      absent_more y (base + l) (body_labels (n + labels_needed (Label l)) instructions)
      (h l (in_here l (frames.labels_in instructions)))
      (absent y (n + labels_needed (Label l)) instructions (omega (arith, lt))
      (λ k e. h k (in_more k l (frames.labels_in instructions) e)))
  absent y n (Do o ∷ instructions) lt h =
      absent_append (operation_labels n o) (body_labels (n + labels_needed (Do o)) instructions) y
      ((operation_block n o).below y lt) (absent y (n + labels_needed (Do o)) instructions (omega (arith, lt)) h)
  absent y n (Store q ∷ instructions) lt h = absent y (n + labels_needed (Store q)) instructions (omega (arith, lt)) h
  absent y n (Copy to from ∷ instructions) lt h =
      absent y (n + labels_needed (Copy to from)) instructions (omega (arith, lt)) h
  absent y n (Pass j ∷ instructions) lt h = absent y (n + labels_needed (Pass j)) instructions (omega (arith, lt)) h
  absent y n (Fix members spills ∷ instructions) lt h =
      absent y (n + labels_needed (Fix members spills)) instructions (omega (arith, lt)) h
  absent y n (Call spread count ∷ instructions) lt h =
      absent_append (n ∷ []) (body_labels (n + labels_needed (Call spread count)) instructions) y
      ((one_label n).below y lt) (absent y (n + labels_needed (Call spread count)) instructions (omega (arith, lt)) h)
  absent y n (Tail spread count ∷ instructions) lt h =
      absent y (n + labels_needed (Tail spread count)) instructions (omega (arith, lt)) h
  absent y n (Return ∷ instructions) lt h = absent y (n + labels_needed Return) instructions (omega (arith, lt)) h
  absent y n (End ∷ instructions) lt h = absent y (n + labels_needed End) instructions (omega (arith, lt)) h
  absent y n (IfFalse j ∷ instructions) lt h =
      absent y (n + labels_needed (IfFalse j)) instructions (omega (arith, lt)) h
  absent y n (Jump j ∷ instructions) lt h = absent y (n + labels_needed (Jump j)) instructions (omega (arith, lt)) h
  absent y n (Mark m ∷ instructions) lt h = absent y (n + labels_needed (Mark m)) instructions (omega (arith, lt)) h

  module _ (labels : ℕ) where
    local_small : (ls : List ℕ) (l : ℕ) → list_all (λ l. nat_lt l labels) ls ≡ true → has l ls ≡ true → l < labels
    local_small [] l e h = absurd (let bad : false ≡ true = h in cc)
    local_small (k ∷ ls) l e h = by (nat_eq l k) refl (λ i. local_small ls l
        (and_parts (nat_lt k labels) (list_all (λ l. nat_lt l labels) ls) e).1 i)
      where
        by : (b : Bool) → nat_eq l k ≡ b → (has l ls ≡ true → l < labels) → l < labels
        by true q rec = let same : l ≡ k = eqb-true l k q in let lt = ltb-true k labels
            (and_parts (nat_lt k labels) (list_all (λ l. nat_lt l labels) ls) e).0 in omega (arith, same, lt)
        by false q rec = rec (ap (λ b. b || has l ls) (sym q) ∙ h)

    beyond : (y n : ℕ) (instructions : List Instruction)
        → list_all (λ l. nat_lt l labels) (frames.labels_in instructions) ≡ true → base + labels ≤ n
        → n + all_labels_needed instructions ≤ y → has y (body_labels n instructions) ≡ false
    beyond y n [] e le far = refl
    beyond y n (Label l ∷ instructions) e le far =
        let p = and_parts (nat_lt l labels) (list_all (λ l. nat_lt l labels) (frames.labels_in instructions)) e in
        let lt = ltb-true l labels p.0 in
        absent_more y (base + l) (body_labels (n + labels_needed (Label l)) instructions)
        (λ q. omega (arith, q, lt, le, far))
        (beyond y (n + labels_needed (Label l)) instructions p.1 (omega (arith, le)) (omega (arith, far)))
    beyond y n (Do o ∷ instructions) e le far = absent_append (operation_labels n o)
        (body_labels (n + labels_needed (Do o)) instructions) y ((operation_block n o).above y (omega (arith, far)))
        (beyond y (n + labels_needed (Do o)) instructions e (omega (arith, le)) (omega (arith, far)))
    beyond y n (Store q ∷ instructions) e le far =
        beyond y (n + labels_needed (Store q)) instructions e (omega (arith, le))
        (omega (arith, far))
    beyond y n (Copy to from ∷ instructions) e le far =
        beyond y (n + labels_needed (Copy to from)) instructions e (omega (arith, le))
        (omega (arith, far))
    beyond y n (Pass j ∷ instructions) e le far =
        beyond y (n + labels_needed (Pass j)) instructions e (omega (arith, le))
        (omega (arith, far))
    beyond y n (Fix members spills ∷ instructions) e le far =
        beyond y (n + labels_needed (Fix members spills)) instructions e (omega (arith, le))
        (omega (arith, far))
    beyond y n (Call spread count ∷ instructions) e le far =
        absent_append (n ∷ []) (body_labels (n + labels_needed (Call spread count)) instructions)
        y ((one_label n).above y (omega (arith, far)))
        (beyond y (n + labels_needed (Call spread count)) instructions e (omega (arith, le))
        (omega (arith, far)))
    beyond y n (Tail spread count ∷ instructions) e le far =
        beyond y (n + labels_needed (Tail spread count)) instructions e (omega (arith, le))
        (omega (arith, far))
    beyond y n (Return ∷ instructions) e le far =
        beyond y (n + labels_needed Return) instructions e (omega (arith, le))
        (omega (arith, far))
    beyond y n (End ∷ instructions) e le far =
        beyond y (n + labels_needed End) instructions e (omega (arith, le)) (omega (arith, far))
    beyond y n (IfFalse j ∷ instructions) e le far =
        beyond y (n + labels_needed (IfFalse j)) instructions e (omega (arith, le))
        (omega (arith, far))
    beyond y n (Jump j ∷ instructions) e le far =
        beyond y (n + labels_needed (Jump j)) instructions e (omega (arith, le))
        (omega (arith, far))
    beyond y n (Mark m ∷ instructions) e le far =
        beyond y (n + labels_needed (Mark m)) instructions e (omega (arith, le))
        (omega (arith, far))

    different : (n : ℕ) (instructions : List Instruction)
        → list_all (λ l. nat_lt l labels) (frames.labels_in instructions) ≡ true
        → without_repeats (frames.labels_in instructions) ≡ true → base + labels ≤ n
        → without_repeats (body_labels n instructions) ≡ true
    different n [] e d le = refl
    different n (Label l ∷ instructions) e d le =
        let p = and_parts (nat_lt l labels) (list_all (λ l. nat_lt l labels) (frames.labels_in instructions)) e in
        let q = and_parts (not (has l (frames.labels_in instructions)))
        (without_repeats (frames.labels_in instructions)) d in
        let lt = ltb-true l labels p.0 in
        distinct_more (base + l) (body_labels (n + labels_needed (Label l)) instructions)
        (absent (base + l) (n + labels_needed (Label l)) instructions (omega (arith, lt, le))
        (λ k h s. let same : k ≡ l = omega (arith, s) in absurd
        (both (has l (frames.labels_in instructions)) q.0 (ap (λ k. has k (frames.labels_in instructions))
        (sym same) ∙ h))))
        (different (n + labels_needed (Label l)) instructions p.1 q.1 (omega (arith, le)))
      where
        both : (b : Bool) → not b ≡ true → b ≡ true → ⊥
        both true e f = let bad : false ≡ true = e in cc
        both false e f = let bad : false ≡ true = f in cc
    different n (Do o ∷ instructions) e d le =
        distinct_append (operation_labels n o) (body_labels (n + labels_needed (Do o)) instructions)
        (operation_block n o).distinct
        (different (n + labels_needed (Do o)) instructions e d (omega (arith, le)))
        (apart_by (operation_labels n o) (body_labels (n + labels_needed (Do o)) instructions)
        (λ x h. let hi = high_end (operation_block n o) x h in let lo = low_end (operation_block n o) x h in
        absent x (n + labels_needed (Do o)) instructions hi
        (λ l k s. let small = local_small (frames.labels_in instructions) l e k in
        omega (arith, s, lo, le, small))))
    different n (Store q ∷ instructions) e d le =
        different (n + labels_needed (Store q)) instructions e d (omega (arith, le))
    different n (Copy to from ∷ instructions) e d le =
        different (n + labels_needed (Copy to from)) instructions e d (omega (arith, le))
    different n (Pass j ∷ instructions) e d le =
        different (n + labels_needed (Pass j)) instructions e d (omega (arith, le))
    different n (Fix members spills ∷ instructions) e d le =
        different (n + labels_needed (Fix members spills)) instructions e d (omega (arith, le))
    different n (Call spread count ∷ instructions) e d le =
        distinct_append (n ∷ []) (body_labels (n + labels_needed (Call spread count)) instructions)
        (one_label n).distinct
        (different (n + labels_needed (Call spread count)) instructions e d (omega (arith, le)))
        (apart_by (n ∷ []) (body_labels (n + labels_needed (Call spread count)) instructions)
        (λ x h. let hi = high_end (one_label n) x h in let lo = low_end (one_label n) x h in
        absent x (n + labels_needed (Call spread count)) instructions (omega (arith, hi))
        (λ l k s. let small = local_small
        (frames.labels_in instructions) l e k in omega (arith, s, lo, le, small))))
    different n (Tail spread count ∷ instructions) e d le =
        different (n + labels_needed (Tail spread count)) instructions e d (omega (arith, le))
    different n (Return ∷ instructions) e d le =
        different (n + labels_needed Return) instructions e d (omega (arith, le))
    different n (End ∷ instructions) e d le = different (n + labels_needed End) instructions e d (omega (arith, le))
    different n (IfFalse j ∷ instructions) e d le =
        different (n + labels_needed (IfFalse j)) instructions e d (omega (arith, le))
    different n (Jump j ∷ instructions) e d le =
        different (n + labels_needed (Jump j)) instructions e d (omega (arith, le))
    different n (Mark m ∷ instructions) e d le =
        different (n + labels_needed (Mark m)) instructions e d (omega (arith, le))

    pub body_block : (n : ℕ) (instructions : List Instruction) → forward labels instructions ≡ true
        → base + labels ≤ n → Block base (n + all_labels_needed instructions) (body_labels n instructions)
    body_block n instructions e le =
        let p = and_parts (list_all (λ l. nat_lt l labels) (frames.labels_in instructions))
        (without_repeats (frames.labels_in instructions) && jumps_ahead instructions) e in
        let q = and_parts (without_repeats (frames.labels_in instructions)) (jumps_ahead instructions) p.1 in
        record {
          distinct = different n instructions p.0 q.0 le;
          below = λ y lt. absent y n instructions (omega (arith, lt, le)) (λ l h s. omega (arith, s, lt));
          above = λ y far. beyond y n instructions p.0 le far;
        }

    pub absent_end : (y n : ℕ) (instructions : List Instruction) → forward labels instructions ≡ true
        → base + labels ≤ y → y < n → has y (body_labels n instructions) ≡ false
    absent_end y n instructions e le lt =
        let p = and_parts (list_all (λ l. nat_lt l labels) (frames.labels_in instructions))
        (without_repeats (frames.labels_in instructions) && jumps_ahead instructions) e in
        absent y n instructions lt (λ l h s. let small = local_small (frames.labels_in instructions) l p.0 h in omega
        (arith, s, le, small))

-- ---- bodies

abbrev pub inner_labels : ℕ → Code → List ℕ
inner_labels n c = body_labels n (n + c.labels + 2) c.instructions ++ (n + c.labels) ∷ []

abbrev pub entry_labels : Option Entry → (n : ℕ) → List ℕ
entry_labels None n = []
entry_labels (Some e) n = count_labels e.rest n

-- the labels of a body behind the one at which it begins
abbrev pub labels_behind : ℕ → Code → List ℕ
labels_behind n c = entry_labels c.entry (n + c.labels + 1) ++ inner_labels n c

abbrev pub form_labels : (label n : ℕ) → Code → List ℕ
form_labels label n c = body_label label ∷ labels_behind n c

passed_labelled : (o : Option Entry) (out : ℕ) → Labelled (passed_code o out) []
passed_labelled None out rest = refl
passed_labelled (Some e) out rest = refl

entry_labelled : (o : Option Entry) (n : ℕ) → Labelled (entry_code o n) (entry_labels o n)
entry_labelled None n rest = refl
entry_labelled (Some e) n rest = count_labelled e.rest e.formals n rest

form_labelled : (words heap_end literals label n : ℕ) (c : Code)
    → Labelled (form_code words heap_end literals label n c) (form_labels label n c)
form_labelled words heap_end literals label n c rest =
    passed_labelled c.entry (n + c.labels) _
    ∙ ap (λ l. body_label label ∷ l)
    (entry_labelled c.entry (n + c.labels + 1) _
    ∙ ap (λ l. entry_labels c.entry (n + c.labels + 1) ++ l)
    (body_labelled n (n + c.labels) words heap_end literals (n + c.labels + 2) c.instructions
    (item.Label (n + c.labels) ∷ rest)
    ∙ sym (append_assoc (body_labels n (n + c.labels + 2) c.instructions) ((n + c.labels) ∷ []) (labels_in rest)))
    ∙ sym (append_assoc (entry_labels c.entry (n + c.labels + 1)) (inner_labels n c) (labels_in rest)))

inner_block : (n : ℕ) (c : Code) → forward c.labels c.instructions ≡ true → Block n (labels_end n c) (inner_labels n c)
inner_block n c e =
    let b = body_block n c.labels (n + c.labels + 2) c.instructions e (omega arith) in
    let body = body_labels n (n + c.labels + 2) c.instructions in
    record {
      distinct = distinct_append body ((n + c.labels) ∷ []) b.distinct refl
          (apart_by body ((n + c.labels) ∷ []) (λ x h. absent_more x (n + c.labels) [] (other x h) refl));
      below = λ y lt. absent_append body ((n + c.labels) ∷ []) y (b.below y lt)
          (absent_more y (n + c.labels) [] (λ s. omega (arith, s, lt)) refl);
      above = λ y far. absent_append body ((n + c.labels) ∷ []) y (b.above y far)
          (absent_more y (n + c.labels) [] (λ s. omega (arith, s, far)) refl);
    }
  where
    other : (x : ℕ) → has x (body_labels n (n + c.labels + 2) c.instructions) ≡ true → x ≢ n + c.labels
    other x h s =
        let g = absent_end n c.labels (n + c.labels) (n + c.labels + 2) c.instructions e (omega arith) (omega arith) in
        let bad : true ≡ false = sym h ∙ ap (λ l. has l (body_labels n (n + c.labels + 2) c.instructions)) s ∙ g in cc

-- the label of a list beside these
with_entry : (o : Option Entry) (k low high : ℕ) (ls : List ℕ) → low ≤ k → k < high → has k ls ≡ false
    → Block low high ls → Block low high (entry_labels o k ++ ls)
with_entry None k low high ls le lt absent b = b
with_entry (Some e) k low high ls le lt absent b = by e.rest
  where
    by : (t : Bool) → Block low high (count_labels t k ++ ls)
    by false = b
    by true = record {
      distinct = distinct_more k ls absent b.distinct;
      below = λ y less. absent_more y k ls (λ s. omega (arith, s, less, le)) (b.below y less);
      above = λ y far. absent_more y k ls (λ s. omega (arith, s, far, lt)) (b.above y far);
    }

own_block : (n : ℕ) (c : Code) → forward c.labels c.instructions ≡ true → Block n (labels_end n c) (labels_behind n c)
own_block n c e = with_entry c.entry (n + c.labels + 1) n (labels_end n c) (inner_labels n c) (omega arith) (omega arith)
    (absent_append (body_labels n (n + c.labels + 2) c.instructions) ((n + c.labels) ∷ []) (n + c.labels + 1)
    (absent_end n c.labels (n + c.labels + 1) (n + c.labels + 2) c.instructions e (omega arith) (omega arith))
    (absent_more (n + c.labels + 1) (n + c.labels) [] (λ s. omega (arith, s)) refl)) (inner_block n c e)

abbrev pub forms_labels : (label n : ℕ) → List Code → List ℕ
forms_labels label n [] = []
forms_labels label n (c ∷ cs) = form_labels label n c ++ forms_labels (suc label) (labels_end n c) cs

abbrev pub forms_end : ℕ → List Code → ℕ
forms_end n [] = n
forms_end n (c ∷ cs) = forms_end (labels_end n c) cs

pub forms_labelled : (words heap_end literals label n : ℕ) (cs : List Code)
    → Labelled (forms_code words heap_end literals label n cs) (forms_labels label n cs)
forms_labelled words heap_end literals label n [] rest = refl
forms_labelled words heap_end literals label n (c ∷ cs) rest =
    form_labelled words heap_end literals label n c (forms_code words heap_end literals (suc label) (labels_end n c) cs rest)
    ∙ ap (λ l. form_labels label n c ++ l) (forms_labelled words heap_end literals (suc label) (labels_end n c) cs rest)
    ∙ sym (append_assoc (form_labels label n c) (forms_labels (suc label) (labels_end n c) cs) (labels_in rest))

end_above : (n : ℕ) (cs : List Code) → n ≤ forms_end n cs
end_above n [] = omega arith
end_above n (c ∷ cs) = let h = end_above (labels_end n c) cs in omega (arith, h)

-- The labels of bodies are one block, and those of their own are another, which lies behind it.
pub record AreLabels (label n : ℕ) (cs : List Code) : Type 0 where
  pub distinct : without_repeats (forms_labels label n cs) ≡ true
  pub below : (y : ℕ) → y < body_label label → has y (forms_labels label n cs) ≡ false
  pub between : (y : ℕ) → body_label (label + length cs) ≤ y → y < n → has y (forms_labels label n cs) ≡ false

pub forms_block : (label n : ℕ) (cs : List Code) → body_label (label + length cs) ≤ n
    → list_all (λ c. forward c.labels c.instructions) cs ≡ true → AreLabels label n cs
forms_block label n [] le e = record { distinct = refl; below = λ y lt. refl; between = λ y lo hi. refl }
forms_block label n (c ∷ cs) le e =
    let p = and_parts (forward c.labels c.instructions) (list_all (λ c. forward c.labels c.instructions) cs) e in
    let own = own_block n c p.0 in
    let rest = forms_labels (suc label) (labels_end n c) cs in
    let others = forms_block (suc label) (labels_end n c) cs (omega (arith, le)) p.1 in
    record {
      distinct = distinct_more (body_label label) (labels_behind n c ++ rest)
          (absent_append (labels_behind n c) rest (body_label label) (own.below (body_label label) (omega (arith, le)))
          (others.below (body_label label) (omega arith)))
          (distinct_append (labels_behind n c) rest own.distinct others.distinct
          (apart_by (labels_behind n c) rest (λ x h. let lo = low_end own x h in let hi = high_end own x h in
          others.between x (omega (arith, lo, le)) hi)));
      below = λ y lt. absent_more y (body_label label) (labels_behind n c ++ rest) (λ s. omega (arith, s, lt))
          (absent_append (labels_behind n c) rest y (own.below y (omega (arith, lt, le)))
          (others.below y (omega (arith, lt))));
      between = λ y lo hi. absent_more y (body_label label) (labels_behind n c ++ rest) (λ s. omega (arith, s, lo))
          (absent_append (labels_behind n c) rest y (own.below y hi)
          (others.between y (omega (arith, lo)) (omega (arith, hi))));
    }

-- ---- the program

pub labels_low : (p : Source) → list_all (λ c. forward c.labels c.instructions) p.bodies ≡ true → (y : ℕ)
    → has y (forms_labels 0 (own_label p) p.bodies) ≡ true → FIRST_LABEL ≤ y
labels_low p e y h = by (nat_lt y FIRST_LABEL) refl
  where
    by : (t : Bool) → nat_lt y FIRST_LABEL ≡ t → FIRST_LABEL ≤ y
    by false f = ltb-false y FIRST_LABEL f
    by true f = absurd (let bad : true ≡ false = sym h ∙ (forms_block 0 (own_label p) p.bodies (omega arith) e).below
        y (ltb-true y FIRST_LABEL f) in cc)

-- what stands behind the bodies
abbrev pub last_code : List Item
last_code = item.Jump (label_of routine.End) ∷ []

pub program_once : (p : Source) (limit depth : ℕ) → list_all (λ c. forward c.labels c.instructions) p.bodies ≡ true
    → IsEachOnce (labels_in (selected_code p limit depth))
program_once p limit depth e =
    let rest = last_code in
    let forms = forms_labels 0 (own_label p) p.bodies in
    let b = forms_block 0 (own_label p) p.bodies (omega arith) e in
    let all : labels_in (selected_code p limit depth) ≡ forms ++ labels_in rest = forms_labelled p.words
    (heap_of p + limit) (count_literals p.statics.literals) 0 (own_label p) p.bodies rest in
    subst IsEachOnce (sym all) (each_once (forms ++ labels_in rest)
    (distinct_append forms (labels_in rest) b.distinct refl
    (apart_by forms (labels_in rest) (λ x h. refl))))
