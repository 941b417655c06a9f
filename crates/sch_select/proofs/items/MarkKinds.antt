-- Which marks the items of a program have: those of its bodies, in their order.
use Rattle.std.proofs.Common.{◌≡◌, ℕ, suc, ◌+◌, List, [], ◌∷◌, ◌++◌, length, map, true, cond, ◌&&◌, refl, sym, ap, ◌∙◌, append-nil, append_assoc, arith}
use Rattle.std.specs.Prelude.{nat_eq, nat_le}
use Rattle.std.specs.List.{list_all}
use Rattle.std.proofs.lemmas.Bool.{and_parts, eqb-true, false≢true}
use Rattle.sch_word.specs.declared.place.Place.{Place}
use Rattle.sch_word.specs.declared.place.Place.TheVariants.{Reg as Register, Slot}
use Rattle.sch_word.specs.trees.Shape.{max_operands}
use Rattle.sch_word.specs.values.Literals.{count_literals}
use Rattle.sch_control.specs.declared.operation.Member.{Member}
use Rattle.sch_frames.specs.declared.instruction.Instruction.{Instruction}
use Rattle.sch_frames.specs.declared.instruction.Instruction.TheVariants as instruction
use Rattle.sch_frames.specs.Tree.{Code}
use Rattle.sch_frames.specs.Tree as tree
use Rattle.sch_asm.specs.declared.item.Item.{Item}
use Rattle.sch_asm.specs.declared.item.Item.TheVariants as item
use Rattle.sch_word.specs.declared.mark.MarkKind.TheVariants.{Enter, Spill}
use Rattle.sch_frames.specs.Covered.{marks_settled}
use Rattle.sch_word.specs.values.Places.{is_slot}
use Rattle.sch_control.specs.flow.Places.{formals_of}
use Rattle.sch_frames.specs.Valid.{in_slots}
use Rattle.sch_insn.specs.declared.insn.Insn.TheVariants.{MovTo}
use Rattle.sch_select_memory.specs.Addresses.{place_operand}
use Rattle.sch_select_operations.proofs.simulation.SelectedPrograms.{form_selected, instruction_selected, members_selected, selects}
use Rattle.sch_select.proofs.items.BareItems.{is_bare, behind_entry, behind_operation, behind_passed, behind_records}
use Rattle.sch_select_operations.specs.ClosureCode.{closure_bytes, places_code, spill_code, spills_behind}
use Rattle.sch_select.specs.Select.{labels_needed, instruction_code, body_code}
use Rattle.sch_select.specs.Program.{forms_code, labels_end, own_label, selected_code}
use Rattle.sch_select_data.specs.Data.{heap_of}
use Rattle.sch_select.specs.Sizes.{kinds_among, kinds_in, kinds_of}

unseen : (i : Item) (is : List Item) → is_bare i ≡ true → kinds_in (i ∷ is) ≡ kinds_in is
unseen (item.Mark m) is e = absurd (false≢true e)
unseen _ is e = refl

-- each member in a slot has the mark of its variable
places_kinds : (offset : ℕ) (members : List (Member Place)) (spills : List ℕ) → length spills ≡ in_slots members → (rest : List Item)
    → kinds_in (places_code offset members spills rest) ≡ map Spill spills ++ kinds_in rest
places_kinds offset [] [] e rest = refl
places_kinds offset [] (x ∷ spills) e rest = absurd (cc)
places_kinds offset (m ∷ members) spills e rest = by m.at spills e (λ more e. places_kinds (offset + closure_bytes m.closure) members more e rest) where
  others : List ℕ → List Item
  others more = places_code (offset + closure_bytes m.closure) members more rest

  by : (p : Place) (spills : List ℕ) → length spills ≡ cond (is_slot p) (suc (in_slots members)) (in_slots members)
      → ((more : List ℕ) → length more ≡ in_slots members → kinds_in (others more) ≡ map Spill more ++ kinds_in rest)
      → kinds_in (spill_code p spills (item.Plain (MovTo (place_operand p) 1) ∷ others (spills_behind p spills))) ≡ map Spill spills ++ kinds_in rest
  by (Slot j) (x ∷ spills) e rec = ap (λ kinds. Spill x ∷ kinds) (rec spills (omega (arith, e)))
  by (Slot j) [] e rec = absurd (cc)
  by (Register r) spills e rec = rec spills e

body_kinds : (globals symbols base out words heap_end literals n : ℕ) (is : List Instruction)
    → list_all (instruction_selected words globals symbols literals) is ≡ true → (rest : List Item)
    → kinds_in (body_code base out words heap_end literals n is rest) ≡ kinds_among is ++ kinds_in rest
body_kinds globals symbols base out words heap_end literals n [] e rest = refl
body_kinds globals symbols base out words heap_end literals n (i ∷ is) e rest =
    let p = and_parts (instruction_selected words globals symbols literals i) (list_all (instruction_selected words globals symbols literals) is) e in
    by i p.0 (body_kinds globals symbols base out words heap_end literals (n + labels_needed i) is p.1 rest)
  where
    next : List Item
    next = body_code base out words heap_end literals (n + labels_needed i) is rest

    by : (i : Instruction) → instruction_selected words globals symbols literals i ≡ true → kinds_in next ≡ kinds_among is ++ kinds_in rest
        → kinds_in (instruction_code base out words heap_end literals n i next) ≡ kinds_among (i ∷ is) ++ kinds_in rest
    by (instruction.Do o) e h = behind_operation kinds_in unseen heap_end literals n o next ∙ h
    by (instruction.Fix members spills) e h =
        let p = and_parts (nat_eq (length spills) (in_slots members)) (nat_le (length members) max_operands && members_selected words globals symbols literals members) e in
        places_kinds 0 members spills (eqb-true (length spills) (in_slots members) p.0) _
        ∙ ap (λ kinds. map Spill spills ++ kinds) (behind_records kinds_in unseen 0 members _ ∙ h)
        ∙ sym (append_assoc (map Spill spills) (kinds_among is) (kinds_in rest))
    by (instruction.Mark m) e h = ap (λ kinds. m ∷ kinds) h
    by (instruction.Store p) e h = h
    by _ e h = h

forms_kinds : (globals symbols words heap_end literals label n : ℕ) (cs : List Code) → list_all (form_selected words globals symbols literals) cs ≡ true
    → (rest : List Item) → kinds_in (forms_code words heap_end literals label n cs rest) ≡ kinds_of label cs ++ kinds_in rest
forms_kinds globals symbols words heap_end literals label n [] s rest = refl
forms_kinds globals symbols words heap_end literals label n (c ∷ cs) s rest =
    let all = and_parts (form_selected words globals symbols literals c) (list_all (form_selected words globals symbols literals) cs) s in
    let own = and_parts (nat_le (formals_of c.entry) max_operands) (list_all (instruction_selected words globals symbols literals) c.instructions) all.0 in
    let others = forms_code words heap_end literals (suc label) (labels_end n c) cs rest in
    let p = behind_passed kinds_in unseen c.entry (n + c.labels) _ in
    let h = body_kinds globals symbols n (n + c.labels) words heap_end literals (n + c.labels + 2) c.instructions own.1
    (item.Label (n + c.labels) ∷ others) in
    let k = forms_kinds globals symbols words heap_end literals (suc label) (labels_end n c) cs all.1 rest in
    let e = behind_entry kinds_in unseen c.entry (n + c.labels + 1) (item.Mark (Enter label) ∷ body_code n (n + c.labels) words heap_end literals
    (n + c.labels + 2) c.instructions (item.Label (n + c.labels) ∷ others)) in
    let a = append_assoc (kinds_among c.instructions) (kinds_of (suc label) cs) (kinds_in rest) in
    p ∙ e ∙ ap (λ kinds. Enter label ∷ kinds) (h ∙ ap (λ kinds. kinds_among c.instructions ++ kinds) k ∙ sym a)

pub program_kinds : (p : tree.Source) (heap depth : ℕ) → selects p ≡ true → kinds_in (selected_code p heap depth) ≡ kinds_of 0 p.bodies
program_kinds p heap depth e =
    let globals = length p.statics.globals in
    let symbols = length p.statics.symbols in
    let literals = count_literals p.statics.literals in
    let both = and_parts (list_all (form_selected p.words globals symbols literals) p.bodies) (list_all (λ c. marks_settled true c.instructions) p.bodies) e in
    forms_kinds globals symbols p.words (heap_of p + heap) literals 0 (own_label p) p.bodies both.0 _ ∙ append-nil (kinds_of 0 p.bodies)
