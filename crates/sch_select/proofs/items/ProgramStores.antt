-- Each write of a word of a frame stands behind its mark, where the instructions of bodies have their marks.
use Rattle.std.proofs.Common.{◌≡◌, ℕ, suc, ◌+◌, List, [], ◌∷◌, length, true, cond, Option, Some, None, refl, subst, ◌∙◌, ◌&&◌, arith}
use Rattle.std.specs.Prelude.{not, IsTrue}
use Rattle.std.proofs.lemmas.Bool.{and_parts, eqb-true, false≢true}
use Rattle.sch_word.specs.values.Literals.{count_literals}
use Rattle.sch_word.specs.declared.mark.MarkKind.{MarkKind}
use Rattle.sch_word.specs.declared.mark.MarkKind.TheVariants as mark
use Rattle.sch_word.specs.declared.place.Place.{Place}
use Rattle.sch_word.specs.declared.place.Place.TheVariants.{Reg as Register, Slot}
use Rattle.sch_control.specs.declared.operation.Member.{Member}
use Rattle.sch_frames.specs.declared.instruction.Instruction.{Instruction}
use Rattle.sch_frames.specs.declared.instruction.Instruction.TheVariants as instruction
use Rattle.sch_word.specs.values.Places.{is_slot}
use Rattle.sch_frames.specs.Standing.{Before, Marked, Called, Other, all_marks_stand, before_next, belongs, code_marks_stand, is_restore, is_unmarked, loads, marked_before_next, marks_stand, stores, writes}
use Rattle.sch_frames.specs.Tree.{Code}
use Rattle.sch_frames.specs.Tree as tree
use Rattle.sch_frames.specs.Valid.{in_slots}
use Rattle.sch_insn.specs.declared.insn.Insn.TheVariants.{MovTo}
use Rattle.sch_asm.specs.declared.item.Item.{Item}
use Rattle.sch_asm.specs.declared.item.Item.TheVariants as item
use Rattle.sch_select_memory.specs.Addresses.{place_operand}
use Rattle.sch_select_operations.specs.ClosureCode.{closure_bytes, places_code, spill_code, spills_behind}
use Rattle.sch_select_data.specs.Data.{heap_of}
use Rattle.sch_select.specs.MarkedStores.{stands_before, stores_marked, waiting_mark, writes_frame}
use Rattle.sch_select.specs.Select.{labels_needed, instruction_code, body_code}
use Rattle.sch_select.specs.Program.{forms_code, labels_end, own_label, selected_code}
use Rattle.sch_select.proofs.items.BareItems.{is_bare, behind_entry, behind_operation, behind_passed, behind_records}
use Rattle.sch_select.proofs.items.ProgramLabels.{last_code}
use Rattle.sch_select_memory.proofs.Sound.{in_front}

-- they stand so in what follows
abbrev Stand : List Item → Type 0
Stand rest = stores_marked None rest ≡ true

unseen : (i : Item) (is : List Item) → is_bare i ≡ true → stores_marked None (i ∷ is) ≡ stores_marked None is
unseen (item.Plain i) is e = in_front (not (writes_frame (item.Plain i))) (stores_marked None is) e
unseen (item.Mark m) is e = absurd (false≢true e)
unseen (item.Label l) is e = refl
unseen (item.Jump l) is e = refl
unseen (item.JumpIf c l) is e = refl
unseen (item.LoadLabel r l) is e = refl
unseen (item.LoadWord r a) is e = refl
unseen (item.StoreWord a r) is e = refl

-- ## Groups

places_stand : (offset : ℕ) (members : List (Member Place)) (spills : List ℕ) → length spills ≡ in_slots members → (rest : List Item) → Stand rest → Stand (places_code offset members spills rest)
places_stand offset [] spills e rest h = h
places_stand offset (m ∷ members) spills e rest h = by m.at spills e (λ more e. places_stand (offset + closure_bytes m.closure) members more e rest h) where
  others : List ℕ → List Item
  others more = places_code (offset + closure_bytes m.closure) members more rest

  by : (p : Place) (spills : List ℕ) → length spills ≡ cond (is_slot p) (suc (in_slots members)) (in_slots members)
      → ((more : List ℕ) → length more ≡ in_slots members → Stand (others more))
      → Stand (spill_code p spills (item.Plain (MovTo (place_operand p) 1) ∷ others (spills_behind p spills)))
  by (Slot j) (x ∷ spills) e rec = rec spills (omega (arith, e))
  by (Slot j) [] e rec = absurd (cc)
  by (Register r) spills e rec = rec spills e

-- ## Instructions

-- the mark that waits for what stands behind
abbrev waits : Before → Option MarkKind
waits (Marked m) = waiting_mark m
waits Called = None
waits Other = None

none_waits : (m : MarkKind) → waits (marked_before_next m) ≡ None
none_waits (mark.Call site) = refl
none_waits (mark.Restore x) = refl
none_waits _ = refl

module _ (base out words heap_end literals : ℕ) where
  abbrev code : ℕ → Instruction → List Item → List Item
  code n i rest = instruction_code base out words heap_end literals n i rest

  -- what stands without a mark
  unmarked : (n : ℕ) (i : Instruction) → is_unmarked i ≡ true → (rest : List Item) → stores_marked (waits (before_next i)) rest ≡ true → Stand (code n i rest)
  unmarked n (instruction.Do o) e rest h = behind_operation (stores_marked None) unseen heap_end literals n o rest ∙ h
  unmarked n (instruction.Store (Register r)) e rest h = h
  unmarked n (instruction.Store (Slot j)) e rest h = absurd (false≢true e)
  unmarked n (instruction.Copy (Register r) (Register q)) e rest h = h
  unmarked n (instruction.Copy (Register r) (Slot j)) e rest h = h
  unmarked n (instruction.Copy (Slot j) from) e rest h = absurd (false≢true e)
  unmarked n (instruction.Fix members spills) e rest h =
      places_stand 0 members spills (eqb-true (length spills) (in_slots members) e) _ (behind_records (stores_marked None) unseen 0 members _ ∙ h)
  unmarked n (instruction.Pass k) e rest h = absurd (false≢true e)
  unmarked n (instruction.Call spread count) e rest h = absurd (false≢true e)
  unmarked n (instruction.Tail spread count) e rest h = absurd (false≢true e)
  unmarked n instruction.Return e rest h = absurd (false≢true e)
  unmarked n instruction.End e rest h = h
  unmarked n (instruction.IfFalse l) e rest h = h
  unmarked n (instruction.Jump l) e rest h = h
  unmarked n (instruction.Label l) e rest h = h
  unmarked n (instruction.Mark m) e rest h = h

  -- what stores in a slot, behind a mark that stands before such an item
  stored : (m : MarkKind) → ((i : Item) → writes_frame i ≡ true → stands_before m i ≡ true) → (n : ℕ) (i : Instruction) → stores i ≡ true
      → (rest : List Item) → Stand rest → stores_marked (Some m) (code n i rest) ≡ true
  stored m fits n (instruction.Store (Slot j)) b rest h = in_front _ (stores_marked None rest) (fits (item.Plain (MovTo (place_operand (Slot j)) 0)) refl) ∙ h
  stored m fits n (instruction.Store (Register r)) b rest h = absurd (false≢true b)
  stored m fits n (instruction.Copy (Slot j) (Register r)) b rest h = in_front _ (stores_marked None rest) (fits (item.Plain (MovTo (place_operand (Slot j)) r)) refl) ∙ h
  stored m fits n (instruction.Copy (Slot j) (Slot i)) b rest h = absurd (false≢true b)
  stored m fits n (instruction.Copy (Register r) from) b rest h = absurd (false≢true b)
  stored m fits n (instruction.Pass k) b rest h = in_front _ (stores_marked None rest) (fits (item.Plain (MovTo (place_operand (Slot (words + k))) 0)) refl) ∙ h
  stored m fits n _ b rest h = absurd (false≢true b)

  -- what stands behind a mark
  under : (m : MarkKind) (n : ℕ) (i : Instruction) → belongs m i ≡ true → (rest : List Item) → Stand rest → stores_marked (waiting_mark m) (code n i rest) ≡ true
  under (mark.Save x) n i b rest h = stored (mark.Save x) (λ k e. e) n i b rest h
  under (mark.Spill x) n i b rest h = stored (mark.Spill x) (λ k e. e) n i b rest h
  under mark.Argument n i b rest h = stored mark.Argument (λ k e. e) n i b rest h
  under mark.Temp n i b rest h = by i b where
    by : (i : Instruction) → writes i ≡ true → stores_marked (Some mark.Temp) (code n i rest) ≡ true
    by (instruction.Store p) b = h
    by (instruction.Copy to (Register r)) b = h
    by (instruction.Copy (Register r) (Slot j)) b = h
    by (instruction.Copy (Slot i) (Slot j)) b = absurd (false≢true b)
    by (instruction.Pass k) b = h
    by _ b = absurd (false≢true b)
  under (mark.Restore x) n i b rest h = by i b where
    by : (i : Instruction) → loads i ≡ true → stores_marked (Some (mark.Restore x)) (code n i rest) ≡ true
    by (instruction.Copy (Register r) (Slot j)) b = h
    by (instruction.Copy (Register r) (Register q)) b = absurd (false≢true b)
    by (instruction.Copy (Slot i) from) b = absurd (false≢true b)
    by _ b = absurd (false≢true b)
  under (mark.Call site) n i b rest h = by i b where
    by : (i : Instruction) → belongs (mark.Call site) i ≡ true → stores_marked (Some (mark.Call site)) (code n i rest) ≡ true
    by (instruction.Call spread count) b = h
    by _ b = absurd (false≢true b)
  under (mark.Tail site) n i b rest h = by i b where
    by : (i : Instruction) → belongs (mark.Tail site) i ≡ true → stores_marked (Some (mark.Tail site)) (code n i rest) ≡ true
    by (instruction.Tail spread count) b = h
    by _ b = absurd (false≢true b)
  under mark.Return n i b rest h = by i b where
    by : (i : Instruction) → belongs mark.Return i ≡ true → stores_marked (Some mark.Return) (code n i rest) ≡ true
    by instruction.Return b = h
    by _ b = absurd (false≢true b)
  under (mark.Enter l) n i b rest h = absurd (false≢true b)

  -- ## Bodies

  body_stands : (before : Before) (n : ℕ) (is : List Instruction) → marks_stand before is ≡ true → (rest : List Item) → Stand rest
      → stores_marked (waits before) (body_code base out words heap_end literals n is rest) ≡ true
  body_stands (Marked m) n [] e rest h = absurd (false≢true e)
  body_stands Called n [] e rest h = h
  body_stands Other n [] e rest h = h
  body_stands (Marked m) n (i ∷ is) e rest h =
      let p = and_parts (belongs m i) (marks_stand (marked_before_next m) is) e in
      let next = body_code base out words heap_end literals (n + labels_needed i) is rest in
      under m n i p.0 next (subst (λ w. stores_marked w next ≡ true) (none_waits m) (body_stands (marked_before_next m) (n + labels_needed i) is p.1 rest h))
  body_stands Called n (i ∷ is) e rest h =
      let p = and_parts (is_unmarked i) (marks_stand (before_next i) is) e in
      unmarked n i p.0 _ (body_stands (before_next i) (n + labels_needed i) is p.1 rest h)
  body_stands Other n (i ∷ is) e rest h =
      let p = and_parts (is_unmarked i && not (is_restore i)) (marks_stand (before_next i) is) e in
      unmarked n i (and_parts (is_unmarked i) (not (is_restore i)) p.0).0 _ (body_stands (before_next i) (n + labels_needed i) is p.1 rest h)

forms_stand : (words heap_end literals label n : ℕ) (cs : List Code) → all_marks_stand cs ≡ true → (rest : List Item) → Stand rest
    → Stand (forms_code words heap_end literals label n cs rest)
forms_stand words heap_end literals label n [] e rest h = h
forms_stand words heap_end literals label n (c ∷ cs) e rest h =
    let p = and_parts (code_marks_stand c) (all_marks_stand cs) e in
    behind_passed (stores_marked None) unseen c.entry (n + c.labels) _ ∙ behind_entry (stores_marked None) unseen c.entry (n + c.labels + 1) _
    ∙ body_stands n (n + c.labels) words heap_end literals Other (n + c.labels + 2) c.instructions p.0
    (item.Label (n + c.labels) ∷ forms_code words heap_end literals (suc label) (labels_end n c) cs rest)
    (forms_stand words heap_end literals (suc label) (labels_end n c) cs p.1 rest h)

-- ## Programs

pub program_stands : (p : tree.Source) (heap depth : ℕ) → IsTrue (all_marks_stand p.bodies) → IsTrue (stores_marked None (selected_code p heap depth))
program_stands p heap depth e = forms_stand p.words (heap_of p + heap) (count_literals p.statics.literals) 0 (own_label p) p.bodies e last_code refl
