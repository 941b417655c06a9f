-- In a program's items the address of the frame goes nowhere else, each word that is named by its number lies before the heap, and the
-- heap's register goes on by what is charged, behind the items that set both registers.
use Rattle.std.proofs.Common.{◌≡◌, ℕ, suc, ◌+◌, ◌-◌, ◌*◌, ◌/◌, ◌≤◌, List, [], ◌∷◌, length, Bool, Option, Some, None, true, false}
use Rattle.std.proofs.Common.{refl, ap, sym, ◌∙◌, subst, ◌%◌, ◌&&◌, ◌||◌, arith}
use Rattle.std.specs.Prelude.{ℤ, IsTrue, pos, not, nat_eq, nat_lt, nat_le}
use Rattle.std.specs.List.{list_all}
use Rattle.std.proofs.lemmas.Bool.{and_parts, and_from, eq-eqb, eqb-true, le-leb, ltb-true, or_left}
use Rattle.std.proofs.lemmas.Nat.{mod-mul-add}
use Rattle.sch_word.specs.values.Literals.{count_literals}
use Rattle.sch_word.specs.trees.Shape.{max_operands}
use Rattle.sch_word.specs.declared.place.Place.{Place}
use Rattle.sch_word.specs.declared.place.Place.TheVariants.{Reg as Register, Slot}
use Rattle.sch_word.specs.declared.primitive.Primitive.{Primitive}
use Rattle.sch_word.specs.declared.primitive.Primitive.TheVariants.{IsBoolean, Eq, SymbolLength, SymbolRef, Cons, StringSet}
use Rattle.sch_word.specs.declared.registers.TheConstants.{FRAME_REGISTER, HEAP_REGISTER}
use Rattle.sch_control.specs.declared.body.Entry.{Entry}
use Rattle.sch_control.specs.declared.operation.Atom.{Atom}
use Rattle.sch_control.specs.declared.operation.Atom.TheVariants.{Constant, Literal, Variable}
use Rattle.sch_control.specs.declared.operation.Operand.{Operand}
use Rattle.sch_control.specs.declared.operation.Operand.TheVariants as operand
use Rattle.sch_control.specs.declared.operation.Source.{Source}
use Rattle.sch_control.specs.declared.operation.Source.TheVariants as source
use Rattle.sch_control.specs.declared.operation.Closure.{Closure}
use Rattle.sch_control.specs.declared.operation.Member.{Member}
use Rattle.sch_control.specs.declared.operation.Operation.{Operation}
use Rattle.sch_control.specs.declared.operation.Operation.TheVariants as operation
use Rattle.sch_control.specs.Valid.{only_reads}
use Rattle.sch_frames.specs.declared.instruction.Instruction.{Instruction}
use Rattle.sch_frames.specs.declared.instruction.Instruction.TheVariants as instruction
use Rattle.sch_frames.specs.Covered.{marks_settled}
use Rattle.sch_frames.specs.Tree.{Code}
use Rattle.sch_frames.specs.Tree as tree
use Rattle.sch_control.specs.flow.Places.{formals_of}
use Rattle.sch_frames.specs.Valid.{in_slots, is_place, is_register}
use Rattle.sch_insn.specs.declared.insn.Arg.TheVariants.{Reg, Base8, Base32}
use Rattle.sch_insn.specs.declared.insn.Insn.{Insn}
use Rattle.sch_insn.specs.declared.insn.Insn.TheVariants.{MovTo, MovFrom, MovWord, AddNumber}
use Rattle.sch_asm.specs.declared.item.Item.{Item}
use Rattle.sch_asm.specs.declared.item.Item.TheVariants as item
use Rattle.sch_asm.specs.declared.routine.Routine.TheVariants as routine
use Rattle.sch_asm.specs.Routines.{label_of}
use Rattle.sch_asm.specs.Narrow.{narrowed, short_number, with_operand}
use Rattle.sch_select_memory.specs.Addresses.{global_address, globals_address, literal_address, place_operand, table_address}
use Rattle.sch_select_memory.specs.Encoded.{constant_number}
use Rattle.sch_select_memory.proofs.Sound.{in_front}
use Rattle.sch_select_memory.specs.RestCode.{list_code}
use Rattle.sch_select_operations.specs.CellCode.{source_code}
use Rattle.sch_select_operations.specs.ClosureCode.{closure_bytes, fields_code, group_bytes, group_code, places_code, record_code, records_code, spills_behind}
use Rattle.sch_select_operations.specs.OperandCode.{atom_code, unary_code, binary_code, read_code, operand_code, second_code}
use Rattle.sch_select_operations.specs.OperationCode.{operation_code}
use Rattle.sch_select_operations.specs.PrimitiveCode.{pair_or_binary, ternary_code, index_operand}
use Rattle.sch_select_operations.proofs.simulation.SelectedPrograms.{atom_selected, closure_selected, form_selected, instruction_selected, members_selected}
use Rattle.sch_select_operations.proofs.simulation.SelectedPrograms.{operand_selected, operation_selected, read_selected, selects, source_selected, takes, three_selected}
use Rattle.sch_select_data.specs.Data.{heap_address, heap_of}
use Rattle.sch_select_data.specs.NameWords.{symbols_count}
use Rattle.sch_select_data.specs.PlacedWords.{units_in_each}
use Rattle.sch_runtime.specs.FrameRegister.{is_itself}
use Rattle.sch_runtime.specs.HeapRegister.{copies_address, is_charge}
use Rattle.sch_select.specs.FrameWords.{keeps_both, keeps_frames, lies_before}
use Rattle.sch_select.specs.Program.{count_code, entry_code, forms_code, labels_end, own_label, passed_code, selected_code}
use Rattle.sch_select.specs.Select.{body_code, copy_insn, instruction_code, labels_needed}
use Rattle.sch_select.proofs.items.AppendedItems.{spill_same}
use Rattle.sch_asm.proofs.NarrowItems.{item_same}

-- ## Items that keep the frame's address are not seen

abbrev Reach : (heap stack : ℕ) → List Item → Bool
Reach heap stack is = list_all (keeps_both heap stack) is

-- ## Places

-- the registers of bodies are others
other : (r register : ℕ) → is_register register ≡ false → is_register r ≡ true → nat_eq r register ≡ false
other r register none e = by (nat_eq r register) refl
  where
    by : (b : Bool) → nat_eq r register ≡ b → nat_eq r register ≡ false
    by false f = f
    by true f = absurd (let bad : false ≡ true = sym none ∙ subst (λ k. is_register k ≡ true) (eqb-true r register f) e in cc)

-- neither the frame's nor the heap's
abbrev is_neither : ℕ → Bool
is_neither r = not (nat_eq r FRAME_REGISTER) && not (nat_eq r HEAP_REGISTER)

apart : (r : ℕ) → is_register r ≡ true → is_neither r ≡ true
apart r e = and_from _ _ (ap not (other r FRAME_REGISTER refl e)) (ap not (other r HEAP_REGISTER refl e))

-- ## What is charged

-- a record of fields, and groups of them, take a multiple of 16 bytes
charged : (units bytes : ℕ) → bytes ≡ 16 * units → is_charge (pos bytes) ≡ true
charged units bytes e =
    let same : bytes ≡ units * 16 + 0 = omega (arith, e) in
    eq-eqb (bytes % 16) 0 (ap (λ n. n % 16) same ∙ mod-mul-add units 16 0 (omega arith))

abbrev closure_units : Closure Place → ℕ
closure_units c = (8 + 8 * length c.fields + 15) / 16

abbrev group_units : List (Member Place) → ℕ
group_units [] = 0
group_units (m ∷ members) = closure_units m.closure + group_units members

closure_charged : (c : Closure Place) → closure_bytes c ≡ 16 * closure_units c
closure_charged c = refl

group_charged : (members : List (Member Place)) → group_bytes members ≡ 16 * group_units members
group_charged [] = refl
group_charged (m ∷ members) = let one = closure_charged m.closure in let others = group_charged members in omega (arith, one, others)

-- The words of literals and of globals end before the heap begins.
module _ (words globals symbols literals heap_end heap stack : ℕ) (fits : globals_address literals + 8 * globals ≤ heap) where
  unseen : (i : Item) (is : List Item) → keeps_both heap stack i ≡ true → Reach heap stack (i ∷ is) ≡ Reach heap stack is
  unseen i is e = in_front (keeps_both heap stack i) (Reach heap stack is) e

  -- ## Words that are named by their numbers

  table_before : lies_before heap stack table_address ≡ true
  table_before = le-leb (table_address + 8) heap (omega (arith, fits))

  literal_before : (n : ℕ) → nat_lt n literals ≡ true → lies_before heap stack (literal_address n) ≡ true
  literal_before n e = let lt = ltb-true n literals e in le-leb (literal_address n + 8) heap (omega (arith, fits, lt))

  global_before : (g : ℕ) → nat_lt g globals ≡ true → lies_before heap stack (global_address literals g) ≡ true
  global_before g e = let lt = ltb-true g globals e in le-leb (global_address literals g + 8) heap (omega (arith, fits, lt))

  -- ## Places

  place_apart : (p : Place) (register : ℕ) → is_register register ≡ false → is_place words p ≡ true → is_itself register (place_operand p) ≡ false
  place_apart (Register r) register none e = other r register none e
  place_apart (Slot j) register none e = refl

  loaded_kept : (r : ℕ) (p : Place) → is_neither r ≡ true → is_place words p ≡ true
      → keeps_both heap stack (item.Plain (MovFrom r (place_operand p))) ≡ true
  loaded_kept r p free e =
      let f = and_parts (not (nat_eq r FRAME_REGISTER)) (not (nat_eq r HEAP_REGISTER)) free in
      and_from _ _ (and_from _ _ (or_left _ false f.1) (or_left _ false (ap not (place_apart p HEAP_REGISTER refl e))))
      (and_from _ _ f.0 (ap (λ b. (false || not b) && true) (place_apart p FRAME_REGISTER refl e)))

  stored_kept : (p : Place) (r : ℕ) → is_neither r ≡ true → is_place words p ≡ true
      → keeps_both heap stack (item.Plain (MovTo (place_operand p) r)) ≡ true
  stored_kept p r free e =
      let f = and_parts (not (nat_eq r FRAME_REGISTER)) (not (nat_eq r HEAP_REGISTER)) free in
      and_from _ _ (and_from _ _ (or_left _ (copies_address (MovTo (place_operand p) r)) f.1) (or_left _ false (ap not (place_apart p HEAP_REGISTER refl e))))
      (and_from _ _ f.0 (ap (λ b. (false || not b) && true) (place_apart p FRAME_REGISTER refl e)))

  -- a word of the object whose address the register has
  field_kept : (r k : ℕ) → is_neither r ≡ true → keeps_both heap stack (item.Plain (MovFrom r (Base32 r (pos (4 + 8 * k))))) ≡ true
  field_kept r k free =
      let f = and_parts (not (nat_eq r FRAME_REGISTER)) (not (nat_eq r HEAP_REGISTER)) free in
      and_from _ _ (and_from _ true (or_left _ false f.1) refl) (and_from _ true f.0 refl)

  number_kept : (r : ℕ) (n : ℤ) → is_neither r ≡ true → keeps_both heap stack (item.Plain (MovWord r n)) ≡ true
  number_kept r n free =
      let f = and_parts (not (nat_eq r FRAME_REGISTER)) (not (nat_eq r HEAP_REGISTER)) free in
      and_from _ _ f.1 f.0

  behind_kept : (bytes : ℕ) → is_charge (pos bytes) ≡ true → keeps_both heap stack (item.Plain (AddNumber (Reg HEAP_REGISTER) (pos bytes))) ≡ true
  behind_kept bytes e = and_from _ true e refl

  word_kept : (r a : ℕ) → is_neither r ≡ true → lies_before heap stack a ≡ true → keeps_both heap stack (item.LoadWord r a) ≡ true
  word_kept r a free e =
      let f = and_parts (not (nat_eq r FRAME_REGISTER)) (not (nat_eq r HEAP_REGISTER)) free in
      and_from _ _ f.1 (and_from _ _ f.0 e)

  -- ## Operations

  -- what comes in front of other items is not seen
  abbrev Kept : (List Item → List Item) → Type 0
  Kept f = (rest : List Item) → Reach heap stack (f rest) ≡ Reach heap stack rest

  atom_kept : (r : ℕ) (a : Atom Place) → is_neither r ≡ true
      → atom_selected words globals symbols literals a ≡ true → Kept (atom_code r a)
  atom_kept r (Constant c) free e rest = unseen (item.Plain (MovWord r (constant_number c))) rest (number_kept r (constant_number c) free)
  atom_kept r (Variable p) free e rest = unseen (item.Plain (MovFrom r (place_operand p))) rest (loaded_kept r p free e)
  atom_kept r (Literal n) free e rest = unseen (item.LoadWord r (literal_address n)) rest (word_kept r (literal_address n) free (literal_before n e))

  unary_kept : (n : ℕ) (which : Primitive) → Kept (unary_code n which)
  unary_kept n SymbolLength rest = in_front (lies_before heap stack table_address) (Reach heap stack rest) table_before
  unary_kept n IsBoolean rest = refl
  unary_kept n _ rest = refl

  binary_kept : (n : ℕ) (which : Primitive) → Kept (binary_code n which)
  binary_kept n SymbolRef rest = in_front (lies_before heap stack table_address) (Reach heap stack rest) table_before
  binary_kept n Eq rest = refl
  binary_kept n _ rest = refl

  read_kept : (n : ℕ) (which : Primitive) (atoms : List (Atom Place)) → read_selected words globals symbols literals which atoms ≡ true → Kept (read_code n which atoms)
  read_kept n which [] e rest = refl
  read_kept n which (a ∷ []) e rest =
      let p = and_parts (only_reads which && takes 1 which) (atom_selected words globals symbols literals a) e in
      atom_kept 0 a refl p.1 (unary_code n which rest) ∙ unary_kept n which rest
  read_kept n which (a ∷ (b ∷ [])) e rest =
      let p = and_parts (only_reads which && takes 2 which) (atom_selected words globals symbols literals a && atom_selected words globals symbols literals b) e in
      let q = and_parts (atom_selected words globals symbols literals a) (atom_selected words globals symbols literals b) p.1 in
      atom_kept 0 a refl q.0 (atom_code 1 b (binary_code n which rest)) ∙ atom_kept 1 b refl q.1 (binary_code n which rest) ∙ binary_kept n which rest
  read_kept n which (a ∷ (b ∷ (c ∷ atoms))) e rest = refl

  operand_kept : (n : ℕ) (o : Operand Place) → operand_selected words globals symbols literals o ≡ true → Kept (operand_code n o)
  operand_kept n (operand.Atom a) e rest = atom_kept 0 a refl e rest
  operand_kept n (operand.Read site which atoms) e rest = read_kept n which atoms e rest

  second_kept : (n : ℕ) (o : Operand Place) → operand_selected words globals symbols literals o ≡ true → Kept (second_code n o)
  second_kept n (operand.Atom a) e rest = atom_kept 1 a refl e rest
  second_kept n (operand.Read site which atoms) e rest = read_kept n which atoms e _

  index_kept : (o : Operand Place) → operand_selected words globals symbols literals o ≡ true → Kept (index_operand o)
  index_kept (operand.Atom a) e rest = atom_kept 1 a refl e rest
  index_kept (operand.Read site which atoms) e rest = refl

  source_kept : (r : ℕ) (x : Source Place) → is_neither r ≡ true
      → source_selected words globals symbols literals x ≡ true → Kept (source_code r x)
  source_kept r (source.Atom a) free e rest = atom_kept r a free e rest
  source_kept r (source.Field p k) free e rest =
      let there = Base32 r (pos (4 + 8 * k)) in
      unseen (item.Plain (MovFrom r (place_operand p))) (item.Plain (MovFrom r there) ∷ rest) (loaded_kept r p free (and_parts (is_place words p) (nat_lt k 1000) e).0)
      ∙ unseen (item.Plain (MovFrom r there)) rest (field_kept r k free)

  pair_kept : (n : ℕ) (which : Primitive) → Kept (pair_or_binary heap_end n which)
  pair_kept n Cons rest = refl
  pair_kept n which rest = binary_kept n which rest

  ternary_kept : (which : Primitive) → Kept (ternary_code which)
  ternary_kept StringSet rest = refl
  ternary_kept _ rest = refl

  fields_kept : (offset : ℕ) (sources : List (Source Place)) → list_all (source_selected words globals symbols literals) sources ≡ true → Kept (fields_code offset sources)
  fields_kept offset [] e rest = refl
  fields_kept offset (x ∷ sources) e rest =
      let p = and_parts (source_selected words globals symbols literals x) (list_all (source_selected words globals symbols literals) sources) e in
      source_kept 1 x refl p.0 _ ∙ fields_kept (offset + 8) sources p.1 rest

  record_kept : (offset : ℕ) (c : Closure Place) → closure_selected words globals symbols literals c ≡ true → Kept (record_code offset c)
  record_kept offset c e rest =
      fields_kept (offset + 8) c.fields (and_parts (nat_le (length c.fields) 1000) (list_all (source_selected words globals symbols literals) c.fields) e).1 rest

  -- a member of a group, and the others
  member_selected : (m : Member Place) (members : List (Member Place)) → members_selected words globals symbols literals (m ∷ members) ≡ true
      → (is_place words m.at ≡ true) × ((closure_selected words globals symbols literals m.closure ≡ true) × (members_selected words globals symbols literals members ≡ true))
  member_selected m members e =
      let p = and_parts (is_place words m.at) (closure_selected words globals symbols literals m.closure && members_selected words globals symbols literals members) e in
      (p.0, and_parts (closure_selected words globals symbols literals m.closure) (members_selected words globals symbols literals members) p.1)

  places_kept : (offset : ℕ) (members : List (Member Place)) (spills : List ℕ) → members_selected words globals symbols literals members ≡ true → Kept (places_code offset members spills)
  places_kept offset [] spills e rest = refl
  places_kept offset (m ∷ members) spills e rest =
      let p = member_selected m members e in
      let others = places_code (offset + closure_bytes m.closure) members (spills_behind m.at spills) rest in
      spill_same (Reach heap stack) (λ kind is. refl) m.at spills (item.Plain (MovTo (place_operand m.at) 1) ∷ others)
      ∙ unseen (item.Plain (MovTo (place_operand m.at) 1)) others (stored_kept m.at 1 refl p.0)
      ∙ places_kept (offset + closure_bytes m.closure) members (spills_behind m.at spills) p.1.1 rest

  records_kept : (offset : ℕ) (members : List (Member Place)) → members_selected words globals symbols literals members ≡ true → Kept (records_code offset members)
  records_kept offset [] e rest = refl
  records_kept offset (m ∷ members) e rest =
      let p = member_selected m members e in record_kept offset m.closure p.1.0 _ ∙ records_kept (offset + closure_bytes m.closure) members p.1.1 rest

  group_kept : (members : List (Member Place)) (spills : List ℕ) → members_selected words globals symbols literals members ≡ true → Kept (group_code heap_end members spills)
  group_kept members spills e rest = places_kept 0 members spills e _
      ∙ records_kept 0 members e (item.Plain (AddNumber (Reg HEAP_REGISTER) (pos (group_bytes members))) ∷ rest)
      ∙ unseen (item.Plain (AddNumber (Reg HEAP_REGISTER) (pos (group_bytes members)))) rest
      (behind_kept (group_bytes members) (charged (group_units members) (group_bytes members) (group_charged members)))

  operation_kept : (n : ℕ) (o : Operation Place) → operation_selected words globals symbols literals o ≡ true → Kept (operation_code heap_end literals n o)
  operation_kept n (operation.Operand o) e rest = operand_kept n o e rest
  operation_kept n (operation.Prim site which []) e rest = refl
  operation_kept n (operation.Prim site which (o ∷ [])) e rest =
      let p = and_parts (takes 1 which) (operand_selected words globals symbols literals o) e in
      operand_kept n o p.1 (unary_code (n + 8) which rest) ∙ unary_kept (n + 8) which rest
  operation_kept n (operation.Prim site which (o ∷ (q ∷ []))) e rest =
      let p = and_parts (takes 2 which) (operand_selected words globals symbols literals o && operand_selected words globals symbols literals q) e in
      let both = and_parts (operand_selected words globals symbols literals o) (operand_selected words globals symbols literals q) p.1 in
      operand_kept n o both.0 _ ∙ second_kept (n + 4) q both.1 _ ∙ pair_kept (n + 8) which rest
  operation_kept n (operation.Prim site which (o ∷ (q ∷ (r ∷ [])))) e rest =
      let t = three_selected words globals symbols literals which o q r e in
      operand_kept n r t.1.1 _ ∙ operand_kept (n + 4) o t.0 _ ∙ index_kept q t.1.0 _ ∙ ternary_kept which rest
  operation_kept n (operation.Prim site which (o ∷ (q ∷ (r ∷ (s ∷ operands))))) e rest = refl
  operation_kept n (operation.Global g) e rest = in_front (lies_before heap stack (global_address literals g)) (Reach heap stack rest) (global_before g e)
  operation_kept n (operation.SetGlobal g o) e rest =
      let p = and_parts (nat_lt g globals) (operand_selected words globals symbols literals o) e in
      operand_kept n o p.1 _ ∙ in_front (lies_before heap stack (global_address literals g)) (Reach heap stack rest) (global_before g p.0)
  operation_kept n (operation.Field p k) e rest = source_kept 0 (source.Field p k) refl e rest
  operation_kept n (operation.NewCell x) e rest = source_kept 0 x refl e _
  operation_kept n operation.UnsetCell e rest = refl
  operation_kept n (operation.CellGet x) e rest = source_kept 0 x refl e _
  operation_kept n (operation.CellSet x o) e rest =
      let p = and_parts (source_selected words globals symbols literals x) (operand_selected words globals symbols literals o) e in
      operand_kept n o p.1 _ ∙ source_kept 1 x refl p.0 _
  operation_kept n (operation.MakeClosure c) e rest = record_kept 0 c e _
      ∙ unseen (item.Plain (AddNumber (Reg HEAP_REGISTER) (pos (closure_bytes c)))) rest
      (behind_kept (closure_bytes c) (charged (closure_units c) (closure_bytes c) (closure_charged c)))

  -- ## Bodies

  copy_kept : (to from : Place) → is_place words to ≡ true → is_place words from ≡ true
      → keeps_both heap stack (item.Plain (copy_insn to from)) ≡ true
  copy_kept to (Register r) e f = stored_kept to r (apart r f) e
  copy_kept (Register r) (Slot j) e f = loaded_kept r (Slot j) (apart r e) f
  copy_kept (Slot i) (Slot j) e f = loaded_kept 0 (Slot j) refl f

  instruction_kept : (base out n : ℕ) (i : Instruction) → instruction_selected words globals symbols literals i ≡ true → Kept (instruction_code base out words heap_end literals n i)
  instruction_kept base out n (instruction.Do o) e rest = operation_kept n o e rest
  instruction_kept base out n (instruction.Store p) e rest = unseen (item.Plain (MovTo (place_operand p) 0)) rest (stored_kept p 0 refl e)
  instruction_kept base out n (instruction.Copy to from) e rest =
      let p = and_parts (is_place words to) (is_place words from) (and_parts _ _ e).1 in
      unseen (item.Plain (copy_insn to from)) rest (copy_kept to from p.0 p.1)
  instruction_kept base out n (instruction.Fix members spills) e rest =
      let q = and_parts (nat_eq (length spills) (in_slots members)) (nat_le (length members) max_operands && members_selected words globals symbols literals members) e in
      group_kept members spills (and_parts (nat_le (length members) max_operands) (members_selected words globals symbols literals members) q.1).1 rest
  instruction_kept base out n _ e rest = refl

  body_kept : (base out n : ℕ) (is : List Instruction) → list_all (instruction_selected words globals symbols literals) is ≡ true → Kept (body_code base out words heap_end literals n is)
  body_kept base out n [] e rest = refl
  body_kept base out n (i ∷ is) e rest =
      let p = and_parts (instruction_selected words globals symbols literals i) (list_all (instruction_selected words globals symbols literals) is) e in
      instruction_kept base out n i p.0 (body_code base out words heap_end literals (n + labels_needed i) is rest) ∙ body_kept base out (n + labels_needed i) is p.1 rest

  passed_kept : (o : Option Entry) (out : ℕ) → Kept (passed_code o out)
  passed_kept None out rest = refl
  passed_kept (Some e) out rest = refl

  list_kept : (b : Bool) (required n : ℕ) → Kept (list_code b required n)
  list_kept true required n rest = refl
  list_kept false required n rest = refl

  count_kept : (b : Bool) (formals n : ℕ) → Kept (count_code b formals n)
  count_kept false formals n rest = refl
  count_kept true formals n rest = list_kept (nat_lt (formals - 1) 6) (formals - 1) n rest

  entry_kept : (o : Option Entry) (n : ℕ) → Kept (entry_code o n)
  entry_kept None n rest = refl
  entry_kept (Some e) n rest = count_kept e.rest e.formals n rest

  forms_kept : (label n : ℕ) (cs : List Code) → list_all (form_selected words globals symbols literals) cs ≡ true → Kept (forms_code words heap_end literals label n cs)
  forms_kept label n [] e rest = refl
  forms_kept label n (c ∷ cs) e rest =
      let p = and_parts (form_selected words globals symbols literals c) (list_all (form_selected words globals symbols literals) cs) e in
      let q = and_parts (nat_le (formals_of c.entry) max_operands) (list_all (instruction_selected words globals symbols literals) c.instructions) p.0 in
      passed_kept c.entry (n + c.labels) _ ∙ entry_kept c.entry (n + c.labels + 1) _
      ∙ body_kept n (n + c.labels) (n + c.labels + 2) c.instructions q.1 _ ∙ forms_kept (suc label) (labels_end n c) cs p.1 rest

-- ## The shortest forms

module _ (heap stack : ℕ) where
  keeps_numbers : (i : Insn) → keeps_both heap stack (item.Plain (short_number i)) ≡ keeps_both heap stack (item.Plain i)
  keeps_numbers (AddNumber m n) = refl
  keeps_numbers _ = refl

  keeps_operands : (i : Insn) (b : ℕ) (d : ℤ) → keeps_both heap stack (item.Plain (with_operand (Base8 b d) i)) ≡ keeps_both heap stack (item.Plain (with_operand (Base32 b d) i))
  keeps_operands (MovTo m r) b d = refl
  keeps_operands _ b d = refl

  narrowed_reach : (is : List Item) → Reach heap stack (narrowed is) ≡ Reach heap stack is
  narrowed_reach [] = refl
  narrowed_reach (i ∷ is) =
      ap (λ b. b && Reach heap stack (narrowed is)) (item_same (keeps_both heap stack) keeps_numbers keeps_operands i)
      ∙ ap (λ b. keeps_both heap stack i && b) (narrowed_reach is)

-- ## Programs

-- what is static ends where the heap begins
statics_before : (literals globals symbols library units : ℕ)
    → globals_address literals + 8 * globals ≤ heap_address (literals + (globals + symbols)) library units
statics_before literals globals symbols library units = omega arith

pub program_reach : (p : tree.Source) (limit depth : ℕ) → selects p ≡ true
    → IsTrue (keeps_frames p limit (narrowed (selected_code p limit depth)))
program_reach p limit depth e =
    let globals = length p.statics.globals in
    let symbols = length p.statics.symbols in
    let literals = count_literals p.statics.literals in
    let heap = heap_of p in
    let stack = heap_of p + limit in
    let fits = statics_before literals globals (symbols_count p.statics.symbols) (length p.library) (units_in_each p.statics.literals) in
    let forms = (and_parts (list_all (form_selected p.words globals symbols literals) p.bodies) (list_all (λ c. marks_settled true c.instructions) p.bodies) e).0 in
    let code = forms_code p.words stack literals 0 (own_label p) p.bodies (item.Jump (label_of routine.End) ∷ []) in
    let kept = narrowed_reach heap stack code
    ∙ forms_kept p.words globals symbols literals stack heap stack fits 0 (own_label p) p.bodies forms (item.Jump (label_of routine.End) ∷ []) in
    and_from _ _ (and_from (nat_eq stack stack) (nat_eq heap heap) (eq-eqb stack stack refl) (eq-eqb heap heap refl)) kept
