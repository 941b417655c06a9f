-- The items of a selected program are valid.
use Rattle.std.proofs.Common.{◌≡◌, ℕ, suc, ◌+◌, ◌-◌, ◌*◌, ◌<◌, ◌≤◌, List, [], ◌∷◌, length, Option, Some, None, true}
use Rattle.std.proofs.Common.{false, refl, sym, ◌∙◌, arith, ◌&&◌, ⊎_elim}
use Rattle.std.specs.Prelude.{ℤ, pos, negsuc, ◌≤ℤ◌, ◌*ℤ◌, int_le, not, nat_eq, nat_lt, nat_le}
use Rattle.std.specs.List.{list_all}
use Rattle.std.proofs.lemmas.Bool.{and_parts, and_from, leb-true, ltb-true, lt-ltb, le-leb, ne_eqb, cases_lt}
use Rattle.std.proofs.lemmas.Int.{ints}
use Rattle.sch_select_memory.proofs.heap.Comparisons.{is_at_most}
use Rattle.sch_word.specs.declared.constant.Const.{Const}
use Rattle.sch_word.specs.declared.constant.Const.TheVariants.{Fixnum, Character, Boolean, Nil, Unspecified, Symbol}
use Rattle.sch_word.specs.values.Literals.{constant_known, count_literals}
use Rattle.sch_word.specs.declared.place.Place.{Place}
use Rattle.sch_word.specs.declared.place.Place.TheVariants.{Reg, Slot}
use Rattle.sch_word.specs.declared.primitive.Primitive.{Primitive}
use Rattle.sch_word.specs.declared.primitive.Primitive.TheVariants.{IsBoolean, Eq, Cons, StringSet}
use Rattle.sch_word.specs.values.Values.{is_constant}
use Rattle.sch_word.proofs.values.Fixnums.{is_fixnum_says}
use Rattle.sch_control.specs.declared.operation.Atom.{Atom}
use Rattle.sch_control.specs.declared.operation.Atom.TheVariants.{Constant, Literal, Variable}
use Rattle.sch_control.specs.declared.operation.Operand.{Operand}
use Rattle.sch_control.specs.declared.operation.Operand.TheVariants as operand
use Rattle.sch_control.specs.declared.body.Entry.{Entry}
use Rattle.sch_control.specs.declared.operation.Source.{Source}
use Rattle.sch_control.specs.declared.operation.Source.TheVariants as source
use Rattle.sch_control.specs.declared.operation.Closure.{Closure}
use Rattle.sch_control.specs.declared.operation.Member.{Member}
use Rattle.sch_control.specs.declared.operation.Operation.{Operation}
use Rattle.sch_word.specs.runs.ProgramLayout.{data_address}
use Rattle.sch_insn.specs.declared.insn.Insn.TheVariants.{MovTo, MovNumber, AddNumber}
use Rattle.sch_insn.specs.declared.insn.Arg.TheVariants.{Reg}
use Rattle.sch_control.specs.declared.operation.Operation.TheVariants as operation
use Rattle.sch_frames.specs.declared.instruction.Instruction.{Instruction}
use Rattle.sch_frames.specs.declared.instruction.Instruction.TheVariants.{Do, Store, Copy, Pass, Fix, Call}
use Rattle.sch_frames.specs.declared.instruction.Instruction.TheVariants.{Tail, Return, End, IfFalse, Jump, Label}
use Rattle.sch_frames.specs.declared.instruction.Instruction.TheVariants.{Mark}
use Rattle.sch_frames.specs.Tree.{Code}
use Rattle.sch_frames.specs.Tree as tree
use Rattle.sch_word.specs.trees.Shape.{max_operands}
use Rattle.sch_word.specs.runs.Runs.{max_statics}
use Rattle.sch_word.specs.declared.limits.TheConstants.{MAX_DEPTH}
use Rattle.sch_control.specs.flow.Places.{formals_of}
use Rattle.sch_frames.specs.Valid.{handed_over, in_slots, is_place, is_register, max_words}
use Rattle.sch_asm.specs.declared.item.Item.{Item}
use Rattle.sch_asm.specs.declared.item.Item.TheVariants as item
use Rattle.sch_asm.specs.Items.{AreItems}
use Rattle.sch_select_memory.specs.Encoded.{constant_number}
use Rattle.sch_select.proofs.items.RestItems.{count_valid}
use Rattle.sch_select_operations.specs.OperandCode.{atom_code, unary_code, binary_code, read_code, operand_code, second_code}
use Rattle.sch_select_operations.specs.CellCode.{source_code}
use Rattle.sch_select_operations.specs.ObjectCode.{check_heap, part_code}
use Rattle.sch_select_memory.specs.Addresses.{heap_offset, max_heap_end, part_operand, global_address, place_operand, literal_address}
use Rattle.sch_select_operations.specs.ClosureCode.{fields_code, record_code, closure_bytes, group_bytes, places_code}
use Rattle.sch_select_operations.specs.ClosureCode.{records_code, group_code, spills_behind}
use Rattle.sch_select.proofs.items.AppendedItems.{spill_same}
use Rattle.sch_select_operations.specs.OperationCode.{operation_code}
use Rattle.sch_select.specs.Select.{copy_insn, labels_needed, instruction_code, body_code}
use Rattle.sch_select_operations.specs.PrimitiveCode.{pair_or_binary, ternary_code, index_operand}
use Rattle.sch_select.specs.Program.{passed_code, entry_code, forms_code, labels_end, selected_code, own_label}
use Rattle.sch_select_data.specs.Data.{heap_of}
use Rattle.sch_select.proofs.items.ProgramLabels.{last_code}
use Rattle.sch_select_memory.proofs.Sound.{items_valid, arg_valid, insn_valid, fits_32, fits_64, items_say, in_front, fits_short}
use Rattle.sch_select_operations.proofs.simulation.SelectedPrograms.{atom_selected, read_selected, operand_selected, source_selected}
use Rattle.sch_select_operations.proofs.simulation.SelectedPrograms.{closure_selected, members_selected, operation_selected}
use Rattle.sch_select_operations.proofs.simulation.SelectedPrograms.{three_selected, instruction_selected, form_selected, selects}
use Rattle.sch_select_operations.proofs.simulation.SelectedPrograms.{takes}
use Rattle.sch_select_operations.proofs.simulation.Closures.{group_small}
use Rattle.sch_select_operations.specs.Reach.{max_record_bytes}
use Rattle.sch_frames.specs.Covered.{marks_settled}
use Rattle.sch_control.specs.Valid.{only_reads}

fits_word : (n : ℤ) → negsuc 9223372036854775807 ≤ℤ n → n ≤ℤ pos 9223372036854775807 → fits_64 n ≡ true
fits_word n a b = and_from (int_le (negsuc 9223372036854775807) n) (int_le n (pos 9223372036854775807))
    (is_at_most (negsuc 9223372036854775807) n a) (is_at_most n (pos 9223372036854775807) b)

constant_fits : (symbols : ℕ) (c : Const) → symbols ≤ max_statics → constant_known symbols c ≡ true → is_constant c ≡ true
    → fits_64 (constant_number c) ≡ true
constant_fits symbols (Fixnum n) few k e =
    let h = is_fixnum_says n e in
    let l : negsuc 1152921504606846975 ≤ℤ n = h.low in
    let m : n ≤ℤ pos 1152921504606846975 = h.high in
    fits_word (pos 8 *ℤ n) (omega (arith, ints, l, m)) (omega (arith, ints, l, m))
constant_fits symbols (Character c) few k e = let lt = ltb-true c 256 e in fits_word (pos (256 * c + 46)) (omega (arith, ints))
    (omega (arith, ints, lt))
constant_fits symbols (Boolean true) few k e = refl
constant_fits symbols (Boolean false) few k e = refl
constant_fits symbols Nil few k e = refl
constant_fits symbols Unspecified few k e = refl
constant_fits symbols (Symbol n) few k e = let lt = ltb-true n symbols k in fits_word (pos (8 * n + 5))
    (omega (arith, ints)) (omega (arith, ints, lt, few))

register_small : (r : ℕ) → is_register r ≡ true → nat_lt r 16 ≡ true
register_small r e = ⊎_elim (λ lt. lt-ltb r 16 lt) (λ le. absurd
    (let f = large r le in let bad : true ≡ false = sym e ∙ f in cc)) (cases_lt r 16)
  where
    large : (r : ℕ) → 16 ≤ r → is_register r ≡ false
    large r le = rw (
      other 3 (omega arith),
      other 6 (omega arith),
      other 7 (omega arith),
      other 8 (omega arith),
      other
          9 (omega arith),
      other 10 (omega arith),
      other 14 (omega arith),
      other 15 (omega arith),
    ) refl
      where
        other : (k : ℕ) → k < 16 → nat_eq r k ≡ false
        other k lt = ne_eqb r k (λ e. omega (arith, e, lt, le))

module _ (words globals symbols literals heap_end : ℕ) (narrow : words ≤ max_words) (few : literals + globals ≤ max_statics)
    (named : symbols ≤ max_statics) (near : heap_end ≤ max_heap_end) where
  place_valid : (p : Place) → is_place words p ≡ true → arg_valid (place_operand p) ≡ true
  place_valid (Reg r) e = register_small r e
  place_valid (Slot j) e = let lt = ltb-true j words e in fits_short (8 * j) (omega (arith, lt, narrow))

  global_valid : (g : ℕ) → nat_lt g globals ≡ true → (nat_le data_address (global_address literals g) && nat_le
      (global_address literals g) 0x7FFFFFF8) ≡ true
  global_valid g e = let lt = ltb-true g globals e in and_from (nat_le data_address (global_address literals g))
      (nat_le (global_address literals g) 0x7FFFFFF8) (le-leb data_address (global_address literals g) (omega arith))
      (le-leb (global_address literals g) 0x7FFFFFF8 (omega (arith, lt, few)))

  -- what an item list keeps in front of others
  abbrev Valid : (List Item → List Item) → Type 0
  Valid f = (rest : List Item) → items_valid (f rest) ≡ items_valid rest

  atom_valid : (r : ℕ) (a : Atom Place) → nat_lt r 16 ≡ true → atom_selected words globals symbols literals a ≡ true
      → Valid (atom_code r a)
  atom_valid r (Constant c) low e rest = let p = and_parts (constant_known symbols c) (is_constant c) e in in_front
      (nat_lt r 16 && fits_64 (constant_number c)) (items_valid rest)
      (and_from (nat_lt r 16) (fits_64 (constant_number c)) low (constant_fits symbols c named p.0 p.1))
  atom_valid r (Variable p) low e rest = in_front (arg_valid (place_operand p) && nat_lt r 16) (items_valid rest)
      (and_from (arg_valid (place_operand p)) (nat_lt r 16) (place_valid p e) low)
  atom_valid r (Literal n) low e rest =
      let lt = ltb-true n literals e in
      let there = and_from (nat_le data_address (literal_address n)) (nat_le (literal_address n) 0x7FFFFFF8)
      (le-leb data_address (literal_address n) (omega arith))
      (le-leb (literal_address n) 0x7FFFFFF8 (omega (arith, lt, few))) in
      in_front (nat_lt r 16 && (nat_le data_address (literal_address n) && nat_le (literal_address n) 0x7FFFFFF8))
      (items_valid rest) (and_from (nat_lt r 16) (nat_le data_address (literal_address n) && nat_le (literal_address n)
      0x7FFFFFF8) low there)

  unary_valid : (n : ℕ) (which : Primitive) → Valid (unary_code n which)
  unary_valid n IsBoolean rest = refl
  unary_valid n _ rest = refl

  binary_valid : (n : ℕ) (which : Primitive) → Valid (binary_code n which)
  binary_valid n Eq rest = refl
  binary_valid n _ rest = refl

  read_valid : (n : ℕ) (which : Primitive) (atoms : List (Atom Place))
      → read_selected words globals symbols literals which atoms ≡ true → Valid (read_code n which atoms)
  read_valid n which [] e rest = refl
  read_valid n which (a ∷ []) e rest = let p = and_parts (only_reads which && takes 1 which)
      (atom_selected words globals symbols literals a) e in atom_valid 0 a refl p.1 (unary_code n which rest) ∙ unary_valid n which rest
  read_valid n which (a ∷ (b ∷ [])) e rest =
      let p = and_parts (only_reads which && takes 2 which)
      (atom_selected words globals symbols literals a && atom_selected words globals symbols literals b) e in
      let q = and_parts (atom_selected words globals symbols literals a) (atom_selected words globals symbols literals b) p.1 in
      atom_valid 0 a refl q.0 (atom_code 1 b (binary_code n which rest))
      ∙ atom_valid 1 b refl q.1 (binary_code n which rest) ∙ binary_valid n which rest
  read_valid n which (a ∷ (b ∷ (c ∷ atoms))) e rest = refl

  operand_valid : (n : ℕ) (o : Operand Place) → operand_selected words globals symbols literals o ≡ true → Valid (operand_code n o)
  operand_valid n (operand.Atom a) e rest = atom_valid 0 a refl e rest
  operand_valid n (operand.Read site which atoms) e rest = read_valid n which atoms e rest

  second_valid : (n : ℕ) (o : Operand Place) → operand_selected words globals symbols literals o ≡ true → Valid (second_code n o)
  second_valid n (operand.Atom a) e rest = atom_valid 1 a refl e rest
  second_valid n (operand.Read site which atoms) e rest = read_valid n which atoms e _

  index_valid : (o : Operand Place) → operand_selected words globals symbols literals o ≡ true → Valid (index_operand o)
  index_valid (operand.Atom a) e rest = atom_valid 1 a refl e rest
  index_valid (operand.Read site which atoms) e rest = refl

  source_valid : (r : ℕ) (x : Source Place) → nat_lt r 16 ≡ true → source_selected words globals symbols literals x ≡ true
      → Valid (source_code r x)
  source_valid r (source.Atom a) low e rest = atom_valid r a low e rest
  source_valid r (source.Field p k) low e rest =
      let q = and_parts (is_place words p) (nat_lt k 1000) e in
      let lt = ltb-true k 1000 q.1 in
      in_front (arg_valid (place_operand p) && nat_lt r 16) _
      (and_from (arg_valid (place_operand p)) (nat_lt r 16) (place_valid p q.0) low)
      ∙ in_front ((nat_lt r 16 && fits_32 (pos (4 + 8 * k))) && nat_lt r 16) (items_valid rest)
      (and_from (nat_lt r 16 && fits_32 (pos (4 + 8 * k))) (nat_lt r 16)
      (and_from (nat_lt r 16) (fits_32 (pos (4 + 8 * k))) low (fits_short (4 + 8 * k) (omega (arith, lt)))) low)

  heap_valid : (bytes : ℕ) → Valid (check_heap heap_end bytes)
  heap_valid bytes rest =
      in_front (fits_32 (pos (data_address - bytes))) _ (fits_short (data_address - bytes) (omega arith))
      ∙ in_front (fits_32 (pos (heap_offset heap_end))) _ (fits_short (heap_offset heap_end) (omega (arith, near)))

  pair_valid : (n : ℕ) (which : Primitive) → Valid (pair_or_binary heap_end n which)
  pair_valid n Cons rest = heap_valid 16 (item.Plain (MovTo (part_operand 0) 0) ∷
      (item.Plain (MovTo (part_operand 8) 1) ∷ part_code 1 16 rest))
  pair_valid n which rest = binary_valid n which rest

  ternary_valid : (which : Primitive) → Valid (ternary_code which)
  ternary_valid StringSet rest = refl
  ternary_valid _ rest = refl

  part_valid : (tag bytes : ℕ) → tag < 2147483648 → bytes < 2147483648 → Valid (part_code tag bytes)
  part_valid tag bytes a b rest = in_front (fits_32 (pos tag)) _ (fits_short tag a)
      ∙ in_front (fits_32 (pos bytes)) (items_valid rest) (fits_short bytes b)

  -- a word at an offset of a part is stored
  stored_valid : (offset r : ℕ) → offset < 2147483648 → nat_lt r 16 ≡ true → (rest : List Item)
      → items_valid (item.Plain (MovTo (part_operand offset) r) ∷ rest) ≡ items_valid rest
  stored_valid offset r lt low rest = in_front (fits_32 (pos offset) && nat_lt r 16) (items_valid rest)
      (and_from (fits_32 (pos offset)) (nat_lt r 16) (fits_short offset lt) low)

  fields_valid : (offset : ℕ) (sources : List (Source Place)) → offset + 8 * length sources < 2147483648
      → list_all (source_selected words globals symbols literals) sources ≡ true → Valid (fields_code offset sources)
  fields_valid offset [] lt e rest = refl
  fields_valid offset (x ∷ sources) lt e rest =
      let p = and_parts (source_selected words globals symbols literals x) (list_all (source_selected words globals symbols literals) sources) e in
      source_valid 1 x refl p.0 _ ∙ stored_valid offset 1 (omega (arith, lt)) refl
      (fields_code (offset + 8) sources rest) ∙ fields_valid (offset + 8) sources (omega (arith, lt)) p.1 rest

  closure_fields : (c : Closure Place) → closure_selected words globals symbols literals c ≡ true → (length c.fields ≤ 1000)
      × (list_all (source_selected words globals symbols literals) c.fields ≡ true)
  closure_fields c e = let p = and_parts (nat_le (length c.fields) 1000)
      (list_all (source_selected words globals symbols literals) c.fields) e in (leb-true (length c.fields) 1000 p.0, p.1)

  record_valid : (offset : ℕ) (c : Closure Place) → offset < 1073741824 → closure_selected words globals symbols literals c ≡ true
      → Valid (record_code offset c)
  record_valid offset c lt e rest =
      let f = closure_fields c e in let n = f.0 in
      stored_valid offset 1 (omega (arith, lt)) refl (fields_code (offset + 8) c.fields rest)
      ∙ fields_valid (offset + 8) c.fields (omega (arith, lt, n)) f.1 rest

  closure_small : (c : Closure Place) → closure_selected words globals symbols literals c ≡ true → closure_bytes c ≤ max_record_bytes
  closure_small c e = let n = (closure_fields c e).0 in omega (arith, n)

  places_valid : (offset : ℕ) (members : List (Member Place)) (spills : List ℕ) → offset + max_record_bytes * length members < 1073741824
      → members_selected words globals symbols literals members ≡ true → Valid (places_code offset members spills)
  places_valid offset [] spills lt e rest = refl
  places_valid offset (m ∷ members) spills lt e rest =
      let p = and_parts (is_place words m.at) (closure_selected words globals symbols literals m.closure && members_selected words globals symbols literals members) e in
      let q = and_parts (closure_selected words globals symbols literals m.closure) (members_selected words globals symbols literals members) p.1 in
      let b = closure_small m.closure q.0 in
      in_front (fits_32 (pos (offset + 4))) _ (fits_short (offset + 4) (omega (arith, lt)))
      ∙ spill_same items_valid (λ kind is. refl) m.at spills _
      ∙ in_front (arg_valid (place_operand m.at) && true) _
      (and_from (arg_valid (place_operand m.at)) true (place_valid m.at p.0) refl)
      ∙ places_valid (offset + closure_bytes m.closure) members (spills_behind m.at spills) (omega (arith, lt, b)) q.1 rest

  records_valid : (offset : ℕ) (members : List (Member Place)) → offset + max_record_bytes * length members < 1073741824
      → members_selected words globals symbols literals members ≡ true → Valid (records_code offset members)
  records_valid offset [] lt e rest = refl
  records_valid offset (m ∷ members) lt e rest =
      let p = and_parts (is_place words m.at) (closure_selected words globals symbols literals m.closure && members_selected words globals symbols literals members) e in
      let q = and_parts (closure_selected words globals symbols literals m.closure) (members_selected words globals symbols literals members) p.1 in
      let b = closure_small m.closure q.0 in
      record_valid offset m.closure (omega (arith, lt)) q.0 _
      ∙ records_valid (offset + closure_bytes m.closure) members (omega (arith, lt, b)) q.1 rest

  group_valid : (members : List (Member Place)) (spills : List ℕ) → nat_le (length members) max_operands ≡ true
      → members_selected words globals symbols literals members ≡ true → Valid (group_code heap_end members spills)
  group_valid members spills few e rest =
      let n = leb-true (length members) max_operands few in
      let s = group_small words globals symbols literals members e in
      heap_valid (group_bytes members)
      (places_code 0 members spills (records_code 0 members (item.Plain
      (AddNumber (Reg 12) (pos (group_bytes members))) ∷ rest)))
      ∙ places_valid 0 members spills (omega (arith, n)) e (records_code 0 members
      (item.Plain (AddNumber (Reg 12) (pos (group_bytes members))) ∷ rest))
      ∙ records_valid 0 members (omega (arith, n)) e (item.Plain
      (AddNumber (Reg 12) (pos (group_bytes members))) ∷ rest)
      ∙ in_front (fits_32 (pos (group_bytes members))) (items_valid rest)
      (fits_short (group_bytes members) (omega (arith, n, s)))

  operation_valid : (n : ℕ) (o : Operation Place) → operation_selected words globals symbols literals o ≡ true
      → Valid (operation_code heap_end literals n o)
  operation_valid n (operation.Operand o) e rest = operand_valid n o e rest
  operation_valid n (operation.Prim site which []) e rest = refl
  operation_valid n (operation.Prim site which (o ∷ [])) e rest =
      let p = and_parts (takes 1 which) (operand_selected words globals symbols literals o) e in
      operand_valid n o p.1 (unary_code (n + 8) which rest) ∙ unary_valid (n + 8) which rest
  operation_valid n (operation.Prim site which (o ∷ (q ∷ []))) e rest =
      let p = and_parts (takes 2 which) (operand_selected words globals symbols literals o && operand_selected words globals symbols literals q) e in
      let both = and_parts (operand_selected words globals symbols literals o) (operand_selected words globals symbols literals q) p.1 in
      operand_valid n o both.0 _ ∙ second_valid (n + 4) q both.1 _ ∙ pair_valid (n + 8) which rest
  operation_valid n (operation.Prim site which (o ∷ (q ∷ (r ∷ [])))) e rest =
      let t = three_selected words globals symbols literals which o q r e in
      operand_valid n r t.1.1 _ ∙ operand_valid (n + 4) o t.0 _ ∙ index_valid q t.1.0 _ ∙ ternary_valid which rest
  operation_valid n (operation.Prim site which (o ∷ (q ∷ (r ∷ (s ∷ operands))))) e rest = refl
  operation_valid n (operation.Global g) e rest = in_front
      (nat_le data_address (global_address literals g) && nat_le (global_address literals g) 0x7FFFFFF8) (items_valid rest)
      (global_valid g e)
  operation_valid n (operation.SetGlobal g o) e rest =
      let p = and_parts (nat_lt g globals) (operand_selected words globals symbols literals o) e in
      operand_valid n o p.1 _ ∙ in_front (nat_le data_address (global_address literals g) && nat_le (global_address literals g)
      0x7FFFFFF8) (items_valid rest) (global_valid g p.0)
  operation_valid n (operation.Field p k) e rest = source_valid 0 (source.Field p k) refl e rest
  operation_valid n (operation.NewCell x) e rest = source_valid 0 x refl e _
      ∙ heap_valid 16 (item.Plain (MovTo (part_operand 0) 0) ∷ part_code 7 16 rest)
      ∙ stored_valid 0 0 (omega arith) refl (part_code 7 16 rest) ∙ part_valid 7 16 (omega arith) (omega arith) rest
  operation_valid n operation.UnsetCell e rest = heap_valid 16
      (item.Plain (MovNumber (part_operand 0) (pos 38)) ∷ part_code 7 16 rest)
      ∙ part_valid 7 16 (omega arith) (omega arith) rest
  operation_valid n (operation.CellGet x) e rest = source_valid 0 x refl e _
  operation_valid n (operation.CellSet x o) e rest =
      let p = and_parts (source_selected words globals symbols literals x) (operand_selected words globals symbols literals o) e in
      operand_valid n o p.1 _ ∙ source_valid 1 x refl p.0 _
  operation_valid n (operation.MakeClosure c) e rest =
      let b = closure_small c e in
      heap_valid (closure_bytes c) (record_code 0 c (part_code 4 (closure_bytes c) rest))
      ∙ record_valid 0 c (omega arith) e (part_code 4 (closure_bytes c) rest)
      ∙ part_valid 4 (closure_bytes c) (omega arith) (omega (arith, b)) rest

  copy_valid : (to from : Place) → is_place words to ≡ true → is_place words from ≡ true → insn_valid (copy_insn to from) ≡ true
  copy_valid to (Reg r) e f = and_from (arg_valid (place_operand to)) (nat_lt r 16) (place_valid to e) (register_small r f)
  copy_valid (Reg r) (Slot j) e f = and_from (arg_valid (place_operand (Slot j))) (nat_lt r 16) (place_valid (Slot j) f) (register_small r e)
  copy_valid (Slot i) (Slot j) e f = and_from (arg_valid (place_operand (Slot j))) true (place_valid (Slot j) f) refl

  instruction_valid : (base out n : ℕ) (i : Instruction) → instruction_selected words globals symbols literals i ≡ true
      → Valid (instruction_code base out words heap_end literals n i)
  instruction_valid base out n (Do o) e rest = operation_valid n o e rest
  instruction_valid base out n (Store p) e rest = in_front (arg_valid (place_operand p) && true) (items_valid rest)
      (and_from (arg_valid (place_operand p)) true (place_valid p e) refl)
  instruction_valid base out n (Copy to from) e rest =
      let p = and_parts (is_place words to) (is_place words from) (and_parts _ _ e).1 in
      in_front (insn_valid (copy_insn to from)) (items_valid rest) (copy_valid to from p.0 p.1)
  instruction_valid base out n (Pass k) e rest =
      let lt = ltb-true k words e in
      in_front (arg_valid (place_operand (Slot (words + k))) && true) (items_valid rest)
      (and_from (arg_valid (place_operand (Slot (words + k)))) true
      (fits_short (8 * (words + k)) (omega (arith, lt, narrow))) refl)
  instruction_valid base out n (Call spread count) e rest =
      let p = and_parts (not spread) (nat_le count max_operands && handed_over words count) e in
      let small = leb-true count max_operands (and_parts (nat_le count max_operands) (handed_over words count) p.1).0 in
      let bytes = fits_short (8 * words) (omega (arith, narrow)) in
      in_front (fits_32 (pos (8 * words))) _ bytes ∙ in_front (fits_32 (pos count)) _
      (fits_short count (omega (arith, small))) ∙ in_front (fits_32 (pos (8 * words))) (items_valid rest) bytes
  instruction_valid base out n (Tail spread count) e rest =
      let p = and_parts (not spread) (nat_le count max_operands && handed_over words count) e in
      let small = leb-true count max_operands (and_parts (nat_le count max_operands) (handed_over words count) p.1).0 in
      in_front (fits_32 (pos count)) (items_valid rest) (fits_short count (omega (arith, small)))
  instruction_valid base out n (Fix members spills) e rest =
      let q = and_parts (nat_eq (length spills) (in_slots members)) (nat_le (length members) max_operands && members_selected words globals symbols literals members) e in
      let p = and_parts (nat_le (length members) max_operands) (members_selected words globals symbols literals members) q.1 in
      group_valid members spills p.0 p.1 rest
  instruction_valid base out n Return e rest = refl
  instruction_valid base out n End e rest = refl
  instruction_valid base out n (IfFalse l) e rest = refl
  instruction_valid base out n (Jump l) e rest = refl
  instruction_valid base out n (Label l) e rest = refl
  instruction_valid base out n (Mark m) e rest = refl

  body_valid : (base out n : ℕ) (instructions : List Instruction)
      → list_all (instruction_selected words globals symbols literals) instructions ≡ true
      → Valid (body_code base out words heap_end literals n instructions)
  body_valid base out n [] e rest = refl
  body_valid base out n (i ∷ instructions) e rest =
      let p = and_parts (instruction_selected words globals symbols literals i)
      (list_all (instruction_selected words globals symbols literals) instructions) e in
      instruction_valid base out n i p.0 (body_code base out words heap_end literals (n + labels_needed i)
      instructions rest)
      ∙ body_valid base out (n + labels_needed i) instructions p.1 rest

  passed_valid : (o : Option Entry) (out : ℕ) → Valid (passed_code o out)
  passed_valid None out rest = refl
  passed_valid (Some e) out rest = refl

  entry_valid : (o : Option Entry) (n : ℕ) → nat_le (formals_of o) max_operands ≡ true → Valid (entry_code o n)
  entry_valid None n e rest = refl
  entry_valid (Some q) n e rest = count_valid q.rest q.formals n (leb-true q.formals max_operands e) rest

  forms_valid : (label n : ℕ) (cs : List Code) → list_all (form_selected words globals symbols literals) cs ≡ true
      → Valid (forms_code words heap_end literals label n cs)
  forms_valid label n [] e rest = refl
  forms_valid label n (c ∷ cs) e rest =
      let p = and_parts (form_selected words globals symbols literals c) (list_all (form_selected words globals symbols literals) cs) e in
      let q = and_parts (nat_le (formals_of c.entry) max_operands)
      (list_all (instruction_selected words globals symbols literals) c.instructions) p.0 in
      passed_valid c.entry (n + c.labels) _ ∙ entry_valid c.entry (n + c.labels + 1) q.0 _
      ∙ body_valid n (n + c.labels) (n + c.labels + 2) c.instructions q.1 _
      ∙ forms_valid (suc label) (labels_end n c) cs p.1 rest

pub program_sound : (p : tree.Source) (limit depth : ℕ) → p.words ≤ max_words
    → count_literals p.statics.literals + length p.statics.globals ≤ max_statics → length p.statics.symbols ≤ max_statics
    → heap_of p + limit ≤ max_heap_end → depth ≤ MAX_DEPTH → selects p ≡ true → AreItems (selected_code p limit depth)
program_sound p limit depth narrow few named near deep e =
    let globals = length p.statics.globals in
    let symbols = length p.statics.symbols in
    let literals = count_literals p.statics.literals in
    let parts = and_parts (list_all (form_selected p.words globals symbols literals) p.bodies)
    (list_all (λ c. marks_settled true c.instructions) p.bodies) e in
    let rest = last_code in
    let forms : items_valid (forms_code p.words (heap_of p + limit) literals 0 (own_label p) p.bodies rest) ≡ true =
    forms_valid p.words globals symbols literals (heap_of p + limit) narrow few named near 0 (own_label p) p.bodies
    parts.0 rest in
    let a : fits_64 (pos (heap_of p + limit)) ≡ true = fits_word (pos (heap_of p + limit)) (omega (arith, ints))
    (omega (arith, ints, near)) in
    let b : fits_64 (pos (heap_of p)) ≡ true = fits_word (pos (heap_of p)) (omega (arith, ints))
    (omega (arith, ints, near)) in
    let c : fits_64 (pos depth) ≡ true = fits_word (pos depth) (omega (arith, ints)) (omega (arith, ints, deep)) in
    items_say (selected_code p limit depth)
    (and_from (fits_64 (pos (heap_of p + limit))) _ a (and_from (fits_64 (pos (heap_of p))) _ b
    (and_from (fits_64 (pos depth)) _ c forms)))
