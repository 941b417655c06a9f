-- How long the text of a program is depends neither on where its heap ends nor on the depth: its items and the routines, in their
-- shortest forms, have the same pieces. The end of the heap is a number that no byte has.
use Rattle.std.proofs.Common.{◌≡◌, ℕ, suc, ◌+◌, ◌-◌, ◌≤◌, List, [], ◌∷◌, ◌++◌, Bool, true, false, cond, refl, sym, ap, ◌∙◌, arith}
use Rattle.std.specs.Prelude.{pos, negsuc, int_le, ◌&&◌}
use Rattle.std.proofs.lemmas.Int.{ints}
use Rattle.std.proofs.lemmas.List.{map-append}
use Rattle.sch_word.specs.runs.Charges.{cell_bytes}
use Rattle.sch_word.specs.runs.ProgramLayout.{data_address}
use Rattle.sch_word.specs.values.Registers.{argument_registers}
use Rattle.sch_word.specs.declared.place.Place.{Place}
use Rattle.sch_word.specs.declared.primitive.Primitive.{Primitive}
use Rattle.sch_word.specs.declared.primitive.Primitive.TheVariants.{Cons}
use Rattle.sch_word.specs.declared.stop.Stop.TheVariants.{HeapLimit}
use Rattle.sch_word.specs.values.Literals.{count_literals}
use Rattle.sch_control.specs.declared.operation.Closure.{Closure}
use Rattle.sch_control.specs.declared.operation.Operand.{Operand}
use Rattle.sch_control.specs.declared.operation.Operation.{Operation}
use Rattle.sch_control.specs.declared.operation.Operation.TheVariants.{Prim, NewCell, UnsetCell, MakeClosure}
use Rattle.sch_frames.specs.declared.instruction.Instruction.{Instruction}
use Rattle.sch_frames.specs.declared.instruction.Instruction.TheVariants.{Do, Fix}
use Rattle.sch_frames.specs.Tree.{Code}
use Rattle.sch_frames.specs.Tree as tree
use Rattle.sch_insn.specs.declared.insn.Arg.TheVariants.{Reg}
use Rattle.sch_insn.specs.declared.insn.Insn.{Insn}
use Rattle.sch_insn.specs.declared.insn.Insn.TheVariants.{AddNumber, AddTo, CmpNumber, CmpNumber8, MovNumber, MovTo, Shl, Shr, SubNumber}
use Rattle.sch_asm.specs.declared.item.Item.{Item}
use Rattle.sch_asm.specs.declared.item.Item.TheVariants as item
use Rattle.sch_word.specs.declared.mark.MarkKind.TheVariants.{Enter}
use Rattle.sch_word.specs.declared.registers.TheConstants.{FRAME_REGISTER, HEAP_REGISTER, RAX, RCX, RDX}
use Rattle.sch_asm.specs.declared.routine.Routine.TheVariants as routine
use Rattle.sch_jumps.specs.declared.piece.Piece.{Piece}
use Rattle.sch_jumps.specs.declared.piece.Piece.TheVariants as piece
use Rattle.sch_asm.specs.Narrow.{is_byte, narrow_item, narrow_operand, narrowed}
use Rattle.sch_asm.specs.Pieces.{piece_of, skeleton}
use Rattle.sch_asm.proofs.Skeleton.{same_append}
use Rattle.sch_runtime.specs.Code.{all_routines, routine_items}
use Rattle.sch_asm.specs.Routines.{label_of}
use Rattle.sch_select_memory.specs.Addresses.{body_label, heap_offset, part_operand, put_label, stop_label, string_label, vector_label}
use Rattle.sch_select_memory.specs.Checks.{check_fixnum, round_code}
use Rattle.sch_select_memory.specs.Encoded.{cell_tag, character_shift, fixnum_shift, pair_tag, procedure_tag, unset_word}
use Rattle.sch_select_memory.specs.MakeCode.{check_filling, check_length, check_room, fill_code, make_string_code, make_vector_code}
use Rattle.sch_select_memory.specs.ValueCode.{value_code}
use Rattle.sch_select_memory.specs.PutCode.{put_value_code}
use Rattle.sch_select_memory.specs.RestCode.{check_pairs, first_code, first_slot_code, firsts_code, later_registers, list_label, registers_code, rest_routine, slot_address, slots_code}
use Rattle.sch_select_operations.specs.CellCode.{new_cell_code, source_code, unset_cell_code}
use Rattle.sch_select_operations.specs.ClosureCode.{closure_bytes, closure_code, group_bytes, places_code, record_code, records_code}
use Rattle.sch_select_operations.specs.ObjectCode.{check_heap, part_code}
use Rattle.sch_select_operations.specs.OperandCode.{operand_code, second_code}
use Rattle.sch_select_operations.specs.PrimitiveCode.{pair_or_binary, primitive_code}
use Rattle.sch_select_operations.specs.OperationCode.{operation_code}
use Rattle.sch_select_data.specs.Data.{heap_of}
use Rattle.sch_select.specs.Program.{entry_code, forms_code, labels_end, own_label, passed_code, program_code}
use Rattle.sch_select.specs.Select.{labels_needed, body_code, instruction_code}
use Rattle.sch_select.proofs.items.RestItems.{entry_appends, passed_appends}
use Rattle.sch_select.proofs.items.AppendedItems.{Appends, instruction_appends, operand_appends, second_appends, source_appends, then_appends}

-- ---- pieces of shortest forms

abbrev pieces : List Item → List Piece
pieces is = skeleton (narrowed is)

abbrev bytes_of : Insn → Piece
bytes_of i = piece_of (narrow_item (item.Plain i))

pieces_append : (xs ys : List Item) → pieces (xs ++ ys) ≡ pieces xs ++ pieces ys
pieces_append xs ys = ap skeleton (map-append narrow_item xs ys) ∙ map-append piece_of (narrowed xs) (narrowed ys)

-- what is appended has its own pieces
pieces_behind : (f : List Item → List Item) → Appends f → (rest : List Item) → pieces (f rest) ≡ pieces (f []) ++ pieces rest
pieces_behind f a rest = ap pieces (a rest) ∙ pieces_append (f []) rest

-- what is put before other items, where what is put before is as long and what stands behind too
behind_same : (f g : List Item → List Item) → Appends f → Appends g → (rest more : List Item) → pieces (f []) ≡ pieces (g []) → pieces rest ≡ pieces more → pieces (f rest) ≡ pieces (g more)
behind_same f g a b rest more e h = pieces_behind f a rest ∙ ap (λ p. p ++ pieces rest) e ∙ ap (λ p. pieces (g []) ++ p) h ∙ sym (pieces_behind g b more)

-- the same items before others
after_same : (f : List Item → List Item) → Appends f → (rest more : List Item) → pieces rest ≡ pieces more → pieces (f rest) ≡ pieces (f more)
after_same f a rest more h = behind_same f f a a rest more refl h

-- ---- the end of the heap

no_byte : (n : ℕ) → 128 ≤ n → is_byte (pos n) ≡ false
no_byte n le = by (int_le (negsuc 127) (pos n)) (int_le (pos n) (pos 127)) refl
  where
    by : (s t : Bool) → int_le (pos n) (pos 127) ≡ t → (s && t) ≡ false
    by false t e = refl
    by true false e = refl
    by true true e = absurd (omega (arith, ints))

limit_piece : (n : ℕ) → is_byte (pos n) ≡ false → bytes_of (CmpNumber (Reg RDX) (pos n)) ≡ piece.Bytes 7
limit_piece n e = ap (λ t. piece_of (item.Plain (narrow_operand (cond t (CmpNumber8 (Reg RDX) (pos n)) (CmpNumber (Reg RDX) (pos n)))))) e

-- two ends of the heap
module _ (heap_end other literals : ℕ) (long : is_byte (pos (heap_offset heap_end)) ≡ false) (other_long : is_byte (pos (heap_offset other)) ≡ false) where
  abbrev tested : ℕ → List Item → List Piece
  tested end rest = bytes_of (CmpNumber (Reg RDX) (pos (heap_offset end))) ∷ (piece.Jump 6 (stop_label HeapLimit) ∷ pieces rest)

  test_same : (rest more : List Item) → pieces rest ≡ pieces more → tested heap_end rest ≡ tested other more
  test_same rest more h =
      ap (λ p. p ∷ (piece.Jump 6 (stop_label HeapLimit) ∷ pieces rest)) (limit_piece (heap_offset heap_end) long ∙ sym (limit_piece (heap_offset other) other_long))
      ∙ ap (λ ps. bytes_of (CmpNumber (Reg RDX) (pos (heap_offset other))) ∷ (piece.Jump 6 (stop_label HeapLimit) ∷ ps)) h

  heap_same : (bytes : ℕ) (rest more : List Item) → pieces rest ≡ pieces more → pieces (check_heap heap_end bytes rest) ≡ pieces (check_heap other bytes more)
  heap_same bytes rest more h =
      ap (λ ps. bytes_of (MovTo (Reg RDX) HEAP_REGISTER) ∷ (bytes_of (SubNumber (Reg RDX) (pos (data_address - bytes))) ∷ ps))
      (test_same rest more h)

  room_same : (rest more : List Item) → pieces rest ≡ pieces more → pieces (check_room heap_end rest) ≡ pieces (check_room other more)
  room_same rest more h =
      ap (λ ps. bytes_of (AddTo (Reg RDX) HEAP_REGISTER) ∷ (bytes_of (SubNumber (Reg RDX) (pos data_address)) ∷ ps)) (test_same rest more h)

  pairs_same : (rest more : List Item) → pieces rest ≡ pieces more → pieces (check_pairs heap_end rest) ≡ pieces (check_pairs other more)
  pairs_same rest more h =
      ap (λ ps. bytes_of (MovTo (Reg RDX) RAX) ∷ (bytes_of (Shl (Reg RDX) 4) ∷ (bytes_of (AddTo (Reg RDX) HEAP_REGISTER)
      ∷ (bytes_of (SubNumber (Reg RDX) (pos data_address)) ∷ ps))))
      (test_same rest more h)

  -- ---- operations

  pair_same : (n : ℕ) (which : Primitive) → pieces (pair_or_binary heap_end n which []) ≡ pieces (pair_or_binary other n which [])
  pair_same n Cons =
      let filled = item.Plain (MovTo (part_operand 0) RAX) ∷ (item.Plain (MovTo (part_operand 8) RCX) ∷ part_code pair_tag 16 []) in heap_same 16 filled filled refl
  pair_same n _ = refl

  primitive_same : (n : ℕ) (which : Primitive) (operands : List (Operand Place))
      → pieces (primitive_code heap_end n which operands []) ≡ pieces (primitive_code other n which operands [])
  primitive_same n which [] = refl
  primitive_same n which (a ∷ []) = refl
  primitive_same n which (a ∷ (b ∷ [])) =
      let f : List Item → List Item = λ rest. operand_code n a (second_code (n + 4) b rest) in
      let appends = then_appends (operand_code n a) (second_code (n + 4) b) (operand_appends n a) (second_appends (n + 4) b) in
      after_same f appends (pair_or_binary heap_end (n + 8) which []) (pair_or_binary other (n + 8) which []) (pair_same (n + 8) which)
  primitive_same n which (a ∷ (b ∷ (c ∷ []))) = refl
  primitive_same n which (a ∷ (b ∷ (c ∷ (d ∷ operands)))) = refl

  cell_same : pieces (new_cell_code heap_end []) ≡ pieces (new_cell_code other [])
  cell_same = let filled = item.Plain (MovTo (part_operand 0) RAX) ∷ part_code cell_tag cell_bytes [] in heap_same cell_bytes filled filled refl

  unset_same : pieces (unset_cell_code heap_end []) ≡ pieces (unset_cell_code other [])
  unset_same = let filled = item.Plain (MovNumber (part_operand 0) (pos unset_word)) ∷ part_code cell_tag cell_bytes [] in heap_same cell_bytes filled filled refl

  closure_same : (c : Closure Place) → pieces (closure_code heap_end c []) ≡ pieces (closure_code other c [])
  closure_same c = let filled = record_code 0 c (part_code procedure_tag (closure_bytes c) []) in heap_same (closure_bytes c) filled filled refl

  operation_same : (n : ℕ) (o : Operation Place) → pieces (operation_code heap_end literals n o []) ≡ pieces (operation_code other literals n o [])
  operation_same n (Prim site which operands) = primitive_same n which operands
  operation_same n (NewCell x) = after_same (source_code 0 x) (source_appends 0 x) (new_cell_code heap_end []) (new_cell_code other []) cell_same
  operation_same n UnsetCell = unset_same
  operation_same n (MakeClosure c) = closure_same c
  operation_same n _ = refl

  module _ (base out words : ℕ) where
    instruction_same : (n : ℕ) (i : Instruction)
        → pieces (instruction_code base out words heap_end literals n i []) ≡ pieces (instruction_code base out words other literals n i [])
    instruction_same n (Do o) = operation_same n o
    instruction_same n (Fix members spills) =
        let filled = places_code 0 members spills (records_code 0 members
        (item.Plain (AddNumber (Reg HEAP_REGISTER) (pos (group_bytes members))) ∷ [])) in
        heap_same (group_bytes members) filled filled refl
    instruction_same n _ = refl

    body_same : (n : ℕ) (is : List Instruction) (rest more : List Item) → pieces rest ≡ pieces more
        → pieces (body_code base out words heap_end literals n is rest) ≡ pieces (body_code base out words other literals n is more)
    body_same n [] rest more e = e
    body_same n (i ∷ is) rest more e =
        let later = body_code base out words heap_end literals (n + labels_needed i) is rest in
        let later' = body_code base out words other literals (n + labels_needed i) is more in
        behind_same (instruction_code base out words heap_end literals n i) (instruction_code base out words other literals n i) (instruction_appends base out words heap_end literals n i)
        (instruction_appends base out words other literals n i) later later' (instruction_same n i) (body_same (n + labels_needed i) is rest more e)

  forms_same : (words label n : ℕ) (cs : List Code) (rest more : List Item) → pieces rest ≡ pieces more
      → pieces (forms_code words heap_end literals label n cs rest) ≡ pieces (forms_code words other literals label n cs more)
  forms_same words label n [] rest more e = e
  forms_same words label n (c ∷ cs) rest more e =
      let out = n + c.labels in
      let here = forms_code words heap_end literals (suc label) (labels_end n c) cs rest in
      let there = forms_code words other literals (suc label) (labels_end n c) cs more in
      let own = item.Mark (Enter label) ∷ body_code n out words heap_end literals (out + 2) c.instructions (item.Label out ∷ here) in
      let others = item.Mark (Enter label) ∷ body_code n out words other literals (out + 2) c.instructions (item.Label out ∷ there) in
      let entry = entry_code c.entry (out + 1) in
      let passed = passed_code c.entry out in
      let h = body_same n out words (out + 2) c.instructions (item.Label out ∷ here) (item.Label out ∷ there) (ap (λ ps. piece.Label out ∷ ps) (forms_same words (suc label) (labels_end n c) cs rest more e)) in
      let k = after_same entry (entry_appends c.entry (out + 1)) own others (ap (λ ps. piece.Bytes 0 ∷ ps) h) in
      after_same passed (passed_appends c.entry out) (item.Label (body_label label) ∷ entry own) (item.Label (body_label label) ∷ entry others)
      (ap (λ ps. piece.Label (body_label label) ∷ ps) k)

  -- ---- routines

  firsts_same : (m : ℕ) (rs : List ℕ) (rest more : List Item) → pieces rest ≡ pieces more → pieces (firsts_code heap_end m rs rest) ≡ pieces (firsts_code other m rs more)
  firsts_same m [] rest more h = h
  firsts_same m (r ∷ rs) rest more h =
      let here = firsts_code heap_end (suc m) rs rest in
      let there = firsts_code other (suc m) rs more in
      ap (λ ps. piece.Label (list_label m) ∷ ps) (pairs_same (first_code m r here) (first_code m r there)
      (after_same (first_code m r) (λ rest. refl) here there (firsts_same (suc m) rs rest more h)))

  rests_same : pieces (rest_routine heap_end []) ≡ pieces (rest_routine other [])
  rests_same =
      let filled = first_slot_code (registers_code 1 later_registers (slots_code [])) in
      firsts_same 0 argument_registers (item.Label (list_label 6) ∷ slot_address (check_pairs heap_end filled)) (item.Label (list_label 6) ∷ slot_address (check_pairs other filled))
      (ap (λ ps. piece.Label (list_label 6) ∷ (bytes_of (AddTo (Reg RCX) FRAME_REGISTER) ∷ ps)) (pairs_same filled filled refl))

  -- what a string is filled with, and what stands before its room is looked at
  abbrev string_filled : List Item → List Item
  string_filled rest = item.Plain (MovTo (part_operand 0) RAX) ∷ (item.Plain (Shr (Reg RCX) character_shift) ∷ fill_code (label_of routine.FillBytes) rest)

  abbrev string_front : List Item → List Item
  string_front rest = item.Label string_label ∷ check_filling (item.Plain (MovTo (Reg RDX) RAX) ∷ (item.Plain (Shr (Reg RDX) fixnum_shift) ∷ round_code rest))

  strings_same : pieces (string_front (check_room heap_end (string_filled (rest_routine heap_end [])))) ≡ pieces (string_front (check_room other (string_filled (rest_routine other []))))
  strings_same =
      let here = string_filled (rest_routine heap_end []) in
      let there = string_filled (rest_routine other []) in
      after_same string_front (λ rest. refl) (check_room heap_end here) (check_room other there)
      (room_same here there (after_same string_filled (λ rest. refl) (rest_routine heap_end []) (rest_routine other []) rests_same))

  abbrev vector_filled : List Item → List Item
  vector_filled rest = item.Plain (MovTo (part_operand 0) RAX) ∷ fill_code (label_of routine.FillWords) rest

  abbrev vector_front : List Item → List Item
  vector_front rest = item.Label vector_label ∷ check_fixnum RAX (check_length (item.Plain (MovTo (Reg RDX) RAX) ∷ round_code rest))

  vectors_same : pieces (item.Label vector_label ∷ make_vector_code heap_end (item.Label string_label ∷ make_string_code heap_end (rest_routine heap_end [])))
      ≡ pieces (item.Label vector_label ∷ make_vector_code other (item.Label string_label ∷ make_string_code other (rest_routine other [])))
  vectors_same =
      let strings = item.Label string_label ∷ make_string_code heap_end (rest_routine heap_end []) in
      let others = item.Label string_label ∷ make_string_code other (rest_routine other []) in
      after_same vector_front (λ rest. refl) (check_room heap_end (vector_filled strings)) (check_room other (vector_filled others))
      (room_same (vector_filled strings) (vector_filled others) (after_same vector_filled (λ rest. refl) strings others strings_same))

  values_same : pieces (value_code heap_end) ≡ pieces (value_code other)
  values_same =
      let making = item.Label vector_label ∷ make_vector_code heap_end (item.Label string_label ∷ make_string_code heap_end (rest_routine heap_end [])) in
      let others = item.Label vector_label ∷ make_vector_code other (item.Label string_label ∷ make_string_code other (rest_routine other [])) in
      after_same (λ rest. item.Label put_label ∷ (put_value_code ++ rest)) (λ rest. refl) making others vectors_same

-- three registers are loaded before them
abbrev loaded : List Piece → List Piece
loaded ps = piece.Bytes 10 ∷ (piece.Bytes 10 ∷ (piece.Bytes 10 ∷ ps))

-- the data lie before the heap
heap_behind : (p : tree.Source) (heap : ℕ) → 128 ≤ heap_of p + heap - data_address
heap_behind p heap = omega arith

pub same_pieces : (p : tree.Source) (heap depth : ℕ) → skeleton (program_code p heap depth) ≡ skeleton (program_code p 0 0)
same_pieces p heap depth =
    let here = heap_of p + heap in
    let there = heap_of p + 0 in
    let long = no_byte (here - data_address) (heap_behind p heap) in
    let other_long = no_byte (there - data_address) (heap_behind p 0) in
    let literals = count_literals p.statics.literals in
    ap loaded
    (forms_same here there literals long other_long p.words 0 (own_label p) p.bodies (item.Jump (label_of routine.End) ∷ []) (item.Jump (label_of routine.End) ∷ []) refl)

-- and so is that of the routines
pub same_routines : (p : tree.Source) (heap : ℕ) → skeleton (all_routines (heap_of p + heap)) ≡ skeleton (all_routines (heap_of p))
same_routines p heap =
    let here = heap_of p + heap in
    let there = heap_of p in
    let long = no_byte (here - data_address) (heap_behind p heap) in
    let other_long = no_byte (there - data_address) (omega arith) in
    same_append (narrowed (value_code here)) (narrowed (value_code there)) routine_items routine_items (values_same here there 0 long other_long) refl
