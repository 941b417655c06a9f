-- How long the text of a program is: 64 bytes for each instruction, operand, atom, closure of a group and
-- procedure, 8 for each copy, and what every program has.
use Rattle.std.proofs.Common.{ℕ, suc, ◌+◌, ◌*◌, ◌≤◌, ◌≡◌, List, [], ◌∷◌, length, length-append, Option, Some, None, refl, ap, arith}
use Rattle.std.specs.Prelude.{negsuc, pos}
use Rattle.std.proofs.lemmas.Bool.{leb-true}
use Rattle.sch_word.specs.values.Literals.{count_literals}
use Rattle.sch_word.specs.declared.place.Place.{Place}
use Rattle.sch_word.specs.declared.place.Place.TheVariants.{Reg as Register, Slot}
use Rattle.sch_word.specs.declared.primitive.Primitive.{Primitive}
use Rattle.sch_word.specs.declared.primitive.Primitive.TheVariants.{IsBoolean, Eq, Cons, StringSet}
use Rattle.sch_control.specs.declared.operation.Atom.{Atom}
use Rattle.sch_control.specs.declared.operation.Atom.TheVariants.{Constant, Literal, Variable}
use Rattle.sch_control.specs.declared.operation.Operand.{Operand}
use Rattle.sch_control.specs.declared.operation.Operand.TheVariants as operand
use Rattle.sch_control.specs.declared.body.Entry.{Entry}
use Rattle.sch_control.specs.declared.operation.Source.{Source}
use Rattle.sch_control.specs.declared.operation.Source.TheVariants as source
use Rattle.sch_control.specs.declared.operation.Closure.{Closure}
use Rattle.sch_control.specs.declared.operation.Member.{Member}
use Rattle.sch_control.specs.AtomsAndSites.{operand_atoms, source_atoms, member_atoms}
use Rattle.sch_control.specs.declared.operation.Operation.{Operation}
use Rattle.sch_control.specs.declared.operation.Operation.TheVariants as operation
use Rattle.sch_frames.specs.declared.instruction.Instruction.{Instruction}
use Rattle.sch_frames.specs.declared.instruction.Instruction.TheVariants as instruction
use Rattle.sch_control.specs.Sizes.{operand_size, operands_size, operation_size}
use Rattle.sch_control.specs.RegisterWork.{entry_done}
use Rattle.sch_control.proofs.OperandSizes.{operand_long}
use Rattle.sch_frames.specs.Sizes.{closures_in, codes_copies, codes_size, copies_of, grouped, instruction_copies, instruction_size, instructions_size}
use Rattle.sch_frames.specs.Sizes.{program_copies, program_work}
use Rattle.sch_frames.specs.Tree.{Code}
use Rattle.sch_frames.specs.Tree as tree
use Rattle.sch_insn.specs.declared.insn.Arg.TheVariants.{Reg, Base32}
use Rattle.sch_insn.specs.declared.insn.Insn.TheVariants.{MovTo, MovFrom, MovNumber, MovWord, AddNumber, SubNumber, CmpNumber, JumpTo}
use Rattle.sch_insn.specs.declared.condition.TheConstants.{E}
use Rattle.sch_word.specs.declared.mark.MarkKind.TheVariants.{Enter}
use Rattle.sch_insn.specs.Spelling.{spelling}
use Rattle.sch_insn.proofs.PrefixCode.{spelling_short}
use Rattle.sch_asm.specs.declared.item.Item.{Item}
use Rattle.sch_asm.specs.declared.item.Item.TheVariants as item
use Rattle.sch_asm.specs.Codes.{text_size}
use Rattle.sch_select_memory.specs.Encoded.{constant_number}
use Rattle.sch_select.proofs.items.AppendedItems.{spill_same}
use Rattle.sch_select.proofs.items.RestItems.{count_adds}
use Rattle.sch_select_memory.specs.Addresses.{place_operand, global_address, stop_label, body_label, part_operand}
use Rattle.sch_select_operations.specs.OperandCode.{atom_code, unary_code, binary_code, read_code, operand_code, second_code}
use Rattle.sch_select_operations.specs.PrimitiveCode.{primitive_code, pair_or_binary, ternary_code, index_operand}
use Rattle.sch_select_operations.specs.OperationCode.{operation_code}
use Rattle.sch_select.specs.Select.{copy_insn, labels_needed, instruction_code, body_code}
use Rattle.sch_select_operations.specs.CellCode.{source_code, check_cell, cell_operand}
use Rattle.sch_select_operations.specs.ObjectCode.{check_heap, part_code}
use Rattle.sch_select_operations.specs.ClosureCode.{fields_code, record_code, closure_bytes, group_bytes, places_code}
use Rattle.sch_select_operations.specs.ClosureCode.{records_code, group_code, spills_behind}
use Rattle.sch_select_operations.specs.CallCode.{check_depth, check_operator, enter_code, call_code, tail_code}
use Rattle.sch_select.specs.Program.{passed_code, entry_code, forms_code, labels_end, own_label, selected_code}
use Rattle.sch_select_data.specs.Data.{heap_of}
use Rattle.sch_select.proofs.items.ProgramLabels.{last_code}
use Rattle.sch_word.specs.declared.stop.Stop.TheVariants.{Unset}

-- ## Atoms

pub sources_counts : (sources : List (Source Place)) → length (source_atoms sources) ≡ length sources
sources_counts [] = refl
sources_counts (x ∷ sources) = ap suc (sources_counts sources)

-- an operand has as many atoms as it counts, but for its primitive
operand_counts : (o : Operand Place) → operand_size o ≤ suc (length (operand_atoms o))
operand_counts (operand.Atom a) = omega arith
operand_counts (operand.Read site which atoms) = omega arith

-- ## Operations

unary_adds : (n : ℕ) (which : Primitive) (rest : List Item) → text_size (unary_code n which rest) ≤ 48 + text_size rest
unary_adds n IsBoolean rest = omega arith
unary_adds n _ rest = omega arith

binary_adds : (n : ℕ) (which : Primitive) (rest : List Item)
    → text_size (binary_code n which rest) ≤ 106 + text_size rest
binary_adds n Eq rest = omega arith
binary_adds n _ rest = omega arith

pair_adds : (heap_end n : ℕ) (which : Primitive) (rest : List Item)
    → text_size (pair_or_binary heap_end n which rest) ≤ 106 + text_size rest
pair_adds heap_end n Cons rest = omega arith
pair_adds heap_end n which rest = binary_adds n which rest

ternary_adds : (which : Primitive) (rest : List Item) → text_size (ternary_code which rest) ≤ 106 + text_size rest
ternary_adds StringSet rest = omega arith
ternary_adds _ rest = omega arith

atom_adds : (r : ℕ) (a : Atom Place) (rest : List Item) → text_size (atom_code r a rest) ≤ 15 + text_size rest
atom_adds r (Constant c) rest = let s = spelling_short (MovWord r (constant_number c)) in omega (arith, s)
atom_adds r (Variable p) rest = let s = spelling_short (MovFrom r (place_operand p)) in omega (arith, s)
atom_adds r (Literal n) rest = omega arith

-- Of the bytes for its atoms an operand leaves 21 to its primitive, and 9 more are for the moves of a second one.
read_adds : (n : ℕ) (which : Primitive) (atoms : List (Atom Place)) (rest : List Item)
    → text_size (read_code n which atoms rest) + 30 ≤ 64 * suc (length atoms) + text_size rest
read_adds n which [] rest = omega arith
read_adds n which (a ∷ []) rest = let h = atom_adds 0 a (unary_code n which rest) in let k = unary_adds n which
    rest in omega (arith, h, k)
read_adds n which (a ∷ (b ∷ [])) rest =
    let h = atom_adds 0 a (atom_code 1 b (binary_code n which rest)) in
    let k = atom_adds 1 b (binary_code n which rest) in
    let l = binary_adds n which rest in
    omega (arith, h, k, l)
read_adds n which (a ∷ (b ∷ (c ∷ atoms))) rest = omega arith

operand_adds : (n : ℕ) (o : Operand Place) (rest : List Item)
    → text_size (operand_code n o rest) + 21 ≤ 64 * operand_size o + text_size rest
operand_adds n (operand.Atom a) rest = let h = atom_adds 0 a rest in omega (arith, h)
operand_adds n (operand.Read site which atoms) rest = let h = read_adds n which atoms rest in omega (arith, h)

index_adds : (o : Operand Place) (rest : List Item) → text_size (index_operand o rest) ≤ 15 + text_size rest
index_adds (operand.Atom a) rest = atom_adds 1 a rest
index_adds (operand.Read site which atoms) rest = omega arith

second_adds : (n : ℕ) (o : Operand Place) (rest : List Item)
    → text_size (second_code n o rest) + 21 ≤ 64 * operand_size o + text_size rest
second_adds n (operand.Atom a) rest = let h = atom_adds 1 a rest in omega (arith, h)
second_adds n (operand.Read site which atoms) rest =
    let h = read_adds n which atoms (item.Plain (MovTo (Reg 1) 0) ∷ (item.Plain (MovTo (Reg 0) 11) ∷ rest)) in
    omega (arith, h)

-- Each operand has a unit of its own, and the primitive has one more.
primitive_adds : (heap_end n : ℕ) (which : Primitive) (operands : List (Operand Place)) (rest : List Item)
    → text_size (primitive_code heap_end n which operands rest) ≤ 64 * suc (operands_size operands) + text_size rest
primitive_adds heap_end n which [] rest = omega arith
primitive_adds heap_end n which (o ∷ []) rest = let h = operand_adds n o (unary_code (n + 8) which rest) in
    let k = unary_adds (n + 8) which rest in omega (arith, h, k)
primitive_adds heap_end n which (o ∷ (q ∷ [])) rest =
    let h = operand_adds n o (second_code (n + 4) q (pair_or_binary heap_end (n + 8) which rest)) in
    let k = second_adds (n + 4) q (pair_or_binary heap_end (n + 8) which rest) in
    let l = pair_adds heap_end (n + 8) which rest in
    omega (arith, h, k, l)
primitive_adds heap_end n which (o ∷ (q ∷ (r ∷ []))) rest =
    let last = ternary_code which rest in
    let h = operand_adds n r (item.Plain (MovTo (Reg 11) 0) ∷ operand_code (n + 4) o (index_operand q last)) in
    let k = operand_adds (n + 4) o (index_operand q last) in
    let l = index_adds q last in
    let m = ternary_adds which rest in
    let s = operand_long q in
    omega (arith, h, k, l, m, s)
primitive_adds heap_end n which (o ∷ (q ∷ (r ∷ (s ∷ operands)))) rest = omega arith

source_adds : (r : ℕ) (x : Source Place) (rest : List Item) → text_size (source_code r x rest) ≤ 30 + text_size rest
source_adds r (source.Atom a) rest = let h = atom_adds r a rest in omega (arith, h)
source_adds r (source.Field p k) rest =
    let s = spelling_short (MovFrom r (place_operand p)) in
    let t = spelling_short (MovFrom r (Base32 r (pos (4 + 8 * k)))) in
    omega (arith, s, t)

-- the test of the heap for room, and the ends of what makes a part
heap_adds : (heap_end bytes : ℕ) (rest : List Item) → text_size (check_heap heap_end bytes rest) ≤ 23 + text_size rest
heap_adds heap_end bytes rest = omega arith

part_adds : (tag bytes : ℕ) (rest : List Item) → text_size (part_code tag bytes rest) ≤ 17 + text_size rest
part_adds tag bytes rest = omega arith

fields_add : (offset : ℕ) (sources : List (Source Place)) (rest : List Item)
    → text_size (fields_code offset sources rest) ≤ 45 * length sources + text_size rest
fields_add offset [] rest = omega arith
fields_add offset (x ∷ sources) rest =
    let h = source_adds 1 x (item.Plain (MovTo (part_operand offset) 1) ∷ fields_code (offset + 8) sources rest) in
    let s = spelling_short (MovTo (part_operand offset) 1) in
    let k = fields_add (offset + 8) sources rest in
    omega (arith, h, s, k)

record_adds : (offset : ℕ) (c : Closure Place) (rest : List Item)
    → text_size (record_code offset c rest) ≤ 15 + (45 * length c.fields + text_size rest)
record_adds offset c rest = let h = fields_add (offset + 8) c.fields rest in omega (arith, h)

operation_adds : (heap_end literals n : ℕ) (o : Operation Place) (rest : List Item)
    → text_size (operation_code heap_end literals n o rest) ≤ 64 * suc (operation_size o) + text_size rest
operation_adds heap_end literals n (operation.Operand o) rest = let h = operand_adds n o rest in omega (arith, h)
operation_adds heap_end literals n (operation.Prim site which operands) rest = primitive_adds heap_end n which
    operands rest
operation_adds heap_end literals n (operation.Global g) rest = omega arith
operation_adds heap_end literals n (operation.SetGlobal g o) rest =
    let h = operand_adds n o (item.StoreWord (global_address literals g) 0 ∷ (item.Plain (MovNumber (Reg 0) (pos 30)) ∷ rest)) in
    omega (arith, h)
operation_adds heap_end literals n (operation.Field p k) rest = let h = source_adds 0 (source.Field p k) rest in omega (arith, h)
operation_adds heap_end literals n (operation.NewCell x) rest =
    let stored = item.Plain (MovTo (part_operand 0) 0) ∷ part_code 7 16 rest in
    let h = source_adds 0 x (check_heap heap_end 16 stored) in
    let k = heap_adds heap_end 16 stored in
    let l = part_adds 7 16 rest in
    omega (arith, h, k, l)
operation_adds heap_end literals n operation.UnsetCell rest =
    let k = heap_adds heap_end 16 (item.Plain (MovNumber (part_operand 0) (pos 38)) ∷ part_code 7 16 rest) in
    let l = part_adds 7 16 rest in
    omega (arith, k, l)
operation_adds heap_end literals n (operation.CellGet x) rest =
    let h = source_adds 0 x (check_cell 0 (item.Plain (MovFrom 0 (cell_operand 0)) ∷
    (item.Plain (CmpNumber (Reg 0) (pos 38)) ∷ (item.JumpIf E (stop_label Unset) ∷ rest)))) in
    omega (arith, h)
operation_adds heap_end literals n (operation.CellSet x o) rest =
    let written = check_cell 1 (item.Plain (MovTo (cell_operand 1) 0) ∷
    (item.Plain (MovNumber (Reg 0) (pos 30)) ∷ rest)) in
    let h = operand_adds n o (source_code 1 x written) in
    let k = source_adds 1 x written in
    let c = operand_counts o in
    omega (arith, h, k, c)
operation_adds heap_end literals n (operation.MakeClosure c) rest =
    let last = part_code 4 (closure_bytes c) rest in
    let h = heap_adds heap_end (closure_bytes c) (record_code 0 c last) in
    let k = record_adds 0 c last in
    let l = part_adds 4 (closure_bytes c) rest in
    let m = sources_counts c.fields in
    omega (arith, h, k, l, m)

-- ## Groups

places_add : (offset : ℕ) (members : List (Member Place)) (spills : List ℕ) (rest : List Item)
    → text_size (places_code offset members spills rest) ≤ 25 * length members + text_size rest
places_add offset [] spills rest = omega arith
places_add offset (m ∷ members) spills rest =
    let others = places_code (offset + closure_bytes m.closure) members (spills_behind m.at spills) rest in
    let h = places_add (offset + closure_bytes m.closure) members (spills_behind m.at spills) rest in
    let k = spill_same text_size (λ kind is. omega arith) m.at spills (item.Plain (MovTo (place_operand m.at) 1) ∷ others) in
    let s = spelling_short (MovTo (place_operand m.at) 1) in
    omega (arith, h, k, s)

records_add : (offset : ℕ) (members : List (Member Place)) (rest : List Item)
    → text_size (records_code offset members rest) ≤ 15 * length members +
    (45 * length (member_atoms members) + text_size rest)
records_add offset [] rest = omega arith
records_add offset (m ∷ members) rest =
    let h = record_adds offset m.closure (records_code (offset + closure_bytes m.closure) members rest) in
    let k = records_add (offset + closure_bytes m.closure) members rest in
    let c = sources_counts m.closure.fields in
    let a = length-append (source_atoms m.closure.fields) (member_atoms members) in
    omega (arith, h, k, c, a)

group_adds : (heap_end : ℕ) (members : List (Member Place)) (spills : List ℕ) (rest : List Item)
    → text_size (group_code heap_end members spills rest) ≤ 64 * (suc (length (member_atoms members)) + length members) +
    text_size rest
group_adds heap_end members spills rest =
    let last = item.Plain (AddNumber (Reg 12) (pos (group_bytes members))) ∷ rest in
    let h = heap_adds heap_end (group_bytes members) (places_code 0 members spills (records_code 0 members last)) in
    let k = places_add 0 members spills (records_code 0 members last) in
    let l = records_add 0 members last in
    omega (arith, h, k, l)

-- ## Bodies

enter_adds : (count : ℕ) (rest : List Item) → text_size (enter_code count rest) ≤ 25 + text_size rest
enter_adds count rest =
    let a = spelling_short (MovNumber (Reg 0) (pos count)) in
    let b : length (spelling (MovFrom 1 (Base32 14 (negsuc 3)))) ≡ 7 = refl in
    let c : length (spelling (JumpTo (Reg 1))) ≡ 3 = refl in
    omega (arith, a, b, c)

operator_adds : (rest : List Item) → text_size (check_operator rest) ≤ 23 + text_size rest
operator_adds rest = omega arith

call_adds : (words n count : ℕ) (rest : List Item) → text_size (call_code words n count rest) ≤ 128 + text_size rest
call_adds words n count rest =
    let a = spelling_short (AddNumber (Reg 5) (pos (8 * words))) in
    let b = spelling_short (SubNumber (Reg 5) (pos (8 * words))) in
    let back = item.Label n ∷ (item.Plain (SubNumber (Reg 5) (pos (8 * words))) ∷
    (item.Plain (AddNumber (Reg 13) (pos 1)) ∷ rest)) in
    let c = enter_adds count back in
    let d = operator_adds (check_depth (item.Plain (SubNumber (Reg 13) (pos 1)) ∷
    (item.Plain (AddNumber (Reg 5) (pos (8 * words))) ∷ (item.LoadLabel 15 n ∷ enter_code count back)))) in
    omega (arith, a, b, c, d)

tail_adds : (count : ℕ) (rest : List Item) → text_size (tail_code count rest) ≤ 64 + text_size rest
tail_adds count rest = let a = enter_adds count rest in let b = operator_adds (enter_code count rest) in omega
    (arith, a, b)

-- a `mov` between RAX or another register and a place
store_adds : (p : Place) (r : ℕ) (rest : List Item) → text_size (item.Plain (MovTo (place_operand p) r) ∷ rest) ≤ 8 + text_size rest
store_adds (Register q) r rest = omega arith
store_adds (Slot j) r rest = omega arith

copy_adds : (to from : Place) (rest : List Item) → text_size (item.Plain (copy_insn to from) ∷ rest) ≤ 8 + text_size rest
copy_adds to (Register r) rest = store_adds to r rest
copy_adds (Register r) (Slot j) rest = omega arith
copy_adds (Slot i) (Slot j) rest = omega arith

instruction_adds : (base out words heap_end literals n : ℕ) (i : Instruction) (rest : List Item)
    → text_size (instruction_code base out words heap_end literals n i rest) ≤ 64 * (instruction_size i + grouped (i ∷ [])) +
    (8 * instruction_copies i + text_size rest)
instruction_adds base out words heap_end literals n (instruction.Do o) rest = let h = operation_adds heap_end literals n o rest in omega
    (arith, h)
instruction_adds base out words heap_end literals n (instruction.Store p) rest = let h = store_adds p 0 rest in omega (arith, h)
instruction_adds base out words heap_end literals n (instruction.Copy to from) rest = let h = copy_adds to from rest in omega (arith, h)
instruction_adds base out words heap_end literals n (instruction.Pass k) rest = let h = store_adds (Slot (words + k)) 0 rest in omega (arith, h)
instruction_adds base out words heap_end literals n (instruction.Call spread count) rest = let h = call_adds words n count rest in omega (arith, h)
instruction_adds base out words heap_end literals n (instruction.Tail spread count) rest = let h = tail_adds count rest in omega (arith, h)
instruction_adds base out words heap_end literals n (instruction.Fix members spills) rest = let h = group_adds heap_end members
    spills rest in omega (arith, h)
instruction_adds base out words heap_end literals n instruction.Return rest = let s = spelling_short (JumpTo (Reg 15)) in omega
    (arith, s)
instruction_adds base out words heap_end literals n instruction.End rest = omega arith
instruction_adds base out words heap_end literals n (instruction.IfFalse l) rest = omega arith
instruction_adds base out words heap_end literals n (instruction.Jump l) rest = omega arith
instruction_adds base out words heap_end literals n (instruction.Label l) rest = omega arith
instruction_adds base out words heap_end literals n (instruction.Mark m) rest = omega arith

pub grouped_first : (i : Instruction) (is : List Instruction) → grouped (i ∷ is) ≡ grouped (i ∷ []) + grouped is
grouped_first (instruction.Fix members spills) is = omega arith
grouped_first (instruction.Do o) is = omega arith
grouped_first (instruction.Call spread count) is = omega arith
grouped_first _ is = omega arith

body_adds : (base out words heap_end literals n : ℕ) (is : List Instruction) (rest : List Item)
    → text_size (body_code base out words heap_end literals n is rest) ≤ 64 * (instructions_size is + grouped is) +
    (8 * copies_of is + text_size rest)
body_adds base out words heap_end literals n [] rest = omega arith
body_adds base out words heap_end literals n (i ∷ is) rest =
    let h = instruction_adds base out words heap_end literals n i
    (body_code base out words heap_end literals (n + labels_needed i) is rest) in
    let k = body_adds base out words heap_end literals (n + labels_needed i) is rest in
    let g = grouped_first i is in
    omega (arith, h, k, g)

passed_adds : (o : Option Entry) (out : ℕ) (rest : List Item)
    → text_size (passed_code o out rest) ≤ 5 * entry_done o + text_size rest
passed_adds None out rest = omega arith
passed_adds (Some e) out rest = omega arith

entry_adds : (o : Option Entry) (n : ℕ) (rest : List Item)
    → text_size (entry_code o n rest) ≤ 58 * entry_done o + text_size rest
entry_adds None n rest = omega arith
entry_adds (Some e) n rest = let h = count_adds e.rest e.formals n rest in omega (arith, h)

forms_adds : (words heap_end literals label n : ℕ) (cs : List Code) (rest : List Item)
    → text_size (forms_code words heap_end literals label n cs rest) ≤ 64 * (codes_size cs + closures_in cs) + (8 * codes_copies cs + text_size rest)
forms_adds words heap_end literals label n [] rest = omega arith
forms_adds words heap_end literals label n (c ∷ cs) rest =
    let others = forms_code words heap_end literals (suc label) (labels_end n c) cs rest in
    let body = body_code n (n + c.labels) words heap_end literals (n + c.labels + 2) c.instructions
    (item.Label (n + c.labels) ∷ others) in
    let g = passed_adds c.entry (n + c.labels) (item.Label (body_label label) ∷ entry_code c.entry (n + c.labels + 1)
    (item.Mark (Enter label) ∷ body)) in
    let f = entry_adds c.entry (n + c.labels + 1) (item.Mark (Enter label) ∷ body) in
    let h = body_adds n (n + c.labels) words heap_end literals (n + c.labels + 2) c.instructions
    (item.Label (n + c.labels) ∷ others) in
    let k = forms_adds words heap_end literals (suc label) (labels_end n c) cs rest in
    omega (arith, f, g, h, k)

-- ## Programs

last_small : text_size last_code ≤ 5
last_small = leb-true (text_size last_code) 5 refl

pub text_small : (p : tree.Source) (heap depth : ℕ)
    → text_size (selected_code p heap depth) ≤ 64 + (64 * program_work p + 8 * program_copies p)
text_small p heap depth =
    let a = spelling_short (MovWord 5 (pos (heap_of p + heap))) in
    let b = spelling_short (MovWord 12 (pos (heap_of p))) in
    let c = spelling_short (MovWord 13 (pos depth)) in
    let h = forms_adds p.words (heap_of p + heap) (count_literals p.statics.literals) 0 (own_label p) p.bodies
    last_code in
    let k = last_small in
    omega (arith, a, b, c, h, k)
