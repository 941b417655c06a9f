-- How many instructions the items of a program have at least: one for each three units of what there is to do in it, its
-- copies and its bodies. Beside its own size each instruction of a body has room for one unit more, and so a body
-- has room for itself.
use Rattle.std.proofs.Common.{◌≡◌, ℕ, suc, ◌+◌, ◌*◌, ◌≤◌, List, [], ◌∷◌, length, length-append, Bool, true, false, cond, Option, Some, None, refl, arith, ◌&&◌}
use Rattle.std.specs.Prelude.{not, nat_le, nat_lt, pos}
use Rattle.std.specs.List.{list_all}
use Rattle.std.proofs.lemmas.Bool.{and_parts, false≢true}
use Rattle.sch_word.specs.values.Literals.{count_literals}
use Rattle.sch_word.specs.declared.place.Place.{Place}
use Rattle.sch_word.specs.declared.primitive.Primitive.{Primitive}
use Rattle.sch_word.specs.declared.primitive.Primitive.TheVariants.{Eq, IsBoolean, IsPair, IsNull, IsSymbol, IsInteger}
use Rattle.sch_word.specs.declared.primitive.Primitive.TheVariants.{IsChar, IsString, IsVector, IsProcedure}
use Rattle.sch_word.specs.declared.primitive.Primitive.TheVariants.{Cons, StringSet}
use Rattle.sch_word.specs.declared.stop.Stop.TheVariants.{Unset}
use Rattle.sch_word.specs.trees.Shape.{max_operands}
use Rattle.sch_control.specs.declared.body.Entry.{Entry}
use Rattle.sch_control.specs.declared.operation.Atom.{Atom}
use Rattle.sch_control.specs.declared.operation.Atom.TheVariants.{Constant, Literal, Variable}
use Rattle.sch_control.specs.declared.operation.Operand.{Operand}
use Rattle.sch_control.specs.declared.operation.Operand.TheVariants as operand
use Rattle.sch_control.specs.declared.operation.Source.{Source}
use Rattle.sch_control.specs.declared.operation.Source.TheVariants as source
use Rattle.sch_control.specs.declared.operation.Member.{Member}
use Rattle.sch_control.specs.declared.operation.Operation.{Operation}
use Rattle.sch_control.specs.declared.operation.Operation.TheVariants as operation
use Rattle.sch_control.specs.AtomsAndSites.{source_atoms, member_atoms}
use Rattle.sch_control.specs.Sizes.{operand_size, operands_size, operation_size}
use Rattle.sch_control.specs.Valid.{only_reads}
use Rattle.sch_frames.specs.declared.instruction.Instruction.{Instruction}
use Rattle.sch_frames.specs.declared.instruction.Instruction.TheVariants as instruction
use Rattle.sch_frames.specs.Covered.{marks_settled}
use Rattle.sch_control.specs.RegisterWork.{entry_done}
use Rattle.sch_frames.specs.Sizes.{closures_in, codes_copies, codes_size, copies_of, grouped, instructions_size}
use Rattle.sch_frames.specs.Tree.{Code}
use Rattle.sch_frames.specs.Tree as tree
use Rattle.sch_control.specs.flow.Places.{formals_of}
use Rattle.sch_control.proofs.OperandSizes.{atoms_within}
use Rattle.sch_insn.specs.declared.condition.TheConstants.{E}
use Rattle.sch_insn.specs.declared.insn.Arg.TheVariants.{Reg}
use Rattle.sch_insn.specs.declared.insn.Insn.TheVariants.{AddNumber, CmpNumber, MovFrom, MovNumber, MovTo}
use Rattle.sch_asm.specs.declared.item.Item.{Item}
use Rattle.sch_asm.specs.declared.item.Item.TheVariants as item
use Rattle.sch_word.specs.declared.mark.MarkKind.TheVariants.{Enter}
use Rattle.sch_word.proofs.facts.Booleans.{one_or_none}
use Rattle.sch_select.proofs.items.AppendedItems.{spill_same}
use Rattle.sch_select.proofs.items.RestItems.{count_keeps}
use Rattle.sch_select_memory.specs.Addresses.{place_operand, global_address, stop_label, body_label, part_operand}
use Rattle.sch_select_operations.specs.OperandCode.{atom_code, unary_code, binary_code, read_code, operand_code, second_code}
use Rattle.sch_select_operations.specs.PrimitiveCode.{pair_or_binary, ternary_code, index_operand, primitive_code}
use Rattle.sch_select_operations.specs.OperationCode.{operation_code}
use Rattle.sch_select.specs.Select.{labels_needed, instruction_code, body_code}
use Rattle.sch_select_operations.specs.CellCode.{source_code, check_cell, cell_operand}
use Rattle.sch_select_operations.specs.ObjectCode.{check_heap, part_code}
use Rattle.sch_select_operations.specs.ClosureCode.{fields_code, closure_bytes, group_bytes, places_code, records_code}
use Rattle.sch_select_operations.specs.ClosureCode.{group_code, spills_behind}
use Rattle.sch_select.specs.Program.{passed_code, entry_code, forms_code, labels_end, own_label, selected_code}
use Rattle.sch_select_data.specs.Data.{heap_of}
use Rattle.sch_asm.specs.Codes.{instructions_in}
use Rattle.sch_select.specs.Sizes.{steps_size}
use Rattle.sch_select.proofs.items.ProgramLabels.{last_code}
use Rattle.sch_select.proofs.items.TextSize.{sources_counts}
use Rattle.sch_select_operations.proofs.simulation.SelectedPrograms.{atom_selected, read_selected, operand_selected}
use Rattle.sch_select_operations.proofs.simulation.SelectedPrograms.{primitive_selected, operation_selected, source_selected}
use Rattle.sch_select_operations.proofs.simulation.SelectedPrograms.{instruction_selected, three_selected, form_selected, selects}
use Rattle.sch_select_operations.proofs.simulation.SelectedPrograms.{takes}

-- ## Atoms and primitives

unary_keeps : (n : ℕ) (which : Primitive) (rest : List Item)
    → instructions_in rest ≤ instructions_in (unary_code n which rest)
unary_keeps n IsBoolean rest = omega arith
unary_keeps n _ rest = omega arith

-- a primitive that an operand may be, of one operand, has an instruction of its own
unary_adds : (n : ℕ) (which : Primitive) → (only_reads which && takes 1 which) ≡ true → (rest : List Item)
    → suc (instructions_in rest) ≤ instructions_in (unary_code n which rest)
unary_adds n IsBoolean e rest = omega arith
unary_adds n IsPair e rest = omega arith
unary_adds n IsNull e rest = omega arith
unary_adds n IsSymbol e rest = omega arith
unary_adds n IsInteger e rest = omega arith
unary_adds n IsChar e rest = omega arith
unary_adds n IsString e rest = omega arith
unary_adds n IsVector e rest = omega arith
unary_adds n IsProcedure e rest = omega arith
unary_adds n _ e rest = absurd (false≢true e)

binary_keeps : (n : ℕ) (which : Primitive) (rest : List Item)
    → instructions_in rest ≤ instructions_in (binary_code n which rest)
binary_keeps n Eq rest = omega arith
binary_keeps n _ rest = omega arith

pair_keeps : (heap_end n : ℕ) (which : Primitive) (rest : List Item)
    → instructions_in rest ≤ instructions_in (pair_or_binary heap_end n which rest)
pair_keeps heap_end n Cons rest = omega arith
pair_keeps heap_end n which rest = binary_keeps n which rest

ternary_keeps : (which : Primitive) (rest : List Item)
    → instructions_in rest ≤ instructions_in (ternary_code which rest)
ternary_keeps StringSet rest = omega arith
ternary_keeps _ rest = omega arith

atom_keeps : (r : ℕ) (a : Atom Place) (rest : List Item) → instructions_in rest ≤ instructions_in (atom_code r a rest)
atom_keeps r (Constant c) rest = omega arith
atom_keeps r (Variable p) rest = omega arith
atom_keeps r (Literal n) rest = omega arith

source_keeps : (r : ℕ) (x : Source Place) (rest : List Item)
    → instructions_in rest ≤ instructions_in (source_code r x rest)
source_keeps r (source.Atom a) rest = atom_keeps r a rest
source_keeps r (source.Field p k) rest = omega arith

fields_add : (offset : ℕ) (sources : List (Source Place)) (rest : List Item)
    → length sources + instructions_in rest ≤ instructions_in (fields_code offset sources rest)
fields_add offset [] rest = omega arith
fields_add offset (x ∷ sources) rest =
    let h = source_keeps 1 x (item.Plain (MovTo (part_operand offset) 1) ∷ fields_code (offset + 8) sources rest) in
    let k = fields_add (offset + 8) sources rest in
    omega (arith, h, k)

-- ## Groups

places_keep : (offset : ℕ) (members : List (Member Place)) (spills : List ℕ) (rest : List Item)
    → length members + instructions_in rest ≤ instructions_in (places_code offset members spills rest)
places_keep offset [] spills rest = omega arith
places_keep offset (m ∷ members) spills rest =
    let others = places_code (offset + closure_bytes m.closure) members (spills_behind m.at spills) rest in
    let h = places_keep (offset + closure_bytes m.closure) members (spills_behind m.at spills) rest in
    let k = spill_same instructions_in (λ kind is. refl) m.at spills (item.Plain (MovTo (place_operand m.at) 1) ∷ others) in
    omega (arith, h, k)

records_add : (offset : ℕ) (members : List (Member Place)) (rest : List Item)
    → length (member_atoms members) + instructions_in rest ≤ instructions_in (records_code offset members rest)
records_add offset [] rest = omega arith
records_add offset (m ∷ members) rest =
    let others = records_code (offset + closure_bytes m.closure) members rest in
    let h = fields_add (offset + 8) m.closure.fields others in
    let k = records_add (offset + closure_bytes m.closure) members rest in
    let c = sources_counts m.closure.fields in
    let a = length-append (source_atoms m.closure.fields) (member_atoms members) in
    omega (arith, h, k, c, a)

group_adds : (heap_end : ℕ) (members : List (Member Place)) (spills : List ℕ) (rest : List Item)
    → 2 + (length (member_atoms members) + length members) + instructions_in rest ≤ instructions_in (group_code heap_end members spills rest)
group_adds heap_end members spills rest =
    let last = item.Plain (AddNumber (Reg 12) (pos (group_bytes members))) ∷ rest in
    let k = places_keep 0 members spills (records_code 0 members last) in
    let l = records_add 0 members last in
    omega (arith, k, l)

module _ (words globals symbols literals : ℕ) where
  atom_adds : (r : ℕ) (a : Atom Place) → atom_selected words globals symbols literals a ≡ true → (rest : List Item)
      → instructions_in (atom_code r a rest) ≡ suc (instructions_in rest)
  atom_adds r (Constant c) e rest = refl
  atom_adds r (Variable p) e rest = refl
  atom_adds r (Literal n) e rest = refl

  -- ## Operands: each has room for two units more

  read_adds : (n : ℕ) (which : Primitive) (atoms : List (Atom Place)) → read_selected words globals symbols literals which atoms ≡ true
      → (rest : List Item)
      → 2 + suc (length atoms) + 3 * instructions_in rest ≤ 3 * instructions_in (read_code n which atoms rest)
  read_adds n which [] e rest = absurd (false≢true e)
  read_adds n which (a ∷ []) e rest =
      let p = and_parts (only_reads which && takes 1 which) (atom_selected words globals symbols literals a) e in
      let h = atom_adds 0 a p.1 (unary_code n which rest) in
      let k = unary_adds n which p.0 rest in
      omega (arith, h, k)
  read_adds n which (a ∷ (b ∷ [])) e rest =
      let p = and_parts (only_reads which && takes 2 which)
      (atom_selected words globals symbols literals a && atom_selected words globals symbols literals b) e in
      let q = and_parts (atom_selected words globals symbols literals a) (atom_selected words globals symbols literals b) p.1 in
      let h = atom_adds 0 a q.0 (atom_code 1 b (binary_code n which rest)) in
      let k = atom_adds 1 b q.1 (binary_code n which rest) in
      let l = binary_keeps n which rest in
      omega (arith, h, k, l)
  read_adds n which (a ∷ (b ∷ (c ∷ atoms))) e rest = absurd (false≢true e)

  operand_adds : (n : ℕ) (o : Operand Place) → operand_selected words globals symbols literals o ≡ true → (rest : List Item)
      → 2 + operand_size o + 3 * instructions_in rest ≤ 3 * instructions_in (operand_code n o rest)
  operand_adds n (operand.Atom a) e rest = let h = atom_adds 0 a e rest in omega (arith, h)
  operand_adds n (operand.Read site which atoms) e rest = read_adds n which atoms e rest

  second_adds : (n : ℕ) (o : Operand Place) → operand_selected words globals symbols literals o ≡ true → (rest : List Item)
      → 2 + operand_size o + 3 * instructions_in rest ≤ 3 * instructions_in (second_code n o rest)
  second_adds n (operand.Atom a) e rest = let h = atom_adds 1 a e rest in omega (arith, h)
  second_adds n (operand.Read site which atoms) e rest =
      let h = read_adds n which atoms e (item.Plain (MovTo (Reg 1) 0) ∷ (item.Plain (MovTo (Reg 0) 11) ∷ rest)) in
      omega (arith, h)

  -- An index has room for a unit more. Where a primitive reads it, there is a jump in place of its items.
  index_adds : (o : Operand Place) → operand_selected words globals symbols literals o ≡ true → (rest : List Item)
      → operand_size o + 3 * instructions_in rest ≤ 3 * instructions_in (index_operand o rest)
  index_adds (operand.Atom a) e rest = let h = atom_adds 1 a e rest in omega (arith, h)
  index_adds (operand.Read site which []) e rest = absurd (false≢true e)
  index_adds (operand.Read site which (a ∷ [])) e rest = omega arith
  index_adds (operand.Read site which (a ∷ (b ∷ []))) e rest = omega arith
  index_adds (operand.Read site which (a ∷ (b ∷ (c ∷ atoms)))) e rest = absurd (false≢true e)

  -- ## Operations

  primitive_adds : (heap_end n : ℕ) (which : Primitive) (operands : List (Operand Place))
      → primitive_selected words globals symbols literals which operands ≡ true → (rest : List Item)
      → 2 + operands_size operands + 3 * instructions_in rest
      ≤ 3 * instructions_in (primitive_code heap_end n which operands rest)
  primitive_adds heap_end n which [] e rest = absurd (false≢true e)
  primitive_adds heap_end n which (o ∷ []) e rest =
      let p = and_parts (takes 1 which) (operand_selected words globals symbols literals o) e in
      let h = operand_adds n o p.1 (unary_code (n + 8) which rest) in
      let k = unary_keeps (n + 8) which rest in
      omega (arith, h, k)
  primitive_adds heap_end n which (o ∷ (q ∷ [])) e rest =
      let p = and_parts (takes 2 which) (operand_selected words globals symbols literals o && operand_selected words
      globals symbols literals q) e in
      let both = and_parts (operand_selected words globals symbols literals o)
      (operand_selected words globals symbols literals q) p.1 in
      let h = operand_adds n o both.0 (second_code (n + 4) q (pair_or_binary heap_end (n + 8) which rest)) in
      let k = second_adds (n + 4) q both.1 (pair_or_binary heap_end (n + 8) which rest) in
      let l = pair_keeps heap_end (n + 8) which rest in
      omega (arith, h, k, l)
  primitive_adds heap_end n which (o ∷ (q ∷ (r ∷ []))) e rest =
      let t = three_selected words globals symbols literals which o q r e in
      let last = ternary_code which rest in
      let h = operand_adds n r t.1.1 (item.Plain (MovTo (Reg 11) 0) ∷ operand_code (n + 4) o (index_operand q last)) in
      let k = operand_adds (n + 4) o t.0 (index_operand q last) in
      let l = index_adds q t.1.0 last in
      let m = ternary_keeps which rest in
      omega (arith, h, k, l, m)
  primitive_adds heap_end n which (o ∷ (q ∷ (r ∷ (s ∷ operands)))) e rest = absurd (false≢true e)

  operation_adds : (heap_end n : ℕ) (o : Operation Place) → operation_selected words globals symbols literals o ≡ true → (rest : List Item)
      → 2 + operation_size o + 3 * instructions_in rest ≤ 3 * instructions_in (operation_code heap_end literals n o rest)
  operation_adds heap_end n (operation.Operand o) e rest = operand_adds n o e rest
  operation_adds heap_end n (operation.Prim site which operands) e rest = primitive_adds heap_end n which
      operands e rest
  operation_adds heap_end n (operation.Global g) e rest = omega arith
  operation_adds heap_end n (operation.SetGlobal g o) e rest =
      let p = and_parts (nat_lt g globals) (operand_selected words globals symbols literals o) e in
      let h = operand_adds n o p.1 (item.StoreWord (global_address literals g) 0 ∷ (item.Plain (MovNumber (Reg 0) (pos 30)) ∷ rest)) in
      omega (arith, h)
  operation_adds heap_end n (operation.Field p k) e rest = omega arith
  operation_adds heap_end n (operation.NewCell x) e rest =
      let h = source_keeps 0 x (check_heap heap_end 16 (item.Plain (MovTo (part_operand 0) 0) ∷ part_code 7 16 rest)) in
      omega (arith, h)
  operation_adds heap_end n operation.UnsetCell e rest = omega arith
  operation_adds heap_end n (operation.CellGet x) e rest =
      let h = source_keeps 0 x (check_cell 0 (item.Plain (MovFrom 0 (cell_operand 0)) ∷
      (item.Plain (CmpNumber (Reg 0) (pos 38)) ∷ (item.JumpIf E (stop_label Unset) ∷ rest)))) in
      omega (arith, h)
  operation_adds heap_end n (operation.CellSet x o) e rest =
      let p = and_parts (source_selected words globals symbols literals x) (operand_selected words globals symbols literals o) e in
      let written = check_cell 1 (item.Plain (MovTo (cell_operand 1) 0) ∷
      (item.Plain (MovNumber (Reg 0) (pos 30)) ∷ rest)) in
      let h = operand_adds n o p.1 (source_code 1 x written) in
      let k = source_keeps 1 x written in
      let c = atoms_within o in
      omega (arith, h, k, c)
  operation_adds heap_end n (operation.MakeClosure c) e rest =
      let k = fields_add 8 c.fields (part_code 4 (closure_bytes c) rest) in
      let m = sources_counts c.fields in
      omega (arith, k, m)

  -- ## Bodies: where a mark waits there is room for one unit more

  none_waits : (b : Bool) → not b ≡ true → cond b 1 0 ≤ 0
  none_waits true e = absurd (false≢true e)
  none_waits false e = omega arith

  body_adds : (base out heap_end n : ℕ) (is : List Instruction) (b : Bool)
      → list_all (instruction_selected words globals symbols literals) is ≡ true → marks_settled b is ≡ true → (rest : List Item)
      → cond b 1 0 + (instructions_size is + grouped is + copies_of is) + 3 * instructions_in rest
      ≤ 3 * instructions_in (body_code base out words heap_end literals n is rest)
  body_adds base out heap_end n [] b e m rest = let z = none_waits b m in omega (arith, z)
  body_adds base out heap_end n (i ∷ is) b e m rest =
      let p = and_parts (instruction_selected words globals symbols literals i) (list_all (instruction_selected words globals symbols literals) is) e in
      by i p.0 m (λ b m. body_adds base out heap_end (n + labels_needed i) is b p.1 m rest)
    where
      next : List Item
      next = body_code base out words heap_end literals (n + labels_needed i) is rest

      by : (i : Instruction) → instruction_selected words globals symbols literals i ≡ true → marks_settled b (i ∷ is) ≡ true
          → ((b : Bool) → marks_settled b is ≡ true
          → cond b 1 0 + (instructions_size is + grouped is + copies_of is) + 3 * instructions_in rest ≤ 3 * instructions_in next)
          → cond b 1 0 + (instructions_size (i ∷ is) + grouped (i ∷ is) + copies_of (i ∷ is)) + 3 * instructions_in rest
          ≤ 3 * instructions_in (instruction_code base out words heap_end literals n i next)
      by (instruction.Do o) e m rec = let w = one_or_none b in let h = operation_adds heap_end n o e next in
          let k = rec false m in omega (arith, w, h, k)
      by (instruction.Store q) e m rec = let w = one_or_none b in let k = rec false m in omega (arith, w, k)
      by (instruction.Copy to from) e m rec = let w = one_or_none b in let k = rec false m in omega (arith, w, k)
      by (instruction.Pass j) e m rec = let w = one_or_none b in let k = rec false m in omega (arith, w, k)
      by (instruction.Fix members spills) e m rec =
          let w = one_or_none b in
          let h = group_adds heap_end members spills next in
          let k = rec false m in
          omega (arith, w, h, k)
      by (instruction.Call spread count) e m rec = let w = one_or_none b in let k = rec false m in omega (arith, w, k)
      by (instruction.Tail spread count) e m rec = let w = one_or_none b in let k = rec false m in omega (arith, w, k)
      by instruction.Return e m rec = let w = one_or_none b in let k = rec false m in omega (arith, w, k)
      by instruction.End e m rec = let w = one_or_none b in let k = rec false m in omega (arith, w, k)
      by (instruction.IfFalse l) e m rec = let w = one_or_none b in let k = rec false m in omega (arith, w, k)
      by (instruction.Jump l) e m rec = let w = one_or_none b in let k = rec false m in omega (arith, w, k)
      by (instruction.Label l) e m rec =
          let q = and_parts (not b) (marks_settled false is) m in
          let z = none_waits b q.0 in
          let k = rec false q.1 in
          omega (arith, z, k)
      by (instruction.Mark j) e m rec = let w = one_or_none b in let k = rec true m in omega (arith, w, k)

  passed_adds : (o : Option Entry) (out : ℕ) (rest : List Item)
      → entry_done o + instructions_in rest ≤ instructions_in (passed_code o out rest)
  passed_adds None out rest = omega arith
  passed_adds (Some e) out rest = omega arith

  entry_keeps : (o : Option Entry) (n : ℕ) (rest : List Item)
      → instructions_in rest ≤ instructions_in (entry_code o n rest)
  entry_keeps None n rest = omega arith
  entry_keeps (Some e) n rest = count_keeps e.rest e.formals n rest

  forms_add : (heap_end label n : ℕ) (cs : List Code) (rest : List Item)
      → list_all (form_selected words globals symbols literals) cs ≡ true → list_all (λ c. marks_settled true c.instructions) cs ≡ true
      → codes_size cs + (closures_in cs + (codes_copies cs + length cs)) + 3 * instructions_in rest
      ≤ 3 * instructions_in (forms_code words heap_end literals label n cs rest)
  forms_add heap_end label n [] rest e m = omega arith
  forms_add heap_end label n (c ∷ cs) rest e m =
      let p = and_parts (form_selected words globals symbols literals c) (list_all (form_selected words globals symbols literals) cs) e in
      let s = and_parts (marks_settled true c.instructions) (list_all (λ c. marks_settled true c.instructions) cs) m in
      let q = and_parts (nat_le (formals_of c.entry) max_operands)
      (list_all (instruction_selected words globals symbols literals) c.instructions) p.0 in
      let others = forms_code words heap_end literals (suc label) (labels_end n c) cs rest in
      let body = body_code n (n + c.labels) words heap_end literals (n + c.labels + 2) c.instructions
      (item.Label (n + c.labels) ∷ others) in
      let g = passed_adds c.entry (n + c.labels) (item.Label (body_label label) ∷ entry_code c.entry (n + c.labels + 1)
      (item.Mark (Enter label) ∷ body)) in
      let f = entry_keeps c.entry (n + c.labels + 1) (item.Mark (Enter label) ∷ body) in
      let h = body_adds n (n + c.labels) heap_end (n + c.labels + 2) c.instructions true q.1 s.0
      (item.Label (n + c.labels) ∷ others) in
      let k = forms_add heap_end (suc label) (labels_end n c) cs rest p.1 s.1 in
      omega (arith, f, g, h, k)

-- ## Programs

pub program_instructions : (p : tree.Source) (heap depth : ℕ) → selects p ≡ true
    → steps_size p ≤ 3 * instructions_in (selected_code p heap depth)
program_instructions p heap depth e =
    let globals = length p.statics.globals in
    let symbols = length p.statics.symbols in
    let literals = count_literals p.statics.literals in
    let both = and_parts (list_all (form_selected p.words globals symbols literals) p.bodies)
    (list_all (λ c. marks_settled true c.instructions) p.bodies) e in
    let h = forms_add p.words globals symbols literals (heap_of p + heap) 0 (own_label p) p.bodies
    last_code both.0 both.1 in
    omega (arith, h)
