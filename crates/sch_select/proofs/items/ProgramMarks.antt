-- Each mark of a selected program has its instruction behind it.
use Rattle.std.proofs.Common.{◌≡◌, ℕ, suc, ◌+◌, List, [], ◌∷◌, length, Option, Some, None, Bool, true, false, refl, ◌∙◌, ◌&&◌}
use Rattle.std.specs.Prelude.{not, nat_eq, nat_lt, nat_le, IsTrue}
use Rattle.std.specs.List.{list_all}
use Rattle.std.proofs.lemmas.Bool.{and_parts, false≢true}
use Rattle.sch_word.specs.values.Literals.{count_literals}
use Rattle.sch_word.specs.declared.place.Place.{Place}
use Rattle.sch_word.specs.declared.place.Place.TheVariants.{Reg as Register, Slot}
use Rattle.sch_word.specs.declared.primitive.Primitive.{Primitive}
use Rattle.sch_word.specs.declared.primitive.Primitive.TheVariants.{IsBoolean, Eq, Cons, StringSet}
use Rattle.sch_control.specs.declared.operation.Atom.{Atom}
use Rattle.sch_control.specs.declared.operation.Atom.TheVariants.{Constant, Literal, Variable}
use Rattle.sch_control.specs.declared.operation.Operand.{Operand}
use Rattle.sch_control.specs.declared.operation.Operand.TheVariants as operand
use Rattle.sch_control.specs.declared.body.Entry.{Entry}
use Rattle.sch_control.specs.declared.operation.Source.{Source}
use Rattle.sch_control.specs.declared.operation.Source.TheVariants as source
use Rattle.sch_control.specs.declared.operation.Closure.{Closure}
use Rattle.sch_control.specs.declared.operation.Member.{Member}
use Rattle.sch_control.specs.declared.operation.Operation.{Operation}
use Rattle.sch_insn.specs.declared.insn.Insn.{Insn}
use Rattle.sch_insn.specs.declared.insn.Insn.TheVariants.{MovTo}
use Rattle.sch_word.specs.trees.Shape.{max_operands}
use Rattle.sch_control.specs.flow.Places.{formals_of}
use Rattle.sch_frames.specs.Valid.{in_slots, is_place}
use Rattle.sch_control.specs.declared.operation.Operation.TheVariants as operation
use Rattle.sch_frames.specs.declared.instruction.Instruction.{Instruction}
use Rattle.sch_frames.specs.declared.instruction.Instruction.TheVariants.{Do, Store, Copy, Pass, Fix, Call}
use Rattle.sch_frames.specs.declared.instruction.Instruction.TheVariants.{Tail, Return, End, IfFalse, Jump, Label}
use Rattle.sch_frames.specs.declared.instruction.Instruction.TheVariants.{Mark}
use Rattle.sch_frames.specs.Tree.{Code}
use Rattle.sch_frames.specs.Tree as tree
use Rattle.sch_asm.specs.declared.item.Item.{Item}
use Rattle.sch_asm.specs.declared.item.Item.TheVariants as item
use Rattle.sch_asm.specs.Items.{marks_arrive}
use Rattle.sch_select.proofs.items.RestItems.{count_quiet}
use Rattle.sch_select_operations.specs.PrimitiveCode.{pair_or_binary, ternary_code, index_operand}
use Rattle.sch_select_memory.specs.Addresses.{place_operand}
use Rattle.sch_select_operations.specs.OperandCode.{atom_code, unary_code, binary_code, read_code, operand_code, second_code}
use Rattle.sch_select_operations.specs.CellCode.{source_code}
use Rattle.sch_select_operations.specs.ClosureCode.{fields_code, record_code, closure_bytes, places_code, records_code, spill_code, spills_behind}
use Rattle.sch_select_operations.specs.OperationCode.{operation_code}
use Rattle.sch_select.specs.Select.{labels_needed, instruction_code, body_code}
use Rattle.sch_select.specs.Program.{passed_code, entry_code, forms_code, labels_end, selected_code, own_label}
use Rattle.sch_select_data.specs.Data.{heap_of}
use Rattle.sch_select.proofs.items.ProgramLabels.{last_code}
use Rattle.sch_select_memory.proofs.Sound.{in_front}
use Rattle.sch_select_operations.proofs.simulation.SelectedPrograms.{atom_selected, read_selected, operand_selected, source_selected}
use Rattle.sch_select_operations.proofs.simulation.SelectedPrograms.{closure_selected, members_selected, operation_selected}
use Rattle.sch_select_operations.proofs.simulation.SelectedPrograms.{three_selected, instruction_selected, form_selected, selects}
use Rattle.sch_select_operations.proofs.simulation.SelectedPrograms.{takes}
use Rattle.sch_frames.specs.Covered.{marks_settled}
use Rattle.sch_control.specs.Valid.{only_reads}

module _ (words globals symbols literals heap_end : ℕ) where
  -- where nothing waits, nothing waits behind
  abbrev Quiet : (List Item → List Item) → Type 0
  Quiet f = (rest : List Item) → marks_arrive false (f rest) ≡ marks_arrive false rest

  -- whatever waits, it arrives at the first instruction
  abbrev Arrives : (List Item → List Item) → Type 0
  Arrives f = (b : Bool) (rest : List Item) → marks_arrive b (f rest) ≡ marks_arrive false rest

  unary_quiet : (n : ℕ) (which : Primitive) → Quiet (unary_code n which)
  unary_quiet n IsBoolean rest = refl
  unary_quiet n _ rest = refl

  binary_quiet : (n : ℕ) (which : Primitive) → Quiet (binary_code n which)
  binary_quiet n Eq rest = refl
  binary_quiet n _ rest = refl

  pair_quiet : (n : ℕ) (which : Primitive) → Quiet (pair_or_binary heap_end n which)
  pair_quiet n Cons rest = refl
  pair_quiet n which rest = binary_quiet n which rest

  ternary_quiet : (which : Primitive) → Quiet (ternary_code which)
  ternary_quiet StringSet rest = refl
  ternary_quiet _ rest = refl

  atom_arrives : (r : ℕ) (a : Atom Place) → atom_selected words globals symbols literals a ≡ true → Arrives (atom_code r a)
  atom_arrives r (Constant c) e b rest = refl
  atom_arrives r (Variable p) e b rest = refl
  atom_arrives r (Literal n) e b rest = refl

  read_arrives : (n : ℕ) (which : Primitive) (atoms : List (Atom Place))
      → read_selected words globals symbols literals which atoms ≡ true → Arrives (read_code n which atoms)
  read_arrives n which [] e b rest = absurd (false≢true e)
  read_arrives n which (a ∷ []) e b rest = let p = and_parts (only_reads which && takes 1 which)
      (atom_selected words globals symbols literals a) e in atom_arrives 0 a p.1 b (unary_code n which rest) ∙ unary_quiet n which rest
  read_arrives n which (a ∷ (c ∷ [])) e b rest =
      let p = and_parts (only_reads which && takes 2 which)
      (atom_selected words globals symbols literals a && atom_selected words globals symbols literals c) e in
      let q = and_parts (atom_selected words globals symbols literals a) (atom_selected words globals symbols literals c) p.1 in
      atom_arrives 0 a q.0 b (atom_code 1 c (binary_code n which rest))
      ∙ atom_arrives 1 c q.1 false (binary_code n which rest) ∙ binary_quiet n which rest
  read_arrives n which (a ∷ (c ∷ (d ∷ atoms))) e b rest = absurd (false≢true e)

  operand_arrives : (n : ℕ) (o : Operand Place) → operand_selected words globals symbols literals o ≡ true → Arrives (operand_code n o)
  operand_arrives n (operand.Atom a) e b rest = atom_arrives 0 a e b rest
  operand_arrives n (operand.Read site which atoms) e b rest = read_arrives n which atoms e b rest

  index_arrives : (o : Operand Place) → operand_selected words globals symbols literals o ≡ true
      → Arrives (index_operand o)
  index_arrives (operand.Atom a) e b rest = atom_arrives 1 a e b rest
  index_arrives (operand.Read site which atoms) e b rest = refl

  second_arrives : (n : ℕ) (o : Operand Place) → operand_selected words globals symbols literals o ≡ true → Arrives (second_code n o)
  second_arrives n (operand.Atom a) e b rest = atom_arrives 1 a e b rest
  second_arrives n (operand.Read site which atoms) e b rest = read_arrives n which atoms e false _

  source_arrives : (r : ℕ) (x : Source Place) → source_selected words globals symbols literals x ≡ true → Arrives (source_code r x)
  source_arrives r (source.Atom a) e b rest = atom_arrives r a e b rest
  source_arrives r (source.Field p k) e b rest = refl

  fields_quiet : (offset : ℕ) (sources : List (Source Place))
      → list_all (source_selected words globals symbols literals) sources ≡ true → Quiet (fields_code offset sources)
  fields_quiet offset [] e rest = refl
  fields_quiet offset (x ∷ sources) e rest =
      let p = and_parts (source_selected words globals symbols literals x) (list_all (source_selected words globals symbols literals) sources) e in
      source_arrives 1 x p.0 false _ ∙ fields_quiet (offset + 8) sources p.1 rest

  record_quiet : (offset : ℕ) (c : Closure Place) → closure_selected words globals symbols literals c ≡ true
      → Quiet (record_code offset c)
  record_quiet offset c e rest = fields_quiet (offset + 8) c.fields
      (and_parts (nat_le (length c.fields) 1000) (list_all (source_selected words globals symbols literals) c.fields) e).1 rest

  -- a mark arrives at the store behind it
  spill_quiet : (p : Place) (spills : List ℕ) (i : Insn) (rest : List Item) → marks_arrive false (spill_code p spills (item.Plain i ∷ rest)) ≡ marks_arrive false rest
  spill_quiet (Slot j) (x ∷ spills) i rest = refl
  spill_quiet (Slot j) [] i rest = refl
  spill_quiet (Register r) spills i rest = refl

  places_quiet : (offset : ℕ) (members : List (Member Place)) (spills : List ℕ) → Quiet (places_code offset members spills)
  places_quiet offset [] spills rest = refl
  places_quiet offset (m ∷ members) spills rest =
      spill_quiet m.at spills (MovTo (place_operand m.at) 1) _ ∙ places_quiet (offset + closure_bytes m.closure) members (spills_behind m.at spills) rest

  records_quiet : (offset : ℕ) (members : List (Member Place)) → members_selected words globals symbols literals members ≡ true
      → Quiet (records_code offset members)
  records_quiet offset [] e rest = refl
  records_quiet offset (m ∷ members) e rest =
      let p = and_parts (is_place words m.at) (closure_selected words globals symbols literals m.closure && members_selected words globals symbols literals members) e in
      let q = and_parts (closure_selected words globals symbols literals m.closure) (members_selected words globals symbols literals members) p.1 in
      record_quiet offset m.closure q.0 _ ∙ records_quiet (offset + closure_bytes m.closure) members q.1 rest

  operation_arrives : (n : ℕ) (o : Operation Place) → operation_selected words globals symbols literals o ≡ true
      → Arrives (operation_code heap_end literals n o)
  operation_arrives n (operation.Operand o) e b rest = operand_arrives n o e b rest
  operation_arrives n (operation.Prim site which []) e b rest = absurd (false≢true e)
  operation_arrives n (operation.Prim site which (o ∷ [])) e b rest =
      let p = and_parts (takes 1 which) (operand_selected words globals symbols literals o) e in operand_arrives n o p.1 b
      (unary_code (n + 8) which rest) ∙ unary_quiet (n + 8) which rest
  operation_arrives n (operation.Prim site which (o ∷ (q ∷ []))) e b rest =
      let p = and_parts (takes 2 which) (operand_selected words globals symbols literals o && operand_selected words globals symbols literals q) e in
      let both = and_parts (operand_selected words globals symbols literals o) (operand_selected words globals symbols literals q) p.1 in
      operand_arrives n o both.0 b _ ∙ second_arrives (n + 4) q both.1 false _ ∙ pair_quiet (n + 8) which rest
  operation_arrives n (operation.Prim site which (o ∷ (q ∷ (r ∷ [])))) e b rest =
      let t = three_selected words globals symbols literals which o q r e in
      operand_arrives n r t.1.1 b _ ∙ operand_arrives (n + 4) o t.0 false _ ∙ index_arrives q t.1.0 false _
      ∙ ternary_quiet which rest
  operation_arrives n (operation.Prim site which (o ∷ (q ∷ (r ∷ (s ∷ operands))))) e b rest = absurd (false≢true e)
  operation_arrives n (operation.Global g) e b rest = refl
  operation_arrives n (operation.SetGlobal g o) e b rest = let p = and_parts (nat_lt g globals)
      (operand_selected words globals symbols literals o) e in operand_arrives n o p.1 b _
  operation_arrives n (operation.Field p k) e b rest = refl
  operation_arrives n (operation.NewCell x) e b rest = source_arrives 0 x e b _
  operation_arrives n operation.UnsetCell e b rest = refl
  operation_arrives n (operation.CellGet x) e b rest = source_arrives 0 x e b _
  operation_arrives n (operation.CellSet x o) e b rest =
      let p = and_parts (source_selected words globals symbols literals x) (operand_selected words globals symbols literals o) e in
      operand_arrives n o p.1 b _ ∙ source_arrives 1 x p.0 false _
  operation_arrives n (operation.MakeClosure c) e b rest = record_quiet 0 c e _

  body_arrives : (base out n : ℕ) (instructions : List Instruction) (b : Bool) (following : List Item)
      → list_all (instruction_selected words globals symbols literals) instructions ≡ true → marks_settled b instructions ≡ true
      → marks_arrive b (body_code base out words heap_end literals n instructions (item.Label out ∷ following)) ≡ marks_arrive
      false following
  body_arrives base out n [] b following e m = in_front (not b) (marks_arrive false following) m
  body_arrives base out n (i ∷ instructions) b following e m =
      let p = and_parts (instruction_selected words globals symbols literals i)
      (list_all (instruction_selected words globals symbols literals) instructions) e in
      by i p.0 m (λ b m. body_arrives base out (n + labels_needed i) instructions b following p.1 m)
    where
      rest : List Item
      rest = body_code base out words heap_end literals (n + labels_needed i) instructions
          (item.Label out ∷ following)

      by : (i : Instruction) → instruction_selected words globals symbols literals i ≡ true → marks_settled b (i ∷ instructions) ≡ true
          → ((b : Bool) → marks_settled b instructions ≡ true → marks_arrive b rest ≡ marks_arrive false following)
          → marks_arrive b (instruction_code base out words heap_end literals n i rest) ≡ marks_arrive false following
      by (Do o) e m rec = operation_arrives n o e b rest ∙ rec false m
      by (Store q) e m rec = rec false m
      by (Copy to from) e m rec = rec false m
      by (Pass k) e m rec = rec false m
      by (Call spread count) e m rec = rec false m
      by (Tail spread count) e m rec = rec false m
      by (Fix members spills) e m rec =
          let q = and_parts (nat_eq (length spills) (in_slots members)) (nat_le (length members) max_operands && members_selected words globals symbols literals members) e in
          let p = and_parts (nat_le (length members) max_operands) (members_selected words globals symbols literals members) q.1 in
          places_quiet 0 members spills _ ∙ records_quiet 0 members p.1 _ ∙ rec false m
      by Return e m rec = rec false m
      by End e m rec = rec false m
      by (IfFalse l) e m rec = rec false m
      by (Jump l) e m rec = rec false m
      by (Label l) e m rec = let q = and_parts (not b) (marks_settled false instructions) m in in_front (not b)
          (marks_arrive false rest) q.0 ∙ rec false q.1
      by (Mark k) e m rec = rec true m

  passed_quiet : (o : Option Entry) (out : ℕ) → Quiet (passed_code o out)
  passed_quiet None out rest = refl
  passed_quiet (Some e) out rest = refl

  entry_quiet : (o : Option Entry) (n : ℕ) → Quiet (entry_code o n)
  entry_quiet None n rest = refl
  entry_quiet (Some e) n rest = count_quiet e.rest e.formals n rest

  forms_arrive : (label n : ℕ) (cs : List Code) (rest : List Item) → list_all (form_selected words globals symbols literals) cs ≡ true
      → list_all (λ c. marks_settled true c.instructions) cs ≡ true
      → marks_arrive false (forms_code words heap_end literals label n cs rest) ≡ marks_arrive false rest
  forms_arrive label n [] rest e m = refl
  forms_arrive label n (c ∷ cs) rest e m =
      let p = and_parts (form_selected words globals symbols literals c) (list_all (form_selected words globals symbols literals) cs) e in
      let s = and_parts (marks_settled true c.instructions) (list_all (λ c. marks_settled true c.instructions) cs) m in
      passed_quiet c.entry (n + c.labels) _ ∙ entry_quiet c.entry (n + c.labels + 1) _
      ∙ body_arrives n (n + c.labels) (n + c.labels + 2) c.instructions true
      (forms_code words heap_end literals (suc label) (labels_end n c) cs rest)
      (and_parts (nat_le (formals_of c.entry) max_operands)
      (list_all (instruction_selected words globals symbols literals) c.instructions) p.0).1 s.0
      ∙ forms_arrive (suc label) (labels_end n c) cs rest p.1 s.1

pub program_marked : (p : tree.Source) (limit depth : ℕ) → selects p ≡ true
    → IsTrue (marks_arrive false (selected_code p limit depth))
program_marked p limit depth e =
    let globals = length p.statics.globals in
    let symbols = length p.statics.symbols in
    let literals = count_literals p.statics.literals in
    let both = and_parts (list_all (form_selected p.words globals symbols literals) p.bodies)
    (list_all (λ c. marks_settled true c.instructions) p.bodies) e in
    forms_arrive p.words globals symbols literals (heap_of p + limit) 0 (own_label p) p.bodies
    last_code both.0 both.1
