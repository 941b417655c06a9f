-- What follows an instruction's items stands behind them.
use Rattle.std.proofs.Common.{◌≡◌, ℕ, ◌+◌, List, [], ◌∷◌, ◌++◌, refl, sym, ap, ◌∙◌, append_assoc}
use Rattle.sch_word.specs.declared.place.Place.{Place}
use Rattle.sch_word.specs.declared.place.Place.TheVariants.{Reg as Register, Slot}
use Rattle.sch_word.specs.declared.primitive.Primitive.{Primitive}
use Rattle.sch_word.specs.declared.primitive.Primitive.TheVariants.{IsBoolean, Eq, Cons, StringSet}
use Rattle.sch_control.specs.declared.operation.Atom.{Atom}
use Rattle.sch_control.specs.declared.operation.Atom.TheVariants.{Constant, Literal, Variable}
use Rattle.sch_control.specs.declared.operation.Operand.{Operand}
use Rattle.sch_control.specs.declared.operation.Operand.TheVariants as operand
use Rattle.sch_control.specs.declared.operation.Source.{Source}
use Rattle.sch_control.specs.declared.operation.Source.TheVariants as source
use Rattle.sch_control.specs.declared.operation.Closure.{Closure}
use Rattle.sch_control.specs.declared.operation.Member.{Member}
use Rattle.sch_word.specs.declared.stop.Stop.TheVariants.{Unset}
use Rattle.sch_control.specs.declared.operation.Operation.{Operation}
use Rattle.sch_control.specs.declared.operation.Operation.TheVariants as operation
use Rattle.sch_frames.specs.declared.instruction.Instruction.{Instruction}
use Rattle.sch_frames.specs.declared.instruction.Instruction.TheVariants.{Do, Fix}
use Rattle.sch_insn.specs.declared.insn.Arg.TheVariants.{Reg}
use Rattle.sch_insn.specs.declared.insn.Insn.TheVariants.{MovTo, MovFrom, MovNumber, AddNumber, CmpNumber}
use Rattle.sch_insn.specs.declared.condition.TheConstants.{E}
use Rattle.sch_asm.specs.declared.item.Item.{Item}
use Rattle.sch_asm.specs.declared.item.Item.TheVariants as item
use Rattle.sch_word.specs.declared.mark.MarkKind.{MarkKind}
use Rattle.sch_word.specs.declared.mark.MarkKind.TheVariants.{Spill}
use Rattle.sch_asm.specs.Stands.{Setting, Stands}
use Rattle.sch_select_memory.specs.Addresses.{stop_label, body_label, place_operand, part_operand, global_address}
use Rattle.sch_select_operations.specs.CellCode.{source_code, check_cell, cell_operand}
use Rattle.sch_select_operations.specs.ObjectCode.{check_heap, part_code}
use Rattle.sch_select_operations.specs.ClosureCode.{fields_code, record_code, closure_bytes, group_bytes, places_code}
use Rattle.sch_select_operations.specs.ClosureCode.{records_code, group_code, spill_code, spills_behind}
use Rattle.sch_select_operations.specs.OperandCode.{atom_code, unary_code, binary_code, read_code, operand_code, second_code}
use Rattle.sch_select_operations.specs.PrimitiveCode.{primitive_code, pair_or_binary, index_operand, three_code}
use Rattle.sch_select_operations.specs.PrimitiveCode.{ternary_code}
use Rattle.sch_select_operations.specs.OperationCode.{operation_code}
use Rattle.sch_select.specs.Select.{labels_needed, instruction_code, body_code}
use Rattle.sch_select_memory.specs.Encoded.{unspecified_word, unset_word}
use Rattle.std.specs.Prelude.{pos}

-- what comes behind is appended
abbrev pub Appends : (List Item → List Item) → Type 0
Appends f = (rest : List Item) → f rest ≡ f [] ++ rest

pub then_appends : (f g : List Item → List Item) → Appends f → Appends g → Appends (λ rest. f (g rest))
then_appends f g a b rest = a (g rest) ∙ ap (λ l. f [] ++ l) (b rest) ∙ sym (append_assoc (f []) (g []) rest)
    ∙ ap (λ l. l ++ rest) (sym (a (g [])))

atom_appends : (r : ℕ) (a : Atom Place) → Appends (atom_code r a)
atom_appends r (Constant c) rest = refl
atom_appends r (Variable p) rest = refl
atom_appends r (Literal n) rest = refl

unary_appends : (n : ℕ) (which : Primitive) → Appends (unary_code n which)
unary_appends n IsBoolean rest = refl
unary_appends n _ rest = refl

binary_appends : (n : ℕ) (which : Primitive) → Appends (binary_code n which)
binary_appends n Eq rest = refl
binary_appends n _ rest = refl

read_appends : (n : ℕ) (which : Primitive) (atoms : List (Atom Place)) → Appends (read_code n which atoms)
read_appends n which [] rest = refl
read_appends n which (a ∷ []) rest = then_appends (atom_code 0 a) (unary_code n which) (atom_appends 0 a)
    (unary_appends n which) rest
read_appends n which (a ∷ (b ∷ [])) rest = then_appends (atom_code 0 a)
    (λ rest. atom_code 1 b (binary_code n which rest)) (atom_appends 0 a)
    (then_appends (atom_code 1 b) (binary_code n which) (atom_appends 1 b) (binary_appends n which)) rest
read_appends n which (a ∷ (b ∷ (c ∷ atoms))) rest = refl

pub operand_appends : (n : ℕ) (o : Operand Place) → Appends (operand_code n o)
operand_appends n (operand.Atom a) rest = atom_appends 0 a rest
operand_appends n (operand.Read site which atoms) rest = read_appends n which atoms rest

pub second_appends : (n : ℕ) (o : Operand Place) → Appends (second_code n o)
second_appends n (operand.Atom a) rest = atom_appends 1 a rest
second_appends n (operand.Read site which atoms) rest =
    ap (λ l. item.Plain (MovTo (Reg 11) 0) ∷ l) (then_appends (read_code n which atoms)
    (λ rest. item.Plain (MovTo (Reg 1) 0) ∷ (item.Plain (MovTo (Reg 0) 11) ∷ rest)) (read_appends n which atoms)
    (λ rest. refl) rest)

pair_appends : (heap_end n : ℕ) (which : Primitive) → Appends (pair_or_binary heap_end n which)
pair_appends heap_end n Cons rest = refl
pair_appends heap_end n which rest = binary_appends n which rest

index_appends : (o : Operand Place) → Appends (index_operand o)
index_appends (operand.Atom a) rest = atom_appends 1 a rest
index_appends (operand.Read site which atoms) rest = refl

ternary_appends : (which : Primitive) → Appends (ternary_code which)
ternary_appends StringSet rest = refl
ternary_appends _ rest = refl

three_appends : (n : ℕ) (a b c : Operand Place) → Appends (three_code n a b c)
three_appends n a b c rest = then_appends (operand_code n c)
    (λ rest. item.Plain (MovTo (Reg 11) 0) ∷ operand_code (n + 4) a (index_operand b rest)) (operand_appends n c)
    (λ rest. ap (λ l. item.Plain (MovTo (Reg 11) 0) ∷ l) (then_appends (operand_code (n + 4) a) (index_operand b)
    (operand_appends (n + 4) a) (index_appends b) rest)) rest

primitive_appends : (heap_end n : ℕ) (which : Primitive) (operands : List (Operand Place))
    → Appends (primitive_code heap_end n which operands)
primitive_appends heap_end n which [] rest = refl
primitive_appends heap_end n which (a ∷ []) rest = then_appends (operand_code n a) (unary_code (n + 8) which)
    (operand_appends n a) (unary_appends (n + 8) which) rest
primitive_appends heap_end n which (a ∷ (b ∷ [])) rest = then_appends (operand_code n a)
    (λ rest. second_code (n + 4) b (pair_or_binary heap_end (n + 8) which rest)) (operand_appends n a)
    (then_appends (second_code (n + 4) b) (pair_or_binary heap_end (n + 8) which) (second_appends (n + 4) b)
    (pair_appends heap_end (n + 8) which)) rest
primitive_appends heap_end n which (a ∷ (b ∷ (c ∷ []))) rest = then_appends (three_code n a b c) (ternary_code which)
    (three_appends n a b c) (ternary_appends which) rest
primitive_appends heap_end n which (a ∷ (b ∷ (c ∷ (d ∷ operands)))) rest = refl

pub source_appends : (r : ℕ) (x : Source Place) → Appends (source_code r x)
source_appends r (source.Atom a) rest = atom_appends r a rest
source_appends r (source.Field p k) rest = refl

fields_appends : (offset : ℕ) (sources : List (Source Place)) → Appends (fields_code offset sources)
fields_appends offset [] rest = refl
fields_appends offset (x ∷ sources) rest =
    then_appends (source_code 1 x) (λ rest. item.Plain (MovTo (part_operand offset) 1) ∷ fields_code (offset + 8)
    sources rest) (source_appends 1 x)
    (λ rest. ap (λ l. item.Plain (MovTo (part_operand offset) 1) ∷ l) (fields_appends (offset + 8) sources rest)) rest

pub record_appends : (offset : ℕ) (c : Closure Place) → Appends (record_code offset c)
record_appends offset c rest = ap (λ l. item.LoadLabel 1 (body_label c.label) ∷
    (item.Plain (MovTo (part_operand offset) 1) ∷ l)) (fields_appends (offset + 8) c.fields rest)

-- what does not look at marks is of a stored member the same
pub spill_same : {A : Type 0} (f : List Item → A) → ((m : MarkKind) (is : List Item) → f (item.Mark m ∷ is) ≡ f is)
    → (p : Place) (spills : List ℕ) (is : List Item) → f (spill_code p spills is) ≡ f is
spill_same f past (Slot j) (x ∷ spills) is = past (Spill x) is
spill_same f past (Slot j) [] is = refl
spill_same f past (Register r) spills is = refl

spill_appends : (p : Place) (spills : List ℕ) → Appends (spill_code p spills)
spill_appends (Slot j) (x ∷ spills) rest = refl
spill_appends (Slot j) [] rest = refl
spill_appends (Register r) spills rest = refl

places_appends : (offset : ℕ) (members : List (Member Place)) (spills : List ℕ) → Appends (places_code offset members spills)
places_appends offset [] spills rest = refl
places_appends offset (m ∷ members) spills rest =
    ap (λ l. item.Plain (MovTo (Reg 1) 12) ∷ (item.Plain (AddNumber (Reg 1) (pos (offset + 4))) ∷ l))
    (then_appends (spill_code m.at spills) (λ rest. item.Plain (MovTo (place_operand m.at) 1)
    ∷ places_code (offset + closure_bytes m.closure) members (spills_behind m.at spills) rest) (spill_appends m.at spills)
    (λ rest. ap (λ l. item.Plain (MovTo (place_operand m.at) 1) ∷ l)
    (places_appends (offset + closure_bytes m.closure) members (spills_behind m.at spills) rest)) rest)

pub records_appends : (offset : ℕ) (members : List (Member Place)) → Appends (records_code offset members)
records_appends offset [] rest = refl
records_appends offset (m ∷ members) rest =
    then_appends (record_code offset m.closure) (records_code (offset + closure_bytes m.closure) members)
    (record_appends offset m.closure) (records_appends (offset + closure_bytes m.closure) members) rest

module _ (heap_end literals : ℕ) where
  group_appends : (members : List (Member Place)) (spills : List ℕ) → Appends (group_code heap_end members spills)
  group_appends members spills rest =
      let last : List Item → List Item = λ rest. item.Plain (AddNumber (Reg 12) (pos (group_bytes members))) ∷ rest in
      then_appends (check_heap heap_end (group_bytes members))
      (λ rest. places_code 0 members spills (records_code 0 members (last rest))) (λ rest. refl)
      (then_appends (places_code 0 members spills) (λ rest. records_code 0 members (last rest)) (places_appends 0 members spills)
      (then_appends (records_code 0 members) last (records_appends 0 members) (λ rest. refl))) rest

  pub operation_appends : (n : ℕ) (o : Operation Place) → Appends (operation_code heap_end literals n o)
  operation_appends n (operation.Operand o) rest = operand_appends n o rest
  operation_appends n (operation.Prim site which operands) rest = primitive_appends heap_end n which operands
      rest
  operation_appends n (operation.Global g) rest = refl
  operation_appends n (operation.SetGlobal g o) rest = then_appends (operand_code n o)
      (λ rest. item.StoreWord (global_address literals g) 0 ∷ (item.Plain (MovNumber (Reg 0) (pos unspecified_word)) ∷ rest))
      (operand_appends n o) (λ rest. refl) rest
  operation_appends n (operation.Field p k) rest = refl
  operation_appends n (operation.NewCell x) rest = then_appends (source_code 0 x)
      (λ rest. check_heap heap_end 16 (item.Plain (MovTo (part_operand 0) 0) ∷ part_code 7 16 rest))
      (source_appends 0 x) (λ rest. refl) rest
  operation_appends n operation.UnsetCell rest = refl
  operation_appends n (operation.CellGet x) rest =
      then_appends (source_code 0 x) (λ rest. check_cell 0
      (item.Plain (MovFrom 0 (cell_operand 0)) ∷ (item.Plain (CmpNumber (Reg 0) (pos unset_word)) ∷
      (item.JumpIf E (stop_label Unset) ∷ rest)))) (source_appends 0 x) (λ rest. refl) rest
  operation_appends n (operation.CellSet x o) rest =
      then_appends (operand_code n o) (λ rest. source_code 1 x
      (check_cell 1 (item.Plain (MovTo (cell_operand 1) 0) ∷
      (item.Plain (MovNumber (Reg 0) (pos unspecified_word)) ∷ rest)))) (operand_appends n o)
      (then_appends (source_code 1 x) (λ rest. check_cell 1
      (item.Plain (MovTo (cell_operand 1) 0) ∷ (item.Plain (MovNumber (Reg 0) (pos unspecified_word)) ∷ rest)))
      (source_appends 1 x) (λ rest. refl)) rest
  operation_appends n (operation.MakeClosure c) rest =
      ap (check_heap heap_end (closure_bytes c)) (then_appends (record_code 0 c) (part_code 4 (closure_bytes c))
      (record_appends 0 c) (λ rest. refl) rest)

module _ (base out words heap_end literals : ℕ) where
  pub instruction_appends : (n : ℕ) (i : Instruction) → Appends (instruction_code base out words heap_end literals n i)
  instruction_appends n (Do o) rest = operation_appends heap_end literals n o rest
  instruction_appends n (Fix members spills) rest = group_appends heap_end literals members spills rest
  instruction_appends n _ rest = refl

  pub body_appends : (n : ℕ) (instructions : List Instruction)
      → Appends (body_code base out words heap_end literals n instructions)
  body_appends n [] rest = refl
  body_appends n (i ∷ instructions) rest = then_appends (instruction_code base out words heap_end literals n i)
      (body_code base out words heap_end literals (n + labels_needed i) instructions) (instruction_appends n i)
      (body_appends (n + labels_needed i) instructions) rest

-- items behind others, whatever waits for them
pub record Behind (setting : Setting) (rest : List Item) : Type 0 where
  pub place : ℕ
  pub waiting : List MarkKind
  pub stands : Stands setting waiting place rest

pub behind : (setting : Setting) (xs ys : List Item) (waiting : List MarkKind) (a : ℕ)
    → Stands setting waiting a (xs ++ ys) → Behind setting ys
behind setting [] ys waiting a h = record { place = a; waiting = waiting; stands = h }
behind setting (item.Label l ∷ xs) ys waiting a h = behind setting xs ys [] a h.2
behind setting (item.Mark m ∷ xs) ys waiting a h = behind setting xs ys (waiting ++ m ∷ []) a h
behind setting (item.Plain i ∷ xs) ys waiting a h = behind setting xs ys [] (a + h.0) h.2
behind setting (item.Jump l ∷ xs) ys waiting a h = behind setting xs ys [] (a + h.0) h.4
behind setting (item.JumpIf c l ∷ xs) ys waiting a h = behind setting xs ys [] (a + h.0) h.4
behind setting (item.LoadLabel r l ∷ xs) ys waiting a h = behind setting xs ys [] (a + h.0) h.4
behind setting (item.LoadWord r l ∷ xs) ys waiting a h = behind setting xs ys [] (a + h.0) h.4
behind setting (item.StoreWord l r ∷ xs) ys waiting a h = behind setting xs ys [] (a + h.0) h.4
