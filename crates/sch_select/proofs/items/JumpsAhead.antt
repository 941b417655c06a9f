-- Jumps to the own labels of bodies go forward.
use Rattle.std.proofs.Common.{◌≡◌, ℕ, suc, ◌+◌, ◌<◌, List, [], ◌∷◌, length, Bool, true, Option, Some, None, refl, ap}
use Rattle.std.proofs.Common.{◌∙◌, arith, ◌&&◌, ◌||◌}
use Rattle.std.specs.Prelude.{nat_lt}
use Rattle.std.specs.List.{list_all}
use Rattle.std.proofs.lemmas.Bool.{and_parts, lt-ltb, ltb-true}
use Rattle.std.proofs.Math.Bool.{or-true}
use Rattle.sch_word.specs.declared.place.Place.{Place}
use Rattle.sch_word.specs.declared.primitive.Primitive.{Primitive}
use Rattle.sch_word.specs.declared.primitive.Primitive.TheVariants.{Eq, Eqv, IsBoolean, IsPair, IsNull, IsSymbol}
use Rattle.sch_word.specs.declared.primitive.Primitive.TheVariants.{IsInteger, IsChar, IsString, IsVector}
use Rattle.sch_word.specs.declared.primitive.Primitive.TheVariants.{IsProcedure, Add, Subtract, Multiply, Quotient}
use Rattle.sch_word.specs.declared.primitive.Primitive.TheVariants.{Remainder, Modulo, Equal, Less, Greater}
use Rattle.sch_word.specs.declared.primitive.Primitive.TheVariants.{LessEqual, GreaterEqual, CharToInteger}
use Rattle.sch_word.specs.declared.primitive.Primitive.TheVariants.{IntegerToChar, Put, Cons, Car, Cdr, SetCar}
use Rattle.sch_word.specs.declared.primitive.Primitive.TheVariants.{SetCdr, StringLength, StringRef, StringSet}
use Rattle.sch_word.specs.declared.primitive.Primitive.TheVariants.{VectorLength, VectorRef, VectorSet, SymbolLength}
use Rattle.sch_word.specs.declared.primitive.Primitive.TheVariants.{SymbolRef, MakeString, MakeVector}
use Rattle.sch_word.specs.values.Literals.{count_literals}
use Rattle.sch_word.specs.trees.NumberSets.{has, without_repeats}
use Rattle.sch_word.proofs.facts.NumberSets.{in_here, in_more, append_left, append_right}
use Rattle.sch_control.specs.declared.body.Entry.{Entry}
use Rattle.sch_control.specs.declared.operation.Atom.{Atom}
use Rattle.sch_control.specs.declared.operation.Atom.TheVariants.{Constant, Literal, Variable}
use Rattle.sch_control.specs.declared.operation.Operand.{Operand}
use Rattle.sch_control.specs.declared.operation.Operand.TheVariants as operand
use Rattle.sch_control.specs.declared.operation.Source.{Source}
use Rattle.sch_control.specs.declared.operation.Source.TheVariants as source
use Rattle.sch_control.specs.declared.operation.Closure.{Closure}
use Rattle.sch_control.specs.declared.operation.Member.{Member}
use Rattle.sch_control.specs.declared.operation.Operation.{Operation}
use Rattle.sch_control.specs.declared.operation.Operation.TheVariants as operation
use Rattle.sch_frames.specs.declared.instruction.Instruction.{Instruction}
use Rattle.sch_frames.specs.declared.instruction.Instruction.TheVariants as instruction
use Rattle.sch_frames.specs.Tree.{Code}
use Rattle.sch_frames.specs.Tree as tree
use Rattle.sch_frames.specs.Valid as frames
use Rattle.sch_frames.specs.Valid.{forward}
use Rattle.sch_asm.specs.declared.item.Item.{Item}
use Rattle.sch_asm.specs.declared.item.Item.TheVariants as item
use Rattle.sch_word.specs.declared.mark.MarkKind.TheVariants.{Enter}
use Rattle.sch_asm.specs.declared.routine.TheConstants.{FIRST_LABEL}
use Rattle.sch_asm.specs.Items.{labels_in}
use Rattle.sch_select.proofs.items.RestItems.{count_behind, count_ahead}
use Rattle.sch_select_memory.specs.Addresses.{body_label, put_label, string_label, vector_label}
use Rattle.sch_select_operations.specs.OperandCode.{atom_code, unary_code, binary_code, read_code, operand_code, second_code}
use Rattle.sch_select_operations.specs.CellCode.{source_code}
use Rattle.sch_select_operations.specs.ClosureCode.{fields_code, closure_bytes, places_code, record_code, records_code, spills_behind}
use Rattle.sch_select.proofs.items.AppendedItems.{spill_same}
use Rattle.sch_select_operations.specs.PrimitiveCode.{pair_or_binary, ternary_code, index_operand}
use Rattle.sch_select_operations.specs.OperationCode.{operation_code}
use Rattle.sch_select.specs.Select.{labels_needed, body_code}
use Rattle.sch_select.specs.Program.{passed_code, entry_code, forms_code, labels_end, own_label, selected_code}
use Rattle.sch_select_data.specs.Data.{heap_of}
use Rattle.sch_select.specs.Jumps.{goes_ahead, jumps_ahead}
use Rattle.sch_select_operations.proofs.simulation.SelectedPrograms.{members_few, operation_few, labels_few}
use Rattle.sch_select.proofs.items.ProgramLabels.{body_labels, body_labelled}
use Rattle.sch_select.proofs.items.ProgramKnown.{label_in}
use Rattle.sch_select_memory.proofs.Sound.{in_front}

module _ (count : ℕ) where
  -- the own labels of bodies are behind those at which they begin
  abbrev own : ℕ
  own = body_label count

  abbrev Ahead : (List Item → List Item) → Type 0
  Ahead f = (rest : List Item) → jumps_ahead own (f rest) ≡ jumps_ahead own rest

  -- a label that is no body's own
  away : (l : ℕ) → l < 25 → (t b : Bool) → ((nat_lt l FIRST_LABEL || t) && b) ≡ b
  away l lt t b = ap (λ a. (a || t) && b) (lt-ltb l FIRST_LABEL (omega (arith, lt)))

  -- a label that stands behind
  near_to : (first l : ℕ) (t b : Bool) → t ≡ true → ((nat_lt l first || t) && b) ≡ b
  near_to first l t b e = in_front (nat_lt l first || t) b (ap (λ t. nat_lt l first || t) e ∙ or-true (nat_lt l first))

  near : (l : ℕ) (t b : Bool) → t ≡ true → ((nat_lt l FIRST_LABEL || t) && b) ≡ b
  near = near_to FIRST_LABEL

  -- a label at which a body begins
  begins : (l : ℕ) → nat_lt l count ≡ true → (t b : Bool) → ((nat_lt (body_label l) own || t) && b) ≡ b
  begins l e t b = let lt = ltb-true l count e in ap (λ a. (a || t) && b)
      (lt-ltb (body_label l) own (omega (arith, lt)))

  stop : (l : ℕ) → l < 25 → (is : List Item) → (goes_ahead FIRST_LABEL l is && jumps_ahead own is) ≡ jumps_ahead own
      is
  stop l lt is = away l lt (has l (labels_in is)) (jumps_ahead own is)

  here : (n : ℕ) (ls : List ℕ) (b : Bool) → ((nat_lt n FIRST_LABEL || has n (n ∷ ls)) && b) ≡ b
  here n ls b = near n (has n (n ∷ ls)) b (in_here n ls)

  unary_ahead : (n : ℕ) (which : Primitive) → Ahead (unary_code n which)
  unary_ahead n IsBoolean rest = here n (labels_in rest) (jumps_ahead own rest)
  unary_ahead n IsPair rest = here n (labels_in rest) (jumps_ahead own rest)
  unary_ahead n IsNull rest = here n (labels_in rest) (jumps_ahead own rest)
  unary_ahead n IsSymbol rest = here n (labels_in rest) (jumps_ahead own rest)
  unary_ahead n IsInteger rest = here n (labels_in rest) (jumps_ahead own rest)
  unary_ahead n IsChar rest = here n (labels_in rest) (jumps_ahead own rest)
  unary_ahead n IsString rest = here n (labels_in rest) (jumps_ahead own rest)
  unary_ahead n IsVector rest = here n (labels_in rest) (jumps_ahead own rest)
  unary_ahead n IsProcedure rest = here n (labels_in rest) (jumps_ahead own rest)
  unary_ahead n CharToInteger rest = stop 1 (omega arith) rest
  unary_ahead n IntegerToChar rest = away 1 (omega arith) (has 1 (labels_in rest))
      ((nat_lt 2 FIRST_LABEL || has 2 (labels_in rest)) && jumps_ahead own rest) ∙ stop 2 (omega arith) rest
  unary_ahead n Put rest =
      near_to own n (has n (n ∷ labels_in rest)) _ (in_here n (labels_in rest))
      ∙ away put_label (omega arith) (has put_label (n ∷ labels_in rest)) (jumps_ahead own rest)
  unary_ahead n Car rest = stop 1 (omega arith) rest
  unary_ahead n Cdr rest = stop 1 (omega arith) rest
  unary_ahead n StringLength rest = stop 1 (omega arith) rest
  unary_ahead n VectorLength rest = stop 1 (omega arith) rest
  unary_ahead n SymbolLength rest = stop 1 (omega arith) rest
  unary_ahead n _ rest = refl

  -- a comparison of two fixnums
  two : (n : ℕ) (ls : List ℕ) (b : Bool) → ((nat_lt 1 FIRST_LABEL || has 1 (n ∷ ls)) &&
      ((nat_lt 1 FIRST_LABEL || has 1 (n ∷ ls)) && ((nat_lt n FIRST_LABEL || has n (n ∷ ls)) && b))) ≡ b
  two n ls b = away 1 (omega arith) (has 1 (n ∷ ls)) _ ∙ away 1 (omega arith) (has 1 (n ∷ ls)) _ ∙ here n ls b

  -- what computes a fixnum
  three : (a t u v b : Bool) (l : ℕ) → l < 25 → ((nat_lt 1 FIRST_LABEL || t) &&
      ((nat_lt 1 FIRST_LABEL || u) && ((nat_lt l FIRST_LABEL || v) && b))) ≡ b
  three a t u v b l lt = away 1 (omega arith) t _ ∙ away 1 (omega arith) u _ ∙ away l lt v b

  -- an element at an index
  indexed : (is : List Item) → (goes_ahead FIRST_LABEL 1 is && (goes_ahead FIRST_LABEL 1 is &&
      (goes_ahead FIRST_LABEL 2 is && jumps_ahead own is))) ≡ jumps_ahead own is
  indexed is = let ls = labels_in is in three true (has 1 ls) (has 1 ls) (has 2 ls)
      (jumps_ahead own is) 2 (omega arith)

  -- what a routine makes
  filled : (n l : ℕ) → l < 25 → (is : List Item) → ((nat_lt n own || has n (n ∷ labels_in is)) &&
      ((nat_lt l FIRST_LABEL || has l (n ∷ labels_in is)) && jumps_ahead own is)) ≡ jumps_ahead own is
  filled n l lt is = near_to own n (has n (n ∷ labels_in is)) _ (in_here n (labels_in is))
      ∙ away l lt (has l (n ∷ labels_in is)) (jumps_ahead own is)

  binary_ahead : (n : ℕ) (which : Primitive) → Ahead (binary_code n which)
  binary_ahead n Eq rest = here n (labels_in rest) (jumps_ahead own rest)
  binary_ahead n Eqv rest = here n (labels_in rest) (jumps_ahead own rest)
  binary_ahead n Add rest = three true (has 1 (labels_in rest)) (has 1 (labels_in rest))
      (has 6 (labels_in rest)) (jumps_ahead own rest) 6 (omega arith)
  binary_ahead n Subtract rest = three true (has 1 (labels_in rest)) (has 1 (labels_in rest))
      (has 6 (labels_in rest)) (jumps_ahead own rest) 6 (omega arith)
  binary_ahead n Multiply rest = three true (has 1 (labels_in rest)) (has 1 (labels_in rest))
      (has 6 (labels_in rest)) (jumps_ahead own rest) 6 (omega arith)
  binary_ahead n Quotient rest = three true (has 1 (labels_in rest)) (has 1 (labels_in rest))
      (has 5 (labels_in rest)) _ 5 (omega arith) ∙ stop 6 (omega arith) rest
  binary_ahead n Remainder rest = three true (has 1 (labels_in rest)) (has 1 (labels_in rest))
      (has 5 (labels_in rest)) (jumps_ahead own rest) 5 (omega arith)
  binary_ahead n Modulo rest =
      let ls = labels_in rest in
      let all : List ℕ = (n + 1) ∷ ((n + 2) ∷ (n ∷ ls)) in
      let last : List ℕ = (n + 2) ∷ (n ∷ ls) in
      let in_all : has n all ≡ true = in_more n (n + 1) last (in_more n (n + 2) (n ∷ ls) (in_here n ls)) in
      three true (has 1 all) (has 1 all) (has 5 all) _ 5 (omega arith)
      ∙ near n (has n all) _ in_all ∙ near (n + 1) (has (n + 1) all) _ (in_here (n + 1) last)
      ∙ near n (has n all) _ in_all ∙ near (n + 2) (has (n + 2) all) _
      (in_more (n + 2) (n + 1) last (in_here (n + 2) (n ∷ ls)))
      ∙ near n (has n last) (jumps_ahead own rest) (in_more n (n + 2) (n ∷ ls) (in_here n ls))
  binary_ahead n Equal rest = two n (labels_in rest) (jumps_ahead own rest)
  binary_ahead n Less rest = two n (labels_in rest) (jumps_ahead own rest)
  binary_ahead n Greater rest = two n (labels_in rest) (jumps_ahead own rest)
  binary_ahead n LessEqual rest = two n (labels_in rest) (jumps_ahead own rest)
  binary_ahead n GreaterEqual rest = two n (labels_in rest) (jumps_ahead own rest)
  binary_ahead n SetCar rest = stop 1 (omega arith) rest
  binary_ahead n SetCdr rest = stop 1 (omega arith) rest
  binary_ahead n StringRef rest = indexed rest
  binary_ahead n VectorRef rest = indexed rest
  binary_ahead n SymbolRef rest = indexed rest
  binary_ahead n MakeString rest = filled n string_label (omega arith) rest
  binary_ahead n MakeVector rest = filled n vector_label (omega arith) rest
  binary_ahead n _ rest = refl

  pair_ahead : (heap_end n : ℕ) (which : Primitive) → Ahead (pair_or_binary heap_end n which)
  pair_ahead heap_end n Cons rest = stop 7 (omega arith) rest
  pair_ahead heap_end n which rest = binary_ahead n which rest

  ternary_ahead : (which : Primitive) → Ahead (ternary_code which)
  ternary_ahead StringSet rest = away 1 (omega arith) (has 1 (labels_in rest)) _ ∙ indexed rest
  ternary_ahead VectorSet rest = indexed rest
  ternary_ahead _ rest = refl

  atom_ahead : (r : ℕ) (a : Atom Place) → Ahead (atom_code r a)
  atom_ahead r (Constant c) rest = refl
  atom_ahead r (Variable p) rest = refl
  atom_ahead r (Literal n) rest = refl

  read_ahead : (n : ℕ) (which : Primitive) (atoms : List (Atom Place)) → Ahead (read_code n which atoms)
  read_ahead n which [] rest = refl
  read_ahead n which (a ∷ []) rest = atom_ahead 0 a (unary_code n which rest) ∙ unary_ahead n which rest
  read_ahead n which (a ∷ (b ∷ [])) rest = atom_ahead 0 a (atom_code 1 b (binary_code n which rest))
      ∙ atom_ahead 1 b (binary_code n which rest) ∙ binary_ahead n which rest
  read_ahead n which (a ∷ (b ∷ (c ∷ atoms))) rest = refl

  operand_ahead : (n : ℕ) (o : Operand Place) → Ahead (operand_code n o)
  operand_ahead n (operand.Atom a) rest = atom_ahead 0 a rest
  operand_ahead n (operand.Read site which atoms) rest = read_ahead n which atoms rest

  second_ahead : (n : ℕ) (o : Operand Place) → Ahead (second_code n o)
  second_ahead n (operand.Atom a) rest = atom_ahead 1 a rest
  second_ahead n (operand.Read site which atoms) rest = read_ahead n which atoms _

  index_ahead : (o : Operand Place) → Ahead (index_operand o)
  index_ahead (operand.Atom a) rest = atom_ahead 1 a rest
  index_ahead (operand.Read site which atoms) rest = stop 1 (omega arith) rest

  source_ahead : (r : ℕ) (x : Source Place) → Ahead (source_code r x)
  source_ahead r (source.Atom a) rest = atom_ahead r a rest
  source_ahead r (source.Field p k) rest = refl

  fields_ahead : (offset : ℕ) (sources : List (Source Place)) → Ahead (fields_code offset sources)
  fields_ahead offset [] rest = refl
  fields_ahead offset (x ∷ sources) rest = source_ahead 1 x _ ∙ fields_ahead (offset + 8) sources rest

  places_ahead : (offset : ℕ) (members : List (Member Place)) (spills : List ℕ) → Ahead (places_code offset members spills)
  places_ahead offset [] spills rest = refl
  places_ahead offset (m ∷ members) spills rest =
      spill_same (jumps_ahead own) (λ kind is. refl) m.at spills _ ∙ places_ahead (offset + closure_bytes m.closure) members (spills_behind m.at spills) rest

  record_ahead : (offset : ℕ) (c : Closure Place) → nat_lt c.label count ≡ true → Ahead (record_code offset c)
  record_ahead offset c e rest = begins c.label e _ _ ∙ fields_ahead (offset + 8) c.fields rest

  records_ahead : (offset : ℕ) (members : List (Member Place)) → members_few count members ≡ true
      → Ahead (records_code offset members)
  records_ahead offset [] e rest = refl
  records_ahead offset (m ∷ members) e rest =
      let p = and_parts (nat_lt m.closure.label count) (members_few count members) e in
      record_ahead offset m.closure p.0 _ ∙ records_ahead (offset + closure_bytes m.closure) members p.1 rest

  operation_ahead : (heap_end literals n : ℕ) (o : Operation Place) → operation_few count o ≡ true
      → Ahead (operation_code heap_end literals n o)
  operation_ahead heap_end literals n (operation.Operand o) e rest = operand_ahead n o rest
  operation_ahead heap_end literals n (operation.Prim site which []) e rest = refl
  operation_ahead heap_end literals n (operation.Prim site which (o ∷ [])) e rest = operand_ahead n o
      (unary_code (n + 8) which rest) ∙ unary_ahead (n + 8) which rest
  operation_ahead heap_end literals n (operation.Prim site which (o ∷ (q ∷ []))) e rest =
      operand_ahead n o _ ∙ second_ahead (n + 4) q _ ∙ pair_ahead heap_end (n + 8) which rest
  operation_ahead heap_end literals n (operation.Prim site which (o ∷ (q ∷ (r ∷ [])))) e rest =
      operand_ahead n r _ ∙ operand_ahead (n + 4) o _ ∙ index_ahead q _ ∙ ternary_ahead which rest
  operation_ahead heap_end literals n (operation.Prim site which (o ∷ (q ∷ (r ∷ (s ∷ operands))))) e rest = refl
  operation_ahead heap_end literals n (operation.Global g) e rest = stop 9 (omega arith) rest
  operation_ahead heap_end literals n (operation.SetGlobal g o) e rest = operand_ahead n o _
  operation_ahead heap_end literals n (operation.Field p k) e rest = refl
  operation_ahead heap_end literals n (operation.NewCell x) e rest = source_ahead 0 x _ ∙ stop 7 (omega arith) rest
  operation_ahead heap_end literals n operation.UnsetCell e rest = stop 7 (omega arith) rest
  operation_ahead heap_end literals n (operation.CellGet x) e rest = source_ahead 0 x _ ∙ away 9 (omega arith) true _
      ∙ stop 9 (omega arith) rest
  operation_ahead heap_end literals n (operation.CellSet x o) e rest = operand_ahead n o _ ∙ source_ahead 1 x _
      ∙ stop 9 (omega arith) rest
  operation_ahead heap_end literals n (operation.MakeClosure c) e rest = away 7 (omega arith) true _ ∙ record_ahead 0 c e _

  -- ---- bodies

  -- a label behind a body
  behind_body : (base out words heap_end literals n l : ℕ) (is : List Instruction) (rest : List Item)
      → has l (labels_in rest) ≡ true → has l (labels_in (body_code base out words heap_end literals n is rest)) ≡ true
  behind_body base out words heap_end literals n l is rest e = ap (has l)
      (body_labelled base out words heap_end literals n is rest) ∙ append_right l (body_labels base n is) (labels_in rest) e

  within_body : (base out words heap_end literals n l : ℕ) (is : List Instruction) (rest : List Item)
      → has l (frames.labels_in is) ≡ true → has (base + l) (labels_in (body_code base out words heap_end literals n is rest)) ≡ true
  within_body base out words heap_end literals n l is rest e = ap (has (base + l))
      (body_labelled base out words heap_end literals n is rest) ∙ append_left (base + l) (body_labels base n is) (labels_in rest)
      (label_in base n l is e)

  body_ahead : (base out words heap_end literals n : ℕ) (is : List Instruction) (rest : List Item)
      → frames.jumps_ahead is ≡ true → list_all (labels_few count) is ≡ true → has out (labels_in rest) ≡ true
      → jumps_ahead own (body_code base out words heap_end literals n is rest) ≡ jumps_ahead own rest
  body_ahead base out words heap_end literals n [] rest e f o = refl
  body_ahead base out words heap_end literals n (instruction.IfFalse l ∷ is) rest e f o =
      let p = and_parts (has l (frames.labels_in is)) (frames.jumps_ahead is) e in
      near (base + l) _ _ (within_body base out words heap_end literals (n + labels_needed (instruction.IfFalse l))
      l is rest p.0)
      ∙ body_ahead base out words heap_end literals (n + labels_needed (instruction.IfFalse l)) is rest p.1 f o
  body_ahead base out words heap_end literals n (instruction.Jump l ∷ is) rest e f o =
      let p = and_parts (has l (frames.labels_in is)) (frames.jumps_ahead is) e in
      near (base + l) _ _ (within_body base out words heap_end literals (n + labels_needed (instruction.Jump l)) l
      is rest p.0)
      ∙ body_ahead base out words heap_end literals (n + labels_needed (instruction.Jump l)) is rest p.1 f o
  body_ahead base out words heap_end literals n (instruction.End ∷ is) rest e f o = near out _ _
      (behind_body base out words heap_end literals (n + labels_needed instruction.End) out is rest o)
      ∙ body_ahead base out words heap_end literals (n + labels_needed instruction.End) is rest e f o
  body_ahead base out words heap_end literals n (instruction.Do q ∷ is) rest e f o =
      let g = and_parts (operation_few count q) (list_all (labels_few count) is) f in
      operation_ahead heap_end literals n q g.0 (body_code base out words heap_end literals
      (n + labels_needed (instruction.Do q)) is rest)
      ∙ body_ahead base out words heap_end literals (n + labels_needed (instruction.Do q)) is rest e g.1 o
  body_ahead base out words heap_end literals n (instruction.Fix members spills ∷ is) rest e f o =
      let g = and_parts (members_few count members) (list_all (labels_few count) is) f in
      away 7 (omega arith) true _ ∙ places_ahead 0 members spills _ ∙ records_ahead 0 members g.0 _
      ∙ body_ahead base out words heap_end literals (n + labels_needed (instruction.Fix members spills)) is rest e g.1 o
  body_ahead base out words heap_end literals n (instruction.Store p ∷ is) rest e f o =
      body_ahead base out words heap_end literals (n + labels_needed (instruction.Store p)) is rest e f o
  body_ahead base out words heap_end literals n (instruction.Copy p q ∷ is) rest e f o =
      body_ahead base out words heap_end literals (n + labels_needed (instruction.Copy p q)) is rest e f o
  body_ahead base out words heap_end literals n (instruction.Pass j ∷ is) rest e f o =
      body_ahead base out words heap_end literals (n + labels_needed (instruction.Pass j)) is rest e f o
  body_ahead base out words heap_end literals n (instruction.Call spread count ∷ is) rest e f o =
      near_to own n _ _ (in_here n (labels_in (body_code base out words heap_end literals
      (n + labels_needed (instruction.Call spread count)) is rest)))
      ∙ body_ahead base out words heap_end literals (n + labels_needed (instruction.Call spread count)) is rest e f o
  body_ahead base out words heap_end literals n (instruction.Tail spread count ∷ is) rest e f o =
      body_ahead base out words heap_end literals (n + labels_needed (instruction.Tail spread count)) is rest e f o
  body_ahead base out words heap_end literals n (instruction.Return ∷ is) rest e f o =
      body_ahead base out words heap_end literals (n + labels_needed instruction.Return) is rest e f o
  body_ahead base out words heap_end literals n (instruction.Label l ∷ is) rest e f o =
      body_ahead base out words heap_end literals (n + labels_needed (instruction.Label l)) is rest e f o
  body_ahead base out words heap_end literals n (instruction.Mark m ∷ is) rest e f o =
      body_ahead base out words heap_end literals (n + labels_needed (instruction.Mark m)) is rest e f o

  passed_ahead : (q : Option Entry) (out : ℕ) (rest : List Item) → has out (labels_in rest) ≡ true
      → jumps_ahead own (passed_code q out rest) ≡ jumps_ahead own rest
  passed_ahead None out rest e = refl
  passed_ahead (Some q) out rest e = near out (has out (labels_in rest)) (jumps_ahead own rest) e

  entry_behind : (q : Option Entry) (n : ℕ) (rest : List Item) (l : ℕ) → has l (labels_in rest) ≡ true
      → has l (labels_in (entry_code q n rest)) ≡ true
  entry_behind None n rest l e = e
  entry_behind (Some q) n rest l e = count_behind q.rest q.formals n rest l e

  entry_ahead : (q : Option Entry) (n : ℕ) → Ahead (entry_code q n)
  entry_ahead None n rest = refl
  entry_ahead (Some e) n rest = count_ahead own e.rest e.formals n rest

  forms_ahead : (words heap_end literals label n : ℕ) (cs : List Code) (rest : List Item)
      → list_all (λ c. forward c.labels c.instructions) cs ≡ true
      → list_all (λ c. list_all (labels_few count) c.instructions) cs ≡ true
      → jumps_ahead own (forms_code words heap_end literals label n cs rest) ≡ jumps_ahead own rest
  forms_ahead words heap_end literals label n [] rest e f = refl
  forms_ahead words heap_end literals label n (c ∷ cs) rest e f =
      let g = and_parts (list_all (labels_few count) c.instructions)
      (list_all (λ c. list_all (labels_few count) c.instructions) cs) f in
      let p = and_parts (forward c.labels c.instructions) (list_all (λ c. forward c.labels c.instructions) cs) e in
      let q = and_parts (list_all (λ l. nat_lt l c.labels) (frames.labels_in c.instructions))
      (without_repeats (frames.labels_in c.instructions) && frames.jumps_ahead c.instructions) p.0 in
      let r = and_parts (without_repeats (frames.labels_in c.instructions)) (frames.jumps_ahead c.instructions) q.1 in
      let out = n + c.labels in
      let others = forms_code words heap_end literals (suc label) (labels_end n c) cs rest in
      let last = item.Label out ∷ others in
      let there : has out (labels_in last) ≡ true = in_here out (labels_in others) in
      let body = item.Mark (Enter label) ∷ body_code n out words heap_end literals (n + c.labels + 2) c.instructions last in
      let in_body : has out (labels_in body) ≡ true = behind_body n out words heap_end literals (n + c.labels + 2) out
      c.instructions last there in
      passed_ahead c.entry out _ (in_more out (body_label label) (labels_in (entry_code c.entry (n + c.labels + 1) body))
      (entry_behind c.entry (n + c.labels + 1) body out in_body))
      ∙ entry_ahead c.entry (n + c.labels + 1) body ∙ body_ahead n out words heap_end literals (n + c.labels + 2) c.instructions last r.1 g.0
      there ∙ forms_ahead words heap_end literals (suc label) (labels_end n c) cs rest p.1 g.1

pub program_ahead : (p : tree.Source) (heap depth : ℕ) → list_all (λ c. forward c.labels c.instructions) p.bodies ≡ true
    → list_all (λ c. list_all (labels_few (length p.bodies)) c.instructions) p.bodies ≡ true
    → jumps_ahead (own_label p) (selected_code p heap depth) ≡ true
program_ahead p heap depth e f =
    forms_ahead (length p.bodies) p.words (heap_of p + heap) (count_literals p.statics.literals) 0 (own_label p) p.bodies (item.Jump 0 ∷ []) e f
