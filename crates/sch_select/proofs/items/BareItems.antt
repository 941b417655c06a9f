-- What operations, records and the checks of operands have among their items: no marks, and no write of a word of a frame.
use Rattle.std.proofs.Common.{◌≡◌, ℕ, ◌+◌, ◌-◌, List, [], ◌∷◌, ◌++◌, Bool, true, false, Option, Some, None, refl, ap, ◌∙◌}
use Rattle.std.specs.Prelude.{nat_lt, not}
use Rattle.std.specs.List.{list_all}
use Rattle.std.proofs.lemmas.Bool.{and_parts}
use Rattle.sch_word.specs.declared.place.Place.{Place}
use Rattle.sch_word.specs.declared.primitive.Primitive.{Primitive}
use Rattle.sch_word.specs.declared.primitive.Primitive.TheVariants.{IsBoolean, Eq, Cons, StringSet}
use Rattle.sch_control.specs.declared.body.Entry.{Entry}
use Rattle.sch_control.specs.declared.operation.Atom.{Atom}
use Rattle.sch_control.specs.declared.operation.Atom.TheVariants.{Constant, Literal, Variable}
use Rattle.sch_control.specs.declared.operation.Operand.{Operand}
use Rattle.sch_control.specs.declared.operation.Operand.TheVariants as operand
use Rattle.sch_control.specs.declared.operation.Source.{Source}
use Rattle.sch_control.specs.declared.operation.Source.TheVariants as source
use Rattle.sch_control.specs.declared.operation.Member.{Member}
use Rattle.sch_control.specs.declared.operation.Operation.{Operation}
use Rattle.sch_control.specs.declared.operation.Operation.TheVariants as operation
use Rattle.sch_asm.specs.declared.item.Item.{Item}
use Rattle.sch_asm.specs.declared.item.Item.TheVariants as item
use Rattle.sch_select_memory.specs.RestCode.{list_code}
use Rattle.sch_select_operations.specs.OperandCode.{atom_code, unary_code, binary_code, read_code, operand_code, second_code}
use Rattle.sch_select_operations.specs.CellCode.{source_code}
use Rattle.sch_select_operations.specs.ClosureCode.{fields_code, closure_bytes, records_code}
use Rattle.sch_select_operations.specs.PrimitiveCode.{pair_or_binary, ternary_code, index_operand}
use Rattle.sch_select_operations.specs.OperationCode.{operation_code}
use Rattle.sch_select.specs.MarkedStores.{writes_frame}
use Rattle.sch_select.specs.Program.{count_code, entry_code, passed_code}
use Rattle.sch_select.proofs.items.AppendedItems.{Appends, operation_appends, records_appends}
use Rattle.sch_select.proofs.items.RestItems.{entry_appends, passed_appends}

abbrev pub is_bare : Item → Bool
is_bare (item.Mark m) = false
is_bare i = not (writes_frame i)

-- what comes in front of other items is bare
abbrev Bare : (List Item → List Item) → Type 0
Bare f = (rest : List Item) → list_all is_bare (f rest) ≡ list_all is_bare rest

unary_bare : (n : ℕ) (which : Primitive) → Bare (unary_code n which)
unary_bare n IsBoolean rest = refl
unary_bare n _ rest = refl

binary_bare : (n : ℕ) (which : Primitive) → Bare (binary_code n which)
binary_bare n Eq rest = refl
binary_bare n _ rest = refl

atom_bare : (r : ℕ) (a : Atom Place) → Bare (atom_code r a)
atom_bare r (Constant c) rest = refl
atom_bare r (Variable p) rest = refl
atom_bare r (Literal n) rest = refl

read_bare : (n : ℕ) (which : Primitive) (atoms : List (Atom Place)) → Bare (read_code n which atoms)
read_bare n which [] rest = refl
read_bare n which (a ∷ []) rest = atom_bare 0 a (unary_code n which rest) ∙ unary_bare n which rest
read_bare n which (a ∷ (b ∷ [])) rest = atom_bare 0 a (atom_code 1 b (binary_code n which rest))
    ∙ atom_bare 1 b (binary_code n which rest) ∙ binary_bare n which rest
read_bare n which (a ∷ (b ∷ (c ∷ atoms))) rest = refl

pair_bare : (heap_end n : ℕ) (which : Primitive) → Bare (pair_or_binary heap_end n which)
pair_bare heap_end n Cons rest = refl
pair_bare heap_end n which rest = binary_bare n which rest

ternary_bare : (which : Primitive) → Bare (ternary_code which)
ternary_bare StringSet rest = refl
ternary_bare _ rest = refl

operand_bare : (n : ℕ) (o : Operand Place) → Bare (operand_code n o)
operand_bare n (operand.Atom a) rest = atom_bare 0 a rest
operand_bare n (operand.Read site which atoms) rest = read_bare n which atoms rest

second_bare : (n : ℕ) (o : Operand Place) → Bare (second_code n o)
second_bare n (operand.Atom a) rest = atom_bare 1 a rest
second_bare n (operand.Read site which atoms) rest = read_bare n which atoms _

index_bare : (o : Operand Place) → Bare (index_operand o)
index_bare (operand.Atom a) rest = atom_bare 1 a rest
index_bare (operand.Read site which atoms) rest = refl

source_bare : (r : ℕ) (x : Source Place) → Bare (source_code r x)
source_bare r (source.Atom a) rest = atom_bare r a rest
source_bare r (source.Field p k) rest = refl

fields_bare : (offset : ℕ) (sources : List (Source Place)) → Bare (fields_code offset sources)
fields_bare offset [] rest = refl
fields_bare offset (x ∷ sources) rest = source_bare 1 x _ ∙ fields_bare (offset + 8) sources rest

records_bare : (offset : ℕ) (members : List (Member Place)) → Bare (records_code offset members)
records_bare offset [] rest = refl
records_bare offset (m ∷ members) rest = fields_bare (offset + 8) m.closure.fields _
    ∙ records_bare (offset + closure_bytes m.closure) members rest

operation_bare : (heap_end literals n : ℕ) (o : Operation Place) → Bare (operation_code heap_end literals n o)
operation_bare heap_end literals n (operation.Operand o) rest = operand_bare n o rest
operation_bare heap_end literals n (operation.Prim site which []) rest = refl
operation_bare heap_end literals n (operation.Prim site which (o ∷ [])) rest = operand_bare n o
    (unary_code (n + 8) which rest) ∙ unary_bare (n + 8) which rest
operation_bare heap_end literals n (operation.Prim site which (o ∷ (q ∷ []))) rest =
    operand_bare n o _ ∙ second_bare (n + 4) q _ ∙ pair_bare heap_end (n + 8) which rest
operation_bare heap_end literals n (operation.Prim site which (o ∷ (q ∷ (r ∷ [])))) rest =
    operand_bare n r _ ∙ operand_bare (n + 4) o _ ∙ index_bare q _ ∙ ternary_bare which rest
operation_bare heap_end literals n (operation.Prim site which (o ∷ (q ∷ (r ∷ (s ∷ operands))))) rest = refl
operation_bare heap_end literals n (operation.Global g) rest = refl
operation_bare heap_end literals n (operation.SetGlobal g o) rest = operand_bare n o _
operation_bare heap_end literals n (operation.Field p k) rest = refl
operation_bare heap_end literals n (operation.NewCell x) rest = source_bare 0 x _
operation_bare heap_end literals n operation.UnsetCell rest = refl
operation_bare heap_end literals n (operation.CellGet x) rest = source_bare 0 x _
operation_bare heap_end literals n (operation.CellSet x o) rest = operand_bare n o _ ∙ source_bare 1 x _
operation_bare heap_end literals n (operation.MakeClosure c) rest = fields_bare 8 c.fields _

passed_bare : (o : Option Entry) (out : ℕ) → Bare (passed_code o out)
passed_bare None out rest = refl
passed_bare (Some e) out rest = refl

list_bare : (b : Bool) (required n : ℕ) → Bare (list_code b required n)
list_bare true required n rest = refl
list_bare false required n rest = refl

count_bare : (b : Bool) (formals n : ℕ) → Bare (count_code b formals n)
count_bare false formals n rest = refl
count_bare true formals n rest = list_bare (nat_lt (formals - 1) 6) (formals - 1) n rest

entry_bare : (o : Option Entry) (n : ℕ) → Bare (entry_code o n)
entry_bare None n rest = refl
entry_bare (Some e) n rest = count_bare e.rest e.formals n rest

-- ## What does not see bare items is the same behind them

module _ {A : Type 0} (F : List Item → A) (unseen : (i : Item) (is : List Item) → is_bare i ≡ true → F (i ∷ is) ≡ F is) where
  over : (xs rest : List Item) → list_all is_bare xs ≡ true → F (xs ++ rest) ≡ F rest
  over [] rest h = refl
  over (i ∷ is) rest h = let p = and_parts (is_bare i) (list_all is_bare is) h in unseen i (is ++ rest) p.0 ∙ over is rest p.1

  behind_bare : (f : List Item → List Item) → Appends f → Bare f → (rest : List Item) → F (f rest) ≡ F rest
  behind_bare f a b rest = ap F (a rest) ∙ over (f []) rest (b [])

  pub behind_operation : (heap_end literals n : ℕ) (o : Operation Place) (rest : List Item) → F (operation_code heap_end literals n o rest) ≡ F rest
  behind_operation heap_end literals n o = behind_bare (operation_code heap_end literals n o) (operation_appends heap_end literals n o) (operation_bare heap_end literals n o)

  pub behind_records : (offset : ℕ) (members : List (Member Place)) (rest : List Item) → F (records_code offset members rest) ≡ F rest
  behind_records offset members = behind_bare (records_code offset members) (records_appends offset members) (records_bare offset members)

  pub behind_passed : (o : Option Entry) (out : ℕ) (rest : List Item) → F (passed_code o out rest) ≡ F rest
  behind_passed o out = behind_bare (passed_code o out) (passed_appends o out) (passed_bare o out)

  pub behind_entry : (o : Option Entry) (n : ℕ) (rest : List Item) → F (entry_code o n rest) ≡ F rest
  behind_entry o n = behind_bare (entry_code o n) (entry_appends o n) (entry_bare o n)
