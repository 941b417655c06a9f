-- Which frame programs have their items, by tests of each part: their places, constants, literals, globals, fields
-- and operands are in range, and what is done has its items.
use Rattle.std.specs.Prelude.{◌≡◌, ℕ, Bool, true, false, ◌&&◌, not, nat_eq, nat_lt, nat_le, List, [], ◌∷◌, length, ◌+◌, ◌||◌, Option, Some, None}
use Rattle.std.proofs.lemmas.Bool.{and_parts, false≢true, true≢false}
use Rattle.std.specs.List.{list_all}
use Rattle.sch_word.specs.declared.place.Place.{Place}
use Rattle.sch_word.specs.declared.primitive.Primitive.{Primitive}
use Rattle.sch_word.specs.values.Primitives.{operands_of}
use Rattle.sch_word.specs.declared.primitive.Primitive.TheVariants.{Eq, Eqv, IsBoolean, IsPair, IsNull, IsSymbol}
use Rattle.sch_word.specs.declared.primitive.Primitive.TheVariants.{IsInteger, IsChar, IsString, IsVector}
use Rattle.sch_word.specs.declared.primitive.Primitive.TheVariants.{IsProcedure, Add, Subtract, Multiply, Quotient}
use Rattle.sch_word.specs.declared.primitive.Primitive.TheVariants.{Remainder, Modulo, Equal, Less, Greater}
use Rattle.sch_word.specs.declared.primitive.Primitive.TheVariants.{LessEqual, GreaterEqual, CharToInteger}
use Rattle.sch_word.specs.declared.primitive.Primitive.TheVariants.{IntegerToChar}
use Rattle.sch_word.specs.values.Literals.{count_literals, constant_known}
use Rattle.sch_word.specs.values.Values.{is_constant}
use Rattle.sch_word.specs.trees.Shape.{max_operands, max_free_variables}
use Rattle.sch_control.specs.declared.body.Entry.{Entry}
use Rattle.sch_control.specs.declared.operation.Atom.{Atom}
use Rattle.sch_control.specs.declared.operation.Atom.TheVariants.{Constant, Literal, Variable}
use Rattle.sch_control.specs.declared.operation.Operand.{Operand}
use Rattle.sch_control.specs.declared.operation.Operand.TheVariants as operand
use Rattle.sch_control.specs.declared.operation.Source.{Source}
use Rattle.sch_control.specs.declared.operation.Source.TheVariants as source
use Rattle.sch_control.specs.declared.operation.Closure.{Closure}
use Rattle.sch_control.specs.declared.operation.Member.{Member}
use Rattle.sch_control.specs.declared.operation.Operation.{Operation}
use Rattle.sch_control.specs.declared.operation.Operation.TheVariants as operation
use Rattle.sch_control.specs.Valid.{only_reads}
use Rattle.sch_frames.specs.declared.instruction.Instruction.{Instruction}
use Rattle.sch_frames.specs.declared.instruction.Instruction.TheVariants.{Do, Store, Copy, Pass, Fix, Call}
use Rattle.sch_frames.specs.declared.instruction.Instruction.TheVariants.{Tail, Return, End, IfFalse, Jump, Label}
use Rattle.sch_frames.specs.declared.instruction.Instruction.TheVariants.{Mark}
use Rattle.sch_frames.specs.Tree.{Code}
use Rattle.sch_frames.specs.Tree as tree
use Rattle.sch_word.specs.values.Places.{is_slot}
use Rattle.sch_control.specs.flow.Places.{formals_of}
use Rattle.sch_frames.specs.Valid.{handed_over, in_slots, is_place}
use Rattle.sch_frames.specs.Covered.{marks_settled}

-- the primitives that are computed of words alone
abbrev pub is_computed : Primitive → Bool
is_computed Eq = true
is_computed Eqv = true
is_computed IsBoolean = true
is_computed IsPair = true
is_computed IsNull = true
is_computed IsSymbol = true
is_computed IsInteger = true
is_computed IsChar = true
is_computed IsString = true
is_computed IsVector = true
is_computed IsProcedure = true
is_computed Add = true
is_computed Subtract = true
is_computed Multiply = true
is_computed Quotient = true
is_computed Remainder = true
is_computed Modulo = true
is_computed Equal = true
is_computed Less = true
is_computed Greater = true
is_computed LessEqual = true
is_computed GreaterEqual = true
is_computed CharToInteger = true
is_computed IntegerToChar = true
is_computed _ = false

-- whether a primitive takes this number of operands
abbrev pub takes : ℕ → Primitive → Bool
takes count which = nat_eq (operands_of which) count

-- Two tests that do not hold together: a primitive that a match leaves over is refused by it, with nothing else in sight.
pub not_both : (a b : Bool) → a && b ≡ false → a ≡ true → b ≡ true → ⊥
not_both true true n p q = true≢false n
not_both true false n p q = false≢true q
not_both false b n p q = false≢true p

-- there are this many words of a frame, globals, symbols and literals
module _ (words globals symbols literals : ℕ) where
  abbrev pub atom_selected : Atom Place → Bool
  atom_selected (Constant c) = constant_known symbols c && is_constant c
  atom_selected (Variable p) = is_place words p
  atom_selected (Literal n) = nat_lt n literals

  abbrev pub read_selected : Primitive → List (Atom Place) → Bool
  read_selected which (a ∷ []) = (only_reads which && takes 1 which) && atom_selected a
  read_selected which (a ∷ (b ∷ [])) = (only_reads which && takes 2 which) && (atom_selected a && atom_selected b)
  read_selected which _ = false

  abbrev pub operand_selected : Operand Place → Bool
  operand_selected (operand.Atom a) = atom_selected a
  operand_selected (operand.Read site which atoms) = read_selected which atoms

  abbrev pub primitive_selected : Primitive → List (Operand Place) → Bool
  primitive_selected which (a ∷ []) = takes 1 which && operand_selected a
  primitive_selected which (a ∷ (b ∷ [])) = takes 2 which && (operand_selected a && operand_selected b)
  primitive_selected which (a ∷ (b ∷ (c ∷ []))) =
      takes 3 which && (operand_selected a && (operand_selected b && operand_selected c))
  primitive_selected which _ = false

  -- the operands of a primitive of three
  pub three_selected : (which : Primitive) (a b c : Operand Place) → primitive_selected which (a ∷ (b ∷ (c ∷ []))) ≡ true
      → (operand_selected a ≡ true) × ((operand_selected b ≡ true) × (operand_selected c ≡ true))
  three_selected which a b c e =
      let s = (and_parts (takes 3 which) (operand_selected a && (operand_selected b && operand_selected c)) e).1 in
      let t = and_parts (operand_selected a) (operand_selected b && operand_selected c) s in
      (t.0, and_parts (operand_selected b) (operand_selected c) t.1)

  abbrev pub source_selected : Source Place → Bool
  source_selected (source.Atom a) = atom_selected a
  source_selected (source.Field p k) = is_place words p && nat_lt k max_free_variables

  abbrev pub closure_selected : Closure Place → Bool
  closure_selected c = nat_le (length c.fields) max_free_variables && list_all source_selected c.fields

  abbrev pub members_selected : List (Member Place) → Bool
  members_selected [] = true
  members_selected (m ∷ members) = is_place words m.at && (closure_selected m.closure && members_selected members)

  abbrev pub operation_selected : Operation Place → Bool
  operation_selected (operation.Operand o) = operand_selected o
  operation_selected (operation.Prim site which operands) = primitive_selected which operands
  operation_selected (operation.Global g) = nat_lt g globals
  operation_selected (operation.SetGlobal g o) = nat_lt g globals && operand_selected o
  operation_selected (operation.Field p k) = is_place words p && nat_lt k max_free_variables
  operation_selected (operation.NewCell x) = source_selected x
  operation_selected operation.UnsetCell = true
  operation_selected (operation.CellGet x) = source_selected x
  operation_selected (operation.CellSet x o) = source_selected x && operand_selected o
  operation_selected (operation.MakeClosure c) = closure_selected c

  abbrev pub instruction_selected : Instruction → Bool
  instruction_selected (Do o) = operation_selected o
  instruction_selected (Store p) = is_place words p
  instruction_selected (Copy to from) = not (is_slot to && is_slot from) && (is_place words to && is_place words from)
  instruction_selected (Pass k) = nat_lt k words
  instruction_selected (Call spread count) = not spread && (nat_le count max_operands && handed_over words count)
  instruction_selected (Tail spread count) = not spread && (nat_le count max_operands && handed_over words count)
  instruction_selected (Fix members spills) =
      nat_eq (length spills) (in_slots members) && (nat_le (length members) max_operands && members_selected members)
  instruction_selected Return = true
  instruction_selected End = true
  instruction_selected (IfFalse l) = true
  instruction_selected (Jump l) = true
  instruction_selected (Label l) = true
  instruction_selected (Mark m) = true

  abbrev pub form_selected : Code → Bool
  form_selected c = nat_le (formals_of c.entry) max_operands && list_all instruction_selected c.instructions

-- a rest variable is a formal, and the formals are in registers or in slots of a frame
abbrev pub entry_selected : (words : ℕ) → Option Entry → Bool
entry_selected words None = true
entry_selected words (Some e) = (nat_le 1 e.formals || not e.rest) && nat_le e.formals (6 + words)

-- the bodies that an instruction names are among those that there are
abbrev pub members_few : ℕ → List (Member Place) → Bool
members_few count [] = true
members_few count (m ∷ members) = nat_lt m.closure.label count && members_few count members

abbrev pub operation_few : ℕ → Operation Place → Bool
operation_few count (operation.MakeClosure c) = nat_lt c.label count
operation_few count _ = true

abbrev pub labels_few : ℕ → Instruction → Bool
labels_few count (Do o) = operation_few count o
labels_few count (Fix members spills) = members_few count members
labels_few count _ = true

abbrev pub selects : tree.Source → Bool
selects p = list_all (form_selected p.words (length p.statics.globals) (length p.statics.symbols)
    (count_literals p.statics.literals)) p.bodies && list_all (λ c. marks_settled true c.instructions) p.bodies
