-- What an operation does, by where its values stand: `at` has the value of a variable, or none.
use Rattle.std.specs.Prelude.{ℕ, List, [], ◌∷◌, ◌++◌, length, Option, Some, None, slice_get}
use Rattle.sch_word.specs.declared.primitive.Primitive.{Primitive}
use Rattle.sch_word.specs.values.Values.{Value, procedure, cell, constant_value}
use Rattle.sch_word.specs.runs.Store.{Store}
use Rattle.sch_word.specs.runs.Computation.{Outcome, gives, State, Computation, after, in_store, read_global, write_global, read_cell, write_cell, new_procedure, with_cell}
use Rattle.sch_word.specs.runs.Charges.{charge, cell_bytes, procedure_bytes}
use Rattle.sch_word.specs.runs.Procedures.{Procedure}
use Rattle.sch_word.specs.values.PrimitiveRows.{primitive}
use Rattle.sch_word.specs.values.Options.{when_some}
use Rattle.sch_control.specs.declared.operation.Atom.{Atom}
use Rattle.sch_control.specs.declared.operation.Atom.TheVariants.{Constant, Literal, Variable}
use Rattle.sch_control.specs.declared.operation.Operand.{Operand}
use Rattle.sch_control.specs.declared.operation.Operand.TheVariants as operand
use Rattle.sch_control.specs.declared.operation.Source.{Source}
use Rattle.sch_control.specs.declared.operation.Source.TheVariants as source
use Rattle.sch_control.specs.declared.operation.Member.{Member}
use Rattle.sch_control.specs.declared.operation.Operation.{Operation}
use Rattle.sch_control.specs.declared.operation.Operation.TheVariants as operation
use Rattle.sch_control.specs.declared.operation.Application.{Application}

-- what an operation ends with; none where some value that it reads is not there
abbrev pub Ending : Type 0
Ending = Option (Outcome (State Procedure) Value)

-- one value more
abbrev pub and_value : {A : Type 0} → Option A → Option (List A) → Option (List A)
and_value (Some v) (Some vs) = Some (v ∷ vs)
and_value _ _ = None

-- ## Reads

abbrev pub given : Outcome Store Value → Option Value
given (gives v t) = Some v
given _ = None

-- what a primitive gives that only reads
abbrev pub read : Primitive → Store → Option (List Value) → Option Value
read which t None = None
read which t (Some vs) = given (primitive which vs t)

-- ## Procedures

abbrev pub field_of : Option Procedure → ℕ → Option Value
field_of None k = None
field_of (Some p) k = slice_get p.fields k

-- a field of the procedure that a value is
abbrev pub field : Option Value → ℕ → List Procedure → Option Value
field (Some (procedure n)) k procedures = field_of (slice_get procedures n) k
field _ k procedures = None

-- a new procedure with these fields, for its charge
abbrev pub close : ℕ → List Value → Computation Procedure Value
close label fields =
    after (in_store (charge (procedure_bytes (length fields))))
    (λ _. new_procedure (record { label = label; fields = fields }))

-- ## Cells

-- a new cell, for its charge
abbrev pub new_cell : Option Value → Computation Procedure Value
new_cell contents =
    after (in_store (charge cell_bytes))
    (λ _ s. gives (cell (length s.cells)) (record s { cells = s.cells ++ contents ∷ [] }))

module _ {V : Type 0} (at : V → Option Value) where
  -- ## Values

  abbrev pub atom_value : Store → Atom V → Option Value
  atom_value t (Constant c) = Some (constant_value c)
  atom_value t (Literal n) = slice_get t.constants.literals n
  atom_value t (Variable v) = at v

  abbrev pub atom_values : Store → List (Atom V) → Option (List Value)
  atom_values t [] = Some []
  atom_values t (a ∷ atoms) = and_value (atom_value t a) (atom_values t atoms)

  abbrev pub operand_value : Store → Operand V → Option Value
  operand_value t (operand.Atom a) = atom_value t a
  operand_value t (operand.Read site which atoms) = read which t (atom_values t atoms)

  abbrev pub operand_values : Store → List (Operand V) → Option (List Value)
  operand_values t [] = Some []
  operand_values t (o ∷ operands) = and_value (operand_value t o) (operand_values t operands)

  -- the operator's value and the operands'
  abbrev pub part_values : Store → Application V → Option (List Value)
  part_values t application = operand_values t (application.operator ∷ application.operands)

  abbrev pub source_value : State Procedure → Source V → Option Value
  source_value s (source.Atom a) = atom_value s.store a
  source_value s (source.Field v k) = field (at v) k s.procedures

  abbrev pub source_values : State Procedure → List (Source V) → Option (List Value)
  source_values s [] = Some []
  source_values s (x ∷ sources) = and_value (source_value s x) (source_values s sources)

  -- ## Operations

  abbrev pub operate : Operation V → State Procedure → Ending
  operate (operation.Operand o) s = when_some (operand_value s.store o) (λ v. Some (gives v s))
  operate (operation.Prim site which operands) s =
      when_some (operand_values s.store operands) (λ vs. Some (in_store (primitive which vs) s))
  operate (operation.Global g) s = Some (in_store (read_global g) s)
  operate (operation.SetGlobal g o) s = when_some (operand_value s.store o) (λ v. Some (in_store (write_global g v) s))
  operate (operation.Field v k) s = when_some (field (at v) k s.procedures) (λ u. Some (gives u s))
  operate (operation.NewCell c) s = when_some (source_value s c) (λ v. Some (new_cell (Some v) s))
  operate operation.UnsetCell s = Some (new_cell None s)
  operate (operation.CellGet c) s = when_some (source_value s c) (λ v. Some (with_cell v read_cell s))
  operate (operation.CellSet c o) s =
      when_some (source_value s c)
      (λ v. when_some (operand_value s.store o) (λ u. Some (with_cell v (λ n. write_cell n u) s)))
  operate (operation.MakeClosure c) s = when_some (source_values s c.fields) (λ vs. Some (close c.label vs s))

  -- ## Groups

  -- the procedures of a group
  abbrev pub members_made : State Procedure → List (Member V) → Option (List Procedure)
  members_made s [] = Some []
  members_made s (m ∷ members) =
      and_value (when_some (source_values s m.closure.fields) (λ vs. Some (record { label = m.closure.label; fields = vs })))
      (members_made s members)

-- what the procedures of a group are charged, in the order of the text
abbrev pub member_bytes : {V : Type 0} → List (Member V) → List ℕ
member_bytes [] = []
member_bytes (m ∷ members) = procedure_bytes (length m.closure.fields) ∷ member_bytes members

-- the state with a group's procedures, if they can be made
abbrev pub with_procedures : State Procedure → Option (List Procedure) → Option (State Procedure)
with_procedures s None = None
with_procedures s (Some made) = Some (record s { procedures = s.procedures ++ made })
