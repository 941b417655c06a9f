-- The layout of an expression: its tree in order, as instructions. What follows is an argument, so nothing is
-- appended. Each variable has a place, and one that lives in a register has a home, in which it is saved. The arguments of
-- a call are brought where it takes them by moves from outside.
use Rattle.std.specs.Prelude.{◌≡◌, ℕ, zero, suc, ◌+◌, ◌-◌, nat_lt, Bool, true, false, cond, List, [], ◌∷◌, ◌++◌, length, Option, Some, None, filter, map}
use Rattle.sch_word.specs.declared.place.Place.{Place}
use Rattle.sch_word.specs.declared.place.Place.TheVariants.{Reg, Slot}
use Rattle.sch_control.specs.declared.body.Entry.{Entry}
use Rattle.sch_word.specs.declared.mark.MarkKind.{MarkKind}
use Rattle.sch_word.specs.declared.mark.MarkKind.TheVariants as mark
use Rattle.sch_control.specs.declared.operation.Atom.{Atom}
use Rattle.sch_control.specs.declared.operation.Atom.TheVariants.{Constant, Literal, Variable}
use Rattle.sch_control.specs.declared.operation.Operand.{Operand}
use Rattle.sch_control.specs.declared.operation.Operand.TheVariants as operand
use Rattle.sch_control.specs.declared.operation.Source.{Source}
use Rattle.sch_control.specs.declared.operation.Source.TheVariants as source
use Rattle.sch_control.specs.declared.operation.Closure.{Closure}
use Rattle.sch_control.specs.declared.operation.Member.{Member}
use Rattle.sch_control.specs.declared.operation.Operation.{Operation}
use Rattle.sch_control.specs.declared.operation.Operation.TheVariants as operation
use Rattle.sch_control.specs.declared.operation.Application.{Application}
use Rattle.sch_control.specs.Meaning.{Reading, heads, with_region}
use Rattle.sch_control.specs.Tree.{Expression, perform, bind, sequence, branch, fix, call, tail_call, return, end, save}
use Rattle.sch_control.specs.Valid.{member_variables}
use Rattle.sch_control.specs.flow.Places.{arrival, variable_arrival, argument_register, argument_slot, register_or_slot}
use Rattle.sch_frames.specs.declared.instruction.Instruction.{Instruction}
use Rattle.sch_frames.specs.declared.instruction.Instruction.TheVariants.{Do, Store, Copy, Pass, Fix, Call, Tail, Return, End, IfFalse, Jump, Label, Mark}
use Rattle.sch_layout.specs.Moves.{Move}
use Rattle.sch_word.specs.values.Places.{same_place, closure_place, is_slot}

-- ## Labels

-- Where a value goes: it is left in the accumulator, or tested, with a label where `#f` goes on.
abbrev pub leave : Option ℕ → List Instruction → List Instruction
leave None rest = rest
leave (Some l) rest = IfFalse l ∷ rest

-- how many labels an expression has
abbrev pub labels : Expression → ℕ
labels (bind x a b) = labels a + labels b
labels (sequence a b) = labels a + labels b
labels (branch a b c) = suc (suc (labels a + (labels b + labels c)))
labels (fix members e) = labels e
labels (return e) = labels e
labels (end e) = labels e
labels (save saves e) = labels e
labels _ = zero

-- what writing adds to instructions: code in front of whatever follows
abbrev pub Writes : (old new : List Instruction) → (code : List Instruction → List Instruction) → Type 0
Writes old new code = (rest : List Instruction) → new ++ rest ≡ old ++ code rest

-- ## Places for variables

module _ (place : ℕ → Place) where
  abbrev pub atom_at : Atom ℕ → Atom Place
  atom_at (Constant c) = Constant c
  atom_at (Literal n) = Literal n
  atom_at (Variable x) = Variable (place x)

  abbrev pub atoms_at : List (Atom ℕ) → List (Atom Place)
  atoms_at = map atom_at

  abbrev pub operand_at : Operand ℕ → Operand Place
  operand_at (operand.Atom a) = operand.Atom (atom_at a)
  operand_at (operand.Read site which atoms) = operand.Read site which (atoms_at atoms)

  abbrev pub operands_at : List (Operand ℕ) → List (Operand Place)
  operands_at = map operand_at

  abbrev pub source_at : Source ℕ → Source Place
  source_at (source.Atom a) = source.Atom (atom_at a)
  source_at (source.Field x k) = source.Field (place x) k

  abbrev pub sources_at : List (Source ℕ) → List (Source Place)
  sources_at = map source_at

  abbrev pub closure_at : Closure ℕ → Closure Place
  closure_at c = record { label = c.label; fields = sources_at c.fields }

  abbrev pub operation_at : Operation ℕ → Operation Place
  operation_at (operation.Operand o) = operation.Operand (operand_at o)
  operation_at (operation.Prim site which operands) = operation.Prim site which (operands_at operands)
  operation_at (operation.Global g) = operation.Global g
  operation_at (operation.SetGlobal g o) = operation.SetGlobal g (operand_at o)
  operation_at (operation.Field x k) = operation.Field (place x) k
  operation_at (operation.NewCell c) = operation.NewCell (source_at c)
  operation_at operation.UnsetCell = operation.UnsetCell
  operation_at (operation.CellGet c) = operation.CellGet (source_at c)
  operation_at (operation.CellSet c o) = operation.CellSet (source_at c) (operand_at o)
  operation_at (operation.MakeClosure c) = operation.MakeClosure (closure_at c)

  abbrev pub member_at : Member ℕ → Member Place
  member_at m = record { at = place m.at; closure = closure_at m.closure }

  abbrev pub members_at : List (Member ℕ) → List (Member Place)
  members_at = map member_at

  -- the operator of a call and its operands, which are its arguments 0, 1 and on
  abbrev pub arguments_at : Application ℕ → List (Operand Place)
  arguments_at a = operands_at (a.operator ∷ a.operands)

-- ## Calls

-- where argument k of a call is wanted: the operator, and then operands; the slots of the next frame begin at a limit
abbrev pub target : (tail : Bool) → (limit : ℕ) → ℕ → Place
target tail limit zero = closure_place
target true limit (suc k) = arrival k
target false limit (suc k) = register_or_slot (argument_register k) (limit + argument_slot k)

-- ## Saves and restores

-- Where each variable lives; where one that lives in a register is saved; from which slot on a place is one of the frame that a
-- call opens, any number that is no less than the size of the frame; and the moves of a call or a tail call.
pub record Plan : Type 0 where
  pub place : ℕ → Place
  pub home : ℕ → Place
  pub limit : ℕ
  pub moves : (tail : Bool) → Application ℕ → List Move

-- an instruction, perhaps behind a mark of its own
abbrev pub under : Option MarkKind → Instruction → List Instruction → List Instruction
under None i rest = i ∷ rest
under (Some m) i rest = Mark m ∷ (i ∷ rest)

-- ## Entries

module _ (plan : Plan) where
  -- a variable that lives in a slot is stored there under its mark
  abbrev pub spill : ℕ → Option MarkKind
  spill x = cond (is_slot (plan.place x)) (Some (mark.Spill x)) None

  -- what stands in its place already is not copied
  abbrev pub brought : ℕ → List Instruction → List Instruction
  brought x rest = cond (same_place (plan.place x) (variable_arrival x)) rest (under (spill x) (Copy (plan.place x) (variable_arrival x)) rest)

  -- a number of variables from one on come into their places, one after the other
  abbrev pub arrivals : (from count : ℕ) → List Instruction → List Instruction
  arrivals from zero rest = rest
  arrivals from (suc count) rest = brought from (arrivals (suc from) count rest)

  -- a procedure brings its closure and then its arguments into their places
  abbrev pub entering : Option Entry → List Instruction → List Instruction
  entering None rest = rest
  entering (Some e) rest = arrivals 1 (suc e.formals) rest

-- ## Moves

-- under which mark a move writes
abbrev pub move_mark : Move → Option MarkKind
move_mark m = cond m.temp (Some mark.Temp) (cond (is_slot m.to) (Some mark.Argument) None)

module _ (limit : ℕ) where
  -- what the accumulator holds is written to a place of the own frame, or to a slot of the next one
  abbrev pub writing : Place → Instruction
  writing (Reg r) = Store (Reg r)
  writing (Slot j) = cond (nat_lt j limit) (Store (Slot j)) (Pass (j - limit))

  -- into a register, or from a register into the own frame, one instruction does
  abbrev pub is_direct : (to from : Place) → Bool
  is_direct (Reg r) from = true
  is_direct (Slot j) (Reg r) = nat_lt j limit
  is_direct (Slot j) (Slot i) = false

  -- what stands in its target already is not moved
  abbrev pub move_into : (to : Place) → Option MarkKind → Operand Place → List Instruction → List Instruction
  move_into to m (operand.Atom (Variable p)) rest =
      cond (same_place to p) rest
      (cond (is_direct to p) (under m (Copy to p) rest) (Do (operation.Operand (operand.Atom (Variable p))) ∷ under m (writing to) rest))
  move_into to m o rest = Do (operation.Operand o) ∷ under m (writing to) rest

  abbrev pub move_all : List Move → List Instruction → List Instruction
  move_all [] rest = rest
  move_all (m ∷ moves) rest = move_into m.to (move_mark m) m.from (move_all moves rest)

-- ## Expressions

module _ (plan : Plan) where
  -- How an expression is read that is laid out so: a call keeps what lives in slots. The reading leaves no marks but those of
  -- calls and returns; those of a layout are known by its paths.
  abbrev pub unmarked_reading : Reading
  unmarked_reading = record {
    keeps = λ x. is_slot (plan.place x);
    spills = λ x. false;
    is_marked = λ x. false;
    moves = λ site. [];
  }

  -- each of some variables that lives in a register is copied under its mark; what lives in a slot stays there
  abbrev pub carried : (kind : ℕ → MarkKind) → (to from : ℕ → Place) → List ℕ → List Instruction → List Instruction
  carried kind to from [] rest = rest
  carried kind to from (x ∷ xs) rest =
      cond (is_slot (plan.place x)) (carried kind to from xs rest) (Mark (kind x) ∷ (Copy (to x) (from x) ∷ carried kind to from xs rest))

  -- what is saved goes home, and what is restored comes from there
  abbrev pub stored : List ℕ → List Instruction → List Instruction
  stored xs rest = carried mark.Save plan.home plan.place xs rest

  abbrev pub loaded : List ℕ → List Instruction → List Instruction
  loaded xs rest = carried mark.Restore plan.place plan.home xs rest

  -- The instructions of an expression, whose labels are numbered from n on, and then the rest. `inside` has the variables
  -- of the regions round it. A region stores at its head what it does not bind, and the others where they are bound.
  abbrev pub lay : Expression → (inside : ℕ → Bool) → (n : ℕ) → (test : Option ℕ) → List Instruction → List Instruction
  lay (perform o) inside n test rest = Do (operation_at plan.place o) ∷ leave test rest
  lay (bind x a b) inside n test rest =
      lay a inside n None (under (spill plan x) (Store (plan.place x))
      (stored (filter inside (x ∷ [])) (lay b inside (n + labels a) test rest)))
  lay (sequence a b) inside n test rest = lay a inside n None (lay b inside (n + labels a) test rest)
  lay (branch a b c) inside n test rest =
      lay a inside (suc (suc n)) (Some n)
      (lay b inside (suc (suc (n + labels a))) test
      (Jump (suc n) ∷ (Label n ∷ lay c inside (suc (suc (n + labels a + labels b))) test (Label (suc n) ∷ rest))))
  lay (fix members e) inside n test rest =
      Fix (members_at plan.place members) (filter (λ x. is_slot (plan.place x)) (member_variables members))
      ∷ stored (filter inside (member_variables members)) (lay e inside n test rest)
  lay (call a restores) inside n test rest =
      move_all plan.limit (plan.moves false a)
      (Mark (mark.Call a.site) ∷ (Call a.spread (length a.operands) ∷ loaded restores (leave test rest)))
  lay (tail_call a) inside n test rest =
      move_all plan.limit (plan.moves true a) (Mark (mark.Tail a.site) ∷ (Tail a.spread (length a.operands) ∷ rest))
  lay (return e) inside n test rest = lay e inside n None (Mark mark.Return ∷ (Return ∷ rest))
  lay (end e) inside n test rest = lay e inside n None (End ∷ rest)
  lay (save saves e) inside n test rest = stored (heads e saves) (lay e (with_region saves inside) n test rest)
