-- The moves of a call: those of a greedy shuffle of its arguments. The operator is argument 0, and operands are the others.
use Rattle.std.specs.Prelude.{ℕ, suc, ◌+◌, ◌-◌, max, Bool, ◌&&◌, cond, not, List, [], ◌∷◌, length, filter, map, slice_get}
use Rattle.std.specs.List.{list_any, slice_index_or}
use Rattle.std.specs.Option.{unwrap_or}
use Rattle.sch_word.specs.declared.constant.Const.TheVariants.{Nil}
use Rattle.sch_word.specs.declared.place.Place.{Place}
use Rattle.sch_word.specs.declared.place.Place.TheVariants.{Reg, Slot}
use Rattle.sch_word.specs.trees.Bindings.{numbers}
use Rattle.sch_word.specs.values.Registers.{argument_registers}
use Rattle.sch_control.specs.declared.operation.Application.{Application}
use Rattle.sch_control.specs.declared.operation.Atom.{Atom}
use Rattle.sch_control.specs.declared.operation.Atom.TheVariants.{Constant, Literal, Variable}
use Rattle.sch_control.specs.declared.operation.Operand.{Operand}
use Rattle.sch_control.specs.declared.operation.Operand.TheVariants as operand
use Rattle.sch_layout.specs.BodyLayout.{arguments_at, target}
use Rattle.sch_layout.specs.Moves.{Move}
use Rattle.sch_shuffle.specs.Assignment.{Transfer}
use Rattle.sch_shuffle.specs.Greedy.{made}
use Rattle.sch_shuffle.specs.Tree.{Tree, fixed, literal, place, read, trees, uses}
use Rattle.sch_word.specs.values.Places.{same_place}

-- From this slot on a place is one of the frame that a call opens: more than a frame has words.
abbrev pub next_frame : ℕ
next_frame = 4096

-- ## Arguments

-- What a shuffle is told of an operand: the places that it uses. What a constant is does not matter to it.
abbrev pub atom_tree : Atom Place → Tree
atom_tree (Constant c) = fixed 0
atom_tree (Literal n) = literal n
atom_tree (Variable p) = place p

abbrev pub operand_tree : Operand Place → Tree
operand_tree (operand.Atom a) = atom_tree a
operand_tree (operand.Read site which atoms) = read which (trees (map atom_tree atoms))

-- what a move of a shuffle takes: what a place holds, or else its argument, with its site
abbrev pub taken : Tree → Operand Place → Operand Place
taken (place p) o = operand.Atom (Variable p)
taken (fixed n) o = o
taken (literal n) o = o
taken (read which xs) o = o

abbrev pub argument_of : List (Operand Place) → ℕ → Operand Place
argument_of arguments k = slice_index_or arguments k (operand.Atom (Constant Nil))

abbrev pub move_of : List (Operand Place) → Transfer → Move
move_of arguments t = record { argument = t.argument; from = taken t.from (argument_of arguments t.argument); to = t.to; temp = t.temp }

-- ## Places

-- where so many arguments go
abbrev pub targets : (tail : Bool) → (count : ℕ) → List Place
targets tail count = map (target tail next_frame) (numbers 0 count)

-- a place that is no target and that no argument uses
abbrev pub is_spare : List Tree → List Place → Place → Bool
is_spare args targets p = not (list_any (λ q. same_place q p) targets) && not (list_any (λ x. uses x p) args)

-- the registers of arguments that are spare
abbrev pub spare_registers : List Tree → List Place → List Place
spare_registers args targets = filter (is_spare args targets) (map Reg argument_registers)

-- a temporary by its number: one of these places, or one of the slots from one on
abbrev pub temporary : List Place → (first number : ℕ) → Place
temporary places first number = unwrap_or (slice_get places number) (Slot (first + (number - length places)))

abbrev pub temporaries : List Place → (first count : ℕ) → List Place
temporaries places first count = map (temporary places first) (numbers 0 count)

-- The slots of temporaries begin behind others that are in use, and behind those in which a tail call hands operands over.
abbrev pub first_temporary : (end operands : ℕ) → ℕ
first_temporary end operands = max end (operands - length argument_registers)

-- ## Calls

-- `lives`: where variables live
abbrev pub call_arguments : (lives : ℕ → Place) → Application ℕ → List Tree
call_arguments lives a = map operand_tree (arguments_at lives a)

abbrev pub call_targets : (tail : Bool) → Application ℕ → List Place
call_targets tail a = targets tail (suc (length a.operands))

-- where arguments may be set aside, as many places as there are arguments; slots are in use up to `end`
abbrev pub call_free : (end : ℕ) → (lives : ℕ → Place) → (tail : Bool) → Application ℕ → List Place
call_free end lives tail a =
    temporaries (spare_registers (call_arguments lives a) (call_targets tail a)) (first_temporary end (length a.operands)) (suc (length a.operands))

abbrev pub call_moves : (end : ℕ) → (lives : ℕ → Place) → (tail : Bool) → Application ℕ → List Move
call_moves end lives tail a =
    map (move_of (arguments_at lives a)) (made (call_arguments lives a) (call_targets tail a) (call_free end lives tail a))

-- ## How many slots they take

-- one past a slot
abbrev pub slot_end : Place → ℕ
slot_end (Reg r) = 0
slot_end (Slot j) = suc j

-- one past the last slot in which moves set something aside, where that is more than what there is already
abbrev pub aside_end : (end : ℕ) → List Move → ℕ
aside_end end [] = end
aside_end end (m ∷ moves) = max (cond m.temp (slot_end m.to) 0) (aside_end end moves)

-- one past the last slot that a call needs
abbrev pub call_end : (end : ℕ) → (lives : ℕ → Place) → (tail : Bool) → Application ℕ → ℕ
call_end end lives tail a = aside_end (first_temporary end (length a.operands)) (call_moves end lives tail a)
