-- A plan for the worked rows: a slot for each variable but the return address, which is saved round the body, and arguments that
-- are set aside in slots behind these.
use Rattle.std.specs.Prelude.{ℕ, zero, suc, ◌+◌, ◌-◌, max, Bool, true, false, ◌&&◌, cond, nat_le, nat_lt, List, [], ◌∷◌, ◌++◌, length, map, None}
use Rattle.sch_word.specs.declared.place.Place.{Place}
use Rattle.sch_word.specs.declared.place.Place.TheVariants.{Slot}
use Rattle.sch_word.specs.values.Registers.{argument_registers}
use Rattle.sch_control.specs.declared.operation.Application.{Application}
use Rattle.sch_control.specs.declared.operation.Atom.TheVariants.{Variable}
use Rattle.sch_control.specs.declared.operation.Operand.{Operand}
use Rattle.sch_control.specs.declared.operation.Operand.TheVariants as operand
use Rattle.sch_control.specs.Meaning.{no_region}
use Rattle.sch_control.specs.Tree as control
use Rattle.sch_control.specs.Tree.{Expression, perform, bind, sequence, branch, fix, call, tail_call, return, end, save}
use Rattle.sch_frames.specs.declared.instruction.Instruction.{Instruction}
use Rattle.sch_word.specs.values.Places.{link_place}
use Rattle.sch_frames.specs.Sizes.{frame_words}
use Rattle.sch_frames.specs.Tree.{Code}
use Rattle.sch_control.specs.flow.Places.{formals_of}
use Rattle.sch_frames.specs.Valid.{is_entered, max_words}
use Rattle.sch_layout.specs.BodyLayout.{Plan, arguments_at, entering, labels, lay, target}
use Rattle.sch_layout.specs.Moves.{Move}

-- ## Moves

module _ (base : ℕ) where
  -- arguments from number k on are set aside, in the slots from `base + k` on
  abbrev aside_each : (k : ℕ) → List (Operand Place) → List Move
  aside_each k [] = []
  aside_each k (o ∷ os) = record { argument = k; from = o; to = Slot (base + k); temp = true } ∷ aside_each (suc k) os

  -- and from there each goes to its target
  abbrev onward_each : (tail : Bool) → (limit k count : ℕ) → List Move
  onward_each tail limit k zero = []
  onward_each tail limit k (suc count) =
      record { argument = k; from = operand.Atom (Variable (Slot (base + k))); to = target tail limit k; temp = false }
      ∷ onward_each tail limit (suc k) count

  abbrev pub aside_moves : (place : ℕ → Place) → (limit : ℕ) → (tail : Bool) → Application ℕ → List Move
  aside_moves place limit tail a = aside_each 0 (arguments_at place a) ++ onward_each tail limit 0 (suc (length a.operands))

-- ## Places

-- a formal past the sixth, which arrives in a slot
abbrev is_late : (formals : ℕ) → ℕ → Bool
is_late formals x = nat_le 8 x && nat_lt x (2 + formals)

-- LINK_REGISTER for the return address; the slot in which it arrives for a late formal; and for each other variable a slot behind
-- a base
abbrev own_place : (formals base : ℕ) → ℕ → Place
own_place formals base zero = link_place
own_place formals base (suc x) = cond (is_late formals (suc x)) (Slot (suc x - 8)) (Slot (base + suc x))

-- the slots in which late formals arrive are those before the base
abbrev slots_base : control.Code → ℕ
slots_base c = formals_of c.entry - length argument_registers

-- the home of the return address is the slot at the base, and the slots in which arguments are set aside are behind the variables
abbrev pub slots_for : control.Code → Plan
slots_for c = record {
  place = own_place (formals_of c.entry) (slots_base c);
  home = λ x. Slot (slots_base c);
  limit = max_words;
  moves = aside_moves (slots_base c + c.variables) (own_place (formals_of c.entry) (slots_base c)) max_words;
}

-- ## What is saved

-- an expression without regions, with these variables restored after each call
abbrev restoring : List ℕ → Expression → Expression
restoring xs (perform o) = perform o
restoring xs (bind x a b) = bind x (restoring xs a) (restoring xs b)
restoring xs (sequence a b) = sequence (restoring xs a) (restoring xs b)
restoring xs (branch a b c) = branch (restoring xs a) (restoring xs b) (restoring xs c)
restoring xs (fix members e) = fix members (restoring xs e)
restoring xs (call a restores) = call a xs
restoring xs (tail_call a) = tail_call a
restoring xs (return e) = return (restoring xs e)
restoring xs (end e) = end (restoring xs e)
restoring xs (save saves e) = restoring xs e

-- what calls must not lose: the return address, variable 0 of a procedure
abbrev saved_round : (entered : Bool) → List ℕ
saved_round true = 0 ∷ []
saved_round false = []

-- the tree that is laid out for the expression of a body: this is saved round it, and restored after each call
abbrev pub saved_tree : (entered : Bool) → Expression → Expression
saved_tree entered e = save (saved_round entered) (restoring (saved_round entered) e)

-- ## Bodies

-- the most operands of one call
abbrev pub most_operands : Expression → ℕ
most_operands (perform o) = 0
most_operands (bind x a b) = max (most_operands a) (most_operands b)
most_operands (sequence a b) = max (most_operands a) (most_operands b)
most_operands (branch a b c) = max (most_operands a) (max (most_operands b) (most_operands c))
most_operands (fix members e) = most_operands e
most_operands (call a restores) = length a.operands
most_operands (tail_call a) = length a.operands
most_operands (return e) = most_operands e
most_operands (end e) = most_operands e
most_operands (save saves e) = most_operands e

-- behind the base a slot for each variable, and behind these one for the operator of a call and for each of its operands
abbrev pub slots_words : control.Code → ℕ
slots_words c = slots_base c + c.variables + suc (most_operands c.expression)

abbrev pub slots_layout : control.Code → List Instruction
slots_layout c = entering (slots_for c) c.entry (lay (slots_for c) (saved_tree (is_entered c.entry) c.expression) no_region 0 None [])

abbrev pub slots_code : control.Code → Code
slots_code c = record { entry = c.entry; words = slots_words c; labels = labels c.expression; instructions = slots_layout c }

-- the words that the largest frame of some bodies counts with
abbrev pub most_words : List control.Code → ℕ
most_words codes = frame_words (map slots_code codes)
