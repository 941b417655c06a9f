-- How much there is to do at most, and how many words to copy, in what a body is laid out as whose variables live in
-- registers. A copy is one `mov` between a register and a slot, or between two registers, and is counted apart.
use Rattle.std.specs.Prelude.{ℕ, suc, ◌+◌, ◌*◌, List, [], ◌∷◌, length, Option, Some, None}
use Rattle.std.specs.Option.{option_len}
use Rattle.sch_control.specs.declared.body.Entry.{Entry}
use Rattle.sch_control.specs.declared.operation.Application.{Application}
use Rattle.sch_control.specs.AtomsAndSites.{member_atoms}
use Rattle.sch_control.specs.Sizes.{operand_size, operation_size}
use Rattle.sch_control.specs.Tree.{Expression, perform, bind, sequence, branch, fix, call, tail_call, return, end, save, Code}
use Rattle.sch_control.specs.Work.{operands_work}

-- The most registers that are saved at the head of one region, and the most that are restored behind one call: what is live
-- at one point has a register of its own, and there are six for variables, the return address and the closure.
abbrev pub most_kept : ℕ
most_kept = 8

-- ## What there is to do

-- the operator and the operands go through the accumulator, and an operand goes so once more where it was put aside
abbrev pub arguments_done : Application ℕ → ℕ
arguments_done a = suc (operand_size a.operator + operands_work a.operands)

-- As `expression_work`, but a binding is a copy alone, and what a region saves is none of it.
abbrev pub expression_done : Expression → ℕ
expression_done (perform o) = suc (operation_size o)
expression_done (bind x a b) = expression_done a + expression_done b
expression_done (sequence a b) = expression_done a + expression_done b
expression_done (branch a b c) = 3 + (expression_done a + (expression_done b + expression_done c))
expression_done (fix members e) = suc (length members + length (member_atoms members) + expression_done e)
expression_done (call a restores) = 2 + arguments_done a
expression_done (tail_call a) = 1 + arguments_done a
expression_done (return e) = suc (expression_done e)
expression_done (end e) = suc (expression_done e)
expression_done (save saves e) = expression_done e

-- a procedure is jumped over
abbrev pub entry_done : Option Entry → ℕ
entry_done e = option_len e

abbrev pub code_done : Code → ℕ
code_done c = entry_done c.entry + expression_done c.expression

-- ## What is copied

-- an argument comes into its place, by way of another at most
abbrev pub arguments_copies : Application ℕ → ℕ
arguments_copies a = 2 * suc (length a.operands)

-- What is bound comes into its place and is saved at most, and a member of a group is saved at most. At the head of each arm
-- of a branch so many may be saved as are kept, and as many restored behind a call that is no tail call.
abbrev pub expression_copies : Expression → ℕ
expression_copies (perform o) = 0
expression_copies (bind x a b) = 2 + (expression_copies a + expression_copies b)
expression_copies (sequence a b) = expression_copies a + expression_copies b
expression_copies (branch a b c) = 2 * most_kept + (expression_copies a + (expression_copies b + expression_copies c))
expression_copies (fix members e) = length members + expression_copies e
expression_copies (call a restores) = most_kept + arguments_copies a
expression_copies (tail_call a) = arguments_copies a
expression_copies (return e) = expression_copies e
expression_copies (end e) = expression_copies e
expression_copies (save saves e) = expression_copies e

-- A procedure's closure and arguments come into their places, and at the head of its body so many are saved as are kept. A
-- form has nothing to save at its head.
abbrev pub entry_copies : Option Entry → ℕ
entry_copies None = 0
entry_copies (Some e) = suc e.formals + most_kept

abbrev pub code_copies : Code → ℕ
code_copies c = entry_copies c.entry + expression_copies c.expression

-- ## All bodies

abbrev pub codes_done : List Code → ℕ
codes_done [] = 0
codes_done (c ∷ codes) = code_done c + codes_done codes

abbrev pub codes_copies : List Code → ℕ
codes_copies [] = 0
codes_copies (c ∷ codes) = code_copies c + codes_copies codes
