-- How much there is to do at most in what a body is laid out as, wherever its variables live: one for each instruction
-- with what its operation has, and one for each closure of a group and each procedure that is jumped over. A unit has
-- room for what is copied beside it, with variables in slots and with variables in registers (`RegisterWork`).
use Rattle.std.specs.Prelude.{ℕ, suc, ◌+◌, List, [], ◌∷◌, length, Option, Some, None}
use Rattle.sch_control.specs.declared.body.Entry.{Entry}
use Rattle.sch_control.specs.declared.operation.Operand.{Operand}
use Rattle.sch_control.specs.AtomsAndSites.{member_atoms}
use Rattle.sch_control.specs.Sizes.{operand_size, operation_size}
use Rattle.sch_control.specs.Tree.{Expression, perform, bind, sequence, branch, fix, call, tail_call, return, end, save, Code}

-- each operand of a call is put aside, and handed over by at most two
abbrev pub operands_work : {V : Type 0} → List (Operand V) → ℕ
operands_work [] = 0
operands_work (o ∷ operands) = 3 + operand_size o + operands_work operands

-- One for each node with what its operation has. A branch has a jump over its third part, and one test more than the
-- branches in its test, and two for what is saved at the heads of its arms; a call counts twice, and also loads its
-- operator, and then the return address.
abbrev pub expression_work : Expression → ℕ
expression_work (perform o) = suc (operation_size o)
expression_work (bind x a b) = suc (expression_work a + expression_work b)
expression_work (sequence a b) = suc (expression_work a + expression_work b)
expression_work (branch a b c) = 5 + (expression_work a + (expression_work b + expression_work c))
expression_work (fix members e) = suc (length members + length (member_atoms members) + expression_work e)
expression_work (call a restores) = 4 + operand_size a.operator + operands_work a.operands
expression_work (tail_call a) = 2 + operand_size a.operator + operands_work a.operands
expression_work (return e) = suc (expression_work e)
expression_work (end e) = suc (expression_work e)
expression_work (save saves e) = suc (expression_work e)

-- a procedure is jumped over, and stores its return address, its closure and its arguments
abbrev pub entry_work : Option Entry → ℕ
entry_work None = 0
entry_work (Some e) = 3 + e.formals

abbrev pub code_work : Code → ℕ
code_work c = entry_work c.entry + expression_work c.expression

abbrev pub codes_work : List Code → ℕ
codes_work [] = 0
codes_work (c ∷ codes) = code_work c + codes_work codes
