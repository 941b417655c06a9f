-- With variables in registers 64 bytes for what there is to do and 8 for each copy are no more than 72 for each unit of work.
use Rattle.std.proofs.Common.{ℕ, ◌+◌, ◌*◌, ◌≤◌, List, [], ◌∷◌, length, Option, Some, None, arith}
use Rattle.sch_control.specs.declared.body.Entry.{Entry}
use Rattle.sch_control.specs.declared.operation.Operand.{Operand}
use Rattle.sch_control.specs.Tree.{Expression, perform, bind, sequence, branch, fix, call, tail_call, return, end, save, Code}
use Rattle.sch_control.specs.Work.{code_work, codes_work, entry_work, expression_work, operands_work}
use Rattle.sch_control.specs.RegisterWork.{code_copies, code_done, codes_copies, codes_done, entry_copies, entry_done, expression_copies, expression_done}
use Rattle.sch_control.proofs.OperandSizes.{operand_long}

operands_long : (operands : List (Operand ℕ)) → 4 * length operands ≤ operands_work operands
operands_long [] = omega arith
operands_long (o ∷ operands) = let h = operand_long o in let k = operands_long operands in omega (arith, h, k)

expression_fits : (e : Expression) → 64 * expression_done e + 8 * expression_copies e ≤ 72 * expression_work e
expression_fits (perform o) = omega arith
expression_fits (bind x a b) = let h = expression_fits a in let k = expression_fits b in omega (arith, h, k)
expression_fits (sequence a b) = let h = expression_fits a in let k = expression_fits b in omega (arith, h, k)
expression_fits (branch a b c) = let h = expression_fits a in let k = expression_fits b in let l = expression_fits c in omega (arith, h, k, l)
expression_fits (fix members e) = let h = expression_fits e in omega (arith, h)
expression_fits (call a restores) = let h = operand_long a.operator in let k = operands_long a.operands in omega (arith, h, k)
expression_fits (tail_call a) = let h = operand_long a.operator in let k = operands_long a.operands in omega (arith, h, k)
expression_fits (return e) = let h = expression_fits e in omega (arith, h)
expression_fits (end e) = let h = expression_fits e in omega (arith, h)
expression_fits (save saves e) = let h = expression_fits e in omega (arith, h)

entry_fits : (entry : Option Entry) → 64 * entry_done entry + 8 * entry_copies entry ≤ 72 * entry_work entry
entry_fits None = omega arith
entry_fits (Some e) = omega arith

code_fits : (c : Code) → 64 * code_done c + 8 * code_copies c ≤ 72 * code_work c
code_fits c = let h = entry_fits c.entry in let k = expression_fits c.expression in omega (arith, h, k)

-- So it is of all bodies of a program.
pub codes_fit : (codes : List Code) → 64 * codes_done codes + 8 * codes_copies codes ≤ 72 * codes_work codes
codes_fit [] = omega arith
codes_fit (c ∷ codes) = let h = code_fits c in let k = codes_fit codes in omega (arith, h, k)

-- Where there are no more than seven units for each of a size, their text is within 512 bytes for each, beside what every
-- program has.
pub units_fit : (done copies units size : ℕ) → 64 * done + 8 * copies ≤ 72 * units → units ≤ 7 * size → 65536 + (64 * done + 8 * copies) ≤ 65536 + 512 * size
units_fit done copies units size fits few = omega (arith, fits, few)
