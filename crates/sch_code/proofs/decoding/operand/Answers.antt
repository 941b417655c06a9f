use Rattle.std.proofs.Common.{None, sym, subst, ◌∙◌, arith}
use Rattle.std.specs.Prelude.{IfSome}
use Rattle.sch_code.proofs.OperandRead.{within, value, nothing, no_byte}
use Rattle.sch_code.proofs.decoding.operand.Goals as goal

pub returns : goal.returns
returns c = record {
  within = within c.args.bytes.now (rw c.is_empty.ensures at c.if-is_empty.false) _ c.in_ok-m.ensures.within;
  value = value c.args.bytes.now (rw c.is_empty.ensures at c.if-is_empty.false) _ _ _ _ c.in_ok-m.ensures.value;
}

pub returns-then-is_empty : goal.returns-then-is_empty
returns-then-is_empty c = record { within = tt; value = no_byte c.args.bytes.now (rw c.is_empty.ensures at c.if-is_empty.true) c.args.r c.args.b }

pub returns-in_err-m-clause-value : goal.returns-in_err-m-clause-value
returns-in_err-m-clause-value c =
    c.from_residual.ensures ∙ nothing c.args.bytes.now (rw c.is_empty.ensures at c.if-is_empty.false) c.args.r c.args.b (sym c.in_err-m.was ∙ c.arg.ensures.value)

pub overflow_mul-reg : goal.overflow_mul-reg
overflow_mul-reg c = record { fits = omega arith }

pub overflow_add-reg : goal.overflow_add-reg
overflow_add-reg c = record { fits = omega arith }

pub arg-requires : goal.arg-requires
arg-requires c = record { high = c.requires.b; low = omega arith }
