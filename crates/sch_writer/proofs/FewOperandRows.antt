-- Worked rows: calls of as many operands as a call may have, and of one more; and that each part of an expression is looked at.
use Rattle.std.proofs.Common.{◌≡◌, ◌≤◌, ℕ, List, length, arith}
use Rattle.std.specs.Prelude.{◌↔◌}
use Rattle.std.specs.declared.alloc.Global.{Global}
use Rattle.std.specs.declared.boxed.Box.{Box}
use Rattle.sch_control.specs.declared.operation.Application.{Application}
use Rattle.sch_control.specs.declared.operation.Member.{Member}
use Rattle.sch_control.specs.declared.operation.Operation.{Operation}
use Rattle.sch_control.specs.declared.tree.Exp.{Exp}
use Rattle.sch_control.specs.declared.tree.Exp.TheVariants.{Do, Bind, Seq, If, Fix, Call, TailCall, Return, End, Save}
use Rattle.sch_writer.specs.FewOperands.{FewOperands}

-- of trees whose calls list what they restore
abbrev Few : Exp (List ℕ) → Type 0
Few e = FewOperands e

-- ## Calls

most_operands : (a : Application ℕ) (restores : List ℕ) → length a.operands ≡ 200 → Few (Call a restores)
most_operands a restores n = let few : length a.operands ≤ 200 = omega (arith, n) in few

one_more_operand : (a : Application ℕ) (restores : List ℕ) → length a.operands ≡ 201 → Few (Call a restores) → ⊥
one_more_operand a restores n h = let few : length a.operands ≤ 200 = h in omega (arith, n, few)

most_of_tail_call : (a : Application ℕ) → length a.operands ≡ 200 → Few (TailCall a)
most_of_tail_call a n = let few : length a.operands ≤ 200 = omega (arith, n) in few

one_more_of_tail_call : (a : Application ℕ) → length a.operands ≡ 201 → Few (TailCall a) → ⊥
one_more_of_tail_call a n h = let few : length a.operands ≤ 200 = h in omega (arith, n, few)

no_call : (o : Operation ℕ) → Few (Do o)
no_call o = tt

-- ## Parts

abbrev Part : Type 0
Part = Box (Exp (List ℕ)) Global

same : (A : Type 0) → A ↔ A
same A = (λ a. a, λ a. a)

bind_row : (x : ℕ) (a b : Part) → Few (Bind x a b) ↔ (Few a.value × Few b.value)
bind_row x a b = same (Few (Bind x a b))

sequence_row : (a b : Part) → Few (Seq a b) ↔ (Few a.value × Few b.value)
sequence_row a b = same (Few (Seq a b))

branch_row : (a b c : Part) → Few (If a b c) ↔ (Few a.value × (Few b.value × Few c.value))
branch_row a b c = same (Few (If a b c))

group_row : (members : List (Member ℕ)) (e : Part) → Few (Fix members e) ↔ (Few e.value)
group_row members e = same (Few (Fix members e))

return_row : (e : Part) → Few (Return e) ↔ (Few e.value)
return_row e = same (Few (Return e))

end_row : (e : Part) → Few (End e) ↔ (Few e.value)
end_row e = same (Few (End e))

region_row : (saves : List ℕ) (e : Part) → Few (Save saves e) ↔ (Few e.value)
region_row saves e = same (Few (Save saves e))
