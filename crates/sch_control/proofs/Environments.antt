-- What a variable has once a value is put into an environment, and the value that an operation gave.
use Rattle.std.proofs.Common.{◌≡◌, ◌≢◌, ℕ, Bool, Option, Some, None, cond, refl, ap, sym, subst}
use Rattle.std.proofs.lemmas.Bool.{eq-eqb, ne_eqb}
use Rattle.sch_word.specs.values.Values.{Value, is_true, unspecified}
use Rattle.sch_word.specs.runs.Computation.{State, gives, stops, spent}
use Rattle.sch_word.specs.runs.Procedures.{Procedure}
use Rattle.sch_control.specs.declared.operation.Atom.TheVariants.{Constant, Literal, Variable}
use Rattle.sch_control.specs.declared.operation.Operand.TheVariants as operand
use Rattle.sch_control.specs.declared.operation.Operation.{Operation}
use Rattle.sch_control.specs.declared.operation.Operation.TheVariants as operation
use Rattle.sch_control.specs.Meaning.{Environment, put}
use Rattle.sch_control.specs.Operations.{Ending, operate}
use Rattle.sch_control.specs.flow.Live.{AfterValue}
use Rattle.sch_control.proofs.Results.{perhaps}

pub put_same : (environment : Environment) (x : ℕ) (v : Value) → put environment x v x ≡ Some v
put_same environment x v = ap (λ t. cond t (Some v) (environment x)) (eq-eqb x x refl)

pub put_other : (environment : Environment) (x : ℕ) (v : Value) (y : ℕ) → y ≢ x → put environment x v y ≡ environment y
put_other environment x v y n = ap (λ t. cond t (Some v) (environment y)) (ne_eqb y x n)

-- the value that an operation gave, by which equal endings have equal values
abbrev pub value_given : Ending → Value
value_given None = unspecified
value_given (Some (gives v s)) = v
value_given (Some (stops why s)) = unspecified
value_given (Some (spent s)) = unspecified

-- what holds by the value that an operation gives
pub after_value : (at : ℕ → Option Value) (o : Operation ℕ) (s s' : State Procedure) (v : Value) → operate at o s ≡ Some (gives v s')
    → (P : Bool → Type 0) → P (is_true v) → AfterValue o P
after_value at (operation.Operand (operand.Atom (Constant c))) s s' v e P p = subst (λ u. P (is_true u)) (sym (ap value_given e)) p
after_value at (operation.Operand (operand.Atom (Literal n))) s s' v e P p = perhaps P (is_true v) p
after_value at (operation.Operand (operand.Atom (Variable y))) s s' v e P p = perhaps P (is_true v) p
after_value at (operation.Operand (operand.Read site which atoms)) s s' v e P p = perhaps P (is_true v) p
after_value at (operation.Prim site which operands) s s' v e P p = perhaps P (is_true v) p
after_value at (operation.Global g) s s' v e P p = perhaps P (is_true v) p
after_value at (operation.SetGlobal g o) s s' v e P p = perhaps P (is_true v) p
after_value at (operation.Field y k) s s' v e P p = perhaps P (is_true v) p
after_value at (operation.NewCell c) s s' v e P p = perhaps P (is_true v) p
after_value at operation.UnsetCell s s' v e P p = perhaps P (is_true v) p
after_value at (operation.CellGet c) s s' v e P p = perhaps P (is_true v) p
after_value at (operation.CellSet c o) s s' v e P p = perhaps P (is_true v) p
after_value at (operation.MakeClosure c) s s' v e P p = perhaps P (is_true v) p
