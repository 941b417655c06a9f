-- The trees of a body that restores.
use Rattle.std.specs.Prelude.{ℕ}
use Rattle.std.specs.FinSet as set
use Rattle.sch_control.specs.declared.restoring.Restoring.{Restoring}
use Rattle.sch_control.specs.declared.tree.Exp.{Exp}
use Rattle.sch_control.specs.Tree.{Expression}
use Rattle.sch_control.specs.View.{expression_with}

-- with what each call restores
abbrev pub restored : {N : ℕ} → Exp (Restoring N) → Expression
restored = expression_with (λ r. r.restores)

-- with what is live after each call
abbrev pub restored_listed : {N : ℕ} → Exp (Restoring N) → Expression
restored_listed = expression_with (λ r. set.items r.live)
