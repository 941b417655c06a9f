-- The form that ends in a number or a count which was read.
use Rattle.std.proofs.Common.{◌≡◌, ℕ, Option, Some}
use Rattle.sch_word.specs.values.Options.{when_some}
use Rattle.sch_insn.specs.declared.insn.Insn.{Insn}

pub chosen : {A : Type 0} (o : Option A) (n : A) (form : A → Option Insn) (i : Insn) (j j' : ℕ) → o ≡ Some n → form n ≡ Some i → j ≡ j' → ◌≡◌ {A = Option (Insn × ℕ)} (Some (i, j)) (when_some o (λ n. when_some (form n) (λ i. Some (i, j'))))
chosen o n form i j j' e f g = rw (e, f, g)
