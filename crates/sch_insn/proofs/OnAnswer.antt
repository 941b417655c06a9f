-- What holds of an answer, where there is one: lemmas that follow a definition made of `cond` and
-- `when_some`, branch by branch.
use Rattle.std.proofs.Common.{◌≡◌, ℕ, Bool, true, false, cond, Option, Some, None, refl, subst}
use Rattle.sch_word.specs.values.Options.{when_some}
use Rattle.sch_insn.specs.declared.insn.Insn.{Insn}

-- the answer that is an instruction, with how many bytes it has
abbrev pub answer : Insn → ℕ → Option (Insn × ℕ)
answer i n = Some (i, n)

pub record OnAnswer {A : Type 0} (P : A → Type 0) (o : Option A) : Type 0 where
  pub by : (v : A) → o ≡ Some v → P v

pub nothing : {A : Type 0} {P : A → Type 0} → OnAnswer P None
nothing = record { by = λ v e. absurd cc }

pub gives : {A : Type 0} {P : A → Type 0} (v : A) → P v → OnAnswer P (Some v)
gives {A} {P} v h = record { by = λ w e. let same : v ≡ w = cc in subst P same h }

pub branch : {A : Type 0} {P : A → Type 0} (t : Bool) {x y : Option A} → (t ≡ true → OnAnswer P x) → (t ≡ false → OnAnswer P y) → OnAnswer P (cond t x y)
branch true f g = f refl
branch false f g = g refl

pub sequence : {A B : Type 0} {P : B → Type 0} (o : Option A) {f : A → Option B} → ((a : A) → o ≡ Some a → OnAnswer P (f a)) → OnAnswer P (when_some o f)
sequence None h = nothing
sequence (Some a) h = h a refl
