-- The row of an instruction, known by what was done, also for a word that was computed before.
use Rattle.std.proofs.Common.{◌≡◌, ◌∙◌, sym, ap, ℕ, Result}
use Rattle.sch_insn.specs.declared.insn.Arg.{Arg}
use Rattle.sch_insn.specs.declared.insn.Insn.{Insn}
use Rattle.sch_insn.specs.declared.state.StuckCause.{StuckCause}
use Rattle.sch_insn.specs.Machine.{Core, Computed, with_place}
use Rattle.sch_insn.specs.Step.{change, compare}
use Rattle.sch_step.specs.View.{act, Goes}

module _ {r : Result ℕ StuckCause} {next : ℕ} {before after : Core} {i j : Insn} where
  -- what was done is the row of this instruction
  pub row : i ≡ j → Goes r next before after (act j) → Goes r next before after (act i)
  row is g = record { value = g.value ∙ sym (ap (λ k. act k (with_place next before)) is); same = g.same }

  -- it was done with a word b, which is this number
  pub with_word : (does : ℕ → Core → Result Core StuckCause) {b n : ℕ} → i ≡ j → Goes r next before after (does b) → b ≡ n → does n (with_place next before) ≡ act j (with_place next before)
      → Goes r next before after (act i)
  with_word does is g word known = row is (record { value = g.value ∙ ap (λ w. does w (with_place next before)) word ∙ known; same = g.same })

  pub changes : (m : Arg) (f : ℕ → ℕ → Computed) {b n : ℕ} → i ≡ j → Goes r next before after (λ d. change d m (λ v. f v b)) → b ≡ n
      → change (with_place next before) m (λ v. f v n) ≡ act j (with_place next before) → Goes r next before after (act i)
  changes m f = with_word (λ b d. change d m (λ v. f v b))

  pub compares : (m : Arg) (f : ℕ → ℕ → Computed) {b n : ℕ} → i ≡ j → Goes r next before after (λ d. compare d m (λ v. f v b)) → b ≡ n
      → compare (with_place next before) m (λ v. f v n) ≡ act j (with_place next before) → Goes r next before after (act i)
  compares m f = with_word (λ b d. compare d m (λ v. f v b))
