-- What has exited within a bound of steps has exited within a greater one.
use Rattle.std.proofs.Common.{◌≡◌, ◌≤◌, ℕ, zero, suc, ◌+◌, ◌*◌, List, Some, refl, ap, ◌∙◌, arith}
use Rattle.std.proofs.Math.Nat.{mul-suc}
use Rattle.sch_word.specs.declared.answer.Answer.{Answer}
use Rattle.sch_word.specs.runs.Runs.{Run}
use Rattle.sch_word.specs.values.Memory.{Segment}
use Rattle.sch_insn.specs.Behaves.{exit_of, start}
use Rattle.sch_insn.specs.Machine.{State}
use Rattle.sch_insn.specs.Step.{Progress, Runs, Exited, Stuck, mach}
use Rattle.sch_insn.proofs.OutputGrows.{stays}
use Rattle.sch_select.specs.Ends.{EndsWithin}
use Rattle.sch_driver.specs.Assembled.{steps_of}

pub exit_stays : (m n : ℕ) (s : State) (r : ℕ × List ℕ) → m ≤ n → exit_of (mach m s) ≡ Some r → exit_of (mach n s) ≡ Some r
exit_stays m n s r le = by (mach m s) refl
  where
    by : (o : Progress) → mach m s ≡ o → exit_of o ≡ Some r → exit_of (mach n s) ≡ Some r
    by (Runs t) f e = absurd cc
    by (Exited status t) f e = ap exit_of (stays m n s (Exited status t) tt le f) ∙ e
    by (Stuck cause t) f e = absurd cc

pub ends_later : (entry : ℕ) (segments : List Segment) (runs : List Answer → ℕ → Run) (few many : ℕ → ℕ → ℕ → ℕ)
    → ((entries answers charged : ℕ) → few entries answers charged ≤ many entries answers charged) → EndsWithin entry segments runs few → EndsWithin entry segments runs many
ends_later entry segments runs few many le e = record {
  within = λ g answers n status is.
      let entries = (runs answers n).entries in
      let used = (runs answers n).answers in
      let charged = (runs answers n).charged in
      exit_stays (few entries used charged) (many entries used charged) (start entry segments g answers) (status, (runs answers n).output) (le entries used charged)
      (e.within g answers n status is);
}

-- ---- the bound by the instructions

paid : (a b n : ℕ) → a + 16 ≤ b → a * suc n + 16 ≤ b * suc n
paid a b zero le = omega (arith, le)
paid a b (suc n) le = let h = paid a b n le in let p = mul-suc a (suc n) in let q = mul-suc b (suc n) in omega (arith, h, p, q, le)

pub steps_fit : (units own instructions entries answers charged : ℕ) → units ≤ 3 * own → suc own ≤ instructions
    → 256 * units * suc entries + (10 * answers + 8 * charged + 16) ≤ steps_of instructions entries answers charged
steps_fit units own instructions entries answers charged few many =
    let h = paid (256 * units) (768 * instructions) entries (omega (arith, few, many)) in omega (arith, h)
