-- Steps and runs of a machine, put together.
use Rattle.std.proofs.Common.{◌≡◌, ◌≢◌, ℕ, suc, ◌+◌, ◌-◌, ◌<◌, List, [], ◌∷◌, ◌++◌, Option, Some, refl, sym, ap, ◌∙◌, subst, arith, length-append}
use Rattle.std.specs.Prelude.{Result, Ok, Err}
use Rattle.std.specs.Result.{result_err}
use Rattle.sch_word.specs.declared.answer.Answer.{Answer}
use Rattle.sch_insn.specs.declared.insn.Insn.{Insn}
use Rattle.sch_insn.specs.declared.insn.Insn.TheVariants.{Syscall}
use Rattle.sch_insn.specs.declared.state.StuckCause.{StuckCause}
use Rattle.sch_insn.specs.Machine.{Core, State, with_place}
use Rattle.sch_insn.specs.Step.{Progress, Runs, Exited, Stuck, moved, perform, step, go_on, standing, mach}
use Rattle.sch_step.specs.declared.ends.Stuck.{Stuck as StuckAt}
use Rattle.sch_step.specs.declared.ends.StepEnd.TheVariants as step_end
use Rattle.sch_step.specs.declared.ends.RunEnd.{RunEnd}
use Rattle.sch_step.specs.declared.ends.RunEnd.TheVariants as run_end
use Rattle.sch_step.specs.declared.machine.Machine.{Machine}
use Rattle.sch_step.specs.View.{act}
use Rattle.sch_step.specs.Run.{state_of, reached_by_run, looked, Does}
use Rattle.sch_step.specs.Machine.{core_of, stands, standing_of, MachineSteps, MachineRuns, MachineComes, ComesTo}
use Rattle.sch_insn.proofs.Paths.{path_append, path_mach}
use Rattle.sch_step.proofs.Outlets.{quiet, then, weaker}
use Rattle.sch_step.proofs.ProcessorSteps.{performs}

moved_looked : (c : Core) (b : List ℕ) (k : List Answer) (r : Result Core StuckCause) → standing (state_of c b k) (moved (state_of c b k) r) ≡ looked (result_err r) c b k
moved_looked c b k (Ok d) = refl
moved_looked c b k (Err cause) = refl

-- What is seen of an instruction that is no call of the kernel.
pub looked_at : (i : Insn) (next : ℕ) (c : Core) (b : List ℕ) (k : List Answer) (o : Option StuckCause) → i ≢ Syscall → o ≡ result_err (act i (with_place next c))
    → standing (state_of c b k) (perform i next (state_of c b k)) ≡ looked o c b k
looked_at i next c b k o n e =
    ap (standing (state_of c b k)) (performs i next c b k n) ∙ moved_looked c b k (act i (with_place next c)) ∙ ap (λ o. looked o c b k) (sym e)

pub exited_does : (m : Machine) (status : ℕ) (ob : Option (List ℕ)) (ol : Option (List Answer)) (of : ℕ) → m.exited ≡ Some status → Does (MachineSteps (step_end.Exited status) m m) ob ob ol ol of of
exited_does m status ob ol of e = quiet (MachineSteps (step_end.Exited status) m m) ob ol of (λ b k. ap (λ o. go_on (stands o (core_of m) b k) step) e)

-- ---- where a run has come to

pub comes_here : (e : Progress) → ComesTo 0 e e
comes_here (Runs s) = record { way = []; last = s; path = refl; long = refl; runs = refl }
comes_here (Exited status s) = (refl, refl)
comes_here (Stuck cause s) = (refl, refl)

comes_step : (n : ℕ) (e f : Progress) (u : State) → ComesTo n e f → go_on f step ≡ Runs u → ComesTo (n + 1) e (Runs u)
comes_step n (Runs s) f u c h = record {
  way = c.way ++ u ∷ [];
  last = u;
  path = path_append s c.way c.last (u ∷ []) u c.path (sym (ap (λ x. go_on x step) c.runs) ∙ h, refl);
  long = omega (arith, c.long, length-append c.way (u ∷ []));
  runs = refl;
}
comes_step n (Exited status s) f u c h = let both : Exited status s ≡ Runs u = sym (ap (λ x. go_on x step) c.1) ∙ h in absurd cc
comes_step n (Stuck cause s) f u c h = let both : Stuck cause s ≡ Runs u = sym (ap (λ x. go_on x step) c.1) ∙ h in absurd cc

comes_mach : (n k : ℕ) (e f : Progress) → ComesTo n e f → go_on e (mach (n + k)) ≡ go_on f (mach k)
comes_mach n k (Runs s) f c = ap (λ m. mach (m + k) s) (sym c.long) ∙ path_mach s c.way c.last c.path k ∙ sym (ap (λ x. go_on x (mach k)) c.runs)
comes_mach n k (Exited status s) f c = sym (ap (λ x. go_on x (mach k)) c.1)
comes_mach n k (Stuck cause s) f c = sym (ap (λ x. go_on x (mach k)) c.1)

-- one step more of a bounded run is a step first
go_suc : (e : Progress) (n : ℕ) → go_on e (mach (suc n)) ≡ go_on (go_on e step) (mach n)
go_suc (Runs s) n = refl
go_suc (Exited status s) n = refl
go_suc (Stuck cause s) n = refl

-- ---- over an outlet

pub comes_first : (m : Machine) (ob : Option (List ℕ)) (ol : Option (List Answer)) (of : ℕ) → Does (MachineComes 0 m m) ob ob ol ol of of
comes_first m ob ol of = quiet (MachineComes 0 m m) ob ol of (λ b k. comes_here (standing_of m b k))

pub comes_next : (i : ℕ) (old cur new : Machine) (ob mb nb : Option (List ℕ)) (ol ml nl : Option (List Answer)) (of mf nf : ℕ)
    → ((b : List ℕ) (k : List Answer) → standing_of new b k ≡ Runs (state_of (core_of new) b k)) → Does (MachineComes i old cur) ob mb ol ml of mf
    → Does (MachineSteps step_end.Ran cur new) mb nb ml nl mf nf → Does (MachineComes (i + 1) old new) ob nb ol nl of nf
comes_next i old cur new ob mb nb ol ml nl of mf nf h p q =
    then (MachineComes i old cur) (MachineSteps step_end.Ran cur new) (MachineComes (i + 1) old new) ob mb nb ol ml nl of mf nf
    (λ b k b' k' b'' k'' c s. subst (ComesTo (i + 1) (standing_of old b k)) (sym (h b'' k'')) (comes_step i (standing_of old b k) (standing_of cur b' k') (state_of (core_of new) b'' k'') c s))
    p q

pub run_exits : (i steps status : ℕ) (old cur new : Machine) (ob mb nb : Option (List ℕ)) (ol ml nl : Option (List Answer)) (of mf nf : ℕ) → i < steps
    → Does (MachineComes i old cur) ob mb ol ml of mf → Does (MachineSteps (step_end.Exited status) cur new) mb nb ml nl mf nf
    → Does (MachineRuns steps (run_end.Exited status) old new) ob nb ol nl of nf
run_exits i steps status old cur new ob mb nb ol ml nl of mf nf l p q =
    then (MachineComes i old cur) (MachineSteps (step_end.Exited status) cur new) (MachineRuns steps (run_end.Exited status) old new) ob mb nb ol ml nl of mf nf
    (λ b k b' k' b'' k'' c s.
    let n = steps - (i + 1) in
    let e : steps ≡ i + suc n = omega (arith, l) in
    ap (λ j. go_on (standing_of old b k) (mach j)) e ∙ comes_mach i (suc n) (standing_of old b k) (standing_of cur b' k') c ∙ go_suc (standing_of cur b' k') n ∙ ap (λ x. go_on x (mach n)) s)
    p q

pub run_stuck : (i steps : ℕ) (stuck : StuckAt) (old cur new : Machine) (ob mb nb : Option (List ℕ)) (ol ml nl : Option (List Answer)) (of mf nf : ℕ) → i < steps
    → Does (MachineComes i old cur) ob mb ol ml of mf → Does (MachineSteps (step_end.Stuck stuck) cur new) mb nb ml nl mf nf
    → Does (MachineRuns steps (run_end.Stuck stuck) old new) ob nb ol nl of nf
run_stuck i steps stuck old cur new ob mb nb ol ml nl of mf nf l p q =
    then (MachineComes i old cur) (MachineSteps (step_end.Stuck stuck) cur new) (MachineRuns steps (run_end.Stuck stuck) old new) ob mb nb ol ml nl of mf nf
    (λ b k b' k' b'' k'' c s.
    let n = steps - (i + 1) in
    let e : steps ≡ i + suc n = omega (arith, l) in
    ap (λ j. go_on (standing_of old b k) (mach j)) e ∙ comes_mach i (suc n) (standing_of old b k) (standing_of cur b' k') c ∙ go_suc (standing_of cur b' k') n ∙ ap (λ x. go_on x (mach n)) s)
    p q

pub run_rests : (steps : ℕ) (end : RunEnd) (old cur new : Machine) (ob nb : Option (List ℕ)) (ol nl : Option (List Answer)) (of nf : ℕ)
    → ((b : List ℕ) (k : List Answer) → go_on (standing_of cur b k) (mach 0) ≡ reached_by_run end (core_of new) b k) → Does (MachineComes steps old cur) ob nb ol nl of nf
    → Does (MachineRuns steps end old new) ob nb ol nl of nf
run_rests steps end old cur new ob nb ol nl of nf h p =
    weaker (MachineComes steps old cur) (MachineRuns steps end old new) ob nb ol nl of nf
    (λ b k b' k' c. let e : steps ≡ steps + 0 = omega arith in ap (λ j. go_on (standing_of old b k) (mach j)) e ∙ comes_mach steps 0 (standing_of old b k) (standing_of cur b' k') c ∙ h b' k')
    p
