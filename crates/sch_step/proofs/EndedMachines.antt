-- A machine that has exited or is stuck answers the same again, changes nothing and writes nothing that an
-- outlet tells.
use Rattle.std.proofs.Common.{◌≡◌, ◌≢◌, ℕ, zero, suc, ◌+◌, List, [], ◌∷◌, ◌++◌, Bool, true, false, cond, Option, Some, None, refl, sym, ap, ◌∙◌, subst, append-nil, ◌==◌, ◌&&◌}
use Rattle.std.specs.Prelude.{Result, Ok, Err}
use Rattle.sch_word.specs.declared.answer.Answer.{Answer}
use Rattle.sch_insn.specs.declared.insn.Insn.{Insn}
use Rattle.sch_insn.specs.declared.insn.Insn.TheVariants.{Syscall}
use Rattle.sch_insn.specs.declared.state.StuckCause.{StuckCause}
use Rattle.sch_word.specs.declared.registers.TheConstants.{RAX, RDX, RDI}
use Rattle.sch_insn.specs.Machine.{Core, State, with_place}
use Rattle.sch_insn.specs.Step.{Progress, Runs, Exited, Stuck, kernel, write_row, piece_written, moved, perform, fetch, fetched, step, go_on, standing, mach}
use Rattle.sch_step.specs.declared.ends.StepEnd.{StepEnd}
use Rattle.sch_step.specs.declared.ends.StepEnd.TheVariants as step_end
use Rattle.sch_step.specs.declared.ends.RunEnd.{RunEnd}
use Rattle.sch_step.specs.declared.ends.RunEnd.TheVariants as run_end
use Rattle.sch_step.specs.declared.machine.Machine.{Machine}
use Rattle.sch_step.specs.View.{act}
use Rattle.sch_step.specs.Run.{state_of, reached_by_step, reached_by_run, Does, IsAt, IsRunAt}
use Rattle.sch_step.specs.Machine.{core_of, stands, standing_of, left_by_step, left_by_run, MachineSteps, MachineRuns, HasEnded, IsStill, last_of}
use Rattle.sch_io.proofs.PutSteps.{tells_map}

-- What has come to an end has the state from which it did.
abbrev EndsIn : State → Progress → Type 0
EndsIn s (Runs t) = Unit {0}
EndsIn s (Exited status t) = t ≡ s
EndsIn s (Stuck cause t) = t ≡ s

record Stays (s : State) (e : Progress) : Type 0 where
  at_end : EndsIn s e

moved_stays : (s : State) (r : Result Core StuckCause) → Stays s (moved s r)
moved_stays s (Ok c) = record { at_end = tt }
moved_stays s (Err cause) = record { at_end = refl }

piece_stays : (s : State) (next n : ℕ) (o : Option (List ℕ)) → Stays s (piece_written s next n o)
piece_stays s next n None = record { at_end = refl }
piece_stays s next n (Some bs) = record { at_end = tt }

write_stays : (s : State) (next n : ℕ) → Stays s (write_row s next n)
write_stays s next zero = record { at_end = tt }
write_stays s next (suc n) = piece_stays s next (suc n) _

cond_stays : (b : Bool) (s : State) (x y : Progress) → Stays s x → Stays s y → Stays s (cond b x y)
cond_stays true s x y p q = p
cond_stays false s x y p q = q

kernel_stays : (s : State) (next : ℕ) → Stays s (kernel s next)
kernel_stays s next =
    cond_stays (s.core.registers RAX == 60) s _ _ (record { at_end = refl })
    (cond_stays ((s.core.registers RAX == 1) && (s.core.registers RDI == 1)) s _ _ (write_stays s next (s.core.registers RDX)) (record { at_end = refl }))

perform_stays : (i : Insn) (next : ℕ) (s : State) → Stays s (perform i next s)
perform_stays Syscall next s = kernel_stays s next
perform_stays i next s = moved_stays s (act i (with_place next s.core))

fetched_stays : (s : State) (o : Option (Insn × ℕ)) → Stays s (fetched s o)
fetched_stays s None = record { at_end = refl }
fetched_stays s (Some p) = perform_stays p.0 (s.core.place + p.1) s

machine_stays : (o : Option ℕ) (c : Core) (b : List ℕ) (k : List Answer) → Stays (state_of c b k) (go_on (stands o c b k) step)
machine_stays None c b k = fetched_stays (state_of c b k) (fetch c.segments c.place)
machine_stays (Some status) c b k = record { at_end = refl }

same_state : (s : State) (e : Progress) (end : StepEnd) (d : Core) (b : List ℕ) (k : List Answer) → end ≢ step_end.Ran → Stays s e → e ≡ reached_by_step end d b k → state_of d b k ≡ s
same_state s e step_end.Ran d b k n h is = absurd (n refl)
same_state s e (step_end.Exited status) d b k n h is = let g = subst (Stays s) is h in g.at_end
same_state s e (step_end.Stuck stuck) d b k n h is = let g = subst (Stays s) is h in g.at_end

pub still : (end : StepEnd) (old new : Machine) (ob nb : Option (List ℕ)) (ol nl : Option (List Answer)) (of nf : ℕ) → end ≢ step_end.Ran → Does (MachineSteps end old new) ob nb ol nl of nf
    → IsStill old new ob nb ol nl
still end old new ob nb ol nl of nf n p =
    let at : (x y : List Answer) → MachineSteps end old new [] x ([] ++ p.took) y → state_of (core_of new) ([] ++ p.took) y ≡ state_of (core_of old) [] x =
    λ x y h. same_state (state_of (core_of old) [] x) (go_on (stands old.exited (core_of old) [] x) step) end (core_of new) ([] ++ p.took) y n (machine_stays old.exited (core_of old) [] x) h in
    let whole = at (p.given ++ []) [] (p.untold [] []) in
    let nothing : p.took ≡ [] = ap (λ s. s.output) whole in
    record {
      core = ap (λ s. s.core) whole;
      bytes = tells_map ob nb (λ x y. y ≡ x ++ p.took) (λ x y. y ≡ x) p.bytes_told (λ x y e. e ∙ ap (λ l. x ++ l) nothing ∙ append-nil x);
      left = tells_map ol nl (λ x y. (b : List ℕ) → MachineSteps end old new b x (b ++ p.took) y) (λ x y. y ≡ x) p.told (λ x y h. ap (λ s. s.answers) (at x y (h [])));
    }

-- A machine that is stuck has not exited, and the state that it is left in is stuck by the same cause.
stuck_again : (o : Option ℕ) (c : Core) (b : List ℕ) (x : List Answer) (cause : StuckCause) (t : State) → go_on (stands o c b x) step ≡ Stuck cause t → t ≡ state_of c b x → step t ≡ Stuck cause t
stuck_again None c b x cause t e same = ap step same ∙ e
stuck_again (Some status) c b x cause t e same = absurd cc

-- ---- a step that ends

nothing_given : (given : List Answer) → given ++ [] ≡ [] → given ≡ []
nothing_given [] e = refl
nothing_given (a ∷ given) e = absurd cc

-- the machine before it makes the same step whatever was written and the kernel holds
always : (end : StepEnd) (old new : Machine) (ob nb : Option (List ℕ)) (ol nl : Option (List Answer)) (of nf : ℕ) → end ≢ step_end.Ran → Does (MachineSteps end old new) ob nb ol nl of nf →
    (b : List ℕ) (k : List Answer) → go_on (standing_of old b k) step ≡ reached_by_step end (core_of new) b k
always end old new ob nb ol nl of nf n p b k =
    let x = p.given ++ [] in
    let whole = same_state (state_of (core_of old) [] x) (go_on (stands old.exited (core_of old) [] x) step) end (core_of new) ([] ++ p.took) [] n (machine_stays old.exited (core_of old) [] x)
    (p.untold [] []) in
    let nothing : p.took ≡ [] = ap (λ s. s.output) whole in
    let none : p.given ≡ [] = nothing_given p.given (sym (ap (λ s. s.answers) whole)) in
    subst (λ l. go_on (standing_of old b k) step ≡ reached_by_step end (core_of new) l k) (append-nil b)
    (subst (λ t. go_on (standing_of old b k) step ≡ reached_by_step end (core_of new) (b ++ t) k) nothing
    (subst (λ g. go_on (standing_of old b (g ++ k)) step ≡ reached_by_step end (core_of new) (b ++ p.took) k) none (p.untold b k)))

pub has_ended : (end : StepEnd) (old new : Machine) (ob nb : Option (List ℕ)) (ol nl : Option (List Answer)) (of nf : ℕ) → IsAt end (core_of new).place
    → ((b : List ℕ) (k : List Answer) → standing_of new b k ≡ left_by_step end (core_of new) b k) → Does (MachineSteps end old new) ob nb ol nl of nf → end ≢ step_end.Ran → HasEnded new end
has_ended end old new ob nb ol nl of nf at so p n = record {
  ends = n;
  at = at;
  stands = so;
  again = λ b k. ap (λ e. go_on e step) (so b k) ∙ ends end n b k (always end old new ob nb ol nl of nf n p b k) (ap (λ c. state_of c b k) (still end old new ob nb ol nl of nf n p).core);
}
  where
    ends : (end : StepEnd) → end ≢ step_end.Ran → (b : List ℕ) (k : List Answer) → go_on (standing_of old b k) step ≡ reached_by_step end (core_of new) b k
        → state_of (core_of new) b k ≡ state_of (core_of old) b k →
        go_on (left_by_step end (core_of new) b k) step ≡ reached_by_step end (core_of new) b k
    ends step_end.Ran n b k e same = absurd (n refl)
    ends (step_end.Exited status) n b k e same = refl
    ends (step_end.Stuck stuck) n b k e same = stuck_again old.exited (core_of old) b k stuck.cause (state_of (core_of new) b k) e same

-- ---- what a machine that has ended does

-- two ends after which the same was reached
same_end : (a z : StepEnd) (c d : Core) (b e : List ℕ) (k l : List Answer) → a ≢ step_end.Ran → IsAt a c.place → IsAt z d.place → reached_by_step a c b k ≡ reached_by_step z d e l
    → (z ≡ a) × (state_of d e l ≡ state_of c b k)
same_end step_end.Ran z c d b e k l n at to h = absurd (n refl)
same_end (step_end.Exited status) step_end.Ran c d b e k l n at to h = absurd cc
same_end (step_end.Exited status) (step_end.Exited other) c d b e k l n at to h = let same : other ≡ status = cc in let state : state_of d e l ≡ state_of c b k = cc in (ap step_end.Exited same, state)
same_end (step_end.Exited status) (step_end.Stuck stuck) c d b e k l n at to h = absurd cc
same_end (step_end.Stuck stuck) step_end.Ran c d b e k l n at to h = absurd cc
same_end (step_end.Stuck stuck) (step_end.Exited status) c d b e k l n at to h = absurd cc
same_end (step_end.Stuck stuck) (step_end.Stuck other) c d b e k l n at to h =
    let cause : other.cause ≡ stuck.cause = cc in
    let state : state_of d e l ≡ state_of c b k = cc in
    let place : other.at ≡ stuck.at = to ∙ ap (λ s. s.core.place) state ∙ sym at in
    (ap (λ a. step_end.Stuck (record { at = a; cause = other.cause })) place ∙ ap (λ x. step_end.Stuck (record { at = stuck.at; cause = x })) cause, state)

pub again : (end result : StepEnd) (old new : Machine) (ob nb : Option (List ℕ)) (ol nl : Option (List Answer)) (of nf : ℕ) → IsAt result (core_of new).place
    → Does (MachineSteps result old new) ob nb ol nl of nf → HasEnded old end → result ≡ end
again end result old new ob nb ol nl of nf at p h =
    let x = p.given ++ [] in
    (same_end end result (core_of old) (core_of new) [] ([] ++ p.took) x [] h.ends h.at at (sym (h.again [] x) ∙ p.untold [] [])).0

-- a bounded run of any number of steps
ended_mach : (end : StepEnd) (m : Machine) → HasEnded m end → (n : ℕ) (b : List ℕ) (k : List Answer) → go_on (standing_of m b k) (mach n) ≡ reached_by_step end (core_of m) b k
ended_mach end m h n b k = ap (λ e. go_on e (mach n)) (h.stands b k) ∙ by end h.ends n (sym (ap (λ e. go_on e step) (h.stands b k)) ∙ h.again b k)
  where
    by : (end : StepEnd) → end ≢ step_end.Ran → (n : ℕ) → go_on (left_by_step end (core_of m) b k) step ≡ reached_by_step end (core_of m) b k
        → go_on (left_by_step end (core_of m) b k) (mach n) ≡ reached_by_step end (core_of m) b k
    by step_end.Ran not n e = absurd (not refl)
    by (step_end.Exited status) not n e = refl
    by (step_end.Stuck stuck) not zero e = ap (standing (state_of (core_of m) b k)) e
    by (step_end.Stuck stuck) not (suc n) e = ap (λ x. go_on x (mach n)) e

as_last : (end : RunEnd) (c : Core) (b : List ℕ) (k : List Answer) → reached_by_run end c b k ≡ reached_by_step (last_of end) c b k
as_last run_end.Spent c b k = refl
as_last (run_end.Exited status) c b k = refl
as_last (run_end.Stuck stuck) c b k = refl

at_last : (end : RunEnd) (place : ℕ) → IsRunAt end place → IsAt (last_of end) place
at_last run_end.Spent place h = tt
at_last (run_end.Exited status) place h = tt
at_last (run_end.Stuck stuck) place h = h

run_same : (n : ℕ) (end : StepEnd) (result : RunEnd) (old new : Machine) → IsRunAt result (core_of new).place → HasEnded old end → (b e : List ℕ) (k l : List Answer)
    → MachineRuns n result old new b k e l → (last_of result ≡ end) × (state_of (core_of new) e l ≡ state_of (core_of old) b k)
run_same n end result old new at h b e k l r =
    same_end end (last_of result) (core_of old) (core_of new) b e k l h.ends h.at (at_last result (core_of new).place at) (sym (ended_mach end old h n b k) ∙ r ∙ as_last result (core_of new) e l)

pub run_again : (n : ℕ) (end : StepEnd) (result : RunEnd) (old new : Machine) (ob nb : Option (List ℕ)) (ol nl : Option (List Answer)) (of nf : ℕ) → IsRunAt result (core_of new).place
    → Does (MachineRuns n result old new) ob nb ol nl of nf → HasEnded old end → last_of result ≡ end
run_again n end result old new ob nb ol nl of nf at p h = (run_same n end result old new at h [] ([] ++ p.took) (p.given ++ []) [] (p.untold [] [])).0

pub run_still : (n : ℕ) (end : StepEnd) (result : RunEnd) (old new : Machine) (ob nb : Option (List ℕ)) (ol nl : Option (List Answer)) (of nf : ℕ) → IsRunAt result (core_of new).place
    → Does (MachineRuns n result old new) ob nb ol nl of nf → HasEnded old end → IsStill old new ob nb ol nl
run_still n end result old new ob nb ol nl of nf at p h =
    let same : (x y : List Answer) → MachineRuns n result old new [] x ([] ++ p.took) y → state_of (core_of new) ([] ++ p.took) y ≡ state_of (core_of old) [] x =
    λ x y r. (run_same n end result old new at h [] ([] ++ p.took) x y r).1 in
    let whole = same (p.given ++ []) [] (p.untold [] []) in
    let nothing : p.took ≡ [] = ap (λ s. s.output) whole in
    record {
      core = ap (λ s. s.core) whole;
      bytes = tells_map ob nb (λ x y. y ≡ x ++ p.took) (λ x y. y ≡ x) p.bytes_told (λ x y e. e ∙ ap (λ l. x ++ l) nothing ∙ append-nil x);
      left = tells_map ol nl (λ x y. (b : List ℕ) → MachineRuns n result old new b x (b ++ p.took) y) (λ x y. y ≡ x) p.told (λ x y r. ap (λ s. s.answers) (same x y (r [])));
    }

-- ---- where no step is left

rest_stuck : (o : Option ℕ) (c : Core) (b : List ℕ) (k : List Answer) (cause : StuckCause) (t : State) → go_on (stands o c b k) (mach 0) ≡ Stuck cause t → step t ≡ Stuck cause t
rest_stuck (Some status) c b k cause t e = absurd cc
rest_stuck None c b k cause t e = by (step s) refl (fetched_stays s (fetch c.segments c.place)) e
  where
    s : State
    s = state_of c b k

    by : (p : Progress) → step (state_of c b k) ≡ p → Stays (state_of c b k) p → standing (state_of c b k) p ≡ Stuck cause t → step t ≡ Stuck cause t
    by (Runs u) is h e = absurd cc
    by (Exited status u) is h e = absurd cc
    by (Stuck other u) is h e =
        let why : other ≡ cause = cc in
        let there : u ≡ t = cc in
        ap step (sym there ∙ h.at_end) ∙ is ∙ e

pub rest_ended : (end : RunEnd) (old new : Machine) → IsRunAt end (core_of new).place → ((b : List ℕ) (k : List Answer) → standing_of new b k ≡ left_by_run end (core_of new) b k)
    → ((b : List ℕ) (k : List Answer) → go_on (standing_of old b k) (mach 0) ≡ reached_by_run end (core_of new) b k) → end ≢ run_end.Spent → HasEnded new (last_of end)
rest_ended run_end.Spent old new at so r n = absurd (n refl)
rest_ended (run_end.Exited status) old new at so r n = record { ends = λ e. absurd cc; at = tt; stands = so; again = λ b k. ap (λ e. go_on e step) (so b k) }
rest_ended (run_end.Stuck stuck) old new at so r n =
    record {
      ends = λ e. absurd cc;
      at = at;
      stands = so;
      again = λ b k. ap (λ e. go_on e step) (so b k) ∙ rest_stuck old.exited (core_of old) b k stuck.cause (state_of (core_of new) b k) (r b k);
    }
