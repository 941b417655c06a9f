-- Steps of a processor over an outlet, from what its calls say.
use Rattle.std.proofs.Common.{◌≡◌, ◌≢◌, ℕ, ◌+◌, ◌<◌, ◌≤◌, List, ◌++◌, length, take, true, Option, Some, None, refl, sym, ap, ◌∙◌, subst, ◌%◌, ◌==◌, ◌&&◌}
use Rattle.std.specs.Prelude.{option_map}
use Rattle.sch_word.specs.declared.answer.Answer.{Answer}
use Rattle.sch_io.specs.Told.{Tells}
use Rattle.sch_io.specs.Counters.{Rose}
use Rattle.sch_io.specs.Answers.{AnswersNext, IsWithin, IsRefusal, taken}
use Rattle.sch_insn.specs.declared.insn.Insn.{Insn}
use Rattle.sch_insn.specs.declared.insn.Insn.TheVariants.{Syscall}
use Rattle.sch_insn.specs.declared.state.StuckCause.TheVariants.{Fetch, Kernel}
use Rattle.sch_word.specs.declared.registers.TheConstants.{RAX, RDX, RSI, RDI}
use Rattle.sch_insn.specs.Machine.{Core, bytes_from, with_place}
use Rattle.sch_insn.specs.Step.{Runs, Exited, Stuck, kernel, moved, perform, fetch, fetched}
use Rattle.sch_step.specs.declared.ends.StepEnd.{StepEnd}
use Rattle.sch_step.specs.declared.ends.StepEnd.TheVariants as step_end
use Rattle.sch_step.specs.Kernel.{rax_of, written_core}
use Rattle.sch_step.specs.View.{act}
use Rattle.sch_step.specs.Run.{state_of, reached_by_step, Does, KernelTo, PerformsTo, StepsTo}
use Rattle.sch_step.proofs.Outlets.{quiet, loud, weaker}
use Rattle.sch_step.proofs.KernelRows.{exits, writes, empty, shut, wrote}

pub none_found : {A : Type 0} (f : A → List ℕ) (o : Option A) (n : ℕ) (x : Option (List ℕ)) → o ≡ None → option_map f o ≡ option_map (take n) x → x ≡ None
none_found f o n None e h = refl
none_found f o n (Some bs) e h = let clash : None ≡ Some (take n bs) = sym (ap (option_map f) e) ∙ h in absurd cc

pub one_found : {A : Type 0} (f : A → List ℕ) (o : Option A) (s : A) (n : ℕ) (x : Option (List ℕ)) → o ≡ Some s → option_map f o ≡ option_map (take n) x
    → (bs : List ℕ) × (x ≡ Some bs) × (f s ≡ take n bs)
one_found f o s n None e h = let clash : Some (f s) ≡ None = sym (ap (option_map f) e) ∙ h in absurd cc
one_found f o s n (Some bs) e h = let same : Some (f s) ≡ Some (take n bs) = sym (ap (option_map f) e) ∙ h in let e' : f s ≡ take n bs = cc in (bs, refl, e')

pub exit_does : (c : Core) (next rdi : ℕ) (rax : ℕ) (ob : Option (List ℕ)) (ol : Option (List Answer)) (of : ℕ) → rax ≡ 60 → rax ≡ c.registers RAX → rdi ≡ c.registers RDI
    → Does (KernelTo next (step_end.Exited (rdi % 256)) c c) ob ob ol ol of of
exit_does c next rdi rax ob ol of e a d = quiet (KernelTo next (step_end.Exited (rdi % 256)) c c) ob ol of (λ b k. exits c next b k (sym a ∙ e) ∙ ap (λ r. Exited (r % 256) (state_of c b k)) (sym d))

-- A processor that has no row is stuck, and nothing goes out.
pub stuck_does : (c : Core) (next place rax : ℕ) (end : StepEnd) (ob : Option (List ℕ)) (ol : Option (List Answer)) (of : ℕ) → end ≡ step_end.Stuck (record { at = place; cause = Kernel rax })
    → rax ≡ c.registers RAX → ((b : List ℕ) (k : List Answer) → kernel (state_of c b k) next ≡ Stuck (Kernel (c.registers RAX)) (state_of c b k)) → Does (KernelTo next end c c) ob ob ol ol of of
stuck_does c next place rax end ob ol of e r h =
    subst (λ z. Does (KernelTo next z c c) ob ob ol ol of of) (sym e)
    (quiet (KernelTo next (step_end.Stuck (record { at = place; cause = Kernel rax })) c c) ob ol of (λ b k. h b k ∙ ap (λ z. Stuck (Kernel z) (state_of c b k)) (sym r)))

pub empty_does : (c d : Core) (next : ℕ) (ob : Option (List ℕ)) (ol : Option (List Answer)) (of : ℕ) → d ≡ written_core c next 0 → ((c.registers RAX == 1) && (c.registers RDI == 1)) ≡ true
    → c.registers RDX ≡ 0 → Does (KernelTo next step_end.Ran c d) ob ob ol ol of of
empty_does c d next ob ol of e w z =
    subst (λ x. Does (KernelTo next step_end.Ran c x) ob ob ol ol of of) (sym e)
    (quiet (KernelTo next step_end.Ran c (written_core c next 0)) ob ol of (λ b k. writes c next b k w ∙ empty c next b k z))

pub shut_does : (c : Core) (next place rax n : ℕ) (end : StepEnd) (ob : Option (List ℕ)) (ol : Option (List Answer)) (of : ℕ) → end ≡ step_end.Stuck (record { at = place; cause = Kernel rax })
    → rax ≡ c.registers RAX → ((c.registers RAX == 1) && (c.registers RDI == 1)) ≡ true → c.registers RDX ≡ n → 0 < n → bytes_from (λ g. g.readable) c.segments (c.registers RSI) n ≡ None
    → Does (KernelTo next end c c) ob ob ol ol of of
shut_does c next place rax n end ob ol of e r w size some f = stuck_does c next place rax end ob ol of e r (λ b k. writes c next b k w ∙ shut c next n b k size some f)

pub write_does : (c d : Core) (next n rax : ℕ) (piece bs : List ℕ) (a : Answer) (ob nb : Option (List ℕ)) (ol nl : Option (List Answer)) (of nf : ℕ) → d ≡ written_core c next rax → rax ≡ rax_of a
    → ((c.registers RAX == 1) && (c.registers RDI == 1)) ≡ true → c.registers RDX ≡ n → 0 < n → bytes_from (λ g. g.readable) c.segments (c.registers RSI) n ≡ Some bs → piece ≡ take n bs
    → 0 < length piece → IsWithin a (length piece) → Tells ob nb (λ x y. y ≡ x ++ taken a piece) → Tells ol nl (AnswersNext (length piece) a) → of ≤ nf → (IsRefusal a (length piece) → Rose of nf)
    → Does (KernelTo next step_end.Ran c d) ob nb ol nl of nf
write_does c d next n rax piece bs a ob nb ol nl of nf e r w size some f p full within bytes left faults refused =
    subst (λ x. Does (KernelTo next step_end.Ran c x) ob nb ol nl of nf) (sym (e ∙ ap (written_core c next) r))
    (loud (KernelTo next step_end.Ran c (written_core c next (rax_of a))) piece a ob nb ol nl of nf full
    (λ b x y h. writes c next b x w
    ∙ wrote c next n b bs a x y size some f (subst (λ l. AnswersNext (length l) a x y) p h)
    ∙ ap (λ l. Runs (state_of (written_core c next (rax_of a)) (b ++ taken a l) y)) (sym p))
    within bytes left faults refused)

-- An instruction that is no call of the kernel.
pub performs : (i : Insn) (next : ℕ) (c : Core) (b : List ℕ) (k : List Answer) → i ≢ Syscall → perform i next (state_of c b k) ≡ moved (state_of c b k) (act i (with_place next c))
performs Syscall next c b k n = absurd (n refl)
performs i next c b k n = refl

pub go_does : (i : Insn) (next : ℕ) (end : StepEnd) (c d : Core) (ob : Option (List ℕ)) (ol : Option (List Answer)) (of : ℕ) → i ≢ Syscall
    → ((b : List ℕ) (k : List Answer) → moved (state_of c b k) (act i (with_place next c)) ≡ reached_by_step end d b k) → Does (PerformsTo i next end c d) ob ob ol ol of of
go_does i next end c d ob ol of n h = quiet (PerformsTo i next end c d) ob ol of (λ b k. performs i next c b k n ∙ h b k)

pub no_fetch_does : (c d : Core) (place : ℕ) (end : StepEnd) (ob : Option (List ℕ)) (ol : Option (List Answer)) (of : ℕ) → d ≡ c → end ≡ step_end.Stuck (record { at = place; cause = Fetch })
    → fetch c.segments c.place ≡ None → Does (StepsTo end c d) ob ob ol ol of of
no_fetch_does c d place end ob ol of s e f =
    subst (λ x. Does (StepsTo end c x) ob ob ol ol of of) (sym s)
    (subst (λ z. Does (StepsTo z c c) ob ob ol ol of of) (sym e)
    (quiet (StepsTo (step_end.Stuck (record { at = place; cause = Fetch })) c c) ob ol of (λ b k. ap (fetched (state_of c b k)) f)))

pub fetch_does : (i : Insn) (n : ℕ) (end : StepEnd) (c c' d : Core) (ob nb : Option (List ℕ)) (ol nl : Option (List Answer)) (of nf : ℕ) (o : Option (Insn × ℕ)) → c' ≡ c
    → o ≡ fetch c.segments c.place → o ≡ Some (i, n) → Does (PerformsTo i (c'.place + n) end c' d) ob nb ol nl of nf → Does (StepsTo end c d) ob nb ol nl of nf
fetch_does i n end c c' d ob nb ol nl of nf o same f s h =
    weaker (PerformsTo i (c.place + n) end c d) (StepsTo end c d) ob nb ol nl of nf
    (λ b k b' k' p. ap (fetched (state_of c b k)) (sym f ∙ s) ∙ p)
    (subst (λ x. Does (PerformsTo i (x.place + n) end x d) ob nb ol nl of nf) same h)
