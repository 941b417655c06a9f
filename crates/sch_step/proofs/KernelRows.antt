-- The kernel's rows at a state without spare words.
use Rattle.std.proofs.Common.{◌≡◌, ◌≢◌, ℕ, zero, suc, ◌<◌, List, [], ◌∷◌, ◌++◌, length, take, true, false, cond, Some, None, refl, sym, ap, ◌∙◌, subst, arith, append-nil, ◌%◌, ◌==◌, ◌&&◌}
use Rattle.std.proofs.lemmas.Bool.{eqb-true, ne_eqb}
use Rattle.std.proofs.Math.Seq.{take-length}
use Rattle.sch_word.specs.declared.answer.Answer.{Answer}
use Rattle.sch_word.specs.declared.answer.Answer.TheVariants.{Took, Failed}
use Rattle.sch_word.proofs.facts.Booleans.{and_left}
use Rattle.sch_io.specs.Answers.{AnswersNext, taken}
use Rattle.sch_insn.specs.declared.state.StuckCause.TheVariants.{Kernel}
use Rattle.sch_word.specs.declared.registers.TheConstants.{RAX, RCX, RDX, RSI, RDI, R11}
use Rattle.sch_insn.specs.Machine.{Core, with_register, unknown_flags, bytes_from}
use Rattle.sch_insn.specs.Step.{Progress, Runs, Exited, Stuck, kernel, write_row, piece_written, answered}
use Rattle.sch_step.specs.Kernel.{rax_of, written_core}
use Rattle.sch_step.specs.Run.{state_of}

abbrev by_call : Core → ℕ → List ℕ → List Answer → ℕ → Progress
by_call c next b k rax = cond (rax == 60) (Exited (c.registers RDI % 256) (state_of c b k))
    (cond ((rax == 1) && (c.registers RDI == 1)) (write_row (state_of c b k) next (c.registers RDX)) (Stuck (Kernel (c.registers RAX)) (state_of c b k)))

pub exits : (c : Core) (next : ℕ) (b : List ℕ) (k : List Answer) → c.registers RAX ≡ 60 → kernel (state_of c b k) next ≡ Exited (c.registers RDI % 256) (state_of c b k)
exits c next b k e = ap (by_call c next b k) e

pub no_row : (c : Core) (next : ℕ) (b : List ℕ) (k : List Answer) → c.registers RAX ≢ 60 → ((c.registers RAX == 1) && (c.registers RDI == 1)) ≡ false
    → kernel (state_of c b k) next ≡ Stuck (Kernel (c.registers RAX)) (state_of c b k)
no_row c next b k e f =
    ap (λ t. cond t (Exited (c.registers RDI % 256) (state_of c b k))
    (cond ((c.registers RAX == 1) && (c.registers RDI == 1)) (write_row (state_of c b k) next (c.registers RDX)) (Stuck (Kernel (c.registers RAX)) (state_of c b k))))
    (ne_eqb (c.registers RAX) 60 e)
    ∙ ap (λ t. cond t (write_row (state_of c b k) next (c.registers RDX)) (Stuck (Kernel (c.registers RAX)) (state_of c b k))) f

pub writes : (c : Core) (next : ℕ) (b : List ℕ) (k : List Answer) → ((c.registers RAX == 1) && (c.registers RDI == 1)) ≡ true
    → kernel (state_of c b k) next ≡ write_row (state_of c b k) next (c.registers RDX)
writes c next b k e =
    let one = eqb-true (c.registers RAX) 1 (and_left (c.registers RAX == 1) (c.registers RDI == 1) e) in
    let other : c.registers RAX ≢ 60 = omega (arith, one) in
    ap (λ t. cond t (Exited (c.registers RDI % 256) (state_of c b k))
    (cond ((c.registers RAX == 1) && (c.registers RDI == 1)) (write_row (state_of c b k) next (c.registers RDX)) (Stuck (Kernel (c.registers RAX)) (state_of c b k))))
    (ne_eqb (c.registers RAX) 60 other)
    ∙ ap (λ t. cond t (write_row (state_of c b k) next (c.registers RDX)) (Stuck (Kernel (c.registers RAX)) (state_of c b k))) e

pub empty : (c : Core) (next : ℕ) (b : List ℕ) (k : List Answer) → c.registers RDX ≡ 0 → write_row (state_of c b k) next (c.registers RDX) ≡ Runs (state_of (written_core c next 0) b k)
unfolding written_core
empty c next b k e = ap (write_row (state_of c b k) next) e ∙ ap (λ b'. Runs (state_of (written_core c next 0) b' k)) (append-nil b)

pub shut : (c : Core) (next n : ℕ) (b : List ℕ) (k : List Answer) → c.registers RDX ≡ n → 0 < n → bytes_from (λ g. g.readable) c.segments (c.registers RSI) n ≡ None
    → write_row (state_of c b k) next (c.registers RDX) ≡ Stuck (Kernel (c.registers RAX)) (state_of c b k)
shut c next zero b k e some f = absurd (omega (arith, some))
shut c next (suc n) b k e some f = ap (write_row (state_of c b k) next) e ∙ ap (piece_written (state_of c b k) next (suc n)) f

after : (c : Core) (next : ℕ) (b : List ℕ) (piece : List ℕ) (a : Answer) (x y : List Answer) → AnswersNext (length piece) a x y
    → answered (state_of c b x) next piece x ≡ state_of (written_core c next (rax_of a)) (b ++ taken a piece) y
unfolding written_core
after c next b piece a [] y h =
    subst (λ z. answered (state_of c b []) next piece [] ≡ state_of (written_core c next (rax_of a)) (b ++ taken a piece) z) (sym h.1)
    (subst (λ z. answered (state_of c b []) next piece [] ≡ state_of (written_core c next (rax_of z)) (b ++ taken z piece) []) (sym h.0)
    (ap (λ l. state_of (written_core c next (length piece)) (b ++ l) []) (sym (take-length piece))))
after c next b piece a (Took k ∷ rest) y h =
    subst (λ z. answered (state_of c b (Took k ∷ rest)) next piece (Took k ∷ rest) ≡ state_of (written_core c next (rax_of a)) (b ++ taken a piece) z) (sym h.1)
    (subst (λ z. answered (state_of c b (Took k ∷ rest)) next piece (Took k ∷ rest) ≡ state_of (written_core c next (rax_of z)) (b ++ taken z piece) rest) (sym h.0) refl)
after c next b piece a (Failed ∷ rest) y h =
    subst (λ z. answered (state_of c b (Failed ∷ rest)) next piece (Failed ∷ rest) ≡ state_of (written_core c next (rax_of a)) (b ++ taken a piece) z) (sym h.1)
    (subst (λ z. answered (state_of c b (Failed ∷ rest)) next piece (Failed ∷ rest) ≡ state_of (written_core c next (rax_of z)) (b ++ taken z piece) rest) (sym h.0) refl)

pub wrote : (c : Core) (next n : ℕ) (b bs : List ℕ) (a : Answer) (x y : List Answer) → c.registers RDX ≡ n → 0 < n → bytes_from (λ g. g.readable) c.segments (c.registers RSI) n ≡ Some bs
    → AnswersNext (length (take n bs)) a x y → write_row (state_of c b x) next (c.registers RDX) ≡ Runs (state_of (written_core c next (rax_of a)) (b ++ taken a (take n bs)) y)
wrote c next zero b bs a x y e some f h = absurd (omega (arith, some))
wrote c next (suc n) b bs a x y e some f h =
    ap (write_row (state_of c b x) next) e
    ∙ ap (piece_written (state_of c b x) next (suc n)) f
    ∙ ap Runs (after c next b (take (suc n) bs) a x y h)

-- The registers after a write, one after the other.
abbrev afterwards : Core → ℕ → Core
afterwards c next = record { registers = c.registers; flags = unknown_flags; place = next; segments = c.segments }

pub written : (c c1 c2 c3 : Core) (next rax : ℕ) → c1 ≡ with_register RAX rax c → c2 ≡ with_register RCX 0 c1 → c3 ≡ with_register R11 0 c2 → afterwards c3 next ≡ written_core c next rax
unfolding written_core
written c c1 c2 c3 next rax e1 e2 e3 = ap (λ t. afterwards t next) (e3 ∙ ap (with_register R11 0) (e2 ∙ ap (with_register RCX 0) e1))
