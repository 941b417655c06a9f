-- The output only grows, and what is over stays over. So one run that has exited tells every bounded run.
use Rattle.std.proofs.Common.{◌≡◌, ◌≢◌, ℕ, zero, suc, ◌+◌, ◌≤◌, List, [], ◌∷◌, ◌++◌, Bool, true, false, cond, Option, Some, None, refl, sym, ap, ◌∙◌, subst, ⊎_elim, arith, append_assoc, length, take, min, ◌==◌, ◌&&◌}
use Rattle.std.specs.Prelude.{Result, Ok, Err}
use Rattle.std.proofs.lemmas.List.{append-nil}
use Rattle.std.proofs.lemmas.Bool.{cases_lt}
use Rattle.sch_word.specs.values.Memory.{Segment}
use Rattle.sch_word.specs.declared.answer.Answer.{Answer}
use Rattle.sch_word.specs.declared.answer.Answer.TheVariants.{Took, Failed}
use Rattle.sch_insn.specs.declared.insn.Insn.{Insn}
use Rattle.sch_insn.specs.declared.insn.Insn.TheVariants.{Syscall}
use Rattle.sch_insn.specs.declared.state.StuckCause.{StuckCause}
use Rattle.sch_word.specs.declared.registers.TheConstants.{RAX, RDX, RDI}
use Rattle.sch_insn.specs.Machine.{Core, State, with_place}
use Rattle.sch_insn.specs.Step.{Progress, Runs, Exited, Stuck, Row, Acts, Calls, row, kernel, write_row, piece_written, answered, moved, done, perform, fetch, fetched, step, go_on, standing, mach}
use Rattle.sch_insn.specs.Behaves.{Given, start, output_of, exit_of, IsPrefix, Ending, Behaves}
use Rattle.sch_insn.specs.Path.{Path, Exits}
use Rattle.sch_insn.proofs.Paths.{exits_mach}

pub prefix_same : (xs : List ℕ) → IsPrefix xs xs
prefix_same xs = record { rest = []; whole = append-nil xs }

pub prefix_then : (xs ys zs : List ℕ) → IsPrefix xs ys → IsPrefix ys zs → IsPrefix xs zs
prefix_then xs ys zs p q = record { rest = p.rest ++ q.rest; whole = sym (append_assoc xs p.rest q.rest) ∙ ap (λ l. l ++ q.rest) p.whole ∙ q.whole }

-- An output has grown to that of what the machine has come to.
pub record Grows (output : List ℕ) (e : Progress) : Type 0 where
  pub by : IsPrefix output (output_of e)

moved_grows : (s : State) (r : Result Core StuckCause) → Grows s.output (moved s r)
moved_grows s (Ok c) = record { by = prefix_same s.output }
moved_grows s (Err cause) = record { by = prefix_same s.output }

answered_grows : (s : State) (next : ℕ) (piece : List ℕ) (left : List Answer) → IsPrefix s.output (answered s next piece left).output
answered_grows s next piece [] = record { rest = piece; whole = refl }
answered_grows s next piece (Took k ∷ left) = record { rest = take (min k (length piece)) piece; whole = refl }
answered_grows s next piece (Failed ∷ left) = record { rest = []; whole = refl }

piece_grows : (s : State) (next n : ℕ) (o : Option (List ℕ)) → Grows s.output (piece_written s next n o)
piece_grows s next n None = record { by = prefix_same s.output }
piece_grows s next n (Some bs) = record { by = answered_grows s next (take n bs) s.answers }

write_grows : (s : State) (next n : ℕ) → Grows s.output (write_row s next n)
write_grows s next zero = record { by = record { rest = []; whole = refl } }
write_grows s next (suc n) = piece_grows s next (suc n) _

cond_grows : (b : Bool) (output : List ℕ) (x y : Progress) → Grows output x → Grows output y → Grows output (cond b x y)
cond_grows true output x y p q = p
cond_grows false output x y p q = q

kernel_grows : (s : State) (next : ℕ) → Grows s.output (kernel s next)
kernel_grows s next =
    cond_grows (s.core.registers RAX == 60) s.output _ _ (record { by = prefix_same s.output })
    (cond_grows ((s.core.registers RAX == 1) && (s.core.registers RDI == 1)) s.output _ _ (write_grows s next (s.core.registers RDX)) (record { by = prefix_same s.output }))

abbrev IsAct : Row → Type 0
IsAct (Acts act) = Unit {0}
IsAct (Calls call) = ⊥

act_grows : (r : Row) (next : ℕ) (s : State) → IsAct r → Grows s.output (done r next s)
act_grows (Acts act) next s is = moved_grows s (act (with_place next s.core))
act_grows (Calls call) next s is = absurd is

-- Only a call of the kernel reaches the outside.
perform_grows : (i : Insn) (next : ℕ) (s : State) → Grows s.output (perform i next s)
perform_grows Syscall next s = kernel_grows s next
perform_grows i next s = act_grows (row i) next s tt

fetched_grows : (s : State) (o : Option (Insn × ℕ)) → Grows s.output (fetched s o)
fetched_grows s None = record { by = prefix_same s.output }
fetched_grows s (Some p) = perform_grows p.0 (s.core.place + p.1) s

pub step_grows : (s : State) → Grows s.output (step s)
step_grows s = fetched_grows s (fetch s.core.segments s.core.place)

-- The output grows along a path.
pub path_grows : (s : State) (us : List State) (t : State) → Path s us t → IsPrefix s.output t.output
path_grows s [] t p = subst (λ x. IsPrefix s.output x.output) p (prefix_same s.output)
path_grows s (u ∷ us) t p = prefix_then s.output u.output t.output (subst (λ x. IsPrefix s.output (output_of x)) p.0 (step_grows s).by) (path_grows u us t p.1)

go_grows : (n : ℕ) (e : Progress) → ((s : State) → IsPrefix s.output (output_of (mach n s))) → IsPrefix (output_of e) (output_of (go_on e (mach n)))
go_grows n (Runs s) h = h s
go_grows n (Exited status s) h = prefix_same s.output
go_grows n (Stuck cause s) h = prefix_same s.output

-- Where no step is left, what a machine has come to has grown as after its next step.
standing_grows : (s : State) (e : Progress) → Grows s.output e → IsPrefix s.output (output_of (standing s e))
standing_grows s (Runs t) g = prefix_same s.output
standing_grows s (Exited status t) g = prefix_same s.output
standing_grows s (Stuck cause t) g = g.by

standing_before : (s : State) (e : Progress) (n : ℕ) → Grows s.output e → ((t : State) → IsPrefix t.output (output_of (mach n t))) → IsPrefix (output_of (standing s e)) (output_of (go_on e (mach n)))
standing_before s (Runs t) n g h = prefix_then s.output t.output (output_of (mach n t)) g.by (h t)
standing_before s (Exited status t) n g h = g.by
standing_before s (Stuck cause t) n g h = prefix_same t.output

pub mach_grows : (n : ℕ) (s : State) → IsPrefix s.output (output_of (mach n s))
mach_grows zero s = standing_grows s (step s) (step_grows s)
mach_grows (suc n) s = prefix_then s.output (output_of (step s)) (output_of (mach (suc n) s)) (step_grows s).by (go_grows n (step s) (mach_grows n))

go_more : (m n : ℕ) (e : Progress) → ((s : State) → IsPrefix (output_of (mach m s)) (output_of (mach n s))) → IsPrefix (output_of (go_on e (mach m))) (output_of (go_on e (mach n)))
go_more m n (Runs s) h = h s
go_more m n (Exited status s) h = prefix_same s.output
go_more m n (Stuck cause s) h = prefix_same s.output

-- In fewer steps the output is a prefix.
pub more_grows : (m n : ℕ) (s : State) → m ≤ n → IsPrefix (output_of (mach m s)) (output_of (mach n s))
more_grows zero zero s le = prefix_same (output_of (mach zero s))
more_grows zero (suc n) s le = standing_before s (step s) n (step_grows s) (mach_grows n)
more_grows (suc m) zero s le = absurd (omega arith)
more_grows (suc m) (suc n) s le = go_more m n (step s) (λ t. more_grows m n t (omega arith))

abbrev pub IsOver : Progress → Type 0
IsOver (Runs s) = ⊥
IsOver (Exited status s) = Unit {0}
IsOver (Stuck cause s) = Unit {0}

go_stays : (m n : ℕ) (e o : Progress) → IsOver o → ((s : State) → mach m s ≡ o → mach n s ≡ o) → go_on e (mach m) ≡ o → go_on e (mach n) ≡ o
go_stays m n (Runs s) o over h e = h s e
go_stays m n (Exited status s) o over h e = e
go_stays m n (Stuck cause s) o over h e = e

standing_stays : (s : State) (e o : Progress) (n : ℕ) → IsOver o → standing s e ≡ o → go_on e (mach n) ≡ o
standing_stays s (Runs t) o n over e = absurd (subst IsOver (sym e) over)
standing_stays s (Exited status t) o n over e = absurd (subst IsOver (sym e) over)
standing_stays s (Stuck cause t) o n over e = e

-- What is over stays as it is.
pub stays : (m n : ℕ) (s : State) (o : Progress) → IsOver o → m ≤ n → mach m s ≡ o → mach n s ≡ o
stays zero zero s o over le e = e
stays zero (suc n) s o over le e = standing_stays s (step s) o n over e
stays (suc m) zero s o over le e = absurd (omega arith)
stays (suc m) (suc n) s o over le e = go_stays m n (step s) o over (λ t. stays m n t o over (omega arith)) e

-- A run that has exited has the output of each bounded run as a prefix.
pub along_end : (s t : State) (m status : ℕ) → mach m s ≡ Exited status t → (n : ℕ) → IsPrefix (output_of (mach n s)) t.output
along_end s t m status e n =
    ⊎_elim
    (λ lt. subst (λ o. IsPrefix (output_of (mach n s)) (output_of o)) e (more_grows n m s (omega arith)))
    (λ le. subst (λ o. IsPrefix (output_of o) t.output) (sym (stays m n s (Exited status t) tt le e)) (prefix_same t.output))
    (cases_lt n m)

-- Where a run has exited, none is stuck.
pub not_stuck : (s t : State) (m status : ℕ) → mach m s ≡ Exited status t → (n : ℕ) (cause : StuckCause) (u : State) → mach n s ≢ Stuck cause u
not_stuck s t m status e n cause u f =
    ⊎_elim
    (λ lt. let h = sym (stays n m s (Stuck cause u) tt (omega arith) f) ∙ e in absurd cc)
    (λ le. let h = sym f ∙ stays m n s (Exited status t) tt le e in absurd cc)
    (cases_lt n m)

-- A memory behaves as said where its machine comes to the said exit for all given words and answers.
pub behaves : (entry : ℕ) (segments : List Segment) (ending : List Answer → Ending)
    → ((g : Given) (answers : List Answer) → Exits (start entry segments g answers) (ending answers).status (ending answers).output) → Behaves entry segments ending
behaves entry segments ending h = record {
  ends = λ g answers. let e = h g answers in (length e.way + 1, ap exit_of (exits_mach e) ∙ ap (λ o. Some ((ending answers).status, o)) e.output_is);
  along = λ g answers n. let e = h g answers in subst (IsPrefix (output_of (mach n (start entry segments g answers)))) e.output_is
      (along_end (start entry segments g answers) e.last (length e.way + 1) (ending answers).status (exits_mach e) n);
  never_stuck = λ g answers. let e = h g answers in not_stuck (start entry segments g answers) e.last (length e.way + 1) (ending answers).status (exits_mach e);
}
