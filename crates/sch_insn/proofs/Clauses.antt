-- A memory follows runs where its machine, for all given words, answers and n, exits as the run with n
-- entries has ended, or lasts for more than n steps where that run goes on.
use Rattle.std.proofs.Common.{◌≡◌, ◌≢◌, ℕ, ◌+◌, List, length, Some, refl, sym, ap, ◌∙◌, subst, arith, ⊎_elim}
use Rattle.std.proofs.lemmas.Bool.{cases_lt}
use Rattle.sch_word.specs.values.Memory.{Segment}
use Rattle.sch_word.specs.declared.answer.Answer.{Answer}
use Rattle.sch_word.specs.runs.Runs.{Run, End, ended, going}
use Rattle.sch_insn.specs.declared.state.StuckCause.{StuckCause}
use Rattle.sch_insn.specs.Machine.{State}
use Rattle.sch_insn.specs.Step.{Progress, Runs, Exited, Stuck, mach}
use Rattle.sch_insn.specs.Path.{Does}
use Rattle.sch_insn.specs.Behaves.{Given, IsPrefix, start, output_of, exit_of, Reaches, Covers, FollowsRuns}
use Rattle.sch_insn.proofs.Paths.{path_mach, path_early, exits_mach}
use Rattle.sch_insn.proofs.OutputGrows.{prefix_same, mach_grows, path_grows, stays, along_end, not_stuck}

-- ---- what a progress has exited with

exit_inverted : (p : Progress) (status : ℕ) (output : List ℕ) → exit_of p ≡ Some (status, output) → (t : State) × (p ≡ Exited status t) × (t.output ≡ output)
exit_inverted (Runs s) status output e = absurd cc
exit_inverted (Exited a s) status output e =
    let one : ℕ × List ℕ = (a, s.output) in
    let other : ℕ × List ℕ = (status, output) in
    let both : Some one ≡ Some other = e in
    let pair : one ≡ other = cc in
    (s, ap (λ n. Exited n s) (ap (λ p. p.0) pair), ap (λ p. p.1) pair)
exit_inverted (Stuck cause s) status output e = absurd cc

same_status : (a b : ℕ) → ended a ≡ ended b → a ≡ b
same_status a b e = cc

going_on : (status : ℕ) → going ≡ ended status → ⊥
going_on status e = cc

exits_alike : (a b : ℕ) (s t : State) → Exited a s ≡ Exited b t → (a ≡ b) × (s ≡ t)
exits_alike a b s t e = (cc, cc)

-- one machine exits in one way
one_exit : (s t u : State) (m k a b : ℕ) → mach m s ≡ Exited a t → mach k s ≡ Exited b u → (a ≡ b) × (t ≡ u)
one_exit s t u m k a b e f =
    ⊎_elim
    (λ lt. exits_alike a b t u (sym (stays m k s (Exited a t) tt (omega arith) e) ∙ f))
    (λ le. exits_alike a b t u (sym e ∙ stays k m s (Exited b u) tt le f))
    (cases_lt m k)

-- ---- the clauses

reached : (s : State) (n : ℕ) (r : Run) → Does s n r.end r.output → (m : ℕ) × Reaches (mach m s) r
reached s n r d = by r.end refl d
  where
    by : (end : End) → r.end ≡ end → Does s n end r.output → (m : ℕ) × Reaches (mach m s) r
    by (ended status) e d =
        let x = exits_mach d in (
          length d.way + 1,
          record {
            output = subst (λ o. IsPrefix r.output o) (sym (ap output_of x ∙ d.output_is)) (prefix_same r.output);
            end = λ b f. let same = same_status status b (sym e ∙ f) in ap exit_of x ∙ ap (λ o. Some (status, o)) d.output_is ∙ ap (λ n. Some (n, r.output)) same;
          },
        )
    by going e d =
        let x = path_mach s d.way d.last d.path 0 in (
          length d.way + 0,
          record {
            output = subst (λ p. IsPrefix r.output (output_of p)) (sym x) (subst (λ o. IsPrefix o (output_of (mach 0 d.last))) d.output_is (mach_grows 0 d.last));
            end = λ b f. absurd (going_on b (sym e ∙ f));
          },
        )

covers : (s : State) (m : ℕ) (r : Run) → Does s m r.end r.output → Covers r (mach m s)
covers s m r d = by r.end refl d
  where
    by : (end : End) → r.end ≡ end → Does s m end r.output → Covers r (mach m s)
    by (ended status) e d =
        let x = exits_mach d in record {
          output = subst (IsPrefix (output_of (mach m s))) d.output_is (along_end s d.last (length d.way + 1) status x m);
          end = λ b output f.
              let q = exit_inverted (mach m s) b output f in
              let same = one_exit s d.last q.0 (length d.way + 1) m status b x q.1 in
              (e ∙ ap ended same.0, sym d.output_is ∙ ap (λ t. t.output) same.1 ∙ q.2);
        }
    by going e d =
        let x = path_early m s d.way d.last d.path d.long in record {
          output = subst (λ p. IsPrefix (output_of p) r.output) (sym x.runs) (subst (IsPrefix x.at.output) d.output_is (path_grows x.at x.way d.last x.path));
          end = λ b output f.
              let q = exit_inverted (mach m s) b output f in
              let both : Runs x.at ≡ Exited b q.0 = sym x.runs ∙ q.1 in absurd cc;
        }

unstuck : (s : State) (m : ℕ) (r : Run) → Does s m r.end r.output → (cause : StuckCause) (u : State) → mach m s ≢ Stuck cause u
unstuck s m r d = by r.end d
  where
    by : (end : End) → Does s m end r.output → (cause : StuckCause) (u : State) → mach m s ≢ Stuck cause u
    by (ended status) d = not_stuck s d.last (length d.way + 1) status (exits_mach d) m
    by going d = λ cause u f.
        let x = path_early m s d.way d.last d.path d.long in
        let both : Runs x.at ≡ Stuck cause u = sym x.runs ∙ f in absurd cc

pub follows : (entry : ℕ) (segments : List Segment) (runs : List Answer → ℕ → Run)
    → ((g : Given) (answers : List Answer) (n : ℕ) → Does (start entry segments g answers) n (runs answers n).end (runs answers n).output) → FollowsRuns entry segments runs
follows entry segments runs h = record {
  reaches = λ g answers n. reached (start entry segments g answers) n (runs answers n) (h g answers n);
  covered = λ g answers m. covers (start entry segments g answers) m (runs answers m) (h g answers m);
  never_stuck = λ g answers m. unstuck (start entry segments g answers) m (runs answers m) (h g answers m);
}
