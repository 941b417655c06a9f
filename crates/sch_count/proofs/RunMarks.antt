-- The activations of a run, mark by mark: what one mark more makes of them, and that they have no more marks than the run.
use Rattle.std.proofs.Common.{◌≡◌, ℕ, ◌+◌, ◌-◌, ◌<◌, ◌≤◌, ◌^◌, Bool, true, false, not, ◌&&◌, cond, List, [], ◌∷◌, ◌++◌, length, Option, Some, None, refl, sym, ap, ◌∙◌, subst, arith, append_assoc, append-nil}
use Rattle.std.specs.List.{cons_option}
use Rattle.std.proofs.lemmas.List.Sums.{sum_by-cons, sum_by-append}
use Rattle.std.proofs.lemmas.List.{length_push}
use Rattle.sch_word.specs.declared.mark.MarkKind.{MarkKind}
use Rattle.sch_word.specs.declared.mark.MarkKind.TheVariants.{Enter, Call, Return, Tail}
use Rattle.sch_word.specs.runs.Activations.{Activations, after, activations, is_enter, none_yet, pass, recorded, resumed, settled, with_mark}
use Rattle.sch_word.proofs.facts.AfterMarks.{after_both}
use Rattle.sch_count.specs.declared.tally.Tally.{Tally}
use Rattle.sch_count.specs.ActivationCounts.{replaced, replaced_by, unended}
use Rattle.sch_count.specs.Tallied.{marks_in, HasRoom, Tallies, TalliesMarks}
use Rattle.sch_count.proofs.RowSums.{sum-entered, sum-changed, sum-closed}

-- ---- one mark more

replaced_more : (a : Activations) (marks : List MarkKind) (m : MarkKind) → replaced a (marks ++ m ∷ []) ≡ replaced a marks ++ replaced_by m (settled m (after a marks))
replaced_more a [] m = append-nil (replaced_by m (settled m a))
replaced_more a (k ∷ marks) m =
    ap (λ l. replaced_by k (settled k a) ++ l) (replaced_more (pass k (settled k a)) marks m)
    ∙ sym (append_assoc (replaced_by k (settled k a)) (replaced (pass k (settled k a)) marks) (replaced_by m (settled m (after (pass k (settled k a)) marks))))

pub one_more : (t : Tally) (marks : List MarkKind) (m : MarkKind) → Tallies t (pass m (settled m (activations marks))) (replaced none_yet marks ++ replaced_by m (settled m (activations marks)))
    → TalliesMarks t (marks ++ m ∷ [])
one_more t marks m h =
    subst (λ a. Tallies t a (replaced none_yet (marks ++ m ∷ []))) (sym (after_both none_yet marks (m ∷ [])))
    (subst (Tallies t (pass m (settled m (activations marks)))) (sym (replaced_more none_yet marks m)) h)

-- ---- how many marks activations have

abbrev all_marks : Activations → List (List MarkKind) → ℕ
all_marks a over = marks_in (a.ended ++ (over ++ unended a))

-- an activation that goes on has the marks that it had
resumed_same : (suspended ended over : List (List MarkKind)) → all_marks (resumed suspended ended) over ≡ marks_in (ended ++ (over ++ suspended))
resumed_same [] ended over = refl
resumed_same (own ∷ suspended) ended over = refl

top_less : (ended over suspended : List (List MarkKind)) (top : Option (List MarkKind)) → marks_in (ended ++ (over ++ suspended)) ≤ marks_in (ended ++ (over ++ cons_option top suspended))
top_less ended over suspended None = omega arith
top_less ended over suspended (Some own) =
    omega (
      arith,
      sum_by-append length ended (over ++ suspended),
      sum_by-append length over suspended,
      sum_by-append length ended (over ++ (own ∷ suspended)),
      sum_by-append length over (own ∷ suspended),
      sum_by-cons length own suspended,
    )

settled_le : (m : MarkKind) (a : Activations) (over : List (List MarkKind)) → all_marks (settled m a) over ≤ all_marks a over
settled_le m a over = by (a.handed_over && not (is_enter m))
  where
    by : (q : Bool) → all_marks (cond q (resumed a.suspended a.ended) (record { current = a.current; suspended = a.suspended; handed_over = false; ended = a.ended })) over ≤ all_marks a over
    by true = let e = resumed_same a.suspended a.ended over in let l = top_less a.ended over a.suspended a.current in omega (arith, e, l)
    by false = omega arith

changed_le : (ended over suspended : List (List MarkKind)) (m : MarkKind) (top : Option (List MarkKind))
    → marks_in (ended ++ (over ++ (with_mark m top ++ suspended))) ≤ marks_in (ended ++ (over ++ cons_option top suspended)) + 1
changed_le ended over suspended m None = omega arith
changed_le ended over suspended m (Some own) = omega (arith, sum-changed length ended over suspended own (own ++ m ∷ []), length_push own m)

recorded_same : (m : MarkKind) (top : Option (List MarkKind)) (suspended : List (List MarkKind)) → cons_option (recorded m top) suspended ≡ with_mark m top ++ suspended
recorded_same m None suspended = refl
recorded_same m (Some own) suspended = refl

recorded_le : (m : MarkKind) (a : Activations) (over : List (List MarkKind)) → marks_in (a.ended ++ (over ++ cons_option (recorded m a.current) a.suspended)) ≤ all_marks a over + 1
recorded_le m a over =
    let e = ap (λ l. marks_in (a.ended ++ (over ++ l))) (recorded_same m a.current a.suspended) in
    let l = changed_le a.ended over a.suspended m a.current in
    omega (arith, e, l)

closed_le : (ended over suspended : List (List MarkKind)) (m : MarkKind) (top : Option (List MarkKind))
    → marks_in ((ended ++ with_mark m top) ++ (over ++ suspended)) ≤ marks_in (ended ++ (over ++ cons_option top suspended)) + 1
closed_le ended over suspended m None = let e = ap (λ l. marks_in (l ++ (over ++ suspended))) (append-nil ended) in omega (arith, e)
closed_le ended over suspended m (Some own) = omega (arith, sum-closed length ended over suspended own (own ++ m ∷ []), length_push own m)

none_over : (m : MarkKind) (a : Activations) (over : List (List MarkKind)) (n : ℕ) → all_marks (pass m a) over ≤ n → all_marks (pass m a) (over ++ []) ≤ n
none_over m a over n h = subst (λ l. all_marks (pass m a) l ≤ n) (sym (append-nil over)) h

pass_le : (m : MarkKind) (a : Activations) (over : List (List MarkKind)) → all_marks (pass m a) (over ++ replaced_by m a) ≤ all_marks a over + 1
pass_le (Enter label) a over = omega (arith, sum-entered length a.ended over a.suspended a.current (Enter label ∷ []))
pass_le (Call site) a over = none_over (Call site) a over (all_marks a over + 1) (changed_le a.ended over a.suspended (Call site) a.current)
pass_le Return a over =
    none_over Return a over (all_marks a over + 1)
    (let e = resumed_same a.suspended (a.ended ++ with_mark Return a.current) over in let l = closed_le a.ended over a.suspended Return a.current in omega (arith, e, l))
pass_le (Tail site) a over = none_over (Tail site) a over (all_marks a over + 1) (closed_le a.ended over a.suspended (Tail site) a.current)
pass_le m a over = none_over m a over (all_marks a over + 1) (recorded_le m a over)

run_le : (marks : List MarkKind) (a : Activations) (over : List (List MarkKind)) → all_marks (after a marks) (over ++ replaced a marks) ≤ all_marks a over + length marks
run_le [] a over = let e = ap (all_marks a) (append-nil over) in omega (arith, e)
run_le (m ∷ marks) a over =
    let b = settled m a in
    let e = ap (all_marks (after (pass m b) marks)) (append_assoc over (replaced_by m b) (replaced (pass m b) marks)) in
    omega (arith, run_le marks (pass m b) (over ++ replaced_by m b), pass_le m b over, settled_le m a over, e)

-- the activations of a run have no more marks than it has
pub room_after : (t : Tally) (marks : List MarkKind) → TalliesMarks t marks → length marks < 2 ^ 128 - 1 → HasRoom t
room_after t marks h few = record {
  a = activations marks;
  over = replaced none_yet marks;
  tallies = h;
  few = let l = run_le marks none_yet [] in let e : all_marks none_yet [] ≡ 0 = refl in omega (arith, few, l, e);
}

-- room stays where a tail call is over
pub settled_room : (m : MarkKind) (t u : Tally) → ((a : Activations) (over : List (List MarkKind)) → Tallies t a over → Tallies u (settled m a) over) → HasRoom t → HasRoom u
settled_room m t u f r = record { a = settled m r.a; over = r.over; tallies = f r.a r.over r.tallies; few = omega (arith, r.few, settled_le m r.a r.over) }
