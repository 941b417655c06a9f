use Rattle.std.proofs.Common.{◌≡◌, ◌<◌, ◌^◌, [], length, Ok, Err, sym, ap, ◌∙◌, subst, arith}
use Rattle.std.specs.Prelude.{All}
use Rattle.sch_word.proofs.facts.KnownErrors.{known_error}
use Rattle.sch_asm.specs.Stands.{marks_at}
use Rattle.sch_step.specs.Run.{Does}
use Rattle.sch_count.specs.declared.error.CountError.TheVariants as count_error
use Rattle.sch_count.specs.ActivationCounts.{AreRows}
use Rattle.sch_count.specs.MarkTables.{table_marks}
use Rattle.sch_count.specs.Tallied.{IsKnown, TalliesMarks}
use Rattle.sch_count.specs.TracedCounts.{AreCounted, Follows, status_of}
use Rattle.sch_count.proofs.AddressMarks.{all_at, length-marks_at}
use Rattle.sch_count.proofs.MachineMarks.{behind_look, first_exits, first_stuck, forgets_first}
use Rattle.sch_count.proofs.counting.count.Goals as goal

pub returns-in_err-table-clause-did : goal.returns-in_err-table-clause-did
returns-in_err-table-clause-did g c =
    let r = c.from_residual.result in
    subst (λ x. Does (Follows c.args.extent.steps (marks_at c.args.marks.now) (AreCounted c.args.extent.bodies x) (status_of x) c.args.m.now c.args.m.now) (g.O.Outlet.bytes c.args.out.now) (g.O.Outlet.bytes c.args.out.now) (g.O.Outlet.left c.args.out.now) (g.O.Outlet.left c.args.out.now) (g.O.Outlet.faults c.args.out.now) (g.O.Outlet.faults c.args.out.now))
    (sym (known_error r count_error.Memory c.from_residual.ensures.1))
    (forgets_first (marks_at c.args.marks.now) (AreCounted c.args.extent.bodies (Err count_error.Memory)) c.args.extent.steps c.args.m.now (g.O.Outlet.bytes c.args.out.now) (g.O.Outlet.left c.args.out.now) (g.O.Outlet.faults c.args.out.now))

pub returns-in_err-tally-clause-did : goal.returns-in_err-tally-clause-did
returns-in_err-tally-clause-did g c =
    let r = c.from_residual-in_err-tally.result in
    subst (λ x. Does (Follows c.args.extent.steps (marks_at c.args.marks.now) (AreCounted c.args.extent.bodies x) (status_of x) c.args.m.now c.args.m.now) (g.O.Outlet.bytes c.args.out.now) (g.O.Outlet.bytes c.args.out.now) (g.O.Outlet.left c.args.out.now) (g.O.Outlet.left c.args.out.now) (g.O.Outlet.faults c.args.out.now) (g.O.Outlet.faults c.args.out.now))
    (sym (known_error r count_error.Memory c.from_residual-in_err-tally.ensures.1))
    (forgets_first (marks_at c.args.marks.now) (AreCounted c.args.extent.bodies (Err count_error.Memory)) c.args.extent.steps c.args.m.now (g.O.Outlet.bytes c.args.out.now) (g.O.Outlet.left c.args.out.now) (g.O.Outlet.faults c.args.out.now))

pub returns-in-Exited-clause-did : goal.returns-in-Exited-clause-did
returns-in-Exited-clause-did g c =
    let counts = c.into_counts.result in
    let are = AreCounted c.args.extent.bodies (Ok counts) in
    let rows : AreRows c.args.extent.bodies [] counts.rows = subst (λ n. AreRows n [] counts.rows) c.in_ok-tally.ensures.bodies (c.into_counts.ensures.rows [] c.in_ok-tally.ensures.tallies) in
    subst (λ n. Does (Follows c.args.extent.steps (marks_at c.args.marks.now) are (Ok n) c.args.m.now c.run.new.m) (g.O.Outlet.bytes c.args.out.now) (g.O.Outlet.bytes c.run.new.out) (g.O.Outlet.left c.args.out.now) (g.O.Outlet.left c.run.new.out) (g.O.Outlet.faults c.args.out.now) (g.O.Outlet.faults c.run.new.out))
    (sym c.into_counts.ensures.status)
    (first_exits (marks_at c.args.marks.now) are c.args.extent.steps c.args.m.now c.run.new.m (g.O.Outlet.bytes c.args.out.now) (g.O.Outlet.bytes c.run.new.out) (g.O.Outlet.left c.args.out.now) (g.O.Outlet.left c.run.new.out) (g.O.Outlet.faults c.args.out.now) (g.O.Outlet.faults c.run.new.out) c.in-Exited.status rows c.in-Exited.ensures.did)

pub returns-in-Stuck-clause-did : goal.returns-in-Stuck-clause-did
returns-in-Stuck-clause-did g c =
    first_stuck (marks_at c.args.marks.now) (AreCounted c.args.extent.bodies (Err (count_error.Stuck c.in-Stuck.stuck))) c.args.extent.steps c.args.m.now c.run.new.m (g.O.Outlet.bytes c.args.out.now) (g.O.Outlet.bytes c.run.new.out) (g.O.Outlet.left c.args.out.now) (g.O.Outlet.left c.run.new.out) (g.O.Outlet.faults c.args.out.now) (g.O.Outlet.faults c.run.new.out) c.in-Stuck.stuck c.in-Stuck.ensures.did

pub follow-requires-clause-fresh : goal.follow-requires-clause-fresh
follow-requires-clause-fresh g c = c.in_ok-tally.ensures.tallies

pub follow-requires-clause-known : goal.follow-requires-clause-known
follow-requires-clause-known g c = record {
  known = λ a. subst (All (IsKnown (length c.in_ok-tally.tally.rows.items))) (sym (c.in_ok-table.ensures.table a))
      (subst (λ n. All (IsKnown n) (marks_at c.args.marks.now a)) (sym c.in_ok-tally.ensures.bodies) (all_at (IsKnown c.args.extent.bodies) c.args.marks.now a c.requires));
  few = λ a.
      let e : length (table_marks c.in_ok-table.table a) ≡ length (marks_at c.args.marks.now a) = ap length (c.in_ok-table.ensures.table a) in
      let l = length-marks_at c.args.marks.now a in
      let s : length c.args.marks.now < 2 ^ 64 = c.in_ok-table.ensures.few in
      omega (arith, e, l, s);
}

pub follow-requires-clause-runs : goal.follow-requires-clause-runs
follow-requires-clause-runs g c = c.in-Spent.ensures.stands

pub returns-in_err-status-clause-did : goal.returns-in_err-status-clause-did
returns-in_err-status-clause-did g c =
    let error = c.in_err-status.field-0.0 in
    let marks = marks_at c.args.marks.now in
    let ends : c.follow.result ≡ Err error = c.in_err-status.was in
    subst (λ x. Does (Follows c.args.extent.steps marks (AreCounted c.args.extent.bodies x) (status_of x) c.args.m.now c.follow.new.m) (g.O.Outlet.bytes c.args.out.now) (g.O.Outlet.bytes c.follow.new.out) (g.O.Outlet.left c.args.out.now) (g.O.Outlet.left c.follow.new.out) (g.O.Outlet.faults c.args.out.now) (g.O.Outlet.faults c.follow.new.out))
    (sym (known_error c.from_residual-in_err-status.result error c.from_residual-in_err-status.ensures.1))
    (behind_look (table_marks c.in_ok-table.table) marks c.in_ok-table.ensures.table (TalliesMarks c.follow.new.self) (AreCounted c.args.extent.bodies (Err error)) (λ l h. tt) c.args.extent.steps c.args.m.now c.run.new.m
    c.follow.new.m (Err error) (g.O.Outlet.bytes c.args.out.now) (g.O.Outlet.bytes c.run.new.out) (g.O.Outlet.bytes c.follow.new.out) (g.O.Outlet.left c.args.out.now) (g.O.Outlet.left c.run.new.out) (g.O.Outlet.left c.follow.new.out) (g.O.Outlet.faults c.args.out.now) (g.O.Outlet.faults c.run.new.out) (g.O.Outlet.faults c.follow.new.out) c.in-Spent.ensures.stands c.in-Spent.ensures.did
    (subst (λ x. Does (Follows c.args.extent.steps (table_marks c.in_ok-table.table) (TalliesMarks c.follow.new.self) x c.run.new.m c.follow.new.m) (g.O.Outlet.bytes c.run.new.out) (g.O.Outlet.bytes c.follow.new.out) (g.O.Outlet.left c.run.new.out) (g.O.Outlet.left c.follow.new.out) (g.O.Outlet.faults c.run.new.out) (g.O.Outlet.faults c.follow.new.out)) ends c.follow.ensures.did))

pub returns-clause-did : goal.returns-clause-did
returns-clause-did g c =
    let counts = c.into_counts-2.result in
    let are = AreCounted c.args.extent.bodies (Ok counts) in
    let marks = marks_at c.args.marks.now in
    let ends : c.follow.result ≡ Ok c.in_ok-status.status = c.in_ok-status.was in
    subst (λ n. Does (Follows c.args.extent.steps marks are (Ok n) c.args.m.now c.follow.new.m) (g.O.Outlet.bytes c.args.out.now) (g.O.Outlet.bytes c.follow.new.out) (g.O.Outlet.left c.args.out.now) (g.O.Outlet.left c.follow.new.out) (g.O.Outlet.faults c.args.out.now) (g.O.Outlet.faults c.follow.new.out))
    (sym c.into_counts-2.ensures.status)
    (behind_look (table_marks c.in_ok-table.table) marks c.in_ok-table.ensures.table (TalliesMarks c.follow.new.self) are
    (λ l h. subst (λ n. AreRows n l counts.rows) (c.follow.ensures.rows ∙ c.in_ok-tally.ensures.bodies) (c.into_counts-2.ensures.rows l h)) c.args.extent.steps c.args.m.now c.run.new.m
    c.follow.new.m (Ok c.in_ok-status.status) (g.O.Outlet.bytes c.args.out.now) (g.O.Outlet.bytes c.run.new.out) (g.O.Outlet.bytes c.follow.new.out) (g.O.Outlet.left c.args.out.now) (g.O.Outlet.left c.run.new.out) (g.O.Outlet.left c.follow.new.out) (g.O.Outlet.faults c.args.out.now) (g.O.Outlet.faults c.run.new.out) (g.O.Outlet.faults c.follow.new.out) c.in-Spent.ensures.stands c.in-Spent.ensures.did
    (subst (λ x. Does (Follows c.args.extent.steps (table_marks c.in_ok-table.table) (TalliesMarks c.follow.new.self) x c.run.new.m c.follow.new.m) (g.O.Outlet.bytes c.run.new.out) (g.O.Outlet.bytes c.follow.new.out) (g.O.Outlet.left c.run.new.out) (g.O.Outlet.left c.follow.new.out) (g.O.Outlet.faults c.run.new.out) (g.O.Outlet.faults c.follow.new.out)) ends c.follow.ensures.did))
