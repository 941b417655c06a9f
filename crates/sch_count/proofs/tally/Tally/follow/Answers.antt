use Rattle.std.proofs.Common.{◌≡◌, ◌<◌, ◌^◌, ◌++◌, length, sym, ap, ◌∙◌, subst, arith, length-append}
use Rattle.std.specs.Prelude.{All}
use Rattle.sch_word.proofs.facts.KnownErrors.{known_error}
use Rattle.sch_step.specs.Machine.{core_of}
use Rattle.sch_step.specs.Run.{Does}
use Rattle.sch_count.specs.declared.error.CountError.TheVariants as count_error
use Rattle.sch_count.specs.TracedCounts.{Follows}
use Rattle.sch_count.specs.MarkTables.{table_marks}
use Rattle.sch_count.specs.Tallied.{IsKnown, TalliesMarks}
use Rattle.sch_count.proofs.MachineMarks.{counting_starts, exits, forgets, is_stuck, one_address, rests, runs_on}
use Rattle.sch_count.proofs.tally.Tally.follow.Goals as goal

pub loop-i-init : goal.loop-i-init
loop-i-init g c = counting_starts (table_marks c.args.table.now) c.args.self.now c.args.m.now (g.O.Outlet.bytes c.args.out.now) (g.O.Outlet.left c.args.out.now) (g.O.Outlet.faults c.args.out.now) c.requires.fresh c.requires.runs

pub pass_all-requires-clause-known : goal.pass_all-requires-clause-known
pass_all-requires-clause-known g c =
    subst (λ l. All (IsKnown (length c.loop-i.self.rows.items)) l) (sym c.marks_of-marks.ensures)
    (subst (λ n. All (IsKnown n) (table_marks c.args.table.now c.at-address.result)) (sym c.loop-i.invariant.rows) (c.requires.known.known c.at-address.result))

pub pass_all-requires-clause-room : goal.pass_all-requires-clause-room
pass_all-requires-clause-room g c = record {
  marks = c.loop-i.invariant.events;
  tallies = c.loop-i.invariant.tallies;
  few = one_address c.loop-i.i c.args.steps (length c.marks_of-marks.result.now) c.loop-i.invariant.events c.loop-i-test.true (omega arith)
      (subst (λ l. length l < 2 ^ 64) (sym c.marks_of-marks.ensures) (c.requires.known.few c.at-address.result)) c.loop-i.invariant.few;
}

pub loop-i-preserved : goal.loop-i-preserved
loop-i-preserved g c =
    let p = c.loop-i.invariant in
    let f = table_marks c.args.table.now in
    let here = (core_of c.loop-i.m).place in
    let kinds : c.marks_of-marks.result.now ≡ f here = c.marks_of-marks.ensures ∙ ap f c.at-address.ensures in
    record {
      events = p.events ++ f here;
      few = let a = p.few in let b = c.requires.known.few here in omega (arith, a, b, length-append p.events (f here));
      tallies = subst (λ l. TalliesMarks c.pass_all.new.self (p.events ++ l)) kinds (c.in_ok-pass_all.ensures.tallies p.events p.tallies);
      rows = c.pass_all.ensures.rows ∙ p.rows;
      on = c.in-Ran.ensures.stands;
      follows = runs_on f (TalliesMarks c.pass_all.new.self) c.args.steps c.args.m.now c.loop-i.i p.events c.loop-i.m (g.O.Outlet.bytes c.args.out.now) (g.O.Outlet.bytes c.loop-i.out) (g.O.Outlet.left c.args.out.now) (g.O.Outlet.left c.loop-i.out) (g.O.Outlet.faults c.args.out.now) (g.O.Outlet.faults c.loop-i.out) p.on p.follows
          c.step.new.m (g.O.Outlet.bytes c.step.new.out) (g.O.Outlet.left c.step.new.out) (g.O.Outlet.faults c.step.new.out) c.in-Ran.ensures.did;
    }

pub returns-in_err-pass_all-clause-did : goal.returns-in_err-pass_all-clause-did
returns-in_err-pass_all-clause-did g c =
    let p = c.loop-i.invariant in
    let f = table_marks c.args.table.now in
    let before = c.loop-i-test.true in
    subst (λ r. Does (Follows c.args.steps f (TalliesMarks c.pass_all.new.self) r c.args.m.now c.loop-i.m) (g.O.Outlet.bytes c.args.out.now) (g.O.Outlet.bytes c.loop-i.out) (g.O.Outlet.left c.args.out.now) (g.O.Outlet.left c.loop-i.out) (g.O.Outlet.faults c.args.out.now) (g.O.Outlet.faults c.loop-i.out))
    (sym (known_error c.from_residual.result count_error.Memory c.from_residual.ensures.1))
    (forgets f (TalliesMarks c.pass_all.new.self) c.args.steps c.args.m.now c.loop-i.i p.events c.loop-i.m (g.O.Outlet.bytes c.args.out.now) (g.O.Outlet.bytes c.loop-i.out) (g.O.Outlet.left c.args.out.now) (g.O.Outlet.left c.loop-i.out) (g.O.Outlet.faults c.args.out.now) (g.O.Outlet.faults c.loop-i.out) p.on p.follows (omega (arith, before)))

pub returns-in-Exited-clause-did : goal.returns-in-Exited-clause-did
returns-in-Exited-clause-did g c =
    let p = c.loop-i.invariant in
    let f = table_marks c.args.table.now in
    let here = (core_of c.loop-i.m).place in
    let kinds : c.marks_of-marks.result.now ≡ f here = c.marks_of-marks.ensures ∙ ap f c.at-address.ensures in
    exits f (TalliesMarks c.pass_all.new.self) c.args.steps c.args.m.now c.loop-i.i p.events c.loop-i.m (g.O.Outlet.bytes c.args.out.now) (g.O.Outlet.bytes c.loop-i.out) (g.O.Outlet.left c.args.out.now) (g.O.Outlet.left c.loop-i.out) (g.O.Outlet.faults c.args.out.now) (g.O.Outlet.faults c.loop-i.out) p.on p.follows
    c.step.new.m (g.O.Outlet.bytes c.step.new.out) (g.O.Outlet.left c.step.new.out) (g.O.Outlet.faults c.step.new.out) c.in-Exited.status c.loop-i-test.true
    (subst (λ l. TalliesMarks c.pass_all.new.self (p.events ++ l)) kinds (c.in_ok-pass_all.ensures.tallies p.events p.tallies)) c.in-Exited.ensures.did

pub returns-in-Stuck-clause-did : goal.returns-in-Stuck-clause-did
returns-in-Stuck-clause-did g c =
    let p = c.loop-i.invariant in
    is_stuck (table_marks c.args.table.now) (TalliesMarks c.pass_all.new.self) c.args.steps c.args.m.now c.loop-i.i p.events c.loop-i.m (g.O.Outlet.bytes c.args.out.now) (g.O.Outlet.bytes c.loop-i.out) (g.O.Outlet.left c.args.out.now) (g.O.Outlet.left c.loop-i.out) (g.O.Outlet.faults c.args.out.now) (g.O.Outlet.faults c.loop-i.out) p.on p.follows
    c.step.new.m (g.O.Outlet.bytes c.step.new.out) (g.O.Outlet.left c.step.new.out) (g.O.Outlet.faults c.step.new.out) c.in-Stuck.stuck c.loop-i-test.true c.in-Stuck.ensures.did

pub returns-clause-did : goal.returns-clause-did
returns-clause-did g c =
    let p = c.loop-i.invariant in
    let last = c.loop-i.auto.i-end in
    let over = c.loop-i-test.false in
    rests (table_marks c.args.table.now) (TalliesMarks c.loop-i.self) c.args.steps c.args.m.now c.loop-i.i p.events c.loop-i.m (g.O.Outlet.bytes c.args.out.now) (g.O.Outlet.bytes c.loop-i.out) (g.O.Outlet.left c.args.out.now) (g.O.Outlet.left c.loop-i.out) (g.O.Outlet.faults c.args.out.now) (g.O.Outlet.faults c.loop-i.out) p.on p.follows
    c.run.new.m (g.O.Outlet.bytes c.run.new.out) (g.O.Outlet.left c.run.new.out) (g.O.Outlet.faults c.run.new.out) c.run.result c.status.result c.status.ensures (omega (arith, last, over)) p.tallies c.run.ensures.did
