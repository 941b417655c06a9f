use Rattle.std.proofs.Common.{arith}
use Rattle.sch_anf.specs.ScopeTable.{scope_of}
use Rattle.sch_anf.proofs.ScopeTables.{start_kept, group_turn}
use Rattle.sch_anf.proofs.variables.Variables.bind_group.Goals as goal

pub loop-place-preserved : goal.loop-place-preserved
loop-place-preserved c =
    let i = c.loop-place.invariant in
    let b = c.in_ok-bind_new.ensures in
    record {
      scope = group_turn c.args.first c.loop-place.place c.args.count c.loop-place.self.next c.bind_new.new.self.next (scope_of c.loop-place.self.bound.items)
          (scope_of c.bind_new.new.self.bound.items) _ c.loop-place-test.true b.next b.scope i.scope;
      kept = start_kept c.args.self.now.bound.items c.loop-place.self.bound.items c.bind_new.new.self.bound.items i.more b.kept i.kept;
      more = omega (arith, i.more, b.len);
      next = omega (arith, b.next, i.next);
    }
