use Rattle.std.proofs.Common.{get_or, arith}
use Rattle.std.proofs.lemmas.List.{get_or_default}
use Rattle.sch_anf.specs.ScopeTable.{scope_of}
use Rattle.sch_anf.proofs.ScopeTables.{start_kept, each_turn}
use Rattle.sch_anf.proofs.variables.Variables.bind_each.Goals as goal

pub loop-place-preserved : goal.loop-place-preserved
loop-place-preserved c =
    let i = c.loop-place.invariant in
    let b = c.in_ok-bind.ensures in
    record {
      scope = each_turn c.args.first c.loop-place.place (get_or c.as_slice-numbers.result.now c.loop-place.place 0) c.as_slice-numbers.result.now (scope_of c.loop-place.self.bound.items)
          (scope_of c.bind.new.self.bound.items) _ (omega arith) (get_or_default c.as_slice-numbers.result.now c.loop-place.place 0 (get_or c.as_slice-numbers.result.now c.loop-place.place 0)
          (omega arith)) b.scope i.scope;
      kept = start_kept c.args.self.now.bound.items c.loop-place.self.bound.items c.bind.new.self.bound.items i.more b.kept i.kept;
      more = omega (arith, i.more, b.len);
      next = omega (arith, b.next, i.next);
    }
