use Rattle.std.proofs.Common.{arith, ap, length, ◌≡◌, suc, None}
use Rattle.sch_names.proofs.ScopeLists.{onto_next, start_left}
use Rattle.sch_names.proofs.scope.Scope.bind_all.Goals as goal

pub loop-v-preserved : goal.loop-v-preserved
loop-v-preserved c =
    let i = c.loop-v.invariant in
    let bound = c.in_ok-bind.ensures in
    let more : length c.bind.new.self ≡ suc (length c.loop-v.self) = ap length bound in
    let l = i.longer in
    record {
      bound = onto_next c.args.names.now c.loop-v.v-index None c.loop-v.self c.bind.new.self _ c.loop-v-test.true bound i.bound;
      kept = start_left _ c.loop-v.self c.bind.new.self c.args.self.now bound l i.kept;
      longer = omega (arith, l, more);
    }
