use Rattle.std.proofs.Common.{◌≡◌, ◌≤◌, ◌-◌, drop, length}
use Rattle.sch_names.specs.Scope.{onto}
use Rattle.sch_names.specs.ScopeView.{given_names}
use Rattle.sch_names.proofs.scope.Scope.bind_all.Given as goal

abbrev pub invariant-loop-v : goal.invariant-loop-v
invariant-loop-v l = record {
  bound : onto (given_names (drop l.v-index l.names)) l.self ≡ onto (given_names l.names) l.initial.self;
  kept : drop (length l.self - length l.initial.self) l.self ≡ l.initial.self;
  longer : length l.initial.self ≤ length l.self;
}
