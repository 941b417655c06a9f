use Rattle.std.proofs.Common.{◌≡◌, ◌+◌, ◌-◌, length}
use Rattle.sch_assign.specs.Table.{group_marked}
use Rattle.sch_assign.proofs.marking.mark_group.Given as goal

abbrev pub invariant-loop-place : goal.invariant-loop-place
invariant-loop-place l = record {
  ahead : group_marked (l.first + l.place) (l.count - l.place) l.celled.items ≡ group_marked l.first l.count l.initial.celled.items;
  size : length l.celled.items ≡ length l.initial.celled.items;
}
