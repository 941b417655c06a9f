use Rattle.std.proofs.Common.{◌≡◌, ◌+◌, ◌*◌, ◌≤◌, drop, length}
use Rattle.std.specs.List.{list_all}
use Rattle.std.specs.Prelude.{IsTrue}
use Rattle.sch_select_operations.specs.ClosureCode.{group_bytes}
use Rattle.sch_select_operations.specs.Reach.{is_reached_member, max_group_bytes, max_record_bytes}
use Rattle.sch_select_operations.proofs.closures.group_bytes.Given as goal

abbrev pub invariant-loop-m : goal.invariant-loop-m
invariant-loop-m l = record {
  bytes : l.bytes + group_bytes (drop l.m-index l.members) ≡ group_bytes l.members;
  few : l.bytes + max_record_bytes * length (drop l.m-index l.members) ≤ max_group_bytes;
  reached : IsTrue (list_all is_reached_member (drop l.m-index l.members));
}
