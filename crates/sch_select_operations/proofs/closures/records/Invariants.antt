use Rattle.std.proofs.Common.{◌≡◌, ◌++◌, ◌+◌, ◌*◌, ◌≤◌, List, drop, length}
use Rattle.std.specs.List.{list_all}
use Rattle.std.specs.Prelude.{IsTrue}
use Rattle.sch_asm.specs.declared.item.Item.{Item}
use Rattle.sch_select_operations.specs.ClosureCode.{records_code}
use Rattle.sch_select_operations.specs.Reach.{is_reached_member, max_group_bytes, max_record_bytes}
use Rattle.sch_select_operations.proofs.closures.records.Given as goal

abbrev pub invariant-loop-m : goal.invariant-loop-m
invariant-loop-m l = record {
  items : (rest : List Item) → l.out ++ records_code l.next (drop l.m-index l.members) rest ≡ l.initial.out ++
      records_code l.offset l.members rest;
  low : l.next + max_record_bytes * length (drop l.m-index l.members) ≤ max_group_bytes;
  reached : IsTrue (list_all is_reached_member (drop l.m-index l.members));
}
