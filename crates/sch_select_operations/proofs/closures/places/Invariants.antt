use Rattle.std.proofs.Common.{◌≡◌, ◌++◌, ◌+◌, ◌*◌, ◌≤◌, List, drop, length}
use Rattle.std.specs.List.{list_all}
use Rattle.std.specs.Prelude.{IsTrue}
use Rattle.sch_asm.specs.declared.item.Item.{Item}
use Rattle.sch_select_operations.specs.ClosureCode.{places_code}
use Rattle.sch_select_operations.specs.Reach.{is_reached_member, max_group_bytes, max_record_bytes}
use Rattle.sch_select_operations.proofs.closures.places.Given as goal

abbrev pub invariant-loop-m : goal.invariant-loop-m
invariant-loop-m l = record {
  items : (rest : List Item) → l.out ++ places_code l.next (drop l.m-index l.members) l.spilled rest ≡ l.initial.out ++
      places_code l.offset l.members l.spills rest;
  low : l.next + max_record_bytes * length (drop l.m-index l.members) ≤ max_group_bytes;
  reached : IsTrue (list_all is_reached_member (drop l.m-index l.members));
}
