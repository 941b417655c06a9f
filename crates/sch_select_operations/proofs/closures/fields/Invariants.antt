use Rattle.std.proofs.Common.{◌≡◌, ◌++◌, ◌+◌, ◌*◌, ◌^◌, ◌<◌, List, drop, length}
use Rattle.std.specs.List.{list_all}
use Rattle.std.specs.Prelude.{IsTrue}
use Rattle.sch_asm.specs.declared.item.Item.{Item}
use Rattle.sch_select_operations.specs.ClosureCode.{fields_code}
use Rattle.sch_select_operations.specs.Reach.{is_reached_source}
use Rattle.sch_select_operations.proofs.closures.fields.Given as goal

abbrev pub invariant-loop-x : goal.invariant-loop-x
invariant-loop-x l = record {
  items : (rest : List Item) → l.out ++ fields_code l.next (drop l.x-index l.sources) rest ≡ l.initial.out ++
      fields_code l.offset l.sources rest;
  low : l.next + 8 * length (drop l.x-index l.sources) < 2 ^ 31;
  reached : IsTrue (list_all is_reached_source (drop l.x-index l.sources));
}
