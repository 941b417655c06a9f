use Rattle.std.proofs.Common.{◌≡◌, ◌++◌, ◌+◌, ◌^◌, ◌≤◌, List, drop}
use Rattle.std.specs.List.{list_all}
use Rattle.std.specs.Prelude.{IsTrue}
use Rattle.sch_asm.specs.declared.item.Item.{Item}
use Rattle.sch_select.specs.Reach.{is_reached_instruction, names_below}
use Rattle.sch_select.specs.Select.{all_labels_needed, body_code}
use Rattle.sch_select.proofs.body_items.body.Given as goal

abbrev pub invariant-loop-i : goal.invariant-loop-i
invariant-loop-i l = record {
  items : (rest : List Item) → l.out ++ body_code l.labels.base l.labels.end l.labels.words l.labels.heap_end l.labels.literals l.next
      (drop l.i-index l.instructions) rest ≡ l.initial.out ++ body_code l.labels.base l.labels.end l.labels.words
      l.labels.heap_end l.labels.literals l.n l.instructions rest;
  next : l.next + all_labels_needed (drop l.i-index l.instructions) ≡ l.n + all_labels_needed l.instructions;
  reached : IsTrue (list_all is_reached_instruction (drop l.i-index l.instructions));
  below : IsTrue (list_all (names_below l.labels.base l.labels.end) (drop l.i-index l.instructions));
  few : l.next + all_labels_needed (drop l.i-index l.instructions) + 12 ≤ 2 ^ 32;
}
