use Rattle.std.proofs.Common.{◌≡◌, ◌++◌, ◌+◌, ◌^◌, ◌≤◌, List, drop, length}
use Rattle.std.specs.List.{list_all}
use Rattle.std.specs.Prelude.{IsTrue}
use Rattle.sch_asm.specs.declared.item.Item.{Item}
use Rattle.sch_frames.specs.SourceView.{codes_of}
use Rattle.sch_select.specs.Program.{forms_code, own_labels}
use Rattle.sch_select.specs.Reach.{is_reached_code}
use Rattle.sch_select_memory.specs.Addresses.{max_labels}
use Rattle.sch_select.proofs.body_items.forms.Given as goal

abbrev pub invariant-loop-b : goal.invariant-loop-b
invariant-loop-b l = record {
  items : (rest : List Item) → l.out ++ forms_code l.frames.words l.frames.heap_end l.frames.literals l.label l.next
      (codes_of (drop l.b-index l.bodies)) rest ≡ l.initial.out ++ forms_code l.frames.words l.frames.heap_end l.frames.literals 0 l.n
      (codes_of l.bodies) rest;
  reached : IsTrue (list_all is_reached_code (codes_of (drop l.b-index l.bodies)));
  count : l.label + length (drop l.b-index l.bodies) ≤ max_labels;
  few : l.next + own_labels (codes_of (drop l.b-index l.bodies)) + 12 ≤ 2 ^ 32;
}
