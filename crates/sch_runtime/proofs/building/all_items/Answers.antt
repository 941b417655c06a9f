use Rattle.std.proofs.Common.{◌≡◌, List, ◌++◌, ap, ◌∙◌}
use Rattle.sch_asm.specs.declared.item.Item.{Item}
use Rattle.sch_asm.specs.Narrow.{narrowed}
use Rattle.sch_select_memory.specs.ValueCode.{value_code}
use Rattle.sch_runtime.specs.Code.{routine_items}
use Rattle.sch_runtime.proofs.building.all_items.Goals as goal

-- two lists, the one behind the other
both : (front others slice all before behind : List Item) → front ≡ before → slice ≡ others → others ≡ behind → all ≡ front ++ slice → all ≡ before ++ behind
both front others slice all before behind e f g h = h ∙ ap (λ l. l ++ slice) e ∙ ap (λ l. before ++ l) (f ∙ g)

pub returns : goal.returns
returns c =
    both c.in_ok-items.items c.in_ok-others.others c.as_slice.result.now c.extend_from_slice.new.self (narrowed (value_code c.args.heap_end)) routine_items
    c.in_ok-items.ensures c.as_slice.ensures c.in_ok-others.ensures c.in_ok-extend_from_slice.ensures.ok
