-- The items of a list that is kept in parts, the last one apart.
use Rattle.std.specs.Prelude.{List, ◌++◌, Vec, flat_map}
use Rattle.std.specs.declared.alloc.Global.{Global}
use Rattle.sch_asm.specs.declared.item.Item.{Item}

abbrev pub items_in_parts : List (Vec Item Global) → List Item → List Item
items_in_parts earlier last = flat_map (λ part. part.items) earlier ++ last
