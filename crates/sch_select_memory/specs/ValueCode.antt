-- The routines that know how values are in the machine, one behind the other.
use Rattle.std.specs.Prelude.{◌≡◌, ℕ, List, [], ◌∷◌, ◌++◌}
use Rattle.sch_asm.specs.declared.item.Item.{Item}
use Rattle.sch_asm.specs.declared.item.Item.TheVariants as item
use Rattle.sch_asm.specs.Narrow.{narrowed}
use Rattle.sch_select_memory.specs.Addresses.{put_label, vector_label, string_label}
use Rattle.sch_select_memory.specs.PutCode.{put_value_code}
use Rattle.sch_select_memory.specs.MakeCode.{make_vector_code, make_string_code}
use Rattle.sch_select_memory.specs.RestCode.{rest_routine}

-- They name where the heap ends.
abbrev pub value_code : (heap_end : ℕ) → List Item
value_code heap_end =
    item.Label put_label ∷ (put_value_code ++ (item.Label vector_label ∷ make_vector_code heap_end
    (item.Label string_label ∷ make_string_code heap_end (rest_routine heap_end []))))

-- Among routines they stand in front, each instruction in its shortest form.
pub record StandInFront (heap_end : ℕ) (routines : List Item) : Type 0 where
  pub others : List Item
  pub parts : routines ≡ narrowed (value_code heap_end) ++ others
