use Rattle.std.proofs.Common.{◌≡◌, ◌++◌, List, drop}
use Rattle.sch_word.specs.values.Registers.{argument_registers}
use Rattle.sch_asm.specs.declared.item.Item.{Item}
use Rattle.sch_select_memory.specs.RestCode.{firsts_code}
use Rattle.sch_runtime.proofs.new_list.first_lists.Given as goal

abbrev pub invariant-loop-m : goal.invariant-loop-m
invariant-loop-m l = (rest : List Item) → l.out ++ firsts_code l.heap_end l.m (drop l.m argument_registers) rest
    ≡ l.initial.out ++ firsts_code l.heap_end 0 argument_registers rest
