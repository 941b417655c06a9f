use Rattle.std.proofs.Common.{◌≡◌, ◌++◌, List, drop}
use Rattle.sch_word.specs.values.Registers.{argument_registers}
use Rattle.sch_asm.specs.declared.item.Item.{Item}
use Rattle.sch_select_memory.specs.RestCode.{later_registers, registers_code}
use Rattle.sch_runtime.proofs.new_list.mores.Given as goal

abbrev pub invariant-loop-m : goal.invariant-loop-m
invariant-loop-m l = (rest : List Item) → l.out ++ registers_code l.m (drop l.m argument_registers) rest
    ≡ l.initial.out ++ registers_code 1 later_registers rest
