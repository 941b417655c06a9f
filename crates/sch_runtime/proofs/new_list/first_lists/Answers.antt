use Rattle.std.proofs.Common.{◌≡◌, ◌∷◌, ◌++◌, drop, refl, ap, ◌∙◌, arith}
use Rattle.sch_word.specs.values.Registers.{argument_registers}
use Rattle.sch_asm.specs.declared.item.Item.TheVariants as item
use Rattle.sch_select_memory.specs.RestCode.{check_pairs, first_code, firsts_code, list_label}
use Rattle.sch_runtime.proofs.EachRegister.{one_further}
use Rattle.sch_runtime.proofs.new_list.first_lists.Goals as goal

pub loop-m-preserved : goal.loop-m-preserved
loop-m-preserved c =
    one_further (firsts_code c.args.heap_end) (λ m r rest. item.Label (list_label m) ∷ check_pairs c.args.heap_end (first_code m r rest))
    (λ m r rs rest. refl) argument_registers c.loop-m.m c.loop-m-test.true c.loop-m.out _
    (λ rest. c.args.out.now ++ firsts_code c.args.heap_end 0 argument_registers rest) c.in_ok-first_list.ensures c.loop-m.invariant

pub returns : goal.returns
returns c =
    let over = c.loop-m-test.false in
    let within = c.loop-m.auto.m-end in
    let all : 6 ≡ c.loop-m.m = omega (arith, over, within) in
    λ rest. ap (λ n. c.loop-m.out ++ firsts_code c.args.heap_end n (drop n argument_registers) rest) all ∙ c.loop-m.invariant rest
