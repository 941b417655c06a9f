use Rattle.std.proofs.Common.{◌≡◌, ◌++◌, drop, refl, ap, ◌∙◌, arith}
use Rattle.sch_word.specs.values.Registers.{argument_registers}
use Rattle.sch_select_memory.specs.RestCode.{later_registers, more_code, registers_code}
use Rattle.sch_runtime.proofs.EachRegister.{one_further}
use Rattle.sch_runtime.proofs.new_list.mores.Goals as goal

pub loop-m-preserved : goal.loop-m-preserved
loop-m-preserved c =
    one_further registers_code more_code (λ m r rs rest. refl) argument_registers c.loop-m.m c.loop-m-test.true c.loop-m.out _
    (λ rest. c.args.out.now ++ registers_code 1 later_registers rest) c.in_ok-more.ensures c.loop-m.invariant

pub returns : goal.returns
returns c =
    let over = c.loop-m-test.false in
    let within = c.loop-m.auto.m-end in
    let all : 6 ≡ c.loop-m.m = omega (arith, over, within) in
    λ rest. ap (λ n. c.loop-m.out ++ registers_code n (drop n argument_registers) rest) all ∙ c.loop-m.invariant rest
