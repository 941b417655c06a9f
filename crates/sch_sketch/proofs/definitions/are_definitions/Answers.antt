use Rattle.std.proofs.Common.{ap, arith}
use Rattle.sch_read.specs.Valid.{weights}
use Rattle.sch_read.specs.Views.{data_of}
use Rattle.sch_sketch.proofs.definitions.are_definitions.Goals as goal

pub each-smaller : goal.each-smaller
each-smaller c =
    let b = ap (λ l. weights (data_of l)) c.in-Some.ensures in
    omega (arith, b, c.in_ok-may_define.ensures.less)
