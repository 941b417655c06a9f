use Rattle.std.proofs.Common.{◌≡◌, ap, arith}
use Rattle.sch_link_program.specs.Definitions.{definitions_of}
use Rattle.sch_link_program.specs.Size.{size_of_definitions}
use Rattle.sch_read.specs.Valid.{weights}
use Rattle.sch_read.specs.Views.{data_of}
use Rattle.sch_tests_passes.proofs.texts.program_of.Goals as goal

pub returns : goal.returns
returns c =
    let none : size_of_definitions (definitions_of c.empty.result.definitions) ≡ 0 = ap size_of_definitions c.empty.ensures in
    let items = ap (λ ds. weights (data_of ds)) c.as_slice.ensures in
    omega (arith, none, items, c.in-Ok.ensures.light, c.in_ok-program.ensures.size)
