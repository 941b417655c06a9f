use Rattle.std.proofs.Common.{arith}
use Rattle.sch_driver.proofs.reading.expand_library.Goals as goal

pub returns-in-Ok-clause-size : goal.returns-in-Ok-clause-size
returns-in-Ok-clause-size c = omega (arith, c.in-Ok.ensures.size, c.requires)

pub returns-in-Err-clause-refused : goal.returns-in-Err-clause-refused
returns-in-Err-clause-refused c = (c.in-Err.cause, c.of_expanding.ensures, c.in-Err.ensures.fault)
