use Rattle.std.proofs.Common.{arith}
use Rattle.sch_driver.proofs.reading.read_part.Goals as goal

pub returns-in-Ok-clause-light : goal.returns-in-Ok-clause-light
returns-in-Ok-clause-light c = omega (arith, c.in-Ok.ensures.light, c.requires)

pub returns-in-Err-clause-refused : goal.returns-in-Err-clause-refused
returns-in-Err-clause-refused c = (c.in-Err.cause, c.of_reading.ensures, c.in-Err.ensures.fault)
