use Rattle.std.proofs.Common.{arith}
use Rattle.sch_core.proofs.Bytes.{bytes_known}
use Rattle.sch_core.proofs.quotable.know_bytes.Goals as goal

pub returns : goal.returns
returns c = bytes_known c.args.x.now (λ i. omega (arith, c.type_inv.x i))
