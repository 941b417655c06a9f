use Rattle.sch_cli.proofs.OneStatus.{compiled, same}
use Rattle.sch_cli.proofs.SomeVerdict.{some_verdict}
use Rattle.sch_cli.proofs.laws.a_source_has_one_status.Goals as goal

pub returns : goal.returns
returns c = λ text depth. record { some = some_verdict text depth; same = same text depth; compiled = compiled text depth }
