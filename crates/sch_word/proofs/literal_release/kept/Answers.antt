use Rattle.std.proofs.Common.{ap, arith}
use Rattle.sch_word.specs.values.LiteralParts.{size_behind}
use Rattle.sch_word.proofs.values.LiteralSteps.{sizes_of}
use Rattle.sch_word.proofs.literal_release.kept.Goals as goal

pub returns-in-Some : goal.returns-in-Some
returns-in-Some c = let e = ap size_behind c.in-Some.is in omega (arith, e, sizes_of c.args.items)

pub returns-in-None : goal.returns-in-None
returns-in-None c = let e = ap size_behind c.in-None.is in omega (arith, e, sizes_of c.args.items)
