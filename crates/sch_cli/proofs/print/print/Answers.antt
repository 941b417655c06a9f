use Rattle.sch_cli.specs.Prints.{in_part, whole}
use Rattle.sch_cli.proofs.print.print.Goals as goal

pub returns-then-put_all : goal.returns-then-put_all
returns-then-put_all g c = whole (c.put_all.ensures.whole c.if-put_all.true)

pub returns-else-put_all : goal.returns-else-put_all
returns-else-put_all g c = in_part (c.put_all.ensures.failed_only_where_faults_rose c.if-put_all.false) c.put_all.ensures.front
