use Rattle.std.proofs.Common.{sym, ◌∙◌}
use Rattle.sch_names.proofs.NameTables.{among, none_among}
use Rattle.sch_names.proofs.names.Names.contains.Goals as goal

pub returns-then-len-eq0 : goal.returns-then-len-eq0
returns-then-len-eq0 c = none_among c.args.x.now _ (sym c.len.ensures ∙ c.if-len-eq0.true)

pub returns : goal.returns
returns c = c.contains.ensures ∙ among c.args.x.now c.args.self.now.set.keys
