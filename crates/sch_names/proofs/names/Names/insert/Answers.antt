use Rattle.std.proofs.Common.{◌∙◌, ap, map}
use Rattle.sch_names.proofs.NameTables.{inserted}
use Rattle.sch_names.proofs.names.Names.insert.Goals as goal

pub returns : goal.returns
returns c = ap (map (λ k. k.items)) c.in_ok-insert_full.ensures.keys ∙ inserted c.args.x.now _ c.args.self.now.set.keys c.in_ok-name.ensures.items
