use Rattle.std.proofs.Common.{◌∙◌, sym}
use Rattle.sch_names.proofs.NameNumbers.{found, missing}
use Rattle.sch_names.proofs.names.Names.number.Goals as goal

pub returns-in-Some : goal.returns-in-Some
returns-in-Some c = found c.args.x.now c.args.self.now.set.keys _ (sym c.get_index_of.ensures.index ∙ c.in-Some.is)

pub returns-in-None : goal.returns-in-None
returns-in-None c = c.len.ensures.len ∙ missing c.args.x.now c.args.self.now.set.keys (sym c.get_index_of.ensures.index ∙ c.in-None.is)
