use Rattle.sch_link_drafts.proofs.expressions.symbol.Goals as goal

pub number_in-n-requires : goal.number_in-n-requires
number_in-n-requires c = record { few = c.requires.names.1 }
