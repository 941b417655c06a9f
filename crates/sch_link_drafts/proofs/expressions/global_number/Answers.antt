use Rattle.sch_link_drafts.proofs.expressions.global_number.Goals as goal

pub number_in-requires : goal.number_in-requires
number_in-requires c = record { few = c.requires.names.0 }
