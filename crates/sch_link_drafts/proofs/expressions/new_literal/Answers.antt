use Rattle.sch_link_drafts.proofs.expressions.new_literal.Goals as goal

pub quote-requires : goal.quote-requires
quote-requires c = record { few = c.requires.names.1 }
