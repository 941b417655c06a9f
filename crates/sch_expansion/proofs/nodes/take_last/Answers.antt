use Rattle.std.proofs.Common.{ap, sym, ◌∙◌}
use Rattle.sch_sketch.specs.Sketch.{last, front}
use Rattle.sch_sketch.specs.DraftView.{drafts_of}
use Rattle.sch_expansion.proofs.LastDraft.{last_of, front_of}
use Rattle.sch_expansion.proofs.nodes.take_last.Goals as goal

pub returns-in-Some-clause-taken : goal.returns-in-Some-clause-taken
returns-in-Some-clause-taken c = sym (ap (λ l. last (drafts_of l)) c.in-Some.ensures ∙ last_of c.pop.new.self c.in-Some.e)

pub returns-in-Some-clause-left : goal.returns-in-Some-clause-left
returns-in-Some-clause-left c = sym (ap (λ l. front (drafts_of l)) c.in-Some.ensures ∙ front_of c.pop.new.self c.in-Some.e)
