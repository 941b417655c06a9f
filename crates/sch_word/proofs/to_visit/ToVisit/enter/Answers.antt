use Rattle.std.proofs.Common.{◌++◌, ap, ◌∙◌}
use Rattle.sch_word.specs.ToVisit.{items_of}
use Rattle.sch_word.proofs.Visits.{items_of_push}
use Rattle.sch_word.proofs.to_visit.ToVisit.enter.Goals as goal

pub returns : goal.returns
returns g c = ap (λ l. c.args.items.now ++ l) (ap items_of c.in_ok-push.ensures.items ∙ items_of_push c.self.inside.behind.items c.self.inside.items ∙ c.self.view_is)
