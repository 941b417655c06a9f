use Rattle.std.proofs.Common.{ap, ◌∙◌}
use Rattle.sch_control.specs.flow.Middle.{listed}
use Rattle.sch_saves.proofs.SavedBodies.{bare, same, live_sets, apart, stand, lazily, saved, followed, runs}
use Rattle.sch_saves.proofs.place.place_saves.Goals as goal

pub invariant_of-result : goal.invariant_of-result
invariant_of-result g c =
    let b = c.args.b.now in
    let r = listed c.into_inner.result in
    let made = ap listed c.into_inner.ensures ∙ c.in_ok-exp.ensures in
    record {
      bare = bare b r made;
      fits = b.fits;
      live = live_sets b r made;
      apart = apart b r made;
    }

pub returns-clause-same : goal.returns-clause-same
returns-clause-same g c = same c.args.b.now (listed c.into_inner.result) (ap listed c.into_inner.ensures ∙ c.in_ok-exp.ensures)

pub returns-clause-lazy : goal.returns-clause-lazy
returns-clause-lazy g c = lazily c.args.b.now (listed c.into_inner.result) (ap listed c.into_inner.ensures ∙ c.in_ok-exp.ensures)

pub returns-clause-stand : goal.returns-clause-stand
returns-clause-stand g c = stand c.args.b.now (listed c.into_inner.result) (ap listed c.into_inner.ensures ∙ c.in_ok-exp.ensures)

pub returns-clause-saved : goal.returns-clause-saved
returns-clause-saved g c = saved c.args.b.now (listed c.into_inner.result) (ap listed c.into_inner.ensures ∙ c.in_ok-exp.ensures)

pub returns-clause-followed : goal.returns-clause-followed
returns-clause-followed g c = followed c.args.b.now (listed c.into_inner.result) (ap listed c.into_inner.ensures ∙ c.in_ok-exp.ensures)

pub returns-clause-meaning : goal.returns-clause-meaning
returns-clause-meaning g c = runs c.args.b.now (listed c.into_inner.result) (ap listed c.into_inner.ensures ∙ c.in_ok-exp.ensures)
