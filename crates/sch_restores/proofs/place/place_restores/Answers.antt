use Rattle.std.proofs.Common.{rules, arith, ap, ◌∙◌}
use Rattle.std.proofs.lemmas.Grind.{common_steps}
use Rattle.sch_control.specs.flow.Middle.{listed}
use Rattle.sch_control.specs.flow.RestoredView.{restored, restored_listed}
use Rattle.sch_paths.proofs.paths.EagerByPaths.{by_paths}
use Rattle.sch_restores.proofs.RestoredBodies.{apart, bare, eagerly, enough, of_none, runs, same_live, saved, saves_within, some_words, variables_within}
use Rattle.sch_restores.proofs.place.place_restores.Goals as goal

pub restore-requires : goal.restore-requires
restore-requires g c =
    let b = c.args.b.now in
    let some = some_words b in (
      first_of (search rules, grind (arith, common_steps), omega arith),
      (
        first_of (search rules, grind (arith, common_steps), omega arith),
        (
          first_of (search rules, grind (arith, common_steps), omega arith),
          (omega (arith, some), (variables_within b, saves_within b)),
        ),
      ),
    )

pub returns-clause-made : goal.returns-clause-made
returns-clause-made g c =
    of_none c.args.b.now.body.now.variables (listed c.args.b.now.exp) (restored c.into_inner.result) c.new-none.result c.new-none.result c.new-none.ensures c.new-none.ensures
    (ap restored c.into_inner.ensures ∙ c.in_ok-exp.ensures.made)

pub returns-clause-eager : goal.returns-clause-eager
returns-clause-eager g c = eagerly c.args.b.now (restored c.into_inner.result) (returns-clause-made g c)

pub returns-clause-paths : goal.returns-clause-paths
returns-clause-paths g c = by_paths (restored c.into_inner.result) (returns-clause-eager g c)

pub returns-clause-enough : goal.returns-clause-enough
returns-clause-enough g c = enough c.args.b.now (restored c.into_inner.result) (returns-clause-made g c) c.requires.saved

pub returns-clause-meaning : goal.returns-clause-meaning
returns-clause-meaning g c = runs c.args.b.now (restored c.into_inner.result) (returns-clause-made g c) c.requires.saved

pub invariant_of-result : goal.invariant_of-result
invariant_of-result g c =
    let b = c.args.b.now in
    let r = restored c.into_inner.result in
    let made =
    of_none b.body.now.variables (listed b.exp) r c.new-none.result c.new-none.result c.new-none.ensures c.new-none.ensures (ap restored c.into_inner.ensures ∙ c.in_ok-exp.ensures.made) in
    record {
      bare = bare b r made;
      fits = b.fits;
      live = same_live b (restored_listed c.into_inner.result) (ap restored_listed c.into_inner.ensures ∙ c.in_ok-exp.ensures.same);
      apart = apart b r made;
      saved = saved b r made;
    }
