use Rattle.std.proofs.Common.{arith, ap, refl, rules, ◌*◌, ◌∙◌}
use Rattle.std.proofs.lemmas.Grind.{common_steps}
use Rattle.sch_control.specs.flow.Middle.{listed}
use Rattle.sch_saves.proofs.LazySteps.{whole_made, whole_below}
use Rattle.sch_saves.proofs.TwoSetsOf.{body_made}
use Rattle.sch_saves.proofs.place.lazily_saved.Goals as goal

pub invariant_of-variables : goal.invariant_of-variables
invariant_of-variables g c = record { fits = c.requires.fits; whole = c.first_variables-all.ensures }

pub keep_outermost-requires : goal.keep_outermost-requires
keep_outermost-requires g c =
    let n = c.args.count in (
      first_of (search rules, grind (arith, common_steps), omega arith),
      whole_below n (64 * g.row.N) (listed c.args.e.now) (listed c.deref_mut.result.now) c.requires.fits
          (ap listed c.deref_mut.ensures.value ∙ body_made n (listed c.args.e.now) (listed c.in_ok-marked.marked.value) (listed c.in_ok-whole.whole.value) _ _ c.in_ok-marked.ensures.made c.in_ok-marked.ensures.sets
          c.in_ok-whole.ensures),
    )

pub returns : goal.returns
returns g c =
    let n = c.args.count in
    whole_made n n (listed c.args.e.now) (listed c.deref_mut.result.now) (listed c.keep_outermost.new.e) c.new.result refl c.new.ensures
    (ap listed c.deref_mut.ensures.value ∙ body_made n (listed c.args.e.now) (listed c.in_ok-marked.marked.value) (listed c.in_ok-whole.whole.value) _ _ c.in_ok-marked.ensures.made c.in_ok-marked.ensures.sets
    c.in_ok-whole.ensures) c.in_ok-keep_outermost.ensures.made
