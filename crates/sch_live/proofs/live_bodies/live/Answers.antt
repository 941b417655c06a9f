use Rattle.std.proofs.Common.{rules, arith, ap, sym, ◌∙◌, subst, ◌*◌, ◌<◌, true}
use Rattle.std.proofs.lemmas.Grind.{common_steps}
use Rattle.sch_control.specs.View.{code, expression}
use Rattle.sch_control.specs.flow.Bare.{unlisted}
use Rattle.sch_control.specs.flow.Middle.{listed}
use Rattle.sch_control.specs.flow.Reads.{VariablesBelow}
use Rattle.sch_paths.proofs.saves.VariablesBelow.{some_below, code_below}
use Rattle.sch_live.specs.Reached.{where_reached}
use Rattle.sch_live.proofs.MadeLists.{made_lists}
use Rattle.sch_live.proofs.LiveBodies.{bare, same, sets, runs, truncated}
use Rattle.sch_live.proofs.live_bodies.live.Goals as goal

pub list_live-requires : goal.list_live-requires
list_live-requires g c =
    let b = c.args.b.now in
    let some : 0 < 64 * g.row.N = some_below (code b.name b.entry b.variables b.exp) b.numbered (64 * g.row.N) c.requires.fits in (
      first_of (search rules, grind (arith, common_steps), omega arith),
      (
        omega (arith, some),
        subst (VariablesBelow (64 * g.row.N)) (sym (ap listed c.deref_mut.ensures.value ∙ c.in_ok-exp.ensures))
            (code_below (code b.name b.entry b.variables b.exp) b.numbered (64 * g.row.N) c.requires.fits b.scoped),
      ),
    )

pub invariant_of-result : goal.invariant_of-result
invariant_of-result g c =
    let b = c.args.b.now in
    let e0 = listed c.in_ok-exp.exp.value in
    let e1 = listed c.list_live.new.e in
    let r = listed c.into_inner.result in
    let s = c.new-nothing.result in
    let alike = c.list_live.ensures.same ∙ ap (λ z. unlisted (listed z)) c.deref_mut.ensures.value in
    let made = ap listed c.into_inner.ensures ∙ (c.keep_reached.ensures.made ∙ ap (λ z. where_reached true (listed z)) c.deref_mut-2.ensures.value) in
    record {
      bare = bare b e0 e1 r s c.in_ok-exp.ensures alike c.new-nothing.ensures c.list_live.ensures.sets made;
      fits = c.requires.fits;
      live = truncated b e0 e1 r s c.in_ok-exp.ensures alike c.new-nothing.ensures c.list_live.ensures.sets made;
    }

pub returns-clause-same : goal.returns-clause-same
returns-clause-same g c =
    same c.args.b.now (listed c.in_ok-exp.exp.value) (listed c.list_live.new.e) (listed c.into_inner.result) c.new-nothing.result
    c.in_ok-exp.ensures (c.list_live.ensures.same ∙ ap (λ z. unlisted (listed z)) c.deref_mut.ensures.value) c.new-nothing.ensures
    c.list_live.ensures.sets
    (ap listed c.into_inner.ensures ∙ (c.keep_reached.ensures.made ∙ ap (λ z. where_reached true (listed z)) c.deref_mut-2.ensures.value))

pub returns-clause-live : goal.returns-clause-live
returns-clause-live g c =
    sets c.args.b.now (listed c.in_ok-exp.exp.value) (listed c.list_live.new.e) (listed c.into_inner.result) c.new-nothing.result
    c.in_ok-exp.ensures (c.list_live.ensures.same ∙ ap (λ z. unlisted (listed z)) c.deref_mut.ensures.value) c.new-nothing.ensures
    c.list_live.ensures.sets
    (ap listed c.into_inner.ensures ∙ (c.keep_reached.ensures.made ∙ ap (λ z. where_reached true (listed z)) c.deref_mut-2.ensures.value))

pub returns-clause-meaning : goal.returns-clause-meaning
returns-clause-meaning g c =
    runs c.args.b.now (listed c.in_ok-exp.exp.value) (listed c.list_live.new.e) (listed c.into_inner.result) c.new-nothing.result
    c.in_ok-exp.ensures (c.list_live.ensures.same ∙ ap (λ z. unlisted (listed z)) c.deref_mut.ensures.value) c.new-nothing.ensures
    c.list_live.ensures.sets
    (ap listed c.into_inner.ensures ∙ (c.keep_reached.ensures.made ∙ ap (λ z. where_reached true (listed z)) c.deref_mut-2.ensures.value))

pub returns-clause-made : goal.returns-clause-made
returns-clause-made g c =
    made_lists c.args.b.now.variables (listed c.into_inner.result) (expression c.args.b.now.exp) (returns-clause-live g c) (returns-clause-same g c)
