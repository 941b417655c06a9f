use Rattle.std.proofs.Common.{◌+◌, subst, sym}
use Rattle.std.specs.List.{list_all}
use Rattle.std.specs.Prelude.{IsTrue}
use Rattle.sch_select.specs.Reach.{names_below}
use Rattle.sch_select.proofs.items.ReachedCodes.{body_below}
use Rattle.sch_select.proofs.body_items.form.Goals as goal

pub body-requires-clause-below : goal.body-requires-clause-below
body-requires-clause-below c =
    let b = c.args.b.now in
    let n = c.args.n in
    subst (λ is. IsTrue (list_all (names_below n (n + b.labels)) is)) (sym c.as_slice.ensures) (body_below n b.labels b.instructions b.forward)
