use Rattle.std.proofs.Common.{◌∙◌, [], length, map, replicate, ap, subst, sym}
use Rattle.sch_flat.specs.ProgramView.{source}
use Rattle.sch_flat.specs.View.{body, trees_of}
use Rattle.sch_anf.specs.FewParts.{BodiesHaveFewParts}
use Rattle.sch_anf.specs.Placed.{placed_bodies, placed_each}
use Rattle.sch_anf.proofs.FewParts.{program_bodies_few, program_forms_few}
use Rattle.sch_anf.proofs.PlacedLists.{bound_is}
use Rattle.sch_anf.proofs.sites.bound_parts.Goals as goal

pub returns : goal.returns
returns c =
    let p = c.args.p.now in
    let forms = trees_of p.forms in
    let bodies = map body c.as_slice.result.now in
    c.from_vec.ensures ∙ c.in_ok-place_bodies.ensures ∙ ap (placed_bodies bodies) (c.in_ok-place_each.ensures ∙ ap (placed_each forms) (c.in_ok-bound.ensures ∙ ap (λ n. replicate n []) c.len.ensures))
    ∙ ap (λ bs. placed_bodies (map body bs) (placed_each forms (replicate (length p.sites) []))) c.as_slice.ensures ∙ bound_is (map body p.bodies) forms (length p.sites)

pub place_each-requires : goal.place_each-requires
place_each-requires c = let p = c.args.p.now in record { few = program_forms_few (source p) p.formed }

pub place_bodies-requires : goal.place_bodies-requires
place_bodies-requires c =
    let p = c.args.p.now in
    record { few = subst (λ bs. BodiesHaveFewParts (map body bs)) (sym c.as_slice.ensures) (program_bodies_few (source p) p.formed) }
