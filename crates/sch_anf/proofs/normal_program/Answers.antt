use Rattle.std.proofs.Common.{◌<◌, ◌+◌, ◌^◌, ◌∙◌, ℕ, IsTrue, length, map, get_or, refl, ap, sym, subst}
use Rattle.std.specs.List.Sorted.{IsNonDecreasing}
use Rattle.sch_flat.specs.ProgramView.{source}
use Rattle.sch_flat.specs.View.{body, trees_of}
use Rattle.sch_control.specs.BoundParts.{parts_bound}
use Rattle.sch_control.specs.Valid.{all_known, bound_known, library_known, sites_once, statics_known}
use Rattle.sch_anf_laws.specs.Normal.{new_label, normal_bodies}
use Rattle.sch_anf.proofs.ProgramMade.{Given, few_bodies, few_labels, given, library_fits, made_program}
use Rattle.sch_anf_laws.proofs.valid.ValidProgram as valid
use Rattle.sch_anf.proofs.normal_program.Goals as goal

pub normalize_bodies-requires : goal.normalize_bodies-requires
normalize_bodies-requires c =
    let p = c.args.p.now in
    let few = few_labels (source p) p.ordered c.requires.few in
    let g : Given c.as_slice-starts.result.now c.as_slice-flat_bodies.result.now p.forms =
    given c.as_slice-starts.result.now c.as_slice-flat_bodies.result.now p.forms (source p) (sym c.as_slice-starts.ensures)
    (ap (map body) (sym c.as_slice-flat_bodies.ensures)) refl few p.closed p.formed p.ordered p.sited p.ready p.words in
    record {
      few = few_bodies p.starts c.as_slice-starts.result.now p.bodies c.as_slice-flat_bodies.result.now c.as_slice-starts.ensures c.as_slice-flat_bodies.ensures few;
      sorted = g.sorted;
      starts = g.starts_match;
      ascends = g.ascends;
      bodies = g.bodies_fit;
      forms = g.forms_fit;
      valid = g.valid;
    }

pub new_labels-requires : goal.new_labels-requires
new_labels-requires c =
    let p = c.args.p.now in
    let few = few_labels (source p) p.ordered c.requires.few in
    let g = given p.starts p.bodies p.forms (source p) refl refl refl few p.closed p.formed p.ordered p.sited p.ready p.words in
    record {
      sorted = subst IsNonDecreasing (sym c.as_slice-starts.ensures) g.sorted;
      few = subst (λ starts. (k : ℕ) → k < length c.as_slice.result.now → get_or c.as_slice.result.now k 0 + length starts < 2 ^ 32) (sym c.as_slice-starts.ensures)
          (subst (λ labels. (k : ℕ) → k < length labels → get_or labels k 0 + length p.starts < 2 ^ 32) (sym c.as_slice.ensures) (library_fits (source p) few p.closed p.ordered));
    }

pub returns : goal.returns
returns c =
    let p = c.args.p.now in
    let s = c.as_slice-starts.ensures in
    let b = c.as_slice-flat_bodies.ensures in
    let forms = trees_of p.forms in
    made_program (source p) _ _ _ _ _ c.in_ok-statics.ensures
    (c.in_ok-library.ensures ∙ ap (λ starts. map (new_label starts) c.as_slice.result.now) s ∙ ap (map (new_label p.starts)) c.as_slice.ensures)
    (c.in_ok-bodies.ensures ∙ ap (λ starts. normal_bodies starts 0 (map body c.as_slice-flat_bodies.result.now) forms starts) s ∙ ap (λ bs. normal_bodies p.starts 0 (map body bs) forms p.starts) b)
    (c.in_ok-sites.ensures ∙ c.as_slice-2.ensures) c.in_ok-bound.ensures

pub invariant_of-result : goal.invariant_of-result
invariant_of-result c =
    let p = c.args.p.now in
    let s = c.as_slice-starts.ensures in
    let b = c.as_slice-flat_bodies.ensures in
    let forms = trees_of p.forms in
    let whole =
    made_program (source p) _ _ _ _ _ c.in_ok-statics.ensures
    (c.in_ok-library.ensures ∙ ap (λ starts. map (new_label starts) c.as_slice.result.now) s ∙ ap (map (new_label p.starts)) c.as_slice.ensures)
    (c.in_ok-bodies.ensures ∙ ap (λ starts. normal_bodies starts 0 (map body c.as_slice-flat_bodies.result.now) forms starts) s ∙ ap (λ bs. normal_bodies p.starts 0 (map body bs) forms p.starts) b)
    (c.in_ok-sites.ensures ∙ c.as_slice-2.ensures) c.in_ok-bound.ensures in
    record {
      known = subst (λ q. IsTrue (all_known q)) (sym whole) (valid.all_known (source p) p.closed p.formed p.ordered p.sited p.ready p.words);
      sited = subst (λ q. IsTrue (sites_once q)) (sym whole) (valid.sites_once (source p) p.closed p.formed p.ordered p.sited p.ready p.words);
      ordered = subst (λ q. IsTrue (bound_known q)) (sym whole) (valid.bound_known (source p) p.closed p.formed p.ordered p.sited p.ready p.words);
      turns = subst (λ q. IsTrue (parts_bound q)) (sym whole) (valid.parts_bound (source p) p.closed p.formed p.ordered p.sited p.ready p.words);
      free = subst (λ q. IsTrue (library_known q)) (sym whole) (valid.library_known (source p) p.closed p.formed p.ordered p.sited p.ready p.words);
      ready = subst (λ q. IsTrue (statics_known q)) (sym whole) (valid.statics_good (source p) p.closed p.formed p.ordered p.sited p.ready p.words);
    }
