use Rattle.std.specs.Prelude.{IsTrue}
use Rattle.std.proofs.Common.{◌∙◌, length, sym, subst, ap, map}
use Rattle.sch_word.proofs.WhenOk.{if_ok}
use Rattle.sch_word.specs.runs.Runs.{SameRuns}
use Rattle.sch_cells.specs.BoxedMeaning.{run}
use Rattle.sch_cells.specs.ProgramView.{source}
use Rattle.sch_cells.specs.Measures as from
use Rattle.sch_flat.specs.Covered.{is_covered_program}
use Rattle.sch_flat.specs.Measures.{sites_of, call_sites_of, tests_of, dropped_of, program_size, weight}
use Rattle.sch_flat.specs.Run as meaning
use Rattle.sch_closure.specs.Kept.{SameItems, flat_forms, procedure_of}
use Rattle.sch_closure.proofs.kept.BodyCount.{bodies_counted}
use Rattle.sch_closure.proofs.kept.CoveredKept.{covered_kept, labels_length}
use Rattle.sch_closure.proofs.kept.ValidKept.{Given, same_runs, clears, fresh_library, fresh_forms}
use Rattle.sch_closure.proofs.kept.ProgramKept.{weight_kept, sites_kept, calls_kept, tests_kept, dropped_kept, bodies_kept, forms_kept, size_kept}
use Rattle.sch_closure.proofs.close.Goals as goal

pub returns-clause-runs : goal.returns-clause-runs
returns-clause-runs c =
    let p = source c.args.p.now in
    let v = c.args.p.now in
    let g : Given p = record { scoped = v.scoped; formed = v.formed; limited = v.limited } in
    if_ok c.close_program.result _ _ c.close_program.ensures (λ q made. subst (λ s. SameRuns (run p) (meaning.run s)) (sym made) (same_runs p g))

pub returns-clause-library : goal.returns-clause-library
returns-clause-library c =
    if_ok c.close_program.result _ _ c.close_program.ensures (λ q made. ap (λ s. length s.library) made ∙ labels_length (source c.args.p.now).library 0)

pub returns-clause-sites : goal.returns-clause-sites
returns-clause-sites c =
    let p = source c.args.p.now in
    let v = c.args.p.now in
    let g : Given p = record { scoped = v.scoped; formed = v.formed; limited = v.limited } in
    if_ok c.close_program.result _ _ c.close_program.ensures (λ q made. subst (λ s. SameItems (from.sites_of p) (sites_of s)) (sym made) (sites_kept p (fresh_library p g) (fresh_forms p g)))

pub returns-clause-calls : goal.returns-clause-calls
returns-clause-calls c =
    let p = source c.args.p.now in
    let v = c.args.p.now in
    let g : Given p = record { scoped = v.scoped; formed = v.formed; limited = v.limited } in
    if_ok c.close_program.result _ _ c.close_program.ensures (λ q made. subst (λ s. SameItems (from.call_sites_of p) (call_sites_of s)) (sym made) (calls_kept p (fresh_library p g) (fresh_forms p g)))

pub returns-clause-tests : goal.returns-clause-tests
returns-clause-tests c =
    let p = source c.args.p.now in
    let v = c.args.p.now in
    let g : Given p = record { scoped = v.scoped; formed = v.formed; limited = v.limited } in
    if_ok c.close_program.result _ _ c.close_program.ensures (λ q made. ap tests_of made ∙ tests_kept p (fresh_library p g) (fresh_forms p g))

pub returns-clause-dropped : goal.returns-clause-dropped
returns-clause-dropped c =
    let p = source c.args.p.now in
    let v = c.args.p.now in
    let g : Given p = record { scoped = v.scoped; formed = v.formed; limited = v.limited } in
    if_ok c.close_program.result _ _ c.close_program.ensures (λ q made. ap dropped_of made ∙ dropped_kept p (fresh_library p g) (fresh_forms p g))

pub returns-clause-bodies : goal.returns-clause-bodies
returns-clause-bodies c =
    let p = source c.args.p.now in
    let v = c.args.p.now in
    let g : Given p = record { scoped = v.scoped; formed = v.formed; limited = v.limited } in
    if_ok c.close_program.result _ _ c.close_program.ensures (λ q made. ap (λ s. map procedure_of s.bodies) made ∙ bodies_kept p (fresh_library p g) (fresh_forms p g))

pub returns-clause-forms : goal.returns-clause-forms
returns-clause-forms c =
    let p = source c.args.p.now in
    let v = c.args.p.now in
    let g : Given p = record { scoped = v.scoped; formed = v.formed; limited = v.limited } in
    if_ok c.close_program.result _ _ c.close_program.ensures (λ q made. ap (λ s. flat_forms s.forms) made ∙ forms_kept p (fresh_library p g) (fresh_forms p g) (clears p g).1)

pub returns-clause-size : goal.returns-clause-size
returns-clause-size c =
    let p = source c.args.p.now in
    let v = c.args.p.now in
    let g : Given p = record { scoped = v.scoped; formed = v.formed; limited = v.limited } in
    if_ok c.close_program.result _ _ c.close_program.ensures (λ q made. ap program_size made ∙ size_kept p (fresh_library p g) (fresh_forms p g))

pub returns-clause-weight : goal.returns-clause-weight
returns-clause-weight c =
    let p = source c.args.p.now in
    let v = c.args.p.now in
    let g : Given p = record { scoped = v.scoped; formed = v.formed; limited = v.limited } in
    if_ok c.close_program.result _ _ c.close_program.ensures (λ q made. ap weight made ∙ weight_kept p (fresh_library p g) (fresh_forms p g))

pub returns-clause-covered : goal.returns-clause-covered
returns-clause-covered c =
    let p = source c.args.p.now in
    let v = c.args.p.now in
    let g : Given p = record { scoped = v.scoped; formed = v.formed; limited = v.limited } in
    if_ok c.close_program.result _ _ c.close_program.ensures (λ q made s. subst (λ t. IsTrue (is_covered_program t)) (sym made) (covered_kept p (fresh_library p g) (fresh_forms p g) s))

pub returns-clause-count : goal.returns-clause-count
returns-clause-count c =
    let p = source c.args.p.now in
    let v = c.args.p.now in
    let g : Given p = record { scoped = v.scoped; formed = v.formed; limited = v.limited } in
    if_ok c.close_program.result _ _ c.close_program.ensures
    (λ q made. bodies_counted p _ _ (ap (λ s. map procedure_of s.bodies) made ∙ bodies_kept p (fresh_library p g) (fresh_forms p g))
    (ap (λ s. flat_forms s.forms) made ∙ forms_kept p (fresh_library p g) (fresh_forms p g) (clears p g).1))
