use Rattle.std.proofs.Common.{◌∙◌, ◌+◌, ◌++◌, [], sym, subst, ap}
use Rattle.sch_word.proofs.WhenOk.{if_ok}
use Rattle.sch_word.specs.runs.Runs.{SameRuns}
use Rattle.sch_word.specs.trees.Shape.{site_of, call_site_of, tests_in, dropped_in}
use Rattle.sch_lang.specs.ProgramView.{source}
use Rattle.sch_lang.specs.Run.{run}
use Rattle.sch_lang.proofs.Scopes.{program_is_closed}
use Rattle.sch_cells.specs.Bodies.{bodies_of}
use Rattle.sch_cells.specs.Measures.{sites_of, call_sites_of, tests_of, dropped_of, program_size}
use Rattle.sch_cells.specs.Covered.{is_covered_program}
use Rattle.sch_cells.specs.Tree.{count_lambdas}
use Rattle.sch_cells.specs.UnboxedMeaning as meaning
use Rattle.sch_rename.proofs.BodiesKept.{program_bodies}
use Rattle.sch_rename.proofs.BoundVariables.{program_binds}
use Rattle.sch_rename.proofs.FreeKept.{counts_lambdas}
use Rattle.sch_rename.proofs.Same.{runs_alike}
use Rattle.sch_rename.proofs.ShapesKept.{measure_kept, size_kept}
use Rattle.sch_rename.proofs.CoveredKept.{covered_kept}
use Rattle.sch_cells.specs.Recursive.{recursive_in, recursive_of}
use Rattle.sch_rename.proofs.rename.Goals as goal

pub returns-clause-made : goal.returns-clause-made
returns-clause-made c = c.rename_program.ensures

pub returns-clause-runs : goal.returns-clause-runs
returns-clause-runs c =
    let p = source c.args.p.now in
    let closed = program_is_closed p c.args.p.now.numbered in
    if_ok c.rename_program.result _ _ c.rename_program.ensures (λ q made. subst (λ s. SameRuns (run p) (meaning.run s)) (sym made) (runs_alike p closed))

pub returns-clause-library : goal.returns-clause-library
returns-clause-library c =
    if_ok c.rename_program.result _ _ c.rename_program.ensures (λ q made. ap (λ s. count_lambdas s.library) made ∙ counts_lambdas (source c.args.p.now).library [] 0)

pub returns-clause-statics : goal.returns-clause-statics
returns-clause-statics c =
    if_ok c.rename_program.result _ _ c.rename_program.ensures (λ q made. ap (λ s. s.statics) made)

pub returns-clause-variables : goal.returns-clause-variables
returns-clause-variables c =
    if_ok c.rename_program.result _ _ c.rename_program.ensures (λ q made. ap (λ s. s.variables) made ∙ program_binds (source c.args.p.now))

pub returns-clause-listed : goal.returns-clause-listed
returns-clause-listed c =
    if_ok c.rename_program.result _ _ c.rename_program.ensures (λ q made. ap (λ s. s.sites) made)

pub returns-clause-sites : goal.returns-clause-sites
returns-clause-sites c =
    let p = source c.args.p.now in
    let closed = program_is_closed p c.args.p.now.numbered in
    if_ok c.rename_program.result _ _ c.rename_program.ensures (λ q made. ap sites_of made ∙ measure_kept [] (λ a b. a ++ b) site_of p closed)

pub returns-clause-calls : goal.returns-clause-calls
returns-clause-calls c =
    let p = source c.args.p.now in
    let closed = program_is_closed p c.args.p.now.numbered in
    if_ok c.rename_program.result _ _ c.rename_program.ensures (λ q made. ap call_sites_of made ∙ measure_kept [] (λ a b. a ++ b) call_site_of p closed)

pub returns-clause-tests : goal.returns-clause-tests
returns-clause-tests c =
    let p = source c.args.p.now in
    let closed = program_is_closed p c.args.p.now.numbered in
    if_ok c.rename_program.result _ _ c.rename_program.ensures (λ q made. ap tests_of made ∙ measure_kept 0 (λ a b. a + b) tests_in p closed)

pub returns-clause-dropped : goal.returns-clause-dropped
returns-clause-dropped c =
    let p = source c.args.p.now in
    let closed = program_is_closed p c.args.p.now.numbered in
    if_ok c.rename_program.result _ _ c.rename_program.ensures (λ q made. ap dropped_of made ∙ measure_kept 0 (λ a b. a + b) dropped_in p closed)

pub returns-clause-bodies : goal.returns-clause-bodies
returns-clause-bodies c =
    let p = source c.args.p.now in
    let closed = program_is_closed p c.args.p.now.numbered in
    if_ok c.rename_program.result _ _ c.rename_program.ensures (λ q made. ap bodies_of made ∙ program_bodies p closed)

pub returns-clause-size : goal.returns-clause-size
returns-clause-size c =
    let p = source c.args.p.now in
    let closed = program_is_closed p c.args.p.now.numbered in
    if_ok c.rename_program.result _ _ c.rename_program.ensures (λ q made. ap program_size made ∙ size_kept p closed)

pub returns-clause-covered : goal.returns-clause-covered
returns-clause-covered c =
    let p = source c.args.p.now in
    let closed = program_is_closed p c.args.p.now.numbered in
    if_ok c.rename_program.result _ _ c.rename_program.ensures (λ q made. ap is_covered_program made ∙ covered_kept p closed)

pub returns-clause-recursive : goal.returns-clause-recursive
returns-clause-recursive c =
    let p = source c.args.p.now in
    let closed = program_is_closed p c.args.p.now.numbered in
    if_ok c.rename_program.result _ _ c.rename_program.ensures (λ q made. ap recursive_of made ∙ measure_kept 0 (λ a b. a + b) recursive_in p closed)
