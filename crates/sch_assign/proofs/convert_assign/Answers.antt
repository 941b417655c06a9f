use Rattle.std.proofs.Common.{◌∙◌, ℕ, ◌*◌, ◌≤◌, IsTrue, length, sym, subst, ap}
use Rattle.std.proofs.Math.Path.{fun_ext}
use Rattle.sch_word.proofs.WhenOk.{if_ok}
use Rattle.sch_word.specs.runs.Runs.{SameRuns}
use Rattle.sch_cells.specs.Covered.{is_covered_program}
use Rattle.sch_cells.specs.Bodies.{bodies_of}
use Rattle.sch_cells.specs.BoxedMeaning as boxed
use Rattle.sch_cells.specs.Measures.{call_sites_of, dropped_of, program_size, sites_of, tests_of, weight}
use Rattle.sch_cells.specs.ProgramView.{source}
use Rattle.sch_cells.specs.UnboxedMeaning as unboxed
use Rattle.sch_cells.specs.Valid.{bound_of}
use Rattle.sch_cells.specs.Tree.{count_lambdas}
use Rattle.sch_assign.specs.Converted.{converted_source}
use Rattle.sch_assign.specs.Table.{table}
use Rattle.sch_assign.proofs.kept.CoveredKept.{covered_kept}
use Rattle.sch_assign.proofs.kept.FreeMoved.{count_lambdas_same}
use Rattle.sch_assign.proofs.kept.BodiesKept.{program_bodies}
use Rattle.sch_assign.proofs.BoundCount.{program_bound}
use Rattle.sch_assign.proofs.ConversionIsRight.{program_right}
use Rattle.sch_assign.proofs.Same.{runs_alike}
use Rattle.sch_assign.proofs.kept.MeasuresKept.{calls_kept, tests_kept, dropped_kept}
use Rattle.sch_assign.proofs.kept.SizeKept.{program_size_kept}
use Rattle.sch_assign.proofs.kept.WeightKept.{program_weight}
use Rattle.sch_assign.proofs.kept.ValidKept.{sites_kept}
use Rattle.sch_assign.proofs.convert_assign.Goals as goal

pub returns-clause-made : goal.returns-clause-made
returns-clause-made c =
    let v = c.args.p.now in
    let same = λ (y : ℕ). ap (λ bs. table bs y) c.as_slice.ensures.value ∙ c.in_ok-celled.ensures y in
    if_ok c.convert_program.result _ _ c.convert_program.ensures (λ q made. made ∙ ap (λ f. converted_source f v.variables (source v)) (fun_ext same))

pub returns-clause-library : goal.returns-clause-library
returns-clause-library c =
    let v = c.args.p.now in
    if_ok c.convert_program.result _ _ c.convert_program.ensures (λ q made. ap (λ s. count_lambdas s.library) made ∙ count_lambdas_same (table c.as_slice.result.now) v.variables (source v).library)

pub returns-clause-runs : goal.returns-clause-runs
returns-clause-runs c =
    let v = c.args.p.now in
    let has_cell = table c.as_slice.result.now in
    let same = λ (y : ℕ). ap (λ bs. table bs y) c.as_slice.ensures.value ∙ c.in_ok-celled.ensures y in
    let r = program_right has_cell (source v) same v.scoped v.formed in
    if_ok c.convert_program.result _ _ c.convert_program.ensures (λ q made. subst (λ s. SameRuns (unboxed.run (source v)) (boxed.run s)) (sym made) (runs_alike has_cell v.variables (source v) r.library r.forms))

pub returns-clause-bound : goal.returns-clause-bound
returns-clause-bound c =
    let v = c.args.p.now in
    let has_cell = table c.as_slice.result.now in
    let same = λ (y : ℕ). ap (λ bs. table bs y) c.as_slice.ensures.value ∙ c.in_ok-celled.ensures y in
    let r = program_right has_cell (source v) same v.scoped v.formed in
    if_ok c.convert_program.result _ _ c.convert_program.ensures (λ q made. ap (λ s. length (bound_of s)) made ∙ program_bound has_cell v.variables (source v) r same)

pub returns-clause-sites : goal.returns-clause-sites
returns-clause-sites c =
    let v = c.args.p.now in
    let has_cell = table c.as_slice.result.now in
    let same = λ (y : ℕ). ap (λ bs. table bs y) c.as_slice.ensures.value ∙ c.in_ok-celled.ensures y in
    let r = program_right has_cell (source v) same v.scoped v.formed in
    if_ok c.convert_program.result _ _ c.convert_program.ensures (λ q made. ap sites_of made ∙ sites_kept has_cell v.variables (source v) r)

pub returns-clause-calls : goal.returns-clause-calls
returns-clause-calls c =
    let v = c.args.p.now in
    let has_cell = table c.as_slice.result.now in
    let same = λ (y : ℕ). ap (λ bs. table bs y) c.as_slice.ensures.value ∙ c.in_ok-celled.ensures y in
    let r = program_right has_cell (source v) same v.scoped v.formed in
    if_ok c.convert_program.result _ _ c.convert_program.ensures (λ q made. ap call_sites_of made ∙ calls_kept has_cell v.variables (source v) r)

pub returns-clause-tests : goal.returns-clause-tests
returns-clause-tests c =
    let v = c.args.p.now in
    let has_cell = table c.as_slice.result.now in
    let same = λ (y : ℕ). ap (λ bs. table bs y) c.as_slice.ensures.value ∙ c.in_ok-celled.ensures y in
    let r = program_right has_cell (source v) same v.scoped v.formed in
    if_ok c.convert_program.result _ _ c.convert_program.ensures (λ q made. ap tests_of made ∙ tests_kept has_cell v.variables (source v) r)

pub returns-clause-dropped : goal.returns-clause-dropped
returns-clause-dropped c =
    let v = c.args.p.now in
    let has_cell = table c.as_slice.result.now in
    let same = λ (y : ℕ). ap (λ bs. table bs y) c.as_slice.ensures.value ∙ c.in_ok-celled.ensures y in
    let r = program_right has_cell (source v) same v.scoped v.formed in
    if_ok c.convert_program.result _ _ c.convert_program.ensures (λ q made. subst (λ s. dropped_of s ≤ dropped_of (source v)) (sym made) (dropped_kept has_cell v.variables (source v) r))

pub returns-clause-bodies : goal.returns-clause-bodies
returns-clause-bodies c =
    let v = c.args.p.now in
    let has_cell = table c.as_slice.result.now in
    let same = λ (y : ℕ). ap (λ bs. table bs y) c.as_slice.ensures.value ∙ c.in_ok-celled.ensures y in
    let r = program_right has_cell (source v) same v.scoped v.formed in
    if_ok c.convert_program.result _ _ c.convert_program.ensures (λ q made. ap bodies_of made ∙ program_bodies has_cell v.variables (source v) r)

pub returns-clause-size : goal.returns-clause-size
returns-clause-size c =
    let v = c.args.p.now in
    let has_cell = table c.as_slice.result.now in
    let same = λ (y : ℕ). ap (λ bs. table bs y) c.as_slice.ensures.value ∙ c.in_ok-celled.ensures y in
    let r = program_right has_cell (source v) same v.scoped v.formed in
    if_ok c.convert_program.result _ _ c.convert_program.ensures (λ q made. subst (λ s. program_size s ≤ 4 * program_size (source v)) (sym made) (program_size_kept has_cell v.variables (source v) r))

pub returns-clause-weight : goal.returns-clause-weight
returns-clause-weight c =
    let v = c.args.p.now in
    let has_cell = table c.as_slice.result.now in
    let same = λ (y : ℕ). ap (λ bs. table bs y) c.as_slice.ensures.value ∙ c.in_ok-celled.ensures y in
    let r = program_right has_cell (source v) same v.scoped v.formed in
    if_ok c.convert_program.result _ _ c.convert_program.ensures
    (λ q made. subst (λ s. weight s ≤ 7 * program_size (source v)) (sym made) (program_weight has_cell v.variables (source v) r))

pub returns-clause-covered : goal.returns-clause-covered
returns-clause-covered c =
    let v = c.args.p.now in
    let has_cell = table c.as_slice.result.now in
    let same = λ (y : ℕ). ap (λ bs. table bs y) c.as_slice.ensures.value ∙ c.in_ok-celled.ensures y in
    let r = program_right has_cell (source v) same v.scoped v.formed in
    if_ok c.convert_program.result _ _ c.convert_program.ensures (λ q made s. subst (λ t. IsTrue (is_covered_program t)) (sym made) (covered_kept has_cell v.variables (source v) r s))
