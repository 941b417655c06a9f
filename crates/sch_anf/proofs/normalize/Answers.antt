use Rattle.std.proofs.Common.{◌∙◌, ◌≤◌, IsTrue, sym, subst, ap}
use Rattle.sch_word.proofs.WhenOk.{if_ok}
use Rattle.sch_flat.specs.ProgramView.{source}
use Rattle.sch_control.specs.Fits.{table_fits}
use Rattle.sch_control.specs.Work.{codes_work}
use Rattle.sch_anf_laws.specs.Kept.{SameCalls, StaysCovered}
use Rattle.sch_anf_laws.specs.Normal.{normal_source}
use Rattle.sch_anf_laws.specs.SameRun.{SameRun}
use Rattle.sch_control.specs.OrderTable.{given_table}
use Rattle.sch_control.specs.Sizes.{tests_of}
use Rattle.sch_anf_laws.proofs.kept.CallsKept.{program_calls}
use Rattle.sch_anf_laws.proofs.runs.Program.{normal_runs}
use Rattle.sch_anf_laws.proofs.kept.CoveredKept.{program_covered}
use Rattle.sch_anf_laws.specs.Counted.{BindNoMore, FewSequences}
use Rattle.sch_control.specs.Sizes.{dropped_of}
use Rattle.sch_flat.specs.Measures.{weight}
use Rattle.sch_anf_laws.proofs.kept.BindNoMore.{program_binds}
use Rattle.sch_anf_laws.proofs.kept.FewSequences.{program_few}
use Rattle.sch_anf_laws.proofs.kept.NoneDropped.{program_drops_none}
use Rattle.sch_anf_laws.proofs.kept.WorkKept.{program_weight}
use Rattle.sch_control.proofs.FittingTable.{given_table_fits}
use Rattle.sch_anf_laws.proofs.kept.TestsKept.{program_tests}
use Rattle.sch_anf_laws.proofs.valid.ValidProgram.{bound_known}
use Rattle.sch_anf.proofs.normalize.Goals as goal

pub returns-clause-runs : goal.returns-clause-runs
returns-clause-runs c =
    let p = c.args.p.now in
    if_ok c.normal_program.result _ _ c.normal_program.ensures (λ q made. subst (λ s. SameRun (source p) s) (sym made) (normal_runs (source p) p.closed p.formed p.ordered p.sited))

pub returns-clause-fits : goal.returns-clause-fits
returns-clause-fits c =
    let p = c.args.p.now in
    if_ok c.normal_program.result _ _ c.normal_program.ensures
    (λ q made. subst (λ s. IsTrue (table_fits s (given_table s))) (sym made) (given_table_fits (normal_source (source p)) (bound_known (source p) p.closed p.formed p.ordered p.sited p.ready p.words)))

pub returns-clause-statics : goal.returns-clause-statics
returns-clause-statics c = if_ok c.normal_program.result _ _ c.normal_program.ensures (λ q made. ap (λ s. s.statics) made)

pub returns-clause-listed : goal.returns-clause-listed
returns-clause-listed c = if_ok c.normal_program.result _ _ c.normal_program.ensures (λ q made. ap (λ s. s.sites) made)

pub returns-clause-tests : goal.returns-clause-tests
returns-clause-tests c = if_ok c.normal_program.result _ _ c.normal_program.ensures (λ q made. ap (λ s. tests_of s.bodies) made ∙ program_tests (source c.args.p.now))

pub returns-clause-calls : goal.returns-clause-calls
returns-clause-calls c =
    if_ok c.normal_program.result _ _ c.normal_program.ensures
    (λ q made. subst (λ s. SameCalls (source c.args.p.now) s) (sym made) (program_calls (source c.args.p.now)))

pub returns-clause-covered : goal.returns-clause-covered
returns-clause-covered c =
    if_ok c.normal_program.result _ _ c.normal_program.ensures (λ q made. subst (λ s. StaysCovered (source c.args.p.now) s) (sym made) (program_covered (source c.args.p.now)))

pub returns-clause-dropped : goal.returns-clause-dropped
returns-clause-dropped c = if_ok c.normal_program.result _ _ c.normal_program.ensures (λ q made. ap (λ s. dropped_of s.bodies) made ∙ program_drops_none (source c.args.p.now))

pub returns-clause-variables : goal.returns-clause-variables
returns-clause-variables c =
    if_ok c.normal_program.result _ _ c.normal_program.ensures (λ q made. subst (λ s. BindNoMore (source c.args.p.now) s) (sym made) (program_binds (source c.args.p.now)))

pub returns-clause-sequences : goal.returns-clause-sequences
returns-clause-sequences c =
    if_ok c.normal_program.result _ _ c.normal_program.ensures
    (λ q made. subst (λ s. FewSequences (source c.args.p.now) s) (sym made) (program_few (source c.args.p.now)))

pub returns-clause-work : goal.returns-clause-work
returns-clause-work c =
    if_ok c.normal_program.result _ _ c.normal_program.ensures
    (λ q made. subst (λ s. codes_work s.bodies ≤ weight (source c.args.p.now)) (sym made) (program_weight (source c.args.p.now)))
