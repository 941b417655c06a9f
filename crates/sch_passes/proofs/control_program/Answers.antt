use Rattle.std.proofs.Common.{ap, ◌∙◌, arith}
use Rattle.std.specs.List.{count_by}
use Rattle.std.specs.Prelude.{length, nat_eq}
use Rattle.sch_word.proofs.facts.Lists.{map_length}
use Rattle.sch_lang.specs.Bodies.{bodies_of}
use Rattle.sch_lang.specs.ProgramView.{source}
use Rattle.sch_lang.proofs.BodyCounts.{bodies_within_nodes}
use Rattle.sch_lang.proofs.CoveredPrograms.{program_covered}
use Rattle.sch_lang.proofs.Measured.{bound_within_nodes}
use Rattle.sch_cells.specs.ProgramView as cells
use Rattle.sch_cells.specs.BoxedMeaning as boxed
use Rattle.sch_cells.specs.UnboxedMeaning as unboxed
use Rattle.sch_flat.specs.ProgramView as flat
use Rattle.sch_control.specs.ProgramView as control
use Rattle.sch_closure.specs.Closed.{closed_source}
use Rattle.sch_anf_laws.specs.Normal.{new_label, normal_source}
use Rattle.sch_passes.specs.Chain.{control_of, with_cells}
use Rattle.sch_passes.proofs.BodiesKept.{each_within, flat_order, names_kept, sequences_kept, variables_kept}
use Rattle.sch_passes.proofs.Chain.{runs_as}
use Rattle.sch_passes.proofs.control_program.Goals as goal

pub rename-requires : goal.rename-requires
rename-requires c = record { few = omega (arith, bound_within_nodes (source c.args.p.now), c.requires.small) }

pub convert_assign-requires : goal.convert_assign-requires
convert_assign-requires c =
    let n = c.in_ok-renamed.ensures.variables in
    record { few = omega (arith, n, bound_within_nodes (source c.args.p.now), c.requires.small) }

pub close-requires : goal.close-requires
close-requires c =
    let n = ap length c.in_ok-converted.ensures.bodies in
    let m = ap length c.in_ok-renamed.ensures.bodies in
    record { few = omega (arith, n, m, bodies_within_nodes (source c.args.p.now), c.requires.small) }

pub normalize-requires : goal.normalize-requires
normalize-requires c =
    let n = ap length c.in_ok-converted.ensures.bodies in
    let m = ap length c.in_ok-renamed.ensures.bodies in
    record { few = omega (arith, c.in_ok-flat.ensures.count, n, m, bodies_within_nodes (source c.args.p.now), c.requires.small) }

pub returns-clause-made : goal.returns-clause-made
unfolding control_of
returns-clause-made c =
    c.in_ok-control.ensures.made ∙ ap normal_source (c.in_ok-flat.ensures.made ∙ ap closed_source (c.in_ok-converted.ensures.made ∙ ap with_cells c.in_ok-renamed.ensures.made))

pub returns-clause-library : goal.returns-clause-library
returns-clause-library c =
    let f = flat.source c.in_ok-flat.flat in
    ap (λ s. length s.library) c.in_ok-control.ensures.made ∙ map_length (new_label f.starts) f.library
    ∙ (c.in_ok-flat.ensures.library ∙ (c.in_ok-converted.ensures.library ∙ c.in_ok-renamed.ensures.library))

pub returns-clause-runs : goal.returns-clause-runs
returns-clause-runs c =
    let r = cells.source c.in_ok-renamed.renamed in
    let v = cells.source c.in_ok-converted.converted in
    let sites = c.in_ok-control.ensures.listed ∙ (c.in_ok-flat.ensures.listed ∙ (c.in_ok-converted.ensures.listed ∙ c.in_ok-renamed.ensures.listed)) in
    runs_as (source c.args.p.now) (unboxed.run r) (boxed.run v) (flat.source c.in_ok-flat.flat) (control.source c.in_ok-control.control)
    c.in_ok-renamed.ensures.runs c.in_ok-converted.ensures.runs c.in_ok-flat.ensures.runs c.in_ok-control.ensures.runs
    sites

pub returns-clause-covered : goal.returns-clause-covered
returns-clause-covered c =
    let p = source c.args.p.now in
    c.in_ok-control.ensures.covered (c.in_ok-flat.ensures.covered (c.in_ok-converted.ensures.covered (c.in_ok-renamed.ensures.covered ∙ program_covered p c.requires.library)))

pub returns-clause-work : goal.returns-clause-work
returns-clause-work c =
    omega (arith, c.in_ok-control.ensures.work, c.in_ok-flat.ensures.weight, c.in_ok-converted.ensures.weight, c.in_ok-renamed.ensures.size)

pub returns-clause-variables : goal.returns-clause-variables
returns-clause-variables c =
    let f = flat.source c.in_ok-flat.flat in
    let made = c.in_ok-flat.ensures in
    let order = flat_order f (cells.source c.in_ok-converted.converted) made.made made.bodies made.forms ∙ (c.in_ok-converted.ensures.bodies ∙ c.in_ok-renamed.ensures.bodies) in
    variables_kept f (control.source c.in_ok-control.control) (bodies_of (source c.args.p.now)) c.in_ok-control.ensures.variables order

pub returns-clause-names : goal.returns-clause-names
returns-clause-names c =
    let f = flat.source c.in_ok-flat.flat in
    let made = c.in_ok-flat.ensures in
    let order = flat_order f (cells.source c.in_ok-converted.converted) made.made made.bodies made.forms ∙ (c.in_ok-converted.ensures.bodies ∙ c.in_ok-renamed.ensures.bodies) in
    names_kept f (control.source c.in_ok-control.control) (bodies_of (source c.args.p.now)) c.in_ok-control.ensures.made order

pub returns-clause-tests : goal.returns-clause-tests
returns-clause-tests c =
    c.in_ok-control.ensures.tests ∙ (c.in_ok-flat.ensures.tests ∙ (c.in_ok-converted.ensures.tests ∙ c.in_ok-renamed.ensures.tests))

pub returns-clause-dropped : goal.returns-clause-dropped
returns-clause-dropped c =
    omega (arith, c.in_ok-control.ensures.dropped, c.in_ok-flat.ensures.dropped, c.in_ok-converted.ensures.dropped, c.in_ok-renamed.ensures.dropped)

pub returns-clause-calls : goal.returns-clause-calls
returns-clause-calls c n =
    c.in_ok-control.ensures.calls n
    ∙ (c.in_ok-flat.ensures.calls (λ x. nat_eq x n) ∙ ap (count_by (λ x. nat_eq x n)) (c.in_ok-converted.ensures.calls ∙ c.in_ok-renamed.ensures.calls))

pub returns-clause-each_variables : goal.returns-clause-each_variables
returns-clause-each_variables c =
    let f = flat.source c.in_ok-flat.flat in
    let made = c.in_ok-flat.ensures in
    let order = flat_order f (cells.source c.in_ok-converted.converted) made.made made.bodies made.forms ∙ (c.in_ok-converted.ensures.bodies ∙ c.in_ok-renamed.ensures.bodies) in
    each_within f (control.source c.in_ok-control.control) (bodies_of (source c.args.p.now)) c.in_ok-control.ensures.variables order

pub returns-clause-sequences : goal.returns-clause-sequences
returns-clause-sequences c =
    let f = flat.source c.in_ok-flat.flat in
    let made = c.in_ok-flat.ensures in
    let order = flat_order f (cells.source c.in_ok-converted.converted) made.made made.bodies made.forms ∙ (c.in_ok-converted.ensures.bodies ∙ c.in_ok-renamed.ensures.bodies) in
    sequences_kept f (control.source c.in_ok-control.control) (bodies_of (source c.args.p.now)) c.in_ok-control.ensures.sequences order

pub returns-clause-statics : goal.returns-clause-statics
returns-clause-statics c =
    c.in_ok-control.ensures.statics ∙ (c.in_ok-flat.ensures.statics ∙ (c.in_ok-converted.ensures.statics ∙ c.in_ok-renamed.ensures.statics))
