use Rattle.std.proofs.Common.{◌∙◌, subst, sym}
use Rattle.sch_word.proofs.facts.KnownErrors.{known_error}
use Rattle.sch_cli.specs.Figures.{AreFiguresOf, HasNoFigures}
use Rattle.sch_cli.specs.Prints.{Generates, Prints, measured, not_measured}
use Rattle.sch_cli.specs.Seen.{stream_change}
use Rattle.sch_cli.specs.declared.failure.Failure.TheVariants.{Memory}
use Rattle.sch_cli.proofs.DiskSteps.{took_nothing}
use Rattle.sch_cli.proofs.NoImageStatus.{generated_is_other}
use Rattle.sch_cli.proofs.generated.generate_program.Goals as goal

pub returns-in_err-source-clause-generates : goal.returns-in_err-source-clause-generates
returns-in_err-source-clause-generates g c =
    let out = stream_change g.O.Outlet.bytes g.O.Outlet.left g.O.Outlet.faults c.args.out.now c.args.out.now in
    subst (Generates c.args.number c.args.steps out) (sym (known_error c.from_residual.result Memory c.from_residual.ensures.1))
    (not_measured Memory tt (took_nothing (g.O.Outlet.bytes c.args.out.now)))

pub returns-in_err-source-clause-no_image : goal.returns-in_err-source-clause-no_image
returns-in_err-source-clause-no_image g c = generated_is_other c.args.number c.args.steps _ c.from_residual.result (returns-in_err-source-clause-generates g c)

pub returns-in_err-figures-clause-generates : goal.returns-in_err-figures-clause-generates
returns-in_err-figures-clause-generates g c =
    let out = stream_change g.O.Outlet.bytes g.O.Outlet.left g.O.Outlet.faults c.args.out.now c.args.out.now in
    let why = c.in_err-figures.field-0.0 in
    let none = subst (λ text. HasNoFigures text c.args.steps why) (c.as_slice.ensures ∙ c.in_ok-source.ensures.text) c.in_err-figures.ensures.not_measured in
    subst (Generates c.args.number c.args.steps out) (sym (known_error c.from_residual-in_err-figures.result why c.from_residual-in_err-figures.ensures.1))
    (not_measured why none (took_nothing (g.O.Outlet.bytes c.args.out.now)))

pub returns-in_err-figures-clause-no_image : goal.returns-in_err-figures-clause-no_image
returns-in_err-figures-clause-no_image g c = generated_is_other c.args.number c.args.steps _ c.from_residual-in_err-figures.result (returns-in_err-figures-clause-generates g c)

pub returns-in_err-text-clause-generates : goal.returns-in_err-text-clause-generates
returns-in_err-text-clause-generates g c =
    let out = stream_change g.O.Outlet.bytes g.O.Outlet.left g.O.Outlet.faults c.args.out.now c.args.out.now in
    subst (Generates c.args.number c.args.steps out) (sym (known_error c.from_residual-in_err-text.result Memory c.from_residual-in_err-text.ensures.1))
    (not_measured Memory tt (took_nothing (g.O.Outlet.bytes c.args.out.now)))

pub returns-in_err-text-clause-no_image : goal.returns-in_err-text-clause-no_image
returns-in_err-text-clause-no_image g c = generated_is_other c.args.number c.args.steps _ c.from_residual-in_err-text.result (returns-in_err-text-clause-generates g c)

pub returns-clause-generates : goal.returns-clause-generates
returns-clause-generates g c =
    let out = stream_change g.O.Outlet.bytes g.O.Outlet.left g.O.Outlet.faults c.args.out.now c.print.new.out in
    let figures = c.in_ok-figures.figures in
    let are = subst (λ text. AreFiguresOf text c.args.steps figures) (c.as_slice.ensures ∙ c.in_ok-source.ensures.text) c.in_ok-figures.ensures.measured in
    measured c.print.result figures are (subst (λ text. Prints text out c.print.result) (c.as_slice-2.ensures ∙ c.in_ok-text.ensures) c.print.ensures)

pub returns-clause-no_image : goal.returns-clause-no_image
returns-clause-no_image g c = generated_is_other c.args.number c.args.steps _ c.print.result (returns-clause-generates g c)
