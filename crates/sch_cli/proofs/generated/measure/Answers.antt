use Rattle.std.proofs.Common.{refl, subst}
use Rattle.sch_word.proofs.facts.KnownErrors.{kept_error}
use Rattle.sch_elf.specs.Stands.{StandsFor}
use Rattle.sch_prelude.specs.LibraryText.{library_text}
use Rattle.sch_driver.specs.Compiled.{IsCompiled}
use Rattle.sch_commands.specs.Command.{default_depth, default_heap}
use Rattle.sch_cli.specs.Figures.{HasNoFigures}
use Rattle.sch_cli.specs.Refusals.{IsRefused}
use Rattle.sch_cli.specs.declared.failure.Failure.TheVariants.{Memory}
use Rattle.sch_cli.proofs.CompiledFiles.{has_image}
use Rattle.sch_cli.proofs.LoneRuns.{are_figures, never_stuck, refused_exit, spends_steps}
use Rattle.sch_cli.proofs.generated.measure.Goals as goal

pub image_in-requires : goal.image_in-requires
image_in-requires c =
    let made = c.in_ok-compiled.compiled in
    has_image c.args.text.now made.file c.as_slice.result.now made.listing c.default_limits.result.heap c.default_limits.result.depth c.in_ok-compiled.ensures.made c.as_slice.ensures

pub returns-in_err-compiled-clause-not_measured : goal.returns-in_err-compiled-clause-not_measured
returns-in_err-compiled-clause-not_measured c =
    let text = c.args.text.now in
    let why = c.in_err-compiled.field-0.0 in
    kept_error c.from_residual.result why (HasNoFigures text c.args.steps) c.from_residual.ensures.1
    (refused_exit text default_heap default_depth c.args.steps why (subst (λ depth. IsRefused text depth why) c.default_limits.ensures.1 c.in_err-compiled.ensures.refused))

pub returns-in_err-image-clause-not_measured : goal.returns-in_err-image-clause-not_measured
returns-in_err-image-clause-not_measured c = kept_error c.from_residual-in_err-image.result Memory (HasNoFigures c.args.text.now c.args.steps) c.from_residual-in_err-image.ensures.1 tt

pub returns-in_err-lone-clause-not_measured : goal.returns-in_err-lone-clause-not_measured
returns-in_err-lone-clause-not_measured c = kept_error c.from_residual-in_err-lone.result Memory (HasNoFigures c.args.text.now c.args.steps) c.from_residual-in_err-lone.ensures.1 tt

pub returns-in-Exited-clause-measured : goal.returns-in-Exited-clause-measured
returns-in-Exited-clause-measured c =
    let text = c.args.text.now in
    let made = c.in_ok-compiled.compiled in
    let limits = c.default_limits.result in
    let compiled = subst (λ depth. IsCompiled library_text text default_heap depth made.file made.listing) c.default_limits.ensures.1
    (subst (λ heap. IsCompiled library_text text heap limits.depth made.file made.listing) c.default_limits.ensures.0 c.in_ok-compiled.ensures.made) in
    let image = c.in_ok-image.image in
    let stands = subst (λ bytes. StandsFor bytes image) c.as_slice.ensures c.in_ok-image.ensures in
    are_figures text made.file made.listing c.requires compiled image stands c.args.steps c.in_ok-lone.lone c.in_ok-lone.ensures _ c.in-Exited.is refl c.len.ensures refl refl

pub returns-in-Spent-clause-not_measured : goal.returns-in-Spent-clause-not_measured
returns-in-Spent-clause-not_measured c =
    let text = c.args.text.now in
    let made = c.in_ok-compiled.compiled in
    let limits = c.default_limits.result in
    let compiled = subst (λ depth. IsCompiled library_text text default_heap depth made.file made.listing) c.default_limits.ensures.1
    (subst (λ heap. IsCompiled library_text text heap limits.depth made.file made.listing) c.default_limits.ensures.0 c.in_ok-compiled.ensures.made) in
    let image = c.in_ok-image.image in
    let stands = subst (λ bytes. StandsFor bytes image) c.as_slice.ensures c.in_ok-image.ensures in
    spends_steps text made.file made.listing c.requires compiled image stands c.args.steps c.in_ok-lone.lone c.in_ok-lone.ensures c.in-Spent.is

pub unreachable-requires : goal.unreachable-requires
unreachable-requires c =
    let text = c.args.text.now in
    let made = c.in_ok-compiled.compiled in
    let limits = c.default_limits.result in
    let compiled = subst (λ depth. IsCompiled library_text text default_heap depth made.file made.listing) c.default_limits.ensures.1
    (subst (λ heap. IsCompiled library_text text heap limits.depth made.file made.listing) c.default_limits.ensures.0 c.in_ok-compiled.ensures.made) in
    let image = c.in_ok-image.image in
    let stands = subst (λ bytes. StandsFor bytes image) c.as_slice.ensures c.in_ok-image.ensures in
    never_stuck text made.file made.listing c.requires compiled image stands c.args.steps c.in_ok-lone.lone c.in_ok-lone.ensures _ c.in-Stuck.is
