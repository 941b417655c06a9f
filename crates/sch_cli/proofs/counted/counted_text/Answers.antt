use Rattle.std.proofs.Common.{◌≡◌, Err, subst}
use Rattle.sch_word.proofs.facts.KnownErrors.{kept_error}
use Rattle.sch_elf.specs.Stands.{StandsFor}
use Rattle.sch_prelude.specs.LibraryText.{library_text}
use Rattle.sch_count.specs.CountsText.{counts_text}
use Rattle.sch_cli.specs.Counts.{CountsImage}
use Rattle.sch_cli.specs.LoneRuns.{HasNoExit}
use Rattle.sch_cli.specs.declared.failure.Failure.TheVariants.{Memory}
use Rattle.sch_cli.proofs.CompiledFiles.{has_image}
use Rattle.sch_cli.proofs.ListedEntries.{enters_listed}
use Rattle.sch_cli.proofs.LoneRuns.{are_counts, counts_never_stuck, counts_spent, refused_exit}
use Rattle.sch_cli.proofs.counted.counted_text.Goals as goal

pub image_in-requires : goal.image_in-requires
image_in-requires c =
    let made = c.in_ok-compiled.compiled in
    has_image c.args.source.now made.file c.as_slice.result.now made.listing c.args.limits.heap c.args.limits.depth c.in_ok-compiled.ensures.made c.as_slice.ensures

pub returns-in_err-compiled-clause-not_counted : goal.returns-in_err-compiled-clause-not_counted
returns-in_err-compiled-clause-not_counted c =
    let source = c.args.source.now in
    let why = c.in_err-compiled.field-0.0 in
    kept_error c.from_residual.result why (HasNoExit source c.args.limits.heap c.args.limits.depth c.args.steps) c.from_residual.ensures.1
    (refused_exit source c.args.limits.heap c.args.limits.depth c.args.steps why c.in_err-compiled.ensures.refused)

pub returns-in_err-image-clause-not_counted : goal.returns-in_err-image-clause-not_counted
returns-in_err-image-clause-not_counted c =
    kept_error c.from_residual-in_err-image.result Memory (HasNoExit c.args.source.now c.args.limits.heap c.args.limits.depth c.args.steps) c.from_residual-in_err-image.ensures.1 tt

pub count_image-requires : goal.count_image-requires
count_image-requires c =
    let made = c.in_ok-compiled.compiled in
    enters_listed library_text c.args.source.now c.args.limits.heap c.args.limits.depth made.file made.listing c.in_ok-compiled.ensures.made

pub returns-in-Ok-clause-counted : goal.returns-in-Ok-clause-counted
returns-in-Ok-clause-counted c =
    let made = c.in_ok-compiled.compiled in
    let image = c.in_ok-image.image in
    let counts = c.in-Ok.counts in
    let stands = subst (λ bytes. StandsFor bytes image) c.as_slice.ensures c.in_ok-image.ensures in
    are_counts c.args.source.now made.file made.listing c.args.limits.heap c.args.limits.depth c.requires c.in_ok-compiled.ensures.made image stands c.args.steps counts
    c.in_ok-print_counts-in-Ok.field-0 c.in-Ok.ensures
    (subst (λ names. c.in_ok-print_counts-in-Ok.field-0 ≡ counts_text names counts.rows counts.status) c.as_slice-in-Ok.ensures c.in_ok-print_counts-in-Ok.ensures)

pub returns-in-Err-Spent-clause-not_counted : goal.returns-in-Err-Spent-clause-not_counted
returns-in-Err-Spent-clause-not_counted c =
    let made = c.in_ok-compiled.compiled in
    let image = c.in_ok-image.image in
    let stands = subst (λ bytes. StandsFor bytes image) c.as_slice.ensures c.in_ok-image.ensures in
    let spent = subst (λ error. CountsImage image made.listing c.args.steps (Err error)) c.in-Err-Spent.field-0-is c.in-Err-Spent.ensures in
    counts_spent c.args.source.now made.file made.listing c.args.limits.heap c.args.limits.depth c.requires c.in_ok-compiled.ensures.made image stands c.args.steps spent

pub unreachable-requires : goal.unreachable-requires
unreachable-requires c =
    let made = c.in_ok-compiled.compiled in
    let image = c.in_ok-image.image in
    let stands = subst (λ bytes. StandsFor bytes image) c.as_slice.ensures c.in_ok-image.ensures in
    let stuck = subst (λ error. CountsImage image made.listing c.args.steps (Err error)) c.in-Err-Stuck.field-0-is c.in-Err-Stuck.ensures in
    counts_never_stuck c.args.source.now made.file made.listing c.args.limits.heap c.args.limits.depth c.requires c.in_ok-compiled.ensures.made image stands c.args.steps c.in-Err-Stuck.field-0-0 stuck

pub returns-in_err-print_counts-in-Ok-clause-not_counted : goal.returns-in_err-print_counts-in-Ok-clause-not_counted
returns-in_err-print_counts-in-Ok-clause-not_counted c =
    kept_error c.from_residual-in_err-print_counts-in-Ok.result Memory (HasNoExit c.args.source.now c.args.limits.heap c.args.limits.depth c.args.steps)
    c.from_residual-in_err-print_counts-in-Ok.ensures.1 tt
