use Rattle.std.proofs.Common.{◌≢◌, subst, sym}
use Rattle.sch_word.proofs.facts.KnownErrors.{known_error}
use Rattle.sch_driver.specs.Causes.{max_source_size}
use Rattle.sch_cli.specs.Counts.{CountsSource, IsCountsText, counted}
use Rattle.sch_cli.specs.Failures.{done_status}
use Rattle.sch_cli.specs.LoneRuns.{HasNoExit}
use Rattle.sch_cli.specs.Prints.{Prints}
use Rattle.sch_cli.specs.Seen.{disk_change, stream_change}
use Rattle.sch_cli.specs.Statuses.{status_number}
use Rattle.sch_cli.proofs.DiskSteps.{took_nothing, uncounted, unread_counts}
use Rattle.sch_cli.proofs.NoImageStatus.{printed_is_other, unended_is_other, unread_is_other}
use Rattle.sch_cli.proofs.counted.count_source.Goals as goal

pub returns-in_err-source-clause-counted : goal.returns-in_err-source-clause-counted
returns-in_err-source-clause-counted g c =
    let wanted = c.args.wanted in
    let disk = disk_change g.D.Disk.files g.D.Disk.faults g.D.Disk.calls c.args.disk.now c.read_file.new.disk in
    let out = stream_change g.O.Outlet.bytes g.O.Outlet.left g.O.Outlet.faults c.args.out.now c.args.out.now in
    let why = c.in_err-source.field-0.0 in
    subst (CountsSource wanted.source.now wanted.limits.heap wanted.limits.depth wanted.steps disk out) (sym (known_error c.from_residual.result why c.from_residual.ensures.1))
    (unread_counts wanted.source.now wanted.limits.heap wanted.limits.depth wanted.steps disk out why c.in_err-source.ensures.failed (took_nothing (g.O.Outlet.bytes c.args.out.now)))

pub returns-in_err-text-clause-counted : goal.returns-in_err-text-clause-counted
returns-in_err-text-clause-counted g c =
    let wanted = c.args.wanted in
    let name = wanted.source.now in
    let disk = disk_change g.D.Disk.files g.D.Disk.faults g.D.Disk.calls c.args.disk.now c.read_file.new.disk in
    let out = stream_change g.O.Outlet.bytes g.O.Outlet.left g.O.Outlet.faults c.args.out.now c.args.out.now in
    let why = c.in_err-text.field-0.0 in
    let none = subst (λ lent. HasNoExit lent wanted.limits.heap wanted.limits.depth wanted.steps why) c.as_slice.ensures c.in_err-text.ensures.not_counted in
    subst (CountsSource name wanted.limits.heap wanted.limits.depth wanted.steps disk out) (sym (known_error c.from_residual-in_err-text.result why c.from_residual-in_err-text.ensures.1))
    (uncounted name wanted.limits.heap wanted.limits.depth wanted.steps disk out c.in_ok-source.source why none c.in_ok-source.ensures.read.found (took_nothing (g.O.Outlet.bytes c.args.out.now)))

pub returns-clause-counted : goal.returns-clause-counted
returns-clause-counted g c =
    let wanted = c.args.wanted in
    let name = wanted.source.now in
    let disk = disk_change g.D.Disk.files g.D.Disk.faults g.D.Disk.calls c.args.disk.now c.read_file.new.disk in
    let out = stream_change g.O.Outlet.bytes g.O.Outlet.left g.O.Outlet.faults c.args.out.now c.print.new.out in
    let text = c.in_ok-text.text in
    let are = subst (λ lent. IsCountsText lent wanted.limits.heap wanted.limits.depth wanted.steps text) c.as_slice.ensures c.in_ok-text.ensures.counted in
    counted c.print.result c.in_ok-source.source text c.in_ok-source.ensures.read.found are
    (subst (λ text. Prints text out c.print.result) c.as_slice-2.ensures c.print.ensures)

pub returns-in_err-source-clause-no_image : goal.returns-in_err-source-clause-no_image
returns-in_err-source-clause-no_image g c =
    let disk = disk_change g.D.Disk.files g.D.Disk.faults g.D.Disk.calls c.args.disk.now c.read_file.new.disk in
    let why = c.in_err-source.field-0.0 in
    subst (λ answer. status_number (done_status answer) ≢ 8) (sym (known_error c.from_residual.result why c.from_residual.ensures.1))
    (unread_is_other c.args.wanted.source.now max_source_size why disk c.in_err-source.ensures.failed)

pub returns-in_err-text-clause-no_image : goal.returns-in_err-text-clause-no_image
returns-in_err-text-clause-no_image g c =
    let why = c.in_err-text.field-0.0 in
    subst (λ answer. status_number (done_status answer) ≢ 8) (sym (known_error c.from_residual-in_err-text.result why c.from_residual-in_err-text.ensures.1))
    (unended_is_other c.as_slice.result.now c.args.wanted.limits.heap c.args.wanted.limits.depth c.args.wanted.steps why c.in_err-text.ensures.not_counted)

pub returns-clause-no_image : goal.returns-clause-no_image
returns-clause-no_image g c =
    let out = stream_change g.O.Outlet.bytes g.O.Outlet.left g.O.Outlet.faults c.args.out.now c.print.new.out in
    printed_is_other _ out c.print.result c.print.ensures
