use Rattle.std.proofs.Common.{◌≢◌, subst, sym}
use Rattle.sch_word.proofs.facts.KnownErrors.{known_error}
use Rattle.sch_driver.specs.Causes.{max_source_size}
use Rattle.sch_cli.specs.Builds.{HasFile}
use Rattle.sch_cli.specs.Refusals.{IsRefused}
use Rattle.sch_cli.specs.Seen.{TookNothing, disk_change, stream_change}
use Rattle.sch_cli.specs.Statuses.{status_number}
use Rattle.sch_cli.specs.Steps.{RunsSource, no_memory, ran, refused, run_status}
use Rattle.sch_cli.specs.declared.failure.Failure.TheVariants.{Memory}
use Rattle.sch_cli.proofs.TextFailures.{refused_of_text}
use Rattle.sch_cli.proofs.DiskSteps.{file_is, took_nothing, unread_runs}
use Rattle.sch_cli.proofs.InTime.{runs_text}
use Rattle.sch_cli.proofs.NoImageStatus.{refused_is_other, text_is_other, unread_is_other}
use Rattle.sch_cli.proofs.run.run_source.Goals as goal

pub returns-in_err-text-clause-ran : goal.returns-in_err-text-clause-ran
returns-in_err-text-clause-ran g c =
    let name = c.args.wanted.source.now in
    let disk = disk_change g.D.Disk.files g.D.Disk.faults g.D.Disk.calls c.args.disk.now c.read_file.new.disk in
    let out = stream_change g.O.Outlet.bytes g.O.Outlet.left g.O.Outlet.faults c.args.out.now c.args.out.now in
    let why = c.in_err-text.field-0.0 in
    subst (RunsSource name c.args.wanted.limits.heap c.args.wanted.limits.depth c.args.wanted.steps disk out) (sym (known_error c.from_residual.result why c.from_residual.ensures.1))
    (unread_runs name c.args.wanted.limits.heap c.args.wanted.limits.depth c.args.wanted.steps disk out why c.in_err-text.ensures.failed (took_nothing (g.O.Outlet.bytes c.args.out.now)))

pub returns-in_err-image-clause-ran : goal.returns-in_err-image-clause-ran
returns-in_err-image-clause-ran g c =
    let name = c.args.wanted.source.now in
    let disk = disk_change g.D.Disk.files g.D.Disk.faults g.D.Disk.calls c.args.disk.now c.read_file.new.disk in
    let out = stream_change g.O.Outlet.bytes g.O.Outlet.left g.O.Outlet.faults c.args.out.now c.args.out.now in
    let why = c.in_err-image.field-0.0 in
    let is = subst (λ lent. IsRefused lent c.args.wanted.limits.depth why) c.as_slice.ensures c.in_err-image.ensures.refused in
    subst (RunsSource name c.args.wanted.limits.heap c.args.wanted.limits.depth c.args.wanted.steps disk out)
    (sym (known_error c.from_residual-in_err-image.result why c.from_residual-in_err-image.ensures.1))
    (refused why (refused_of_text c.in_ok-text.text c.args.wanted.limits.depth why is) (file_is disk name c.in_ok-text.text (λ file. IsRefused file c.args.wanted.limits.depth why) c.in_ok-text.ensures.read.found is) (took_nothing (g.O.Outlet.bytes c.args.out.now)))

pub returns-in_err-end-clause-ran : goal.returns-in_err-end-clause-ran
returns-in_err-end-clause-ran g c =
    let name = c.args.wanted.source.now in
    let disk = disk_change g.D.Disk.files g.D.Disk.faults g.D.Disk.calls c.args.disk.now c.read_file.new.disk in
    let old = c.args.out.now in
    let out = stream_change g.O.Outlet.bytes g.O.Outlet.left g.O.Outlet.faults old c.execute.new.out in
    let nothing = subst (λ o. TookNothing (stream_change g.O.Outlet.bytes g.O.Outlet.left g.O.Outlet.faults old o)) (sym c.in_err-end.ensures.err) (took_nothing (g.O.Outlet.bytes old)) in
    subst (RunsSource name c.args.wanted.limits.heap c.args.wanted.limits.depth c.args.wanted.steps disk out)
    (sym (known_error c.from_residual-in_err-end.result Memory c.from_residual-in_err-end.ensures.1)) (no_memory nothing)

pub returns-clause-ran : goal.returns-clause-ran
returns-clause-ran g c =
    let name = c.args.wanted.source.now in
    let disk = disk_change g.D.Disk.files g.D.Disk.faults g.D.Disk.calls c.args.disk.now c.read_file.new.disk in
    let out = stream_change g.O.Outlet.bytes g.O.Outlet.left g.O.Outlet.faults c.args.out.now c.execute.new.out in
    let text = c.in_ok-text.text in
    let image = c.in_ok-image.image in
    let heap = c.args.wanted.limits.heap in
    let depth = c.args.wanted.limits.depth in
    let built = subst (λ lent. HasFile lent heap depth image) c.as_slice.ensures c.in_ok-image.ensures.made in
    ran text c.in_ok-end.end c.in_ok-text.ensures.read.found (runs_text text heap depth c.args.wanted.steps c.in_ok-end.end out image built c.in_ok-end.ensures.ok)

pub returns-in_err-text-clause-no_image : goal.returns-in_err-text-clause-no_image
returns-in_err-text-clause-no_image g c =
    let disk = disk_change g.D.Disk.files g.D.Disk.faults g.D.Disk.calls c.args.disk.now c.read_file.new.disk in
    let why = c.in_err-text.field-0.0 in
    subst (λ answer. status_number (run_status answer) ≢ 8) (sym (known_error c.from_residual.result why c.from_residual.ensures.1))
    (unread_is_other c.args.wanted.source.now max_source_size why disk c.in_err-text.ensures.failed)

pub returns-in_err-image-clause-no_image : goal.returns-in_err-image-clause-no_image
returns-in_err-image-clause-no_image g c =
    let why = c.in_err-image.field-0.0 in
    subst (λ answer. status_number (run_status answer) ≢ 8) (sym (known_error c.from_residual-in_err-image.result why c.from_residual-in_err-image.ensures.1))
    (refused_is_other c.as_slice.result.now c.args.wanted.limits.depth why c.in_err-image.ensures.refused)

pub returns-in_err-end-clause-no_image : goal.returns-in_err-end-clause-no_image
returns-in_err-end-clause-no_image g c =
    subst (λ answer. status_number (run_status answer) ≢ 8) (sym (known_error c.from_residual-in_err-end.result Memory c.from_residual-in_err-end.ensures.1)) (λ is. cc)

pub returns-clause-no_image : goal.returns-clause-no_image
returns-clause-no_image g c =
    let out = stream_change g.O.Outlet.bytes g.O.Outlet.left g.O.Outlet.faults c.args.out.now c.execute.new.out in
    let text = c.in_ok-text.text in
    let image = c.in_ok-image.image in
    let heap = c.args.wanted.limits.heap in
    let depth = c.args.wanted.limits.depth in
    let built = subst (λ lent. HasFile lent heap depth image) c.as_slice.ensures c.in_ok-image.ensures.made in
    text_is_other text heap depth c.args.wanted.steps c.in_ok-end.end out
    (runs_text text heap depth c.args.wanted.steps c.in_ok-end.end out image built c.in_ok-end.ensures.ok)
