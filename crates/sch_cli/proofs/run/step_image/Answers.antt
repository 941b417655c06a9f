use Rattle.std.proofs.Common.{subst, sym, ◌≤◌, length}
use Rattle.sch_word.proofs.facts.KnownErrors.{known_error}
use Rattle.sch_elf.specs.Refused as images
use Rattle.sch_elf.specs.Stands.{StandsFor}
use Rattle.sch_cli.specs.Seen.{TookNothing, disk_change, stream_change}
use Rattle.sch_cli.specs.Steps.{StepsImage, max_image_file_size, no_image, no_memory, stepped}
use Rattle.sch_cli.specs.declared.failure.Failure.TheVariants.{Image, Memory}
use Rattle.sch_cli.proofs.DiskSteps.{file_is, took_nothing, unread_steps}
use Rattle.sch_cli.proofs.run.step_image.Goals as goal

pub returns-in_err-file-clause-stepped : goal.returns-in_err-file-clause-stepped
returns-in_err-file-clause-stepped g c =
    let name = c.args.name.now in
    let disk = disk_change g.D.Disk.files g.D.Disk.faults g.D.Disk.calls c.args.disk.now c.read_file.new.disk in
    let out = stream_change g.O.Outlet.bytes g.O.Outlet.left g.O.Outlet.faults c.args.out.now c.args.out.now in
    let why = c.in_err-file.field-0.0 in
    subst (StepsImage name c.args.steps disk out) (sym (known_error c.from_residual.result why c.from_residual.ensures.1))
    (unread_steps name c.args.steps disk out why c.in_err-file.ensures.failed (took_nothing (g.O.Outlet.bytes c.args.out.now)))

pub returns-in_err-image-clause-stepped : goal.returns-in_err-image-clause-stepped
returns-in_err-image-clause-stepped g c =
    let name = c.args.name.now in
    let disk = disk_change g.D.Disk.files g.D.Disk.faults g.D.Disk.calls c.args.disk.now c.read_file.new.disk in
    let out = stream_change g.O.Outlet.bytes g.O.Outlet.left g.O.Outlet.faults c.args.out.now c.args.out.now in
    let error = c.in_err-image.field-0.0 in
    let is = subst (λ lent. images.IsRefused lent error) c.as_slice.ensures c.in_err-image.ensures.refused in
    subst (StepsImage name c.args.steps disk out) (sym (known_error c.from_residual-in_err-image.result (Image error) c.from_residual-in_err-image.ensures.1))
    (no_image error (file_is disk name c.in_ok-file.file (λ file. (length file ≤ max_image_file_size) × images.IsRefused file error) c.in_ok-file.ensures.read.found
    (c.in_ok-file.ensures.read.within, is))
    (took_nothing (g.O.Outlet.bytes c.args.out.now)))

pub returns-in_err-end-clause-stepped : goal.returns-in_err-end-clause-stepped
returns-in_err-end-clause-stepped g c =
    let name = c.args.name.now in
    let disk = disk_change g.D.Disk.files g.D.Disk.faults g.D.Disk.calls c.args.disk.now c.read_file.new.disk in
    let old = c.args.out.now in
    let out = stream_change g.O.Outlet.bytes g.O.Outlet.left g.O.Outlet.faults old c.execute.new.out in
    let nothing = subst (λ o. TookNothing (stream_change g.O.Outlet.bytes g.O.Outlet.left g.O.Outlet.faults old o)) (sym c.in_err-end.ensures.err) (took_nothing (g.O.Outlet.bytes old)) in
    subst (StepsImage name c.args.steps disk out) (sym (known_error c.from_residual-in_err-end.result Memory c.from_residual-in_err-end.ensures.1)) (no_memory nothing)

pub returns-clause-stepped : goal.returns-clause-stepped
returns-clause-stepped g c =
    let name = c.args.name.now in
    let disk = disk_change g.D.Disk.files g.D.Disk.faults g.D.Disk.calls c.args.disk.now c.read_file.new.disk in
    let image = c.in_ok-image.image in
    let is = subst (λ lent. StandsFor lent image) c.as_slice.ensures c.in_ok-image.ensures.stands in
    stepped image c.in_ok-end.end
    (file_is disk name c.in_ok-file.file (λ file. (length file ≤ max_image_file_size) × StandsFor file image) c.in_ok-file.ensures.read.found (c.in_ok-file.ensures.read.within, is))
    c.in_ok-end.ensures.ok
