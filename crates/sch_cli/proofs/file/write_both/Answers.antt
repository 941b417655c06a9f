use Rattle.std.proofs.Common.{refl, subst, sym}
use Rattle.sch_word.proofs.facts.KnownErrors.{known_error}
use Rattle.sch_cli.specs.Files.{WritesBoth}
use Rattle.sch_cli.specs.Seen.{disk_change}
use Rattle.sch_cli.proofs.DiskSteps.{both_done, first_fails, second_fails}
use Rattle.sch_cli.proofs.file.write_both.Goals as goal

pub returns-in_err-write_file : goal.returns-in_err-write_file
returns-in_err-write_file g c =
    let target = c.args.target.now in
    let disk = disk_change g.D.Disk.files g.D.Disk.faults g.D.Disk.calls c.args.disk.now c.write_file.new.disk in
    let why = c.in_err-write_file.field-0.0 in
    subst (WritesBoth target c.args.file.now c.args.listing.now c.args.text.now disk) (sym (known_error c.from_residual.result why c.from_residual.ensures.1))
    (first_fails target c.args.file.now c.args.listing.now c.args.text.now disk why c.in_err-write_file.ensures.only c.in_err-write_file.ensures.failed c.in_err-write_file.ensures.err
    c.write_file.ensures.calls)

pub returns-in-Ok : goal.returns-in-Ok
returns-in-Ok g c =
    let first = disk_change g.D.Disk.files g.D.Disk.faults g.D.Disk.calls c.args.disk.now c.write_file.new.disk in
    let second = disk_change g.D.Disk.files g.D.Disk.faults g.D.Disk.calls c.write_file.new.disk c.write.new.self in
    both_done c.args.target.now c.args.file.now c.args.listing.now c.args.text.now first.before second.before second.after c.write_file.ensures.faults c.write_file.ensures.calls
    c.in_ok-write_file.ensures.ok c.in-Ok.ensures.ok c.write.ensures.calls

pub returns-in-Err : goal.returns-in-Err
returns-in-Err g c =
    let first = disk_change g.D.Disk.files g.D.Disk.faults g.D.Disk.calls c.args.disk.now c.write_file.new.disk in
    let second = disk_change g.D.Disk.files g.D.Disk.faults g.D.Disk.calls c.write_file.new.disk c.write.new.self in
    second_fails c.args.target.now c.args.file.now c.args.listing.now c.args.text.now first.before second.before second.after c.write_file.ensures.faults c.write_file.ensures.calls
    c.in_ok-write_file.ensures.ok c.in-Err.ensures.err (c.in-Err.ensures.failed_only_where_faults_rose refl) c.write.ensures.calls
