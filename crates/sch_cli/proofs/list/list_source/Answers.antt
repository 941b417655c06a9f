use Rattle.std.proofs.Common.{◌∙◌, subst, sym}
use Rattle.sch_word.proofs.facts.KnownErrors.{known_error}
use Rattle.sch_prelude.specs.LibraryText.{library_text}
use Rattle.sch_driver.specs.Compiled.{IsCompiled}
use Rattle.sch_cli.specs.Lists.{ListsSource, listed, no_memory, refused}
use Rattle.sch_cli.specs.Prints.{Prints}
use Rattle.sch_cli.specs.Refusals.{IsRefused}
use Rattle.sch_cli.specs.Seen.{disk_change, stream_change}
use Rattle.sch_cli.specs.declared.failure.Failure.TheVariants.{Memory}
use Rattle.sch_cli.proofs.TextFailures.{refused_of_text}
use Rattle.sch_cli.proofs.CompiledFiles.{file_of}
use Rattle.sch_cli.proofs.DiskSteps.{file_is, took_nothing, unread_lists}
use Rattle.sch_cli.proofs.list.list_source.Goals as goal

pub returns-in_err-text-clause-listed : goal.returns-in_err-text-clause-listed
returns-in_err-text-clause-listed g c =
    let name = c.args.source.now in
    let disk = disk_change g.D.Disk.files g.D.Disk.faults g.D.Disk.calls c.args.disk.now c.read_file.new.disk in
    let out = stream_change g.O.Outlet.bytes g.O.Outlet.left g.O.Outlet.faults c.args.out.now c.args.out.now in
    let why = c.in_err-text.field-0.0 in
    subst (ListsSource name c.args.limits.heap c.args.limits.depth disk out) (sym (known_error c.from_residual.result why c.from_residual.ensures.1))
    (unread_lists name c.args.limits.heap c.args.limits.depth disk out why c.in_err-text.ensures.failed (took_nothing (g.O.Outlet.bytes c.args.out.now)))

pub returns-in_err-compiled-clause-listed : goal.returns-in_err-compiled-clause-listed
returns-in_err-compiled-clause-listed g c =
    let name = c.args.source.now in
    let disk = disk_change g.D.Disk.files g.D.Disk.faults g.D.Disk.calls c.args.disk.now c.read_file.new.disk in
    let out = stream_change g.O.Outlet.bytes g.O.Outlet.left g.O.Outlet.faults c.args.out.now c.args.out.now in
    let why = c.in_err-compiled.field-0.0 in
    let is = subst (λ lent. IsRefused lent c.args.limits.depth why) c.as_slice.ensures c.in_err-compiled.ensures.refused in
    subst (ListsSource name c.args.limits.heap c.args.limits.depth disk out) (sym (known_error c.from_residual-in_err-compiled.result why c.from_residual-in_err-compiled.ensures.1))
    (refused why (refused_of_text c.in_ok-text.text c.args.limits.depth why is) (file_is disk name c.in_ok-text.text (λ file. IsRefused file c.args.limits.depth why) c.in_ok-text.ensures.read.found is) (took_nothing (g.O.Outlet.bytes c.args.out.now)))

pub returns-in_err-listing-clause-listed : goal.returns-in_err-listing-clause-listed
returns-in_err-listing-clause-listed g c =
    let name = c.args.source.now in
    let disk = disk_change g.D.Disk.files g.D.Disk.faults g.D.Disk.calls c.args.disk.now c.read_file.new.disk in
    let out = stream_change g.O.Outlet.bytes g.O.Outlet.left g.O.Outlet.faults c.args.out.now c.args.out.now in
    subst (ListsSource name c.args.limits.heap c.args.limits.depth disk out) (sym (known_error c.from_residual-in_err-listing.result Memory c.from_residual-in_err-listing.ensures.1))
    (no_memory (took_nothing (g.O.Outlet.bytes c.args.out.now)))

pub returns-clause-listed : goal.returns-clause-listed
returns-clause-listed g c =
    let out = stream_change g.O.Outlet.bytes g.O.Outlet.left g.O.Outlet.faults c.args.out.now c.print.new.out in
    let text = c.in_ok-text.text in
    let made = c.in_ok-compiled.compiled in
    let compiled = subst (λ lent. IsCompiled library_text lent c.args.limits.heap c.args.limits.depth made.file made.listing) c.as_slice.ensures c.in_ok-compiled.ensures.made in
    listed c.print.result text made.file c.in_ok-text.ensures.read.found (file_of text made.file made.listing c.args.limits.heap c.args.limits.depth c.in_ok-text.ensures.read.within compiled)
    (subst (λ text. Prints text out c.print.result) (c.as_slice-2.ensures ∙ c.in_ok-listing.ensures) c.print.ensures)
