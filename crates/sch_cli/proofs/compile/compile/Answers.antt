use Rattle.std.proofs.Common.{◌∙◌, subst, sym}
use Rattle.std.specs.Option.{option_map}
use Rattle.sch_word.proofs.facts.KnownErrors.{known_error}
use Rattle.sch_prelude.specs.LibraryText.{library_text}
use Rattle.sch_driver.specs.Compiled.{IsCompiled}
use Rattle.sch_listing.specs.ListingText.{listing_text}
use Rattle.sch_cli.specs.Builds.{IsFileOf}
use Rattle.sch_cli.specs.Compiles.{Compiles, no_memory, refused}
use Rattle.sch_cli.specs.Files.{WritesBoth}
use Rattle.sch_cli.specs.Refusals.{IsRefused}
use Rattle.sch_cli.specs.Seen.{disk_change}
use Rattle.sch_cli.specs.declared.failure.Failure.TheVariants.{Memory}
use Rattle.sch_cli.proofs.TextFailures.{refused_of_text}
use Rattle.sch_cli.proofs.CompiledFiles.{file_of}
use Rattle.sch_cli.proofs.DiskSteps.{at_most_one, file_is, listed_compiles, unread_compiles, written_compiles}
use Rattle.sch_cli.proofs.compile.compile.Goals as goal

pub returns-in_err-text : goal.returns-in_err-text
returns-in_err-text g c =
    let wanted = c.args.wanted in
    let listing = option_map (λ name. name.now) wanted.listing in
    let disk = disk_change g.D.Disk.files g.D.Disk.faults g.D.Disk.calls c.args.disk.now c.read_file.new.disk in
    let why = c.in_err-text.field-0.0 in
    subst (Compiles wanted.source.now wanted.target.now listing wanted.limits.heap wanted.limits.depth disk) (sym (known_error c.from_residual.result why c.from_residual.ensures.1))
    (unread_compiles wanted.source.now wanted.target.now listing wanted.limits.heap wanted.limits.depth disk why c.in_err-text.ensures.failed c.read_file.ensures.unchanged c.read_file.ensures.calls)

pub returns-in_err-compiled : goal.returns-in_err-compiled
returns-in_err-compiled g c =
    let wanted = c.args.wanted in
    let listing = option_map (λ name. name.now) wanted.listing in
    let disk = disk_change g.D.Disk.files g.D.Disk.faults g.D.Disk.calls c.args.disk.now c.read_file.new.disk in
    let why = c.in_err-compiled.field-0.0 in
    let is = subst (λ lent. IsRefused lent wanted.limits.depth why) c.as_slice.ensures c.in_err-compiled.ensures.refused in
    subst (Compiles wanted.source.now wanted.target.now listing wanted.limits.heap wanted.limits.depth disk)
    (sym (known_error c.from_residual-in_err-compiled.result why c.from_residual-in_err-compiled.ensures.1))
    (refused why (refused_of_text c.in_ok-text.text wanted.limits.depth why is) (file_is disk wanted.source.now c.in_ok-text.text (λ file. IsRefused file wanted.limits.depth why) c.in_ok-text.ensures.read.found is) c.read_file.ensures.unchanged c.read_file.ensures.calls)

pub returns-in-None : goal.returns-in-None
returns-in-None g c =
    let wanted = c.args.wanted in
    let source = wanted.source.now in
    let target = wanted.target.now in
    let heap = wanted.limits.heap in
    let depth = wanted.limits.depth in
    let text = c.in_ok-text.text in
    let made = c.in_ok-compiled.compiled in
    let compiled = subst (λ lent. IsCompiled library_text lent heap depth made.file made.listing) c.as_slice.ensures c.in_ok-compiled.ensures.made in
    let is = subst (IsFileOf text heap depth) (sym c.as_slice-in-None.ensures) (file_of text made.file made.listing heap depth c.in_ok-text.ensures.read.within compiled) in
    let write = c.write_file in
    let read = disk_change g.D.Disk.files g.D.Disk.faults g.D.Disk.calls c.args.disk.now c.read_file.new.disk in
    let change = disk_change g.D.Disk.files g.D.Disk.faults g.D.Disk.calls c.read_file.new.disk write.new.disk in
    let disk = disk_change g.D.Disk.files g.D.Disk.faults g.D.Disk.calls c.args.disk.now write.new.disk in
    subst (λ listing. Compiles source target (option_map (λ name. name.now) listing) heap depth disk write.result) (sym c.in-None.is)
    (written_compiles source target text c.as_slice-in-None.result.now heap depth read.before change.before change.after c.in_ok-text.ensures.read c.read_file.ensures.unchanged
    c.read_file.ensures.faults c.read_file.ensures.calls is write.result write.ensures.ok write.ensures.err write.ensures.failed write.ensures.only write.ensures.calls)

pub returns-in_err-listing-in-Some : goal.returns-in_err-listing-in-Some
returns-in_err-listing-in-Some g c =
    let wanted = c.args.wanted in
    let listing = option_map (λ name. name.now) wanted.listing in
    let disk = disk_change g.D.Disk.files g.D.Disk.faults g.D.Disk.calls c.args.disk.now c.read_file.new.disk in
    let residual = c.from_residual-in_err-listing-in-Some in
    subst (Compiles wanted.source.now wanted.target.now listing wanted.limits.heap wanted.limits.depth disk) (sym (known_error residual.result Memory residual.ensures.1))
    (no_memory c.read_file.ensures.unchanged (at_most_one disk c.read_file.ensures.calls))

pub returns : goal.returns
returns g c =
    let wanted = c.args.wanted in
    let source = wanted.source.now in
    let target = wanted.target.now in
    let heap = wanted.limits.heap in
    let depth = wanted.limits.depth in
    let text = c.in_ok-text.text in
    let name = c.in-Some.name.now in
    let made = c.in_ok-compiled.compiled in
    let compiled = subst (λ lent. IsCompiled library_text lent heap depth made.file made.listing) c.as_slice.ensures c.in_ok-compiled.ensures.made in
    let write = c.write_both in
    let read = disk_change g.D.Disk.files g.D.Disk.faults g.D.Disk.calls c.args.disk.now c.read_file.new.disk in
    let change = disk_change g.D.Disk.files g.D.Disk.faults g.D.Disk.calls c.read_file.new.disk write.new.disk in
    let disk = disk_change g.D.Disk.files g.D.Disk.faults g.D.Disk.calls c.args.disk.now write.new.disk in
    let writes = subst (λ file. WritesBoth target file name (listing_text made.listing) change write.result) c.as_slice-in-Some.ensures
    (subst (λ lent. WritesBoth target c.as_slice-in-Some.result.now name lent change write.result) (c.as_slice-in-Some-2.ensures ∙ c.in_ok-listing-in-Some.ensures) write.ensures) in
    subst (λ listing. Compiles source target (option_map (λ name. name.now) listing) heap depth disk write.result) (sym c.in-Some.is)
    (listed_compiles source target text made.file heap depth read.before change.before change.after c.in_ok-text.ensures.read c.read_file.ensures.unchanged
    c.read_file.ensures.faults c.read_file.ensures.calls (file_of text made.file made.listing heap depth c.in_ok-text.ensures.read.within compiled) name write.result writes)
