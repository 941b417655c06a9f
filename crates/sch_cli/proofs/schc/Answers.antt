use Rattle.std.proofs.Common.{◌≡◌, ◌≢◌, Some, map, refl, subst, sym, arith}
use Rattle.std.specs.Option.{option_map}
use Rattle.std.specs.Prelude.{string_bytes}
use Rattle.sch_commands.specs.Command.{IfCompile, IfCount, IfGen, IfList, IfRun, IfStep, command}
use Rattle.sch_commands.specs.CommandView.{command_of}
use Rattle.sch_cli.specs.Images.{IsStep}
use Rattle.sch_cli.specs.Seen.{disk_change, stream_change}
use Rattle.sch_cli.proofs.CommandCases.{CompileEnds, CountEnds, GenEnds, ListEnds, RunEnds, StepEnds, compile_complete, compile_verdict, count_verdict, figures_verdict, list_verdict, run_complete, run_verdict, step_alone, step_verdict}
use Rattle.sch_cli.proofs.DiskSteps.{took_nothing}
use Rattle.sch_commands.proofs.AnyCommand.{any_compile, any_count, any_gen, any_run}
use Rattle.sch_cli.proofs.UnreadWords.{unread_compile, unread_count, unread_gen, unread_list, unread_run, unread_step}
use Rattle.sch_cli.proofs.schc.Goals as goal

pub returns-in-Err-clause-compile : goal.returns-in-Err-clause-compile
returns-in-Err-clause-compile g c =
    let err = stream_change g.E.Outlet.bytes g.E.Outlet.left g.E.Outlet.faults c.args.err.now c.report_no_memory.new.err in
    unread_compile (command (map string_bytes c.args.words.now)) c.report_no_memory.result _ err c.report_no_memory.ensures.status c.report_no_memory.ensures.line

pub returns-in-Err-clause-compile_out : goal.returns-in-Err-clause-compile_out
returns-in-Err-clause-compile_out g c = any_compile (command (map string_bytes c.args.words.now)) (c.args.out.now ≡ c.args.out.now) refl

pub returns-in-Err-clause-run : goal.returns-in-Err-clause-run
returns-in-Err-clause-run g c =
    let err = stream_change g.E.Outlet.bytes g.E.Outlet.left g.E.Outlet.faults c.args.err.now c.report_no_memory.new.err in
    unread_run (command (map string_bytes c.args.words.now)) c.report_no_memory.result _ err _ c.report_no_memory.ensures.status c.report_no_memory.ensures.line
    (took_nothing (g.O.Outlet.bytes c.args.out.now))

pub returns-in-Err-clause-step : goal.returns-in-Err-clause-step
returns-in-Err-clause-step g c =
    let err = stream_change g.E.Outlet.bytes g.E.Outlet.left g.E.Outlet.faults c.args.err.now c.report_no_memory.new.err in
    unread_step (command (map string_bytes c.args.words.now)) c.report_no_memory.result _ err _ c.report_no_memory.ensures.status c.report_no_memory.ensures.line
    (took_nothing (g.O.Outlet.bytes c.args.out.now))

pub returns-in-Err-clause-figures : goal.returns-in-Err-clause-figures
returns-in-Err-clause-figures g c =
    let err = stream_change g.E.Outlet.bytes g.E.Outlet.left g.E.Outlet.faults c.args.err.now c.report_no_memory.new.err in
    unread_gen (command (map string_bytes c.args.words.now)) c.report_no_memory.result err _ c.report_no_memory.ensures.status c.report_no_memory.ensures.line
    (took_nothing (g.O.Outlet.bytes c.args.out.now))

pub returns-in-Err-clause-figures_disk : goal.returns-in-Err-clause-figures_disk
returns-in-Err-clause-figures_disk g c = any_gen (command (map string_bytes c.args.words.now)) (c.args.disk.now ≡ c.args.disk.now) refl

pub returns-in-Err-clause-figures_no_image : goal.returns-in-Err-clause-figures_no_image
returns-in-Err-clause-figures_no_image g c = any_gen (command (map string_bytes c.args.words.now)) (c.report_no_memory.result ≢ 8) (λ is. omega (arith, is, c.report_no_memory.ensures.status))

pub returns-in-Err-clause-run_no_image : goal.returns-in-Err-clause-run_no_image
returns-in-Err-clause-run_no_image g c = any_run (command (map string_bytes c.args.words.now)) (c.report_no_memory.result ≢ 8) (λ is. omega (arith, is, c.report_no_memory.ensures.status))

pub returns-in-Err-clause-list : goal.returns-in-Err-clause-list
returns-in-Err-clause-list g c =
    let err = stream_change g.E.Outlet.bytes g.E.Outlet.left g.E.Outlet.faults c.args.err.now c.report_no_memory.new.err in
    unread_list (command (map string_bytes c.args.words.now)) c.report_no_memory.result _ err _ c.report_no_memory.ensures.status c.report_no_memory.ensures.line
    (took_nothing (g.O.Outlet.bytes c.args.out.now))

pub returns-in-Err-clause-count : goal.returns-in-Err-clause-count
returns-in-Err-clause-count g c =
    let err = stream_change g.E.Outlet.bytes g.E.Outlet.left g.E.Outlet.faults c.args.err.now c.report_no_memory.new.err in
    unread_count (command (map string_bytes c.args.words.now)) c.report_no_memory.result _ err _ c.report_no_memory.ensures.status c.report_no_memory.ensures.line
    (took_nothing (g.O.Outlet.bytes c.args.out.now))

pub returns-in-Err-clause-count_no_image : goal.returns-in-Err-clause-count_no_image
returns-in-Err-clause-count_no_image g c = any_count (command (map string_bytes c.args.words.now)) (c.report_no_memory.result ≢ 8) (λ is. omega (arith, is, c.report_no_memory.ensures.status))

pub returns-in-Err-clause-compile_verdict : goal.returns-in-Err-clause-compile_verdict
returns-in-Err-clause-compile_verdict g c =
    let disk = disk_change g.D.Disk.files g.D.Disk.faults g.D.Disk.calls c.args.disk.now c.args.disk.now in
    let err = stream_change g.E.Outlet.bytes g.E.Outlet.left g.E.Outlet.faults c.args.err.now c.report_no_memory.new.err in
    let out = stream_change g.O.Outlet.bytes g.O.Outlet.left g.O.Outlet.faults c.args.out.now c.args.out.now in
    compile_verdict (command (map string_bytes c.args.words.now)) c.report_no_memory.result disk err out (returns-in-Err-clause-compile g c)

pub returns-in-Ok-Some-clause-compile_verdict : goal.returns-in-Ok-Some-clause-compile_verdict
returns-in-Ok-Some-clause-compile_verdict g c =
    let disk = disk_change g.D.Disk.files g.D.Disk.faults g.D.Disk.calls c.args.disk.now c.perform.new.disk in
    let err = stream_change g.E.Outlet.bytes g.E.Outlet.left g.E.Outlet.faults c.args.err.now c.perform.new.err in
    let out = stream_change g.O.Outlet.bytes g.O.Outlet.left g.O.Outlet.faults c.args.out.now c.perform.new.out in
    let words = command (map string_bytes c.args.words.now) in
    let is : words ≡ Some (command_of c.in-Ok-Some.command) = subst (λ read. words ≡ option_map command_of read) c.in-Ok-Some.field-0-is c.in-Ok-Some.ensures in
    compile_verdict words c.perform.result disk err out (subst (λ read. IfCompile read (CompileEnds words c.perform.result disk err out)) (sym is) c.perform.ensures.compile)

pub returns-in-Err-clause-run_verdict : goal.returns-in-Err-clause-run_verdict
returns-in-Err-clause-run_verdict g c =
    let disk = disk_change g.D.Disk.files g.D.Disk.faults g.D.Disk.calls c.args.disk.now c.args.disk.now in
    let err = stream_change g.E.Outlet.bytes g.E.Outlet.left g.E.Outlet.faults c.args.err.now c.report_no_memory.new.err in
    let out = stream_change g.O.Outlet.bytes g.O.Outlet.left g.O.Outlet.faults c.args.out.now c.args.out.now in
    run_verdict (command (map string_bytes c.args.words.now)) c.report_no_memory.result disk err out (returns-in-Err-clause-run g c)

pub returns-in-Ok-Some-clause-run_verdict : goal.returns-in-Ok-Some-clause-run_verdict
returns-in-Ok-Some-clause-run_verdict g c =
    let disk = disk_change g.D.Disk.files g.D.Disk.faults g.D.Disk.calls c.args.disk.now c.perform.new.disk in
    let err = stream_change g.E.Outlet.bytes g.E.Outlet.left g.E.Outlet.faults c.args.err.now c.perform.new.err in
    let out = stream_change g.O.Outlet.bytes g.O.Outlet.left g.O.Outlet.faults c.args.out.now c.perform.new.out in
    let words = command (map string_bytes c.args.words.now) in
    let is : words ≡ Some (command_of c.in-Ok-Some.command) = subst (λ read. words ≡ option_map command_of read) c.in-Ok-Some.field-0-is c.in-Ok-Some.ensures in
    run_verdict words c.perform.result disk err out (subst (λ read. IfRun read (RunEnds words c.perform.result disk err out)) (sym is) c.perform.ensures.run)

pub returns-in-Err-clause-list_verdict : goal.returns-in-Err-clause-list_verdict
returns-in-Err-clause-list_verdict g c =
    let disk = disk_change g.D.Disk.files g.D.Disk.faults g.D.Disk.calls c.args.disk.now c.args.disk.now in
    let err = stream_change g.E.Outlet.bytes g.E.Outlet.left g.E.Outlet.faults c.args.err.now c.report_no_memory.new.err in
    let out = stream_change g.O.Outlet.bytes g.O.Outlet.left g.O.Outlet.faults c.args.out.now c.args.out.now in
    list_verdict (command (map string_bytes c.args.words.now)) c.report_no_memory.result disk err out (returns-in-Err-clause-list g c)

pub returns-in-Ok-Some-clause-list_verdict : goal.returns-in-Ok-Some-clause-list_verdict
returns-in-Ok-Some-clause-list_verdict g c =
    let disk = disk_change g.D.Disk.files g.D.Disk.faults g.D.Disk.calls c.args.disk.now c.perform.new.disk in
    let err = stream_change g.E.Outlet.bytes g.E.Outlet.left g.E.Outlet.faults c.args.err.now c.perform.new.err in
    let out = stream_change g.O.Outlet.bytes g.O.Outlet.left g.O.Outlet.faults c.args.out.now c.perform.new.out in
    let words = command (map string_bytes c.args.words.now) in
    let is : words ≡ Some (command_of c.in-Ok-Some.command) = subst (λ read. words ≡ option_map command_of read) c.in-Ok-Some.field-0-is c.in-Ok-Some.ensures in
    list_verdict words c.perform.result disk err out (subst (λ read. IfList read (ListEnds words c.perform.result disk err out)) (sym is) c.perform.ensures.list)

pub returns-in-Err-clause-figures_verdict : goal.returns-in-Err-clause-figures_verdict
returns-in-Err-clause-figures_verdict g c =
    let disk = disk_change g.D.Disk.files g.D.Disk.faults g.D.Disk.calls c.args.disk.now c.args.disk.now in
    let err = stream_change g.E.Outlet.bytes g.E.Outlet.left g.E.Outlet.faults c.args.err.now c.report_no_memory.new.err in
    let out = stream_change g.O.Outlet.bytes g.O.Outlet.left g.O.Outlet.faults c.args.out.now c.args.out.now in
    figures_verdict (command (map string_bytes c.args.words.now)) c.report_no_memory.result disk err out (returns-in-Err-clause-figures g c)

pub returns-in-Ok-Some-clause-figures_verdict : goal.returns-in-Ok-Some-clause-figures_verdict
returns-in-Ok-Some-clause-figures_verdict g c =
    let disk = disk_change g.D.Disk.files g.D.Disk.faults g.D.Disk.calls c.args.disk.now c.perform.new.disk in
    let err = stream_change g.E.Outlet.bytes g.E.Outlet.left g.E.Outlet.faults c.args.err.now c.perform.new.err in
    let out = stream_change g.O.Outlet.bytes g.O.Outlet.left g.O.Outlet.faults c.args.out.now c.perform.new.out in
    let words = command (map string_bytes c.args.words.now) in
    let is : words ≡ Some (command_of c.in-Ok-Some.command) = subst (λ read. words ≡ option_map command_of read) c.in-Ok-Some.field-0-is c.in-Ok-Some.ensures in
    figures_verdict words c.perform.result disk err out (subst (λ read. IfGen read (GenEnds words c.perform.result disk err out)) (sym is) c.perform.ensures.figures)

pub returns-in-Err-clause-count_verdict : goal.returns-in-Err-clause-count_verdict
returns-in-Err-clause-count_verdict g c =
    let disk = disk_change g.D.Disk.files g.D.Disk.faults g.D.Disk.calls c.args.disk.now c.args.disk.now in
    let err = stream_change g.E.Outlet.bytes g.E.Outlet.left g.E.Outlet.faults c.args.err.now c.report_no_memory.new.err in
    let out = stream_change g.O.Outlet.bytes g.O.Outlet.left g.O.Outlet.faults c.args.out.now c.args.out.now in
    count_verdict (command (map string_bytes c.args.words.now)) c.report_no_memory.result disk err out (returns-in-Err-clause-count g c)

pub returns-in-Ok-Some-clause-count_verdict : goal.returns-in-Ok-Some-clause-count_verdict
returns-in-Ok-Some-clause-count_verdict g c =
    let disk = disk_change g.D.Disk.files g.D.Disk.faults g.D.Disk.calls c.args.disk.now c.perform.new.disk in
    let err = stream_change g.E.Outlet.bytes g.E.Outlet.left g.E.Outlet.faults c.args.err.now c.perform.new.err in
    let out = stream_change g.O.Outlet.bytes g.O.Outlet.left g.O.Outlet.faults c.args.out.now c.perform.new.out in
    let words = command (map string_bytes c.args.words.now) in
    let is : words ≡ Some (command_of c.in-Ok-Some.command) = subst (λ read. words ≡ option_map command_of read) c.in-Ok-Some.field-0-is c.in-Ok-Some.ensures in
    count_verdict words c.perform.result disk err out (subst (λ read. IfCount read (CountEnds words c.perform.result disk err out)) (sym is) c.perform.ensures.count)

pub returns-in-Err-clause-step_verdict : goal.returns-in-Err-clause-step_verdict
returns-in-Err-clause-step_verdict g c =
    let disk = disk_change g.D.Disk.files g.D.Disk.faults g.D.Disk.calls c.args.disk.now c.args.disk.now in
    let err = stream_change g.E.Outlet.bytes g.E.Outlet.left g.E.Outlet.faults c.args.err.now c.report_no_memory.new.err in
    let out = stream_change g.O.Outlet.bytes g.O.Outlet.left g.O.Outlet.faults c.args.out.now c.args.out.now in
    step_verdict (command (map string_bytes c.args.words.now)) c.report_no_memory.result disk err out (returns-in-Err-clause-step g c)

pub returns-in-Ok-Some-clause-step_verdict : goal.returns-in-Ok-Some-clause-step_verdict
returns-in-Ok-Some-clause-step_verdict g c =
    let disk = disk_change g.D.Disk.files g.D.Disk.faults g.D.Disk.calls c.args.disk.now c.perform.new.disk in
    let err = stream_change g.E.Outlet.bytes g.E.Outlet.left g.E.Outlet.faults c.args.err.now c.perform.new.err in
    let out = stream_change g.O.Outlet.bytes g.O.Outlet.left g.O.Outlet.faults c.args.out.now c.perform.new.out in
    let words = command (map string_bytes c.args.words.now) in
    let is : words ≡ Some (command_of c.in-Ok-Some.command) = subst (λ read. words ≡ option_map command_of read) c.in-Ok-Some.field-0-is c.in-Ok-Some.ensures in
    step_verdict words c.perform.result disk err out (subst (λ read. IfStep read (StepEnds words c.perform.result disk err out)) (sym is) c.perform.ensures.step)

pub returns-in-Err-clause-step_alone : goal.returns-in-Err-clause-step_alone
returns-in-Err-clause-step_alone g c is = absurd (omega (arith, is, c.report_no_memory.ensures.status))

pub returns-in-Ok-Some-clause-step_alone : goal.returns-in-Ok-Some-clause-step_alone
returns-in-Ok-Some-clause-step_alone g c =
    let disk = disk_change g.D.Disk.files g.D.Disk.faults g.D.Disk.calls c.args.disk.now c.perform.new.disk in
    let err = stream_change g.E.Outlet.bytes g.E.Outlet.left g.E.Outlet.faults c.args.err.now c.perform.new.err in
    let out = stream_change g.O.Outlet.bytes g.O.Outlet.left g.O.Outlet.faults c.args.out.now c.perform.new.out in
    let words = command (map string_bytes c.args.words.now) in
    let status = c.perform.result in
    let ends = c.perform.ensures in
    let is : words ≡ Some (command_of c.in-Ok-Some.command) = subst (λ read. words ≡ option_map command_of read) c.in-Ok-Some.field-0-is c.in-Ok-Some.ensures in
    subst (λ read. status ≡ 8 → IsStep read) (sym is)
    (step_alone (Some (command_of c.in-Ok-Some.command)) status disk err out (λ none. absurd cc) ends.compile ends.run_no_image ends.list ends.count_no_image ends.figures_no_image)

pub returns-in-Err-clause-compile_complete : goal.returns-in-Err-clause-compile_complete
returns-in-Err-clause-compile_complete g c =
    let disk = disk_change g.D.Disk.files g.D.Disk.faults g.D.Disk.calls c.args.disk.now c.args.disk.now in
    let err = stream_change g.E.Outlet.bytes g.E.Outlet.left g.E.Outlet.faults c.args.err.now c.report_no_memory.new.err in
    let out = stream_change g.O.Outlet.bytes g.O.Outlet.left g.O.Outlet.faults c.args.out.now c.args.out.now in
    compile_complete (command (map string_bytes c.args.words.now)) c.report_no_memory.result disk err out (returns-in-Err-clause-compile g c)

pub returns-in-Ok-Some-clause-compile_complete : goal.returns-in-Ok-Some-clause-compile_complete
returns-in-Ok-Some-clause-compile_complete g c =
    let disk = disk_change g.D.Disk.files g.D.Disk.faults g.D.Disk.calls c.args.disk.now c.perform.new.disk in
    let err = stream_change g.E.Outlet.bytes g.E.Outlet.left g.E.Outlet.faults c.args.err.now c.perform.new.err in
    let out = stream_change g.O.Outlet.bytes g.O.Outlet.left g.O.Outlet.faults c.args.out.now c.perform.new.out in
    let words = command (map string_bytes c.args.words.now) in
    let is : words ≡ Some (command_of c.in-Ok-Some.command) = subst (λ read. words ≡ option_map command_of read) c.in-Ok-Some.field-0-is c.in-Ok-Some.ensures in
    compile_complete words c.perform.result disk err out (subst (λ read. IfCompile read (CompileEnds words c.perform.result disk err out)) (sym is) c.perform.ensures.compile)

pub returns-in-Err-clause-run_complete : goal.returns-in-Err-clause-run_complete
returns-in-Err-clause-run_complete g c =
    let disk = disk_change g.D.Disk.files g.D.Disk.faults g.D.Disk.calls c.args.disk.now c.args.disk.now in
    let err = stream_change g.E.Outlet.bytes g.E.Outlet.left g.E.Outlet.faults c.args.err.now c.report_no_memory.new.err in
    let out = stream_change g.O.Outlet.bytes g.O.Outlet.left g.O.Outlet.faults c.args.out.now c.args.out.now in
    run_complete (command (map string_bytes c.args.words.now)) c.report_no_memory.result disk err out (returns-in-Err-clause-run g c)

pub returns-in-Ok-Some-clause-run_complete : goal.returns-in-Ok-Some-clause-run_complete
returns-in-Ok-Some-clause-run_complete g c =
    let disk = disk_change g.D.Disk.files g.D.Disk.faults g.D.Disk.calls c.args.disk.now c.perform.new.disk in
    let err = stream_change g.E.Outlet.bytes g.E.Outlet.left g.E.Outlet.faults c.args.err.now c.perform.new.err in
    let out = stream_change g.O.Outlet.bytes g.O.Outlet.left g.O.Outlet.faults c.args.out.now c.perform.new.out in
    let words = command (map string_bytes c.args.words.now) in
    let is : words ≡ Some (command_of c.in-Ok-Some.command) = subst (λ read. words ≡ option_map command_of read) c.in-Ok-Some.field-0-is c.in-Ok-Some.ensures in
    run_complete words c.perform.result disk err out (subst (λ read. IfRun read (RunEnds words c.perform.result disk err out)) (sym is) c.perform.ensures.run)
