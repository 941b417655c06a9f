use Rattle.sch_cli.proofs.CompiledFiles.{file_of}
use Rattle.sch_cli.proofs.build.build.Goals as goal

pub returns-clause-made : goal.returns-clause-made
returns-clause-made c =
    let made = c.in_ok-compiled.compiled in
    file_of c.args.text.now made.file made.listing c.args.limits.heap c.args.limits.depth c.requires c.in_ok-compiled.ensures.made
