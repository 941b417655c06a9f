use Rattle.std.proofs.Common.{subst}
use Rattle.sch_elf.specs.Stands.{StandsFor}
use Rattle.sch_cli.proofs.CompiledFiles.{has_image}
use Rattle.sch_cli.proofs.build.image_of.Goals as goal

pub image_in-requires : goal.image_in-requires
image_in-requires c =
    let built = c.in_ok-file.ensures.made in
    has_image c.args.text.now c.in_ok-file.file c.as_slice.result.now built.listing c.args.limits.heap c.args.limits.depth built.compiled c.as_slice.ensures

pub returns-clause-made : goal.returns-clause-made
returns-clause-made c = record {
  file = c.in_ok-file.file;
  made = c.in_ok-file.ensures.made;
  stands = subst (λ bytes. StandsFor bytes c.in_ok-image.image) c.as_slice.ensures c.in_ok-image.ensures;
}
