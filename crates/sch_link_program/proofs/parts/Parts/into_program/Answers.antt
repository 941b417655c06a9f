use Rattle.std.proofs.Common.{refl}
use Rattle.sch_link_program.specs.PartsView.{parts_of}
use Rattle.sch_link_program.proofs.ProgramMade.{ranged, words, formed, limited, sited, ready}
use Rattle.sch_link_program.proofs.parts.Parts.into_program.Goals as goal

pub invariant_of-result : goal.invariant_of-result
invariant_of-result c =
    let p = parts_of c.args.self in
    record {
      numbered = ranged p p refl c.requires.valid;
      words = words p p refl c.requires.valid;
      formed = formed p p refl c.requires.valid;
      limited = limited p p refl c.requires.valid;
      sited = sited p p refl c.requires.valid;
      ready = ready p p refl c.requires.valid;
    }
