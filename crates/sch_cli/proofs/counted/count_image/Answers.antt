use Rattle.std.proofs.Common.{[], subst}
use Rattle.sch_asm.specs.Stands.{marks_at}
use Rattle.sch_count.specs.TracedCounts.{AreCounted, Follows, status_of}
use Rattle.sch_cli.proofs.CountedImages.{counts_image}
use Rattle.sch_cli.proofs.counted.count_image.Goals as goal

pub returns : goal.returns
returns c =
    let listing = c.args.listing.now in
    let counted = c.count in
    let did = counted.ensures.did in
    let old = c.in_ok-machine.machine in
    let new = counted.new.m in
    let answer = counted.result in
    let follows = did.told [] in
    let marks = subst (λ marks. Follows c.args.steps (marks_at marks) (AreCounted c.len.result answer) (status_of answer) old new [] [] did.took []) c.as_slice.ensures follows in
    counts_image c.args.image.now listing c.args.steps old new c.in_ok-machine.ensures.starts did.took answer counted.ensures.at
    (subst (λ bodies. Follows c.args.steps (marks_at listing.marks) (AreCounted bodies answer) (status_of answer) old new [] [] did.took []) c.len.ensures marks)
