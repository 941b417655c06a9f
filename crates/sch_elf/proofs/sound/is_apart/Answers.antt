use Rattle.std.proofs.Common.{get_or, refl, arith, subst, below_more}
use Rattle.std.proofs.lemmas.List.{get_or_default}
use Rattle.sch_elf.specs.Stands.{DoNotOverlap}
use Rattle.sch_elf.specs.declared.header.ProgramHeader.{ProgramHeader}
use Rattle.sch_elf.proofs.sound.is_apart.Goals as goal

pub returns-then-overlap : goal.returns-then-overlap
returns-then-overlap c = (λ t. cc, λ all. absurd (c.overlap.ensures.yes c.if-overlap.true (all c.loop-other.other-index _ c.loop-other-test.true)))

pub loop-other-preserved : goal.loop-other-preserved
loop-other-preserved c = λ k d within.
    let earlier = c.args.earlier.now in
    let header = c.args.header.now in
    let i = c.loop-other.other-index in
    below_more (λ n. (e : ProgramHeader) → DoNotOverlap (get_or earlier n e) header) i
    (λ n below e. c.loop-other.invariant n e below)
    (λ e. subst (λ x. DoNotOverlap x header) (get_or_default earlier i _ e c.loop-other-test.true) (c.overlap.ensures.no c.if-overlap.false)) k within d

pub returns : goal.returns
returns c = (λ t k d within. c.loop-other.invariant k d (omega arith), λ all. refl)
