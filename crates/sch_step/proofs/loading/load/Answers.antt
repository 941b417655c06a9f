use Rattle.std.proofs.Common.{subst, sym, ap, length, ◌∙◌}
use Rattle.std.proofs.lemmas.List.{length-replicate}
use Rattle.sch_step.specs.declared.fetched.TheConstants.{KEPT}
use Rattle.sch_step.specs.Fetched.{AreFetched, nothing_fetched}
use Rattle.sch_step.specs.Layout.{IsMemory, segments_view}
use Rattle.sch_step.proofs.FetchedStays.{none_are}
use Rattle.sch_step.proofs.ImageMemory.{image_laid_out}
use Rattle.sch_step.proofs.loading.load.Goals as goal

pub invariant_of-result : goal.invariant_of-result
invariant_of-result c =
    let gs = segments_view c.in_ok-segments.segments in
    record {
      laid_out = subst IsMemory (sym c.in_ok-segments.ensures) (image_laid_out c.args.image.now.segments c.args.image.now.laid_out);
      counted = ap length c.in_ok-fetched.ensures ∙ length-replicate KEPT nothing_fetched;
      kept = subst (AreFetched gs) (sym c.in_ok-fetched.ensures) (none_are gs KEPT);
    }
