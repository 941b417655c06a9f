use Rattle.std.proofs.Common.{◌%◌, ◌∙◌}
use Rattle.std.proofs.lemmas.List.{length-set}
use Rattle.sch_step.specs.declared.fetched.Fetched.{Fetched}
use Rattle.sch_step.specs.Layout.{segments_view}
use Rattle.sch_step.proofs.FetchedStays.{one_kept}
use Rattle.sch_step.proofs.processor.Processor.keep.Goals as goal

pub invariant_of-self : goal.invariant_of-self
invariant_of-self c =
    let m = c.args.self.now in
    let one : Fetched = record { at = m.at; size = c.in-Some.size; insn = c.in-Some.insn } in
    record {
      laid_out = m.laid_out;
      counted = length-set m.fetched.items (m.at % 4096) one ∙ m.counted;
      kept = one_kept (segments_view m.segments) m.fetched.items (m.at % 4096) one c.args.found m.kept c.in-Some.is c.requires.fixed c.requires.valid c.requires.low;
    }
