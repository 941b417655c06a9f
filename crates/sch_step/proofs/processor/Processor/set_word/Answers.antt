use Rattle.std.proofs.Common.{arith, refl, sym}
use Rattle.std.specs.Int.{w64, to_le_bytes}
use Rattle.sch_insn.specs.Machine.{with_place}
use Rattle.sch_step.specs.View.{core_of}
use Rattle.sch_step.proofs.Memory.{begins_before, lies_within, written, not_written, stays_laid_out}
use Rattle.sch_step.proofs.FetchedStays.{still_fetched}
use Rattle.sch_step.proofs.processor.Processor.set_word.Goals as goal

pub returns-in-None-clause-value : goal.returns-in-None-clause-value
returns-in-None-clause-value c = λ place. sym (not_written (with_place place (core_of c.args.self.now)) c.args.address (to_le_bytes w64 c.args.value)
    (c.place_to_write.ensures.none c.in-None.is (to_le_bytes w64 c.args.value) refl (omega arith)))

pub returns-clause-value : goal.returns-clause-value
returns-clause-value c = λ place. sym (written (with_place place (core_of c.args.self.now)) c.args.self.now.segments.items c.in-Some.i c.args.address c.index_mut-s.result.now c.put_word.new.self
    (to_le_bytes w64 c.args.value) refl (omega arith) c.args.self.now.laid_out c.in-Some.ensures.within c.in-Some.ensures.some c.index_mut-s.ensures.value c.in-Some.ensures.writable
    c.put_word.ensures)

pub invariant_of-self : goal.invariant_of-self
invariant_of-self c = record {
  laid_out = stays_laid_out c.args.self.now.segments.items c.in-Some.i c.args.address c.index_mut-s.result.now c.put_word.new.self
      (to_le_bytes w64 c.args.value) c.args.self.now.laid_out c.in-Some.ensures.within c.in-Some.ensures.some c.index_mut-s.ensures.value c.put_word.ensures;
  counted = c.args.self.now.counted;
  kept = still_fetched c.args.self.now.segments.items c.in-Some.i c.args.address c.index_mut-s.result.now c.put_word.new.self
      (to_le_bytes w64 c.args.value) c.args.self.now.fetched.items c.args.self.now.kept c.in-Some.ensures.within c.in-Some.ensures.some c.index_mut-s.ensures.value c.in-Some.ensures.writable c.put_word.ensures;
}

pub overflow_sub-address : goal.overflow_sub-address
overflow_sub-address c = begins_before c.args.self.now.segments.items c.in-Some.i _ 8 c.index_mut-s.result.now c.in-Some.ensures.within c.in-Some.ensures.some c.index_mut-s.ensures.value

pub put_word-requires : goal.put_word-requires
put_word-requires c =
    let room = lies_within c.args.self.now.segments.items c.in-Some.i c.args.address 8 c.index_mut-s.result.now c.in-Some.ensures.within c.in-Some.ensures.some c.index_mut-s.ensures.value in
    omega (arith, room)
