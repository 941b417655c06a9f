use Rattle.std.proofs.Common.{◌≡◌, ◌++◌, List, length}
use Rattle.std.specs.Vec.Iter.{into_iter_items, into_iter_len}
use Rattle.sch_frames.specs.declared.instruction.Instruction.{Instruction}
use Rattle.sch_layout.specs.BodyLayout.{move_all}
use Rattle.sch_writer.specs.View.{moves_of}
use Rattle.sch_writer.proofs.moves.write_moves.Given as goal

abbrev pub invariant-loop-m : goal.invariant-loop-m
invariant-loop-m l = record {
  written : (rest : List Instruction) → l.out.instructions ++ move_all l.limit (moves_of (into_iter_items l.m-iterator)) rest
      ≡ l.initial.out.instructions ++ move_all l.limit (moves_of (into_iter_items l.initial.m-iterator)) rest;
  labels : l.out.labels ≡ l.initial.out.labels;
  counted : into_iter_len l.m-iterator ≡ length (into_iter_items l.m-iterator);
}
