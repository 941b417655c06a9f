use Rattle.std.proofs.Common.{◌≡◌, vec_len}
use Rattle.sch_read.specs.Parser.Stack.{put}
use Rattle.sch_read.specs.Views.{tree_of, data_of}
use Rattle.sch_read.specs.Parser.StackView.{stack_of}
use Rattle.sch_read.proofs.parser.Parser.put_out.Given as goal

abbrev pub invariant-loop-frame : goal.invariant-loop-frame
invariant-loop-frame l = put l.self.spare (tree_of l.d) (stack_of l.self.frames.items) (data_of l.self.top)
    ≡ put l.fn.self.spare (tree_of l.fn.d) (stack_of l.fn.self.frames.items) (data_of l.fn.self.top)

abbrev pub decreases-loop-frame : goal.decreases-loop-frame
decreases-loop-frame l = vec_len l.self.frames
