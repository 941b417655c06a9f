use Rattle.std.proofs.Common.{◌≡◌, [], ◌∷◌, rules, ap, ◌∙◌, sym, Ok}
use Rattle.sch_read.specs.Parser.Stack.{AfterDot}
use Rattle.sch_read.specs.Views.{data_of}
use Rattle.sch_read.specs.Parser.StackView.{state_of, stack_of}
use Rattle.sch_read.proofs.FrameStack.{read_dot_some}
use Rattle.sch_read.proofs.parser.Parser.read_dot.Goals as goal

pub returns : goal.returns
returns c =
    let some : c.args.items ≡ [] → ⊥ = search rules in
    let pushed : state_of c.push.new.self ≡ record (state_of c.args.self.now) { open_ = AfterDot c.args.place (data_of c.args.items) ∷ stack_of c.args.self.now.frames.items } = search rules in
    read_dot_some c.args.items c.args.self.now.spare c.args.place (stack_of c.args.self.now.frames.items) (data_of c.args.self.now.top) c.args.at some ∙ ap Ok (sym pushed)
