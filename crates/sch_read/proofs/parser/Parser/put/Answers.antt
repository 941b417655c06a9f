use Rattle.std.proofs.lemmas.List.{get_or_read_under}
use Rattle.std.proofs.Common.{◌≡◌, refl, suc, ◌-◌, length, arith, rules, true, get_or, sym, subst, ◌∙◌}
use Rattle.sch_read.specs.Views.{tree_of, data_of}
use Rattle.sch_read.specs.Parser.Stack.{is_row}
use Rattle.sch_read.specs.Parser.StackView.{frame_of}
use Rattle.sch_read.proofs.FrameStack.{put_innermost}
use Rattle.sch_read.proofs.parser.Parser.put.Goals as goal

pub returns-then-is_row : goal.returns-then-is_row
returns-then-is_row c =
    let fs = c.args.self.now.frames.items in
    let i = c.len-open.result - 1 in
    let old = c.index_mut.result.now in
    let one : suc i ≡ length fs = omega (arith, c.if-open-gt0.true, c.len-open.ensures) in
    let there : old ≡ get_or fs i old = search rules in
    let row : is_row (frame_of c.index.result.now) ≡ true = search (rules, c.if-is_row.ensures) in
    let same : c.index.result.now ≡ old = get_or_read_under fs i (length fs) c.index.result.now old c.index.ensures (omega (arith, one)) refl ∙ sym there in
    put_innermost c.args.self.now.spare (tree_of c.args.d) fs i old c.put.new.self (data_of c.args.self.now.top) one there (subst (λ f. is_row (frame_of f) ≡ true) same row) c.in_ok-put.ensures
