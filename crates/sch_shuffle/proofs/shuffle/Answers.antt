use Rattle.std.proofs.Common.{◌∙◌, sym}
use Rattle.std.proofs.lemmas.List.{length-map}
use Rattle.sch_shuffle.specs.View.{tree, arguments}
use Rattle.sch_shuffle.proofs.Promises.{always_assigns, always_carries, are_planned, are_moves, is_greedy, is_ordered, go_on_in_order, are_cycles, needs, as_few}
use Rattle.sch_shuffle.proofs.shuffle.Goals as goal

pub returns : goal.returns
returns c =
    let args = arguments c.args.args.now in
    let targets = c.args.targets.now in
    let free = c.args.free.now in
    let same = sym (length-map c.args.args.now tree) in
    let l = c.requires.targets ∙ same in
    let f = c.requires.free ∙ same in
    let apart = c.requires.distinct in
    let free_apart = c.requires.temporaries in
    let spare = c.requires.spare in
    let e = c.in_ok-list.ensures in
    let g = c.in_ok-cycles.ensures in
    record {
      assigns = always_assigns args targets free l f apart free_apart spare _ e;
      carries = always_carries args targets free l f apart free_apart spare _ e;
      planned = are_planned args targets free l f apart free_apart spare _ e;
      moves = are_moves args targets free l f apart free_apart spare _ e;
      greedy = is_greedy args targets free l f apart free_apart spare _ e;
      ordered = is_ordered args targets free l f apart free_apart spare _ e;
      onward = go_on_in_order args targets free l f apart free_apart spare _ e;
      cycles = are_cycles args targets free l f apart free_apart spare _ g;
      listed = g;
      few = as_few args targets free l f apart free_apart spare _ _ e g;
      fewest = needs args targets free l f apart free_apart spare _ g;
      made = e;
    }
