-- The moves of each call of a body with places are those of a greedy shuffle.
use Rattle.std.proofs.Common.{ℕ, suc, ◌<◌, ◌≤◌, List, length, Bool, refl, arith}
use Rattle.sch_word.specs.trees.Shape.{max_operands}
use Rattle.sch_word.specs.declared.place.Place.{Place}
use Rattle.sch_control.specs.declared.operation.Application.{Application}
use Rattle.sch_control.specs.AtomsAndSites.{application_atoms}
use Rattle.sch_control.specs.Tree as control
use Rattle.sch_control.specs.Tree.{Expression}
use Rattle.sch_layout.specs.BodyLayout.{Plan}
use Rattle.sch_layout.specs.Laws.{AtomsHave}
use Rattle.sch_layout.proofs.EachCall.{each_call}
use Rattle.sch_shuffle.specs.CycleSearch as search
use Rattle.sch_shuffle.specs.Greedy.{made}
use Rattle.sch_shuffle.proofs.Promises.{are_cycles, are_planned, as_few, go_on_in_order, is_greedy, is_ordered, needs}
use Rattle.sch_homes.specs.CallMoves.{call_arguments, call_free, call_targets}
use Rattle.sch_homes.specs.Homes.{first_home, homes_end, homes_plan, place}
use Rattle.sch_homes.specs.Laws.{IsPlaced}
use Rattle.sch_homes.proofs.CallSpare as spare
use Rattle.sch_homes.proofs.CallsBring.{first_fits, first_low}
use Rattle.sch_homes.proofs.FrameRoom.{calls_few, has_room, uses_low}
use Rattle.sch_homes.proofs.SlotsApart.{lives_before}
use Rattle.sch_registers.specs.GreedyCalls.{IsGreedyCall}
use Rattle.sch_control.specs.EachCall.{EachCall}

module _ (c : control.Code) (e : Expression) (places : List Place) (p : IsPlaced c e places) where
  abbrev plan : Plan
  plan = homes_plan c.entry e places

  abbrev Low : ℕ → Type 0
  Low x = x < length places

  abbrev end : ℕ
  end = homes_end c.entry e places

  abbrev low : ℕ
  low = first_home c.entry e places

  abbrev lives : ℕ → Place
  lives = place c.entry e places

  greedy_call : (tail : Bool) (a : Application ℕ) → AtomsHave Low (application_atoms a) → length a.operands ≤ max_operands → IsGreedyCall plan tail a
  greedy_call tail a reads few =
      let room = has_room c e places p in
      let before = lives_before c.entry e places in
      let first = first_low c.entry e places room in
      let args = call_arguments lives a in
      let targets = call_targets tail a in
      let free = call_free end lives tail a in
      let fits = first_fits c.entry e places room tail a few reads in
      let l = spare.targets_many end low lives Low before first tail a reads in
      let f = spare.free_many end low lives Low before first tail a reads in
      let apart = spare.targets_distinct tail (suc (length a.operands)) in
      let free_apart = spare.free_distinct end low lives Low before first tail a reads in
      let unused = spare.free_spare end low lives Low before first tail a reads (omega (arith, fits)) in
      record {
        free = free;
        steps = made args targets free;
        cycles = search.cycles args targets;
        moves = refl;
        spare = unused;
        planned = are_planned args targets free l f apart free_apart unused _ refl;
        greedy = is_greedy args targets free l f apart free_apart unused _ refl;
        ordered = is_ordered args targets free l f apart free_apart unused _ refl;
        onward = go_on_in_order args targets free l f apart free_apart unused _ refl;
        exact = are_cycles args targets free l f apart free_apart unused _ refl;
        few = as_few args targets free l f apart free_apart unused _ _ refl refl;
        fewest = needs args targets free l f apart free_apart unused _ refl;
      }

  pub greedy_calls : EachCall (IsGreedyCall (homes_plan c.entry e places)) e
  greedy_calls = each_call Low (λ tail a. length a.operands ≤ max_operands) (IsGreedyCall plan) greedy_call e (uses_low c e places p) (calls_few c e places p)
