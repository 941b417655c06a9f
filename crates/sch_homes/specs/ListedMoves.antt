-- What is listed of the moves of a body's calls: in which order each moves its arguments first, and which places go round.
use Rattle.std.specs.Prelude.{ℕ, suc, Bool, List, [], length, map, Option, take}
use Rattle.sch_word.specs.declared.place.Place.{Place}
use Rattle.sch_word.specs.trees.Bindings.{numbers}
use Rattle.sch_control.specs.declared.body.Entry.{Entry}
use Rattle.sch_control.specs.declared.operation.Application.{Application}
use Rattle.sch_control.specs.Tree.{Expression}
use Rattle.sch_shuffle.specs.CycleSearch.{cycles}
use Rattle.sch_orders.specs.declared.listed_call.ListedCall.{ListedCall}
use Rattle.sch_orders.specs.ListedCalls.{listed_calls}
use Rattle.sch_homes.specs.CallMoves.{call_arguments, call_moves, call_targets}
use Rattle.sch_homes.specs.Homes.{homes_end}
use Rattle.sch_homes.specs.HomeTable.{place_in}

-- A call with n operands moves its operator and these first, each once, and behind them what it set aside.
abbrev pub first_moves : (end : ℕ) → (lives : ℕ → Place) → (tail : Bool) → Application ℕ → List ℕ
first_moves end lives tail a = map (λ m. m.argument) (take (suc (length a.operands)) (call_moves end lives tail a))

abbrev pub listed_call : (end : ℕ) → (lives : ℕ → Place) → (tail : Bool) → Application ℕ → ListedCall
listed_call end lives tail a = record {
  site = a.site;
  order = first_moves end lives tail a;
  cycles = cycles (call_arguments lives a) (call_targets tail a);
}

-- where no argument uses the target of an earlier one
abbrev pub straight_call : Application ℕ → ListedCall
straight_call a = record { site = a.site; order = numbers 0 (suc (length a.operands)); cycles = [] }

-- the calls of a body in the order of its tree
abbrev pub homes_calls : Option Entry → Expression → List Place → List ListedCall
homes_calls entry e places = listed_calls (listed_call (homes_end entry e places) (place_in places)) e
