-- The calls of a body in the order of its tree, each with what is listed of its moves.
use Rattle.std.specs.Prelude.{ℕ, Bool, true, false, List, [], ◌∷◌, ◌++◌}
use Rattle.sch_control.specs.declared.operation.Application.{Application}
use Rattle.sch_control.specs.Tree.{Expression, perform, bind, sequence, branch, fix, call, tail_call, return, end, save}
use Rattle.sch_orders.specs.declared.listed_call.ListedCall.{ListedCall}

module _ (listed : (tail : Bool) → Application ℕ → ListedCall) where
  abbrev pub listed_calls : Expression → List ListedCall
  listed_calls (perform o) = []
  listed_calls (bind x a b) = listed_calls a ++ listed_calls b
  listed_calls (sequence a b) = listed_calls a ++ listed_calls b
  listed_calls (branch a b c) = listed_calls a ++ (listed_calls b ++ listed_calls c)
  listed_calls (fix members e) = listed_calls e
  listed_calls (call a restores) = listed false a ∷ []
  listed_calls (tail_call a) = listed true a ∷ []
  listed_calls (return e) = listed_calls e
  listed_calls (end e) = listed_calls e
  listed_calls (save saves e) = listed_calls e
