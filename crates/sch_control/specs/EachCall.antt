-- What is so of each call and tail call of an expression.
use Rattle.std.specs.Prelude.{ℕ, Bool, true, false}
use Rattle.sch_control.specs.declared.operation.Application.{Application}
use Rattle.sch_control.specs.Tree.{Expression, perform, bind, sequence, branch, fix, call, tail_call, return, end, save}

abbrev pub EachCall : ((tail : Bool) → Application ℕ → Type 0) → Expression → Type 0
EachCall P (perform o) = Unit {0}
EachCall P (bind x a b) = EachCall P a × EachCall P b
EachCall P (sequence a b) = EachCall P a × EachCall P b
EachCall P (branch a b c) = EachCall P a × (EachCall P b × EachCall P c)
EachCall P (fix members e) = EachCall P e
EachCall P (call a restores) = P false a
EachCall P (tail_call a) = P true a
EachCall P (return e) = EachCall P e
EachCall P (end e) = EachCall P e
EachCall P (save saves e) = EachCall P e
