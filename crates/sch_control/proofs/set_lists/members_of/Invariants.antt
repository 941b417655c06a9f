use Rattle.std.proofs.Common.{◌≡◌, ◌++◌, ◌-◌}
use Rattle.std.specs.Prelude.{filter}
use Rattle.std.specs.FinSet as set
use Rattle.sch_word.specs.trees.Bindings.{numbers}
use Rattle.sch_control.proofs.set_lists.members_of.Given as goal

abbrev pub decreases-members : goal.decreases-members
decreases-members g l = l.count - l.from

abbrev pub invariant-members : goal.invariant-members
invariant-members g l =
    record { rest : l.xs ++ filter (set.contains l.s) (numbers l.from (l.count - l.from)) ≡ filter (set.contains l.s) (numbers 0 l.count) }
