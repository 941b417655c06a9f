use Rattle.std.proofs.Common.{◌≡◌, ◌*◌, true, drop}
use Rattle.std.specs.Prelude.{◌&&◌, not, nat_lt}
use Rattle.std.specs.FinSet as set
use Rattle.std.specs.List.{list_all}
use Rattle.sch_word.specs.trees.NumberSets.{has}
use Rattle.sch_control.specs.Valid.{member_variables}
use Rattle.sch_control.proofs.ReadSteps.{OutLeft}
use Rattle.sch_control.proofs.reads.remove_members.Given as goal

abbrev pub invariant-loop-m : goal.invariant-loop-m
invariant-loop-m g l =
    record {
      left : OutLeft (drop l.m-index l.members) l.live (λ x. not (has x (member_variables l.members)) && set.contains l.initial.live x);
      below : list_all (λ x. nat_lt x (64 * g.row.N)) (member_variables (drop l.m-index l.members)) ≡ true;
    }
