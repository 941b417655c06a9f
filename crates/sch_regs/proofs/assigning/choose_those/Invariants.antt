use Rattle.std.proofs.Common.{◌≡◌, ◌*◌, ℕ, drop, true}
use Rattle.std.specs.Prelude.{filter, nat_lt}
use Rattle.std.specs.FinSet as set
use Rattle.std.specs.List.{list_all}
use Rattle.sch_control.specs.Valid.{member_variables}
use Rattle.sch_regs.specs.PlaceChoice.{Table, choose_each}
use Rattle.sch_regs.specs.Shows.{Shows, is_wanted}
use Rattle.sch_regs.proofs.assigning.choose_those.Given as goal

abbrev pub invariant-loop-m : goal.invariant-loop-m
invariant-loop-m g l =
    record {
      shown : (count : ℕ) (t : Table) → Shows count l.initial.placing t
          → (u : Table) × (Shows count l.placing u
          × (choose_each (set.contains l.live) (filter (is_wanted (set.contains l.live) l.wanted) (member_variables (drop l.m-index l.members))) u
          ≡ choose_each (set.contains l.live) (filter (is_wanted (set.contains l.live) l.wanted) (member_variables l.members)) t));
      below : list_all (λ x. nat_lt x (64 * g.row.N)) (member_variables (drop l.m-index l.members)) ≡ true;
    }
