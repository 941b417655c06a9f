use Rattle.std.proofs.Common.{◌≡◌, ◌++◌, ◌*◌, drop, true}
use Rattle.std.specs.Prelude.{filter, not, nat_lt}
use Rattle.std.specs.List.{list_all}
use Rattle.std.specs.FinSet as set
use Rattle.sch_saves.proofs.outermost.others.Given as goal

abbrev pub invariant-loop-x : goal.invariant-loop-x
invariant-loop-x g l =
    record {
      rest : l.ys ++ filter (λ y. not (set.contains l.s y)) (drop l.x-index l.xs) ≡ filter (λ y. not (set.contains l.s y)) l.xs;
      below : list_all (λ x. nat_lt x (64 * g.row.N)) (drop l.x-index l.xs) ≡ true;
    }
