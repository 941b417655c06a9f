use Rattle.std.proofs.Common.{◌≡◌, [], replicate}
use Rattle.sch_anf.proofs.sites.nothing_bound.Given as goal

abbrev pub invariant-loop-done : goal.invariant-loop-done
invariant-loop-done l = l.bound.items ≡ replicate l.done []
