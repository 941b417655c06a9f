use Rattle.std.proofs.Common.{◌≡◌, take}
use Rattle.sch_control.proofs.copies.copy_members.Given as goal

abbrev pub invariant-loop-m : goal.invariant-loop-m
invariant-loop-m l = l.all ≡ take l.m-index l.m-items
