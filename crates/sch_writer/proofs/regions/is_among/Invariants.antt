use Rattle.std.proofs.Common.{◌≡◌, drop}
use Rattle.sch_control.specs.Meaning.{among}
use Rattle.sch_writer.proofs.regions.is_among.Given as goal

abbrev pub invariant-loop-m : goal.invariant-loop-m
invariant-loop-m l = record { left : among l.x (drop l.m-index l.members) ≡ among l.x l.members }
