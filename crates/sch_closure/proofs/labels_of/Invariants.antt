use Rattle.std.proofs.Common.{◌≡◌, ◌++◌, drop, map}
use Rattle.sch_flat.specs.View.{made}
use Rattle.sch_closure.proofs.labels_of.Given as goal

abbrev pub invariant-loop-m : goal.invariant-loop-m
invariant-loop-m l = record { made : l.all ++ map (λ m. m.label) (map made (drop l.m-index l.ms)) ≡ map (λ m. m.label) (map made l.ms) }
