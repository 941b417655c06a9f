use Rattle.std.proofs.Common.{◌≡◌, ◌++◌, drop, map}
use Rattle.sch_anf_laws.specs.Normal.{new_label}
use Rattle.sch_anf.proofs.operands.new_labels.Given as goal

abbrev pub invariant-loop-label : goal.invariant-loop-label
invariant-loop-label l = record { made : l.all ++ map (new_label l.starts) (drop l.label-index l.labels) ≡ map (new_label l.starts) l.labels }
