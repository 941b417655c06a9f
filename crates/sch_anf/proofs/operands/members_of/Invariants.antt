use Rattle.std.proofs.Common.{◌≡◌, ◌++◌, ◌+◌, drop, map, length}
use Rattle.sch_flat.specs.View.{made}
use Rattle.sch_anf_laws.specs.LabelsFit.{LabelsOfMade}
use Rattle.sch_anf_laws.specs.Normal.{members_of}
use Rattle.sch_anf.specs.ScopeTable.{scope_of}
use Rattle.sch_anf.proofs.operands.members_of.Given as goal

abbrev pub invariant-loop-m : goal.invariant-loop-m
invariant-loop-m l = record {
  members : l.all ++ members_of l.starts (scope_of l.v.bound.items) (map made (drop l.m-index l.m-items)) l.at ≡ members_of l.starts (scope_of l.v.bound.items) (map made l.m-items) l.first;
  labels : LabelsOfMade (length l.starts) (map made (drop l.m-index l.m-items));
  at : l.at ≡ l.first + l.m-index;
}
