use Rattle.std.proofs.Common.{◌≡◌, ◌++◌, [], true, length, map, drop}
use Rattle.std.specs.List.{list_all}
use Rattle.sch_flat.specs.View.{body}
use Rattle.sch_control.specs.SourceView.{codes_of}
use Rattle.sch_control.specs.Valid.{code_valid}
use Rattle.sch_anf_laws.specs.LabelsFit.{LabelsOfBodies}
use Rattle.sch_anf_laws.specs.Normal.{procedure_code}
use Rattle.sch_anf.proofs.body.add_procedures.Given as goal

abbrev pub invariant-loop-b : goal.invariant-loop-b
invariant-loop-b l = record {
  made : codes_of l.all ++ map (procedure_code l.starts) (map body (drop l.b-index l.bodies)) ≡ codes_of l.initial.all ++ map (procedure_code l.starts) (map body l.bodies);
  valid : list_all code_valid (map (procedure_code l.starts) (map body (drop l.b-index l.bodies))) ≡ true;
  labels : LabelsOfBodies (length l.starts) (map body (drop l.b-index l.bodies));
  none : l.v.bound.items ≡ [];
}
