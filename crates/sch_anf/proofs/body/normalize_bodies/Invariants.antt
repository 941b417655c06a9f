use Rattle.std.proofs.Common.{◌≡◌, ◌++◌, [], true, length, map, drop}
use Rattle.std.specs.List.{list_all}
use Rattle.sch_flat.specs.Valid.{ascending}
use Rattle.sch_flat.specs.View.{body, trees_of}
use Rattle.sch_control.specs.SourceView.{codes_of}
use Rattle.sch_control.specs.Valid.{code_valid}
use Rattle.sch_anf_laws.specs.LabelsFit.{LabelsFitEach, LabelsOfBodies}
use Rattle.sch_anf_laws.specs.Normal.{normal_bodies}
use Rattle.sch_anf_laws.proofs.Items.{left}
use Rattle.sch_anf.proofs.body.normalize_bodies.Given as goal

abbrev pub invariant-loop-i : goal.invariant-loop-i
invariant-loop-i l = record {
  made : codes_of l.all ++ normal_bodies l.starts l.before (map body (drop l.before l.bodies)) (left (drop l.i l.items)) (drop l.i l.starts)
      ≡ normal_bodies l.starts 0 (map body l.bodies) (trees_of l.items) l.starts;
  valid : list_all code_valid (normal_bodies l.starts l.before (map body (drop l.before l.bodies)) (left (drop l.i l.items)) (drop l.i l.starts)) ≡ true;
  ascends : ascending l.before (length l.bodies) (drop l.i l.starts) ≡ true;
  bodies_fit : LabelsOfBodies (length l.starts) (map body (drop l.before l.bodies));
  forms_fit : LabelsFitEach (length l.starts) (left (drop l.i l.items));
  none : l.v.bound.items ≡ [];
  places : length l.starts ≡ length l.items;
}
