use Rattle.std.proofs.Common.{◌≡◌, ◌++◌, drop}
use Rattle.std.specs.Prelude.{filter}
use Rattle.sch_control.specs.Valid.{member_variables}
use Rattle.sch_word.specs.values.Places.{is_slot}
use Rattle.sch_writer.proofs.body_layout.spilled_members.Given as goal

abbrev pub invariant-loop-m : goal.invariant-loop-m
invariant-loop-m g l = record {
  left : l.xs ++ filter (λ x. is_slot ((g.P.VariablePlaces.plan l.places).place x)) (member_variables (drop l.m-index l.members))
      ≡ filter (λ x. is_slot ((g.P.VariablePlaces.plan l.places).place x)) (member_variables l.members);
}
