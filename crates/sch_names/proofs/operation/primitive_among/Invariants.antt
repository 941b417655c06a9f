use Rattle.std.proofs.Common.{◌≡◌, drop, map}
use Rattle.sch_names.specs.Operations.{primitive_among, named_of}
use Rattle.sch_names.proofs.operation.primitive_among.Given as goal

abbrev pub invariant-loop-primitive : goal.invariant-loop-primitive
invariant-loop-primitive l = primitive_among l.internal l.x (map named_of (drop l.primitive-index l.rows)) ≡ primitive_among l.internal l.x (map named_of l.rows)
