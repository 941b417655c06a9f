-- What the processor keeps are facts: there is one proof of each at most.
use Rattle.std.specs.Prelude.{List}
use Rattle.std.proofs.Props.{props}
use Rattle.sch_word.specs.values.Memory.{Segment}
use Rattle.sch_insn.specs.declared.insn.Arg.{Arg}
use Rattle.sch_insn.specs.declared.insn.Insn.{Insn}
use Rattle.sch_insn.specs.Propositions.{IsValid-prop}
use Rattle.sch_step.specs.declared.fetched.Fetched.{Fetched}
use Rattle.sch_step.specs.Fetched.{IsFetched, AreFetched}

Arg-set : IsSet Arg
Arg-set = hlevel props

Insn-set : IsSet Insn
Insn-set = hlevel (props, Arg-set)

IsFetched-prop : (gs : List Segment) (f : Fetched) → IsProp (IsFetched gs f)
IsFetched-prop gs f = hlevel (props, IsValid-prop, Insn-set)

pub AreFetched-prop : (gs : List Segment) (fs : List Fetched) → IsProp (AreFetched gs fs)
AreFetched-prop gs fs = hlevel (props, IsFetched-prop)
