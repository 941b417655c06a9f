-- What stands before an expression: values that are bound, and values that are dropped.
use Rattle.std.specs.Prelude.{◌≡◌, ℕ, List, Option, Some, None}
use Rattle.sch_word.specs.trees.Walk.{onto}
use Rattle.sch_control.specs.Tree as to
use Rattle.sch_control.specs.Tree.{Expression}
use Rattle.sch_control.specs.View.{expression}
use Rattle.sch_anf.specs.declared.steps.Step.{Step}

abbrev pub step_before : Option ℕ → (value body : Expression) → Expression
step_before (Some x) value body = to.bind x value body
step_before None value body = to.sequence value body

abbrev pub before : Step → Expression → Expression
before s body = step_before s.variable (expression s.value.value) body

-- an expression after some steps, of which the first is the outermost
abbrev pub after : List Step → Expression → Expression
after steps body = onto before steps body

-- there are more steps than before, which put what they do round what follows
abbrev pub Adds : (old new : List Step) → (Expression → Expression) → Type 0
Adds old new round = (body : Expression) → after new body ≡ after old (round body)
