-- What a call hands over to the procedure that it enters (R5RS 4.1.3).
use Rattle.std.specs.Prelude.{Bool, true, false, List}
use Rattle.sch_word.specs.values.Values.{Value, Object}
use Rattle.sch_word.specs.values.Checked.{Checked, passes, unreachable}

-- The arguments, from the values of the operands without the operator: the values themselves. A call
-- with `spread` hands over the items of a list in the objects, which is its last operand's value, in
-- place of that value (R5RS 6.4, `apply`); the core language has no such call so far.
abbrev pub handed : List Value → (spread : Bool) → List Object → Checked (List Value)
handed values false objects = passes values
handed values true objects = unreachable
