-- What a variable or a part of a body adds to the number of variables that the body may have in the languages to come.
use Rattle.std.specs.Prelude.{ℕ, zero, suc, ◌+◌, Bool, true, false}

-- an operator, an operand, a value that is set or defined, or a part of a sequence before its last
abbrev pub one_unless : (counts_nothing : Bool) → ℕ
one_unless true = 0
one_unless false = 1

-- a variable that is bound
abbrev pub twice_if : (assigned : Bool) → ℕ
twice_if true = 2
twice_if false = 1

-- the variables of a Rec, whose number is given
abbrev pub three_each : ℕ → ℕ
three_each zero = 0
three_each (suc bound) = 3 + three_each bound
