-- What a loop over a list has made, and then what is left to be made.
use Rattle.std.specs.Prelude.{List, [], ◌∷◌}

-- these, each put in front of what follows
abbrev pub onto : {B Q : Type 0} → (B → Q → Q) → List B → Q → Q
onto cons [] rest = rest
onto cons (b ∷ bs) rest = cons b (onto cons bs rest)
