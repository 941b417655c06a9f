-- What holds of an answer that is Ok.
use Rattle.std.proofs.Common.{Result, Ok, Err}
use Rattle.std.specs.Prelude.{IfOk}

-- what follows from a property of the answer holds too, where there is one
pub if_ok : {V E : Type 0} (r : Result V E) (P Q : V → Type 0) → IfOk r P → ((v : V) → P v → Q v) → IfOk r Q
if_ok (Ok v) P Q h f = f v h
if_ok (Err e) P Q h f = h
