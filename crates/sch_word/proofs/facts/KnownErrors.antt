-- Answers of which it is known what their error is.
use Rattle.std.proofs.Common.{◌≡◌, Result, Ok, Err, ap, sym, subst}
use Rattle.std.specs.Prelude.{IfErr, IsErrAnd}

-- such an answer is this error
pub known_error : {A E : Type 0} (answer : Result A E) (error : E) → IsErrAnd answer (λ e. e ≡ error) → answer ≡ Err error
known_error (Ok x) error h = absurd h
known_error (Err e) error h = ap Err h

-- what holds of the error holds of the answer's
pub kept_error : {A E : Type 0} (answer : Result A E) (error : E) (P : E → Type 0) → IsErrAnd answer (λ e. e ≡ error) → P error → IfErr answer P
kept_error (Ok x) error P h p = absurd h
kept_error (Err e) error P h p = subst P (sym h) p
