-- What may be there, and what comes of it.
use Rattle.std.specs.Prelude.{ℕ, Bool, false, List, [], ◌∷◌, Option, Some, None, Result, Ok, Err}

-- what is made of it, if it is there
abbrev pub when_some : {A B : Type 0} → Option A → (A → Option B) → Option B
when_some None next = None
when_some (Some a) next = next a

-- what is made of an answer, if it is no error
abbrev pub when_ok : {A B E : Type 0} → Result A E → (A → Result B E) → Result B E
when_ok (Ok a) next = next a
when_ok (Err e) next = Err e

-- whether it is there and says so
abbrev pub or_false : Option Bool → Bool
or_false (Some b) = b
or_false None = false

-- all but the first, where there is one
abbrev pub rest_of : {A : Type 0} → List A → List A
rest_of [] = []
rest_of (x ∷ xs) = xs

-- the first of some numbers, or 0 where there is none
abbrev pub first_or_0 : List ℕ → ℕ
first_or_0 [] = 0
first_or_0 (x ∷ xs) = x
