-- What an outlet answers to one write, and what it has then taken.
use Rattle.std.specs.Prelude.{◌≡◌, ◌<◌, ◌≤◌, ℕ, List, [], ◌∷◌, min, take}
use Rattle.sch_word.specs.declared.answer.Answer.{Answer}
use Rattle.sch_word.specs.declared.answer.Answer.TheVariants.{Took, Failed}

-- no more was taken than was offered
abbrev pub IsWithin : Answer → ℕ → Type 0
IsWithin (Took k) offered = k ≤ offered
IsWithin Failed offered = Unit {0}

-- nothing was taken of a piece that is not empty, or the write failed
abbrev pub IsRefusal : Answer → ℕ → Type 0
IsRefusal (Took k) offered = (k ≡ 0) × (0 < offered)
IsRefusal Failed offered = Unit {0}

-- the bytes of the piece that the answer says were taken
abbrev pub taken : Answer → List ℕ → List ℕ
taken (Took k) piece = take k piece
taken Failed piece = []

-- an answer that was held ready, as it is given to a piece of `offered` bytes
abbrev pub cut : Answer → ℕ → Answer
cut (Took k) offered = Took (min k offered)
cut Failed offered = Failed

-- The first answer that is held ready is given and used up; past the last one the whole piece is taken.
abbrev pub AnswersNext : ℕ → Answer → List Answer → List Answer → Type 0
AnswersNext offered given [] after = (given ≡ Took offered) × (after ≡ [])
AnswersNext offered given (first ∷ rest) after = (given ≡ cut first offered) × (after ≡ rest)
