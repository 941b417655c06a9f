-- A put: one piece of bytes is written until nothing is left of it, against a kernel's answers.
use Rattle.std.specs.Prelude.{ℕ, zero, suc, List, [], ◌∷◌, ◌++◌, Bool, true, false, take, drop}
use Rattle.sch_word.specs.declared.answer.Answer.{Answer}
use Rattle.sch_word.specs.declared.answer.Answer.TheVariants.{Took, Failed}

-- What a put did: the bytes that were taken, the answers that are left, and whether all was taken.
pub record Put : Type 0 where
  pub taken : List ℕ
  pub left : List Answer
  pub whole : Bool

abbrev pub after : List ℕ → Put → Put
after front rest = record { taken = front ++ rest.taken; left = rest.left; whole = rest.whole }

-- Each write offers the kernel all that is left of the piece and uses one answer. `Took k` takes the
-- smaller of k and the rest; `Took 0` and `Failed` end the put. Past the last answer the whole rest
-- is taken. An empty piece makes no write.
abbrev pub put : List ℕ → List Answer → Put
put [] answers = record { taken = []; left = answers; whole = true }
put (b ∷ bs) [] = record { taken = b ∷ bs; left = []; whole = true }
put (b ∷ bs) (Failed ∷ answers) = record { taken = []; left = answers; whole = false }
put (b ∷ bs) (Took zero ∷ answers) = record { taken = []; left = answers; whole = false }
put (b ∷ bs) (Took (suc k) ∷ answers) = after (take (suc k) (b ∷ bs)) (put (drop (suc k) (b ∷ bs)) answers)
