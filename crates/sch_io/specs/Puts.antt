-- A put to an outlet, by the answers that it met.
use Rattle.std.specs.Prelude.{◌≡◌, ◌++◌, ℕ, List, Bool, Option}
use Rattle.sch_word.specs.declared.answer.Answer.{Answer}
use Rattle.sch_word.specs.values.Put.{put}
use Rattle.sch_io.specs.Told.{Tells}

-- An outlet that told these bytes and answers before, and tells these after, has met the put of the
-- piece against the answers, and all was taken as `whole` says. The answers are those that it held
-- ready, where it tells them.
pub record Puts (piece : List ℕ) (answers : List Answer) (bytes bytes' : Option (List ℕ)) (left left' : Option (List Answer)) (whole : Bool) : Type 0 where
  pub adds : Tells bytes bytes' (λ before after. after ≡ before ++ (put piece answers).taken)
  pub uses : Tells left left' (λ before after. (answers ≡ before) × (after ≡ (put piece answers).left))
  pub ends : whole ≡ (put piece answers).whole

-- The outlet has met a put of the piece, against some answers.
abbrev pub HasPut : List ℕ → Option (List ℕ) → Option (List ℕ) → Option (List Answer) → Option (List Answer) → Bool → Type 0
HasPut piece bytes bytes' left left' whole = (answers : List Answer) × Puts piece answers bytes bytes' left left' whole
