-- What can follow a part of a lexeme, by the code's stages.
use Rattle.std.specs.Prelude.{◌≡◌, ◌++◌, ℕ, Bool, true, false, List, [], ◌∷◌, Option, Some, None}
use Rattle.std.specs.List.{list_all}
use Rattle.sch_read.specs.Lexer.Letters.{is_word_byte}
use Rattle.sch_read.specs.Lexer.Lexeme.{is_empty, is_string_rest, is_escape_rest, is_character_rest, is_hash_rest, is_comment_rest, is_lexeme}
use Rattle.sch_read.specs.declared.lexeme.Stage.{Stage}
use Rattle.sch_read.specs.declared.lexeme.Stage.TheVariants.{Start, Done, Comment, Text, Escape, Hash, Backslash, Word}

abbrev pub can_follow : Stage → List ℕ → Bool
can_follow Start bs = is_lexeme bs
can_follow Done bs = is_empty bs
can_follow Comment bs = is_comment_rest bs
can_follow Text bs = is_string_rest bs
can_follow Escape bs = is_escape_rest bs
can_follow Hash bs = is_hash_rest bs
can_follow Backslash bs = is_character_rest bs
can_follow Word bs = list_all is_word_byte bs

-- a byte leads to the next stage, or cannot follow
abbrev pub GoesOn : Stage → ℕ → Option Stage → Type 0
GoesOn before b None = (bs : List ℕ) → can_follow before (b ∷ bs) ≡ false
GoesOn before b (Some after) = ((bs : List ℕ) → can_follow before (b ∷ bs) ≡ can_follow after bs) × (can_follow after [] ≡ true)

-- the part of a lexeme that was met is at the stage
abbrev pub IsAtStage : Stage → List ℕ → Type 0
IsAtStage stage part = (bs : List ℕ) → is_lexeme (part ++ bs) ≡ can_follow stage bs
