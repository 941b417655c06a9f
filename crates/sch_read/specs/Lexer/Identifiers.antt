-- Identifiers (R5RS 2.1 and 7.1.1).
use Rattle.std.specs.Prelude.{◌||◌, ◌&&◌, ℕ, Bool, false, List, [], ◌∷◌, codes}
use Rattle.std.specs.List.{list_all}
use Rattle.std.specs.Str.{bytes_eq}
use Rattle.sch_read.specs.Lexer.Letters.{is_initial, is_subsequent}

abbrev pub is_identifier : List ℕ → Bool
is_identifier [] = false
is_identifier (b ∷ bs) = (is_initial b && list_all is_subsequent bs)
    || (bytes_eq (b ∷ bs) (codes "+") || (bytes_eq (b ∷ bs) (codes "-") || bytes_eq (b ∷ bs) (codes "...")))
