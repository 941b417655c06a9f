-- The bytes of characters and the texts of constants, which are in the data of every program.
use Rattle.std.specs.Prelude.{ℕ, List, ◌++◌, codes}
use Rattle.sch_word.specs.trees.Bindings.{numbers}

abbrev pub all_texts : List ℕ
all_texts = codes "#t#f()#<unspecified>#<procedure>"

-- all bytes, of which a character is one, and the texts
abbrev pub static_bytes : List ℕ
static_bytes = numbers 0 256 ++ all_texts
