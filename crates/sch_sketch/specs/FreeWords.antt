-- Keywords where they stand (R5RS 4.3: a variable of the same name shadows one).
use Rattle.std.specs.Prelude.{ℕ, Bool, true, false, List, Option, Some, None}
use Rattle.sch_read.specs.Grammar.{Datum, atom, list, cons, symbol}
use Rattle.sch_names.specs.declared.keyword.Keyword.{Keyword}
use Rattle.sch_names.specs.declared.keyword.Keyword.TheVariants.{Lambda}
use Rattle.sch_names.specs.Words.{keyword_of}
use Rattle.sch_names.specs.Scope.{Scope, find}

abbrev pub unless_bound : Option ℕ → Option Keyword → Option Keyword
unless_bound None w = w
unless_bound (Some k) w = None

-- the keyword that a name or a datum is, where no variable shadows it
abbrev pub free_keyword : Scope → List ℕ → Option Keyword
free_keyword s x = unless_bound (find s x) (keyword_of x)

abbrev pub free_word : Scope → Datum → Option Keyword
free_word s (atom q (symbol x)) = free_keyword s x
free_word s d = None

abbrev pub is_lambda_word : Option Keyword → Bool
is_lambda_word (Some Lambda) = true
is_lambda_word _ = false

-- whether a datum is a procedure by its form
abbrev pub is_lambda : Scope → Datum → Bool
is_lambda s (list at (cons (atom q (symbol x)) xs)) = is_lambda_word (free_keyword s x)
is_lambda s d = false
