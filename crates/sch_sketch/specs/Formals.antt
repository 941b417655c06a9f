-- The formals of procedures (R5RS 4.1.4): a list of names, with one more after a dot for a list of what is
-- left, or that one alone.
use Rattle.std.specs.Prelude.{Bool, true, false, ◌&&◌, [], ◌∷◌, ◌++◌, Option, Some, None}
use Rattle.sch_read.specs.Grammar.{Datum, Data, atom, list, dotted, none, cons, symbol}
use Rattle.sch_names.specs.Scope.{VariableNames}
use Rattle.sch_sketch.specs.Distinct.{are_distinct}

-- what stands in a list, and after its dot; of what is no list, that alone
abbrev pub listed : Datum → Data
listed (list q fs) = fs
listed (dotted q fs f) = fs
listed d = none

abbrev pub tail_of : Datum → Option Datum
tail_of (list q fs) = None
tail_of (dotted q fs f) = Some f
tail_of d = Some d

abbrev pub is_symbol : Datum → Bool
is_symbol (atom q (symbol x)) = true
is_symbol _ = false

abbrev pub are_symbols : Data → Bool
are_symbols none = true
are_symbols (cons (atom q (symbol x)) xs) = are_symbols xs
are_symbols _ = false

abbrev pub symbols : Data → VariableNames
symbols (cons (atom q (symbol x)) xs) = Some x ∷ symbols xs
symbols _ = []

-- the one after the dot
abbrev pub is_rest : Option Datum → Bool
is_rest None = true
is_rest (Some f) = is_symbol f

abbrev pub rest_symbol : Option Datum → VariableNames
rest_symbol (Some (atom q (symbol x))) = Some x ∷ []
rest_symbol _ = []

abbrev pub formals : Data → Option Datum → VariableNames
formals fs f = symbols fs ++ rest_symbol f

abbrev pub are_names : Data → Option Datum → Bool
are_names fs f = are_symbols fs && is_rest f

abbrev pub are_formals : Data → Option Datum → Bool
are_formals fs f = are_names fs f && are_distinct (formals fs f)
