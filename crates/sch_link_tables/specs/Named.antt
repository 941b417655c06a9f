-- The globals and the symbols that a draft names, in the order of the text.
use Rattle.std.specs.Prelude.{ℕ, cond, List, [], ◌∷◌, ◌++◌}
use Rattle.sch_read.specs.Grammar.{Atom, symbol as symbol_atom, Datum, Data, atom, list, dotted, vector, none, cons}
use Rattle.sch_names.specs.NamesView.{with_name}
use Rattle.sch_names.specs.Scope.{is_among}
use Rattle.sch_sketch.specs.Draft.{Draft, Drafts, symbol, literal, global, set_global, define}
use Rattle.sch_sketch.specs.DraftMeasures.{over, over_each}

-- names, each once, behind those seen before
abbrev pub firsts : (seen : List (List ℕ)) → List (List ℕ) → List (List ℕ)
firsts seen [] = seen
firsts seen (x ∷ xs) = firsts (with_name x seen) xs

-- A global is known by its name behind a mark, since one of the user's text and one of the library may
-- have one spelling.
abbrev pub own_global : List ℕ → List ℕ
own_global x = 0 ∷ x

abbrev pub library_global : List ℕ → List ℕ
library_global x = 1 ∷ x

-- the global that a name means in a text that has these of its own
abbrev pub global_of : (own : List (List ℕ)) → List ℕ → List ℕ
global_of own x = cond (is_among x own) (own_global x) (library_global x)

-- the global of a node in such a text
abbrev pub global_here : (own : List (List ℕ)) → Draft → List (List ℕ)
global_here own (global x) = global_of own x ∷ []
global_here own (set_global x e) = global_of own x ∷ []
global_here own (define x e) = global_of own x ∷ []
global_here own _ = []

abbrev pub globals_in : (own : List (List ℕ)) → Draft → List (List ℕ)
globals_in own = over [] (λ a b. a ++ b) (global_here own)

abbrev pub globals_in_each : (own : List (List ℕ)) → Drafts → List (List ℕ)
globals_in_each own = over_each [] (λ a b. a ++ b) (global_here own)

abbrev pub symbols_of_atom : Atom → List (List ℕ)
symbols_of_atom (symbol_atom x) = x ∷ []
symbols_of_atom _ = []

-- the symbol that a datum is itself, if it is one
abbrev pub symbols_at : Datum → List (List ℕ)
symbols_at (atom at a) = symbols_of_atom a
symbols_at _ = []

abbrev mutual
  pub symbols_of_datum : Datum → List (List ℕ)
  symbols_of_datum (atom at a) = symbols_of_atom a
  symbols_of_datum (list at xs) = symbols_of_data xs
  symbols_of_datum (dotted at xs x) = symbols_of_data xs ++ symbols_of_datum x
  symbols_of_datum (vector at xs) = symbols_of_data xs

  pub symbols_of_data : Data → List (List ℕ)
  symbols_of_data none = []
  symbols_of_data (cons x xs) = symbols_of_datum x ++ symbols_of_data xs

-- the symbols of a node
abbrev pub symbols_here : Draft → List (List ℕ)
symbols_here (symbol x) = x ∷ []
symbols_here (literal d) = symbols_of_datum d
symbols_here _ = []

abbrev pub symbols_in : Draft → List (List ℕ)
symbols_in = over [] (λ a b. a ++ b) symbols_here

abbrev pub symbols_in_each : Drafts → List (List ℕ)
symbols_in_each = over_each [] (λ a b. a ++ b) symbols_here
