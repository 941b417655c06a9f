-- The literals of a draft (R5RS 4.1.2): each quotation and each string is an object of its own.
use Rattle.std.specs.Prelude.{◌≡◌, ℕ, List, [], ◌∷◌, ◌++◌, map}
use Rattle.sch_word.specs.declared.constant.Const.TheVariants.{Fixnum, Character, Boolean, Nil, Symbol}
use Rattle.sch_word.specs.values.Literals as words
use Rattle.sch_word.specs.values.Literals.{Literal, Literals, no_literals, and_literal, elements}
use Rattle.sch_read.specs.Grammar.{Atom, boolean, integer, character, text, symbol as symbol_atom, Datum, Data, atom, list, dotted, vector, none, cons}
use Rattle.sch_read.specs.DatumParts.{parts}
use Rattle.sch_names.specs.NamesView.{number_of}
use Rattle.sch_sketch.specs.Draft.{Draft, Drafts, literal}
use Rattle.sch_sketch.specs.DraftMeasures.{over, over_each}

abbrev pub list_of : Literals → Literal
list_of no_literals = words.constant Nil
list_of (and_literal l ls) = words.list (and_literal l ls) (words.constant Nil)

-- what a datum is as a literal, where the symbols have their numbers
module _ (symbols : List (List ℕ)) where
  abbrev pub literal_of_atom : Atom → Literal
  literal_of_atom (boolean b) = words.constant (Boolean b)
  literal_of_atom (integer z) = words.constant (Fixnum z)
  literal_of_atom (character c) = words.constant (Character c)
  literal_of_atom (text bs) = words.text bs
  literal_of_atom (symbol_atom x) = words.constant (Symbol (number_of x symbols))

  abbrev mutual
    pub literal_of : Datum → Literal
    literal_of (atom at a) = literal_of_atom a
    literal_of (list at xs) = list_of (literals_of_data xs)
    literal_of (dotted at xs x) = words.list (literals_of_data xs) (literal_of x)
    literal_of (vector at xs) = elements (literals_of_data xs)

    pub literals_of_data : Data → Literals
    literals_of_data none = no_literals
    literals_of_data (cons x xs) = and_literal (literal_of x) (literals_of_data xs)

  abbrev pub literals_of_parts : Datum → List Literal
  literals_of_parts d = map literal_of (parts d)

  -- the literals of a datum's parts come first
  abbrev pub ArePartsReady : Datum → List Literal → Type 0
  ArePartsReady d ls = (others : List Literal) × (ls ≡ literals_of_parts d ++ others)

-- the datum that a node quotes
abbrev pub quote_here : Draft → List Datum
quote_here (literal d) = d ∷ []
quote_here _ = []

-- the data that a draft quotes, in the order of the text
abbrev pub quotes_in : Draft → List Datum
quotes_in = over [] (λ a b. a ++ b) quote_here

abbrev pub quotes_in_each : Drafts → List Datum
quotes_in_each = over_each [] (λ a b. a ++ b) quote_here
