-- The parts of a literal, and literals of the program's type in the order in which a walk comes to them.
use Rattle.std.specs.Prelude.{◌≡◌, ℕ, ◌+◌, List, [], ◌∷◌, ◌++◌, map, Option, Some, None}
use Rattle.std.specs.Borrow.{Bor}
use Rattle.std.specs.Global.{Box}
use Rattle.sch_word.specs.declared.literal.Lit.{Lit}
use Rattle.sch_word.specs.values.Literals.{Literal, Literals, constant, text, list, elements, no_literals, and_literal, literal_size}
use Rattle.sch_word.specs.values.LiteralView.{literal}

-- literals as a list has them
abbrev pub each_of : Literals → List Literal
each_of no_literals = []
each_of (and_literal l ls) = l ∷ each_of ls

-- what a literal holds, the end of a list last
abbrev pub parts : Literal → List Literal
parts (constant c) = []
parts (text bytes) = []
parts (list ls tail) = each_of ls ++ tail ∷ []
parts (elements ls) = each_of ls

abbrev pub sizes : List Literal → ℕ
sizes [] = 0
sizes (l ∷ ls) = literal_size l + sizes ls

-- ## Those of the program's type

abbrev pub plain : List Lit → List Literal
plain ls = map literal ls

abbrev pub lent_literal : Bor Lit → Literal
lent_literal l = literal l.now

abbrev pub lent : List (Bor Lit) → List Literal
lent ls = map lent_literal ls

-- the size of one that may be there
abbrev pub size_next : Option Lit → ℕ
size_next None = 0
size_next (Some l) = literal_size (literal l)

abbrev pub size_behind : Option (Box Lit) → ℕ
size_behind None = 0
size_behind (Some l) = literal_size (literal l.value)

-- the parts of a literal come first
abbrev pub AreReady : Literal → List Literal → Type 0
AreReady l ls = (others : List Literal) × (ls ≡ parts l ++ others)
