-- The words of literals whose objects lie one behind the other from a unit on.
use Rattle.std.specs.Prelude.{◌≡◌, ℕ, suc, ◌+◌, ◌*◌, ◌/◌, List, [], ◌∷◌, ◌++◌, length}
use Rattle.sch_word.specs.values.Values.{constant_value}
use Rattle.sch_word.specs.values.Literals.{Literal, Literals, constant, text, list, elements, no_literals, and_literal, literals, count_literals}
use Rattle.sch_select_memory.specs.Encoded.{pair_tag, vector_tag, string_tag}
use Rattle.sch_select_memory.specs.Parts.{Parts}
use Rattle.sch_select_data.specs.ObjectWords.{value_word, vector_contents, string_contents}

-- how many units of 16 bytes the objects of a literal take
abbrev mutual
  pub units_in : Literal → ℕ
  units_in (constant c) = 0
  units_in (text bytes) = 1 + (length bytes + 7) / 16
  units_in (list ls tail) = count_literals ls + (units_in_each ls + units_in tail)
  units_in (elements ls) = 1 + count_literals ls / 2 + units_in_each ls

  pub units_in_each : Literals → ℕ
  units_in_each no_literals = 0
  units_in_each (and_literal l ls) = units_in l + units_in_each ls

-- how many units the objects of a literal take, without those of its parts
abbrev pub own_units : Literal → ℕ
own_units (constant c) = 0
own_units (text bytes) = 1 + (length bytes + 7) / 16
own_units (list ls tail) = count_literals ls
own_units (elements ls) = 1 + count_literals ls / 2

-- the parts of no objects
abbrev pub no_parts : Parts
no_parts = record { first = 0; list = []; symbols = 0 }

-- the word of a literal whose objects lie from a unit on
abbrev pub placed_value : Literal → (unit : ℕ) → ℕ
placed_value (constant c) unit = value_word no_parts (constant_value c)
placed_value (text bytes) unit = 16 * unit + string_tag
placed_value (list no_literals tail) unit = placed_value tail unit
placed_value (list (and_literal l ls) tail) unit = 16 * unit + pair_tag
placed_value (elements ls) unit = 16 * unit + vector_tag

abbrev pub placed_values : Literals → (unit : ℕ) → List ℕ
placed_values no_literals unit = []
placed_values (and_literal l ls) unit = placed_value l unit ∷ placed_values ls (unit + units_in l)

-- the word of a list from a unit on: that of its first pair, or of its end
abbrev pub list_word : (unit : ℕ) → List ℕ → (last : ℕ) → ℕ
list_word unit [] last = last
list_word unit (v ∷ vs) last = 16 * unit + pair_tag

-- the words of its pairs, from those of its elements and of its end
abbrev pub linked_words : (unit : ℕ) → List ℕ → (last : ℕ) → List ℕ
linked_words unit [] last = []
linked_words unit (v ∷ vs) last = v ∷ (list_word (suc unit) vs last ∷ linked_words (suc unit) vs last)

-- the words of the objects of a literal
abbrev mutual
  pub placed_words : Literal → (unit : ℕ) → List ℕ
  placed_words (constant c) unit = []
  placed_words (text bytes) unit = string_contents bytes
  placed_words (list ls tail) unit =
      let inner = unit + count_literals ls in
      let behind = inner + units_in_each ls in
      linked_words unit (placed_values ls inner) (placed_value tail behind) ++ (placed_each ls inner ++ placed_words tail behind)
  placed_words (elements ls) unit =
      let inner = unit + (1 + count_literals ls / 2) in
      vector_contents (placed_values ls inner) ++ placed_each ls inner

  pub placed_each : Literals → (unit : ℕ) → List ℕ
  placed_each no_literals unit = []
  placed_each (and_literal l ls) unit = placed_words l unit ++ placed_each ls (unit + units_in l)

-- the words of the objects of literals, which begin at a unit and end at another, and the words of the literals
pub record ArePlaced (ls : List Literal) (unit end : ℕ) (words values : List ℕ) : Type 0 where
  pub ends : unit + units_in_each (literals ls) ≡ end
  pub words_are : words ≡ placed_each (literals ls) unit
  pub values_are : values ≡ placed_values (literals ls) unit
