-- Literals as plain data, and the objects that they are when a run starts (R5RS 4.1.2).
use Rattle.std.specs.Prelude.{ℕ, suc, ◌+◌, Bool, true, ◌&&◌, nat_lt, List, [], ◌∷◌, ◌++◌, length}
use Rattle.sch_word.specs.declared.constant.Const.{Const}
use Rattle.sch_word.specs.declared.constant.Const.TheVariants.{Symbol}
use Rattle.sch_word.specs.values.Values.{Value, object, constant_value, is_constant, are_bytes, Object, vector, string}
use Rattle.sch_word.specs.runs.Charges.{linked}

mutual
  pub data Literal : Type 0 where
    constant : Const → Literal
    text : List ℕ → Literal
    list : Literals → (tail : Literal) → Literal
    elements : Literals → Literal

  pub data Literals : Type 0 where
    no_literals : Literals
    and_literal : Literal → Literals → Literals

-- a list of literals, as a literal has it
abbrev pub literals : List Literal → Literals
literals [] = no_literals
literals (l ∷ ls) = and_literal l (literals ls)

abbrev pub count_literals : Literals → ℕ
count_literals no_literals = 0
count_literals (and_literal l ls) = suc (count_literals ls)

-- how many objects a literal is
abbrev mutual
  pub objects_in : Literal → ℕ
  objects_in (constant c) = 0
  objects_in (text bytes) = 1
  objects_in (list ls tail) = count_literals ls + (objects_in_each ls + objects_in tail)
  objects_in (elements ls) = suc (objects_in_each ls)

  pub objects_in_each : Literals → ℕ
  objects_in_each no_literals = 0
  objects_in_each (and_literal l ls) = objects_in l + objects_in_each ls

-- the value of a literal whose objects have the numbers from n on
abbrev pub literal_value : Literal → ℕ → Value
literal_value (constant c) n = constant_value c
literal_value (text bytes) n = object n
literal_value (list no_literals tail) n = literal_value tail n
literal_value (list (and_literal l ls) tail) n = object n
literal_value (elements ls) n = object n

-- the values of literals whose objects follow one another from n on
abbrev pub literal_values : Literals → ℕ → List Value
literal_values no_literals n = []
literal_values (and_literal l ls) n = literal_value l n ∷ literal_values ls (n + objects_in l)

-- The objects of a literal from the number n on: first its own, which for a list are its pairs, then
-- those of its elements in order, then those of what stands behind them.
abbrev mutual
  pub literal_objects : Literal → ℕ → List Object
  literal_objects (constant c) n = []
  literal_objects (text bytes) n = string bytes ∷ []
  literal_objects (list ls tail) n =
      let inner = n + count_literals ls in
      let behind = inner + objects_in_each ls in
      linked n (literal_values ls inner) (literal_value tail behind) ++ (objects_of_each ls inner ++ literal_objects tail behind)
  literal_objects (elements ls) n = vector (literal_values ls (suc n)) ∷ objects_of_each ls (suc n)

  pub objects_of_each : Literals → ℕ → List Object
  objects_of_each no_literals n = []
  objects_of_each (and_literal l ls) n = literal_objects l n ++ objects_of_each ls (n + objects_in l)

-- the nodes and bytes of literals
abbrev mutual
  pub literal_size : Literal → ℕ
  literal_size (constant c) = 1
  literal_size (text bytes) = 1 + length bytes
  literal_size (list ls tail) = 1 + (literals_size ls + literal_size tail)
  literal_size (elements ls) = 1 + literals_size ls

  pub literals_size : Literals → ℕ
  literals_size no_literals = 0
  literals_size (and_literal l ls) = literal_size l + literals_size ls

-- whether the symbols of a constant and of literals are among n symbols
abbrev pub constant_known : ℕ → Const → Bool
constant_known symbols (Symbol n) = nat_lt n symbols
constant_known symbols _ = true

abbrev mutual
  pub literal_known : ℕ → Literal → Bool
  literal_known symbols (constant c) = constant_known symbols c
  literal_known symbols (text bytes) = true
  literal_known symbols (list ls tail) = literals_known symbols ls && literal_known symbols tail
  literal_known symbols (elements ls) = literals_known symbols ls

  pub literals_known : ℕ → Literals → Bool
  literals_known symbols no_literals = true
  literals_known symbols (and_literal l ls) = literal_known symbols l && literals_known symbols ls

-- whether the constants of literals are words and their texts bytes
abbrev mutual
  pub literal_in_range : Literal → Bool
  literal_in_range (constant c) = is_constant c
  literal_in_range (text bytes) = are_bytes bytes
  literal_in_range (list ls tail) = literals_in_range ls && literal_in_range tail
  literal_in_range (elements ls) = literals_in_range ls

  pub literals_in_range : Literals → Bool
  literals_in_range no_literals = true
  literals_in_range (and_literal l ls) = literal_in_range l && literals_in_range ls
