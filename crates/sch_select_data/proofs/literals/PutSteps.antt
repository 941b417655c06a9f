-- A literal is put, whose parts came first of those that were put.
use Rattle.std.proofs.Common.{◌≡◌, ◌≤◌, ℕ, suc, ◌+◌, ◌*◌, ◌/◌, List, [], ◌∷◌, ◌++◌, length, take, drop, refl, sym, ap, ◌∙◌, arith, append_assoc, length-append}
use Rattle.std.proofs.Math.Seq.{take-append_seam, drop-append_seam}
use Rattle.sch_word.specs.values.Literals.{Literal, Literals, list, elements, no_literals, and_literal, literals, count_literals}
use Rattle.sch_word.specs.values.LiteralParts.{each_of}
use Rattle.sch_word.proofs.facts.Lists.{head_same, tail_same, cons_same, append_same}
use Rattle.sch_select_memory.specs.Encoded.{vector_tag}
use Rattle.sch_select_data.specs.ObjectWords.{vector_contents}
use Rattle.sch_select_data.specs.PlacedWords.{units_in, units_in_each, placed_value, placed_values, list_word, linked_words, placed_words, placed_each, ArePlaced}
use Rattle.sch_select_data.proofs.literals.NodeUnits.{units_joined}

-- ---- literals before others

pub placed_values_length : (ls : Literals) (unit : ℕ) → length (placed_values ls unit) ≡ count_literals ls
placed_values_length no_literals unit = refl
placed_values_length (and_literal l ls) unit = ap suc (placed_values_length ls (unit + units_in l))

values_joined : (ls : Literals) (others : List Literal) (unit : ℕ)
    → placed_values (literals (each_of ls ++ others)) unit ≡ placed_values ls unit ++ placed_values (literals others) (unit + units_in_each ls)
values_joined no_literals others unit = let e : unit ≡ unit + 0 = omega arith in ap (placed_values (literals others)) e
values_joined (and_literal l ls) others unit =
    let e : unit + units_in l + units_in_each ls ≡ unit + (units_in l + units_in_each ls) = omega arith in
    ap (λ vs. placed_value l unit ∷ vs)
    (values_joined ls others (unit + units_in l) ∙ ap (λ u. placed_values ls (unit + units_in l) ++ placed_values (literals others) u) e)

each_joined : (ls : Literals) (others : List Literal) (unit : ℕ)
    → placed_each (literals (each_of ls ++ others)) unit ≡ placed_each ls unit ++ placed_each (literals others) (unit + units_in_each ls)
each_joined no_literals others unit = let e : unit ≡ unit + 0 = omega arith in ap (placed_each (literals others)) e
each_joined (and_literal l ls) others unit =
    let e : unit + units_in l + units_in_each ls ≡ unit + (units_in l + units_in_each ls) = omega arith in
    let far = unit + (units_in l + units_in_each ls) in
    ap (λ ws. placed_words l unit ++ ws)
    (each_joined ls others (unit + units_in l) ∙ ap (λ u. placed_each ls (unit + units_in l) ++ placed_each (literals others) u) e)
    ∙ sym (append_assoc (placed_words l unit) (placed_each ls (unit + units_in l)) (placed_each (literals others) far))

-- ---- none, and as many words as literals

pub none_placed : (unit end : ℕ) (words values : List ℕ) → unit ≡ end → words ≡ [] → values ≡ [] → ArePlaced [] unit end words values
none_placed unit end words values e w v = record { ends = omega (arith, e); words_are = w; values_are = v }

values_count : (ls : List Literal) (unit : ℕ) → length (placed_values (literals ls) unit) ≡ length ls
values_count [] unit = refl
values_count (l ∷ ls) unit = ap suc (values_count ls (unit + units_in l))

pub values_there : (ls others : List Literal) (unit end : ℕ) (words values : List ℕ) → ArePlaced (ls ++ others) unit end words values → length ls ≤ length values
values_there ls others unit end words values h =
    let n = ap length h.values_are ∙ values_count (ls ++ others) unit in
    omega (arith, n, length-append ls others)

-- ---- one literal more

pub more_placed : (l : Literal) (others : List Literal) (unit inner end : ℕ) (words values own : List ℕ) (value : ℕ)
    → ArePlaced others inner end words values → unit + units_in l ≡ inner → own ≡ placed_words l unit → value ≡ placed_value l unit
    → ArePlaced (l ∷ others) unit end (own ++ words) (value ∷ values)
more_placed l others unit inner end words values own value h e o v =
    let ends = h.ends in
    record {
      ends = omega (arith, ends, e);
      words_are = append_same o (h.words_are ∙ ap (placed_each (literals others)) (sym e));
      values_are = cons_same v (h.values_are ∙ ap (placed_values (literals others)) (sym e));
    }

-- ---- a literal in place of its parts

module _ (ls : Literals) (others : List Literal) (inner end : ℕ) (words values : List ℕ) (h : ArePlaced (each_of ls ++ others) inner end words values) where
  pub front_values : take (count_literals ls) values ≡ placed_values ls inner
  front_values =
      ap (take (count_literals ls)) (h.values_are ∙ values_joined ls others inner)
      ∙ ap (λ n. take n (placed_values ls inner ++ placed_values (literals others) (inner + units_in_each ls))) (sym (placed_values_length ls inner))
      ∙ take-append_seam (placed_values ls inner) (placed_values (literals others) (inner + units_in_each ls))

  pub other_values : drop (count_literals ls) values ≡ placed_values (literals others) (inner + units_in_each ls)
  other_values =
      ap (drop (count_literals ls)) (h.values_are ∙ values_joined ls others inner)
      ∙ ap (λ n. drop n (placed_values ls inner ++ placed_values (literals others) (inner + units_in_each ls))) (sym (placed_values_length ls inner))
      ∙ drop-append_seam (placed_values ls inner) (placed_values (literals others) (inner + units_in_each ls))

  pub front_words : words ≡ placed_each ls inner ++ placed_each (literals others) (inner + units_in_each ls)
  front_words = h.words_are ∙ each_joined ls others inner

-- a vector
pub vector_placed : (ls : Literals) (others : List Literal) (unit inner end : ℕ) (words values items rest : List ℕ) (value : ℕ)
    → ArePlaced (each_of ls ++ others) inner end words values → unit + (1 + count_literals ls / 2) ≡ inner
    → items ≡ take (count_literals ls) values → rest ≡ drop (count_literals ls) values → value ≡ 16 * unit + vector_tag
    → ArePlaced (elements ls ∷ others) unit end (vector_contents items ++ words) (value ∷ rest)
vector_placed ls others unit inner end words values items rest value h e i r v =
    let far : unit + units_in (elements ls) ≡ inner + units_in_each ls = omega (arith, e) in
    let ends = h.ends in
    let joined = units_joined ls others in
    record {
      ends = omega (arith, ends, joined, e);
      words_are = append_same (ap vector_contents (i ∙ front_values ls others inner end words values h)) (front_words ls others inner end words values h)
          ∙ sym (append_assoc (vector_contents (placed_values ls inner)) (placed_each ls inner) (placed_each (literals others) (inner + units_in_each ls)))
          ∙ ap (λ u. (vector_contents (placed_values ls u) ++ placed_each ls u) ++ placed_each (literals others) (inner + units_in_each ls)) (sym e)
          ∙ ap (λ u. placed_words (elements ls) unit ++ placed_each (literals others) u) (sym far);
      values_are = cons_same v (r ∙ other_values ls others inner end words values h ∙ ap (placed_values (literals others)) (sym far));
    }

-- the word of a list
list_value_is : (ls : Literals) (tail : Literal) (unit inner behind : ℕ) → inner ≡ unit + count_literals ls → behind ≡ inner + units_in_each ls
    → list_word unit (placed_values ls inner) (placed_value tail behind) ≡ placed_value (list ls tail) unit
list_value_is no_literals tail unit inner behind e f = let z : behind ≡ unit = omega (arith, e, f) in ap (placed_value tail) z
list_value_is (and_literal l ls) tail unit inner behind e f = refl

-- a list
pub list_placed : (ls : Literals) (tail : Literal) (others : List Literal) (unit inner end : ℕ) (words values items rest : List ℕ) (last : ℕ)
    → ArePlaced (each_of ls ++ (tail ∷ others)) inner end words values → unit + count_literals ls ≡ inner
    → items ≡ take (count_literals ls) values → last ∷ rest ≡ drop (count_literals ls) values
    → ArePlaced (list ls tail ∷ others) unit end (linked_words unit items last ++ words) (list_word unit items last ∷ rest)
list_placed ls tail others unit inner end words values items rest last h e i r =
    let behind = inner + units_in_each ls in
    let all = placed_each (literals others) (behind + units_in tail) in
    let far : unit + units_in (list ls tail) ≡ behind + units_in tail = omega (arith, e) in
    let ends = h.ends in
    let joined = units_joined ls (tail ∷ others) in
    let items_are = i ∙ front_values ls (tail ∷ others) inner end words values h in
    let left = r ∙ other_values ls (tail ∷ others) inner end words values h in
    let last_is = head_same left in
    let value_is : list_word unit items last ≡ placed_value (list ls tail) unit =
    ap (λ vs. list_word unit vs last) items_are ∙ ap (list_word unit (placed_values ls inner)) last_is ∙ list_value_is ls tail unit inner behind (sym e) refl in
    let pairs : linked_words unit items last ≡ linked_words unit (placed_values ls inner) (placed_value tail behind) =
    ap (λ vs. linked_words unit vs last) items_are ∙ ap (linked_words unit (placed_values ls inner)) last_is in
    let own : List ℕ = linked_words unit (placed_values ls inner) (placed_value tail behind) in
    let inside : own ++ (placed_each ls inner ++ placed_words tail behind) ≡ placed_words (list ls tail) unit =
    ap (λ u. linked_words unit (placed_values ls u) (placed_value tail (u + units_in_each ls)) ++ (placed_each ls u ++ placed_words tail (u + units_in_each ls))) (sym e) in
    record {
      ends = omega (arith, ends, joined, e);
      words_are = append_same pairs (front_words ls (tail ∷ others) inner end words values h)
          ∙ ap (λ l. own ++ l) (sym (append_assoc (placed_each ls inner) (placed_words tail behind) all))
          ∙ sym (append_assoc own (placed_each ls inner ++ placed_words tail behind) all)
          ∙ append_same inside (ap (placed_each (literals others)) (sym far));
      values_are = cons_same value_is (tail_same left ∙ ap (placed_values (literals others)) (sym far));
    }
