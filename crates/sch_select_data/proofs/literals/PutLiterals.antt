-- What is put for a literal in place of its parts, as the code puts it: with the last word first.
use Rattle.std.proofs.Common.{◌≡◌, ◌≤◌, ℕ, ◌+◌, ◌-◌, ◌*◌, ◌/◌, List, [], ◌∷◌, ◌++◌, length, reverse, take, drop, refl, sym, ap, ◌∙◌, subst, arith, append_assoc}
use Rattle.std.proofs.lemmas.List.{reverse-append, reverse-reverse, length-reverse, length-take-le}
use Rattle.sch_word.specs.declared.constant.Const.{Const}
use Rattle.sch_word.specs.declared.literal.Lit.{Lit}
use Rattle.sch_word.specs.values.Values.{constant_value}
use Rattle.sch_word.specs.values.Literals.{Literal, Literals, constant, text, list, elements, count_literals}
use Rattle.sch_word.specs.values.LiteralParts.{each_of, plain}
use Rattle.sch_word.specs.values.LiteralView.{literals_of}
use Rattle.sch_word.proofs.worked.LiteralRows.{literals_of_list}
use Rattle.sch_select_memory.specs.Encoded.{vector_tag, string_tag}
use Rattle.sch_select_data.specs.declared.placed_values.PlacedValues.{PlacedValues}
use Rattle.sch_select_data.specs.declared.placing.Placed.{Placed}
use Rattle.sch_select_data.specs.ObjectWords.{value_word, vector_contents, string_contents}
use Rattle.sch_select_data.specs.PlacedWords.{units_in_each, no_parts, placed_values, list_word, linked_words, placed_each, ArePlaced}
use Rattle.sch_select_data.specs.PlacedView.{in_turn, ArePut, IsObjectPut, IsPut}
use Rattle.sch_select_data.proofs.literals.PutSteps.{more_placed, vector_placed, list_placed}
use Rattle.sch_select_data.proofs.literals.Sizes.{vector_contents_length, string_contents_length}

turned : (before contents after : List ℕ) → after ≡ before ++ reverse contents → reverse after ≡ contents ++ reverse before
turned before contents after e = ap reverse e ∙ reverse-append before (reverse contents) ∙ ap (λ l. l ++ reverse before) (reverse-reverse contents)

same_words : (ls : List Literal) (unit end : ℕ) (words values words' values' : List ℕ) → ArePlaced ls unit end words values → words' ≡ words → values' ≡ values
    → ArePlaced ls unit end words' values'
same_words ls unit end words values words' values' h w v = record { ends = h.ends; words_are = w ∙ h.words_are; values_are = v ∙ h.values_are }

-- the first values, which are taken
pub taken_count : (values all : List ℕ) (count : ℕ) → count ≤ length all → reverse values ≡ take count all → length values ≡ count
taken_count values all count l e = sym (length-reverse values) ∙ ap length e ∙ length-take-le count all l

-- ---- constants

pub constant_put : (k : Const) (before after : Placed) (value : ℕ) → value ≡ value_word no_parts (constant_value k) → after.words ≡ before.words → after.unit ≡ before.unit
    → in_turn after.values ≡ value ∷ in_turn before.values → IsPut (constant k) before after
constant_put k before after value v w u vs = λ others end h.
    same_words (constant k ∷ others) after.unit end (reverse before.words) (value ∷ in_turn before.values) (reverse after.words) (in_turn after.values)
    (more_placed (constant k) others after.unit before.unit end (reverse before.words) (in_turn before.values) [] value h (omega (arith, u)) refl v)
    (ap reverse w) vs

-- ---- strings

pub text_units : (bytes contents : List ℕ) → contents ≡ string_contents bytes → length contents / 2 ≡ 1 + (length bytes + 7) / 16
text_units bytes contents e = let n = ap length e ∙ string_contents_length bytes in omega (arith, n)

pub text_put : (bytes contents : List ℕ) (before after : Placed) → contents ≡ string_contents bytes → IsObjectPut contents string_tag before after → IsPut (text bytes) before after
text_put bytes contents before after c g = λ others end h.
    let n = text_units bytes contents c in
    let b = g.begins in
    same_words (text bytes ∷ others) after.unit end (contents ++ reverse before.words) ((16 * after.unit + string_tag) ∷ in_turn before.values) (reverse after.words) (in_turn after.values)
    (more_placed (text bytes) others after.unit before.unit end (reverse before.words) (in_turn before.values) contents (16 * after.unit + string_tag) h (omega (arith, n, b)) c refl)
    (turned before.words contents after.words g.words_are) g.values_are

-- ---- vectors

pub vector_units : (count : ℕ) (items contents : List ℕ) → length items ≡ count → contents ≡ vector_contents (reverse items) → length contents / 2 ≡ 1 + count / 2
vector_units count items contents n c =
    let m = ap length c ∙ vector_contents_length (reverse items) in
    let k = ap (λ k. k / 2) (length-reverse items ∙ n) in
    omega (arith, m, k)

pub vector_put : (ls : Literals) (count : ℕ) (before after : Placed) (rest : PlacedValues) (items contents : List ℕ)
    → count ≡ count_literals ls → count ≤ length (in_turn before.values)
    → reverse items ≡ take count (in_turn before.values) → in_turn rest ≡ drop count (in_turn before.values) → contents ≡ vector_contents (reverse items)
    → IsObjectPut contents vector_tag (record { words = before.words; values = rest; unit = before.unit }) after → IsPut (elements ls) before after
vector_put ls count before after rest items contents k enough i r c g = λ others end h.
    let n = vector_units count items contents (taken_count items (in_turn before.values) count enough i) c in
    let half = ap (λ k. k / 2) k in
    let b = g.begins in
    same_words (elements ls ∷ others) after.unit end (vector_contents (reverse items) ++ reverse before.words) ((16 * after.unit + vector_tag) ∷ in_turn rest) (reverse after.words) (in_turn after.values)
    (vector_placed ls others after.unit before.unit end (reverse before.words) (in_turn before.values) (reverse items) (in_turn rest) (16 * after.unit + vector_tag) h (omega (arith, n, half, b))
    (i ∙ ap (λ k. take k (in_turn before.values)) k) (r ∙ ap (λ k. drop k (in_turn before.values)) k) refl)
    (turned before.words contents after.words g.words_are ∙ ap (λ l. l ++ reverse before.words) c) g.values_are

-- ---- lists

pub list_put : (ls : Literals) (tail : Literal) (count : ℕ) (before after : Placed) (rest : PlacedValues) (items : List ℕ) (last value : ℕ)
    → count ≡ count_literals ls → count ≤ before.unit → count ≤ length (in_turn before.values) → after.unit ≡ before.unit - count
    → reverse items ≡ take count (in_turn before.values) → last ∷ in_turn rest ≡ drop count (in_turn before.values)
    → value ≡ list_word (before.unit - length items) (reverse items) last
    → after.words ≡ before.words ++ reverse (linked_words (before.unit - length items) (reverse items) last)
    → in_turn after.values ≡ value ∷ in_turn rest
    → IsPut (list ls tail) before after
list_put ls tail count before after rest items last value k room enough place i r v w vs = λ others end h.
    let n = taken_count items (in_turn before.values) count enough i in
    let start : before.unit - length items ≡ after.unit = omega (arith, n, place) in
    let parted : ArePlaced (each_of ls ++ (tail ∷ others)) before.unit end (reverse before.words) (in_turn before.values) =
    subst (λ l. ArePlaced l before.unit end (reverse before.words) (in_turn before.values)) (append_assoc (each_of ls) (tail ∷ []) others) h in
    same_words (list ls tail ∷ others) after.unit end (linked_words after.unit (reverse items) last ++ reverse before.words) (list_word after.unit (reverse items) last ∷ in_turn rest)
    (reverse after.words) (in_turn after.values)
    (list_placed ls tail others after.unit before.unit end (reverse before.words) (in_turn before.values) (reverse items) (in_turn rest) last parted (omega (arith, k, room, place))
    (i ∙ ap (λ k. take k (in_turn before.values)) k) (r ∙ ap (λ k. drop k (in_turn before.values)) k))
    (turned before.words (linked_words (before.unit - length items) (reverse items) last) after.words w ∙ ap (λ u. linked_words u (reverse items) last ++ reverse before.words) start)
    (vs ∙ ap (λ x. x ∷ in_turn rest) (v ∙ ap (λ u. list_word u (reverse items) last) start))

-- ---- all literals

module _ (ls : List Lit) (first : ℕ) (placed : Placed) (h : ArePut (plain ls) (first + units_in_each (literals_of ls)) placed) where
  at_first : placed.unit ≡ first
  at_first =
      let ends = h.ends in
      let all = ap units_in_each (literals_of_list ls) in
      omega (arith, ends, all)

  pub all_words : reverse placed.words ≡ placed_each (literals_of ls) first
  all_words = h.words_are ∙ ap (λ l. placed_each l placed.unit) (sym (literals_of_list ls)) ∙ ap (placed_each (literals_of ls)) at_first

  pub all_values : in_turn placed.values ≡ placed_values (literals_of ls) first
  all_values = h.values_are ∙ ap (λ l. placed_values l placed.unit) (sym (literals_of_list ls)) ∙ ap (placed_values (literals_of ls)) at_first
