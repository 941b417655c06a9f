-- The word of an object is that of its part, by its kind.
use Rattle.std.proofs.Common.{◌≡◌, ℕ, ◌+◌, ◌*◌, true, false, List, take, Option, Some, None, refl, sym, ap, ◌∙◌, arith}
use Rattle.std.specs.Prelude.{slice_get}
use Rattle.sch_word.specs.values.Values.{Value, Object, pair, vector, string}
use Rattle.sch_word.specs.values.PrimitiveRows.{is_pair, is_vector}
use Rattle.sch_select_memory.specs.Parts.{Owner, a_pair, a_vector, a_string, Parts, units, Spot, spot_from, spot}
use Rattle.sch_select_memory.specs.Encoded.{pair_tag, vector_tag, string_tag}
use Rattle.sch_select_memory.specs.Heap.{owner_of}
use Rattle.sch_select_data.specs.ObjectParts.{object_more, object_parts, parts_at}
use Rattle.sch_select_data.specs.ObjectWords.{word_at_spot, object_word}
use Rattle.sch_select_data.proofs.literals.ObjectSpots.{object_spot, own_kinds}

-- who is in no part has no spot
absent : (parts : Parts) (o : Owner) → ((at : Spot) → spot parts o ≡ Some at → ⊥) → spot parts o ≡ None
absent parts o none = by (spot parts o) refl
  where
    by : (s : Option Spot) → spot parts o ≡ s → spot parts o ≡ None
    by None e = e
    by (Some at) e = absurd (none at e)

module _ (first : ℕ) (objects : List Object) where
  pub spot_of : (n : ℕ) (o : Object) → slice_get objects n ≡ Some o
      → spot (parts_at first objects) (owner_of n o) ≡ Some (record { unit = first + units (object_parts 0 (take n objects)); more = object_more o })
  spot_of n o e = let z : 0 + n ≡ n = omega arith in ap (λ n. spot_from first (object_parts 0 objects) (owner_of n o)) (sym z) ∙ object_spot first 0 objects n o e

  no_pair : (n : ℕ) → is_pair (slice_get objects n) ≡ false → spot (parts_at first objects) (a_pair n) ≡ None
  no_pair n h = absent (parts_at first objects) (a_pair n) (λ at e. let g = (own_kinds first objects).pairs n at e in let bad : false ≡ true = sym h ∙ g in absurd cc)

  no_vector : (n : ℕ) → is_vector (slice_get objects n) ≡ false → spot (parts_at first objects) (a_vector n) ≡ None
  no_vector n h = absent (parts_at first objects) (a_vector n) (λ at e. let g = (own_kinds first objects).vectors n at e in let bad : false ≡ true = sym h ∙ g in absurd cc)

  -- the word of an object, by its kind
  pub pair_word : (n : ℕ) (a d : Value) → slice_get objects n ≡ Some (pair a d) → object_word (parts_at first objects) n ≡ 16 * (first + units (object_parts 0 (take n objects))) + pair_tag
  pair_word n a d e = ap (λ s. word_at_spot s pair_tag
      (word_at_spot (spot (parts_at first objects) (a_vector n)) vector_tag (word_at_spot (spot (parts_at first objects) (a_string n)) string_tag 0))) (spot_of n (pair a d) e)

  pub vector_word : (n : ℕ) (es : List Value) → slice_get objects n ≡ Some (vector es) → object_word (parts_at first objects) n ≡ 16 * (first + units (object_parts 0 (take n objects))) + vector_tag
  vector_word n es e =
      ap (λ s. word_at_spot s pair_tag (word_at_spot (spot (parts_at first objects) (a_vector n)) vector_tag (word_at_spot (spot (parts_at first objects) (a_string n)) string_tag 0)))
      (no_pair n (ap is_pair e))
      ∙ ap (λ s. word_at_spot s vector_tag (word_at_spot (spot (parts_at first objects) (a_string n)) string_tag 0)) (spot_of n (vector es) e)

  pub string_word : (n : ℕ) (bytes : List ℕ) → slice_get objects n ≡ Some (string bytes) → object_word (parts_at first objects) n ≡ 16 * (first + units (object_parts 0 (take n objects))) + string_tag
  string_word n bytes e =
      ap (λ s. word_at_spot s pair_tag (word_at_spot (spot (parts_at first objects) (a_vector n)) vector_tag (word_at_spot (spot (parts_at first objects) (a_string n)) string_tag 0)))
      (no_pair n (ap is_pair e))
      ∙ ap (λ s. word_at_spot s vector_tag (word_at_spot (spot (parts_at first objects) (a_string n)) string_tag 0)) (no_vector n (ap is_vector e))
      ∙ ap (λ s. word_at_spot s string_tag 0) (spot_of n (string bytes) e)
