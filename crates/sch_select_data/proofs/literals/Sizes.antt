-- How many words objects have, and how many units the objects of literals take.
use Rattle.std.proofs.Common.{◌≡◌, ℕ, zero, suc, ◌+◌, ◌-◌, ◌*◌, ◌/◌, ◌≤◌, List, [], ◌∷◌, ◌++◌, length, map, refl, sym, ap, ◌∙◌, arith, length-append, drop}
use Rattle.std.proofs.lemmas.List.{length-map}
use Rattle.sch_word.specs.values.Values.{Value, Object, pair, vector, string}
use Rattle.sch_word.specs.values.Literals.{Literal, Literals, constant, text, list, elements, no_literals, and_literal, count_literals, objects_in, objects_in_each, literal_value, literal_values, literal_objects, objects_of_each, literal_size, literals_size}
use Rattle.sch_word.specs.runs.Charges.{vector_bytes, string_bytes, linked}
use Rattle.sch_word.proofs.values.LiteralObjects.{literal_values_length}
use Rattle.sch_asm.specs.declared.assembly.Word.TheVariants.{Fixed}
use Rattle.sch_select_memory.specs.Parts.{units, Parts}
use Rattle.sch_select_data.specs.ObjectParts.{object_more, object_parts}
use Rattle.sch_select_data.specs.ObjectWords.{value_word, text_words, in_units, vector_contents, string_contents, object_contents, objects_contents, objects_words}
use Rattle.sch_select_data.specs.PlacedWords.{units_in, units_in_each}

-- ---- one object

pub vector_more : (k : ℕ) → vector_bytes k / 16 - 1 ≡ k / 2
vector_more k = omega arith

pub string_more : (k : ℕ) → string_bytes k / 16 - 1 ≡ (k + 7) / 16
string_more k = omega arith

in_units_length : (ws : List ℕ) → length (in_units ws) ≡ 2 * ((length ws + 1) / 2)
in_units_length [] = refl
in_units_length (a ∷ []) = refl
in_units_length (a ∷ (b ∷ ws)) = let h = in_units_length ws in omega (arith, h)

pub text_words_length : (n : ℕ) (bytes : List ℕ) → length (text_words n bytes) ≡ n
text_words_length zero bytes = refl
text_words_length (suc n) bytes = ap suc (text_words_length n (drop 8 bytes))

pub vector_contents_length : (es : List ℕ) → length (vector_contents es) ≡ 2 * suc (length es / 2)
vector_contents_length es = let h = in_units_length (8 * length es ∷ es) in omega (arith, h)

pub string_contents_length : (bytes : List ℕ) → length (string_contents bytes) ≡ 2 * suc ((length bytes + 7) / 16)
string_contents_length bytes =
    let h = in_units_length (8 * length bytes ∷ text_words ((length bytes + 7) / 8) bytes) in
    let n = text_words_length ((length bytes + 7) / 8) bytes in
    omega (arith, h, n)

-- an object has the words of its units
pub contents_length : (parts : Parts) (o : Object) → length (object_contents parts o) ≡ 2 * suc (object_more o)
contents_length parts (pair a d) = refl
contents_length parts (vector es) =
    vector_contents_length (map (value_word parts) es) ∙ ap (λ k. 2 * suc (k / 2)) (length-map es (value_word parts)) ∙ ap (λ m. 2 * suc m) (sym (vector_more (length es)))
contents_length parts (string bytes) = string_contents_length bytes ∙ ap (λ m. 2 * suc m) (sym (string_more (length bytes)))

-- ---- the units of literals

pub units_append : (n : ℕ) (xs ys : List Object) → units (object_parts n (xs ++ ys)) ≡ units (object_parts n xs) + units (object_parts (n + length xs) ys)
units_append n [] ys =
    let e : n ≡ n + 0 = omega arith in
    let g = ap (λ n. units (object_parts n ys)) e in
    omega (arith, g)
units_append n (x ∷ xs) ys =
    let h = units_append (suc n) xs ys in
    let e : suc n + length xs ≡ n + suc (length xs) = omega arith in
    let g = ap (λ n. units (object_parts n ys)) e in
    omega (arith, h, g)

-- whatever their numbers
pub units_any : (m n : ℕ) (xs : List Object) → units (object_parts m xs) ≡ units (object_parts n xs)
units_any m n [] = refl
units_any m n (x ∷ xs) = ap (λ u. suc (object_more x) + u) (units_any (suc m) (suc n) xs)

pub linked_units : (m n : ℕ) (vs : List Value) (last : Value) → units (object_parts m (linked n vs last)) ≡ length vs
linked_units m n [] last = refl
linked_units m n (v ∷ []) last = refl
linked_units m n (v ∷ (w ∷ vs)) last = let h = linked_units (suc m) (suc n) (w ∷ vs) last in omega (arith, h)

three_units : (m : ℕ) (xs ys zs : List Object) (a b c : ℕ) → units (object_parts m xs) ≡ a → units (object_parts m ys) ≡ b → units (object_parts m zs) ≡ c
    → units (object_parts m (xs ++ (ys ++ zs))) ≡ a + (b + c)
three_units m xs ys zs a b c x y z =
    let h = units_append m xs (ys ++ zs) in
    let g = units_append (m + length xs) ys zs in
    let y' = units_any (m + length xs) m ys in
    let z' = units_any (m + length xs + length ys) m zs in
    omega (arith, h, g, y', z', x, y, z)

mutual
  pub literal_units : (m : ℕ) (l : Literal) (n : ℕ) → units (object_parts m (literal_objects l n)) ≡ units_in l
  literal_units m (constant c) n = refl
  literal_units m (text bytes) n = let h = string_more (length bytes) in omega (arith, h)
  literal_units m (list ls tail) n =
      let inner : ℕ = n + count_literals ls in
      let behind : ℕ = inner + objects_in_each ls in
      three_units m (linked n (literal_values ls inner) (literal_value tail behind)) (objects_of_each ls inner) (literal_objects tail behind)
      (count_literals ls) (units_in_each ls) (units_in tail)
      (linked_units m n (literal_values ls inner) (literal_value tail behind) ∙ literal_values_length ls inner)
      (each_units m ls inner) (literal_units m tail behind)
  literal_units m (elements ls) n =
      let h = vector_more (length (literal_values ls (suc n))) in
      let k = literal_values_length ls (suc n) in
      let k' = ap (λ k. k / 2) k in
      let r = each_units (suc m) ls (suc n) in
      omega (arith, h, k', r)

  pub each_units : (m : ℕ) (ls : Literals) (n : ℕ) → units (object_parts m (objects_of_each ls n)) ≡ units_in_each ls
  each_units m no_literals n = refl
  each_units m (and_literal l ls) n =
      let h = units_append m (literal_objects l n) (objects_of_each ls (n + objects_in l)) in
      let g = literal_units m l n in
      let r = each_units (m + length (literal_objects l n)) ls (n + objects_in l) in
      omega (arith, h, g, r)

-- ---- their bounds

mutual
  literal_bound : (l : Literal) → units_in l + 1 ≤ 2 * literal_size l
  literal_bound (constant c) = omega arith
  literal_bound (text bytes) = omega arith
  literal_bound (list ls tail) = let h = each_bound ls in let g = literal_bound tail in omega (arith, h, g)
  literal_bound (elements ls) = let h = each_bound ls in omega (arith, h)

  pub each_bound : (ls : Literals) → units_in_each ls + count_literals ls ≤ 2 * literals_size ls
  each_bound no_literals = omega arith
  each_bound (and_literal l ls) = let h = literal_bound l in let g = each_bound ls in omega (arith, h, g)

-- the objects of literals take at most two units for each node and byte
pub units_bound : (ls : Literals) → units_in_each ls ≤ 2 * literals_size ls
units_bound ls = let h = each_bound ls in omega (arith, h)

pub objects_bound : (ls : Literals) → units (object_parts 0 (objects_of_each ls 0)) ≤ 2 * literals_size ls
objects_bound ls = let h = each_units 0 ls 0 in let g = units_bound ls in omega (arith, h, g)

-- so do their words
pub objects_contents_length : (parts : Parts) (n : ℕ) (os : List Object) → length (objects_contents parts os) ≡ 2 * units (object_parts n os)
objects_contents_length parts n [] = refl
objects_contents_length parts n (o ∷ os) =
    let h = contents_length parts o in
    let g = objects_contents_length parts (suc n) os in
    omega (arith, h, g, length-append (object_contents parts o) (objects_contents parts os))

pub objects_words_length : (parts : Parts) (n : ℕ) (os : List Object) → length (objects_words parts os) ≡ 2 * units (object_parts n os)
objects_words_length parts n os = length-map (objects_contents parts os) Fixed ∙ objects_contents_length parts n os
