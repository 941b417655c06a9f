-- A literal has as many objects as are counted for it, so the objects of those behind it have the
-- numbers that its count leaves to them.
use Rattle.std.proofs.Common.{◌≡◌, ℕ, suc, ◌+◌, List, [], ◌∷◌, ◌++◌, length, refl, ap, ◌∙◌, arith, length-append}
use Rattle.sch_word.specs.values.Values.{Value}
use Rattle.sch_word.specs.runs.Charges.{linked}
use Rattle.sch_word.specs.values.Literals.{Literal, Literals, constant, text, list, elements, no_literals, and_literal, count_literals, objects_in, objects_in_each, literal_value, literal_values, literal_objects, objects_of_each}

pub linked_length : (n : ℕ) (vs : List Value) (last : Value) → length (linked n vs last) ≡ length vs
linked_length n [] last = refl
linked_length n (v ∷ []) last = refl
linked_length n (v ∷ (w ∷ vs)) last = ap suc (linked_length (suc n) (w ∷ vs) last)

pub literal_values_length : (ls : Literals) (n : ℕ) → length (literal_values ls n) ≡ count_literals ls
literal_values_length no_literals n = refl
literal_values_length (and_literal l ls) n = ap suc (literal_values_length ls (n + objects_in l))

three_lengths : {A : Type 0} (xs ys zs : List A) (a b c : ℕ) → length xs ≡ a → length ys ≡ b → length zs ≡ c → length (xs ++ (ys ++ zs)) ≡ a + (b + c)
three_lengths xs ys zs a b c x y z = omega (arith, length-append xs (ys ++ zs), length-append ys zs)

sum_of : {a b c d : ℕ} → a ≡ b → c ≡ d → a + c ≡ b + d
sum_of g h = omega (arith, g, h)

mutual
  pub literal_objects_length : (l : Literal) (n : ℕ) → length (literal_objects l n) ≡ objects_in l
  literal_objects_length (constant c) n = refl
  literal_objects_length (text bytes) n = refl
  literal_objects_length (list ls tail) n =
      let inner : ℕ = n + count_literals ls in
      let behind : ℕ = inner + objects_in_each ls in
      three_lengths (linked n (literal_values ls inner) (literal_value tail behind)) (objects_of_each ls inner) (literal_objects tail behind)
      (count_literals ls) (objects_in_each ls) (objects_in tail)
      (linked_length n (literal_values ls inner) (literal_value tail behind) ∙ literal_values_length ls inner)
      (objects_of_each_length ls inner) (literal_objects_length tail behind)
  literal_objects_length (elements ls) n = ap suc (objects_of_each_length ls (suc n))

  pub objects_of_each_length : (ls : Literals) (n : ℕ) → length (objects_of_each ls n) ≡ objects_in_each ls
  objects_of_each_length no_literals n = refl
  objects_of_each_length (and_literal l ls) n =
      length-append (literal_objects l n) (objects_of_each ls (n + objects_in l)) ∙ sum_of (literal_objects_length l n) (objects_of_each_length ls (n + objects_in l))
