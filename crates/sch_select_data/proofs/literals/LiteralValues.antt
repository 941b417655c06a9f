-- The values of literals and what their objects hold: constants in range, and objects among theirs.
use Rattle.std.proofs.Common.{◌≡◌, ℕ, zero, suc, ◌+◌, ◌<◌, ◌≤◌, true, List, [], ◌∷◌, ◌++◌, length, Some, None, subst, arith}
use Rattle.std.specs.Prelude.{slice_get}
use Rattle.std.proofs.lemmas.Bool.{ltb-true, and_parts}
use Rattle.std.proofs.lemmas.Option.{same_Some}
use Rattle.sch_word.specs.declared.constant.Const.{Const}
use Rattle.sch_word.specs.declared.constant.Const.TheVariants.{Fixnum, Character, Boolean, Nil, Unspecified, Symbol}
use Rattle.sch_word.specs.values.Fixnum.{IsFixnum}
use Rattle.sch_word.specs.values.Values.{Value, fixnum, character, boolean, nil, unspecified, symbol, object, procedure, cell, constant_value, is_constant, are_bytes, Object, pair, vector, string}
use Rattle.sch_word.specs.values.Literals.{Literal, Literals, constant, text, list, elements, no_literals, and_literal, count_literals, objects_in, objects_in_each, literal_value, literal_values, literal_objects, objects_of_each, constant_known, literal_known, literals_known, literal_in_range, literals_in_range}
use Rattle.sch_word.specs.runs.Charges.{linked}
use Rattle.sch_word.proofs.values.Fixnums.{is_fixnum_says}
use Rattle.sch_word.proofs.values.LiteralObjects.{literal_values_length}

module _ (symbols limit : ℕ) where
  -- A constant in range, or an object below the limit.
  abbrev pub IsStanding : Value → Type 0
  IsStanding (fixnum n) = IsFixnum n
  IsStanding (character byte) = byte < 256
  IsStanding (boolean b) = Unit {0}
  IsStanding nil = Unit {0}
  IsStanding unspecified = Unit {0}
  IsStanding (symbol n) = n < symbols
  IsStanding (object n) = n < limit
  IsStanding (procedure n) = ⊥
  IsStanding (cell n) = ⊥

  abbrev pub AreStanding : List Value → Type 0
  AreStanding [] = Unit {0}
  AreStanding (v ∷ vs) = IsStanding v × AreStanding vs

  -- An object that holds such values or bytes.
  abbrev pub Holds : Object → Type 0
  Holds (pair a d) = IsStanding a × IsStanding d
  Holds (vector es) = AreStanding es
  Holds (string bytes) = are_bytes bytes ≡ true

  abbrev pub EachHolds : List Object → Type 0
  EachHolds [] = Unit {0}
  EachHolds (o ∷ os) = Holds o × EachHolds os

  pub standing_at : (vs : List Value) → AreStanding vs → (k : ℕ) (v : Value) → slice_get vs k ≡ Some v → IsStanding v
  standing_at [] h k v e = absurd (let bad : None ≡ Some v = e in cc)
  standing_at (u ∷ us) h zero v e = subst IsStanding (same_Some u v e) h.0
  standing_at (u ∷ us) h (suc k) v e = standing_at us h.1 k v e

  pub holds_at : (os : List Object) → EachHolds os → (k : ℕ) (o : Object) → slice_get os k ≡ Some o → Holds o
  holds_at [] h k o e = absurd (let bad : None ≡ Some o = e in cc)
  holds_at (p ∷ ps) h zero o e = subst Holds (same_Some p o e) h.0
  holds_at (p ∷ ps) h (suc k) o e = holds_at ps h.1 k o e

  append_holds : (xs ys : List Object) → EachHolds xs → EachHolds ys → EachHolds (xs ++ ys)
  append_holds [] ys h g = g
  append_holds (x ∷ xs) ys h g = (h.0, append_holds xs ys h.1 g)

  linked_holds : (n : ℕ) (vs : List Value) (last : Value) → AreStanding vs → IsStanding last → n + length vs ≤ limit → EachHolds (linked n vs last)
  linked_holds n [] last h g le = tt
  linked_holds n (v ∷ []) last h g le = ((h.0, g), tt)
  linked_holds n (v ∷ (w ∷ vs)) last h g le = ((h.0, omega (arith, le)), linked_holds (suc n) (w ∷ vs) last h.1 g (omega (arith, le)))

  constant_stands : (c : Const) → is_constant c ≡ true → constant_known symbols c ≡ true → IsStanding (constant_value c)
  constant_stands (Fixnum n) r k = is_fixnum_says n r
  constant_stands (Character byte) r k = ltb-true byte 256 r
  constant_stands (Boolean b) r k = tt
  constant_stands Nil r k = tt
  constant_stands Unspecified r k = tt
  constant_stands (Symbol n) r k = ltb-true n symbols k

  pub value_stands : (l : Literal) (n : ℕ) → literal_in_range l ≡ true → literal_known symbols l ≡ true → n + objects_in l ≤ limit → IsStanding (literal_value l n)
  value_stands (constant c) n r k le = constant_stands c r k
  value_stands (text bytes) n r k le = omega (arith, le)
  value_stands (list no_literals tail) n r k le = value_stands tail n r k (omega (arith, le))
  value_stands (list (and_literal l ls) tail) n r k le = omega (arith, le)
  value_stands (elements ls) n r k le = omega (arith, le)

  pub values_stand : (ls : Literals) (n : ℕ) → literals_in_range ls ≡ true → literals_known symbols ls ≡ true → n + objects_in_each ls ≤ limit → AreStanding (literal_values ls n)
  values_stand no_literals n r k le = tt
  values_stand (and_literal l ls) n r k le =
      let rs = and_parts (literal_in_range l) (literals_in_range ls) r in
      let ks = and_parts (literal_known symbols l) (literals_known symbols ls) k in
      (value_stands l n rs.0 ks.0 (omega (arith, le)), values_stand ls (n + objects_in l) rs.1 ks.1 (omega (arith, le)))

  mutual
    pub objects_hold : (l : Literal) (n : ℕ) → literal_in_range l ≡ true → literal_known symbols l ≡ true → n + objects_in l ≤ limit → EachHolds (literal_objects l n)
    objects_hold (constant c) n r k le = tt
    objects_hold (text bytes) n r k le = (r, tt)
    objects_hold (list ls tail) n r k le =
        let inner : ℕ = n + count_literals ls in
        let behind : ℕ = inner + objects_in_each ls in
        let rs = and_parts (literals_in_range ls) (literal_in_range tail) r in
        let ks = and_parts (literals_known symbols ls) (literal_known symbols tail) k in
        let size = literal_values_length ls inner in
        append_holds (linked n (literal_values ls inner) (literal_value tail behind)) (objects_of_each ls inner ++ literal_objects tail behind)
        (linked_holds n (literal_values ls inner) (literal_value tail behind) (values_stand ls inner rs.0 ks.0 (omega (arith, le))) (value_stands tail behind rs.1 ks.1 (omega (arith, le)))
        (omega (arith, size, le)))
        (append_holds (objects_of_each ls inner) (literal_objects tail behind)
        (each_holds ls inner rs.0 ks.0 (omega (arith, le)))
        (objects_hold tail behind rs.1 ks.1 (omega (arith, le))))
    objects_hold (elements ls) n r k le = (values_stand ls (suc n) r k (omega (arith, le)), each_holds ls (suc n) r k (omega (arith, le)))

    pub each_holds : (ls : Literals) (n : ℕ) → literals_in_range ls ≡ true → literals_known symbols ls ≡ true → n + objects_in_each ls ≤ limit → EachHolds (objects_of_each ls n)
    each_holds no_literals n r k le = tt
    each_holds (and_literal l ls) n r k le =
        let rs = and_parts (literal_in_range l) (literals_in_range ls) r in
        let ks = and_parts (literal_known symbols l) (literals_known symbols ls) k in
        append_holds (literal_objects l n) (objects_of_each ls (n + objects_in l)) (objects_hold l n rs.0 ks.0 (omega (arith, le))) (each_holds ls (n + objects_in l) rs.1 ks.1 (omega (arith, le)))
