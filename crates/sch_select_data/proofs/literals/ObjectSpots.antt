-- Where the parts of objects are.
use Rattle.std.proofs.Common.{◌≡◌, ℕ, zero, suc, ◌+◌, ◌≤◌, Bool, true, false, cond, List, [], ◌∷◌, ◌++◌, take, Some, None, refl, sym, ap, ◌∙◌, subst, arith, eq-eqb}
use Rattle.std.specs.Prelude.{slice_get}
use Rattle.std.proofs.lemmas.Bool.{eqb-true, ne_eqb, and_parts}
use Rattle.std.proofs.lemmas.Option.{same_Some}
use Rattle.sch_word.specs.values.Values.{Object, pair, vector, string}
use Rattle.sch_word.specs.values.PrimitiveRows.{is_pair, is_vector, is_string}
use Rattle.sch_select_memory.specs.Parts.{Owner, a_procedure, a_cell, a_pair, a_vector, a_string, same_owner, Part, Parts, units, Spot, spot_from}
use Rattle.sch_select_memory.specs.Heap.{AreKinds, owner_of}
use Rattle.sch_select_memory.proofs.heap.Spots.{found_first, found_behind}
use Rattle.sch_select_data.specs.ObjectParts.{object_more, object_part, object_parts, parts_at, AreSpotted, is_no_object, have_no_object}

-- ---- the first part, and those behind it

-- ---- each object has its part

same_itself : (n : ℕ) (o : Object) → same_owner (owner_of n o) (owner_of n o) ≡ true
same_itself n (pair a d) = eq-eqb n n refl
same_itself n (vector es) = eq-eqb n n refl
same_itself n (string bytes) = eq-eqb n n refl

other_number : (m n : ℕ) (x o : Object) → (m ≡ n → ⊥) → same_owner (owner_of m x) (owner_of n o) ≡ false
other_number m n (pair a d) (pair b e) ne = ne_eqb m n ne
other_number m n (pair a d) (vector es) ne = refl
other_number m n (pair a d) (string bytes) ne = refl
other_number m n (vector es) (pair b e) ne = refl
other_number m n (vector es) (vector fs) ne = ne_eqb m n ne
other_number m n (vector es) (string bytes) ne = refl
other_number m n (string bytes) (pair b e) ne = refl
other_number m n (string bytes) (vector es) ne = refl
other_number m n (string bytes) (string more) ne = ne_eqb m n ne

pub object_spot : (unit m : ℕ) (objects : List Object) (k : ℕ) (o : Object) → slice_get objects k ≡ Some o
    → spot_from unit (object_parts m objects) (owner_of (m + k) o) ≡ Some (record { unit = unit + units (object_parts m (take k objects)); more = object_more o })
object_spot unit m [] k o e = absurd (let bad : None ≡ Some o = e in cc)
object_spot unit m (x ∷ xs) zero o e =
    let same : x ≡ o = same_Some x o e in
    let n : m + 0 ≡ m = omega arith in
    let u : unit ≡ unit + 0 = omega arith in
    ap (λ n. spot_from unit (object_parts m (x ∷ xs)) (owner_of n o)) n
    ∙ ap (λ y. spot_from unit (object_parts m (x ∷ xs)) (owner_of m y)) (sym same)
    ∙ found_first unit (object_part m x) (object_parts (suc m) xs) (owner_of m x) (same_itself m x)
    ∙ ap (λ y. Some (record { unit = unit; more = object_more y })) same
    ∙ ap (λ u. Some (record { unit = u; more = object_more o })) u
object_spot unit m (x ∷ xs) (suc k) o e =
    let other = other_number m (m + suc k) x o (λ s. omega (arith, s)) in
    let n : m + suc k ≡ suc m + k = omega arith in
    let u : unit + suc (object_more x) + units (object_parts (suc m) (take k xs)) ≡ unit + units (object_parts m (x ∷ take k xs)) = omega arith in
    found_behind unit (object_part m x) (object_parts (suc m) xs) (owner_of (m + suc k) o) other
    ∙ ap (λ n. spot_from (unit + suc (object_more x)) (object_parts (suc m) xs) (owner_of n o)) n
    ∙ object_spot (unit + suc (object_more x)) (suc m) xs k o e
    ∙ ap (λ u. Some (record { unit = u; more = object_more o })) u

-- it ends at the latest where all parts do
pub units_within : (m : ℕ) (objects : List Object) (k : ℕ) (o : Object) → slice_get objects k ≡ Some o → units (object_parts m (take k objects)) + suc (object_more o) ≤ units (object_parts m objects)
units_within m [] k o e = absurd (let bad : None ≡ Some o = e in cc)
units_within m (x ∷ xs) zero o e =
    let same : object_more x ≡ object_more o = ap object_more (same_Some x o e) in omega (arith, same)
units_within m (x ∷ xs) (suc k) o e = let h = units_within (suc m) xs k o e in omega (arith, h)

-- ---- each part is an object's

pub part_owner : (unit m : ℕ) (objects : List Object) (w : Owner) (at : Spot) → spot_from unit (object_parts m objects) w ≡ Some at
    → (k : ℕ) × (o : Object) × (slice_get objects k ≡ Some o) × (same_owner (owner_of (m + k) o) w ≡ true)
part_owner unit m [] w at e = absurd (let bad : None ≡ Some at = e in cc)
part_owner unit m (x ∷ xs) w at e = by (same_owner (owner_of m x) w) refl (part_owner (unit + suc (object_more x)) (suc m) xs w at)
  where
    by : (b : Bool) → same_owner (owner_of m x) w ≡ b
        → (spot_from (unit + suc (object_more x)) (object_parts (suc m) xs) w ≡ Some at → (k : ℕ) × (o : Object) × (slice_get xs k ≡ Some o) × (same_owner (owner_of (suc m + k) o) w ≡ true))
        → (k : ℕ) × (o : Object) × (slice_get (x ∷ xs) k ≡ Some o) × (same_owner (owner_of (m + k) o) w ≡ true)
    by true s behind = let n : m ≡ m + 0 = omega arith in (zero, x, refl, subst (λ n. same_owner (owner_of n x) w ≡ true) n s)
    by false s behind =
        let r = behind (sym (found_behind unit (object_part m x) (object_parts (suc m) xs) w s) ∙ e) in
        let n : suc m + r.0 ≡ m + suc r.0 = omega arith in
        (suc r.0, r.1, r.2, subst (λ n. same_owner (owner_of n r.1) w ≡ true) n r.3)

module _ (first : ℕ) (objects : List Object) where
  own_pair : (n k : ℕ) (o : Object) → slice_get objects k ≡ Some o → same_owner (owner_of (0 + k) o) (a_pair n) ≡ true → is_pair (slice_get objects n) ≡ true
  own_pair n k (pair a d) e s = let same : k ≡ n = let h = eqb-true (0 + k) n s in omega (arith, h) in subst (λ k. is_pair (slice_get objects k) ≡ true) same (ap is_pair e)
  own_pair n k (vector es) e s = absurd (let bad : false ≡ true = s in cc)
  own_pair n k (string bytes) e s = absurd (let bad : false ≡ true = s in cc)

  own_vector : (n k : ℕ) (o : Object) → slice_get objects k ≡ Some o → same_owner (owner_of (0 + k) o) (a_vector n) ≡ true → is_vector (slice_get objects n) ≡ true
  own_vector n k (pair a d) e s = absurd (let bad : false ≡ true = s in cc)
  own_vector n k (vector es) e s = let same : k ≡ n = let h = eqb-true (0 + k) n s in omega (arith, h) in subst (λ k. is_vector (slice_get objects k) ≡ true) same (ap is_vector e)
  own_vector n k (string bytes) e s = absurd (let bad : false ≡ true = s in cc)

  own_string : (n k : ℕ) (o : Object) → slice_get objects k ≡ Some o → same_owner (owner_of (0 + k) o) (a_string n) ≡ true → is_string (slice_get objects n) ≡ true
  own_string n k (pair a d) e s = absurd (let bad : false ≡ true = s in cc)
  own_string n k (vector es) e s = absurd (let bad : false ≡ true = s in cc)
  own_string n k (string bytes) e s = let same : k ≡ n = let h = eqb-true (0 + k) n s in omega (arith, h) in subst (λ k. is_string (slice_get objects k) ≡ true) same (ap is_string e)

  -- a part of an object is that of an object of its kind
  pub own_kinds : AreKinds (parts_at first objects) objects
  own_kinds = record {
    pairs = λ n at e. let r = part_owner first 0 objects (a_pair n) at e in own_pair n r.0 r.1 r.2 r.3;
    vectors = λ n at e. let r = part_owner first 0 objects (a_vector n) at e in own_vector n r.0 r.1 r.2 r.3;
    strings = λ n at e. let r = part_owner first 0 objects (a_string n) at e in own_string n r.0 r.1 r.2 r.3;
  }

  pub spotted_kinds : (parts : Parts) → AreSpotted parts first objects → AreKinds parts objects
  spotted_kinds parts s = record {
    pairs = λ n at e. own_kinds.pairs n at (sym (s.pairs n) ∙ e);
    vectors = λ n at e. own_kinds.vectors n at (sym (s.vectors n) ∙ e);
    strings = λ n at e. own_kinds.strings n at (sym (s.strings n) ∙ e);
  }

  -- ---- behind parts of no objects

  passes : (unit : ℕ) (front : List Part) (o : Owner) → ((p : Part) → is_no_object p.owner ≡ true → same_owner p.owner o ≡ false) → have_no_object front ≡ true
      → spot_from unit (front ++ object_parts 0 objects) o ≡ spot_from (unit + units front) (object_parts 0 objects) o
  passes unit [] o other h = let u : unit ≡ unit + 0 = omega arith in ap (λ u. spot_from u (object_parts 0 objects) o) u
  passes unit (p ∷ front) o other h =
      let hs = and_parts (is_no_object p.owner) (have_no_object front) h in
      let u : unit + suc p.more + units front ≡ unit + units (p ∷ front) = omega arith in
      found_behind unit p (front ++ object_parts 0 objects) o (other p hs.0)
      ∙ passes (unit + suc p.more) front o other hs.1
      ∙ ap (λ u. spot_from u (object_parts 0 objects) o) u

  no_pair : (n : ℕ) (p : Part) → is_no_object p.owner ≡ true → same_owner p.owner (a_pair n) ≡ false
  no_pair n p h = by p.owner h
    where
      by : (o : Owner) → is_no_object o ≡ true → same_owner o (a_pair n) ≡ false
      by (a_procedure k) h = refl
      by (a_cell k) h = refl
      by (a_pair k) h = absurd (let bad : false ≡ true = h in cc)
      by (a_vector k) h = refl
      by (a_string k) h = refl

  no_vector : (n : ℕ) (p : Part) → is_no_object p.owner ≡ true → same_owner p.owner (a_vector n) ≡ false
  no_vector n p h = by p.owner h
    where
      by : (o : Owner) → is_no_object o ≡ true → same_owner o (a_vector n) ≡ false
      by (a_procedure k) h = refl
      by (a_cell k) h = refl
      by (a_pair k) h = refl
      by (a_vector k) h = absurd (let bad : false ≡ true = h in cc)
      by (a_string k) h = refl

  no_string : (n : ℕ) (p : Part) → is_no_object p.owner ≡ true → same_owner p.owner (a_string n) ≡ false
  no_string n p h = by p.owner h
    where
      by : (o : Owner) → is_no_object o ≡ true → same_owner o (a_string n) ≡ false
      by (a_procedure k) h = refl
      by (a_cell k) h = refl
      by (a_pair k) h = refl
      by (a_vector k) h = refl
      by (a_string k) h = absurd (let bad : false ≡ true = h in cc)

  -- their own parts, and those behind parts of procedures and cells
  pub own_spotted : AreSpotted (parts_at first objects) first objects
  own_spotted = record { pairs = λ n. refl; vectors = λ n. refl; strings = λ n. refl }

pub spotted_behind : (symbols first : ℕ) (front : List Part) (objects : List Object) → have_no_object front ≡ true
    → AreSpotted (record { first = first; list = front ++ object_parts 0 objects; symbols = symbols }) (first + units front) objects
spotted_behind symbols first front objects h = record {
  pairs = λ n. passes first objects first front (a_pair n) (no_pair first objects n) h;
  vectors = λ n. passes first objects first front (a_vector n) (no_vector first objects n) h;
  strings = λ n. passes first objects first front (a_string n) (no_string first objects n) h;
}

-- ---- procedures and cells

no_object_here : (n : ℕ) (x : Object) (o : Owner) → is_no_object o ≡ true → same_owner (owner_of n x) o ≡ false
no_object_here n (pair a d) (a_procedure k) h = refl
no_object_here n (pair a d) (a_cell k) h = refl
no_object_here n (vector es) (a_procedure k) h = refl
no_object_here n (vector es) (a_cell k) h = refl
no_object_here n (string bytes) (a_procedure k) h = refl
no_object_here n (string bytes) (a_cell k) h = refl
no_object_here n x (a_pair k) h = absurd (let bad : false ≡ true = h in cc)
no_object_here n x (a_vector k) h = absurd (let bad : false ≡ true = h in cc)
no_object_here n x (a_string k) h = absurd (let bad : false ≡ true = h in cc)

-- they have no part among those of objects
pub no_object_spot : (unit m : ℕ) (objects : List Object) (o : Owner) → is_no_object o ≡ true → spot_from unit (object_parts m objects) o ≡ None
no_object_spot unit m [] o h = refl
no_object_spot unit m (x ∷ xs) o h =
    found_behind unit (object_part m x) (object_parts (suc m) xs) o (no_object_here m x o h) ∙ no_object_spot (unit + suc (object_more x)) (suc m) xs o h

-- and are where they are in the parts in front
pub front_spot : (unit m : ℕ) (front : List Part) (objects : List Object) (o : Owner) → is_no_object o ≡ true → spot_from unit (front ++ object_parts m objects) o ≡ spot_from unit front o
front_spot unit m [] objects o h = no_object_spot unit m objects o h
front_spot unit m (p ∷ front) objects o h = ap (λ s. cond (same_owner p.owner o) (Some (record { unit = unit; more = p.more })) s) (front_spot (unit + suc p.more) m front objects o h)
