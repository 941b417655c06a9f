-- The walk over a sketch finds its draft where it has no fault, and a least fault otherwise.
use Rattle.std.proofs.Common.{◌≡◌, ◌⊎◌, inl, inr, ◌≤◌, ◌+◌, ℕ, suc, zero, Bool, true, false, cond, [], ◌∷◌, Option, None, nat_le, refl, sym, ap, subst, arith}
use Rattle.sch_word.specs.trees.Shape.{max_levels, max_operands}
use Rattle.sch_word.proofs.facts.Booleans.{false_true}
use Rattle.sch_names.specs.Scope.{Scope, Globals}
use Rattle.sch_sketch.specs.declared.fault.Fault.{Fault}
use Rattle.sch_sketch.specs.declared.fault.Fault.TheVariants.{Operands, Core}
use Rattle.sch_sketch.specs.declared.sketch.Position.{Position}
use Rattle.sch_sketch.specs.Draft.{Draft, Drafts, no_drafts, and_draft}
use Rattle.sch_sketch.specs.Measure.{sketch_measure, sketches_measure}
use Rattle.sch_expansion.specs.Outline.{outline_datum, outline}
use Rattle.sch_sketch.specs.Sketch.{Kind, Sketch, Sketches, text, rest, wrong, leaf, node, limited, no_sketch, and_sketch, how_many_parts, is_end, scope_in, position_in, width, assemble, nothing}
use Rattle.sch_expansion.proofs.Falls.{datum_falls, rest_falls}
use Rattle.sch_expansion.specs.FaultOrder.{reported, all_reported}
use Rattle.sch_expansion.specs.Expands.{IsLevel, AreFew, Expands, PartsExpand}
use Rattle.sch_expansion.specs.Expands as ex
use Rattle.sch_expansion.specs.Faults.{HasFault, PartHasFault}
use Rattle.sch_expansion.specs.Faults as no
use Rattle.sch_expansion.specs.Reads.{Reads, PartsRead, operand_faults}
use Rattle.sch_expansion.specs.Reads as re
use Rattle.sch_expansion.proofs.Best.{Best, none_new, and_then, best_by, one_new, none_before, none_reported}

and_eq : {a a' : Draft} {b b' : Drafts} → a ≡ a' → b ≡ b' → and_draft a b ≡ and_draft a' b'
and_eq e f = cc

-- ## At most one draft, and none where there is a fault

module _ (globals : Globals) where
  mutual
    pub unique : {n : ℕ} {s : Scope} {t : Position} {k : Sketch} {e e' : Draft} → Expands globals n s t k e → Expands globals n s t k e' → e ≡ e'
    unique (ex.a_datum n s t d e p) (ex.a_datum _ _ _ _ e' q) = unique p q
    unique (ex.a_rest n s t r at xs ys e p) (ex.a_rest _ _ _ _ _ _ _ e' q) = unique p q
    unique (ex.a_leaf n s t at e l) (ex.a_leaf _ _ _ _ _ m) = refl
    unique (ex.a_node n s t k at ks es l w p) (ex.a_node _ _ _ _ _ _ es' m v q) = ap (assemble k) (unique_each p q)
    unique (ex.within n s t at m k e w p) (ex.within _ _ _ _ _ _ e' v q) = unique p q

    unique_each : {k : Kind} {first : Bool} {n : ℕ} {s : Scope} {t : Position} {ks : Sketches} {es es' : Drafts} →
        PartsExpand globals k first n s t ks es → PartsExpand globals k first n s t ks es' → es ≡ es'
    unique_each (ex.no_part k first n s t) (ex.no_part _ _ _ _ _) = refl
    unique_each (ex.and_part k first n s t p ps e es x y) (ex.and_part _ _ _ _ _ _ _ e' es' x' y') = and_eq (unique x x') (unique_each y y')

  mutual
    pub clean : {n : ℕ} {s : Scope} {t : Position} {k : Sketch} {e : Draft} {f : Fault} → Expands globals n s t k e → HasFault globals n s t k f → ⊥
    clean (ex.a_datum n s t d e p) (no.in_datum _ _ _ _ f q) = clean p q
    clean (ex.a_rest n s t r at xs ys e p) (no.in_rest _ _ _ _ _ _ _ f q) = clean p q
    clean (ex.a_leaf n s t at e l) (no.leaf_deep _ _ _ _ _ m) = false_true l m
    clean (ex.a_node n s t k at ks es l w p) (no.node_deep _ _ _ _ _ _ m) = false_true l m
    clean (ex.a_node n s t k at ks es l w p) (no.node_wide _ _ _ _ _ _ v) = false_true w v
    clean (ex.a_node n s t k at ks es l w p) (no.in_node _ _ _ _ _ _ f m q) = clean_each p q
    clean (ex.within n s t at m k e w p) (no.too_many _ _ _ _ _ _ v) = false_true w v
    clean (ex.within n s t at m k e w p) (no.in_limited _ _ _ _ _ _ f q) = clean p q

    clean_each : {k : Kind} {first : Bool} {n : ℕ} {s : Scope} {t : Position} {ks : Sketches} {es : Drafts} {f : Fault} →
        PartsExpand globals k first n s t ks es → PartHasFault globals k first n s t ks f → ⊥
    clean_each (ex.no_part k first n s t) h = elim h [ ]
    clean_each (ex.and_part k first n s t p ps e es x y) (no.here _ _ _ _ _ _ _ f q) = clean x q
    clean_each (ex.and_part k first n s t p ps e es x y) (no.there _ _ _ _ _ _ _ f q) = clean_each y q

  -- ## The walk finds one thing

  mutual
    pub one_fault : {n : ℕ} {s : Scope} {t : Position} {k : Sketch} {a b b' : Option Fault} {e e' : Draft} → Reads globals n s t k a b e → Reads globals n s t k a b' e' → b ≡ b'
    one_fault (re.reads_datum n s t d a b e p) (re.reads_datum _ _ _ _ _ b' e' q) = one_fault p q
    one_fault (re.reads_rest n s t r at xs ys a b e p) (re.reads_rest _ _ _ _ _ _ _ _ b' e' q) = one_fault p q
    one_fault (re.reads_wrong n s t f a) (re.reads_wrong _ _ _ _ _) = refl
    one_fault (re.reads_leaf n s t at e a) (re.reads_leaf _ _ _ _ _ _) = refl
    one_fault (re.reads_limited n s t at count k a b e p) (re.reads_limited _ _ _ _ _ _ _ b' e' q) = one_fault p q
    one_fault (re.reads_deep n s t k at ks a l) (re.reads_deep _ _ _ _ _ _ _ m) = refl
    one_fault (re.reads_deep n s t k at ks a l) (re.reads_node _ _ _ _ _ _ _ b es m q) = absurd (false_true m l)
    one_fault (re.reads_node n s t k at ks a b es l p) (re.reads_deep _ _ _ _ _ _ _ m) = absurd (false_true l m)
    one_fault (re.reads_node n s t k at ks a b es l p) (re.reads_node _ _ _ _ _ _ _ b' es' m q) = one_fault_each p q

    one_fault_each : {k : Kind} {first : Bool} {n : ℕ} {s : Scope} {t : Position} {ks : Sketches} {a b b' : Option Fault} {es es' : Drafts} →
        PartsRead globals k first n s t ks a b es → PartsRead globals k first n s t ks a b' es' → b ≡ b'
    one_fault_each (re.reads_none k first n s t a) (re.reads_none _ _ _ _ _ _) = refl
    one_fault_each (re.reads_part k first n s t p ps a m b e es x y) (re.reads_part _ _ _ _ _ _ _ _ m' b' e' es' x' y') =
        let i = one_fault x x' in one_fault_each (subst (λ o. PartsRead globals k false n s t ps o b es) i y) y'

  mutual
    pub one_draft : {n : ℕ} {s : Scope} {t : Position} {k : Sketch} {a b b' : Option Fault} {e e' : Draft} → Reads globals n s t k a b e → Reads globals n s t k a b' e' → e ≡ e'
    one_draft (re.reads_datum n s t d a b e p) (re.reads_datum _ _ _ _ _ b' e' q) = one_draft p q
    one_draft (re.reads_rest n s t r at xs ys a b e p) (re.reads_rest _ _ _ _ _ _ _ _ b' e' q) = one_draft p q
    one_draft (re.reads_wrong n s t f a) (re.reads_wrong _ _ _ _ _) = refl
    one_draft (re.reads_leaf n s t at e a) (re.reads_leaf _ _ _ _ _ _) = refl
    one_draft (re.reads_limited n s t at count k a b e p) (re.reads_limited _ _ _ _ _ _ _ b' e' q) = one_draft p q
    one_draft (re.reads_deep n s t k at ks a l) (re.reads_deep _ _ _ _ _ _ _ m) = refl
    one_draft (re.reads_deep n s t k at ks a l) (re.reads_node _ _ _ _ _ _ _ b es m q) = absurd (false_true m l)
    one_draft (re.reads_node n s t k at ks a b es l p) (re.reads_deep _ _ _ _ _ _ _ m) = absurd (false_true l m)
    one_draft (re.reads_node n s t k at ks a b es l p) (re.reads_node _ _ _ _ _ _ _ b' es' m q) = ap (assemble k) (one_draft_each p q)

    one_draft_each : {k : Kind} {first : Bool} {n : ℕ} {s : Scope} {t : Position} {ks : Sketches} {a b b' : Option Fault} {es es' : Drafts} →
        PartsRead globals k first n s t ks a b es → PartsRead globals k first n s t ks a b' es' → es ≡ es'
    one_draft_each (re.reads_none k first n s t a) (re.reads_none _ _ _ _ _ _) = refl
    one_draft_each (re.reads_part k first n s t p ps a m b e es x y) (re.reads_part _ _ _ _ _ _ _ _ m' b' e' es' x' y') =
        let i = one_fault x x' in and_eq (one_draft x x') (one_draft_each (subst (λ o. PartsRead globals k false n s t ps o b es) i y) y')

-- ## Faults by their sketches

module _ (globals : Globals) {n : ℕ} {s : Scope} {t : Position} where
  wrong_is : {f g : Fault} → HasFault globals n s t (wrong f) g → g ≡ f
  wrong_is (no.is_wrong _ _ _ f) = refl

  leaf_is : {at : ℕ} {e : Draft} {g : Fault} → HasFault globals n s t (leaf at e) g → (nat_le n max_levels ≡ false) × (g ≡ Core at)
  leaf_is (no.leaf_deep _ _ _ at e m) = (m, refl)

  limited_is : {at count : ℕ} {k : Sketch} {g : Fault} → HasFault globals n s t (limited at count k) g →
      ((nat_le count max_operands ≡ false) × (g ≡ Operands at)) ⊎ HasFault globals n s t k g
  limited_is (no.too_many _ _ _ at count k m) = inl (m, refl)
  limited_is (no.in_limited _ _ _ at count k g q) = inr q

  node_is : {k : Kind} {at : ℕ} {ks : Sketches} {g : Fault} → HasFault globals n s t (node k at ks) g →
      ((nat_le n max_levels ≡ false) × (g ≡ Core at)) ⊎
      (((nat_le (width k (how_many_parts ks)) max_operands ≡ false) × (g ≡ Operands at)) ⊎ ((nat_le n max_levels ≡ true) × PartHasFault globals k true (n + 1) s t ks g))
  node_is (no.node_deep _ _ _ k at ks m) = inl (m, refl)
  node_is (no.node_wide _ _ _ k at ks m) = inr (inl (m, refl))
  node_is (no.in_node _ _ _ k at ks g m q) = inr (inr (m, q))

-- ## The least fault

module _ (globals : Globals) (n : ℕ) (s : Scope) (t : Position) where
  leaf_best : (at : ℕ) (e : Draft) (a : Option Fault) (c : Bool) → nat_le n max_levels ≡ c → Best (HasFault globals n s t (leaf at e)) a (all_reported (cond c [] (Core at ∷ [])) a)
  leaf_best at e a true l = best_by (λ g h. absurd h) (λ g h. absurd (false_true l (leaf_is globals h).0)) (none_new a)
  leaf_best at e a false l =
      best_by (λ g h. subst (λ u. HasFault globals n s t (leaf at e) u) (sym h) (no.leaf_deep n s t at e l)) (λ g h. (leaf_is globals h).1) (one_new (Core at) a)

  limited_best : (at count : ℕ) (k : Sketch) (a b : Option Fault) (c : Bool) → nat_le count max_operands ≡ c →
      Best (HasFault globals n s t k) (all_reported (cond c [] (Operands at ∷ [])) a) b → Best (HasFault globals n s t (limited at count k)) a b
  limited_best at count k a b true l p =
      best_by (λ g h. no.in_limited n s t at count k g h) (λ g h. elim (limited_is globals h) [ inl m ↦ absurd (false_true l m.0) | inr q ↦ q ]) p
  limited_best at count k a b false l p =
      best_by (λ g h. elim h [ inl i ↦ subst (λ u. HasFault globals n s t (limited at count k) u) (sym i) (no.too_many n s t at count k l) | inr q ↦ no.in_limited n s t at count k g q ])
      (λ g h. elim (limited_is globals h) [ inl m ↦ inl m.1 | inr q ↦ inr q ]) (and_then (one_new (Operands at) a) p)

  deep_best : (k : Kind) (at : ℕ) (ks : Sketches) (a : Option Fault) (c : Bool) → nat_le (width k (how_many_parts ks)) max_operands ≡ c → nat_le n max_levels ≡ false →
      Best (HasFault globals n s t (node k at ks)) a (reported (Core at) (all_reported (cond c [] (Operands at ∷ [])) a))
  deep_best k at ks a true w l =
      best_by (λ g h. subst (λ u. HasFault globals n s t (node k at ks) u) (sym h) (no.node_deep n s t k at ks l))
      (λ g h. elim (node_is globals h) [ inl m ↦ m.1 | inr m ↦ elim m [ inl m ↦ absurd (false_true w m.0) | inr m ↦ absurd (false_true m.0 l) ] ]) (one_new (Core at) a)
  deep_best k at ks a false w l =
      best_by (λ g h. elim h [ inl i ↦ subst (λ u. HasFault globals n s t (node k at ks) u) (sym i) (no.node_wide n s t k at ks w) | inr i ↦ subst (λ u. HasFault globals n s t (node k at ks) u) (sym i) (no.node_deep n s t k at ks l) ])
      (λ g h. elim (node_is globals h) [ inl m ↦ inr m.1 | inr m ↦ elim m [ inl m ↦ inl m.1 | inr m ↦ absurd (false_true m.0 l) ] ])
      (and_then (one_new (Operands at) a) (one_new (Core at) _))

  node_best : (k : Kind) (at : ℕ) (ks : Sketches) (a b : Option Fault) (c : Bool) → nat_le (width k (how_many_parts ks)) max_operands ≡ c → nat_le n max_levels ≡ true →
      Best (PartHasFault globals k true (n + 1) s t ks) (all_reported (cond c [] (Operands at ∷ [])) a) b → Best (HasFault globals n s t (node k at ks)) a b
  node_best k at ks a b true w l r =
      best_by (λ g h. no.in_node n s t k at ks g l h)
      (λ g h. elim (node_is globals h) [ inl m ↦ absurd (false_true l m.0) | inr m ↦ elim m [ inl m ↦ absurd (false_true w m.0) | inr m ↦ m.1 ] ]) r
  node_best k at ks a b false w l r =
      best_by (λ g h. elim h [ inl i ↦ subst (λ u. HasFault globals n s t (node k at ks) u) (sym i) (no.node_wide n s t k at ks w) | inr q ↦ no.in_node n s t k at ks g l q ])
      (λ g h. elim (node_is globals h) [ inl m ↦ absurd (false_true l m.0) | inr m ↦ elim m [ inl m ↦ inl m.1 | inr m ↦ inr m.1 ] ])
      (and_then (one_new (Operands at) a) r)

module _ (globals : Globals) where
  mutual
    pub read_best : {n : ℕ} {s : Scope} {t : Position} {k : Sketch} {a b : Option Fault} {e : Draft} → Reads globals n s t k a b e → Best (HasFault globals n s t k) a b
    read_best (re.reads_datum n s t d a b e p) = best_by (λ f h. no.in_datum n s t d f h) (λ f h. elim h [ no.in_datum _ _ _ _ g q ↦ q ]) (read_best p)
    read_best (re.reads_rest n s t r at xs ys a b e p) =
        best_by (λ f h. no.in_rest n s t r at xs ys f h) (λ f h. elim h [ no.in_rest _ _ _ _ _ _ _ g q ↦ q ]) (read_best p)
    read_best (re.reads_wrong n s t f a) =
        best_by (λ g h. subst (λ u. HasFault globals n s t (wrong f) u) (sym h) (no.is_wrong n s t f)) (λ g h. wrong_is globals h) (one_new f a)
    read_best (re.reads_leaf n s t at e a) = leaf_best globals n s t at e a _ refl
    read_best (re.reads_limited n s t at count k a b e p) = limited_best globals n s t at count k a b _ refl (read_best p)
    read_best (re.reads_deep n s t k at ks a l) = deep_best globals n s t k at ks a _ refl l
    read_best (re.reads_node n s t k at ks a b es l p) = node_best globals n s t k at ks a b _ refl l (parts_best p)

    parts_best : {k : Kind} {first : Bool} {n : ℕ} {s : Scope} {t : Position} {ks : Sketches} {a b : Option Fault} {es : Drafts} →
        PartsRead globals k first n s t ks a b es → Best (PartHasFault globals k first n s t ks) a b
    parts_best (re.reads_none k first n s t a) = best_by (λ g h. absurd h) (λ g h. elim h [ ]) (none_new a)
    parts_best (re.reads_part k first n s t p ps a m b e es x y) =
        best_by (λ g h. elim h [ inl q ↦ no.here k first n s t p ps g q | inr q ↦ no.there k first n s t p ps g q ])
        (λ g h. elim h [ no.here _ _ _ _ _ _ _ _ q ↦ inl q | no.there _ _ _ _ _ _ _ _ q ↦ inr q ]) (and_then (read_best x) (parts_best y))

  -- ## The draft

  leaf_level : (n at : ℕ) (a : Option Fault) (c : Bool) → nat_le n max_levels ≡ c → all_reported (cond c [] (Core at ∷ [])) a ≡ None → IsLevel n
  leaf_level n at a true l i = l
  leaf_level n at a false l i = absurd (none_reported (Core at) a i)

  are_few : (at m : ℕ) (a : Option Fault) (c : Bool) → nat_le m max_operands ≡ c → all_reported (cond c [] (Operands at ∷ [])) a ≡ None → AreFew m
  are_few at m a true l i = l
  are_few at m a false l i = absurd (none_reported (Operands at) a i)

  mutual
    pub read_made : {n : ℕ} {s : Scope} {t : Position} {k : Sketch} {a b : Option Fault} {e : Draft} → Reads globals n s t k a b e → b ≡ None → Expands globals n s t k e
    read_made (re.reads_datum n s t d a b e p) i = ex.a_datum n s t d e (read_made p i)
    read_made (re.reads_rest n s t r at xs ys a b e p) i = ex.a_rest n s t r at xs ys e (read_made p i)
    read_made (re.reads_wrong n s t f a) i = absurd (none_reported f a i)
    read_made (re.reads_leaf n s t at e a) i = ex.a_leaf n s t at e (leaf_level n at a _ refl i)
    read_made (re.reads_limited n s t at count k a b e p) i =
        ex.within n s t at count k e (are_few at count a _ refl (none_before (read_best p) i)) (read_made p i)
    read_made (re.reads_deep n s t k at ks a l) i = absurd (none_reported (Core at) _ i)
    read_made (re.reads_node n s t k at ks a b es l p) i =
        ex.a_node n s t k at ks es l (are_few at _ a _ refl (none_before (parts_best p) i)) (parts_made p i)

    parts_made : {k : Kind} {first : Bool} {n : ℕ} {s : Scope} {t : Position} {ks : Sketches} {a b : Option Fault} {es : Drafts} →
        PartsRead globals k first n s t ks a b es → b ≡ None → PartsExpand globals k first n s t ks es
    parts_made (re.reads_none k first n s t a) i = ex.no_part k first n s t
    parts_made (re.reads_part k first n s t p ps a m b e es x y) i =
        ex.and_part k first n s t p ps e es (read_made x (none_before (parts_best y) i)) (parts_made y i)

-- ## Each sketch is read

pub record IsReadFrom (globals : Globals) (n : ℕ) (s : Scope) (t : Position) (k : Sketch) (a : Option Fault) : Type 0 where
  pub after : Option Fault
  pub draft : Draft
  pub reads : Reads globals n s t k a after draft

record AreReadFrom (globals : Globals) (k : Kind) (first : Bool) (n : ℕ) (s : Scope) (t : Position) (ks : Sketches) (a : Option Fault) : Type 0 where
  after : Option Fault
  drafts : Drafts
  reads : PartsRead globals k first n s t ks a after drafts

module _ (globals : Globals) where
  abbrev Reading : ℕ → Type 0
  Reading fuel = (n : ℕ) (s : Scope) (t : Position) (k : Sketch) (a : Option Fault) → sketch_measure k ≤ fuel → IsReadFrom globals n s t k a

  read_each : (fuel : ℕ) → Reading fuel → (k : Kind) (first : Bool) (n : ℕ) (s : Scope) (t : Position) (ks : Sketches) (a : Option Fault) → sketches_measure ks ≤ fuel →
      AreReadFrom globals k first n s t ks a
  read_each fuel r k first n s t no_sketch a h = record { after = a; drafts = no_drafts; reads = re.reads_none k first n s t a }
  read_each fuel r k first n s t (and_sketch p ps) a h =
      let x = r n (scope_in k first (is_end ps) s) (position_in k first (is_end ps) t) p a (omega (arith, h)) in
      let y = read_each fuel r k false n s t ps x.after (omega (arith, h)) in
      record { after = y.after; drafts = and_draft x.draft y.drafts; reads = re.reads_part k first n s t p ps a x.after y.after x.draft y.drafts x.reads y.reads }

  node_read : (n : ℕ) (s : Scope) (t : Position) (k : Kind) (at : ℕ) (ks : Sketches) (a : Option Fault) (c : Bool) → nat_le n max_levels ≡ c →
      AreReadFrom globals k true (n + 1) s t ks (all_reported (operand_faults at (width k (how_many_parts ks))) a) → IsReadFrom globals n s t (node k at ks) a
  node_read n s t k at ks a true l r = record { after = r.after; draft = assemble k r.drafts; reads = re.reads_node n s t k at ks a r.after r.drafts l r.reads }
  node_read n s t k at ks a false l r = record { after = _; draft = nothing; reads = re.reads_deep n s t k at ks a l }

  some_read : (fuel : ℕ) → Reading fuel
  some_read fuel n s t (wrong f) a h = record { after = reported f a; draft = nothing; reads = re.reads_wrong n s t f a }
  some_read fuel n s t (leaf at e) a h = record { after = _; draft = e; reads = re.reads_leaf n s t at e a }
  some_read zero n s t (text d) a h = absurd (omega (arith, h, datum_falls globals s d))
  some_read (suc fuel) n s t (text d) a h =
      let x = some_read fuel n s t (outline_datum globals s d) a (omega (arith, h, datum_falls globals s d)) in
      record { after = x.after; draft = x.draft; reads = re.reads_datum n s t d a x.after x.draft x.reads }
  some_read zero n s t (rest r at xs ys) a h = absurd (omega (arith, h, rest_falls globals s t r at xs ys))
  some_read (suc fuel) n s t (rest r at xs ys) a h =
      let x = some_read fuel n s t (outline globals s t r at xs ys) a (omega (arith, h, rest_falls globals s t r at xs ys)) in
      record { after = x.after; draft = x.draft; reads = re.reads_rest n s t r at xs ys a x.after x.draft x.reads }
  some_read zero n s t (limited at count k) a h = absurd (omega (arith, h))
  some_read (suc fuel) n s t (limited at count k) a h =
      let x = some_read fuel n s t k (all_reported (operand_faults at count) a) (omega (arith, h)) in
      record { after = x.after; draft = x.draft; reads = re.reads_limited n s t at count k a x.after x.draft x.reads }
  some_read zero n s t (node k at ks) a h = absurd (omega (arith, h))
  some_read (suc fuel) n s t (node k at ks) a h =
      node_read n s t k at ks a _ refl (read_each fuel (λ n s t p b g. some_read fuel n s t p b g) k true (n + 1) s t ks _ (omega (arith, h)))

  pub is_read : (n : ℕ) (s : Scope) (t : Position) (k : Sketch) (a : Option Fault) → IsReadFrom globals n s t k a
  is_read n s t k a = some_read (sketch_measure k) n s t k a (omega arith)
