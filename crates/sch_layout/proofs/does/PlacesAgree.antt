-- What a body's places hold: the values of its live variables, and where it returns; and the same of what is saved.
use Rattle.std.proofs.Common.{◌≡◌, ℕ, zero, suc, List, [], ◌∷◌, length, Option, Some, None, Bool, true, false, cond, refl, sym, ap, ◌∙◌, subst, arith, ◌⊎◌, inl, inr}
use Rattle.std.specs.Prelude.{nat_eq}
use Rattle.std.proofs.lemmas.Bool.{eqb-true, eqb-false, eq-eqb, ne_eqb}
use Rattle.std.proofs.lemmas.Option.{none-some}
use Rattle.sch_word.specs.declared.place.Place.{Place}
use Rattle.sch_word.specs.declared.place.Place.TheVariants.{Reg, Slot}
use Rattle.sch_word.specs.trees.NumberSets.{has}
use Rattle.sch_word.specs.values.Values.{Value}
use Rattle.sch_word.proofs.facts.Booleans.{false_true, neither, or_left, or_right}
use Rattle.sch_control.specs.flow.Apart.{EachHas}
use Rattle.sch_control.specs.declared.operation.Atom.{Atom}
use Rattle.sch_control.specs.declared.operation.Atom.TheVariants.{Constant, Literal, Variable}
use Rattle.sch_control.specs.declared.operation.Member.{Member}
use Rattle.sch_control.specs.Meaning.{Environment, put, put_each}
use Rattle.sch_control.specs.Valid.{member_variables}
use Rattle.sch_frames.specs.Does.{Follows}
use Rattle.sch_frames.specs.Meaning.{Cell, Is, Link, Junk, Frame, value_in, held, set, with_place, with_members}
use Rattle.sch_word.specs.values.Places.{same_place, is_slot}
use Rattle.sch_frames.specs.Meaning as frames
use Rattle.sch_frames.proofs.FramePlaces.{set_other, set_self}
use Rattle.sch_layout.specs.BodyLayout.{Plan, members_at}
use Rattle.sch_control.specs.flow.Live.{Mentions, Across}
use Rattle.sch_control.proofs.Environments.{put_same, put_other}
use Rattle.sch_layout.specs.SharedPlaces.{Homes, Alone}
use Rattle.sch_layout.specs.Laws.{AtomsHave, Behind, MembersUse}

-- a variable behind the return address that is live
abbrev pub Lives : (live : ℕ → Type 0) → ℕ → Type 0
Lives live x = Behind x × live x

-- atoms whose variables are live
pub atoms_live : (live : ℕ → Type 0) (atoms : List (Atom ℕ)) → AtomsHave Behind atoms → ((x : ℕ) → Mentions x atoms → live x) → AtomsHave (Lives live) atoms
atoms_live live [] u h = tt
atoms_live live (Constant c ∷ atoms) u h = (tt, atoms_live live atoms u.1 h)
atoms_live live (Literal n ∷ atoms) u h = (tt, atoms_live live atoms u.1 h)
atoms_live live (Variable y ∷ atoms) u h = ((u.0, h y (or_left (nat_eq y y) _ (eq-eqb y y refl))), atoms_live live atoms u.1 (λ x r. h x (or_right (nat_eq x y) _ r)))

-- ## Places

-- what the place of a variable holds that has a value: variable 0 is where to return
abbrev pub meant : ℕ → Value → Cell
meant zero v = Link
meant (suc x) v = Is v

-- each live variable that has a value has it in its place, and one that is kept and lives in a register has what is saved of it
-- in its home
pub record Agrees (plan : Plan) (live kept : ℕ → Type 0) (environment saved : Environment) (places : Place → Cell) : Type 0 where
  pub here : (x : ℕ) (v : Value) → live x → environment x ≡ Some v → places (plan.place x) ≡ meant x v
  pub home : (x : ℕ) (v : Value) → is_slot (plan.place x) ≡ false → kept x → saved x ≡ Some v → places (plan.home x) ≡ meant x v

-- what is kept where some variables are saved that are live
abbrev pub Stored : List ℕ → (live kept : ℕ → Type 0) → ℕ → Type 0
Stored xs live kept x = live x × ((has x xs ≡ true) ⊎ kept x)

-- the same where it is one
abbrev pub StoredOne : ℕ → (live kept : ℕ → Type 0) → ℕ → Type 0
StoredOne x live kept y = live y × ((y ≡ x) ⊎ kept y)

other_kept : (x y : ℕ) (live kept : ℕ → Type 0) → nat_eq y x ≡ false → StoredOne x live kept y → kept y
other_kept x y live kept i (l, inl e) = absurd (eqb-false y x i e)
other_kept x y live kept i (l, inr k) = k

pub flipped : (p q : Place) → same_place p q ≡ false → same_place q p ≡ false
flipped (Reg a) (Reg b) e = ne_eqb b a (λ i. eqb-false a b e (sym i))
flipped (Slot a) (Slot b) e = ne_eqb b a (λ i. eqb-false a b e (sym i))
flipped (Reg a) (Slot b) e = refl
flipped (Slot a) (Reg b) e = refl

-- what two equal values mean
abbrev meant_by : ℕ → Option Value → Cell
meant_by x None = Junk
meant_by x (Some v) = meant x v

pub same_meant : (x : ℕ) (v u : Value) → Some v ≡ Some u → meant x v ≡ meant x u
same_meant x v u e = ap (meant_by x) e

module _ (plan : Plan) where
  -- environments that are the same at each variable agree alike
  pub agrees_as : {live kept : ℕ → Type 0} {environment environment' saved saved' : Environment} {places : Place → Cell} → ((x : ℕ) → environment' x ≡ environment x) → ((x : ℕ) → saved' x ≡ saved x)
      → Agrees plan live kept environment saved places → Agrees plan live kept environment' saved' places
  agrees_as e e' r = record { here = λ x v l h. r.here x v l (sym (e x) ∙ h); home = λ x v s k h. r.home x v s k (sym (e' x) ∙ h) }

  -- fewer variables are live, and fewer are kept
  pub agrees_on : {live live' kept kept' : ℕ → Type 0} {environment saved : Environment} {places : Place → Cell} → ((x : ℕ) → live' x → live x) → ((x : ℕ) → kept' x → kept x)
      → Agrees plan live kept environment saved places → Agrees plan live' kept' environment saved places
  agrees_on f g r = record { here = λ x v l h. r.here x v (f x l) h; home = λ x v s k h. r.home x v s (g x k) h }

  pub found : (live : ℕ → Type 0) {kept : ℕ → Type 0} {environment saved : Environment} (f : Frame) → Agrees plan live kept environment saved f.places → (x : ℕ) → Lives live x → Follows (environment x) (held f (plan.place x))
  found live {kept} {environment} f r zero b = absurd b.0
  found live {kept} {environment} f r (suc x) b = by (environment (suc x)) refl where
    by : (o : Option Value) → environment (suc x) ≡ o → Follows o (held f (plan.place (suc x)))
    by None e = tt
    by (Some v) e = ap value_in (r.here (suc x) v b.1 e)

module _ (plan : Plan) (homes : Homes plan) where
  -- after a variable is bound and its place holds the value
  pub bound : (live : ℕ → Type 0) {kept : ℕ → Type 0} {environment saved : Environment} {places : Place → Cell} (x : ℕ) → Agrees plan (λ y. Across x y (live y)) kept environment saved places → Alone plan live x
      → (v : Value) (c : Cell) → c ≡ meant x v → Agrees plan live kept (put environment x v) saved (set places (plan.place x) c)
  bound live {kept} {environment} {saved} {places} x r free v c e = record {
    here = λ y u l h. by y u l (nat_eq y x) refl h;
    home = λ y u s k h. set_other places (plan.place x) (plan.home y) c ((homes.home y s).places x) ∙ r.home y u s k h;
  } where
    by : (y : ℕ) (u : Value) → live y → (t : Bool) → nat_eq y x ≡ t → put environment x v y ≡ Some u → set places (plan.place x) c (plan.place y) ≡ meant y u
    by y u l true i h =
        subst (λ z. put environment x v z ≡ Some u → set places (plan.place x) c (plan.place z) ≡ meant z u) (sym (eqb-true y x i))
        (λ h. set_self places (plan.place x) c ∙ (e ∙ same_meant x v u (sym (put_same environment x v) ∙ h))) h
    by y u l false i h =
        set_other places (plan.place x) (plan.place y) c (free y l (eqb-false y x i))
        ∙ r.here y u (eqb-false y x i, l) (sym (put_other environment x v y (eqb-false y x i)) ∙ h)

  -- after a group is bound and its places hold its values
  pub members_bound : (live : ℕ → Type 0) {kept : ℕ → Type 0} (members : List (Member ℕ)) (vs : List Value) → length vs ≡ length members → (environment saved : Environment) (f : Frame) → MembersUse Behind members
      → EachHas (Alone plan live) (member_variables members) → Agrees plan (λ x. (has x (member_variables members) ≡ false) × live x) kept environment saved f.places
      → Agrees plan live kept (put_each environment members vs) saved (with_members f (members_at plan.place members) vs).places
  members_bound live [] vs l environment saved f u free r = agrees_on plan (λ x l. (refl, l)) (λ x k. k) r
  members_bound live (m ∷ members) [] l environment saved f u free r = absurd (cc)
  members_bound live (m ∷ members) (v ∷ vs) l environment saved f u free r =
      members_bound live members vs (omega (arith, l)) (put environment m.at v) saved (with_place f (plan.place m.at) (Is v)) u.1 free.1
      (bound (λ x. (has x (member_variables members) ≡ false) × live x) m.at
      (agrees_on plan (λ x h. (neither (nat_eq x m.at) _ (ne_eqb x m.at h.0) h.1.0, h.1.1)) (λ x k. k) r) (λ x h n. free.0 x h.1 n) v (Is v) (is_meant m.at u.0)) where
        is_meant : (x : ℕ) → Behind x → Is v ≡ meant x v
        is_meant zero b = absurd b
        is_meant (suc x) b = refl

  -- ## Saves and restores

  -- after a variable is stored in its home: what it has there is right if it is live
  pub one_stored : (live kept : ℕ → Type 0) {environment saved : Environment} {places : Place → Cell} → Agrees plan live kept environment saved places → (x : ℕ) → is_slot (plan.place x) ≡ false
      → Agrees plan live (StoredOne x live kept) environment (λ z. cond (nat_eq z x) (environment z) (saved z)) (set places (plan.home x) (places (plan.place x)))
  one_stored live kept {environment} {saved} {places} r x s = record {
    here = λ y u l h. set_other places (plan.home x) (plan.place y) _ (flipped (plan.home x) (plan.place y) ((homes.home x s).places y)) ∙ r.here y u l h;
    home = λ y u s' k h. by y u s' k (nat_eq y x) refl h;
  } where
    by : (y : ℕ) (u : Value) → is_slot (plan.place y) ≡ false → StoredOne x live kept y → (t : Bool) → nat_eq y x ≡ t → cond t (environment y) (saved y) ≡ Some u
        → set places (plan.home x) (places (plan.place x)) (plan.home y) ≡ meant y u
    by y u s' k true i h =
        subst (λ z. live z → environment z ≡ Some u → set places (plan.home x) (places (plan.place x)) (plan.home z) ≡ meant z u) (sym (eqb-true y x i))
        (λ l h. set_self places (plan.home x) (places (plan.place x)) ∙ r.here x u l h) k.0 h
    by y u s' k false i h = set_other places (plan.home x) (plan.home y) _ ((homes.home y s').homes x s (eqb-false y x i)) ∙ r.home y u s' (other_kept x y live kept i k) h

  -- a variable that lives in a slot need not be stored
  pub slot_stored : (live kept : ℕ → Type 0) {environment saved : Environment} {places : Place → Cell} → Agrees plan live kept environment saved places → (x : ℕ) → is_slot (plan.place x) ≡ true
      → Agrees plan live (StoredOne x live kept) environment (λ z. cond (nat_eq z x) (environment z) (saved z)) places
  slot_stored live kept {environment} {saved} {places} r x s = record { here = r.here; home = λ y u s' k h. by y u s' k (nat_eq y x) refl h } where
    by : (y : ℕ) (u : Value) → is_slot (plan.place y) ≡ false → StoredOne x live kept y → (t : Bool) → nat_eq y x ≡ t → cond t (environment y) (saved y) ≡ Some u → places (plan.home y) ≡ meant y u
    by y u s' k true i h = absurd (false_true s (subst (λ z. is_slot (plan.place z) ≡ false) (eqb-true y x i) s'))
    by y u s' k false i h = r.home y u s' (other_kept x y live kept i k) h

  -- one variable, or some, have what is saved of them, if they live in registers
  abbrev pub reloaded_one : ℕ → Environment → Environment → Environment
  reloaded_one y environment saved x = cond (is_slot (plan.place x)) (environment x) (cond (nat_eq x y) (saved x) (environment x))

  -- after a variable is loaded from its home, where nothing else lives that is live: what it has then is right if it is live
  pub one_loaded : (live : ℕ → Type 0) {kept : ℕ → Type 0} {environment saved : Environment} {places : Place → Cell} → Agrees plan live kept environment saved places → (y : ℕ) → (live y → kept y) → Alone plan live y → is_slot (plan.place y) ≡ false
      → Agrees plan live kept (reloaded_one y environment saved) saved (set places (plan.place y) (places (plan.home y)))
  one_loaded live {kept} {environment} {saved} {places} r y at free s = record {
    here = λ x v l h. by x v l (is_slot (plan.place x)) (nat_eq x y) refl refl h;
    home = λ x v s' k h. set_other places (plan.place y) (plan.home x) _ ((homes.home x s').places y) ∙ r.home x v s' k h;
  } where
    other : (x : ℕ) (v : Value) → live x → nat_eq x y ≡ false → environment x ≡ Some v → set places (plan.place y) (places (plan.home y)) (plan.place x) ≡ meant x v
    other x v l i h = set_other places (plan.place y) (plan.place x) _ (free x l (eqb-false x y i)) ∙ r.here x v l h

    by : (x : ℕ) (v : Value) → live x → (t q : Bool) → is_slot (plan.place x) ≡ t → nat_eq x y ≡ q → cond t (environment x) (cond q (saved x) (environment x)) ≡ Some v
        → set places (plan.place y) (places (plan.home y)) (plan.place x) ≡ meant x v
    by x v l true true e i h = absurd (false_true e (subst (λ z. is_slot (plan.place z) ≡ false) (sym (eqb-true x y i)) s))
    by x v l true false e i h = other x v l i h
    by x v l false true e i h =
        subst (λ z. live z → saved z ≡ Some v → set places (plan.place y) (places (plan.home y)) (plan.place z) ≡ meant z v) (sym (eqb-true x y i))
        (λ l h. set_self places (plan.place y) (places (plan.home y)) ∙ r.home y v s (at l) h) l h
    by x v l false false e i h = other x v l i h

  -- a variable that lives in a slot has its value there
  pub slot_loaded : (live : ℕ → Type 0) {kept : ℕ → Type 0} {environment saved : Environment} {places : Place → Cell} → Agrees plan live kept environment saved places → (y : ℕ) → is_slot (plan.place y) ≡ true
      → Agrees plan live kept (reloaded_one y environment saved) saved places
  slot_loaded live {kept} {environment} {saved} {places} r y s = record { here = λ x v l h. by x v l (is_slot (plan.place x)) (nat_eq x y) refl refl h; home = r.home } where
    by : (x : ℕ) (v : Value) → live x → (t q : Bool) → is_slot (plan.place x) ≡ t → nat_eq x y ≡ q → cond t (environment x) (cond q (saved x) (environment x)) ≡ Some v → places (plan.place x) ≡ meant x v
    by x v l true q e i h = r.here x v l h
    by x v l false true e i h = absurd (false_true s (subst (λ z. is_slot (plan.place z) ≡ false) (eqb-true x y i) e))
    by x v l false false e i h = r.here x v l h

  -- after a call, in a frame where the slots of what is live and those of what is saved hold what they held
  pub agrees_left : (live : ℕ → Type 0) {kept : ℕ → Type 0} {environment saved : Environment} (places places' : Place → Cell) → Agrees plan live kept environment saved places
      → ((x : ℕ) → live x → is_slot (plan.place x) ≡ true → places' (plan.place x) ≡ places (plan.place x))
      → ((x : ℕ) → is_slot (plan.place x) ≡ false → places' (plan.home x) ≡ places (plan.home x))
      → Agrees plan live kept (λ x. cond (is_slot (plan.place x)) (environment x) None) saved (frames.kept places')
  agrees_left live {kept} {environment} {saved} places places' r k j = record {
    here = λ x v l h. by x v l (is_slot (plan.place x)) refl h;
    home = λ x v s at h. slot (plan.home x) (homes.home x s).in_slot ∙ j x s ∙ r.home x v s at h;
  } where
    slot : (p : Place) → is_slot p ≡ true → frames.kept places' p ≡ places' p
    slot (Reg r) s = absurd (cc)
    slot (Slot j) s = refl

    by : (x : ℕ) (v : Value) → live x → (t : Bool) → is_slot (plan.place x) ≡ t → cond t (environment x) None ≡ Some v → frames.kept places' (plan.place x) ≡ meant x v
    by x v l true s h = slot (plan.place x) s ∙ k x l s ∙ r.here x v l h
    by x v l false s h = absurd (none-some v h)
