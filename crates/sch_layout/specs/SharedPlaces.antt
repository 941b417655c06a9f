-- What a plan owes to the tree that is laid out by it. Variables may share a place that are never live together.
use Rattle.std.specs.Prelude.{◌≡◌, ◌≢◌, ℕ, ◌+◌, ◌<◌, ◌≤◌, nat_lt, cond, length, Option, None, Some, Bool, true, false}
use Rattle.std.specs.Bool.{MatchBool}
use Rattle.sch_word.specs.declared.place.Place.{Place}
use Rattle.sch_control.specs.declared.body.Entry.{Entry}
use Rattle.sch_control.specs.declared.operation.Application.{Application}
use Rattle.sch_word.specs.trees.NumberSets.{has}
use Rattle.sch_word.specs.values.Registers.{argument_registers}
use Rattle.sch_control.specs.AtomsAndSites.{application_atoms}
use Rattle.sch_control.specs.Meaning.{binds, no_region, with_region}
use Rattle.sch_control.specs.Tree.{Expression, perform, bind, sequence, branch, fix, call, tail_call, return, end, save}
use Rattle.sch_control.specs.Valid.{member_variables}
use Rattle.sch_word.specs.values.Places.{same_place, is_slot, link_place}
use Rattle.sch_layout.specs.BodyLayout.{Plan, arguments_at, target}
use Rattle.sch_control.specs.flow.Places.{variable_arrival}
use Rattle.sch_layout.specs.Moves.{EachMove, Shuffled, is_own, reads_own}
use Rattle.sch_control.specs.flow.Apart.{Around, EachHas}
use Rattle.sch_control.specs.flow.Live.{Mentions, Perhaps, Across, Later, Live, nothing_later}

-- ## What is saved, whether it is live or not

-- A variable that lives in a register is saved in a slot of the frame. It is none in which a variable lives, and no other
-- variable is saved there.
pub record HomeApart (plan : Plan) (x : ℕ) : Type 0 where
  pub in_slot : is_slot (plan.home x) ≡ true
  pub own : is_own plan.limit (plan.home x) ≡ true
  pub places : (y : ℕ) → same_place (plan.home x) (plan.place y) ≡ false
  pub homes : (y : ℕ) → is_slot (plan.place y) ≡ false → x ≢ y → same_place (plan.home x) (plan.home y) ≡ false

-- The return address lives in LINK_REGISTER, and what lives in registers has homes.
pub record Homes (plan : Plan) : Type 0 where
  pub link : plan.place 0 ≡ link_place
  pub home : (x : ℕ) → is_slot (plan.place x) ≡ false → HomeApart plan x

-- ## What is live

module _ (plan : Plan) where
  -- no other variable that is live lives where this one does
  abbrev pub Alone : (live : ℕ → Type 0) → ℕ → Type 0
  Alone live y = (x : ℕ) → live x → x ≢ y → same_place (plan.place x) (plan.place y) ≡ false

  -- where it may be, each variable that is live lives in a place of the own frame
  abbrev pub Inside : (live : ℕ → Type 0) → Type 0
  Inside live = (x : ℕ) → live x → is_own plan.limit (plan.place x) ≡ true

  -- In a call a value may be set aside where no variable is saved and none lives that is live behind the call. What lives in
  -- registers does not matter.
  abbrev pub FreeInCall : (live : ℕ → Type 0) → Place → Type 0
  FreeInCall live p =
      ((x : ℕ) → live x → is_slot (plan.place x) ≡ true → same_place (plan.place x) p ≡ false)
      × ((x : ℕ) → is_slot (plan.place x) ≡ false → same_place (plan.home x) p ≡ false)

  -- in a tail call, anywhere but where the return address is
  abbrev pub FreeInTail : Place → Type 0
  FreeInTail p = same_place link_place p ≡ false

  -- The moves of a call are those of a shuffle of its arguments. They take what the own frame has and write targets and
  -- what is free.
  pub record Brings (tail : Bool) (Free : Place → Type 0) (a : Application ℕ) : Type 0 where
    pub shuffled : Shuffled (arguments_at plan.place a) (target tail plan.limit) (plan.moves tail a)
    pub reads : EachMove (λ m. reads_own plan.limit m.from ≡ true) (plan.moves tail a)
    pub writes : EachMove (λ m. MatchBool m.temp (Free m.to) (m.to ≡ target tail plan.limit m.argument)) (plan.moves tail a)
    pub inside : Inside (λ x. Mentions x (application_atoms a))

  -- What a plan owes to an expression, by what is live behind it: a variable that is bound or restored is alone in its
  -- place among what is live then, for a member of a group also what the fields of all of them are. `inside` has the
  -- variables of the regions round it, as a layout has them: what is restored is one of them, and what a region saves where it
  -- is bound is not live before. What is saved and is not live may be anything, as nobody reads it.
  abbrev pub Placed : Expression → (inside : ℕ → Bool) → Later → Type 0
  Placed (perform o) inside L = Unit {0}
  Placed (bind y a b) inside L =
      Alone (λ x. Live x b (L x)) y × (Placed a inside (λ x t. Across y x (Live x b (L x))) × Placed b inside L)
  Placed (sequence a b) inside L = Placed a inside (λ x t. Live x b (L x)) × Placed b inside L
  Placed (branch a b c) inside L =
      Placed a inside (λ x t. MatchBool t (Live x b (L x)) (Live x c (L x)))
      × (Placed b inside L × Placed c inside L)
  Placed (fix members e) inside L =
      EachHas (Alone (Around members (λ x. Live x e (L x)))) (member_variables members) × Placed e inside L
  Placed (call a restores) inside L =
      Brings false (FreeInCall (λ x. Perhaps (L x))) a
      × (Inside (λ x. Perhaps (L x)) × EachHas (λ x. (inside x ≡ true) × Alone (λ x. Perhaps (L x)) x) restores)
  Placed (tail_call a) inside L = Brings true FreeInTail a × (length a.operands ≤ length argument_registers + plan.limit)
  Placed (return e) inside L = Placed e inside (λ x t. x ≡ 0)
  Placed (end e) inside L = Placed e inside (λ x t. ⊥)
  Placed (save saves e) inside L =
      ((x : ℕ) → has x saves ≡ true → binds x e ≡ true → Live x e (L x) → ⊥) × Placed e (with_region saves inside) L

  -- ## Entries

  -- Where a variable stands just before one is brought into its place: it stands there itself if it is before that one,
  -- and else where it arrives.
  abbrev pub place_before : (before : ℕ) → ℕ → Place
  place_before before x = cond (nat_lt x before) (plan.place x) (variable_arrival x)

  -- A variable that is brought into its place comes where no other that is live stands, of those with which a body is
  -- entered. One that stays where it arrives comes nowhere.
  abbrev pub Arrives : (live : ℕ → Type 0) → (count : ℕ) → Type 0
  Arrives live count =
      (y : ℕ) → y < count → same_place (plan.place y) (variable_arrival y) ≡ false
      → (x : ℕ) → x < count → live x → x ≢ y → same_place (place_before y x) (plan.place y) ≡ false

-- ## Bodies

-- how many variables a body is entered with: a procedure's return address, its closure and its formals
abbrev pub entered_with : Option Entry → ℕ
entered_with None = 0
entered_with (Some e) = 2 + e.formals

-- All that a plan owes to a body, by how it is entered and by the tree that is laid out for it.
pub record PlacedBody (plan : Plan) (entry : Option Entry) (e : Expression) : Type 0 where
  pub homes : Homes plan
  pub arrives : Arrives plan (λ x. Live x e (nothing_later x)) (entered_with entry)
  pub placed : Placed plan e no_region nothing_later
