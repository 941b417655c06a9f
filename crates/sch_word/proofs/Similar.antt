-- Two languages side by side: computations that do the same from related states. What a pass proves is
-- stated by these words, and its proof is one lemma for each way to put computations together.
use Rattle.std.proofs.Common.{◌≡◌, ℕ, zero, suc, Bool, true, false, List, [], ◌∷◌, length, refl, ap, ◌∙◌}
use Rattle.std.specs.Prelude.{slice_get, slice_set, cond}
use Rattle.std.proofs.lemmas.List.{length-set}
use Rattle.sch_word.specs.declared.answer.Answer.{Answer}
use Rattle.sch_word.specs.declared.stop.Stop.{Stop}
use Rattle.sch_word.specs.values.Values.{Value, unspecified}
use Rattle.sch_word.proofs.Lengths.{blanks_length}
use Rattle.sch_word.specs.runs.Store.{Store}
use Rattle.sch_word.specs.runs.Runs.{seen_in}
use Rattle.sch_word.specs.values.Checked.{Checked, passes, refused, exhausted, unreachable, on_passed}
use Rattle.sch_word.specs.runs.Computation.{Outcome, gives, stops, spent, on_value, after, require, unreached, checked, at_place, in_order, in_turn, blanks, all_values}

-- checks that let related things pass, or end alike
pub data BothChecked {A B : Type 0} (R : A → B → Type 0) : Checked A → Checked B → Type 0 where
  both_pass : {a : A} {b : B} → R a b → BothChecked R (passes a) (passes b)
  both_refused : (why : Stop) → BothChecked R (refused why) (refused why)
  both_exhausted : BothChecked R exhausted exhausted
  both_unreachable : BothChecked R unreachable unreachable

pub both_self : {A : Type 0} (c : Checked A) → BothChecked (λ a b. a ≡ b) c c
both_self (passes a) = both_pass refl
both_self (refused why) = both_refused why
both_self exhausted = both_exhausted
both_self unreachable = both_unreachable

pub both_on_passed : {A B C D : Type 0} {R : A → B → Type 0} {R' : C → D → Type 0} {c : Checked A} {d : Checked B} {next : A → Checked C} {next' : B → Checked D} → BothChecked R c d
    → ((a : A) (b : B) → R a b → BothChecked R' (next a) (next' b)) → BothChecked R' (on_passed c next) (on_passed d next')
both_on_passed (both_pass {a} {b} r) h = h a b r
both_on_passed (both_refused why) h = both_refused why
both_on_passed both_exhausted h = both_exhausted
both_on_passed both_unreachable h = both_unreachable

-- How the states of two languages go together: by a world of what is known of them, as which cells of
-- one are which of the other. It grows as a run goes on.
pub record Correspondence (S S' : Type 0) : Type 1 where
  pub World : Type 0
  pub Grows : World → World → Type 0
  pub stays : (w : World) → Grows w w
  pub on : (a b c : World) → Grows a b → Grows b c → Grows a c
  pub Related : World → S → S' → Type 0

module _ {S S' : Type 0} (L : Correspondence S S') where
  -- both outcomes are of one kind, with related states in a grown world; stops have one name, and the
  -- values keep a promise
  abbrev pub SimilarOutcome : {V V' : Type 0} → (L.World → V → V' → Type 0) → L.World → Outcome S V → Outcome S' V' → Type 0
  SimilarOutcome {V' = V'} Promise w (gives v s) a = (w1 : L.World) × (t : S') × (v' : V') × (L.Grows w w1) × (L.Related w1 s t) × (Promise w1 v v') × (a ≡ gives v' t)
  SimilarOutcome Promise w (stops why s) a = (w1 : L.World) × (t : S') × (L.Grows w w1) × (L.Related w1 s t) × (a ≡ stops why t)
  SimilarOutcome Promise w (spent s) a = (w1 : L.World) × (t : S') × (L.Grows w w1) × (L.Related w1 s t) × (a ≡ spent t)

  -- from related states, in this world or any that it grows to, both have similar outcomes
  pub record Similar {V V' : Type 0} (Promise : L.World → V → V' → Type 0) (w : L.World) (c : S → Outcome S V) (d : S' → Outcome S' V') : Type 0 where
    pub from : (w0 : L.World) → L.Grows w w0 → (s : S) (t : S') → L.Related w0 s t → SimilarOutcome Promise w0 (c s) (d t)

  -- the same value on both sides, and the same list of values, so long
  abbrev pub Same : {V : Type 0} → L.World → V → V → Type 0
  Same w v v' = v ≡ v'

  abbrev pub SameOfLength : {V : Type 0} → ℕ → L.World → List V → List V → Type 0
  SameOfLength n w vs vs' = (vs ≡ vs') × (length vs ≡ n)

  -- computations that give the same values, one by one
  pub data EachSimilar : L.World → List (S → Outcome S Value) → List (S' → Outcome S' Value) → Type 0 where
    no_similar : {w : L.World} → EachSimilar w [] []
    and_similar : {w : L.World} {c : S → Outcome S Value} {d : S' → Outcome S' Value} {cs : List (S → Outcome S Value)} {ds : List (S' → Outcome S' Value)} → Similar Same w c d
        → EachSimilar w cs ds → EachSimilar w (c ∷ cs) (d ∷ ds)

  pub grown : {U U' : Type 0} (Promise' : L.World → U → U' → Type 0) {w w0 : L.World} (a : Outcome S U) (b : Outcome S' U') → L.Grows w w0 → SimilarOutcome Promise' w0 a b
      → SimilarOutcome Promise' w a b
  grown Promise' {w = w} {w0 = w0} (gives v s) b g h = (h.0, h.1, h.2, L.on w w0 h.0 g h.3, h.4, h.5, h.6)
  grown Promise' {w = w} {w0 = w0} (stops why s) b g h = (h.0, h.1, L.on w w0 h.0 g h.2, h.3, h.4)
  grown Promise' {w = w} {w0 = w0} (spent s) b g h = (h.0, h.1, L.on w w0 h.0 g h.2, h.3, h.4)

  module _ {V V' : Type 0} {Promise : L.World → V → V' → Type 0} where
    pub similar_later : {w : L.World} {c : S → Outcome S V} {d : S' → Outcome S' V'} (w1 : L.World) → L.Grows w w1 → Similar Promise w c d → Similar Promise w1 c d
    similar_later {w = w} w1 g h = record { from = λ w0 g0 s t r. h.from w0 (L.on w w1 w0 g g0) s t r }

    pub similar_gives : {w : L.World} (v : V) (v' : V') → ((w0 : L.World) → L.Grows w w0 → Promise w0 v v') → Similar Promise w (gives v) (gives v')
    similar_gives v v' h = record { from = λ w0 g0 s t r. (w0, t, v', L.stays w0, r, h w0 g0, refl) }

    pub similar_stops : {w : L.World} (why : Stop) → Similar Promise w (stops why) (stops why)
    similar_stops why = record { from = λ w0 g0 s t r. (w0, t, L.stays w0, r, refl) }

    pub similar_spent : {w : L.World} → Similar Promise w spent spent
    similar_spent = record { from = λ w0 g0 s t r. (w0, t, L.stays w0, r, refl) }

    pub similar_either : {w : L.World} (b : Bool) {c c' : S → Outcome S V} {d d' : S' → Outcome S' V'} → Similar Promise w c d → Similar Promise w c' d'
        → Similar Promise w (cond b c c') (cond b d d')
    similar_either true h g = h
    similar_either false h g = g

    pub similar_unreached : {w : L.World} → Similar Promise w unreached unreached
    similar_unreached = similar_stops _

    -- after checks that let related things pass
    pub similar_checked : {A B : Type 0} {R : A → B → Type 0} {w : L.World} {c : Checked A} {d : Checked B} {next : A → S → Outcome S V} {next' : B → S' → Outcome S' V'} → BothChecked R c d
        → ((a : A) (b : B) → R a b → Similar Promise w (next a) (next' b)) → Similar Promise w (checked c next) (checked d next')
    similar_checked (both_pass {a} {b} r) h = h a b r
    similar_checked (both_refused why) h = similar_stops why
    similar_checked both_exhausted h = similar_spent
    similar_checked both_unreachable h = similar_unreached

    pub similar_require : {w : L.World} (b : Bool) (why : Stop) {c : S → Outcome S V} {d : S' → Outcome S' V'} → Similar Promise w c d → Similar Promise w (require b why c) (require b why d)
    similar_require true why h = h
    similar_require false why h = similar_stops why

    module _ {U U' : Type 0} {Promise' : L.World → U → U' → Type 0} where
      pub similar_on : {w : L.World} (a : Outcome S V) (b : Outcome S' V') (next : V → S → Outcome S U) (next' : V' → S' → Outcome S' U') → SimilarOutcome Promise w a b
          → ((w1 : L.World) → L.Grows w w1 → (v : V) (v' : V') → Promise w1 v v' → Similar Promise' w1 (next v) (next' v')) → SimilarOutcome Promise' w (on_value a next) (on_value b next')
      similar_on (gives v s) b next next' h k = rw h.6 (grown Promise' (next v s) (next' h.2 h.1) h.3 ((k h.0 h.3 v h.2 h.5).from h.0 (L.stays h.0) s h.1 h.4))
      similar_on (stops why s) b next next' h k = rw h.4 (h.0, h.1, h.2, h.3, refl)
      similar_on (spent s) b next next' h k = rw h.4 (h.0, h.1, h.2, h.3, refl)

      -- one after another
      pub similar_after : {w : L.World} {c : S → Outcome S V} {d : S' → Outcome S' V'} {next : V → S → Outcome S U} {next' : V' → S' → Outcome S' U'} → Similar Promise w c d
          → ((w1 : L.World) → L.Grows w w1 → (v : V) (v' : V') → Promise w1 v v' → Similar Promise' w1 (next v) (next' v')) → Similar Promise' w (after c next) (after d next')
      similar_after {w} {c} {d} {next} {next'} h k = record { from = λ w0 g0 s t r. similar_on (c s) (d t) next next' (h.from w0 g0 s t r) (λ w1 g1 v v' p. k w1 (L.on w w0 w1 g0 g1) v v' p) }

  -- one after another, where the values are the same
  pub similar_then : {V U U' : Type 0} {Promise' : L.World → U → U' → Type 0} {w : L.World} {c : S → Outcome S V} {d : S' → Outcome S' V} {next : V → S → Outcome S U} {next' : V → S'
      → Outcome S' U'} → Similar Same w c d → ((w1 : L.World) → L.Grows w w1 → (v : V) → Similar Promise' w1 (next v) (next' v)) → Similar Promise' w (after c next) (after d next')
  similar_then {next' = next'} h k = similar_after h (λ w1 g v v' same. rw (← same) (k w1 g v))

  -- one after another, where the values are the same and keep a promise of their own
  pub similar_keeping : {V U U' : Type 0} (Keeps : V → Type 0) {Promise' : L.World → U → U' → Type 0} {w : L.World} {c : S → Outcome S V} {d : S' → Outcome S' V} {next : V → S
      → Outcome S U} {next' : V → S' → Outcome S' U'} → Similar (λ _ v v'. (v ≡ v') × Keeps v) w c d → ((w1 : L.World) → L.Grows w w1 → (v : V) → Keeps v → Similar Promise' w1 (next v) (next' v))
      → Similar Promise' w (after c next) (after d next')
  similar_keeping Keeps {next' = next'} h k = similar_after h (λ w1 g v v' kept. rw (← kept.0) (k w1 g v kept.1))

  pub each_later : {w : L.World} {cs : List (S → Outcome S Value)} {ds : List (S' → Outcome S' Value)} (w1 : L.World) → L.Grows w w1 → EachSimilar w cs ds → EachSimilar w1 cs ds
  each_later w1 g no_similar = no_similar
  each_later w1 g (and_similar h hs) = and_similar (similar_later w1 g h) (each_later w1 g hs)

  pub at_place_similar : {w : L.World} {cs : List (S → Outcome S Value)} {ds : List (S' → Outcome S' Value)} (i : ℕ) → EachSimilar w cs ds
      → Similar Same w (at_place (slice_get cs i)) (at_place (slice_get ds i))
  at_place_similar i no_similar = similar_gives unspecified unspecified (λ w0 g. refl)
  at_place_similar zero (and_similar h hs) = h
  at_place_similar (suc i) (and_similar h hs) = at_place_similar i hs

  pub in_order_similar : (order : List ℕ) {w : L.World} {cs : List (S → Outcome S Value)} {ds : List (S' → Outcome S' Value)} (vs : List Value) (n : ℕ) → length vs ≡ n → EachSimilar w cs ds
      → Similar (SameOfLength n) w (in_order order cs vs) (in_order order ds vs)
  in_order_similar [] vs n long h = similar_gives vs vs (λ w0 g. (refl, long))
  in_order_similar (i ∷ order) vs n long h = similar_then (at_place_similar i h) (λ w1 g v. in_order_similar order (slice_set vs i v) n (length-set vs i v ∙ long) (each_later w1 g h))

  pub blanks_same : {w : L.World} {cs : List (S → Outcome S Value)} {ds : List (S' → Outcome S' Value)} → EachSimilar w cs ds → blanks cs ≡ blanks ds
  blanks_same no_similar = refl
  blanks_same (and_similar h hs) = ap (λ l. unspecified ∷ l) (blanks_same hs)

  -- all operands, in one order
  pub similar_all_values : (order : List ℕ) {w : L.World} {cs : List (S → Outcome S Value)} {ds : List (S' → Outcome S' Value)} → EachSimilar w cs ds
      → Similar (SameOfLength (length cs)) w (all_values order cs) (all_values order ds)
  similar_all_values order {w} {cs} {ds} h = rw (← blanks_same h) (in_order_similar order (blanks cs) (length cs) (blanks_length cs) h)

  pub in_turn_similar : {w0 : L.World} {cs : List (S → Outcome S Value)} {ds : List (S' → Outcome S' Value)} → EachSimilar w0 cs ds → (w : L.World) → L.Grows w0 w → (v : Value)
      → Similar Same w (in_turn cs v) (in_turn ds v)
  in_turn_similar no_similar w g v = similar_gives v v (λ w0 _. refl)
  in_turn_similar {w0} (and_similar h hs) w g v = similar_then (similar_later w g h) (λ w1 g1 v'. in_turn_similar hs w1 (L.on w0 w w1 g g1) v')

  -- each in turn
  pub similar_in_turn : {w : L.World} {cs : List (S → Outcome S Value)} {ds : List (S' → Outcome S' Value)} (v : Value) → EachSimilar w cs ds → Similar Same w (in_turn cs v) (in_turn ds v)
  similar_in_turn {w} v h = in_turn_similar h w (L.stays w) v

  -- what is seen of similar outcomes, where related states have the same store
  module _ (store : S → Store) (store' : S' → Store) (same_store : (w : L.World) (s : S) (t : S') → L.Related w s t → store s ≡ store' t) where
    pub similar_seen : {V V' : Type 0} (Promise : L.World → V → V' → Type 0) (answers : List Answer) (entries : ℕ) (w : L.World) (a : Outcome S V) (b : Outcome S' V')
        → SimilarOutcome Promise w a b → seen_in store answers entries a ≡ seen_in store' answers entries b
    similar_seen Promise answers entries w (gives v s) b h = rw (h.6, ← same_store h.0 s h.1 h.4) refl
    similar_seen Promise answers entries w (stops why s) b h = rw (h.4, ← same_store h.0 s h.1 h.3) refl
    similar_seen Promise answers entries w (spent s) b h = rw (h.4, ← same_store h.0 s h.1 h.3) refl
