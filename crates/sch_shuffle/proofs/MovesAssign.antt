-- The moves bring each argument to its target, and each takes what its argument gave before them.
use Rattle.std.proofs.Common.{◌≡◌, ◌≢◌, ℕ, zero, suc, ◌+◌, ◌<◌, ◌≤◌, Bool, true, false, List, [], ◌∷◌, ◌++◌, length, refl, ap, sym, ◌∙◌, arith, inl, inr}
use Rattle.std.proofs.lemmas.Bool.{cases_eq}
use Rattle.std.proofs.Math.Bool.{or-true}
use Rattle.sch_word.specs.trees.Bindings.{numbers}
use Rattle.sch_word.specs.trees.NumberSets.{has}
use Rattle.sch_word.specs.declared.place.Place.{Place}
use Rattle.sch_word.proofs.facts.NumberSets.{in_here, in_more, numbers_length}
use Rattle.sch_shuffle.specs.declared.choice.Choice.{Choice}
use Rattle.sch_shuffle.specs.declared.choice.Choice.TheVariants.{Direct, Aside}
use Rattle.sch_shuffle.specs.Tree.{Tree, Trees, place, fixed, literal, read, no_trees, and_tree, uses, uses_one}
use Rattle.sch_word.proofs.facts.Places.{place_same, place_other, cases_place}
use Rattle.sch_shuffle.specs.Meaning.{Reading, given, each_given}
use Rattle.sch_shuffle.specs.Assignment.{operand_at, place_at, Transfer, moved, after, Assigns, Carries, AreDistinct, AreSpare}
use Rattle.sch_shuffle.specs.Plans.{Act, direct, aside, across, onward, transfer, transfers}
use Rattle.sch_shuffle.specs.ActValues.{Depends, EachBrings, acted, after_acts, brings, goes_to}
use Rattle.sch_shuffle.specs.Greedy.{uses_target, needed, next_of, remove_first, chosen, choices, all_choices, evaluations, onwards, acts, made}
use Rattle.sch_shuffle.proofs.WaitingArguments.{Rising, AllBelow, below_in, in_rest, remove_first_other, remove_first_gone, rising_remove_first, below_remove_first, length_remove_first, next_of_in, in_numbers, rising_numbers, below_numbers, length_choices, members, Once, not_in, choice_members, choice_once, clear, all_below}

-- ## What operands give

module _ {V : Type 0} (m : Reading V) where
  mutual
    -- an operand gives the same where the places that it uses hold the same
    pub given_same : (s t : Place → V) (x : Tree) → ((p : Place) → uses x p ≡ true → t p ≡ s p) → given m t x ≡ given m s x
    given_same s t (place p) h = h p (place_same p p refl)
    given_same s t (fixed n) h = refl
    given_same s t (literal k) h = refl
    given_same s t (read primitive xs) h = ap (m.read primitive) (each_same s t xs h)

    each_same : (s t : Place → V) (xs : Trees) → ((p : Place) → uses_one xs p ≡ true → t p ≡ s p) → each_given m t xs ≡ each_given m s xs
    each_same s t no_trees h = refl
    each_same s t (and_tree x xs) h =
        let first = given_same s t x (λ p e. h p (rw e refl)) in
        let rest = each_same s t xs (λ p e. h p (rw e (or-true (uses x p)))) in
        rw (first, rest) refl

  pub moved_here : (t : Transfer) (s : Place → V) (p : Place) → p ≡ t.to → moved m t s p ≡ given m s t.from
  moved_here t s p e = let yes_ = place_same p t.to e in rw yes_ refl

  pub moved_else : (t : Transfer) (s : Place → V) (p : Place) → p ≢ t.to → moved m t s p ≡ s p
  moved_else t s p e = let no_ = place_other p t.to e in rw no_ refl

  -- each of some moves takes, from now on, what its argument gave at the start
  abbrev pub Takes : List Tree → (start now : Place → V) → List Transfer → Type 0
  Takes args start now [] = Unit {0}
  Takes args start now (t ∷ ts) = (given m now t.from ≡ given m start (operand_at args t.argument)) × Takes args start (moved m t now) ts

  takes_at : (args : List Tree) (start now : Place → V) (before later : List Transfer) (t : Transfer) → Takes args start now (before ++ t ∷ later)
      → given m (after m before now) t.from ≡ given m start (operand_at args t.argument)
  takes_at args start now [] later t h = h.0
  takes_at args start now (b ∷ before) later t h = takes_at args start (moved m b now) before later t h.1

-- ## Acts

module _ {V : Type 0} (targets : List Place) (value : ℕ → (Place → V) → V) where
  acted_here : (a : Act) (s : Place → V) (p : Place) → p ≡ goes_to targets value a → acted targets value a s p ≡ brings targets value a s
  acted_here a s p e = let yes_ = place_same p (goes_to targets value a) e in rw yes_ refl

  acted_else : (a : Act) (s : Place → V) (p : Place) → p ≢ goes_to targets value a → acted targets value a s p ≡ s p
  acted_else a s p e = let no_ = place_other p (goes_to targets value a) e in rw no_ refl

  brings_both : (start now : Place → V) (list more : List Act) → EachBrings targets value start now list
      → EachBrings targets value start (after_acts targets value list now) more → EachBrings targets value start now (list ++ more)
  brings_both start now [] more h k = k
  brings_both start now (a ∷ list) more h k = (h.0, brings_both start (acted targets value a now) list more h.1 k)

  acts_both : (list more : List Act) (s : Place → V) → after_acts targets value (list ++ more) s ≡ after_acts targets value more (after_acts targets value list s)
  acts_both [] more s = refl
  acts_both (a ∷ list) more s = acts_both list more (acted targets value a s)

module _ {V : Type 0} (value : ℕ → (Place → V) → V) (args : List Tree) (targets free : List Place) (n : ℕ)
    (apart : (i j : ℕ) → i < n → j < n → place_at targets i ≡ place_at targets j → i ≡ j)
    (free_apart : (u v : ℕ) → u < n → v < n → place_at free u ≡ place_at free v → u ≡ v)
    (off : (u i : ℕ) → u < n → i < n → place_at targets i ≢ place_at free u)
    (unused : (u i : ℕ) → u < n → i < n → uses (operand_at args i) (place_at free u) ≡ false)
    (same : Depends args value) (s : Place → V) where
  abbrev val : ℕ → V
  val i = value i s

  abbrev run : List Act → (Place → V) → Place → V
  run = after_acts targets value

  abbrev W : ℕ → ℕ → Bool
  W = uses_target args targets

  abbrev Taken : List Act → (Place → V) → Type 0
  Taken list t = EachBrings targets value s t list

  -- what is not written is kept
  kept_evaluations : (cs : List Choice) (u : ℕ) (t : Place → V) (p : Place) → ((j : ℕ) → has j (members cs) ≡ true → p ≢ place_at targets j)
      → ((v : ℕ) → u ≤ v → v < u + length cs → p ≢ place_at free v) → run (evaluations free u cs) t p ≡ t p
  kept_evaluations [] u t p h k = refl
  kept_evaluations (Direct i ∷ cs) u t p h k =
      let later : (j : ℕ) → has j (members cs) ≡ true → p ≢ place_at targets j = λ j e. h j (in_more j i (members cs) e) in
      kept_evaluations cs u _ p later (λ v a b. k v a (omega (arith, b)))
      ∙ acted_else targets value (direct i) t p (h i (in_here i (members cs)))
  kept_evaluations (Aside i ∷ cs) u t p h k =
      let later : (j : ℕ) → has j (members cs) ≡ true → p ≢ place_at targets j = λ j e. h j (in_more j i (members cs) e) in
      kept_evaluations cs (suc u) _ p later (λ v a b. k v (omega (arith, a)) (omega (arith, b)))
      ∙ acted_else targets value (aside i (place_at free u)) t p (k u (omega arith) (omega arith))

  -- each value is in its target or in its temporary
  abbrev Good : List Choice → ℕ → (Place → V) → Type 0
  Good [] u t = Unit {0}
  Good (Direct k ∷ cs) u t = (t (place_at targets k) ≡ val k) × Good cs u t
  Good (Aside k ∷ cs) u t = (t (place_at free u) ≡ val k) × Good cs (suc u) t

  -- what the waiting arguments use is as it was
  abbrev Ready : List ℕ → (Place → V) → Type 0
  Ready ws t = (j : ℕ) → has j ws ≡ true → (p : Place) → uses (operand_at args j) p ≡ true → t p ≡ s p

  good_step : (ws : List ℕ) (k : ℕ) (rest : List Choice) (c u : ℕ) (t : Place → V) → k < n → AllBelow n ws → has k ws ≡ true
      → ((j : ℕ) → has j (remove_first k ws) ≡ true → j ≢ k) → ((j : ℕ) → has j (members rest) ≡ true → (has j ws ≡ true) × (j ≢ k)) → length rest ≡ c → u + suc c ≤ n → Ready ws t
      → ((u' : ℕ) (t' : Place → V) → u' + c ≤ n → Ready (remove_first k ws) t' → Good rest u' (run (evaluations free u' rest) t') × Taken (evaluations free u' rest) t')
      → (r : ℕ) → needed W ws k ≡ r
      → Good (chosen r k ∷ rest) u (run (evaluations free u (chosen r k ∷ rest)) t) × Taken (evaluations free u (chosen r k ∷ rest)) t
  good_step ws k rest c u t kn below inside gone later len room ready ih zero none =
      let t1 = acted targets value (direct k) t in
      let takes = same k s t (λ p e. ready k inside p e) in
      let lands = kept_evaluations rest u t1 (place_at targets k)
      (λ j e same. (later j e).1 (sym (apart k j kn (below_in n ws below j (later j e).0) same)))
      (λ v a b. off v k (omega (arith, b, len, room)) kn)
      ∙ acted_here targets value (direct k) t (place_at targets k) refl
      ∙ takes in
      let more = ih u t1 (omega (arith, room)) (λ j e p uses_p.
      let ne : j ≢ k = gone j e in
      let old : has j ws ≡ true = sym (remove_first_other j k ws ne) ∙ e in
      elim (cases_place p (place_at targets k)) [
        | inl same ↦ absurd (let no_ = clear W ws k none j old ne in let yes_ : W j k ≡ true = rw (← same) uses_p in cc)
        | inr other ↦ acted_else targets value (direct k) t p other ∙ ready j old p uses_p
      ]) in
      ((lands, more.0), (takes, more.1))
  good_step ws k rest c u t kn below inside gone later len room ready ih (suc r) some =
      let t1 = acted targets value (aside k (place_at free u)) t in
      let takes = same k s t (λ p e. ready k inside p e) in
      let lands = kept_evaluations rest (suc u) t1 (place_at free u)
      (λ j e same. off u j (omega (arith, room)) (below_in n ws below j (later j e).0) (sym same))
      (λ v a b same. absurd (let x = free_apart u v (omega (arith, room)) (omega (arith, b, len, room)) same in omega (arith, x, a)))
      ∙ acted_here targets value (aside k (place_at free u)) t (place_at free u) refl
      ∙ takes in
      let more = ih (suc u) t1 (omega (arith, room)) (λ j e p uses_p.
      let ne : j ≢ k = gone j e in
      let old : has j ws ≡ true = sym (remove_first_other j k ws ne) ∙ e in
      elim (cases_place p (place_at free u)) [
        | inl same ↦ absurd (let no_ = unused u j (omega (arith, room)) (below_in n ws below j old) in let yes_ = rw same at uses_p in cc)
        | inr other ↦ acted_else targets value (aside k (place_at free u)) t p other ∙ ready j old p uses_p
      ]) in
      ((lands, more.0), (takes, more.1))

  good_all : (c : ℕ) (ws : List ℕ) (u : ℕ) (t : Place → V) → length ws ≡ c → Rising ws → AllBelow n ws → u + c ≤ n → Ready ws t
      → Good (choices W c ws) u (run (evaluations free u (choices W c ws)) t) × Taken (evaluations free u (choices W c ws)) t
  good_all zero ws u t len rising below room ready = (tt, tt)
  good_all (suc c) ws u t len rising below room ready =
      let k : ℕ = next_of (needed W ws) ws in
      let inside : has k ws ≡ true = next_of_in (needed W ws) ws (omega (arith, len)) in
      let less = length_remove_first k ws inside in
      let l : length (remove_first k ws) ≡ c = omega (arith, less, len) in
      let gone : (j : ℕ) → has j (remove_first k ws) ≡ true → j ≢ k =
      λ j e same. absurd (let g = remove_first_gone k ws rising in let here : has k (remove_first k ws) ≡ true = ap (λ x. has x (remove_first k ws)) (sym same) ∙ e in cc) in
      let later : (j : ℕ) → has j (members (choices W c (remove_first k ws))) ≡ true → (has j ws ≡ true) × (j ≢ k) =
      λ j e. let there : has j (remove_first k ws) ≡ true = sym (choice_members W c (remove_first k ws) l j) ∙ e in (sym (remove_first_other j k ws (gone j there)) ∙ there, gone j there) in
      good_step ws k (choices W c (remove_first k ws)) c u t (below_in n ws below k inside) below inside gone later (length_choices W c (remove_first k ws)) room ready
      (λ u' t' room' ready'. good_all c (remove_first k ws) u' t' l (rising_remove_first k ws rising) (below_remove_first n k ws below) room' ready')
      (needed W ws k) refl

  -- ## What was set aside goes on

  good_kept : (cs : List Choice) (u k : ℕ) (t t1 : Place → V) → has k (members cs) ≡ false → k < n → AllBelow n (members cs) → u + length cs ≤ n
      → ((p : Place) → p ≢ place_at targets k → t1 p ≡ t p) → Good cs u t → Good cs u t1
  good_kept [] u k t t1 no_ kn below room same good = tt
  good_kept (Direct i ∷ cs) u k t t1 no_ kn below room same good =
      let apart_ = not_in i k (members cs) no_ in
      (same (place_at targets i) (λ e. apart_.0 (apart i k below.0 kn e)) ∙ good.0, good_kept cs u k t t1 apart_.1 kn below.1 (omega (arith, room)) same good.1)
  good_kept (Aside i ∷ cs) u k t t1 no_ kn below room same good =
      let apart_ = not_in i k (members cs) no_ in
      (same (place_at free u) (λ e. off u k (omega (arith, room)) kn (sym e)) ∙ good.0, good_kept cs (suc u) k t t1 apart_.1 kn below.1 (omega (arith, room)) same good.1)

  kept_onwards : (cs : List Choice) (u k : ℕ) (t : Place → V) → has k (members cs) ≡ false → k < n → AllBelow n (members cs)
      → run (onwards free u cs) t (place_at targets k) ≡ t (place_at targets k)
  kept_onwards [] u k t no_ kn below = refl
  kept_onwards (Direct i ∷ cs) u k t no_ kn below = kept_onwards cs u k t (not_in i k (members cs) no_).1 kn below.1
  kept_onwards (Aside i ∷ cs) u k t no_ kn below =
      let apart_ = not_in i k (members cs) no_ in
      kept_onwards cs (suc u) k _ apart_.1 kn below.1
      ∙ acted_else targets value (onward i (place_at free u)) t (place_at targets k) (λ e. apart_.0 (sym (apart k i kn below.0 e)))

  finish : (cs : List Choice) (u : ℕ) (t : Place → V) → Once (members cs) → AllBelow n (members cs) → u + length cs ≤ n → Good cs u t
      → (j : ℕ) → has j (members cs) ≡ true → run (onwards free u cs) t (place_at targets j) ≡ val j
  finish [] u t once below room good j e = absurd (cc)
  finish (Direct k ∷ cs) u t once below room good j e =
      elim (cases_eq k j) [
        | inl same ↦ rw (← same) (kept_onwards cs u k t once.0 below.0 below.1 ∙ good.0)
        | inr other ↦ finish cs u t once.1 below.1 (omega (arith, room)) good.1 j (in_rest k j (members cs) other e)
      ]
  finish (Aside k ∷ cs) u t once below room good j e =
      let move : Act = onward k (place_at free u) in
      let t1 = acted targets value move t in
      elim (cases_eq k j) [
        | inl same ↦ rw (← same) (kept_onwards cs (suc u) k t1 once.0 below.0 below.1 ∙ acted_here targets value move t (place_at targets k) refl ∙ good.0)
        | inr other ↦
            finish cs (suc u) t1 once.1 below.1 (omega (arith, room))
            (good_kept cs (suc u) k t t1 once.0 below.0 below.1 (omega (arith, room)) (λ p h. acted_else targets value move t p h) good.1) j (in_rest k j (members cs) other e)
      ]

  -- and takes what was set aside
  onwards_taken : (cs : List Choice) (u : ℕ) (t : Place → V) → Once (members cs) → AllBelow n (members cs) → u + length cs ≤ n → Good cs u t
      → Taken (onwards free u cs) t
  onwards_taken [] u t once below room good = tt
  onwards_taken (Direct k ∷ cs) u t once below room good = onwards_taken cs u t once.1 below.1 (omega (arith, room)) good.1
  onwards_taken (Aside k ∷ cs) u t once below room good =
      let move : Act = onward k (place_at free u) in
      let t1 = acted targets value move t in (
        good.0,
        onwards_taken cs (suc u) t1 once.1 below.1 (omega (arith, room))
            (good_kept cs (suc u) k t t1 once.0 below.0 below.1 (omega (arith, room)) (λ p h. acted_else targets value move t p h) good.1),
      )

module _ {V : Type 0} (value : ℕ → (Place → V) → V) (args : List Tree) (targets free : List Place) (t : length targets ≡ length args) (f : length free ≡ length args)
    (apart : AreDistinct targets) (free_apart : AreDistinct free) (spare : AreSpare args targets free) (same : Depends args value) where
  abbrev all_acts : List Act
  all_acts = acts free (all_choices args targets)

  -- whatever places hold, as cells of a frame or values that may be missing
  pub acts_bring : (s : Place → V) → EachBrings targets value s s all_acts
      × ((i : ℕ) → i < length args → after_acts targets value all_acts s (place_at targets i) ≡ value i s)
  acts_bring s =
      let n : ℕ = length args in
      let ws : List ℕ = numbers 0 n in
      let cs : List Choice = all_choices args targets in
      let W = uses_target args targets in
      let near : (i j : ℕ) → i < n → j < n → place_at targets i ≡ place_at targets j → i ≡ j = λ i j a b. apart i j (omega (arith, a, t)) (omega (arith, b, t)) in
      let far : (u v : ℕ) → u < n → v < n → place_at free u ≡ place_at free v → u ≡ v = λ u v a b. free_apart u v (omega (arith, a, f)) (omega (arith, b, f)) in
      let off : (u i : ℕ) → u < n → i < n → place_at targets i ≢ place_at free u = λ u i a b. (spare u (omega (arith, a, f)) i b).0 in
      let unused : (u i : ℕ) → u < n → i < n → uses (operand_at args i) (place_at free u) ≡ false = λ u i a b. (spare u (omega (arith, a, f)) i b).1 in
      let below : AllBelow n ws = below_numbers n 0 n (omega arith) in
      let good = good_all value args targets free n near far off unused same s n ws 0 s (numbers_length 0 n) (rising_numbers n 0) below (omega arith) (λ j e p h. refl) in
      let once : Once (members cs) = choice_once W n ws (numbers_length 0 n) (rising_numbers n 0) in
      let inside : (j : ℕ) → has j (members cs) ≡ has j ws = choice_members W n ws (numbers_length 0 n) in
      let small : AllBelow n (members cs) = all_below n (members cs) (λ j e. below_in n ws below j (sym (inside j) ∙ e)) in
      let room : 0 + length cs ≤ n = let l = length_choices W n ws in omega (arith, l) in
      let first : List Act = evaluations free 0 cs in
      let second : List Act = onwards free 0 cs in
      let middle : Place → V = after_acts targets value first s in
      let brought = onwards_taken value args targets free n near far off unused same s cs 0 middle once small room good.0 in (
        brings_both targets value s s first second good.1 brought,
        λ i lt.
            let there : has i (members cs) ≡ true = inside i ∙ in_numbers n 0 i (omega arith) (omega (arith, lt)) in
            let last = finish value args targets free n near far off unused same s cs 0 middle once small room good.0 i there in
            ap (λ st. st (place_at targets i)) (acts_both targets value first second s) ∙ last,
      )

-- ## Moves

module _ {V : Type 0} (m : Reading V) (args : List Tree) (targets : List Place) where
  -- what an argument gives, by its number
  abbrev read_at : ℕ → (Place → V) → V
  read_at k s = given m s (operand_at args k)

  moved_acted : (a : Act) (s : Place → V) → moved m (transfer args targets a) s ≡ acted targets read_at a s
  moved_acted (direct k) s = refl
  moved_acted (aside k p) s = refl
  moved_acted (across k p q) s = refl
  moved_acted (onward k p) s = refl

  after_acted : (list : List Act) (s : Place → V) → after m (transfers args targets list) s ≡ after_acts targets read_at list s
  after_acted [] s = refl
  after_acted (a ∷ list) s = ap (after m (transfers args targets list)) (moved_acted a s) ∙ after_acted list (acted targets read_at a s)

  takes_acted : (start now : Place → V) (list : List Act) → EachBrings targets read_at start now list → Takes m args start now (transfers args targets list)
  takes_acted start now [] h = tt
  takes_acted start now (direct k ∷ list) h = (h.0, takes_acted start (acted targets read_at (direct k) now) list h.1)
  takes_acted start now (aside k p ∷ list) h = (h.0, takes_acted start (acted targets read_at (aside k p) now) list h.1)
  takes_acted start now (across k p q ∷ list) h = (h.0, takes_acted start (acted targets read_at (across k p q) now) list h.1)
  takes_acted start now (onward k p ∷ list) h = (h.0, takes_acted start (acted targets read_at (onward k p) now) list h.1)

module _ {V : Type 0} (m : Reading V) (args : List Tree) (targets free : List Place) (t : length targets ≡ length args) (f : length free ≡ length args)
    (apart : AreDistinct targets) (free_apart : AreDistinct free) (spare : AreSpare args targets free) where
  reads_same : Depends args (read_at m args targets)
  reads_same k s t h = given_same m s t (operand_at args k) h

  pub assigns : Assigns m args targets (made args targets free)
  assigns s i lt =
      ap (λ st. st (place_at targets i)) (after_acted m args targets (acts free (all_choices args targets)) s)
      ∙ (acts_bring (read_at m args targets) args targets free t f apart free_apart spare reads_same s).1 i lt

  pub carries : Carries m args (made args targets free)
  carries s before later move e =
      takes_at m args s s before later move
      (rw (← e) (takes_acted m args targets s s (acts free (all_choices args targets)) (acts_bring (read_at m args targets) args targets free t f apart free_apart spare reads_same s).0))
