-- Rising lists of numbers, and how many of them need a target.
use Rattle.std.proofs.Common.{◌≡◌, ◌≢◌, ℕ, zero, suc, ◌+◌, ◌-◌, ◌<◌, ◌≤◌, Bool, true, false, cond, List, [], ◌∷◌, ◌++◌, length, refl, ap, sym, ◌∙◌, subst, arith, add-one, inl, inr, get_or}
use Rattle.std.specs.Prelude.{◌&&◌, ◌||◌, not, nat_eq}
use Rattle.std.specs.List.{remove}
use Rattle.std.proofs.lemmas.List.{append_assoc, get_or_read}
use Rattle.std.proofs.lemmas.Bool.{cases_eq, eq-eqb, ne_eqb}
use Rattle.sch_word.specs.trees.Bindings.{numbers}
use Rattle.sch_word.specs.trees.NumberSets.{has}
use Rattle.sch_shuffle.specs.declared.choice.Choice.{Choice}
use Rattle.sch_shuffle.specs.Tree.{Tree}
use Rattle.sch_shuffle.specs.Greedy.{needed, goes_before, next, next_of, remove_first, chosen, choices, number_of, AreBelow, uses_target, all_choices}
use Rattle.sch_word.specs.declared.place.Place.{Place}
use Rattle.sch_word.proofs.facts.Booleans.{false_true, not_right}
use Rattle.sch_word.proofs.facts.NumberSets.{in_here, in_more, numbers_length}

-- ## What stands in a list

-- the first number of a list stands in it, and any other where it stands in the rest
pub in_first : (j k : ℕ) (js : List ℕ) → j ≡ k → has k (j ∷ js) ≡ true
in_first j k js same = subst (λ x. has x (j ∷ js) ≡ true) same (in_here j js)

pub has_later : (j k : ℕ) (js : List ℕ) → j ≢ k → has k (j ∷ js) ≡ has k js
has_later j k js other = ap (λ b. b || has k js) (ne_eqb k j (λ same. other (sym same)))

pub in_rest : (j k : ℕ) (js : List ℕ) → j ≢ k → has k (j ∷ js) ≡ true → has k js ≡ true
in_rest j k js other e = sym (has_later j k js other) ∙ e

-- ## Rising lists

abbrev pub Above : ℕ → List ℕ → Type 0
Above b [] = Unit {0}
Above b (j ∷ js) = (b < j) × Above j js

abbrev pub Rising : List ℕ → Type 0
Rising [] = Unit {0}
Rising (j ∷ js) = Above j js

abbrev pub AllBelow : ℕ → List ℕ → Type 0
AllBelow n [] = Unit {0}
AllBelow n (j ∷ js) = (j < n) × AllBelow n js

pub above_lower : (a b : ℕ) (js : List ℕ) → a < b → Above b js → Above a js
above_lower a b [] h k = tt
above_lower a b (j ∷ js) h k = (omega (arith, h, k.0), k.1)

pub is_above : (b : ℕ) (js : List ℕ) → Above b js → (j : ℕ) → has j js ≡ true → b < j
is_above b [] h j e = absurd (cc)
is_above b (i ∷ js) h j e =
    elim (cases_eq i j) [
      | inl same ↦ omega (arith, same, h.0)
      | inr other ↦ let k = is_above i js h.1 j (in_rest i j js other e) in omega (arith, k, h.0)
    ]

pub not_above : (b : ℕ) (js : List ℕ) → Above b js → has b js ≡ false
not_above b js h =
    let go : (t : Bool) → has b js ≡ t → has b js ≡ false =
    λ t. elim t as (λ t. has b js ≡ t → has b js ≡ false) [
      | true ↦ λ e. absurd (let k = is_above b js h b e in omega arith)
      | false ↦ λ e. e
    ] in
    go (has b js) refl

pub below_in : (n : ℕ) (js : List ℕ) → AllBelow n js → (j : ℕ) → has j js ≡ true → j < n
below_in n [] h j e = absurd (cc)
below_in n (i ∷ js) h j e =
    elim (cases_eq i j) [
      | inl same ↦ omega (arith, same, h.0)
      | inr other ↦ below_in n js h.1 j (in_rest i j js other e)
    ]

above_remove_first : (b k : ℕ) (js : List ℕ) → Above b js → Above b (remove_first k js)
above_remove_first b k [] h = tt
above_remove_first b k (j ∷ js) h =
    elim (cases_eq j k) [
      | inl same ↦ let yes_ = eq-eqb j k same in rw yes_ (above_lower b j js h.0 h.1)
      | inr other ↦ let no_ = ne_eqb j k other in rw no_ (h.0, above_remove_first j k js h.1)
    ]

pub rising_rest : (j : ℕ) (js : List ℕ) → Above j js → Rising js
rising_rest j [] h = tt
rising_rest j (i ∷ js) h = h.1

pub rising_remove_first : (k : ℕ) (js : List ℕ) → Rising js → Rising (remove_first k js)
rising_remove_first k [] h = tt
rising_remove_first k (j ∷ js) h =
    elim (cases_eq j k) [
      | inl same ↦ let yes_ = eq-eqb j k same in rw yes_ (rising_rest j js h)
      | inr other ↦ let no_ = ne_eqb j k other in rw no_ (above_remove_first j k js h)
    ]

pub below_remove_first : (n k : ℕ) (js : List ℕ) → AllBelow n js → AllBelow n (remove_first k js)
below_remove_first n k [] h = tt
below_remove_first n k (j ∷ js) h =
    elim (cases_eq j k) [
      | inl same ↦ let yes_ = eq-eqb j k same in rw yes_ h.1
      | inr other ↦ let no_ = ne_eqb j k other in rw no_ (h.0, below_remove_first n k js h.1)
    ]

above_at : (b : ℕ) (ws : List ℕ) (at : ℕ) → Above b ws → at < length ws → b < get_or ws at 0
above_at b [] at h lt = absurd (omega (arith, lt))
above_at b (w ∷ ws) zero h lt = h.0
above_at b (w ∷ ws) (suc at) h lt = let k = above_at w ws at h.1 (omega (arith, lt)) in omega (arith, k, h.0)

pub in_at : (ws : List ℕ) (at : ℕ) → at < length ws → has (get_or ws at 0) ws ≡ true
in_at [] at lt = absurd (omega (arith, lt))
in_at (w ∷ ws) zero lt = in_here w ws
in_at (w ∷ ws) (suc at) lt = in_more (get_or ws at 0) w ws (in_at ws at (omega (arith, lt)))

pub remove_is_first : (ws : List ℕ) (at : ℕ) → Rising ws → at < length ws → remove ws at ≡ remove_first (get_or ws at 0) ws
remove_is_first [] at h lt = absurd (omega (arith, lt))
remove_is_first (w ∷ ws) zero h lt = let yes_ = eq-eqb w w refl in rw yes_ refl
remove_is_first (w ∷ ws) (suc at) h lt =
    let lower = above_at w ws at h (omega (arith, lt)) in
    let no_ = ne_eqb w (get_or ws at 0) (λ e. omega (arith, lower, e)) in
    rw no_ (ap (λ xs. w ∷ xs) (remove_is_first ws at (rising_rest w ws h) (omega (arith, lt))))

pub length_remove_first : (k : ℕ) (ws : List ℕ) → has k ws ≡ true → length (remove_first k ws) + 1 ≡ length ws
length_remove_first k [] e = absurd (cc)
length_remove_first k (w ∷ ws) e =
    elim (cases_eq w k) [
      | inl same ↦ let yes_ = eq-eqb w k same in rw yes_ (omega arith)
      | inr other ↦
          let no_ = ne_eqb w k other in
          let h = length_remove_first k ws (in_rest w k ws other e) in rw no_ (omega (arith, h))
    ]

pub remove_first_other : (j k : ℕ) (ws : List ℕ) → j ≢ k → has j (remove_first k ws) ≡ has j ws
remove_first_other j k [] h = refl
remove_first_other j k (w ∷ ws) h =
    elim (cases_eq w k) [
      | inl same ↦ let yes_ = eq-eqb w k same in rw yes_ (sym (has_later w j ws (λ e. h (sym e ∙ same))))
      | inr other ↦ let no_ = ne_eqb w k other in rw no_ (ap (λ b. nat_eq j w || b) (remove_first_other j k ws h))
    ]

pub remove_first_gone : (k : ℕ) (ws : List ℕ) → Rising ws → has k (remove_first k ws) ≡ false
remove_first_gone k [] h = refl
remove_first_gone k (w ∷ ws) h =
    elim (cases_eq w k) [
      | inl same ↦ let yes_ = eq-eqb w k same in rw yes_ (rw (← same) (not_above w ws h))
      | inr other ↦ let no_ = ne_eqb w k other in rw no_ (has_later w k (remove_first k ws) other ∙ remove_first_gone k ws (rising_rest w ws h))
    ]

-- ## Numbers from one on

pub numbers_next : (n j : ℕ) → j < n → numbers j (n - j) ≡ j ∷ numbers (j + 1) (n - (j + 1))
numbers_next n j lt = let e : n - j ≡ suc (n - (j + 1)) = omega (arith, lt) in rw (e, add-one) refl

pub numbers_push : (xs : List ℕ) (n j : ℕ) → j < n → (xs ++ j ∷ []) ++ numbers (j + 1) (n - (j + 1)) ≡ xs ++ numbers j (n - j)
numbers_push xs n j lt = append_assoc xs (j ∷ []) (numbers (j + 1) (n - (j + 1))) ∙ ap (λ ys. xs ++ ys) (sym (numbers_next n j lt))

above_numbers : (n b k : ℕ) → b < k → Above b (numbers k n)
above_numbers zero b k h = tt
above_numbers (suc n) b k h = (h, above_numbers n k (suc k) (omega arith))

pub rising_numbers : (n k : ℕ) → Rising (numbers k n)
rising_numbers zero k = tt
rising_numbers (suc n) k = above_numbers n k (suc k) (omega arith)

pub below_numbers : (n k m : ℕ) → k + n ≤ m → AllBelow m (numbers k n)
below_numbers zero k m h = tt
below_numbers (suc n) k m h = (omega (arith, h), below_numbers n (suc k) m (omega (arith, h)))

pub in_numbers : (n k j : ℕ) → k ≤ j → j < k + n → has j (numbers k n) ≡ true
in_numbers zero k j h l = absurd (omega (arith, h, l))
in_numbers (suc n) k j h l =
    elim (cases_eq k j) [
      | inl same ↦ in_first k j (numbers (suc k) n) same
      | inr other ↦ in_more j k (numbers (suc k) n) (in_numbers n (suc k) j (omega (arith, h, other)) (omega (arith, l)))
    ]

-- ## Needs

pub needed_remove_first : (W : ℕ → ℕ → Bool) (js : List ℕ) (k t : ℕ) → has k js ≡ true
    → needed W js t ≡ cond (not (nat_eq k t) && W k t) 1 0 + needed W (remove_first k js) t
needed_remove_first W [] k t e = absurd (cc)
needed_remove_first W (j ∷ js) k t e =
    elim (cases_eq j k) [
      | inl same ↦ let yes_ = eq-eqb j k same in rw (yes_, same) (counted (not (nat_eq k t) && W k t) (needed W js t))
      | inr other ↦
          let no_ = ne_eqb j k other in
          let h = needed_remove_first W js k t (in_rest j k js other e) in
          rw no_ (one_more (not (nat_eq j t) && W j t) (needed W js t) (cond (not (nat_eq k t) && W k t) 1 0) (needed W (remove_first k js) t) h)
    ]
  where
    counted : (b : Bool) (n : ℕ) → cond b (suc n) n ≡ cond b 1 0 + n
    counted true n = omega arith
    counted false n = omega arith

    one_more : (b : Bool) (x y z : ℕ) → x ≡ y + z → cond b (suc x) x ≡ y + cond b (suc z) z
    one_more true x y z h = omega (arith, h)
    one_more false x y z h = h

pub needed_step : (W : ℕ → ℕ → Bool) (n j k count : ℕ) (b : Bool) → j < n → b ≡ (not (nat_eq j k) && W j k)
    → cond b (count + 1) count + needed W (numbers (j + 1) (n - (j + 1))) k ≡ count + needed W (numbers j (n - j)) k
needed_step W n j k count b lt is =
    let nn = numbers_next n j lt in rw (nn, ← is) (go b)
  where
    go : (b : Bool) → cond b (count + 1) count + needed W (numbers (j + 1) (n - (j + 1))) k
        ≡ count + cond b (suc (needed W (numbers (j + 1) (n - (j + 1))) k)) (needed W (numbers (j + 1) (n - (j + 1))) k)
    go true = omega arith
    go false = refl

-- ## The next one

pub next_in : (f : ℕ → ℕ) (b : ℕ) (ks : List ℕ) → has (next f b ks) (b ∷ ks) ≡ true
next_in f b [] = in_here b []
next_in f b (k ∷ ks) = go (goes_before (f k) (f b)) (ahead (next f k ks) (next_in f k ks)) (later (next f b ks) (next_in f b ks))
  where
    later : (r : ℕ) → has r (b ∷ ks) ≡ true → has r (b ∷ (k ∷ ks)) ≡ true
    later r h = elim (cases_eq b r) [
      | inl same ↦ in_first b r (k ∷ ks) same
      | inr other ↦ in_more r b (k ∷ ks) (in_more r k ks (in_rest b r ks other h))
    ]

    ahead : (r : ℕ) → has r (k ∷ ks) ≡ true → has r (b ∷ (k ∷ ks)) ≡ true
    ahead r h = in_more r b (k ∷ ks) h

    go : (t : Bool) → has (next f k ks) (b ∷ (k ∷ ks)) ≡ true → has (next f b ks) (b ∷ (k ∷ ks)) ≡ true
        → has (next f (cond t k b) ks) (b ∷ (k ∷ ks)) ≡ true
    go true x y = x
    go false x y = y

pub next_of_in : (f : ℕ → ℕ) (ws : List ℕ) → 0 < length ws → has (next_of f ws) ws ≡ true
next_of_in f [] h = absurd (omega (arith, h))
next_of_in f (w ∷ ws) h = next_in f w ws

next_same : (f g : ℕ → ℕ) (b : ℕ) (ks : List ℕ) → f b ≡ g b → ((j : ℕ) → has j ks ≡ true → f j ≡ g j) → next f b ks ≡ next g b ks
next_same f g b [] h each = refl
next_same f g b (k ∷ ks) h each =
    let at_k : f k ≡ g k = each k (in_here k ks) in
    let later : (j : ℕ) → has j ks ≡ true → f j ≡ g j = λ j e. each j (in_more j k ks e) in
    rw (h, at_k) (go (goes_before (g k) (g b)) (next_same f g k ks at_k later) (next_same f g b ks h later))
  where
    go : (t : Bool) → next f k ks ≡ next g k ks → next f b ks ≡ next g b ks → next f (cond t k b) ks ≡ next g (cond t k b) ks
    go true x y = x
    go false x y = y

pub next_of_same : (f g : ℕ → ℕ) (ws : List ℕ) → ((j : ℕ) → has j ws ≡ true → f j ≡ g j) → next_of f ws ≡ next_of g ws
next_of_same f g [] each = refl
next_of_same f g (w ∷ ws) each =
    next_same f g w ws (each w (in_here w ws)) (λ j e. each j (in_more j w ws e))

-- one turn of the loop
pub turn : (W : ℕ → ℕ → Bool) (n turns : ℕ) (ws : List ℕ) (users : ℕ → ℕ) (k : ℕ) (all whole : List Choice) → turns < n → 0 < length ws
    → ((j : ℕ) → has j ws ≡ true → users j ≡ needed W ws j) → k ≡ next_of users ws → all ++ choices W (n - turns) ws ≡ whole
    → (all ++ chosen (users k) k ∷ []) ++ choices W (n - (turns + 1)) (remove_first k ws) ≡ whole
turn W n turns ws users k all whole lt some each is before =
    let same : next_of (needed W ws) ws ≡ k = sym (next_of_same users (needed W ws) ws each) ∙ sym is in
    let inside : has k ws ≡ true = rw is (next_of_in users ws some) in
    let e : n - turns ≡ suc (n - (turns + 1)) = omega (arith, lt) in
    let first : choices W (n - turns) ws ≡ chosen (users k) k ∷ choices W (n - (turns + 1)) (remove_first k ws) = rw (e, same, each k inside) refl in
    append_assoc all (chosen (users k) k ∷ []) (choices W (n - (turns + 1)) (remove_first k ws)) ∙ ap (λ ys. all ++ ys) (sym first) ∙ before

-- ## All choices

pub length_choices : (W : ℕ → ℕ → Bool) (n : ℕ) (ws : List ℕ) → length (choices W n ws) ≡ n
length_choices W zero ws = refl
length_choices W (suc n) ws = ap suc (length_choices W n _)

pub number_chosen : (r k : ℕ) → number_of (chosen r k) ≡ k
number_chosen zero k = refl
number_chosen (suc r) k = refl

pub choices_below : (W : ℕ → ℕ → Bool) (n m : ℕ) (ws : List ℕ) → length ws ≡ n → AllBelow m ws → AreBelow m (choices W n ws)
choices_below W zero m ws e h i lt = absurd (omega (arith, lt))
choices_below W (suc n) m ws e h zero lt =
    let b = below_in m ws h (next_of (needed W ws) ws) (next_of_in (needed W ws) ws (omega (arith, e))) in rw number_chosen b
choices_below W (suc n) m ws e h (suc i) lt =
    let k : ℕ = next_of (needed W ws) ws in
    let less = length_remove_first k ws (next_of_in (needed W ws) ws (omega (arith, e))) in
    choices_below W n m (remove_first k ws) (omega (arith, less, e)) (below_remove_first m k ws h) i (omega (arith, lt))

pub all_choices_length : (args : List Tree) (targets : List Place) → length (all_choices args targets) ≡ length args
all_choices_length args targets = length_choices (uses_target args targets) (length args) (numbers 0 (length args))

pub all_choices_below : (args : List Tree) (targets : List Place) → AreBelow (length args) (all_choices args targets)
all_choices_below args targets =
    choices_below (uses_target args targets) (length args) (length args) (numbers 0 (length args)) (numbers_length 0 (length args))
    (below_numbers (length args) 0 (length args) (omega arith))

pub below_same : (n m : ℕ) (xs ys : List Choice) → xs ≡ ys → n ≡ m → AreBelow n ys → AreBelow m xs
below_same n m xs ys e f h i lt = let l : i < length ys = rw (← e) lt in let k = h i l in rw (e, ← f) k

pub first_waiting : (n : ℕ) (ws : List ℕ) → ws ≡ numbers 0 n → (length ws + 0 ≡ n) × Rising ws × AllBelow n ws
first_waiting n ws e =
    let l = numbers_length 0 n in
    let r = rising_numbers n 0 in
    let b = below_numbers n 0 n (omega arith) in
    rw e (omega (arith, l), r, b)

pub first_choices : (args : List Tree) (targets : List Place) (all : List Choice) (ws : List ℕ) (n : ℕ) → all ≡ [] → ws ≡ numbers 0 n → length args ≡ n
    → all ++ choices (uses_target args targets) (n - 0) ws ≡ all_choices args targets
first_choices args targets all ws n none first same = let z : n - 0 ≡ n = omega arith in rw (none, first, z, ← same) refl

-- what stands at a place among the waiting ones
pub standing : (n : ℕ) (ws : List ℕ) (at : ℕ) → AllBelow n ws → at < length ws → get_or ws at 0 < n
standing n ws at below lt = below_in n ws below (get_or ws at 0) (in_at ws at lt)

-- the counts after one argument less
pub released : (W : ℕ → ℕ → Bool) (ws : List ℕ) (k j : ℕ) (old new : ℕ) → has k ws ≡ true → old ≡ needed W ws j
    → new ≡ old - cond (not (nat_eq k j) && W k j) 1 0 → new ≡ needed W (remove_first k ws) j
released W ws k j old new inside before is =
    let h = needed_remove_first W ws k j inside in
    let c : ℕ = cond (not (nat_eq k j) && W k j) 1 0 in
    less old new c (needed W (remove_first k ws) j) (before ∙ h) is
  where
    less : (old new c rest : ℕ) → old ≡ c + rest → new ≡ old - c → new ≡ rest
    less old new c rest e f = omega (arith, e, f)

-- the argument that is taken from among the waiting ones
pub taken : (ws slice : List ℕ) (at k : ℕ) → at < length slice → slice ≡ ws → k ≡ get_or ws at k → (at < length ws) × (k ≡ get_or ws at 0)
taken ws slice at k lt e value =
    let l : at < length ws = rw (← e) lt in (l, get_or_read ws at k l value 0)

-- What the loop keeps, over one turn.
abbrev pub Kept : List Tree → List Place → ℕ → ℕ → List ℕ → List ℕ → List Choice → Type 0
Kept args targets n turns ws users all =
    (length ws + turns ≡ n) × Rising ws × AllBelow n ws × (length users ≡ n)
    × ((k : ℕ) → k < n → get_or users k 0 ≡ needed (uses_target args targets) ws k)
    × (all ++ choices (uses_target args targets) (n - turns) ws ≡ all_choices args targets)

pub kept : (args : List Tree) (targets : List Place) (n turns : ℕ) (ws ws' users users' : List ℕ) (all all' : List Choice) (at k : ℕ)
    → turns < n → Kept args targets n turns ws users all → at < length ws → k ≡ get_or ws at 0 → get_or ws at 0 ≡ next_of (λ j. get_or users j 0) ws
    → ws' ≡ remove ws at → all' ≡ all ++ chosen (get_or users k 0) k ∷ [] → length users' ≡ length users
    → ((j : ℕ) → j < length users → get_or users' j 0 ≡ get_or users j 0 - cond (not (nat_eq k j) && uses_target args targets k j) 1 0)
    → Kept args targets n (turns + 1) ws' users' all'
kept args targets n turns ws ws' users users' all all' at k lt inv within is next removed pushed same each =
    let W = uses_target args targets in
    let rising : Rising ws = inv.1 in
    let rest : ws' ≡ remove_first k ws = removed ∙ remove_is_first ws at rising within ∙ ap (λ j. remove_first j ws) (sym is) in
    let inside : has k ws ≡ true = ap (λ j. has j ws) is ∙ in_at ws at within in
    let shorter = length_remove_first k ws inside in
    let l : length ws' ≡ length (remove_first k ws) = ap length rest in
    let r : Rising ws' = rw rest (rising_remove_first k ws rising) in
    let b : AllBelow n ws' = rw rest (below_remove_first n k ws inv.2) in
    let counts : (j : ℕ) → j < n → get_or users' j 0 ≡ needed W ws' j =
    λ j h. released W ws k j (get_or users j 0) (get_or users' j 0) inside (inv.4 j h) (each j (omega (arith, h, inv.3))) ∙ ap (λ xs. needed W xs j) (sym rest) in
    let t = turn W n turns ws (λ j. get_or users j 0) k all (all_choices args targets) lt (omega (arith, within)) (λ j e. inv.4 j (below_in n ws inv.2 j e)) (is ∙ next) inv.5 in
    (omega (arith, inv.0, shorter, l), r, b, omega (arith, same, inv.3), counts, rw (pushed, rest) t)

-- ## Who is chosen

abbrev pub members : List Choice → List ℕ
members [] = []
members (c ∷ cs) = number_of c ∷ members cs

abbrev pub Once : List ℕ → Type 0
Once [] = Unit {0}
Once (j ∷ js) = (has j js ≡ false) × Once js

pub not_in : (i j : ℕ) (js : List ℕ) → has j (i ∷ js) ≡ false → (i ≢ j) × (has j js ≡ false)
not_in i j js e = (λ same. absurd (false_true (in_first i j js same) e), not_right (nat_eq j i) (has j js) e)

pub choice_members : (W : ℕ → ℕ → Bool) (n : ℕ) (ws : List ℕ) → length ws ≡ n → (j : ℕ) → has j (members (choices W n ws)) ≡ has j ws
choice_members W zero [] e j = refl
choice_members W zero (w ∷ ws) e j = absurd (omega (arith, e))
choice_members W (suc n) ws e j =
    let k : ℕ = next_of (needed W ws) ws in
    let inside : has k ws ≡ true = next_of_in (needed W ws) ws (omega (arith, e)) in
    let less = length_remove_first k ws inside in
    let rest = choice_members W n (remove_first k ws) (omega (arith, less, e)) j in
    elim (cases_eq k j) [
      | inl same ↦ let there : has j ws ≡ true = rw (← same) inside in rw number_chosen (in_first k j (members (choices W n (remove_first k ws))) same ∙ sym there)
      | inr other ↦ rw number_chosen (has_later k j (members (choices W n (remove_first k ws))) other ∙ rest ∙ remove_first_other j k ws (λ h. other (sym h)))
    ]

pub choice_once : (W : ℕ → ℕ → Bool) (n : ℕ) (ws : List ℕ) → length ws ≡ n → Rising ws → Once (members (choices W n ws))
choice_once W zero ws e r = tt
choice_once W (suc n) ws e r =
    let k : ℕ = next_of (needed W ws) ws in
    let inside : has k ws ≡ true = next_of_in (needed W ws) ws (omega (arith, e)) in
    let less = length_remove_first k ws inside in
    let l : length (remove_first k ws) ≡ n = omega (arith, less, e) in
    let gone : has k (members (choices W n (remove_first k ws))) ≡ false = choice_members W n (remove_first k ws) l k ∙ remove_first_gone k ws r in
    (rw number_chosen gone, choice_once W n (remove_first k ws) l (rising_remove_first k ws r))

-- a target that no other needs is used by no other
pub clear : (W : ℕ → ℕ → Bool) (ws : List ℕ) (k : ℕ) → needed W ws k ≡ 0 → (j : ℕ) → has j ws ≡ true → j ≢ k → W j k ≡ false
clear W [] k none j e ne = absurd (cc)
clear W (w ∷ ws) k none j e ne = go (not (nat_eq w k) && W w k) refl none (λ none rest. clear W ws k none j rest ne)
  where
    go : (b : Bool) → (not (nat_eq w k) && W w k) ≡ b → cond b (suc (needed W ws k)) (needed W ws k) ≡ 0
        → (needed W ws k ≡ 0 → has j ws ≡ true → W j k ≡ false) → W j k ≡ false
    go true h none more = absurd (omega (arith, none))
    go false h none more =
        elim (cases_eq w j) [
          | inl same ↦
              let no_ = ne_eqb w k (λ x. ne (sym same ∙ x)) in
              let here : W w k ≡ false = rw no_ at h in rw (← same) here
          | inr other ↦ more none (in_rest w j ws other e)
        ]

pub all_below : (n : ℕ) (js : List ℕ) → ((j : ℕ) → has j js ≡ true → j < n) → AllBelow n js
all_below n [] h = tt
all_below n (j ∷ js) h = (h j (in_here j js), all_below n js (λ i e. h i (in_more i j js e)))
