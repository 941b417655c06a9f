-- What is saved at the head of a region is live there.
use Rattle.std.proofs.Common.{◌≡◌, ℕ, Bool, true, false, List, [], ◌∷◌, ◌++◌, refl, ap, sym, ◌∙◌, inl, inr, ◌⊎◌, map}
use Rattle.std.specs.Prelude.{nat_eq, ◌||◌}
use Rattle.std.specs.Bool.{MatchBool}
use Rattle.std.proofs.lemmas.Bool.{eqb-true, eqb-false, or_cases}
use Rattle.sch_word.specs.trees.NumberSets.{has, unless}
use Rattle.sch_word.proofs.facts.Booleans.{and_left, and_right, or_left, or_right, not_left, not_right, false_true}
use Rattle.sch_control.specs.AtomsAndSites.{operation_atoms, application_atoms}
use Rattle.sch_control.specs.Meaning.{binds, heads, with_region, no_region}
use Rattle.sch_control.specs.Tree.{Expression, perform, bind, sequence, branch, fix, call, tail_call, return, end, save}
use Rattle.sch_control.specs.Valid.{Position, value, no_call, procedure_end, form_end, is_value, ends_procedure, ends_form, positioned}
use Rattle.sch_control.specs.flow.Live.{named, known, Across, Live, Later}
use Rattle.sch_control.specs.flow.Paths.{Event, References, Saves, Calls, Tails, binding, grouping, IsPath, calls}
use Rattle.sch_control.specs.flow.LiveSets.{LiveSets}
use Rattle.sch_control.proofs.VariableLists.{among_is}
use Rattle.sch_control.proofs.Results.{perhaps}
use Rattle.sch_paths.specs.Exact.{saved_round, ArmsSave}
use Rattle.sch_paths.specs.Regions.{HeadsLive, regions_stand}
use Rattle.sch_paths.proofs.saves.SavedAndRestored.{calls_append}
use Rattle.sch_paths.proofs.paths.MeetsByCases.{has_path, of_result}
use Rattle.sch_paths.proofs.saves.TwoSets.{EveryPathCalls, references_call, binding_calls, grouping_calls, saves_call}

-- ## Heads of regions

-- what is behind an expression is live before it, if it is not bound there
pub through : (x : ℕ) (inside : ℕ → Bool) (e : Expression) (at : Position) → positioned e at ≡ true → is_value at ≡ true → binds x e ≡ false
    → (es : List Event) (t : Bool) → IsPath inside e es t → (K : Bool → Type 0) → K t → Live x e K
through x inside (perform o) at p v n es t path K k = inr (of_result (known o) K t path.1 k)
through x inside (bind y a b) at p v n es t path K k =
    let rest = not_right (nat_eq x y) _ n in
    through x inside a value (and_left (positioned a value) _ p) refl (not_left (binds x a) _ rest) path.0 path.2 path.3 (λ t. Across y x (Live x b K))
    (eqb-false x y (not_left (nat_eq x y) _ n), through x inside b at (and_right (positioned a value) _ p) v (not_right (binds x a) _ rest) path.1 t path.4 K k)
through x inside (sequence a b) at p v n es t path K k =
    through x inside a no_call (and_left (positioned a no_call) _ p) refl (not_left (binds x a) _ n) path.0 path.2 path.3 (λ t. Live x b K)
    (through x inside b at (and_right (positioned a no_call) _ p) v (not_right (binds x a) _ n) path.1 t path.4 K k)
through x inside (branch a b c) at p v n es t path K k =
    let arms = and_right (positioned a value) _ p in
    let none = not_right (binds x a) _ n in
    through x inside a value (and_left (positioned a value) _ p) refl (not_left (binds x a) _ n) path.0 path.2 path.3 (λ t. MatchBool t (Live x b K) (Live x c K))
    (elim path.2 as (λ w. MatchBool w (IsPath inside b path.1 t) (IsPath inside c path.1 t) → MatchBool w (Live x b K) (Live x c K)) [
      | true ↦ λ path'. through x inside b at (and_left (positioned b at) _ arms) v (not_left (binds x b) _ none) path.1 t path' K k
      | false ↦ λ path'. through x inside c at (and_right (positioned b at) _ arms) v (not_right (binds x b) _ none) path.1 t path' K k
    ] path.4)
through x inside (fix members e) at p v n es t path K k =
    (sym (among_is x members) ∙ not_left _ _ n, inr (through x inside e at p v (not_right _ _ n) path.0 t path.1 K k))
through x inside (call a listed) at p v n es t path K k = inr (perhaps K t k)
through x inside (tail_call a) value p v n es t path K k = absurd (cc)
through x inside (tail_call a) no_call p v n es t path K k = absurd (cc)
through x inside (tail_call a) procedure_end p v n es t path K k = absurd (cc)
through x inside (tail_call a) form_end p v n es t path K k = absurd (cc)
through x inside (return e) value p v n es t path K k = absurd (cc)
through x inside (return e) no_call p v n es t path K k = absurd (cc)
through x inside (return e) procedure_end p v n es t path K k = absurd (cc)
through x inside (return e) form_end p v n es t path K k = absurd (cc)
through x inside (end e) value p v n es t path K k = absurd (cc)
through x inside (end e) no_call p v n es t path K k = absurd (cc)
through x inside (end e) procedure_end p v n es t path K k = absurd (cc)
through x inside (end e) form_end p v n es t path K k = absurd (cc)
through x inside (save saves e) at p v n es t path K k = through x (with_region saves inside) e at p v n path.0 t path.1 K k

-- a call of one of two parts
pub call_in : (x : ℕ) (es xs ys : List Event) → es ≡ xs ++ ys → calls x es ≡ true → (calls x xs ≡ true) ⊎ (calls x ys ≡ true)
call_in x es xs ys e h = or_cases (calls x xs) (calls x ys) (sym (calls_append x xs ys) ∙ (sym (ap (calls x) e) ∙ h))

-- of the second, where the first has none
pub call_behind : (x : ℕ) (es xs ys : List Event) → es ≡ xs ++ ys → calls x xs ≡ false → calls x es ≡ true → calls x ys ≡ true
call_behind x es xs ys e n h = elim (call_in x es xs ys e h) [ inl f ↦ absurd (false_true f n) | inr s ↦ s ]

-- what is live after some call of a path is live before it, if it is not bound there
pub called_live : (x : ℕ) (inside : ℕ → Bool) (e : Expression) (at : Position) → positioned e at ≡ true → binds x e ≡ false
    → (Met : Type 0) (L : Later) → LiveSets e Met L → (es : List Event) (t : Bool) → IsPath inside e es t → calls x es ≡ true → Live x e (L x)
called_live x inside (perform o) at p n Met L sets es t path c = absurd (false_true c (ap (calls x) path.0 ∙ references_call x (named (operation_atoms o))))
called_live x inside (bind y a b) at p n Met L sets es t path c =
    let rest = not_right (nat_eq x y) _ n in
    elim (call_in x es path.0 _ path.5 c) [
      | inl f ↦ called_live x inside a value (and_left (positioned a value) _ p) (not_left (binds x a) _ rest) Met _ sets.0 path.0 path.2 path.3 f
      | inr s ↦
          through x inside a value (and_left (positioned a value) _ p) refl (not_left (binds x a) _ rest) path.0 path.2 path.3 (λ t. Across y x (Live x b (L x))) (
            eqb-false x y (not_left (nat_eq x y) _ n),
            called_live x inside b at (and_right (positioned a value) _ p) (not_right (binds x a) _ rest) Met L sets.1 path.1 t path.4
                (call_behind x _ (binding inside y) path.1 refl (binding_calls x inside y) s),
          )
    ]
called_live x inside (sequence a b) at p n Met L sets es t path c =
    elim (call_in x es path.0 _ path.5 c) [
      | inl f ↦ called_live x inside a no_call (and_left (positioned a no_call) _ p) (not_left (binds x a) _ n) Met _ sets.0 path.0 path.2 path.3 f
      | inr s ↦
          through x inside a no_call (and_left (positioned a no_call) _ p) refl (not_left (binds x a) _ n) path.0 path.2 path.3 (λ t. Live x b (L x))
          (called_live x inside b at (and_right (positioned a no_call) _ p) (not_right (binds x a) _ n) Met L sets.1 path.1 t path.4 s)
    ]
called_live x inside (branch a b c) at p n Met L sets es t path h =
    let arms = and_right (positioned a value) _ p in
    let none = not_right (binds x a) _ n in
    elim (call_in x es path.0 _ path.5 h) [
      | inl f ↦ called_live x inside a value (and_left (positioned a value) _ p) (not_left (binds x a) _ n) Met _ sets.0 path.0 path.2 path.3 f
      | inr s ↦
          through x inside a value (and_left (positioned a value) _ p) refl (not_left (binds x a) _ n) path.0 path.2 path.3 (λ t. MatchBool t (Live x b (L x)) (Live x c (L x)))
          (elim path.2 as (λ w. MatchBool w (IsPath inside b path.1 t) (IsPath inside c path.1 t) → MatchBool w (Live x b (L x)) (Live x c (L x))) [
            | true ↦ λ path'. called_live x inside b at (and_left (positioned b at) _ arms) (not_left (binds x b) _ none) _ L sets.1.0 path.1 t path' s
            | false ↦ λ path'. called_live x inside c at (and_right (positioned b at) _ arms) (not_right (binds x b) _ none) _ L sets.1.1 path.1 t path' s
          ] path.4)
    ]
called_live x inside (fix members e) at p n Met L sets es t path c = (
  sym (among_is x members) ∙ not_left _ _ n,
  inr (called_live x inside e at p (not_right _ _ n) Met L sets path.0 t path.1 (call_behind x es (grouping inside members) path.0 path.2 (grouping_calls x inside members) c)),
)
called_live x inside (call a listed) at p n Met L sets es t path c =
    let last = call_behind x es (map References (named (application_atoms a))) (Calls a listed ∷ []) path (references_call x (named (application_atoms a))) c in
    inr ((sets x).0 (elim (or_cases (has x listed) false last) [ inl h ↦ h | inr f ↦ absurd (cc) ])).1
called_live x inside (tail_call a) at p n Met L sets es t path c =
    let last = call_behind x es (map References (named (application_atoms a))) (References 0 ∷ Tails a ∷ []) path (references_call x (named (application_atoms a))) c in
    absurd (false_true last refl)
called_live x inside (return e) at p n Met L sets es t path c =
    called_live x inside e no_call (and_right (ends_procedure at) _ p) n Met _ sets path.0 path.1 path.2
    (elim (call_in x es path.0 _ path.3 c) [ inl f ↦ f | inr s ↦ absurd (false_true s refl) ])
called_live x inside (end e) at p n Met L sets es t path c =
    called_live x inside e value (and_right (ends_form at) _ p) n Met _ sets path.0 path.1 path.2
    (elim (call_in x es path.0 _ path.3 c) [ inl f ↦ f | inr s ↦ absurd (false_true s refl) ])
called_live x inside (save saves e) at p n Met L sets es t path c =
    called_live x (with_region saves inside) e at p n Met L sets path.0 t path.1 (call_behind x es (map Saves (heads e saves)) path.0 path.2 (saves_call x (heads e saves)) c)

-- what is saved at a region's head is not bound inside
pub head_is : (e : Expression) (xs : List ℕ) (x : ℕ) → has x (heads e xs) ≡ true → (has x xs ≡ true) × (binds x e ≡ false)
head_is e [] x h = absurd (cc)
head_is e (y ∷ xs) x h = by (binds y e) refl (head_is e xs x) h where
  by : (t : Bool) → binds y e ≡ t → (has x (heads e xs) ≡ true → (has x xs ≡ true) × (binds x e ≡ false)) → has x (unless t y (heads e xs)) ≡ true
      → ((nat_eq x y || has x xs) ≡ true) × (binds x e ≡ false)
  by true b f h = (or_right (nat_eq x y) _ (f h).0, (f h).1)
  by false b f h = first (nat_eq x y) refl h where
    first : (t : Bool) → nat_eq x y ≡ t → (t || has x (heads e xs)) ≡ true → ((nat_eq x y || has x xs) ≡ true) × (binds x e ≡ false)
    first true i h = (or_left (nat_eq x y) _ i, ap (λ z. binds z e) (eqb-true x y i) ∙ b)
    first false i h = (or_right (nat_eq x y) _ (f h).0, (f h).1)

-- the region round an expression, if one stands there, saves what it needs
abbrev pub NeedsRound : Expression → Type 0
NeedsRound e = (x : ℕ) → has x (saved_round e) ≡ true → EveryPathCalls no_region x e

pub no_round : (e : Expression) → regions_stand false e ≡ true → NeedsRound e
no_round (perform o) s x h = absurd (cc)
no_round (bind y a b) s x h = absurd (cc)
no_round (sequence a b) s x h = absurd (cc)
no_round (branch a b c) s x h = absurd (cc)
no_round (fix members e) s x h = absurd (cc)
no_round (call a listed) s x h = absurd (cc)
no_round (tail_call a) s x h = absurd (cc)
no_round (return e) s x h = absurd (cc)
no_round (end e) s x h = absurd (cc)
no_round (save saves e) s x h = absurd (cc)

pub heads_live : (inside : ℕ → Bool) (e : Expression) (here : Bool) → regions_stand here e ≡ true → (at : Position) → positioned e at ≡ true
    → (Met : Type 0) (L : Later) → LiveSets e Met L → ArmsSave inside e → NeedsRound e → HeadsLive e L
heads_live inside (perform o) here s at p Met L sets arms n = tt
heads_live inside (bind y a b) here s at p Met L sets arms n = (
  heads_live inside a false (and_left (regions_stand false a) _ s) value (and_left (positioned a value) _ p) Met _ sets.0 arms.0 (no_round a (and_left (regions_stand false a) _ s)),
  heads_live inside b false (and_right (regions_stand false a) _ s) at (and_right (positioned a value) _ p) Met L sets.1 arms.1 (no_round b (and_right (regions_stand false a) _ s)),
)
heads_live inside (sequence a b) here s at p Met L sets arms n = (
  heads_live inside a false (and_left (regions_stand false a) _ s) no_call (and_left (positioned a no_call) _ p) Met _ sets.0 arms.0 (no_round a (and_left (regions_stand false a) _ s)),
  heads_live inside b false (and_right (regions_stand false a) _ s) at (and_right (positioned a no_call) _ p) Met L sets.1 arms.1 (no_round b (and_right (regions_stand false a) _ s)),
)
heads_live inside (branch a b c) here s at p Met L sets arms n =
    let more = and_right (regions_stand false a) _ s in
    let places = and_right (positioned a value) _ p in (
      heads_live inside a false (and_left (regions_stand false a) _ s) value (and_left (positioned a value) _ p) Met _ sets.0 arms.0 (no_round a (and_left (regions_stand false a) _ s)),
      (
        heads_live inside b true (and_left (regions_stand true b) _ more) at (and_left (positioned b at) _ places) _ L sets.1.0 arms.1.0.1 (λ x h. ((arms.1.0.0 x).0 h).0),
        heads_live inside c true (and_right (regions_stand true b) _ more) at (and_right (positioned b at) _ places) _ L sets.1.1 arms.1.1.1 (λ x h. ((arms.1.1.0 x).0 h).0),
      ),
    )
heads_live inside (fix members e) here s at p Met L sets arms n = heads_live inside e false s at p Met L sets arms (no_round e s)
heads_live inside (call a listed) here s at p Met L sets arms n = tt
heads_live inside (tail_call a) here s at p Met L sets arms n = tt
heads_live inside (return e) here s at p Met L sets arms n = heads_live inside e false s no_call (and_right (ends_procedure at) _ p) Met _ sets arms (no_round e s)
heads_live inside (end e) here s at p Met L sets arms n = heads_live inside e false s value (and_right (ends_form at) _ p) Met _ sets arms (no_round e s)
heads_live inside (save saves e) here s at p Met L sets arms n =
    let stands = and_right here _ s in (
      λ x h.
          let is = head_is e saves x h in
          let path = has_path no_region (save saves e) in
          called_live x no_region (save saves e) at p is.1 Met L sets path.1 path.0 path.2 (n x is.0 path.1 path.0 path.2),
      heads_live (with_region saves inside) e false stands at p Met L sets arms (no_round e stands),
    )
