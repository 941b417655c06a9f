-- What may be met before an expression, by its cases, whatever the events decide.
use Rattle.std.proofs.Common.{◌≡◌, ℕ, Bool, true, false, List, [], ◌∷◌, ◌++◌, Option, Some, None, refl, sym, subst, inl, inr, ◌⊎◌, map, append_assoc}
use Rattle.std.specs.Prelude.{◌↔◌}
use Rattle.std.specs.Bool.{MatchBool}
use Rattle.sch_control.specs.AtomsAndSites.{operation_atoms, application_atoms}
use Rattle.sch_control.specs.Meaning.{heads, with_region}
use Rattle.sch_control.specs.Tree.{Expression, perform, bind, sequence, branch, fix, call, tail_call, return, end, save}
use Rattle.sch_control.specs.flow.Live.{named, Perhaps, ByResult, known, AfterValue}
use Rattle.sch_control.specs.flow.Paths.{Event, References, Saves, Calls, Tails, Returns, Ends, binding, grouping, IsPath, Act, Yes, No, On, decided, Meets, MayMeet}
use Rattle.sch_control.proofs.Results.{perhaps}

-- ## Results

result_of : (k : Option Bool) (L : Bool → Type 0) → ByResult k L → (r : Bool) × (ByResult k (λ t. t ≡ r) × L r)
result_of (Some t) L l = (t, (refl, l))
result_of None L (inl l) = (true, (inl refl, l))
result_of None L (inr l) = (false, (inr refl, l))

pub of_result : (k : Option Bool) (L : Bool → Type 0) (r : Bool) → ByResult k (λ t. t ≡ r) → L r → ByResult k L
of_result (Some t) L r e l = subst L (sym e) l
of_result None L r (inl e) l = inl (subst L (sym e) l)
of_result None L r (inr e) l = inr (subst L (sym e) l)

some_result : (k : Option Bool) → (r : Bool) × ByResult k (λ t. t ≡ r)
some_result (Some t) = (t, refl)
some_result None = (true, inl refl)

-- ## Every expression has a path

module _ (inside : ℕ → Bool) (e : Expression) where
  abbrev pub HasPath : Type 0
  HasPath = (r : Bool) × (es : List Event) × IsPath inside e es r

pub has_path : (inside : ℕ → Bool) (e : Expression) → HasPath inside e
has_path inside (perform o) = let some = some_result (known o) in (some.0, _, (refl, some.1))
has_path inside (bind y a b) =
    let first = has_path inside a in
    let rest = has_path inside b in
    (rest.0, _, (first.1, rest.1, first.0, first.2, rest.2, refl))
has_path inside (sequence a b) =
    let first = has_path inside a in
    let rest = has_path inside b in
    (rest.0, _, (first.1, rest.1, first.0, first.2, rest.2, refl))
has_path inside (branch a b c) =
    let first = has_path inside a in
    elim (first.0) as (λ w. IsPath inside a first.1 w → HasPath inside (branch a b c)) [
      | true ↦ λ at. let rest = has_path inside b in (rest.0, _, (first.1, rest.1, true, at, rest.2, refl))
      | false ↦ λ at. let rest = has_path inside c in (rest.0, _, (first.1, rest.1, false, at, rest.2, refl))
    ] first.2
has_path inside (fix members e) = let rest = has_path inside e in (rest.0, _, (rest.1, rest.2, refl))
has_path inside (call a listed) = (true, _, refl)
has_path inside (tail_call a) = (true, _, refl)
has_path inside (return e) = let first = has_path inside e in (true, _, (first.1, first.0, first.2, refl))
has_path inside (end e) = let first = has_path inside e in (true, _, (first.1, first.0, first.2, refl))
has_path inside (save saves e) = let rest = has_path (with_region saves inside) e in (rest.0, _, (rest.1, rest.2, refl))

-- ## Events in a row

module _ (act : Event → Act) where
  decided-map : (a : Act) (L M : Type 0) → (L → M) → decided a L → decided a M
  decided-map Yes L M f w = tt
  decided-map No L M f w = w
  decided-map On L M f w = f w

  pub meets-append : (xs ys : List Event) (L : Type 0) → Meets act (xs ++ ys) L ↔ Meets act xs (Meets act ys L)
  meets-append [] ys L = (λ w. w, λ w. w)
  meets-append (e ∷ es) ys L =
      let rest = meets-append es ys L in
      (decided-map (act e) _ _ rest.0, decided-map (act e) _ _ rest.1)

  pub meets-map : (es : List Event) (L M : Type 0) → (L → M) → Meets act es L → Meets act es M
  meets-map [] L M f w = f w
  meets-map (e ∷ es) L M f w = decided-map (act e) _ _ (meets-map es L M f) w

  decided-split : (a : Act) (L M K : Type 0) → (L → M ⊎ K) → decided a L → decided a M ⊎ K
  decided-split Yes L M K f w = inl tt
  decided-split No L M K f w = absurd w
  decided-split On L M K f w = f w

  pub meets-decide : (es : List Event) (L : Type 0) → Meets act es L → Meets act es ⊥ ⊎ L
  meets-decide [] L w = inr w
  meets-decide (e ∷ es) L w = decided-split (act e) _ _ L (meets-decide es L) w

  -- two parts in a row
  module _ (inside : ℕ → Bool) (first : List Event) (inner : ℕ → Bool) (part whole : Expression) (L : Bool → Type 0)
      (joins : (second : List Event) (r : Bool) → IsPath inner part second r → IsPath inside whole (first ++ second) r) where
    in_a_row : Meets act first (MayMeet act inner part L) → MayMeet act inside whole L
    in_a_row w =
        elim (meets-decide first (MayMeet act inner part L) w) [
          | inl here ↦
              let rest = has_path inner part in (
                first ++ rest.1,
                rest.0,
                joins rest.1 rest.0 rest.2,
                (meets-append first rest.1 (L rest.0)).1 (meets-map first ⊥ _ (λ b. absurd b) here),
              )
          | inr past ↦ (
            first ++ past.0,
            past.1,
            joins past.0 past.1 past.2,
            (meets-append first past.0 (L past.1)).1 (meets-map first _ _ (λ _. past.3) w),
          )
        ]

  -- the last part, which has both results
  last : (inside : ℕ → Bool) (L : Bool → Type 0) (es : List Event) (whole : Expression) → ((r : Bool) → IsPath inside whole es r) → Meets act es (Perhaps L) → MayMeet act inside whole L
  last inside L es whole is w =
      elim (meets-decide es (Perhaps L) w) [
        | inl here ↦ (es, true, is true, meets-map es ⊥ _ (λ b. absurd b) here)
        | inr past ↦ elim past [
          | inl l ↦ (es, true, is true, meets-map es _ _ (λ _. l) w)
          | inr l ↦ (es, false, is false, meets-map es _ _ (λ _. l) w)
        ]
      ]

  -- ## What is met before an expression, by its cases

  abbrev pub Before : (inside : ℕ → Bool) → Expression → (Bool → Type 0) → Type 0
  Before inside (perform o) L = Meets act (map References (named (operation_atoms o))) (AfterValue o L)
  Before inside (bind y a b) L = Before inside a (λ t. Meets act (binding inside y) (Before inside b L))
  Before inside (sequence a b) L = Before inside a (λ t. Before inside b L)
  Before inside (branch a b c) L = Before inside a (λ t. MatchBool t (Before inside b L) (Before inside c L))
  Before inside (fix members e) L =
      Meets act (grouping inside members) (Before inside e L)
  Before inside (call a listed) L = Meets act (map References (named (application_atoms a)) ++ Calls a listed ∷ []) (Perhaps L)
  Before inside (tail_call a) L = Meets act (map References (named (application_atoms a)) ++ References 0 ∷ Tails a ∷ []) (Perhaps L)
  Before inside (return e) L = Before inside e (λ t. Meets act (References 0 ∷ Returns ∷ []) (Perhaps L))
  Before inside (end e) L = Before inside e (λ t. Meets act (Ends ∷ []) (Perhaps L))
  Before inside (save saves e) L = Meets act (map Saves (heads e saves)) (Before (with_region saves inside) e L)

  pub met : (inside : ℕ → Bool) (e : Expression) (L : Bool → Type 0) (es : List Event) (r : Bool) → IsPath inside e es r → Meets act es (L r) → Before inside e L
  met inside (perform o) L es r path w = meets-map (map References (named (operation_atoms o))) _ _ (of_result (known o) L r path.1) (rw path.0 at w)
  met inside (bind y a b) L es r path w =
      let mid : List Event = binding inside y in
      met inside a _ path.0 path.2 path.3
      (meets-map path.0 _ _ (λ w. meets-map mid _ _ (met inside b L path.1 r path.4) ((meets-append mid path.1 (L r)).0 w))
      ((meets-append path.0 (mid ++ path.1) (L r)).0 (rw path.5 at w)))
  met inside (sequence a b) L es r path w =
      met inside a _ path.0 path.2 path.3
      (meets-map path.0 _ _ (met inside b L path.1 r path.4) ((meets-append path.0 path.1 (L r)).0 (rw path.5 at w)))
  met inside (branch a b c) L es r path w =
      met inside a _ path.0 path.2 path.3
      (meets-map path.0 _ _
      (elim path.2 as (λ t. MatchBool t (IsPath inside b path.1 r) (IsPath inside c path.1 r) → Meets act path.1 (L r) → MatchBool t (Before inside b L) (Before inside c L)) [
        | true ↦ met inside b L path.1 r
        | false ↦ met inside c L path.1 r
      ] path.4) ((meets-append path.0 path.1 (L r)).0 (rw path.5 at w)))
  met inside (fix members e) L es r path w =
      let mid : List Event = grouping inside members in
      meets-map mid _ _ (met inside e L path.0 r path.1) ((meets-append mid path.0 (L r)).0 (rw path.2 at w))
  met inside (call a listed) L es r path w = meets-map _ _ _ (perhaps L r) (rw path at w)
  met inside (tail_call a) L es r path w = meets-map _ _ _ (perhaps L r) (rw path at w)
  met inside (return e) L es r path w =
      met inside e _ path.0 path.1 path.2
      (meets-map path.0 _ _ (meets-map (References 0 ∷ Returns ∷ []) _ _ (perhaps L r)) ((meets-append path.0 (References 0 ∷ Returns ∷ []) (L r)).0 (rw path.3 at w)))
  met inside (end e) L es r path w =
      met inside e _ path.0 path.1 path.2
      (meets-map path.0 _ _ (meets-map (Ends ∷ []) _ _ (perhaps L r)) ((meets-append path.0 (Ends ∷ []) (L r)).0 (rw path.3 at w)))
  met inside (save saves e) L es r path w =
      meets-map (map Saves (heads e saves)) _ _ (met (with_region saves inside) e L path.0 r path.1)
      ((meets-append (map Saves (heads e saves)) path.0 (L r)).0 (rw path.2 at w))

  pub meet : (inside : ℕ → Bool) (e : Expression) (L : Bool → Type 0) → Before inside e L → MayMeet act inside e L
  meet inside (perform o) L w =
      let row : List Event = map References (named (operation_atoms o)) in
      elim (meets-decide row (AfterValue o L) w) [
        | inl here ↦ let some = some_result (known o) in (row, some.0, (refl, some.1), meets-map row ⊥ _ (λ b. absurd b) here)
        | inr past ↦ let some = result_of (known o) L past in (row, some.0, (refl, some.1.0), meets-map row _ _ (λ _. some.1.1) w)
      ]
  meet inside (bind y a b) L w =
      let first = meet inside a (λ t. Meets act (binding inside y) (Before inside b L)) w in
      let mid : List Event = binding inside y in
      rest first.0 first.1 first.2 (meets-map first.0 _ _ (meets-map mid _ _ (meet inside b L)) first.3) where
        rest : (es : List Event) (t : Bool) → IsPath inside a es t → Meets act es (Meets act (binding inside y) (MayMeet act inside b L)) → MayMeet act inside (bind y a b) L
        rest es t path w =
            in_a_row inside (es ++ binding inside y) inside b (bind y a b) L
            (λ second r at. (es, second, t, path, at, append_assoc es (binding inside y) second))
            ((meets-append es (binding inside y) (MayMeet act inside b L)).1 w)
  meet inside (sequence a b) L w =
      let first = meet inside a (λ t. Before inside b L) w in
      in_a_row inside first.0 inside b (sequence a b) L (λ second r at. (first.0, second, first.1, first.2, at, refl)) (meets-map first.0 _ _ (meet inside b L) first.3)
  meet inside (branch a b c) L w =
      let first = meet inside a (λ t. MatchBool t (Before inside b L) (Before inside c L)) w in
      elim (first.1) as (λ t. IsPath inside a first.0 t → Meets act first.0 (MatchBool t (Before inside b L) (Before inside c L)) → MayMeet act inside (branch a b c) L) [
        | true ↦ λ path w. in_a_row inside first.0 inside b (branch a b c) L (λ second r at. (first.0, second, true, path, at, refl)) (meets-map first.0 _ _ (meet inside b L) w)
        | false ↦ λ path w. in_a_row inside first.0 inside c (branch a b c) L (λ second r at. (first.0, second, false, path, at, refl)) (meets-map first.0 _ _ (meet inside c L) w)
      ] first.2 first.3
  meet inside (fix members e) L w =
      in_a_row inside (grouping inside members) inside e (fix members e) L (λ second r at. (second, at, refl)) (meets-map (grouping inside members) _ _ (meet inside e L) w)
  meet inside (call a listed) L w = last inside L (map References (named (application_atoms a)) ++ Calls a listed ∷ []) (call a listed) (λ r. refl) w
  meet inside (tail_call a) L w = last inside L (map References (named (application_atoms a)) ++ References 0 ∷ Tails a ∷ []) (tail_call a) (λ r. refl) w
  meet inside (return e) L w =
      let first = meet inside e (λ t. Meets act (References 0 ∷ Returns ∷ []) (Perhaps L)) w in
      last inside L (first.0 ++ References 0 ∷ Returns ∷ []) (return e) (λ r. (first.0, first.1, first.2, refl)) ((meets-append first.0 (References 0 ∷ Returns ∷ []) (Perhaps L)).1 first.3)
  meet inside (end e) L w =
      let first = meet inside e (λ t. Meets act (Ends ∷ []) (Perhaps L)) w in
      last inside L (first.0 ++ Ends ∷ []) (end e) (λ r. (first.0, first.1, first.2, refl)) ((meets-append first.0 (Ends ∷ []) (Perhaps L)).1 first.3)
  meet inside (save saves e) L w =
      in_a_row inside (map Saves (heads e saves)) (with_region saves inside) e (save saves e) L (λ second r at. (second, at, refl))
      (meets-map (map Saves (heads e saves)) _ _ (meet (with_region saves inside) e L) w)

  -- what follows may say more
  pub before_map : (inside : ℕ → Bool) (e : Expression) (L M : Bool → Type 0) → ((t : Bool) → L t → M t) → Before inside e L → Before inside e M
  before_map inside e L M f w =
      let path = meet inside e L w in
      met inside e M path.0 path.1 path.2 (meets-map path.0 _ _ (f path.1) path.3)

  pub before_same : (inside : ℕ → Bool) (e : Expression) (L M : Bool → Type 0) → ((t : Bool) → L t ↔ M t) → Before inside e L ↔ Before inside e M
  before_same inside e L M f = (before_map inside e L M (λ t. (f t).0), before_map inside e M L (λ t. (f t).1))

  pub may_meet : (inside : ℕ → Bool) (e : Expression) (L : Bool → Type 0) → MayMeet act inside e L ↔ Before inside e L
  may_meet inside e L = (λ path. met inside e L path.0 path.1 path.2 path.3, meet inside e L)
