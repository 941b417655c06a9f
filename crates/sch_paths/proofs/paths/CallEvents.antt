-- What is listed at a call of a path is what is live after it.
use Rattle.std.proofs.Common.{◌≡◌, ℕ, Bool, true, false, List, [], ◌∷◌, ◌++◌, refl, ap, sym, ◌∙◌, subst, inl, inr, ◌⊎◌, map, append_assoc}
use Rattle.std.specs.Prelude.{nat_eq, cond, filter, ◌||◌}
use Rattle.std.proofs.lemmas.Bool.{eqb-true}
use Rattle.std.specs.Bool.{MatchBool}
use Rattle.sch_word.specs.trees.NumberSets.{has}
use Rattle.sch_word.proofs.facts.Booleans.{or_right, or_or, neither, false_true}
use Rattle.sch_word.proofs.facts.Lists.{append_behind}
use Rattle.sch_control.specs.declared.operation.Application.{Application}
use Rattle.sch_control.specs.declared.operation.Member.{Member}
use Rattle.sch_control.specs.AtomsAndSites.{operation_atoms, application_atoms, member_atoms}
use Rattle.sch_control.specs.Meaning.{heads, with_region, no_region}
use Rattle.sch_control.specs.Tree.{Expression, perform, bind, sequence, branch, fix, call, tail_call, return, end, save}
use Rattle.sch_control.specs.Valid.{member_variables}
use Rattle.sch_control.specs.flow.Live.{named, Perhaps, Live, Later, nothing_later}
use Rattle.sch_control.specs.flow.LiveSets.{LiveSets}
use Rattle.sch_control.specs.flow.Paths.{Event, Binds, References, Saves, Calls, Returns, Ends, binding, grouping, IsPath, Yes, No, On, decided, Meets, MayMeet, live, is_call, some_call}
use Rattle.sch_control.proofs.Results.{perhaps}
use Rattle.sch_paths.specs.Calls.{MeetsAfter, ListsLive}
use Rattle.sch_paths.proofs.paths.LiveByPaths.{live_is, binding_live}
use Rattle.sch_paths.proofs.paths.MeetsByCases.{has_path, meets-append, meets-map, meets-decide}
use Rattle.sch_paths.proofs.paths.PathResults.{path_gives}

-- ## Rows without calls

calls_of_both : (xs ys : List Event) → some_call (xs ++ ys) ≡ (some_call xs || some_call ys)
calls_of_both [] ys = refl
calls_of_both (e ∷ es) ys = rw (calls_of_both es ys) (sym (or_or (is_call e) (some_call es) (some_call ys)))

quiet_both : (xs ys : List Event) → some_call xs ≡ false → some_call ys ≡ false → some_call (xs ++ ys) ≡ false
quiet_both xs ys h k = calls_of_both xs ys ∙ neither (some_call xs) _ h k

quiet_references : (ys : List ℕ) → some_call (map References ys) ≡ false
quiet_references [] = refl
quiet_references (y ∷ ys) = quiet_references ys

quiet_saves : (ys : List ℕ) → some_call (map Saves ys) ≡ false
quiet_saves [] = refl
quiet_saves (y ∷ ys) = quiet_saves ys

quiet_binds : (ys : List ℕ) → some_call (map Binds ys) ≡ false
quiet_binds [] = refl
quiet_binds (y ∷ ys) = quiet_binds ys

quiet_binding : (inside : ℕ → Bool) (y : ℕ) → some_call (binding inside y) ≡ false
quiet_binding inside y = quiet_saves (filter inside (y ∷ []))

quiet_grouping : (inside : ℕ → Bool) (members : List (Member ℕ)) → some_call (grouping inside members) ≡ false
quiet_grouping inside members =
    quiet_both (map Binds (member_variables members)) _ (quiet_binds (member_variables members))
    (quiet_both (map References (named (member_atoms members))) _ (quiet_references (named (member_atoms members))) (quiet_saves (filter inside (member_variables members))))

-- ## Where a call stands

module _ (a : Application ℕ) (l : List ℕ) where
  has_call : (before after : List Event) → some_call (before ++ Calls a l ∷ after) ≡ true
  has_call [] after = refl
  has_call (e ∷ before) after = or_right (is_call e) _ (has_call before after)

  no_call : (xs before after : List Event) → some_call xs ≡ false → xs ≡ before ++ Calls a l ∷ after → ⊥
  no_call xs before after q e = false_true (ap some_call e ∙ has_call before after) q

  abbrev InFirst : (xs ys before after : List Event) → Type 0
  InFirst xs ys before after = (middle : List Event) × (xs ≡ before ++ Calls a l ∷ middle) × (after ≡ middle ++ ys)

  abbrev InSecond : (xs ys before after : List Event) → Type 0
  InSecond xs ys before after = (middle : List Event) × (ys ≡ middle ++ Calls a l ∷ after) × (before ≡ xs ++ middle)

  in_either : (xs ys before after : List Event) → xs ++ ys ≡ before ++ Calls a l ∷ after → InFirst xs ys before after ⊎ InSecond xs ys before after
  in_either [] ys before after e = inr (before, e, refl)
  in_either (x ∷ xs) ys [] after e = let head : x ≡ Calls a l = cc in let rest : xs ++ ys ≡ after = cc in inl (xs, ap (λ z. z ∷ xs) head, sym rest)
  in_either (x ∷ xs) ys (b ∷ before) after e =
      let head : x ≡ b = cc in
      let rest : xs ++ ys ≡ before ++ Calls a l ∷ after = cc in
      elim (in_either xs ys before after rest) [
        | inl w ↦ inl (w.0, rw (head, w.1) refl, w.2)
        | inr w ↦ inr (w.0, w.1, rw (head, w.2) refl)
      ]

  behind_quiet : (xs ys before after : List Event) → some_call xs ≡ false → xs ++ ys ≡ before ++ Calls a l ∷ after → InSecond xs ys before after
  behind_quiet xs ys before after q e =
      elim (in_either xs ys before after e) [
        | inl w ↦ absurd (no_call xs before w.0 q w.1)
        | inr w ↦ w
      ]

  before_quiet : (xs ys before after : List Event) → some_call ys ≡ false → xs ++ ys ≡ before ++ Calls a l ∷ after → InFirst xs ys before after
  before_quiet xs ys before after q e =
      elim (in_either xs ys before after e) [
        | inl w ↦ w
        | inr w ↦ absurd (no_call ys w.0 after q w.1)
      ]

  -- a row behind
  behind : (before middle zs : List Event) → before ++ Calls a l ∷ (middle ++ zs) ≡ (before ++ Calls a l ∷ middle) ++ zs
  behind before middle zs = sym (append_assoc before (Calls a l ∷ middle) zs)

  -- ## What is met after a call, and then what another part begins with

  module _ (x : ℕ) (inside inner : ℕ → Bool) (whole part : Expression) (L : Bool → Type 0) (before first : List Event)
      (joins : (second : List Event) (r : Bool) → IsPath inner part second r → IsPath inside whole (before ++ Calls a l ∷ (first ++ second)) r) where
    goes_on : Meets (live x) first (MayMeet (live x) inner part L) → MeetsAfter x inside whole L before a l
    goes_on w =
        elim (meets-decide (live x) first (MayMeet (live x) inner part L) w) [
          | inl here ↦
              let rest = has_path inner part in (
                first ++ rest.1,
                rest.0,
                joins rest.1 rest.0 rest.2,
                (meets-append (live x) first rest.1 (L rest.0)).1 (meets-map (live x) first ⊥ _ (λ b. absurd b) here),
              )
          | inr past ↦ (
            first ++ past.0,
            past.1,
            joins past.0 past.1 past.2,
            (meets-append (live x) first past.0 (L past.1)).1 (meets-map (live x) first _ _ (λ _. past.3) w),
          )
        ]

  some_of : (P : Bool → Type 0) → Perhaps P → (r : Bool) × P r
  some_of P (inl p) = (true, p)
  some_of P (inr p) = (false, p)

  -- ## What is listed is met after the call

  pub listed_met : (x : ℕ) (inside : ℕ → Bool) (e : Expression) (Met : Type 0) (L : Later) → LiveSets e Met L → (es : List Event) (r : Bool) → IsPath inside e es r
      → (before after : List Event) → es ≡ before ++ Calls a l ∷ after → has x l ≡ true → MeetsAfter x inside e (L x) before a l
  listed_met x inside (perform o) Met L sets es r path before after e h = absurd (no_call es before after (ap some_call path.0 ∙ quiet_references (named (operation_atoms o))) e)
  listed_met x inside (bind y p q) Met L sets es r path before after e h =
      let mid : List Event = binding inside y in
      elim (in_either path.0 (mid ++ path.1) before after (sym path.5 ∙ e)) [
        | inl w ↦
            let at = listed_met x inside p Met _ sets.0 path.0 path.2 path.3 before w.0 w.1 h in
            goes_on x inside inside (bind y p q) q (L x) before (at.0 ++ mid)
            (λ second r is. (before ++ Calls a l ∷ at.0, second, at.1, at.2, is, ap (λ z. before ++ Calls a l ∷ z) (append_assoc at.0 mid second) ∙ behind before at.0 (mid ++ second)))
            ((meets-append (live x) at.0 mid _).1 (meets-map (live x) at.0 _ _ (λ v. (binding_live x inside y _).1 (v.0, (live_is x inside q (L x)).1 v.1)) at.3))
        | inr w ↦
            let v = behind_quiet mid path.1 w.0 after (quiet_binding inside y) w.1 in
            let at = listed_met x inside q Met L sets.1 path.1 r path.4 v.0 after v.1 h in
            (at.0, at.1, (path.0, v.0 ++ Calls a l ∷ at.0, path.2, path.3, at.2, append_behind before path.0 w.0 _ w.2 ∙ ap (λ z. path.0 ++ z) (append_behind w.0 mid v.0 _ v.2)), at.3)
      ]
  listed_met x inside (sequence p q) Met L sets es r path before after e h =
      elim (in_either path.0 path.1 before after (sym path.5 ∙ e)) [
        | inl w ↦
            let at = listed_met x inside p Met _ sets.0 path.0 path.2 path.3 before w.0 w.1 h in
            goes_on x inside inside (sequence p q) q (L x) before at.0
            (λ second r is. (before ++ Calls a l ∷ at.0, second, at.1, at.2, is, behind before at.0 second))
            (meets-map (live x) at.0 _ _ (λ v. (live_is x inside q (L x)).1 v) at.3)
        | inr w ↦
            let at = listed_met x inside q Met L sets.1 path.1 r path.4 w.0 after w.1 h in
            (at.0, at.1, (path.0, w.0 ++ Calls a l ∷ at.0, path.2, path.3, at.2, append_behind before path.0 w.0 _ w.2), at.3)
      ]
  listed_met x inside (branch p q s) Met L sets es r path before after e h =
      elim (in_either path.0 path.1 before after (sym path.5 ∙ e)) [
        | inl w ↦
            let at = listed_met x inside p Met _ sets.0 path.0 path.2 path.3 before w.0 w.1 h in
            elim (at.1) as (λ t. IsPath inside p (before ++ Calls a l ∷ at.0) t → Meets (live x) at.0 (MatchBool t (Live x q (L x)) (Live x s (L x))) → MeetsAfter x inside (branch p q s) (L x) before a l) [
              | true ↦ λ is met.
                  goes_on x inside inside (branch p q s) q (L x) before at.0
                  (λ second r at_q. (before ++ Calls a l ∷ at.0, second, true, is, at_q, behind before at.0 second))
                  (meets-map (live x) at.0 _ _ (λ v. (live_is x inside q (L x)).1 v) met)
              | false ↦ λ is met.
                  goes_on x inside inside (branch p q s) s (L x) before at.0
                  (λ second r at_s. (before ++ Calls a l ∷ at.0, second, false, is, at_s, behind before at.0 second))
                  (meets-map (live x) at.0 _ _ (λ v. (live_is x inside s (L x)).1 v) met)
            ] at.2 at.3
        | inr w ↦
            elim path.2 as (λ t. IsPath inside p path.0 t → MatchBool t (IsPath inside q path.1 r) (IsPath inside s path.1 r) → MeetsAfter x inside (branch p q s) (L x) before a l) [
              | true ↦ λ first second.
                  let at = listed_met x inside q _ L sets.1.0 path.1 r second w.0 after w.1 h in
                  (at.0, at.1, (path.0, w.0 ++ Calls a l ∷ at.0, true, first, at.2, append_behind before path.0 w.0 _ w.2), at.3)
              | false ↦ λ first second.
                  let at = listed_met x inside s _ L sets.1.1 path.1 r second w.0 after w.1 h in
                  (at.0, at.1, (path.0, w.0 ++ Calls a l ∷ at.0, false, first, at.2, append_behind before path.0 w.0 _ w.2), at.3)
            ] path.3 path.4
      ]
  listed_met x inside (fix members p) Met L sets es r path before after e h =
      let v = behind_quiet (grouping inside members) path.0 before after (quiet_grouping inside members) (sym path.2 ∙ e) in
      let at = listed_met x inside p Met L sets path.0 r path.1 v.0 after v.1 h in
      (at.0, at.1, (v.0 ++ Calls a l ∷ at.0, at.2, append_behind before (grouping inside members) v.0 _ v.2), at.3)
  listed_met x inside (call b k) Met L sets es r path before after e h =
      let row : List Event = map References (named (application_atoms b)) in
      let v = behind_quiet row (Calls b k ∷ []) before after (quiet_references (named (application_atoms b))) (sym path ∙ e) in
      let one = only b k v.0 after v.1 in
      let some = some_of (L x) ((sets x).0 (ap (has x) one.1.1 ∙ h)).1 in
      ([], some.0, append_behind before row v.0 (Calls a l ∷ []) v.2 ∙ ap (λ z. row ++ z) (rw (one.0, one.1.0, one.1.1) refl), some.1) where
        only : (b : Application ℕ) (k : List ℕ) (middle after : List Event) → Calls b k ∷ [] ≡ middle ++ Calls a l ∷ after → (middle ≡ []) × ((b ≡ a) × (k ≡ l))
        only b k [] after e = (refl, (cc, cc))
        only b k (m ∷ middle) after e = absurd (no_call [] middle after refl (let rest : [] ≡ middle ++ Calls a l ∷ after = cc in rest))
  listed_met x inside (tail_call b) Met L sets es r path before after e h =
      absurd (no_call es before after (ap some_call path ∙ quiet_both (map References (named (application_atoms b))) _ (quiet_references (named (application_atoms b))) refl) e)
  listed_met x inside (return p) Met L sets es r path before after e h =
      let w = before_quiet path.0 (References 0 ∷ Returns ∷ []) before after refl (sym path.3 ∙ e) in
      let at = listed_met x inside p Met _ sets path.0 path.1 path.2 before w.0 w.1 h in (
        at.0 ++ References 0 ∷ Returns ∷ [],
        r,
        (before ++ Calls a l ∷ at.0, at.1, at.2, behind before at.0 (References 0 ∷ Returns ∷ [])),
        (meets-append (live x) at.0 (References 0 ∷ Returns ∷ []) (L x r)).1 (meets-map (live x) at.0 _ _ (λ z. subst (λ v. Meets (live v) (References 0 ∷ Returns ∷ []) (L x r)) (sym z) tt) at.3),
      )
  listed_met x inside (end p) Met L sets es r path before after e h =
      let w = before_quiet path.0 (Ends ∷ []) before after refl (sym path.3 ∙ e) in
      let at = listed_met x inside p Met _ sets path.0 path.1 path.2 before w.0 w.1 h in (
        at.0 ++ Ends ∷ [],
        r,
        (before ++ Calls a l ∷ at.0, at.1, at.2, behind before at.0 (Ends ∷ [])),
        (meets-append (live x) at.0 (Ends ∷ []) (L x r)).1 (meets-map (live x) at.0 _ _ (λ b. absurd b) at.3),
      )
  listed_met x inside (save saves p) Met L sets es r path before after e h =
      let row : List Event = map Saves (heads p saves) in
      let v = behind_quiet row path.0 before after (quiet_saves (heads p saves)) (sym path.2 ∙ e) in
      let at = listed_met x (with_region saves inside) p Met L sets path.0 r path.1 v.0 after v.1 h in
      (at.0, at.1, (v.0 ++ Calls a l ∷ at.0, at.2, append_behind before row v.0 _ v.2), at.3)

  -- ## What is met after a call is listed

  at_return : (x : ℕ) (K : Type 0) → Meets (live x) (References 0 ∷ Returns ∷ []) K → x ≡ 0
  at_return x K w = by (nat_eq x 0) refl w where
    by : (t : Bool) → nat_eq x 0 ≡ t → decided (cond t Yes On) (decided No K) → x ≡ 0
    by true e w = eqb-true x 0 e
    by false e w = absurd w

  -- what is met in two rows
  in_two : (x : ℕ) (xs ys after : List Event) (K : Type 0) → after ≡ xs ++ ys → Meets (live x) after K → Meets (live x) xs (Meets (live x) ys K)
  in_two x xs ys after K e w = (meets-append (live x) xs ys K).0 (subst (λ z. Meets (live x) z K) e w)

  pub met_listed : (x : ℕ) (inside : ℕ → Bool) (e : Expression) (Met : Type 0) → Met → (L : Later) → LiveSets e Met L → (es : List Event) (r : Bool) → IsPath inside e es r
      → (before after : List Event) → es ≡ before ++ Calls a l ∷ after → Meets (live x) after (L x r) → has x l ≡ true
  met_listed x inside (perform o) Met met L sets es r path before after e m = absurd (no_call es before after (ap some_call path.0 ∙ quiet_references (named (operation_atoms o))) e)
  met_listed x inside (bind y p q) Met met L sets es r path before after e m =
      let mid : List Event = binding inside y in
      elim (in_either path.0 (mid ++ path.1) before after (sym path.5 ∙ e)) [
        | inl w ↦
            met_listed x inside p Met met _ sets.0 path.0 path.2 path.3 before w.0 w.1
            (meets-map (live x) w.0 _ _
            (λ z. let v = (binding_live x inside y _).0 ((meets-append (live x) mid path.1 (L x r)).0 z) in (v.0, (live_is x inside q (L x)).0 (path.1, r, path.4, v.1)))
            (in_two x w.0 (mid ++ path.1) after (L x r) w.2 m))
        | inr w ↦
            let v = behind_quiet mid path.1 w.0 after (quiet_binding inside y) w.1 in
            met_listed x inside q Met met L sets.1 path.1 r path.4 v.0 after v.1 m
      ]
  met_listed x inside (sequence p q) Met met L sets es r path before after e m =
      elim (in_either path.0 path.1 before after (sym path.5 ∙ e)) [
        | inl w ↦
            met_listed x inside p Met met _ sets.0 path.0 path.2 path.3 before w.0 w.1
            (meets-map (live x) w.0 _ _ (λ z. (live_is x inside q (L x)).0 (path.1, r, path.4, z)) (in_two x w.0 path.1 after (L x r) w.2 m))
        | inr w ↦ met_listed x inside q Met met L sets.1 path.1 r path.4 w.0 after w.1 m
      ]
  met_listed x inside (branch p q s) Met met L sets es r path before after e m =
      elim (in_either path.0 path.1 before after (sym path.5 ∙ e)) [
        | inl w ↦
            met_listed x inside p Met met _ sets.0 path.0 path.2 path.3 before w.0 w.1
            (meets-map (live x) w.0 _ _
            (elim path.2 as (λ t. MatchBool t (IsPath inside q path.1 r) (IsPath inside s path.1 r) → Meets (live x) path.1 (L x r) → MatchBool t (Live x q (L x)) (Live x s (L x))) [
              | true ↦ λ at z. (live_is x inside q (L x)).0 (path.1, r, at, z)
              | false ↦ λ at z. (live_is x inside s (L x)).0 (path.1, r, at, z)
            ] path.4)
            (in_two x w.0 path.1 after (L x r) w.2 m))
        | inr w ↦
            elim path.2 as (λ t. IsPath inside p path.0 t → MatchBool t (IsPath inside q path.1 r) (IsPath inside s path.1 r) → has x l ≡ true) [
              | true ↦ λ first second. met_listed x inside q _ (met, path_gives inside p true path.0 first) L sets.1.0 path.1 r second w.0 after w.1 m
              | false ↦ λ first second. met_listed x inside s _ (met, path_gives inside p false path.0 first) L sets.1.1 path.1 r second w.0 after w.1 m
            ] path.3 path.4
      ]
  met_listed x inside (fix members p) Met met L sets es r path before after e m =
      let v = behind_quiet (grouping inside members) path.0 before after (quiet_grouping inside members) (sym path.2 ∙ e) in
      met_listed x inside p Met met L sets path.0 r path.1 v.0 after v.1 m
  met_listed x inside (call b k) Met met L sets es r path before after e m =
      let row : List Event = map References (named (application_atoms b)) in
      let v = behind_quiet row (Calls b k ∷ []) before after (quiet_references (named (application_atoms b))) (sym path ∙ e) in
      let one = last_one b k v.0 after v.1 in
      sym (ap (has x) one.1) ∙ (sets x).1 (met, perhaps (L x) r (subst (λ z. Meets (live x) z (L x r)) one.0 m)) where
        last_one : (b : Application ℕ) (k : List ℕ) (middle after : List Event) → Calls b k ∷ [] ≡ middle ++ Calls a l ∷ after → (after ≡ []) × (k ≡ l)
        last_one b k [] after e = (cc, cc)
        last_one b k (m ∷ middle) after e = absurd (no_call [] middle after refl (let rest : [] ≡ middle ++ Calls a l ∷ after = cc in rest))
  met_listed x inside (tail_call b) Met met L sets es r path before after e m =
      absurd (no_call es before after (ap some_call path ∙ quiet_both (map References (named (application_atoms b))) _ (quiet_references (named (application_atoms b))) refl) e)
  met_listed x inside (return p) Met met L sets es r path before after e m =
      let w = before_quiet path.0 (References 0 ∷ Returns ∷ []) before after refl (sym path.3 ∙ e) in
      met_listed x inside p Met met _ sets path.0 path.1 path.2 before w.0 w.1
      (meets-map (live x) w.0 _ _ (at_return x (L x r)) (in_two x w.0 (References 0 ∷ Returns ∷ []) after (L x r) w.2 m))
  met_listed x inside (end p) Met met L sets es r path before after e m =
      let w = before_quiet path.0 (Ends ∷ []) before after refl (sym path.3 ∙ e) in
      met_listed x inside p Met met _ sets path.0 path.1 path.2 before w.0 w.1 (in_two x w.0 (Ends ∷ []) after (L x r) w.2 m)
  met_listed x inside (save saves p) Met met L sets es r path before after e m =
      let row : List Event = map Saves (heads p saves) in
      let v = behind_quiet row path.0 before after (quiet_saves (heads p saves)) (sym path.2 ∙ e) in
      met_listed x (with_region saves inside) p Met met L sets path.0 r path.1 v.0 after v.1 m

-- At each call of each path, what is listed is what is live after it.
pub lists_live : (e : Expression) → LiveSets e (Unit {0}) nothing_later → ListsLive e
lists_live e sets es r path before after a l is x = (
  λ h. listed_met a l x no_region e (Unit {0}) nothing_later sets es r path before after is h,
  λ m. met_listed a l x no_region e (Unit {0}) tt nothing_later sets (before ++ Calls a l ∷ m.0) m.1 m.2 before m.0 refl m.3,
)
