-- Eager restores are enough: a body with saves and restores does what the plain body does.
use Rattle.std.proofs.Common.{◌≡◌, ◌≢◌, ℕ, List, [], ◌∷◌, length, Option, Some, None, Bool, true, false, cond, refl, sym, ap, ◌∙◌, subst, ◌⊎◌, inl, inr, arith}
use Rattle.std.specs.Prelude.{nat_eq, ◌||◌}
use Rattle.std.specs.Bool.{MatchBool}
use Rattle.std.proofs.lemmas.Bool.{eqb-true, eqb-false, ne_eqb}
use Rattle.sch_word.specs.trees.NumberSets.{has}
use Rattle.sch_word.specs.values.Values.{Value, is_true}
use Rattle.sch_word.specs.values.Checked.{Checked, passes, refused, exhausted, unreachable}
use Rattle.sch_word.specs.runs.Charges.{charge_each}
use Rattle.sch_word.specs.runs.Computation.{Outcome, gives, stops, spent, State, in_store, procedures_from, Entry, checked_call}
use Rattle.sch_word.proofs.facts.Booleans.{neither, or_right, false_true}
use Rattle.sch_word.specs.declared.mark.MarkKind.{MarkKind}
use Rattle.sch_word.specs.declared.mark.MarkKind.TheVariants as mark
use Rattle.sch_word.proofs.Lengths.{procedures_length}
use Rattle.sch_control.specs.declared.operation.Member.{Member}
use Rattle.sch_control.specs.AtomsAndSites.{member_atoms}
use Rattle.sch_word.specs.values.Options.{when_some}
use Rattle.sch_control.specs.Meaning.{World, Result, Environment, Then, Callee, Reading, plain, marked, marked_each, on_outcome, on_ending, on_return, on_checked, put, put_if, put_each, put_inside, after_call, binds, heads, no_region, nothing, with_region, save_each, mark_each, mark_bound, entered, call_in, falls_off, evaluate, do_body}
use Rattle.sch_control.specs.Operations.{Ending, part_values, operate, member_bytes, with_procedures}
use Rattle.sch_word.specs.runs.Procedures.{Procedure}
use Rattle.sch_control.specs.Tree.{Expression, perform, bind, sequence, branch, fix, call, tail_call, return, end, save}
use Rattle.sch_control.specs.Valid.{member_variables}
use Rattle.sch_control.specs.flow.Live.{Mentions, Across, MayGive, Live, Soon, Later, nothing_later}
use Rattle.sch_control.specs.flow.Bare.{erased}
use Rattle.sch_control.proofs.Results.{perhaps}
use Rattle.sch_control.proofs.MarksAlone.{moves_state, each_state, bound_state, members_state}
use Rattle.sch_control.proofs.VariableLists.{heads_has}
use Rattle.sch_paths.specs.Conditions.{Saved, Restored, Fresh, Alike, CalleesAlike}
use Rattle.sch_paths.proofs.runs.SameOperands.{parts_same, members_same, operate_same}
use Rattle.sch_control.proofs.Environments.{after_value}

-- ## Results that are alike

value_alike : {A : Type 0} (o o' : Option A) (k k' : A → Result) → o' ≡ o → ((a : A) → Alike (k a) (k' a)) → Alike (when_some o k) (when_some o' k')
value_alike {A = A} o o' k k' e f = rw e (by o) where
  by : (o : Option A) → Alike (when_some o k) (when_some o k')
  by None = tt
  by (Some a) = f a

pub outcome_alike : {V : Type 0} (m m' : List MarkKind) (o o' : Outcome (State Procedure) V) (k k' : V → World → Result) → o' ≡ o
    → ((v : V) (s : State Procedure) → o ≡ gives v s → Alike (k v (record { state = s; marks = m })) (k' v (record { state = s; marks = m' })))
    → Alike (on_outcome m o k) (on_outcome m' o' k')
outcome_alike {V = V} m m' o o' k k' e f = rw e (by o f) where
  by : (o : Outcome (State Procedure) V) → ((v : V) (s : State Procedure) → o ≡ gives v s → Alike (k v (record { state = s; marks = m })) (k' v (record { state = s; marks = m' })))
      → Alike (on_outcome m o k) (on_outcome m' o k')
  by (gives v s) f = f v s refl
  by (stops why s) f = (refl, refl)
  by (spent s) f = refl

ending_alike : (m m' : List MarkKind) (o o' : Ending) (k k' : Value → World → Result) → o' ≡ o
    → ((v : Value) (s : State Procedure) → o ≡ Some (gives v s) → Alike (k v (record { state = s; marks = m })) (k' v (record { state = s; marks = m' })))
    → Alike (on_ending m o k) (on_ending m' o' k')
ending_alike m m' o o' k k' e f = rw e (by o f) where
  by : (o : Ending) → ((v : Value) (s : State Procedure) → o ≡ Some (gives v s) → Alike (k v (record { state = s; marks = m })) (k' v (record { state = s; marks = m' })))
      → Alike (on_ending m o k) (on_ending m' o k')
  by None f = tt
  by (Some (gives v s)) f = f v s refl
  by (Some (stops why s)) f = (refl, refl)
  by (Some (spent s)) f = refl

pub return_alike : (r r' : Result) (k k' : Value → World → Result) → Alike r r' → ((v : Value) (w w' : World) → w'.state ≡ w.state → Alike (k v w) (k' v w'))
    → Alike (on_return r k) (on_return r' k')
return_alike None None k k' h f = tt
return_alike (Some (gives v w)) (Some (gives u w')) k k' h f = rw h.0 (f v w w' h.1)
return_alike (Some (stops why w)) (Some (stops why' w')) k k' h f = h
return_alike (Some (spent w)) (Some (spent w')) k k' h f = h
return_alike None (Some o) k k' h f = absurd h
return_alike (Some (gives v w)) None k k' h f = absurd h
return_alike (Some (gives v w)) (Some (stops why w')) k k' h f = absurd h
return_alike (Some (gives v w)) (Some (spent w')) k k' h f = absurd h
return_alike (Some (stops why w)) None k k' h f = absurd h
return_alike (Some (stops why w)) (Some (gives v w')) k k' h f = absurd h
return_alike (Some (stops why w)) (Some (spent w')) k k' h f = absurd h
return_alike (Some (spent w)) None k k' h f = absurd h
return_alike (Some (spent w)) (Some (gives v w')) k k' h f = absurd h
return_alike (Some (spent w)) (Some (stops why w')) k k' h f = absurd h

checked_alike : {V : Type 0} (c c' : Checked V) (w w' : World) (k k' : V → Result) → c' ≡ c → w'.state ≡ w.state → ((v : V) → Alike (k v) (k' v))
    → Alike (on_checked c w k) (on_checked c' w' k')
checked_alike {V = V} c c' w w' k k' e q f = rw e (by c) where
  by : (c : Checked V) → Alike (on_checked c w k) (on_checked c w' k')
  by (passes v) = f v
  by (refused why) = (refl, q)
  by exhausted = q
  by unreachable = (refl, q)

either_alike : (t : Bool) (x y x' y' : Result) → (t ≡ true → Alike x x') → (t ≡ false → Alike y y') → Alike (cond t x y) (cond t x' y')
either_alike true x y x' y' f g = f refl
either_alike false x y x' y' f g = g refl

-- ## Environments

put_same : (environment placed : Environment) (y : ℕ) (v : Value) (x : ℕ) → (x ≢ y → placed x ≡ environment x) → put placed y v x ≡ put environment y v x
put_same environment placed y v x h = by (nat_eq x y) refl where
  by : (t : Bool) → nat_eq x y ≡ t → cond t (Some v) (placed x) ≡ cond t (Some v) (environment x)
  by true i = refl
  by false i = h (eqb-false x y i)

saved_same : (inside : ℕ → Bool) (environment saved : Environment) (y : ℕ) (v : Value) (x : ℕ) → inside x ≡ true → (x ≢ y → saved x ≡ environment x)
    → put_if (inside y) saved y v x ≡ put environment y v x
saved_same inside environment saved y v x i h = by (nat_eq x y) refl where
  other : (t : Bool) → nat_eq x y ≡ false → put_if t saved y v x ≡ environment x
  other true e = rw e (h (eqb-false x y e))
  other false e = h (eqb-false x y e)

  by : (t : Bool) → nat_eq x y ≡ t → put_if (inside y) saved y v x ≡ cond t (Some v) (environment x)
  by true e = rw (sym (ap inside (eqb-true x y e)) ∙ i) (rw e refl)
  by false e = other (inside y) e

pub members_put : (members : List (Member ℕ)) (vs : List Value) → length vs ≡ length members → (environment placed : Environment) (x : ℕ)
    → (has x (member_variables members) ≡ false → placed x ≡ environment x) → put_each placed members vs x ≡ put_each environment members vs x
members_put [] [] l environment placed x h = h refl
members_put [] (v ∷ vs) l environment placed x h = h refl
members_put (m ∷ members) [] l environment placed x h = absurd (cc)
members_put (m ∷ members) (v ∷ vs) l environment placed x h =
    members_put members vs (omega (arith, l)) (put environment m.at v) (put placed m.at v) x
    (λ f. put_same environment placed m.at v x (λ n. h (neither (nat_eq x m.at) _ (ne_eqb x m.at n) f)))

members_saved : (inside : ℕ → Bool) (members : List (Member ℕ)) (vs : List Value) → length vs ≡ length members → (environment saved : Environment) (x : ℕ) → inside x ≡ true
    → (has x (member_variables members) ≡ false → saved x ≡ environment x) → put_inside inside saved members vs x ≡ put_each environment members vs x
members_saved inside [] [] l environment saved x i h = h refl
members_saved inside [] (v ∷ vs) l environment saved x i h = h refl
members_saved inside (m ∷ members) [] l environment saved x i h = absurd (cc)
members_saved inside (m ∷ members) (v ∷ vs) l environment saved x i h =
    members_saved inside members vs (omega (arith, l)) (put environment m.at v) (put_if (inside m.at) saved m.at v) x i
    (λ f. saved_same inside environment saved m.at v x i (λ n. h (neither (nat_eq x m.at) _ (ne_eqb x m.at n) f)))

-- ## What holds at a point

-- Each variable that is live has its value, or it is not kept by calls and not wanted before the next. If it is inside a region
-- of it, it is saved.
pub record Holds (keeps inside : ℕ → Bool) (live soon : ℕ → Type 0) (environment placed saved : Environment) : Type 0 where
  pub here : (x : ℕ) → live x → (placed x ≡ environment x) ⊎ ((keeps x ≡ false) × (soon x → ⊥))
  pub safe : (x : ℕ) → live x → inside x ≡ true → saved x ≡ environment x

module _ (keeps : ℕ → Bool) where
  pub weaker : {inside inside' : ℕ → Bool} {live live' soon soon' : ℕ → Type 0} {environment placed saved : Environment} → Holds keeps inside live soon environment placed saved
      → ((x : ℕ) → live' x → live x) → ((x : ℕ) → soon' x → soon x) → ((x : ℕ) → inside' x ≡ true → inside x ≡ true)
      → Holds keeps inside' live' soon' environment placed saved
  weaker h l s i = record {
    here = λ x at. elim (h.here x (l x at)) [ inl e ↦ inl e | inr other ↦ inr (other.0, λ at. other.1 (s x at)) ];
    safe = λ x at in_it. h.safe x (l x at) (i x in_it);
  }

  -- what is live and wanted has its value
  pub found : {inside : ℕ → Bool} {live soon : ℕ → Type 0} {environment placed saved : Environment} → Holds keeps inside live soon environment placed saved
      → (x : ℕ) → live x → soon x → placed x ≡ environment x
  found h x l s = elim (h.here x l) [ inl e ↦ e | inr other ↦ absurd (other.1 s) ]

  pub after_bound : {inside : ℕ → Bool} {live soon : ℕ → Type 0} {environment placed saved : Environment} (y : ℕ) (v : Value)
      → Holds keeps inside (λ x. Across y x (live x)) (λ x. Across y x (soon x)) environment placed saved
      → Holds keeps inside live soon (put environment y v) (put placed y v) (put_if (inside y) saved y v)
  after_bound {inside} {live} {soon} {environment} {placed} {saved} y v h = record {
    here = λ x l. by x l (nat_eq x y) refl;
    safe = λ x l i. saved_same inside environment saved y v x i (λ n. h.safe x (n, l) i);
  } where
    by : (x : ℕ) → live x → (t : Bool) → nat_eq x y ≡ t → (put placed y v x ≡ put environment y v x) ⊎ ((keeps x ≡ false) × (soon x → ⊥))
    by x l true i = inl (put_same environment placed y v x (λ n. absurd (n (eqb-true x y i))))
    by x l false i =
        elim (h.here x (eqb-false x y i, l)) [
          | inl e ↦ inl (put_same environment placed y v x (λ n. e))
          | inr other ↦ inr (other.0, λ s. other.1 (eqb-false x y i, s))
        ]

  pub after_group : {inside : ℕ → Bool} {live soon : ℕ → Type 0} {environment placed saved : Environment} (members : List (Member ℕ)) (vs : List Value) → length vs ≡ length members
      → Holds keeps inside (λ x. (has x (member_variables members) ≡ false) × live x) (λ x. (has x (member_variables members) ≡ false) × soon x) environment placed saved
      → Holds keeps inside live soon (put_each environment members vs) (put_each placed members vs) (put_inside inside saved members vs)
  after_group {inside} {live} {soon} {environment} {placed} {saved} members vs n h = record {
    here = λ x l. by x l (has x (member_variables members)) refl;
    safe = λ x l i. members_saved inside members vs n environment saved x i (λ f. h.safe x (f, l) i);
  } where
    by : (x : ℕ) → live x → (t : Bool) → has x (member_variables members) ≡ t
        → (put_each placed members vs x ≡ put_each environment members vs x) ⊎ ((keeps x ≡ false) × (soon x → ⊥))
    by x l true i = inl (members_put members vs n environment placed x (λ f. absurd (false_true i f)))
    by x l false i =
        elim (h.here x (i, l)) [
          | inl e ↦ inl (members_put members vs n environment placed x (λ f. e))
          | inr other ↦ inr (other.0, λ s. other.1 (i, s))
        ]

  -- after a call, from what is saved and what is restored
  pub called : {inside : ℕ → Bool} {live soon live' soon' : ℕ → Type 0} {environment placed saved : Environment} (restores : List ℕ)
      → Holds keeps inside live soon environment placed saved
      → ((x : ℕ) → live' x → live x) → ((x : ℕ) → live' x → keeps x ≡ false → inside x ≡ true)
      → ((x : ℕ) → live' x → soon' x → keeps x ≡ false → has x restores ≡ true)
      → Holds keeps inside live' soon' environment (after_call keeps restores placed saved) saved
  called {inside} {live} {soon} {live'} {soon'} {environment} {placed} {saved} restores h l i r = record {
    here = λ x at. by x at (keeps x) (has x restores) refl refl;
    safe = λ x at in_it. h.safe x (l x at) in_it;
  } where
    by : (x : ℕ) → live' x → (t u : Bool) → keeps x ≡ t → has x restores ≡ u
        → (cond t (placed x) (cond u (saved x) None) ≡ environment x) ⊎ ((t ≡ false) × (soon' x → ⊥))
    by x at true u k e = elim (h.here x (l x at)) [ inl same ↦ inl same | inr other ↦ absurd (false_true k other.0) ]
    by x at false true k e = inl (h.safe x (l x at) (i x at k))
    by x at false false k e = inr (refl, λ s. false_true (r x at s k) e)

  -- at the head of a region
  pub at_head : {inside : ℕ → Bool} {live soon : ℕ → Type 0} {environment placed saved : Environment} (saves : List ℕ) (e : Expression)
      → Holds keeps inside live (λ x. (has x (heads e saves) ≡ true) ⊎ soon x) environment placed saved
      → ((x : ℕ) → has x saves ≡ true → binds x e ≡ true → live x → ⊥)
      → Holds keeps (with_region saves inside) live soon environment placed (save_each (heads e saves) placed saved)
  at_head {inside} {live} {soon} {environment} {placed} {saved} saves e h fresh = record {
    here = λ x l. elim (h.here x l) [ inl same ↦ inl same | inr other ↦ inr (other.0, λ s. other.1 (inr s)) ];
    safe = λ x l i. by x l (has x (heads e saves)) (has x saves) (binds x e) refl refl refl i;
  } where
    by : (x : ℕ) → live x → (t u b : Bool) → has x (heads e saves) ≡ t → has x saves ≡ u → binds x e ≡ b → (u || inside x) ≡ true → cond t (placed x) (saved x) ≡ environment x
    by x l true u b t_is u_is b_is i = found h x l (inl t_is)
    by x l false true true t_is u_is b_is i = absurd (fresh x u_is b_is l)
    by x l false true false t_is u_is b_is i = absurd (false_true (heads_has e saves x u_is b_is) t_is)
    by x l false false b t_is u_is b_is i = h.safe x l i

-- ## The simulation

module _ (reading : Reading) (callee callee' : Callee) (alike : CalleesAlike callee callee') (depth : ℕ) (outside : ℕ → Bool) where
  call_alike : (spread tail : Bool) (vs : List Value) (w w' : World) → w'.state ≡ w.state → Alike (call_in callee spread tail depth vs w) (call_in callee' spread tail depth vs w')
  call_alike spread tail vs w w' q =
      checked_alike (checked_call w.state.procedures w.state.store spread tail depth vs) (checked_call w'.state.procedures w'.state.store spread tail depth vs) w w'
      (entered callee vs w) (entered callee' vs w')
      (ap (λ s. checked_call s.procedures s.store spread tail depth vs) q) q (by vs) where
        by : (vs : List Value) (e : Entry Procedure) → Alike (entered callee vs w e) (entered callee' vs w' e)
        by [] e = tt
        by (v ∷ vs) e = alike v e.procedure e.arguments e.depth w w' q

  -- what follows an expression goes on alike, from what holds behind it
  abbrev pub Goes : Expression → (inside : ℕ → Bool) → (L S : Later) → (next next' : Then) → Type 0
  Goes e inside L S next next' =
      (v : Value) → MayGive e (is_true v) → (environment placed saved unused : Environment)
      → Holds reading.keeps inside (λ x. L x (is_true v)) (λ x. S x (is_true v)) environment placed saved → (w w' : World) → w'.state ≡ w.state
      → Alike (next v environment unused w) (next' v placed saved w')

  pub simulates : (e : Expression) (Met : Type 0) → Met → (inside : ℕ → Bool) (L S : Later)
      → Saved reading.keeps e Met inside L → Restored reading.keeps e Met L S → Fresh e L
      → (environment placed saved unused : Environment) → Holds reading.keeps inside (λ x. Live x e (L x)) (λ x. Soon x e (S x)) environment placed saved
      → (w w' : World) → w'.state ≡ w.state → (next next' : Then) → Goes e inside L S next next'
      → Alike (evaluate plain callee depth (erased e) outside environment unused w next) (evaluate reading callee' depth e inside placed saved w' next')
  simulates (perform o) Met met inside L S saves restores fresh environment placed saved unused h w w' q next next' goes =
      let same : operate placed o w.state ≡ operate environment o w.state = operate_same environment placed o w.state (λ x m. found reading.keeps h x (inl m) (inl m)) in
      ending_alike w.marks w'.marks (operate environment o w.state) (operate placed o w'.state) (λ v w. next v environment unused w) (λ v w. next' v placed saved w)
      (ap (operate placed o) q ∙ same)
      (λ v s e. goes v (after_value environment o w.state s v e (λ t. t ≡ is_true v) refl) environment placed saved unused
      (weaker reading.keeps h (λ x l. inr (after_value environment o w.state s v e (L x) l)) (λ x l. inr (after_value environment o w.state s v e (S x) l)) (λ x i. i))
      _ _ refl)
  simulates (bind y a b) Met met inside L S saves restores fresh environment placed saved unused h w w' q next next' goes =
      simulates a Met met inside (λ x t. Across y x (Live x b (L x))) (λ x t. Across y x (Soon x b (S x))) saves.0 restores.0 fresh.0 environment placed saved unused h w w' q _ _
      (λ v ends environment placed saved unused h w w' q.
      simulates b Met met inside L S saves.1 restores.1 fresh.1 (put environment y v) (put placed y v) (put_if (inside y) saved y v) (put_if (outside y) unused y v)
      (after_bound reading.keeps y v h) (mark_bound plain outside y w) (mark_bound reading inside y w')
      (bound_state reading inside y w' ∙ (q ∙ sym (bound_state plain outside y w))) next next' goes)
  simulates (sequence a b) Met met inside L S saves restores fresh environment placed saved unused h w w' q next next' goes =
      simulates a Met met inside (λ x t. Live x b (L x)) (λ x t. Soon x b (S x)) saves.0 restores.0 fresh.0 environment placed saved unused h w w' q _ _
      (λ v ends environment placed saved unused h w w' q.
      simulates b Met met inside L S saves.1 restores.1 fresh.1 environment placed saved unused h w w' q next next' goes)
  simulates (branch a b c) Met met inside L S saves restores fresh environment placed saved unused h w w' q next next' goes =
      simulates a Met met inside (λ x t. MatchBool t (Live x b (L x)) (Live x c (L x))) (λ x t. MatchBool t (Soon x b (S x)) (Soon x c (S x))) saves.0 restores.0 fresh.0
      environment placed saved unused h w w' q _ _
      (λ v ends environment placed saved unused h w w' q.
      let at : (t : Bool) → is_true v ≡ t → MayGive a t × Holds reading.keeps inside (λ x. MatchBool t (Live x b (L x)) (Live x c (L x))) (λ x. MatchBool t (Soon x b (S x)) (Soon x c (S x))) environment placed saved
      = λ t e. (subst (λ t. MayGive a t) e ends, subst (λ t. Holds reading.keeps inside (λ x. MatchBool t (Live x b (L x)) (Live x c (L x))) (λ x. MatchBool t (Soon x b (S x)) (Soon x c (S x))) environment placed saved) e h) in
      either_alike (is_true v) _ _ _ _
      (λ e. simulates b (Met × MayGive a true) (met, (at true e).0) inside L S saves.1.0 restores.1.0 fresh.1.0 environment placed saved unused (at true e).1 w w' q next next'
      (λ v then. goes v (inl ((at true e).0, then))))
      (λ e. simulates c (Met × MayGive a false) (met, (at false e).0) inside L S saves.1.1 restores.1.1 fresh.1.1 environment placed saved unused (at false e).1 w w' q next next'
      (λ v then. goes v (inr ((at false e).0, then)))))
  simulates (fix members e) Met met inside L S saves restores fresh environment placed saved unused h w w' q next next' goes =
      outcome_alike w.marks w'.marks (in_store (charge_each (member_bytes members)) w.state) (in_store (charge_each (member_bytes members)) w'.state) _ _
      (ap (in_store (charge_each (member_bytes members))) q)
      (λ u s is.
      let vs = procedures_from (length s.procedures) (length members) in
      let long : length vs ≡ length members = procedures_length (length s.procedures) (length members) in
      let inner : Holds reading.keeps inside (λ x. Mentions x (member_atoms members) ⊎ Live x e (L x)) (λ x. Mentions x (member_atoms members) ⊎ Soon x e (S x))
      (put_each environment members vs) (put_each placed members vs) (put_inside inside saved members vs) = after_group reading.keeps members vs long h in
      value_alike _ _ _ _
      (ap (with_procedures s) (members_same (put_each environment members vs) (put_each placed members vs) s members (λ x m. found reading.keeps inner x (inl m) (inl m))))
      (λ s. simulates e Met met inside L S saves restores fresh (put_each environment members vs) (put_each placed members vs) (put_inside inside saved members vs) _
      (weaker reading.keeps inner (λ x l. inr l) (λ x l. inr l) (λ x i. i)) _ _
      (members_state reading inside members _ ∙ sym (members_state plain outside members _)) next next' goes))
  simulates (call a list) Met met inside L S saves restores fresh environment placed saved unused h w w' q next next' goes =
      value_alike (part_values environment w.state.store a) (part_values placed w'.state.store a) _ _
      (ap (λ s. part_values placed s.store a) q ∙ parts_same environment placed w.state.store a (λ x m. found reading.keeps h x (inl m) m))
      (λ vs. return_alike _ _ _ _
      (call_alike a.spread false vs (marked (mark.Call a.site) w) (marked (mark.Call a.site) (marked_each (reading.moves a.site) w')) (moves_state (reading.moves a.site) w' ∙ q))
      (λ v w w' q. goes v tt environment (after_call reading.keeps list placed saved) saved unused
      (called reading.keeps list h (λ x l. inr (perhaps (L x) (is_true v) l)) (λ x l. saves x met (perhaps (L x) (is_true v) l))
      (λ x l s. restores x met (perhaps (L x) (is_true v) l) (perhaps (S x) (is_true v) s)))
      w (mark_each reading mark.Restore list w') (each_state reading mark.Restore list w' ∙ q)))
  simulates (tail_call a) Met met inside L S saves restores fresh environment placed saved unused h w w' q next next' goes =
      value_alike (environment 0) (placed 0) _ _ (found reading.keeps h 0 (inl refl) (inl refl))
      (λ link. value_alike (part_values environment w.state.store a) (part_values placed w'.state.store a) _ _
      (ap (λ s. part_values placed s.store a) q ∙ parts_same environment placed w.state.store a (λ x m. found reading.keeps h x (inr m) (inr m)))
      (λ vs. call_alike a.spread true vs (marked (mark.Tail a.site) w) (marked (mark.Tail a.site) (marked_each (reading.moves a.site) w')) (moves_state (reading.moves a.site) w' ∙ q)))
  simulates (return e) Met met inside L S saves restores fresh environment placed saved unused h w w' q next next' goes =
      simulates e Met met inside (λ x t. x ≡ 0) (λ x t. x ≡ 0) saves restores fresh environment placed saved unused h w w' q _ _
      (λ v ends environment placed saved unused h w w' q.
      value_alike (environment 0) (placed 0) _ _ (found reading.keeps h 0 refl refl) (λ link. (refl, q)))
  simulates (end e) Met met inside L S saves restores fresh environment placed saved unused h w w' q next next' goes =
      simulates e Met met inside (λ x t. ⊥) (λ x t. ⊥) saves restores fresh environment placed saved unused h w w' q _ _
      (λ v ends environment placed saved unused h w w' q. (refl, q))
  simulates (save list e) Met met inside L S saves restores fresh environment placed saved unused h w w' q next next' goes =
      simulates e Met met (with_region list inside) L S saves restores fresh.1 environment placed (save_each (heads e list) placed saved) unused
      (at_head reading.keeps list e h fresh.0)
      w (mark_each reading mark.Save (heads e list) w') (each_state reading mark.Save (heads e list) w' ∙ q) next next'
      (λ v ends environment placed saved unused h. goes v ends environment placed saved unused (weaker reading.keeps h (λ x l. l) (λ x s. s) (λ x i. or_right (has x list) _ i)))

  -- A body does what it does without its saves and restores, if each variable that is live after a call is saved there, and each
  -- that is wanted soon is restored.
  pub enough : (e : Expression) → Saved reading.keeps e (Unit {0}) no_region nothing_later → Restored reading.keeps e (Unit {0}) nothing_later nothing_later → Fresh e nothing_later
      → (environment : Environment) (w w' : World) → w'.state ≡ w.state
      → Alike (evaluate plain callee depth (erased e) outside environment nothing w falls_off) (do_body reading callee' depth e environment w')
  enough e saves restores fresh environment w w' q =
      simulates e (Unit {0}) tt no_region nothing_later nothing_later saves restores fresh environment environment nothing nothing
      (record { here = λ x l. inl refl; safe = λ x l i. absurd (cc) }) w w' q falls_off falls_off
      (λ v ends environment placed saved unused h w w' q. tt)
