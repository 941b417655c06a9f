-- Read without marks, a body with saves and restores does the very same as the plain body, with whatever callees.
use Rattle.std.proofs.Common.{◌≡◌, ℕ, List, [], ◌∷◌, length, Option, Some, None, Bool, true, false, cond, refl, sym, ap, ◌∙◌, subst, ◌⊎◌, inl, inr}
use Rattle.std.specs.Bool.{MatchBool}
use Rattle.sch_word.specs.trees.NumberSets.{has}
use Rattle.sch_word.specs.values.Values.{Value, is_true}
use Rattle.sch_word.specs.runs.Charges.{charge_each}
use Rattle.sch_word.specs.runs.Computation.{Outcome, gives, stops, spent, State, in_store, procedures_from}
use Rattle.sch_word.proofs.facts.Booleans.{or_right}
use Rattle.sch_word.specs.declared.mark.MarkKind.{MarkKind}
use Rattle.sch_word.specs.declared.mark.MarkKind.TheVariants as mark
use Rattle.sch_word.proofs.Lengths.{procedures_length}
use Rattle.sch_control.specs.declared.operation.Member.{Member}
use Rattle.sch_control.specs.AtomsAndSites.{member_atoms}
use Rattle.sch_word.specs.values.Options.{when_some}
use Rattle.sch_control.specs.Meaning.{World, Result, Environment, Then, Callee, plain, marked, marked_if, on_outcome, on_ending, on_return, put, put_if, put_each, put_inside, after_call, heads, no_region, nothing, with_region, save_each, mark_each, mark_bound, mark_members, call_in, falls_off, evaluate, do_body}
use Rattle.sch_control.specs.Operations.{Ending, part_values, operate, member_bytes, with_procedures}
use Rattle.sch_word.specs.runs.Procedures.{Procedure}
use Rattle.sch_control.specs.Tree.{Expression, perform, bind, sequence, branch, fix, call, tail_call, return, end, save}
use Rattle.sch_control.specs.flow.Live.{Mentions, Across, MayGive, Live, Soon, Later, nothing_later}
use Rattle.sch_control.specs.flow.Bare.{erased, unlisted}
use Rattle.sch_paths.proofs.paths.UnlistedPaths.{heads_unlisted}
use Rattle.sch_control.specs.flow.Middle.{silent}
use Rattle.sch_control.proofs.Results.{perhaps}
use Rattle.sch_paths.specs.Conditions.{Saved, Restored, Fresh}
use Rattle.sch_paths.proofs.runs.SameOperands.{parts_same, members_same, operate_same}
use Rattle.sch_control.proofs.Environments.{after_value}
use Rattle.sch_paths.proofs.runs.AlikeWithMarks.{Holds, weaker, found, after_bound, after_group, called, at_head}

-- ## Results that are the same

value_equal : {A : Type 0} (o o' : Option A) (k k' : A → Result) → o' ≡ o → ((a : A) → k a ≡ k' a) → when_some o k ≡ when_some o' k'
value_equal {A = A} o o' k k' e f = rw e (by o) where
  by : (o : Option A) → when_some o k ≡ when_some o k'
  by None = refl
  by (Some a) = f a

outcome_equal : {V : Type 0} (m : List MarkKind) (o : Outcome (State Procedure) V) (k k' : V → World → Result)
    → ((v : V) (s : State Procedure) → k v (record { state = s; marks = m }) ≡ k' v (record { state = s; marks = m })) → on_outcome m o k ≡ on_outcome m o k'
outcome_equal m (gives v s) k k' f = f v s
outcome_equal m (stops why s) k k' f = refl
outcome_equal m (spent s) k k' f = refl

ending_equal : (m : List MarkKind) (o o' : Ending) (k k' : Value → World → Result) → o' ≡ o
    → ((v : Value) (s : State Procedure) → o ≡ Some (gives v s) → k v (record { state = s; marks = m }) ≡ k' v (record { state = s; marks = m })) → on_ending m o k ≡ on_ending m o' k'
ending_equal m o o' k k' e f = rw e (by o f) where
  by : (o : Ending) → ((v : Value) (s : State Procedure) → o ≡ Some (gives v s) → k v (record { state = s; marks = m }) ≡ k' v (record { state = s; marks = m })) → on_ending m o k ≡ on_ending m o k'
  by None f = refl
  by (Some (gives v s)) f = f v s refl
  by (Some (stops why s)) f = refl
  by (Some (spent s)) f = refl

return_equal : (r : Result) (k k' : Value → World → Result) → ((v : Value) (w : World) → k v w ≡ k' v w) → on_return r k ≡ on_return r k'
return_equal None k k' f = refl
return_equal (Some (gives v w)) k k' f = f v w
return_equal (Some (stops why w)) k k' f = refl
return_equal (Some (spent w)) k k' f = refl

either_equal : (t : Bool) (x y x' y' : Result) → (t ≡ true → x ≡ x') → (t ≡ false → y ≡ y') → cond t x y ≡ cond t x' y'
either_equal true x y x' y' f g = f refl
either_equal false x y x' y' f g = g refl

-- ## No marks

module _ (keeps : ℕ → Bool) where
  each_silent : (kind : ℕ → MarkKind) (xs : List ℕ) (w : World) → mark_each (silent keeps) kind xs w ≡ w
  each_silent kind [] w = refl
  each_silent kind (x ∷ xs) w = each_silent kind xs w

  bound_silent : (inside : ℕ → Bool) (x : ℕ) (w : World) → mark_bound (silent keeps) inside x w ≡ w
  bound_silent inside x w = by (inside x) where
    by : (t : Bool) → marked_if (cond t false false) (mark.Save x) w ≡ w
    by true = refl
    by false = refl

  members_silent : (inside : ℕ → Bool) (members : List (Member ℕ)) (w : World) → mark_members (silent keeps) inside members w ≡ w
  members_silent inside [] w = refl
  members_silent inside (m ∷ members) w = members_silent inside members _ ∙ bound_silent inside m.at w

-- ## The simulation

module _ (keeps : ℕ → Bool) (callee : Callee) (depth : ℕ) (outside : ℕ → Bool) where
  abbrev pub GoesSame : Expression → (inside : ℕ → Bool) → (L S : Later) → (next next' : Then) → Type 0
  GoesSame e inside L S next next' =
      (v : Value) → MayGive e (is_true v) → (environment placed saved unused : Environment)
      → Holds keeps inside (λ x. L x (is_true v)) (λ x. S x (is_true v)) environment placed saved → (w : World)
      → next v environment unused w ≡ next' v placed saved w

  pub the_same : (e : Expression) (Met : Type 0) → Met → (inside : ℕ → Bool) (L S : Later)
      → Saved keeps e Met inside L → Restored keeps e Met L S → Fresh e L
      → (environment placed saved unused : Environment) → Holds keeps inside (λ x. Live x e (L x)) (λ x. Soon x e (S x)) environment placed saved
      → (w : World) (next next' : Then) → GoesSame e inside L S next next'
      → evaluate plain callee depth (erased e) outside environment unused w next ≡ evaluate (silent keeps) callee depth e inside placed saved w next'
  the_same (perform o) Met met inside L S saves restores fresh environment placed saved unused h w next next' goes =
      ending_equal w.marks (operate environment o w.state) (operate placed o w.state) (λ v w. next v environment unused w) (λ v w. next' v placed saved w)
      (operate_same environment placed o w.state (λ x m. found keeps h x (inl m) (inl m)))
      (λ v s e. goes v (after_value environment o w.state s v e (λ t. t ≡ is_true v) refl) environment placed saved unused
      (weaker keeps h (λ x l. inr (after_value environment o w.state s v e (L x) l)) (λ x l. inr (after_value environment o w.state s v e (S x) l)) (λ x i. i)) _)
  the_same (bind y a b) Met met inside L S saves restores fresh environment placed saved unused h w next next' goes =
      the_same a Met met inside (λ x t. Across y x (Live x b (L x))) (λ x t. Across y x (Soon x b (S x))) saves.0 restores.0 fresh.0 environment placed saved unused h w _ _
      (λ v ends environment placed saved unused h w.
      ap (λ z. evaluate plain callee depth (erased b) outside (put environment y v) (put_if (outside y) unused y v) z next) (bound_silent (λ x. true) outside y w)
      ∙ (the_same b Met met inside L S saves.1 restores.1 fresh.1 (put environment y v) (put placed y v) (put_if (inside y) saved y v) (put_if (outside y) unused y v) (after_bound keeps y v h) w next next' goes
      ∙ sym (ap (λ z. evaluate (silent keeps) callee depth b inside (put placed y v) (put_if (inside y) saved y v) z next') (bound_silent keeps inside y w))))
  the_same (sequence a b) Met met inside L S saves restores fresh environment placed saved unused h w next next' goes =
      the_same a Met met inside (λ x t. Live x b (L x)) (λ x t. Soon x b (S x)) saves.0 restores.0 fresh.0 environment placed saved unused h w _ _
      (λ v ends environment placed saved unused h w. the_same b Met met inside L S saves.1 restores.1 fresh.1 environment placed saved unused h w next next' goes)
  the_same (branch a b c) Met met inside L S saves restores fresh environment placed saved unused h w next next' goes =
      the_same a Met met inside (λ x t. MatchBool t (Live x b (L x)) (Live x c (L x))) (λ x t. MatchBool t (Soon x b (S x)) (Soon x c (S x))) saves.0 restores.0 fresh.0 environment placed saved unused h w _ _
      (λ v ends environment placed saved unused h w.
      let at : (t : Bool) → is_true v ≡ t → MayGive a t × Holds keeps inside (λ x. MatchBool t (Live x b (L x)) (Live x c (L x))) (λ x. MatchBool t (Soon x b (S x)) (Soon x c (S x))) environment placed saved
      = λ t e. (subst (λ t. MayGive a t) e ends, subst (λ t. Holds keeps inside (λ x. MatchBool t (Live x b (L x)) (Live x c (L x))) (λ x. MatchBool t (Soon x b (S x)) (Soon x c (S x))) environment placed saved) e h) in
      either_equal (is_true v) _ _ _ _
      (λ e. the_same b (Met × MayGive a true) (met, (at true e).0) inside L S saves.1.0 restores.1.0 fresh.1.0 environment placed saved unused (at true e).1 w next next'
      (λ v then. goes v (inl ((at true e).0, then))))
      (λ e. the_same c (Met × MayGive a false) (met, (at false e).0) inside L S saves.1.1 restores.1.1 fresh.1.1 environment placed saved unused (at false e).1 w next next'
      (λ v then. goes v (inr ((at false e).0, then)))))
  the_same (fix members e) Met met inside L S saves restores fresh environment placed saved unused h w next next' goes =
      outcome_equal w.marks (in_store (charge_each (member_bytes members)) w.state) _ _
      (λ u s.
      let vs = procedures_from (length s.procedures) (length members) in
      let inner : Holds keeps inside (λ x. Mentions x (member_atoms members) ⊎ Live x e (L x)) (λ x. Mentions x (member_atoms members) ⊎ Soon x e (S x))
      (put_each environment members vs) (put_each placed members vs) (put_inside inside saved members vs)
      = after_group keeps members vs (procedures_length (length s.procedures) (length members)) h in
      value_equal _ _ _ _
      (ap (with_procedures s) (members_same (put_each environment members vs) (put_each placed members vs) s members (λ x m. found keeps inner x (inl m) (inl m))))
      (λ t.
      let w' : World = record { state = t; marks = w.marks } in
      ap (λ z. evaluate plain callee depth (erased e) outside (put_each environment members vs) (put_inside outside unused members vs) z next) (members_silent (λ x. true) outside members w')
      ∙ (the_same e Met met inside L S saves restores fresh (put_each environment members vs) (put_each placed members vs) (put_inside inside saved members vs) (put_inside outside unused members vs)
      (weaker keeps inner (λ x l. inr l) (λ x l. inr l) (λ x i. i)) w' next next' goes
      ∙ sym (ap (λ z. evaluate (silent keeps) callee depth e inside (put_each placed members vs) (put_inside inside saved members vs) z next') (members_silent keeps inside members w')))))
  the_same (call a list) Met met inside L S saves restores fresh environment placed saved unused h w next next' goes =
      value_equal (part_values environment w.state.store a) (part_values placed w.state.store a) _ _ (parts_same environment placed w.state.store a (λ x m. found keeps h x (inl m) m))
      (λ vs. return_equal (call_in callee a.spread false depth vs (marked (mark.Call a.site) w)) _ _
      (λ v w. goes v tt environment (after_call keeps list placed saved) saved unused
      (called keeps list h (λ x l. inr (perhaps (L x) (is_true v) l)) (λ x l. saves x met (perhaps (L x) (is_true v) l))
      (λ x l s. restores x met (perhaps (L x) (is_true v) l) (perhaps (S x) (is_true v) s))) w
      ∙ sym (ap (λ z. next' v (after_call keeps list placed saved) saved z) (each_silent keeps mark.Restore list w))))
  the_same (tail_call a) Met met inside L S saves restores fresh environment placed saved unused h w next next' goes =
      value_equal (environment 0) (placed 0) _ _ (found keeps h 0 (inl refl) (inl refl))
      (λ link. value_equal (part_values environment w.state.store a) (part_values placed w.state.store a) _ _
      (parts_same environment placed w.state.store a (λ x m. found keeps h x (inr m) (inr m))) (λ vs. refl))
  the_same (return e) Met met inside L S saves restores fresh environment placed saved unused h w next next' goes =
      the_same e Met met inside (λ x t. x ≡ 0) (λ x t. x ≡ 0) saves restores fresh environment placed saved unused h w _ _
      (λ v ends environment placed saved unused h w. value_equal (environment 0) (placed 0) _ _ (found keeps h 0 refl refl) (λ link. refl))
  the_same (end e) Met met inside L S saves restores fresh environment placed saved unused h w next next' goes =
      the_same e Met met inside (λ x t. ⊥) (λ x t. ⊥) saves restores fresh environment placed saved unused h w _ _ (λ v ends environment placed saved unused h w. refl)
  the_same (save list e) Met met inside L S saves restores fresh environment placed saved unused h w next next' goes =
      the_same e Met met (with_region list inside) L S saves restores fresh.1 environment placed (save_each (heads e list) placed saved) unused (at_head keeps list e h fresh.0) w next next'
      (λ v ends environment placed saved unused h. goes v ends environment placed saved unused (weaker keeps h (λ x l. l) (λ x s. s) (λ x i. or_right (has x list) _ i)))
      ∙ sym (ap (λ z. evaluate (silent keeps) callee depth e (with_region list inside) placed (save_each (heads e list) placed saved) z next') (each_silent keeps mark.Save (heads e list) w))

  pub silently : (e : Expression) → Saved keeps e (Unit {0}) no_region nothing_later → Restored keeps e (Unit {0}) nothing_later nothing_later → Fresh e nothing_later
      → (environment : Environment) (w : World)
      → evaluate plain callee depth (erased e) outside environment nothing w falls_off ≡ do_body (silent keeps) callee depth e environment w
  silently e saves restores fresh environment w =
      the_same e (Unit {0}) tt no_region nothing_later nothing_later saves restores fresh environment environment nothing nothing
      (record { here = λ x l. inl refl; safe = λ x l i. absurd (cc) }) w falls_off falls_off (λ v ends environment placed saved unused h w. refl)

-- ## What is listed at calls changes nothing of a plain reading

module _ (callee : Callee) (depth : ℕ) where
  abbrev pub SameThen : (next next' : Then) → Type 0
  SameThen next next' = (v : Value) (environment saved : Environment) (w : World) → next v environment saved w ≡ next' v environment saved w

  plain_same : (e : Expression) (inside : ℕ → Bool) (environment saved : Environment) (w : World) (next next' : Then) → SameThen next next'
      → evaluate plain callee depth (unlisted e) inside environment saved w next ≡ evaluate plain callee depth e inside environment saved w next'
  plain_same (perform o) inside environment saved w next next' f =
      ending_equal w.marks (operate environment o w.state) (operate environment o w.state) (λ v w. next v environment saved w) (λ v w. next' v environment saved w) refl
      (λ v s e. f v environment saved _)
  plain_same (bind y a b) inside environment saved w next next' f =
      plain_same a inside environment saved w _ _ (λ v environment saved w. plain_same b inside (put environment y v) (put_if (inside y) saved y v) (mark_bound plain inside y w) next next' f)
  plain_same (sequence a b) inside environment saved w next next' f =
      plain_same a inside environment saved w _ _ (λ v environment saved w. plain_same b inside environment saved w next next' f)
  plain_same (branch a b c) inside environment saved w next next' f =
      plain_same a inside environment saved w _ _
      (λ v environment saved w. either_equal (is_true v) _ _ _ _
      (λ e. plain_same b inside environment saved w next next' f) (λ e. plain_same c inside environment saved w next next' f))
  plain_same (fix members e) inside environment saved w next next' f =
      outcome_equal w.marks (in_store (charge_each (member_bytes members)) w.state) _ _
      (λ u s. value_equal _ _ _ _ refl (λ t. plain_same e inside _ _ _ next next' f))
  plain_same (call a list) inside environment saved w next next' f =
      value_equal (part_values environment w.state.store a) (part_values environment w.state.store a) _ _ refl
      (λ vs. return_equal (call_in callee a.spread false depth vs (marked (mark.Call a.site) w)) _ _
      (λ v w. f v environment saved w ∙ sym (ap (λ z. next' v environment saved z) (each_silent (λ x. true) mark.Restore list w))))
  plain_same (tail_call a) inside environment saved w next next' f = refl
  plain_same (return e) inside environment saved w next next' f = plain_same e inside environment saved w _ _ (λ v environment saved w. refl)
  plain_same (end e) inside environment saved w next next' f = plain_same e inside environment saved w _ _ (λ v environment saved w. refl)
  plain_same (save list e) inside environment saved w next next' f =
      ap (λ hs. evaluate plain callee depth (unlisted e) (with_region list inside) environment (save_each hs environment saved) (mark_each plain mark.Save hs w) next) (heads_unlisted e list)
      ∙ plain_same e (with_region list inside) environment (save_each (heads e list) environment saved) (mark_each plain mark.Save (heads e list) w) next next' f

  pub plainly_unlisted : (e : Expression) (environment : Environment) (w : World) → do_body plain callee depth (unlisted e) environment w ≡ do_body plain callee depth e environment w
  plainly_unlisted e environment w = plain_same e no_region environment nothing w falls_off falls_off (λ v environment saved w. refl)
