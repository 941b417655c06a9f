-- A program and the one that normalizing makes of it have the same runs.
use Rattle.std.proofs.Common.{◌≡◌, ℕ, zero, suc, ◌+◌, ◌-◌, ◌<◌, ◌≤◌, true, false, List, [], ◌∷◌, ◌++◌, length, map, take, drop, Option, Some, None, refl, sym, ap, ◌∙◌, subst, arith, length-append, append_assoc}
use Rattle.std.specs.Prelude.{slice_get}
use Rattle.std.specs.List.{list_all}
use Rattle.std.specs.Option.{option_flatten}
use Rattle.std.proofs.lemmas.Bool.{eqb-true, ltb-true}
use Rattle.std.proofs.lemmas.List.{length-map}
use Rattle.std.proofs.lemmas.Option.{slice_get-map}
use Rattle.sch_anf_laws.proofs.valid.Parts.{entry_for}
use Rattle.sch_word.specs.values.Values.{Value, unspecified, procedure}
use Rattle.sch_word.specs.runs.Store.{Store}
use Rattle.sch_word.specs.trees.Bindings.{numbers, scope_with, with_variables, value_or}
use Rattle.sch_word.specs.runs.Computation as computation
use Rattle.sch_word.specs.runs.Computation.{Outcome, gives, stops, spent, State, on_value, in_store, take_entry, taken, in_turn, when_known}
use Rattle.sch_word.specs.runs.Charges.{fit}
use Rattle.sch_word.proofs.SameStore.{fit_length}
use Rattle.sch_word.proofs.Steady.{OutcomeGrows, quiet, steady_fit}
use Rattle.sch_word.proofs.facts.Booleans.{and_left, and_right}
use Rattle.sch_word.proofs.facts.NumberSets.{numbers_length}
use Rattle.sch_word.proofs.facts.Lists.{get_seam}
use Rattle.sch_flat.specs.Tree.{Tree, Trees, Body, no_trees, and_tree, count}
use Rattle.sch_flat.specs.Meaning as from
use Rattle.sch_word.specs.runs.Procedures.{Procedure}
use Rattle.sch_flat.specs.Valid.{has_fields}
use Rattle.sch_flat.specs.Run as flat
use Rattle.sch_word.specs.declared.mark.MarkKind.{MarkKind}
use Rattle.sch_word.specs.declared.mark.MarkKind.TheVariants.{Enter, Return}
use Rattle.sch_control.specs.declared.body.Entry.{Entry}
use Rattle.sch_control.specs.Tree.{Code}
use Rattle.sch_control.specs.Operations.{field}
use Rattle.sch_word.specs.values.Options.{when_some}
use Rattle.sch_control.specs.Meaning.{World, Result, Callee, plain, marked, on_outcome, on_return, do_body, entry_environment, nothing, falls_off}
use Rattle.sch_control.specs.Run as control
use Rattle.sch_control.specs.Run.{entry_at, bodies_of, do_forms}
use Rattle.sch_control.specs.Valid.{entries_of}
use Rattle.sch_anf_laws.specs.Normal.{new_label, procedure_code, form_code, normal_bodies}
use Rattle.sch_anf_laws.proofs.runs.Worlds.{Setting, Reached, Same, SameEnter, image, images, world_of, is_procedure_of, reached_self, reached_store, same_from, same_action, same_promised}
use Rattle.sch_anf_laws.proofs.runs.Fine.{Fine, FineEach}
use Rattle.sch_anf_laws.proofs.runs.Agree.{Held, Agrees, agrees_with}
use Rattle.sch_anf_laws.proofs.runs.Same.{same}
use Rattle.sch_anf_laws.proofs.runs.Bodies.{get_right}

-- ## Where a body begins

held_formals : (self : Value) (before vs : List Value) (j m last : ℕ) → j ≡ length before → length vs ≡ m → suc (suc j) + m ≤ last
    → Held last (entry_environment self (before ++ vs)) (numbers (suc (suc j)) m) vs
held_formals self before [] j zero last p l b = tt
held_formals self before [] j (suc m) last p l b = absurd (omega (arith, l))
held_formals self before (v ∷ vs) j zero last p l b = absurd (omega (arith, l))
held_formals self before (v ∷ vs) j (suc m) last p l b = (
  omega (arith, b),
  ap (λ j. slice_get (before ++ v ∷ vs) j) p ∙ get_seam before vs v,
  subst (λ l. Held last (entry_environment self l) (numbers (suc (suc (suc j))) m) vs) (append_assoc before (v ∷ []) vs)
      (held_formals self (before ++ v ∷ []) vs (suc j) m last (omega (arith, p, length-append before (v ∷ []))) (omega (arith, l)) (omega (arith, b))),
)

field_there : (vs : List Value) (k : ℕ) → k < length vs → slice_get vs k ≡ Some (value_or (slice_get vs k))
field_there [] k l = absurd (omega (arith, l))
field_there (v ∷ vs) zero l = refl
field_there (v ∷ vs) (suc k) l = field_there vs k (omega (arith, l))

-- the closure that was entered has its fields in every state that is reached
fields_given : (a : Setting) (start s : State Procedure) (i k : ℕ) (c : Procedure) → Reached a start s → slice_get start.procedures i ≡ Some c → k < length c.fields
    → field (Some (procedure i)) k (images a.starts s.procedures) ≡ Some (value_or (slice_get c.fields k))
fields_given a start s i k c r e l = rw (slice_get-map (image a.starts) s.procedures i, r.kept i c e) (field_there c.fields k l)

begins_agreeing : (a : Setting) (start : State Procedure) (b : Body) (c : Procedure) (i : ℕ) (ws : List Value) → slice_get start.procedures i ≡ Some c → length c.fields ≡ b.fields → length ws ≡ b.formals
    → Agrees a start b.fields (scope_with b.first b.formals []) (with_variables b.first (numbers 2 b.formals) []) (2 + b.formals) (from.entered b ws c.fields) (entry_environment (procedure i) ws)
begins_agreeing a start b c i ws e f l =
    agrees_with a start b.fields [] [] (2 + b.formals) (record { variables = []; fields = c.fields }) (entry_environment (procedure i) ws) b.first b.formals (numbers 2 b.formals) ws
    (numbers_length 2 b.formals) (held_formals (procedure i) [] ws 0 b.formals (2 + b.formals) refl l (omega arith))
    (record {
      two = omega arith;
      at = λ x h. absurd (cc);
      field = λ k h s r. fields_given a start s i k c r e (let m = ltb-true k b.fields h in omega (arith, m, f));
    })

taken_grows : (n : ℕ) (t : Store) → t.entries ≡ n → OutcomeGrows t (taken n t)
taken_grows zero t e = quiet t t refl refl refl (omega arith) (omega arith) (omega arith)
taken_grows (suc n) t e = quiet t (record t { entries = n }) refl refl refl (omega arith) (omega arith) (omega (arith, e))

-- ## Entering

ends_there : (o : Outcome (State Procedure) Value) → on_value o (λ v s. gives v s) ≡ o
ends_there (gives v s) = refl
ends_there (stops why s) = refl
ends_there (spent s) = refl

module _ (a : Setting) (codes : List Code)
    (stand : (label : ℕ) (b : Body) → slice_get a.bodies label ≡ Some b → slice_get codes (new_label a.starts label) ≡ Some (procedure_code a.starts b))
    (fine : (label : ℕ) (b : Body) → slice_get a.bodies label ≡ Some b → Fine a b.fields b.code (scope_with b.first b.formals [])) where
  abbrev from_enter : ℕ → from.Enter
  from_enter n = from.enter a.bodies a.orders n

  abbrev to_enter : ℕ → Callee
  to_enter n = control.enter (entry_at (entries_of codes)) (bodies_of codes) n

  entry_found : (label : ℕ) (x : Code) → slice_get codes label ≡ Some x → entry_at (entries_of codes) label ≡ x.entry
  entry_found label x e = go codes label e
    where
      go : (cs : List Code) (label : ℕ) → slice_get cs label ≡ Some x → option_flatten (slice_get (entries_of cs) label) ≡ x.entry
      go [] label e = absurd (cc)
      go (y ∷ cs) zero e = let m : y ≡ x = cc in ap (λ (z : Code). z.entry) m
      go (y ∷ cs) (suc label) e = go cs label e

  body_same : (n : ℕ) → SameEnter a (from_enter n) (to_enter n) → (start s : State Procedure) (marks : List MarkKind) (i : ℕ) (c : Procedure) (b : Body) (ws : List Value) (left : ℕ)
      → Reached a start s → slice_get start.procedures i ≡ Some c
      → slice_get a.bodies c.label ≡ Some b → length c.fields ≡ b.fields → length ws ≡ b.formals
      → Same a start (from.evaluate a.orders (from_enter n) b.code (from.entered b ws c.fields) left true s)
      (do_body plain (to_enter n) left (procedure_code a.starts b).expression (entry_environment (procedure i) ws) (world_of a.starts s marks))
  body_same n entering start s marks i c b ws left r e body f l =
      subst (λ o. Same a start o (do_body plain (to_enter n) left (procedure_code a.starts b).expression (entry_environment (procedure i) ws) (world_of a.starts s marks)))
      (ends_there (from.evaluate a.orders (from_enter n) b.code (from.entered b ws c.fields) left true s))
      (same a start b.fields (from_enter n) (to_enter n) entering left b.code true (scope_with b.first b.formals []) (with_variables b.first (numbers 2 b.formals) []) (2 + b.formals)
      (from.entered b ws c.fields) (entry_environment (procedure i) ws) nothing s marks (λ v s. gives v s) falls_off
      (fine c.label b body) (begins_agreeing a start b c i ws e f l) r
      (record {
        follows = λ v t after m q below. subst (λ o. Same a start (gives v t) (when_some o (λ link. Some (gives v (marked Return (world_of a.starts t m)))))) (sym (below.at 0 (omega arith)))
            (m ++ Return ∷ [], refl, q);
        whole = λ h v t. refl;
        link = λ h. (unspecified, refl);
      }))

  entered_same : (n : ℕ) → SameEnter a (from_enter n) (to_enter n) → (s : State Procedure) (marks : List MarkKind) (i : ℕ) (c : Procedure) (b : Body) (vs : List Value) (left : ℕ) → Reached a s s
      → slice_get s.procedures i ≡ Some c → slice_get a.bodies c.label ≡ Some b → length c.fields ≡ b.fields
      → Same a s (when_known (Some b) (λ b. computation.after (in_store (fit b.formals b.rest vs))
      (λ ws. computation.after (in_store take_entry) (λ _. from.evaluate a.orders (from_enter n) b.code (from.entered b ws c.fields) left true))) s)
      (control.enter_body (bodies_of codes) (to_enter n) (Some (entry_for b)) (procedure i) (image a.starts c) vs left (world_of a.starts s marks))
  entered_same n entering s marks i c b vs left r e body f =
      same_promised a (λ ws. length ws ≡ b.formals) s s (fit b.formals b.rest vs s.store) marks
      (λ ws. computation.after (in_store take_entry) (λ _. from.evaluate a.orders (from_enter n) b.code (from.entered b ws c.fields) left true))
      (λ ws w. on_outcome w.marks (in_store take_entry w.state)
      (λ _ w. bodies_of codes (new_label a.starts c.label) (to_enter n) left (procedure i) ws (marked (Enter (new_label a.starts c.label)) w))) r
      ((steady_fit b.formals b.rest vs).grows s.store) (fit_length b.formals b.rest vs s.store)
      (λ ws t q l. same_action a s (record { cells = s.cells; store = t; procedures = s.procedures }) (take_entry t) s.cells marks
      (λ _. from.evaluate a.orders (from_enter n) b.code (from.entered b ws c.fields) left true)
      (λ _ w. bodies_of codes (new_label a.starts c.label) (to_enter n) left (procedure i) ws (marked (Enter (new_label a.starts c.label)) w))
      (reached_store a s s s.cells t r q) (taken_grows t.entries t refl)
      (λ u t' q'. subst (λ (o : Option Code). Same a s (from.evaluate a.orders (from_enter n) b.code (from.entered b ws c.fields) left true
      (record { cells = s.cells; store = t'; procedures = s.procedures }))
      (control.do_known o (to_enter n) left (procedure i) ws (world_of a.starts (record { cells = s.cells; store = t'; procedures = s.procedures })
      (marks ++ Enter (new_label a.starts c.label) ∷ [])))) (sym (stand c.label b body))
      (body_same n entering s (record { cells = s.cells; store = t'; procedures = s.procedures }) (marks ++ Enter (new_label a.starts c.label) ∷ []) i c b ws left
      (reached_store a s s s.cells t' r q') e body f l)))

  -- the body of a procedure that a state has
  procedure_known : (s : State Procedure) (i : ℕ) (c : Procedure) → list_all (is_procedure_of a.bodies) s.procedures ≡ true → slice_get s.procedures i ≡ Some c
      → (b : Body) × (slice_get a.bodies c.label ≡ Some b) × (length c.fields ≡ b.fields)
  procedure_known s i c k e = found (slice_get a.bodies c.label) refl (each s.procedures i c k e)
    where
      each : (cs : List Procedure) (i : ℕ) (c : Procedure) → list_all (is_procedure_of a.bodies) cs ≡ true → slice_get cs i ≡ Some c → is_procedure_of a.bodies c ≡ true
      each [] i c k e = absurd (cc)
      each (d ∷ cs) zero c k e = let m : d ≡ c = cc in subst (λ x. is_procedure_of a.bodies x ≡ true) m (and_left (is_procedure_of a.bodies d) (list_all (is_procedure_of a.bodies) cs) k)
      each (d ∷ cs) (suc i) c k e = each cs i c (and_right (is_procedure_of a.bodies d) (list_all (is_procedure_of a.bodies) cs) k) e

      found : (o : Option Body) → slice_get a.bodies c.label ≡ o → has_fields o (length c.fields) ≡ true → (b : Body) × (slice_get a.bodies c.label ≡ Some b) × (length c.fields ≡ b.fields)
      found None e h = absurd (cc)
      found (Some b) e h = (b, e, eqb-true (length c.fields) b.fields h)

  pub enter_same : (n : ℕ) → SameEnter a (from_enter n) (to_enter n)
  enter_same zero s marks i c vs left r e = (world_of a.starts s marks, refl, refl)
  enter_same (suc n) s marks i c vs left r e =
      let k = procedure_known s i c r.known e in
      subst (λ (o : Option Body). Same a s (when_known o (λ b. computation.after (in_store (fit b.formals b.rest vs))
      (λ ws. computation.after (in_store take_entry) (λ _. from.evaluate a.orders (from_enter n) b.code (from.entered b ws c.fields) left true))) s)
      (control.enter_body (bodies_of codes) (to_enter n) (entry_at (entries_of codes) (new_label a.starts c.label)) (procedure i) (image a.starts c) vs left (world_of a.starts s marks))) (sym k.1)
      (subst (λ (o : Option Entry). Same a s (when_known (Some k.0)
      (λ b. computation.after (in_store (fit b.formals b.rest vs))
      (λ ws. computation.after (in_store take_entry) (λ _. from.evaluate a.orders (from_enter n) b.code (from.entered b ws c.fields) left true))) s)
      (control.enter_body (bodies_of codes) (to_enter n) o (procedure i) (image a.starts c) vs left (world_of a.starts s marks)))
      (sym (entry_found (new_label a.starts c.label) (procedure_code a.starts k.0) (stand c.label k.0 k.1)))
      (entered_same n (enter_same n) s marks i c k.0 vs left r e k.1 k.2))

  -- ## Forms

  -- a top-level form, for what it does
  form_same : (n depth : ℕ) (e : Tree) (s : State Procedure) (marks : List MarkKind) → Fine a 0 e [] → Reached a s s
      → Same a s (on_value (from.evaluate a.orders (from_enter n) e flat.top_level depth false s) (λ v t. gives unspecified t))
      (do_body plain (to_enter n) depth (form_code a.starts e).expression nothing (world_of a.starts s marks))
  form_same n depth e s marks f r =
      same a s 0 (from_enter n) (to_enter n) (enter_same n) depth e false [] [] 2 flat.top_level nothing nothing s marks (λ v t. gives unspecified t)
      (λ v environment saved w. Some (gives unspecified w)) f
      (record { two = omega arith; at = λ x h. absurd (cc); field = λ k h t q. let m = ltb-true k 0 h in absurd (omega (arith, m)) }) r
      (record { follows = λ v t after m q b. (m, refl, q); whole = λ h. absurd (cc); link = λ h. absurd (cc) })

  abbrev pub dropping : Outcome (State Procedure) Value → Outcome (State Procedure) Value
  dropping o = on_value o (λ v t. gives unspecified t)

  -- after a form comes the next one
  next_form : (s : State Procedure) (o : Outcome (State Procedure) Value) (r : Result) (k : Value → State Procedure → Outcome (State Procedure) Value) (next : World → Result) → Reached a s s
      → Same a s (dropping o) r
      → ((v : Value) (t : State Procedure) (marks : List MarkKind) → Reached a t t → Same a t (dropping (k v t)) (next (world_of a.starts t marks)))
      → Same a s (dropping (on_value o k)) (on_return r (λ v w. next w))
  next_form s (gives v t) r k next q h g =
      subst (λ r. Same a s (dropping (k v t)) (on_return r (λ v w. next w))) (sym h.1) (same_from a s t (dropping (k v t)) (next (world_of a.starts t h.0)) h.2 (g v t h.0 (reached_self a s t h.2)))
  next_form s (stops why t) r k next q h g =
      let end : Same a s (stops why t) (Some (stops why h.0)) = (h.0, refl, h.2) in
      subst (λ r. Same a s (stops why t) (on_return r (λ v w. next w))) (sym h.1) end
  next_form s (spent t) r k next q h g =
      let end : Same a s (spent t) (Some (spent h.0)) = (h.0, refl, h.2) in
      subst (λ r. Same a s (spent t) (on_return r (λ v w. next w))) (sym h.1) end

  passed_over : (bodies : List Body) (more : List Code) (label : ℕ) (n depth : ℕ) (w : World)
      → do_forms (entries_of (map (procedure_code a.starts) bodies ++ more)) label (bodies_of codes) (to_enter n) depth w
      ≡ do_forms (entries_of more) (label + length bodies) (bodies_of codes) (to_enter n) depth w
  passed_over [] more label n depth w = ap (λ l. do_forms (entries_of more) l (bodies_of codes) (to_enter n) depth w) (omega arith)
  passed_over (b ∷ bodies) more label n depth w = passed_over bodies more (suc label) n depth w ∙ ap (λ l. do_forms (entries_of more) l (bodies_of codes) (to_enter n) depth w) (omega arith)

  abbrev pub FormsClaim : Trees → List ℕ → List Body → ℕ → Type 0
  FormsClaim es places bodies before = (n depth label : ℕ) (done : List Code) (v : Value) (s : State Procedure) (marks : List MarkKind) → FineEach a 0 es []
      → codes ≡ done ++ normal_bodies a.starts before bodies es places → label ≡ length done → Reached a s s
      → Same a s (dropping (in_turn (from.each a.orders (from_enter n) es flat.top_level depth) v s))
      (do_forms (entries_of (normal_bodies a.starts before bodies es places)) label (bodies_of codes) (to_enter n) depth (world_of a.starts s marks))

  pub forms_same : (es : Trees) (places : List ℕ) (bodies : List Body) (before : ℕ) → length places ≡ count es → FormsClaim es places bodies before
  forms_same no_trees places bodies before c n depth label done v s marks f e l r =
      subst (λ x. Same a s (gives unspecified s) x) (sym (ended bodies label)) (marks, refl, r)
    where
      ended : (bodies : List Body) (label : ℕ) → do_forms (entries_of (map (procedure_code a.starts) bodies)) label (bodies_of codes) (to_enter n) depth (world_of a.starts s marks)
          ≡ Some (gives unspecified (world_of a.starts s marks))
      ended [] label = refl
      ended (b ∷ bodies) label = ended bodies (suc label)
  forms_same (and_tree x es) [] bodies before c n depth label done v s marks f e l r = absurd (omega (arith, c))
  forms_same (and_tree x es) (p ∷ places) bodies before c n depth label done v s marks f e l r =
      subst (λ z. Same a s (dropping (in_turn (from.each a.orders (from_enter n) (and_tree x es) flat.top_level depth) v s)) z)
      (sym (passed_over here (form_code a.starts x ∷ others) label n depth (world_of a.starts s marks)))
      (subst (λ (o : Option Code). Same a s (dropping (in_turn (from.each a.orders (from_enter n) (and_tree x es) flat.top_level depth) v s))
      (on_return (control.do_known o (to_enter n) depth unspecified [] (marked (Enter (label + length here)) (world_of a.starts s marks)))
      (λ v w. do_forms (entries_of others) (suc (label + length here)) (bodies_of codes) (to_enter n) depth w))) (sym there)
      (next_form s (from.evaluate a.orders (from_enter n) x flat.top_level depth false s) _ (in_turn (from.each a.orders (from_enter n) es flat.top_level depth))
      (λ w. do_forms (entries_of others) (suc (label + length here)) (bodies_of codes) (to_enter n) depth w) r
      (form_same n depth x s (marks ++ Enter (label + length here) ∷ []) f.0 r)
      (λ u t m q. forms_same es places (drop (p - before) bodies) p (omega (arith, c)) n depth (suc (label + length here))
      ((done ++ map (procedure_code a.starts) here) ++ form_code a.starts x ∷ []) u t m f.1 split long q)))
    where
      here : List Body
      here = take (p - before) bodies

      others : List Code
      others = normal_bodies a.starts p (drop (p - before) bodies) es places

      split : codes ≡ ((done ++ map (procedure_code a.starts) here) ++ form_code a.starts x ∷ []) ++ others
      split = e ∙ (sym (append_assoc done (map (procedure_code a.starts) here) (form_code a.starts x ∷ others))
          ∙ sym (append_assoc (done ++ map (procedure_code a.starts) here) (form_code a.starts x ∷ []) others))

      long : suc (label + length here) ≡ length ((done ++ map (procedure_code a.starts) here) ++ form_code a.starts x ∷ [])
      long = omega (
        arith,
        l,
        length-append (done ++ map (procedure_code a.starts) here) (form_code a.starts x ∷ []),
        length-append done (map (procedure_code a.starts) here),
        length-map here (procedure_code a.starts),
      )

      there : slice_get codes (label + length here) ≡ Some (form_code a.starts x)
      there =
          ap (λ (l : List Code). slice_get l (label + length here)) (e ∙ sym (append_assoc done (map (procedure_code a.starts) here) (form_code a.starts x ∷ others)))
          ∙ get_right (done ++ map (procedure_code a.starts) here) (form_code a.starts x ∷ others) (label + length here) 0
          (omega (arith, l, length-append done (map (procedure_code a.starts) here), length-map here (procedure_code a.starts)))
