-- Two languages whose states differ in their procedures alone, which are related one by one. Nothing
-- has to be known of the states besides, so the world has one point.
use Rattle.std.proofs.Common.{◌≡◌, ℕ, zero, suc, ◌≤◌, Bool, true, false, List, [], ◌∷◌, ◌++◌, length, take, drop, Option, Some, None, refl, sym, ap, ◌∙◌, arith, length-append}
use Rattle.std.specs.Prelude.{slice_get, nat_eq, nat_le}
use Rattle.std.proofs.lemmas.Bool.{eqb-true, leb-true}
use Rattle.std.proofs.lemmas.List.{length-take-le}
use Rattle.sch_word.specs.declared.answer.Answer.{Answer}
use Rattle.sch_word.specs.declared.stop.Stop.{Stop}
use Rattle.sch_word.specs.declared.stop.Stop.TheVariants.{NotProcedure, WrongCount}
use Rattle.sch_word.specs.values.Values.{Value, unspecified, procedure}
use Rattle.sch_word.specs.runs.Store.{Store}
use Rattle.sch_word.specs.runs.Handed.{handed}
use Rattle.sch_word.specs.runs.Computation.{Outcome, gives, stops, spent, State, Action, Computation, with_rest, in_store, on_value, after, require, set_or_stop, read_cell, write_cell, write_cells, new_procedure, new_group, new_fix, new_cells, numbers_from, procedures_from, known_procedure, callee, operands, depth_left, Entry, checked_call, call_with, entry_left, Enter}
use Rattle.sch_word.specs.runs.Charges.{new_list, fit}
use Rattle.sch_word.specs.runs.Runs.{seen, starting_state}
use Rattle.sch_word.proofs.Lengths.{numbers_length, procedures_length}
use Rattle.sch_word.proofs.Similar.{Correspondence, Similar, SimilarOutcome, Same, BothChecked, both_pass, both_refused, both_exhausted, both_unreachable, both_self, both_on_passed, similar_gives, similar_checked, similar_keeping, similar_then, similar_seen}

-- a promise on the value that an outcome over the store gives
abbrev pub Gives : {V : Type 0} → (V → Type 0) → Outcome Store V → Type 0
Gives Promise (gives v t) = Promise v
Gives Promise _ = Unit {0}

pub gives_on : {V W : Type 0} (Promise : W → Type 0) (a : Outcome Store V) (next : V → Action W) → ((v : V) (t : Store) → Gives Promise (next v t)) → Gives Promise (on_value a next)
gives_on Promise (gives v t) next h = h v t
gives_on Promise (stops why t) next h = tt
gives_on Promise (spent t) next h = tt

pub gives_require : {V : Type 0} (Promise : V → Type 0) (b : Bool) (why : Stop) (next : Action V) (t : Store) → (b ≡ true → Gives Promise (next t)) → Gives Promise (require b why next t)
gives_require Promise true why next t h = h refl
gives_require Promise false why next t h = tt

with_list_length : (required : ℕ) (vs : List Value) (list : Value) → required ≤ length vs → length (take required vs ++ list ∷ []) ≡ suc required
with_list_length required vs list enough = omega (arith, length-append (take required vs) (list ∷ []), length-take-le required vs enough)

-- as many values as formals
pub fit_length : (formals : ℕ) (rest : Bool) (vs : List Value) (t : Store) → Gives (λ ws. length ws ≡ formals) (fit formals rest vs t)
fit_length formals false vs t =
    gives_require (λ ws. length ws ≡ formals) (nat_eq (length vs) formals) WrongCount (gives vs) t (eqb-true (length vs) formals)
fit_length zero true vs t = tt
fit_length (suc required) true vs t =
    gives_require (λ ws. length ws ≡ suc required) (nat_le required (length vs)) WrongCount (after (new_list (drop required vs)) (λ list. gives (take required vs ++ list ∷ []))) t
    (λ enough. gives_on (λ ws. length ws ≡ suc required) (new_list (drop required vs) t) (λ list. gives (take required vs ++ list ∷ []))
    (λ list u. with_list_length required vs list (leb-true required (length vs) enough)))

module _ {P Q : Type 0} (Becomes : P → Q → Type 0) where
  pub data Pairs : List P → List Q → Type 0 where
    no_pairs : Pairs [] []
    and_pair : {p : P} {q : Q} {ps : List P} {qs : List Q} → Becomes p q → Pairs ps qs → Pairs (p ∷ ps) (q ∷ qs)

  pub pairs_length : {ps : List P} {qs : List Q} → Pairs ps qs → length ps ≡ length qs
  pairs_length no_pairs = refl
  pairs_length (and_pair h hs) = ap suc (pairs_length hs)

  pub pairs_append : {ps ps' : List P} {qs qs' : List Q} → Pairs ps qs → Pairs ps' qs' → Pairs (ps ++ ps') (qs ++ qs')
  pairs_append no_pairs g = g
  pairs_append (and_pair h hs) g = and_pair h (pairs_append hs g)

  pub pairs_known : {ps : List P} {qs : List Q} → Pairs ps qs → (i : ℕ) → BothChecked Becomes (known_procedure (slice_get ps i)) (known_procedure (slice_get qs i))
  pairs_known no_pairs i = both_unreachable
  pairs_known (and_pair h hs) zero = both_pass h
  pairs_known (and_pair h hs) (suc i) = pairs_known hs i

  pub pairs_callee : {ps : List P} {qs : List Q} → Pairs ps qs → (vs : List Value) → BothChecked Becomes (callee ps vs) (callee qs vs)
  pairs_callee h (procedure i ∷ vs) = pairs_known h i
  pairs_callee h _ = both_refused NotProcedure

  pub record SameEntry (e : Entry P) (f : Entry Q) : Type 0 where
    pub becomes : Becomes e.procedure f.procedure
    pub arguments : e.arguments ≡ f.arguments
    pub depth : e.depth ≡ f.depth

  pub both_entry_left : (n : ℕ) {e : Entry P} {f : Entry Q} → SameEntry e f → BothChecked SameEntry (entry_left n e) (entry_left n f)
  both_entry_left zero h = both_exhausted
  both_entry_left (suc n) h = both_pass h

  pub checked_call_same : {ps : List P} {qs : List Q} → Pairs ps qs → (t : Store) (spread tail : Bool) (depth : ℕ) (vs : List Value)
      → BothChecked SameEntry (checked_call ps t spread tail depth vs) (checked_call qs t spread tail depth vs)
  checked_call_same h t spread tail depth vs =
      both_on_passed (both_self (handed (operands vs) spread t.objects))
      (λ _ _ arguments. both_on_passed (pairs_callee h vs)
      (λ _ _ becomes. both_on_passed (both_self (depth_left tail depth))
      (λ _ _ left. both_entry_left t.entries (record { becomes = becomes; arguments = arguments; depth = left }))))

  -- the same state with other procedures
  abbrev pub with_procedures : State P → List Q → State Q
  with_procedures s qs = record { cells = s.cells; store = s.store; procedures = qs }

  pub record Alike (s : State P) (t : State Q) : Type 0 where
    pub procedures : List Q
    pub pairs : Pairs s.procedures procedures
    pub is : t ≡ with_procedures s procedures

  abbrev pub same_store : Correspondence (State P) (State Q)
  same_store = record {
    World = Unit {0};
    Grows = λ _ _. Unit {0};
    stays = λ _. tt;
    on = λ _ _ _ _ _. tt;
    Related = λ _ s t. Alike s t;
  }

  -- the values keep a promise; the values are the same
  abbrev pub Keeps : {V V' : Type 0} → (V → V' → Type 0) → Computation P V → Computation Q V' → Type 0
  Keeps Promise c d = Similar same_store (λ _. Promise) tt c d

  abbrev pub DoesSame : {V : Type 0} → Computation P V → Computation Q V → Type 0
  DoesSame c d = Similar same_store (Same same_store) tt c d

  pub with_rest_keeps : {V : Type 0} (Promise : V → Type 0) (a : Outcome Store V) (cs : List (Option Value)) (ps : List P) (qs : List Q) → Gives Promise a → Pairs ps qs
      → SimilarOutcome same_store (λ _ v v'. (v ≡ v') × Promise v) tt (with_rest cs ps a) (with_rest cs qs a)
  with_rest_keeps Promise (gives v t) cs ps qs h p = (tt, _, v, tt, record { procedures = qs; pairs = p; is = refl }, (refl, h), refl)
  with_rest_keeps Promise (stops why t) cs ps qs h p = (tt, _, tt, record { procedures = qs; pairs = p; is = refl }, refl)
  with_rest_keeps Promise (spent t) cs ps qs h p = (tt, _, tt, record { procedures = qs; pairs = p; is = refl }, refl)

  pub with_rest_same : {V : Type 0} (a : Outcome Store V) (cs : List (Option Value)) (ps : List P) (qs : List Q) → Pairs ps qs
      → SimilarOutcome same_store (Same same_store) tt (with_rest cs ps a) (with_rest cs qs a)
  with_rest_same (gives v t) cs ps qs p = (tt, _, v, tt, record { procedures = qs; pairs = p; is = refl }, refl, refl)
  with_rest_same (stops why t) cs ps qs p = (tt, _, tt, record { procedures = qs; pairs = p; is = refl }, refl)
  with_rest_same (spent t) cs ps qs p = (tt, _, tt, record { procedures = qs; pairs = p; is = refl }, refl)

  -- any action on the store does the same on both sides
  pub same_in_store : {V : Type 0} (action : Action V) → DoesSame (in_store action) (in_store action)
  same_in_store action = record { from = λ w0 g s t r. rw r.is (with_rest_same (action s.store) s.cells s.procedures r.procedures r.pairs) }

  pub keeps_in_store : {V : Type 0} (Promise : V → Type 0) (action : Action V) → ((t : Store) → Gives Promise (action t)) → Keeps (λ v v'. (v ≡ v') × Promise v) (in_store action) (in_store action)
  keeps_in_store Promise action h = record { from = λ w0 g s t r. rw r.is (with_rest_keeps Promise (action s.store) s.cells s.procedures r.procedures (h s.store) r.pairs) }

  pub set_or_stop_same : (o : Option (Option Value)) (s : State P) (t : State Q) → Alike s t → SimilarOutcome same_store (Same same_store) tt (set_or_stop o s) (set_or_stop o t)
  set_or_stop_same None s t r = (tt, t, tt, r, refl)
  set_or_stop_same (Some None) s t r = (tt, t, tt, r, refl)
  set_or_stop_same (Some (Some v)) s t r = (tt, t, v, tt, r, refl, refl)

  pub same_read_cell : (c : ℕ) → DoesSame (read_cell c) (read_cell c)
  same_read_cell c = record {
    from = λ w0 g s t r. rw r.is
        (set_or_stop_same (slice_get s.cells c) s (with_procedures s r.procedures) (record { procedures = r.procedures; pairs = r.pairs; is = refl }));
  }

  pub same_write_cell : (c : ℕ) (v : Value) → DoesSame (write_cell c v) (write_cell c v)
  same_write_cell c v = record { from = λ w0 g s t r. rw r.is (tt, _, unspecified, tt, record { procedures = r.procedures; pairs = r.pairs; is = refl }, refl, refl) }

  pub same_write_cells : (cs : List ℕ) (vs : List Value) → DoesSame (write_cells cs vs) (write_cells cs vs)
  same_write_cells [] vs = similar_gives same_store unspecified unspecified (λ _ _. refl)
  same_write_cells (c ∷ cs) [] = similar_gives same_store unspecified unspecified (λ _ _. refl)
  same_write_cells (c ∷ cs) (v ∷ vs) = similar_then same_store (same_write_cell c v) (λ _ _ _. same_write_cells cs vs)

  pub same_new_procedure : {p : P} {q : Q} → Becomes p q → DoesSame (new_procedure p) (new_procedure q)
  same_new_procedure {p} {q} h = record {
    from = λ w0 g s t r. rw (r.is, ← pairs_length r.pairs) (tt, _, _, tt, record { procedures = r.procedures ++ q ∷ []; pairs = pairs_append r.pairs (and_pair h no_pairs); is = refl }, refl, refl);
  }

  pub keeps_new_cells : (m : ℕ) (contents : List (Option Value)) → length contents ≡ m → Keeps (λ ns ns'. (ns ≡ ns') × (length ns ≡ m)) (new_cells contents) (new_cells contents)
  keeps_new_cells m contents long = record {
    from = λ w0 g s t r. rw r.is (tt, _, _, tt, record { procedures = r.procedures; pairs = r.pairs; is = refl }, (refl, numbers_length (length s.cells) contents ∙ long), refl);
  }

  pub keeps_new_group : (m : ℕ) {make : List Value → List P} {make' : List Value → List Q} → ((vs : List Value) → length vs ≡ m → Pairs (make vs) (make' vs))
      → Keeps (λ vs vs'. (vs ≡ vs') × (length vs ≡ m)) (new_group m make) (new_group m make')
  keeps_new_group m {make} {make'} h = record {
    from = λ w0 g s t r.
        let vs = procedures_from (length s.procedures) m in
        rw (r.is, ← pairs_length r.pairs) (
          tt,
          _,
          vs,
          tt,
          record {
            procedures = r.procedures ++ make' vs;
            pairs = pairs_append r.pairs (h vs (procedures_length (length s.procedures) m));
            is = refl;
          },
          (refl, procedures_length (length s.procedures) m),
          refl,
        );
  }

  pub keeps_new_fix : (m : ℕ) {make : List ℕ → List P} {make' : List ℕ → List Q} → ((cs : List ℕ) → length cs ≡ m → Pairs (make cs) (make' cs))
      → Keeps (λ cs cs'. (cs ≡ cs') × (length cs ≡ m)) (new_fix m make) (new_fix m make')
  keeps_new_fix m {make} {make'} h = record {
    from = λ w0 g s t r.
        let vs = procedures_from (length s.procedures) m in
        let cs = numbers_from (length s.cells) vs in
        let long : length cs ≡ m = numbers_length (length s.cells) vs ∙ procedures_length (length s.procedures) m in
        rw (r.is, ← pairs_length r.pairs) (tt, _, cs, tt, record { procedures = r.procedures ++ make' cs; pairs = pairs_append r.pairs (h cs long); is = refl }, (refl, long), refl);
  }

  -- one after another, where both give the same value, with a promise on it
  pub same_keeping : {V W : Type 0} {Promise : V → Type 0} {c : Computation P V} {d : Computation Q V} {next : V → Computation P W} {next' : V → Computation Q W}
      → Keeps (λ v v'. (v ≡ v') × Promise v) c d → ((v : V) → Promise v → DoesSame (next v) (next' v)) → DoesSame (after c next) (after d next')
  same_keeping {Promise = Promise} h k = similar_keeping same_store Promise h (λ _ _ v kept. k v kept)

  -- a call, where entering related procedures does the same
  module _ (enter : Enter P) (enter' : Enter Q) (same_enter : (p : P) (q : Q) → Becomes p q → (vs : List Value) (depth : ℕ) → DoesSame (enter p vs depth) (enter' q vs depth)) where
    pub same_entering : (e : Entry P) (f : Entry Q) → SameEntry e f → DoesSame (enter e.procedure e.arguments e.depth) (enter' f.procedure f.arguments f.depth)
    same_entering e f h = rw (← h.arguments, ← h.depth) (same_enter e.procedure f.procedure h.becomes e.arguments e.depth)

    pub same_call : (spread tail : Bool) (depth : ℕ) (vs : List Value) → DoesSame (call_with enter spread tail depth vs) (call_with enter' spread tail depth vs)
    same_call spread tail depth vs = record {
      from = λ w0 g s t r.
          rw r.is ((similar_checked same_store (checked_call_same r.pairs s.store spread tail depth vs) same_entering).from tt tt s (with_procedures s r.procedures)
          (record { procedures = r.procedures; pairs = r.pairs; is = refl }));
    }

  -- what is seen of two runs from related starts is the same
  pub same_seen : {V : Type 0} (answers : List Answer) (entries : ℕ) (c : Computation P V) (d : Computation Q V) → DoesSame c d → (t : Store) (ps : List P) (qs : List Q) → Pairs ps qs
      → seen answers entries (c (starting_state t ps)) ≡ seen answers entries (d (starting_state t qs))
  same_seen answers entries c d h t ps qs p =
      similar_seen same_store (λ s. s.store) (λ s. s.store) (λ _ s t r. sym (ap (λ u. u.store) r.is)) (Same same_store) answers entries tt _ _
      (h.from tt tt (starting_state t ps) (starting_state t qs) (record { procedures = qs; pairs = p; is = refl }))
