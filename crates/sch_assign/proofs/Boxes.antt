-- States with a cell for each variable beside states with cells for some.
use Rattle.std.proofs.Common.{◌≡◌, ℕ, zero, suc, ◌+◌, ◌<◌, Bool, List, [], ◌∷◌, ◌++◌, length, Option, Some, None, refl, ap, ◌∙◌, arith}
use Rattle.std.specs.Prelude.{slice_get}
use Rattle.std.proofs.lemmas.List.{append-nil}
use Rattle.sch_word.specs.declared.answer.Answer.{Answer}
use Rattle.sch_word.specs.values.Values.{Value, unspecified}
use Rattle.sch_word.specs.runs.Store.{Store}
use Rattle.sch_word.specs.runs.Computation.{Outcome, gives, stops, spent, State, Action, Computation, Enter, with_rest, in_store, after, set_or_stop, read_cell, write_cell, new_cells, new_procedure, new_group, new_fix, some_each, numbers_from, procedures_from, Entry, call_with}
use Rattle.sch_word.specs.runs.Runs.{seen, starting_state}
use Rattle.sch_word.proofs.Similar.{Correspondence, Similar, SimilarOutcome, Same, similar_checked, similar_after}
use Rattle.sch_word.proofs.SameStore.{Gives, Pairs, no_pairs, and_pair, pairs_length, pairs_append, SameEntry, checked_call_same}
use Rattle.sch_assign.proofs.Worlds.{World, Grows, stays, on, Holds, holds_none, holds_plain, holds_boxed, boxes, rank, get_plain, get_boxed, set_holds, set_boxes, holds_append, boxes_append, rank_grow}
use Rattle.sch_word.proofs.Lengths.{procedures_length}
use Rattle.sch_word.proofs.facts.Lists.{get_grown}

-- one after another, where both give the same value, with a promise on it
pub similar_keeping : {S S' : Type 0} (L : Correspondence S S') {V U U' : Type 0} (Keep : V → Type 0) {Promise' : L.World → U → U' → Type 0} {w : L.World} {c : S → Outcome S V} {d : S' → Outcome S' V} {next : V → S → Outcome S U} {next' : V → S' → Outcome S' U'} →
    Similar L (λ _ v v'. (v ≡ v') × Keep v) w c d → ((w1 : L.World) → L.Grows w w1 → (v : V) → Keep v → Similar L Promise' w1 (next v) (next' v)) → Similar L Promise' w (after c next) (after d next')
similar_keeping L Keep {next' = next'} h k = similar_after L h (λ w1 g v v' p. rw (← p.0) (k w1 g v p.1))

pub boxed_count : World → ℕ
boxed_count [] = zero
boxed_count (Some v ∷ w) = boxed_count w
boxed_count (None ∷ w) = suc (boxed_count w)

count_boxes : {w : World} {cs : List (Option Value)} → Holds w cs → length (boxes w cs) ≡ boxed_count w
unfolding boxed_count
count_boxes holds_none = refl
count_boxes (holds_plain v h) = count_boxes h
count_boxes (holds_boxed c h) = ap suc (count_boxes h)

holds_length : {w : World} {cs : List (Option Value)} → Holds w cs → length cs ≡ length w
holds_length holds_none = refl
holds_length (holds_plain v h) = ap suc (holds_length h)
holds_length (holds_boxed c h) = ap suc (holds_length h)

pub rank_behind : (w r : World) (i : ℕ) → rank (w ++ r) (length w + i) ≡ boxed_count w + rank r i
unfolding boxed_count
rank_behind [] r i = let q : 0 + i ≡ i = omega arith in rw q (omega arith)
rank_behind (Some v ∷ w) r i = let q : suc (length w) + i ≡ suc (length w + i) = omega arith in rw q (rank_behind w r i)
rank_behind (None ∷ w) r i = let q : suc (length w) + i ≡ suc (length w + i) = omega arith in rw q (let k : rank (w ++ r) (length w + i) ≡ boxed_count w + rank r i = rank_behind w r i in omega (arith, k))

-- cells on both sides: numbers in a world that has grown by these kinds
pub record Made {V : Type 0} (kinds : World) (m : ℕ) (cts : List V) (w : World) (cs ns : List ℕ) : Type 0 where
  pub before : World
  pub is : w ≡ before ++ kinds
  pub source : (i : ℕ) → i < m → slice_get cs i ≡ Some (length before + i)
  pub many : length cs ≡ m
  pub target : ns ≡ numbers_from (boxed_count before) cts

-- the cells of a Fix keep their procedures for ever
pub record Fixed (m : ℕ) (w : World) (cs : List ℕ) (vs : List Value) : Type 0 where
  pub before : World
  pub is : w ≡ before ++ some_each vs
  pub source : (i : ℕ) → i < m → slice_get cs i ≡ Some (length before + i)
  pub many : length cs ≡ m
  pub values : length vs ≡ m

module _ {P Q : Type 0} (Becomes : World → P → Q → Type 0) (grow : (w w' : World) → Grows w w' → (p : P) (q : Q) → Becomes w p q → Becomes w' p q) where
  pairs_grow : (w w' : World) {ps : List P} {qs : List Q} → Grows w w' → Pairs (Becomes w) ps qs → Pairs (Becomes w') ps qs
  pairs_grow w w' g no_pairs = no_pairs
  pairs_grow w w' g (and_pair {p} {q} h hs) = and_pair (grow w w' g p q h) (pairs_grow w w' g hs)

  abbrev pub made : World → State P → List Q → State Q
  made w s qs = record { cells = boxes w s.cells; store = s.store; procedures = qs }

  pub record Rel (w : World) (s : State P) (t : State Q) : Type 0 where
    pub qs : List Q
    pub holds : Holds w s.cells
    pub pairs : Pairs (Becomes w) s.procedures qs
    pub is : t ≡ made w s qs

  abbrev pub link : Correspondence (State P) (State Q)
  link = record { World = World; Grows = Grows; stays = stays; on = on; Related = Rel }

  abbrev pub DoesSame : {V : Type 0} → World → Computation P V → Computation Q V → Type 0
  DoesSame w c d = Similar link (Same link) w c d

  store_kept : {V : Type 0} (Promise : V → Type 0) (w : World) (a : Outcome Store V) (cs : List (Option Value)) (ps : List P) (qs : List Q) → Gives Promise a → Holds w cs → Pairs (Becomes w) ps qs → SimilarOutcome link (λ _ v v'. (v ≡ v') × Promise v) w (with_rest cs ps a) (with_rest (boxes w cs) qs a)
  store_kept Promise w (gives v t) cs ps qs k h p = (w, _, v, stays w, record { qs = qs; holds = h; pairs = p; is = refl }, (refl, k), refl)
  store_kept Promise w (stops why t) cs ps qs k h p = (w, _, stays w, record { qs = qs; holds = h; pairs = p; is = refl }, refl)
  store_kept Promise w (spent t) cs ps qs k h p = (w, _, stays w, record { qs = qs; holds = h; pairs = p; is = refl }, refl)

  pub keeps_in_store : {V : Type 0} {w : World} (Promise : V → Type 0) (action : Action V) → ((t : Store) → Gives Promise (action t)) → Similar link (λ _ v v'. (v ≡ v') × Promise v) w (in_store action) (in_store action)
  keeps_in_store Promise action k = record { from = λ w0 g s t r. rw r.is (store_kept Promise w0 (action s.store) s.cells s.procedures r.qs (k s.store) r.holds r.pairs) }

  store_same : {V : Type 0} (w : World) (a : Outcome Store V) (cs : List (Option Value)) (ps : List P) (qs : List Q) → Holds w cs → Pairs (Becomes w) ps qs → SimilarOutcome link (Same link) w (with_rest cs ps a) (with_rest (boxes w cs) qs a)
  store_same w (gives v t) cs ps qs h p = (w, _, v, stays w, record { qs = qs; holds = h; pairs = p; is = refl }, refl, refl)
  store_same w (stops why t) cs ps qs h p = (w, _, stays w, record { qs = qs; holds = h; pairs = p; is = refl }, refl)
  store_same w (spent t) cs ps qs h p = (w, _, stays w, record { qs = qs; holds = h; pairs = p; is = refl }, refl)

  pub same_in_store : {V : Type 0} {w : World} (action : Action V) → DoesSame w (in_store action) (in_store action)
  same_in_store action = record { from = λ w0 g s t r. rw r.is (store_same w0 (action s.store) s.cells s.procedures r.qs r.holds r.pairs) }

  -- a cell that keeps its value for ever
  pub same_plain : {w : World} {i : ℕ} {v : Value} → slice_get w i ≡ Some (Some v) → DoesSame w (read_cell i) (gives v)
  same_plain {w} {i} {v} e = record {
    from = λ w0 g s t r.
        let e0 : slice_get w0 i ≡ Some (Some v) = rw g.is (get_grown w g.more i (Some v) e) in
        rw (get_plain r.holds i e0) (w0, t, v, stays w0, r, refl, refl);
  }

  set_or_stop_same : (w : World) (o : Option (Option Value)) (s : State P) (t : State Q) → Rel w s t → SimilarOutcome link (Same link) w (set_or_stop o s) (set_or_stop o t)
  set_or_stop_same w None s t r = (w, t, stays w, r, refl)
  set_or_stop_same w (Some None) s t r = (w, t, stays w, r, refl)
  set_or_stop_same w (Some (Some v)) s t r = (w, t, v, stays w, r, refl, refl)

  pub same_read : {w : World} {i j : ℕ} → slice_get w i ≡ Some None → j ≡ rank w i → DoesSame w (read_cell i) (read_cell j)
  same_read {w} {i} {j} e q = record {
    from = λ w0 g s t r.
        let e0 : slice_get w0 i ≡ Some None = rw g.is (get_grown w g.more i None e) in
        let q0 : j ≡ rank w0 i = q ∙ rw g.is (rank_grow w g.more i None e) in
        let c : slice_get s.cells i ≡ slice_get t.cells j = get_boxed r.holds i e0 ∙ rw (r.is, q0) refl in
        rw (← c) (set_or_stop_same w0 (slice_get s.cells i) s t r);
  }

  pub same_write : {w : World} {i j : ℕ} (v : Value) → slice_get w i ≡ Some None → j ≡ rank w i → DoesSame w (write_cell i v) (write_cell j v)
  same_write {w} {i} {j} v e q = record {
    from = λ w0 g s t r.
        let e0 : slice_get w0 i ≡ Some None = rw g.is (get_grown w g.more i None e) in
        let q0 : j ≡ rank w0 i = q ∙ rw g.is (rank_grow w g.more i None e) in
        (w0, _, unspecified, stays w0, record { qs = r.qs; holds = set_holds r.holds i (Some v) e0; pairs = r.pairs; is = rw (r.is, q0, set_boxes r.holds i (Some v) e0) refl }, refl, refl);
  }

  pub same_new_cells : {w : World} (kinds : World) (contents : List (Option Value)) (cts : List (Option Value)) → Holds kinds contents → boxes kinds contents ≡ cts → ((k i : ℕ) → i < length contents → slice_get (numbers_from k contents) i ≡ Some (k + i)) → ((k : ℕ) → length (numbers_from k contents) ≡ length contents) →
      Similar link (λ w1 cs ns. Made kinds (length contents) cts w1 cs ns) w (new_cells contents) (new_cells cts)
  same_new_cells kinds contents cts h b numbers long = record {
    from = λ w0 g s t r.
        let w1 = w0 ++ kinds in
        let grows : Grows w0 w1 = record { more = kinds; is = refl } in
        let e : length s.cells ≡ length w0 = holds_length r.holds in (
          w1,
          made w1 (record s { cells = s.cells ++ contents }) r.qs,
          numbers_from (boxed_count w0) cts,
          grows,
          record { qs = r.qs; holds = holds_append r.holds h; pairs = pairs_grow w0 w1 grows r.pairs; is = refl },
          record { before = w0; is = refl; source = λ i l. numbers (length s.cells) i l ∙ ap (λ k. Some (k + i)) e; many = long (length s.cells); target = refl },
          rw (r.is, count_boxes r.holds, boxes_append kinds contents r.holds, b) refl,
        );
  }

  pub same_new_procedure : {w : World} {p : P} {q : Q} → Becomes w p q → DoesSame w (new_procedure p) (new_procedure q)
  same_new_procedure {w} {p} {q} h = record {
    from = λ w0 g s t r. (
      w0,
      made w0 (record s { procedures = s.procedures ++ p ∷ [] }) (r.qs ++ q ∷ []),
      _,
      stays w0,
      record { qs = r.qs ++ q ∷ []; holds = r.holds; pairs = pairs_append (Becomes w0) r.pairs (and_pair (grow w w0 g p q h) no_pairs); is = refl },
      refl,
      rw (r.is, ← pairs_length (Becomes w0) r.pairs) refl,
    );
  }

  some_holds : (vs : List Value) → Holds (some_each vs) (some_each vs)
  some_holds [] = holds_none
  some_holds (v ∷ vs) = holds_plain v (some_holds vs)

  no_boxes : (vs : List Value) → boxes (some_each vs) (some_each vs) ≡ []
  no_boxes [] = refl
  no_boxes (v ∷ vs) = no_boxes vs

  pub same_new_fix : {w : World} (m : ℕ) {make : List ℕ → List P} {make' : List Value → List Q} → ((k i : ℕ) (vs : List Value) → i < length vs → slice_get (numbers_from k vs) i ≡ Some (k + i)) → ((k : ℕ) (vs : List Value) → length (numbers_from k vs) ≡ length vs) →
      ((w1 : World) → Grows w w1 → (cs : List ℕ) (vs : List Value) → Fixed m w1 cs vs → Pairs (Becomes w1) (make cs) (make' vs)) →
      Similar link (λ w1 cs vs. Fixed m w1 cs vs) w (new_fix m make) (new_group m make')
  same_new_fix {w} m {make} {make'} numbers long h = record {
    from = λ w0 g s t r.
        let vs = procedures_from (length s.procedures) m in
        let cs = numbers_from (length s.cells) vs in
        let w1 = w0 ++ some_each vs in
        let grows : Grows w0 w1 = record { more = some_each vs; is = refl } in
        let e : length s.cells ≡ length w0 = holds_length r.holds in
        let lv : length vs ≡ m = procedures_length (length s.procedures) m in
        let fixed : Fixed m w1 cs vs = record { before = w0; is = refl; source = λ i l. numbers (length s.cells) i vs (omega (arith, l, lv)) ∙ ap (λ k. Some (k + i)) e; many = long (length s.cells) vs ∙ lv; values = lv } in (
          w1,
          made w1 (record s { cells = s.cells ++ some_each vs }) (r.qs ++ make' vs),
          vs,
          grows,
          record { qs = r.qs ++ make' vs; holds = holds_append r.holds (some_holds vs); pairs = pairs_append (Becomes w1) (pairs_grow w0 w1 grows r.pairs) (h w1 (on w w0 w1 g grows) cs vs fixed); is = refl },
          fixed,
          rw (r.is, ← pairs_length (Becomes w0) r.pairs, boxes_append (some_each vs) (some_each vs) r.holds, no_boxes vs, append-nil (boxes w0 s.cells)) refl,
        );
  }

  module _ (enter : Enter P) (enter' : Enter Q) (same_enter : (w : World) (p : P) (q : Q) → Becomes w p q → (vs : List Value) (depth : ℕ) → DoesSame w (enter p vs depth) (enter' q vs depth)) where
    same_entering : {w : World} (e : Entry P) (f : Entry Q) → SameEntry (Becomes w) e f → DoesSame w (enter e.procedure e.arguments e.depth) (enter' f.procedure f.arguments f.depth)
    same_entering {w} e f h = rw (← h.arguments, ← h.depth) (same_enter w e.procedure f.procedure h.becomes e.arguments e.depth)

    pub same_call : {w : World} (spread tail : Bool) (depth : ℕ) (vs : List Value) → DoesSame w (call_with enter spread tail depth vs) (call_with enter' spread tail depth vs)
    same_call spread tail depth vs = record {
      from = λ w0 g s t r.
          rw r.is ((similar_checked link (checked_call_same (Becomes w0) r.pairs s.store spread tail depth vs) same_entering).from w0 (stays w0) s (made w0 s r.qs) (record { qs = r.qs; holds = r.holds; pairs = r.pairs; is = refl }));
    }

  pub same_seen : {V : Type 0} (answers : List Answer) (entries : ℕ) (c : Computation P V) (d : Computation Q V) → DoesSame [] c d → (t : Store) (ps : List P) (qs : List Q) → Pairs (Becomes []) ps qs → seen answers entries (c (starting_state t ps)) ≡ seen answers entries (d (starting_state t qs))
  same_seen {V} answers entries c d h t ps qs p = outcomes (c (starting_state t ps)) (d (starting_state t qs)) (h.from [] (stays []) (starting_state t ps) (starting_state t qs) (record { qs = qs; holds = holds_none; pairs = p; is = refl }))
    where
      outcomes : (a : Outcome (State P) V) (b : Outcome (State Q) V) → SimilarOutcome link (Same link) [] a b → seen answers entries a ≡ seen answers entries b
      outcomes (gives v s) b k = rw (k.6, k.4.is) refl
      outcomes (stops why s) b k = rw (k.4, k.3.is) refl
      outcomes (spent s) b k = rw (k.4, k.3.is) refl
