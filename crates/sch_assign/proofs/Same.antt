-- A tree without assignments runs as the tree that it was made from.
use Rattle.std.proofs.Common.{◌≡◌, ℕ, zero, suc, ◌+◌, ◌<◌, Bool, true, false, List, [], ◌∷◌, length, Option, Some, None, refl, sym, ap, ◌∙◌, subst, arith}
use Rattle.std.specs.Prelude.{slice_get}
use Rattle.std.proofs.lemmas.List.{append-nil}
use Rattle.sch_word.specs.values.Values.{Value, unspecified, is_true, cell}
use Rattle.sch_word.specs.runs.Computation.{Outcome, gives, stops, spent, State, Computation, on_value, after, in_turn, in_store, read_literal, read_global, write_global, read_cell, write_cell, write_cells, some_each, unset_each, take_entry, when_known, with_cell}
use Rattle.sch_word.specs.runs.Computation as computation
use Rattle.sch_word.specs.runs.Charges.{charge, charge_each, fit, procedure_bytes}
use Rattle.sch_word.specs.values.PrimitiveRows.{primitive}
use Rattle.sch_word.specs.runs.Runs.{SameRuns, starting_store}
use Rattle.sch_word.proofs.Similar.{Correspondence, Similar, Same, EachSimilar, no_similar, and_similar, similar_gives, similar_spent, similar_either, similar_after, similar_then, similar_all_values, similar_in_turn}
use Rattle.sch_word.proofs.SameStore.{Pairs, no_pairs, and_pair, fit_length}
use Rattle.sch_cells.specs.Tree.{Tree, Trees, Lambdas, Source, constant, literal, variable, global, set_variable, set_global, define, branch, sequence, bind, fix, letrec, lambda, call, operation, new_cells, cell_get, cell_set, no_trees, and_tree, no_lambdas, and_lambda, count, count_lambdas}
use Rattle.sch_word.specs.values.CellBytes.{cells_bytes}
use Rattle.sch_word.specs.trees.Bindings.{Bindings, bound_to, value_or, value_of, with_variables, scope_with}
use Rattle.sch_cells.specs.declared.tree.NewCell.{NewCell}
use Rattle.sch_word.specs.trees.NumberSets.{In}
use Rattle.sch_cells.specs.Variables.{cells_of}
use Rattle.sch_cells.specs.UnboxedMeaning as from
use Rattle.sch_cells.specs.Procedures.{Closure, closures, lambda_bytes, lambdas_bytes}
use Rattle.sch_cells.specs.BoxedMeaning as to
use Rattle.sch_cells.specs.BoxedMeaning.{with_new_cells, contents}
use Rattle.sch_word.specs.runs.Orders.{Orders, order_at}
use Rattle.sch_assign.specs.Converted.{cells_for, empty_cells, wrapped, reading, filling, converted, converted_each, converted_lambdas, converted_source, Agree, AllAre, Low, Right, RightEach, RightLambdas}
use Rattle.sch_assign.proofs.kept.FreeMoved.{AllLow, low_with, count_lambdas_same, lambda_free}
use Rattle.sch_assign.proofs.Worlds.{World, Grows, stays, on, Holds, holds_none, holds_plain, holds_boxed, boxes, rank, rank_grow}
use Rattle.sch_assign.proofs.Lookups.{Apart, Where, inside, outside, where_is, in_outside, in_group, outside_variables, inside_variables, numbers_get, one_more_if, count_before, charges_same, outside_cells, inside_cells, and_content, chosen, contents_are, chosen_length, all_next, all_first, empty_length}
use Rattle.sch_assign.proofs.Boxes as boxes_lib
use Rattle.sch_assign.proofs.Boxes.{similar_keeping, boxed_count, rank_behind, Made, Fixed}
use Rattle.sch_word.proofs.Lengths.{some_length, unset_length, numbers_length}
use Rattle.sch_word.proofs.facts.Lists.{get_behind, get_grown}

-- one variable on both sides: it keeps its value for ever, or its cell is in the other variable
data Look (w : World) : Bool → Option ℕ → Value → Value → Type 0 where
  plain : {i : ℕ} {v u : Value} → slice_get w i ≡ Some (Some v) → Look w false (Some i) v u
  boxed : {i j : ℕ} {v : Value} → slice_get w i ≡ Some None → j ≡ rank w i → Look w true (Some i) v (cell j)

look_grow : {b : Bool} {o : Option ℕ} {v u : Value} (w w' : World) → Grows w w' → Look w b o v u → Look w' b o v u
look_grow w w' g (plain {i} {v} e) = plain (rw g.is (get_grown w g.more i (Some v) e))
look_grow w w' g (boxed {i} {j} e r) = boxed (rw g.is (get_grown w g.more i None e)) (r ∙ rw g.is (rank_grow w g.more i None e))

look_to : {w : World} {b b' : Bool} {o o' : Option ℕ} {v v' u u' : Value} → b' ≡ b → o' ≡ o → v' ≡ v → u' ≡ u → Look w b o v u → Look w b' o' v' u'
look_to a e f g h = rw (a, e, f, g) h

-- whatever a variable that has become a cell holds
look_any : {w : World} {o : Option ℕ} {v u : Value} (v' : Value) → Look w true o v u → Look w true o v' u
look_any v' (boxed e r) = boxed e r

record Got (vs : List Value) (i : ℕ) : Type 0 where
  v : Value
  is : slice_get vs i ≡ Some v

got : (vs : List Value) (i : ℕ) → i < length vs → Got vs i
got [] i l = absurd (omega (arith, l))
got (v ∷ vs) zero l = record { v = v; is = refl }
got (v ∷ vs) (suc i) l = let g = got vs i (omega (arith, l)) in record { v = g.v; is = g.is }

some_get : (vs : List Value) (i : ℕ) (v : Value) → slice_get vs i ≡ Some v → slice_get (some_each vs) i ≡ Some (Some v)
some_get [] i v e = absurd (cc)
some_get (u ∷ vs) zero v e = ap (λ o. Some o) e
some_get (u ∷ vs) (suc i) v e = some_get vs i v e

unset_get : (m i : ℕ) → i < m → slice_get (unset_each m) i ≡ Some None
unset_get zero i l = absurd (omega (arith, l))
unset_get (suc m) zero l = refl
unset_get (suc m) (suc i) l = unset_get m i (omega (arith, l))

unset_rank : (m i : ℕ) → i < m → rank (unset_each m) i ≡ i
unset_rank zero i l = absurd (omega (arith, l))
unset_rank (suc m) zero l = refl
unset_rank (suc m) (suc i) l = ap suc (unset_rank m i (omega (arith, l)))

unset_holds : (m : ℕ) → Holds (unset_each m) (unset_each m)
unset_holds zero = holds_none
unset_holds (suc m) = holds_boxed None (unset_holds m)

unset_boxes : (m : ℕ) → boxes (unset_each m) (unset_each m) ≡ unset_each m
unset_boxes zero = refl
unset_boxes (suc m) = ap (λ l. None ∷ l) (unset_boxes m)

last_turn : {S : Type 0} (a : Outcome S Value) → on_value a (in_turn []) ≡ a
last_turn (gives v s) = refl
last_turn (stops why s) = refl
last_turn (spent s) = refl

module _ (has_cell : ℕ → Bool) (n : ℕ) where
  -- ## Worlds of bindings

  abbrev and_kind : Bool → Value → Option Value
  and_kind true v = None
  and_kind false v = Some v

  abbrev kinds : ℕ → List Value → World
  kinds x [] = []
  kinds x (v ∷ vs) = and_kind (has_cell x) v ∷ kinds (suc x) vs

  kinds_hold : (x : ℕ) (vs : List Value) → Holds (kinds x vs) (some_each vs)
  kinds_hold x [] = holds_none
  kinds_hold x (v ∷ vs) = go (has_cell x) (kinds_hold (suc x) vs)
    where
      go : (b : Bool) → Holds (kinds (suc x) vs) (some_each vs) → Holds (and_kind b v ∷ kinds (suc x) vs) (Some v ∷ some_each vs)
      go true h = holds_boxed (Some v) h
      go false h = holds_plain v h

  kinds_boxes : (x : ℕ) (vs : List Value) → boxes (kinds x vs) (some_each vs) ≡ chosen has_cell n x vs
  kinds_boxes x [] = refl
  kinds_boxes x (v ∷ vs) = go (has_cell x) (kinds_boxes (suc x) vs)
    where
      go : (b : Bool) → boxes (kinds (suc x) vs) (some_each vs) ≡ chosen has_cell n (suc x) vs → boxes (and_kind b v ∷ kinds (suc x) vs) (Some v ∷ some_each vs) ≡ and_content has_cell n b v (chosen has_cell n (suc x) vs)
      go true h = ap (λ l. Some v ∷ l) h
      go false h = h

  kinds_boxed : (x i : ℕ) (vs : List Value) → i < length vs → has_cell (x + i) ≡ true → slice_get (kinds x vs) i ≡ Some None
  kinds_boxed x i [] l a = absurd (omega (arith, l))
  kinds_boxed x zero (v ∷ vs) l a = let q : x + 0 ≡ x = omega arith in let a' : has_cell x ≡ true = rw q at a in rw a' refl
  kinds_boxed x (suc i) (v ∷ vs) l a = let q : x + suc i ≡ suc x + i = omega arith in kinds_boxed (suc x) i vs (omega (arith, l)) (rw q at a)

  kinds_plain : (x i : ℕ) (vs : List Value) (v : Value) → slice_get vs i ≡ Some v → has_cell (x + i) ≡ false → slice_get (kinds x vs) i ≡ Some (Some v)
  kinds_plain x i [] v e a = absurd (cc)
  kinds_plain x zero (u ∷ vs) v e a = let q : x + 0 ≡ x = omega arith in let a' : has_cell x ≡ false = rw q at a in rw a' (ap (λ o. Some o) e)
  kinds_plain x (suc i) (u ∷ vs) v e a = let q : x + suc i ≡ suc x + i = omega arith in kinds_plain (suc x) i vs v e (rw q at a)

  kinds_rank : (x i : ℕ) (vs : List Value) → i < length vs → rank (kinds x vs) i ≡ count_before has_cell n x i
  kinds_rank x i [] l = absurd (omega (arith, l))
  kinds_rank x zero (v ∷ vs) l = refl
  kinds_rank x (suc i) (v ∷ vs) l = go (has_cell x) (kinds_rank (suc x) i vs (omega (arith, l)))
    where
      go : (b : Bool) → rank (kinds (suc x) vs) i ≡ count_before has_cell n (suc x) i → rank (and_kind b v ∷ kinds (suc x) vs) (suc i) ≡ one_more_if has_cell n b (count_before has_cell n (suc x) i)
      go true h = ap suc h
      go false h = h

  -- ## Environments

  record EnvRel (w : World) (S : List ℕ) (env : Bindings ℕ) (env' : Bindings Value) : Type 0 where
    at : (y : ℕ) → In y S → (y < n) × Look w (has_cell y) (bound_to y env) (value_of y env') (value_of (y + n) env')

  env_grow : {S : List ℕ} {env : Bindings ℕ} {env' : Bindings Value} (w w' : World) → Grows w w' → EnvRel w S env env' → EnvRel w' S env env'
  env_grow w w' g h = record { at = λ y i. ((h.at y i).0, look_grow w w' g (h.at y i).1) }

  -- a group of variables in new cells, which on the other side hold values or cells
  env_bind : {w : World} {S : List ℕ} {env : Bindings ℕ} {env' : Bindings Value} (x m : ℕ) (vs : List Value) (cs ns : List ℕ) → length vs ≡ m → Low n x m → Made (kinds x vs) (length (some_each vs)) (chosen has_cell n x vs) w cs ns → EnvRel w S env env' →
      EnvRel w (scope_with x m S) (with_variables x cs env) (with_new_cells (cells_for has_cell n x m) ns (with_variables x vs env'))
  env_bind {w} {S} {env} {env'} x m vs cs ns long few d h = record { at = λ y i. go y i (where_is x m y) }
    where
      many : length cs ≡ m
      many = d.many ∙ some_length vs ∙ long

      go : (y : ℕ) → In y (scope_with x m S) → Where x m y → (y < n) × Look w (has_cell y) (bound_to y (with_variables x cs env)) (value_of y (with_new_cells (cells_for has_cell n x m) ns (with_variables x vs env'))) (value_of (y + n) (with_new_cells (cells_for has_cell n x m) ns (with_variables x vs env')))
      go y iy (inside i l q) = (let f : x + i < n = few.at i l in omega (arith, f, q), rw q (here i l (has_cell (x + i)) refl))
        where
          here : (i : ℕ) → i < m → (b : Bool) → has_cell (x + i) ≡ b → Look w (has_cell (x + i)) (bound_to (x + i) (with_variables x cs env)) (value_of (x + i) (with_new_cells (cells_for has_cell n x m) ns (with_variables x vs env'))) (value_of (x + i + n) (with_new_cells (cells_for has_cell n x m) ns (with_variables x vs env')))
          here i l true a =
              let long' : length (chosen has_cell n x vs) ≡ length (cells_for has_cell n x m) = chosen_length has_cell n x vs ∙ ap (λ k. length (cells_for has_cell n x k)) long in
              look_to a (inside_variables x i cs env (omega (arith, l, many)) ∙ d.source i (omega (arith, l, some_length vs, long))) refl
              (ap value_or (ap (λ k. bound_to (x + i + n) (with_new_cells (cells_for has_cell n x m) k (with_variables x vs env'))) d.target ∙ inside_cells has_cell n x m i (boxed_count d.before) (chosen has_cell n x vs) (with_variables x vs env') long' l a))
              (boxed (rw d.is (get_behind d.before (kinds x vs) i ∙ kinds_boxed x i vs (omega (arith, l, long)) a))
              (rw d.is (sym (rank_behind d.before (kinds x vs) i ∙ ap (λ k. boxed_count d.before + k) (kinds_rank x i vs (omega (arith, l, long)))))))
          here i l false a =
              let g = got vs i (omega (arith, l, long)) in
              look_to a (inside_variables x i cs env (omega (arith, l, many)) ∙ d.source i (omega (arith, l, some_length vs, long)))
              (ap value_or (outside_cells has_cell n x m (x + i) ns (with_variables x vs env') (record { at = λ k lk e. let f : x + i < n = few.at i l in omega (arith, e, f) }) ∙ inside_variables x i vs env' (omega (arith, l, long)) ∙ g.is)) refl
              (plain (rw d.is (get_behind d.before (kinds x vs) i ∙ kinds_plain x i vs g.v g.is a)))
      go y iy (outside p) =
          let k = h.at y (in_outside x m y S p iy) in
          let pv : Apart x (length vs) y = record { at = λ i l e. p.at i (omega (arith, l, long)) e } in
          let pc : Apart x (length cs) y = record { at = λ i l e. p.at i (omega (arith, l, many)) e } in (
            k.0,
            look_to refl (outside_variables x y cs env pc)
                (ap value_or (outside_cells has_cell n x m y ns (with_variables x vs env') (record { at = λ i l e. let yn = k.0 in omega (arith, e, yn) }) ∙ outside_variables x y vs env' pv))
                (ap value_or (outside_cells has_cell n x m (y + n) ns (with_variables x vs env') (record { at = λ i l e. p.at i l (omega (arith, e)) }) ∙ outside_variables x (y + n) vs env' (record { at = λ i l e. let f : x + i < n = few.at i (omega (arith, l, long)) in omega (arith, e, f) })))
                k.1,
          )

  -- the procedures of a Fix
  env_fix : {w : World} {S : List ℕ} {env : Bindings ℕ} {env' : Bindings Value} (x m : ℕ) (cs : List ℕ) (vs : List Value) → AllAre has_cell n false x m → Low n x m → Fixed m w cs vs → EnvRel w S env env' →
      EnvRel w (scope_with x m S) (with_variables x cs env) (with_variables x vs env')
  env_fix {w} {S} {env} {env'} x m cs vs none few d h = record { at = λ y i. go y i (where_is x m y) }
    where
      go : (y : ℕ) → In y (scope_with x m S) → Where x m y → (y < n) × Look w (has_cell y) (bound_to y (with_variables x cs env)) (value_of y (with_variables x vs env')) (value_of (y + n) (with_variables x vs env'))
      go y iy (inside i l q) =
          let g = got vs i (omega (arith, l, d.values)) in (
            let f : x + i < n = few.at i l in omega (arith, f, q),
            rw q
                (look_to (none.at i l) (inside_variables x i cs env (omega (arith, l, d.many)) ∙ d.source i l) (ap value_or (inside_variables x i vs env' (omega (arith, l, d.values)) ∙ g.is)) refl
                (plain (rw d.is (get_behind d.before (some_each vs) i ∙ some_get vs i g.v g.is)))),
          )
      go y iy (outside p) =
          let k = h.at y (in_outside x m y S p iy) in (
            k.0,
            look_to refl (outside_variables x y cs env (record { at = λ i l e. p.at i (omega (arith, l, d.many)) e }))
                (ap value_or (outside_variables x y vs env' (record { at = λ i l e. p.at i (omega (arith, l, d.values)) e })))
                (ap value_or (outside_variables x (y + n) vs env' (record { at = λ i l e. let f : x + i < n = few.at i (omega (arith, l, d.values)) in omega (arith, e, f) })))
                k.1,
          )

  -- the cells of a Rec have the variables that cells of assigned variables have
  same_keys : (x m : ℕ) (ns : List ℕ) (env : Bindings Value) → AllAre has_cell n true x m → with_new_cells (empty_cells n x m) ns env ≡ with_new_cells (cells_for has_cell n x m) ns env
  same_keys x zero ns env h = refl
  same_keys x (suc m) [] env h = rw (all_first has_cell n true x m h) refl
  same_keys x (suc m) (c ∷ ns) env h = rw (all_first has_cell n true x m h) (same_keys (suc x) m ns ((x + n, cell c) ∷ env) (all_next has_cell n true x m h))

  keys_length : (x m : ℕ) → AllAre has_cell n true x m → length (cells_for has_cell n x m) ≡ m
  keys_length x zero h = refl
  keys_length x (suc m) h = rw (all_first has_cell n true x m h) (ap suc (keys_length (suc x) m (all_next has_cell n true x m h)))

  empty_contents : (x m : ℕ) (env : Bindings Value) → contents (empty_cells n x m) env ≡ unset_each m
  empty_contents x zero env = refl
  empty_contents x (suc m) env = ap (λ l. None ∷ l) (empty_contents (suc x) m env)

  all_before : (x i m : ℕ) → i < m → AllAre has_cell n true x m → count_before has_cell n x i ≡ i
  all_before x zero m l h = refl
  all_before x (suc i) zero l h = absurd (omega (arith, l))
  all_before x (suc i) (suc m) l h = rw (all_first has_cell n true x m h) (ap suc (all_before (suc x) i m (omega (arith, l)) (all_next has_cell n true x m h)))

  env_rec : {w : World} {S : List ℕ} {env : Bindings ℕ} {env' : Bindings Value} (x m : ℕ) (cs ns : List ℕ) → AllAre has_cell n true x m → Low n x m → Made (unset_each m) (length (unset_each m)) (unset_each m) w cs ns → EnvRel w S env env' →
      EnvRel w (scope_with x m S) (with_variables x cs env) (with_new_cells (empty_cells n x m) ns env')
  env_rec {w} {S} {env} {env'} x m cs ns all few d h = rw (same_keys x m ns env' all) (record { at = λ y i. go y i (where_is x m y) })
    where
      many : length cs ≡ m
      many = d.many ∙ unset_length m

      go : (y : ℕ) → In y (scope_with x m S) → Where x m y → (y < n) × Look w (has_cell y) (bound_to y (with_variables x cs env)) (value_of y (with_new_cells (cells_for has_cell n x m) ns env')) (value_of (y + n) (with_new_cells (cells_for has_cell n x m) ns env'))
      go y iy (inside i l q) =
          let long : length (unset_each m) ≡ length (cells_for has_cell n x m) = unset_length m ∙ sym (keys_length x m all) in (
            let f : x + i < n = few.at i l in omega (arith, f, q),
            rw q
                (look_to (all.at i l) (inside_variables x i cs env (omega (arith, l, many)) ∙ d.source i (omega (arith, l, unset_length m))) refl
                (ap value_or (ap (λ k. bound_to (x + i + n) (with_new_cells (cells_for has_cell n x m) k env')) d.target ∙ inside_cells has_cell n x m i (boxed_count d.before) (unset_each m) env' long l (all.at i l)))
                (boxed (rw d.is (get_behind d.before (unset_each m) i ∙ unset_get m i l))
                (rw (d.is, all_before x i m l all) (sym (rank_behind d.before (unset_each m) i ∙ ap (λ k. boxed_count d.before + k) (unset_rank m i l)))))),
          )
      go y iy (outside p) =
          let k = h.at y (in_outside x m y S p iy) in (
            k.0,
            look_to refl (outside_variables x y cs env (record { at = λ i l e. p.at i (omega (arith, l, many)) e }))
                (ap value_or (outside_cells has_cell n x m y ns env' (record { at = λ i l e. let yn = k.0 in omega (arith, e, yn) })))
                (ap value_or (outside_cells has_cell n x m (y + n) ns env' (record { at = λ i l e. p.at i l (omega (arith, e)) })))
                k.1,
          )

  -- variables of a Rec may hold anything besides
  env_held : {w : World} {S : List ℕ} {env : Bindings ℕ} {env' : Bindings Value} (x m : ℕ) (vs : List Value) → length vs ≡ m → AllAre has_cell n true x m → Low n x m → EnvRel w S env env' → EnvRel w S env (with_variables x vs env')
  env_held {w} {S} {env} {env'} x m vs long all few h = record { at = λ y i. go y i (where_is x m y) }
    where
      away : (y : ℕ) → value_of (y + n) (with_variables x vs env') ≡ value_of (y + n) env'
      away y = ap value_or (outside_variables x (y + n) vs env' (record { at = λ i l e. let f : x + i < n = few.at i (omega (arith, l, long)) in omega (arith, e, f) }))

      go : (y : ℕ) → In y S → Where x m y → (y < n) × Look w (has_cell y) (bound_to y env) (value_of y (with_variables x vs env')) (value_of (y + n) (with_variables x vs env'))
      go y iy (inside i l q) =
          let k = h.at y iy in
          let a : has_cell y ≡ true = rw q (all.at i l) in
          let look : Look w true (bound_to y env) (value_of y env') (value_of (y + n) env') = rw a at k.1 in
          (k.0, look_to a refl refl (away y) (look_any _ look))
      go y iy (outside p) =
          let k = h.at y iy in
          (k.0, look_to refl refl (ap value_or (outside_variables x y vs env' (record { at = λ i l e. p.at i (omega (arith, l, long)) e }))) (away y) k.1)

  -- the cells of a Rec, by their places
  cell_at : {w : World} (S : List ℕ) (env : Bindings ℕ) {env' : Bindings Value} (x m i : ℕ) → i < m → (cs : List ℕ) → length cs ≡ m → EnvRel w (scope_with x m S) (with_variables x cs env) env' → AllAre has_cell n true x m → Look w true (slice_get cs i) unspecified (value_of (x + i + n) env')
  cell_at {w} S env {env'} x m i l cs many h all =
      let a : has_cell (x + i) ≡ true = all.at i l in
      let o : bound_to (x + i) (with_variables x cs env) ≡ slice_get cs i = inside_variables x i cs env (omega (arith, l, many)) in
      let k : Look w (has_cell (x + i)) (bound_to (x + i) (with_variables x cs env)) (value_of (x + i) env') (value_of (x + i + n) env') = (h.at (x + i) (in_group x m i S l)).1 in
      look_any unspecified (look_to (sym a) (sym o) refl refl k)

  -- ## Procedures

  pub record Becomes (w : World) (p : (Closure ℕ)) (q : (Closure Value)) : Type 0 where
    environment' : Bindings Value
    scope : List ℕ
    is : q ≡ record { first = p.first; formals = p.formals; rest = p.rest; body = wrapped (cells_for has_cell n p.first p.formals) (converted has_cell n p.body); environment = environment' }
    env : EnvRel w scope p.environment environment'
    agree : Agree has_cell n p.first p.formals p.body
    few : Low n p.first p.formals
    right : Right has_cell n p.body (scope_with p.first p.formals scope)

  grow : (w w' : World) → Grows w w' → (p : (Closure ℕ)) (q : (Closure Value)) → Becomes w p q → Becomes w' p q
  grow w w' g p q h = record { environment' = h.environment'; scope = h.scope; is = h.is; env = env_grow w w' g h.env; agree = h.agree; few = h.few; right = h.right }

  abbrev link : Correspondence (State (Closure ℕ)) (State (Closure Value))
  link = boxes_lib.link Becomes grow

  abbrev DoesSame : {V : Type 0} → World → Computation (Closure ℕ) V → Computation (Closure Value) V → Type 0
  DoesSame w c d = Similar link (Same link) w c d

  closures_become : {w : World} {S : List ℕ} {env : Bindings ℕ} {env' : Bindings Value} (ls : Lambdas) → EnvRel w S env env' → RightLambdas has_cell n ls S → Pairs (Becomes w) (closures ls env) (closures (converted_lambdas has_cell n ls) env')
  closures_become no_lambdas h r = no_pairs
  closures_become (and_lambda name x m rest e ls) h r =
      and_pair (record { environment' = _; scope = _; is = refl; env = h; agree = r.0.0; few = r.0.1; right = r.0.2 }) (closures_become ls h r.1)

  env_low : {w : World} {S : List ℕ} {env : Bindings ℕ} {env' : Bindings Value} → EnvRel w S env env' → AllLow has_cell n S
  env_low h = record { at = λ y i. (h.at y i).0 }

  bytes_same : (ls : Lambdas) (S : List ℕ) → RightLambdas has_cell n ls S → AllLow has_cell n S → lambdas_bytes (converted_lambdas has_cell n ls) ≡ lambdas_bytes ls
  bytes_same no_lambdas S r h = refl
  bytes_same (and_lambda name x m rest e ls) S r h = rw (ap procedure_bytes (lambda_free has_cell n x m e S r.0.1 r.0.2 h), bytes_same ls S r.1 h) refl

  -- ## Variables

  read_plain : {w : World} {o : Option ℕ} {v u : Value} → Look w false o v u → DoesSame w (when_known o read_cell) (gives v)
  read_plain (plain e) = boxes_lib.same_plain Becomes grow e

  read_boxed : {w : World} {o : Option ℕ} {v u : Value} → Look w true o v u → DoesSame w (when_known o read_cell) (with_cell u read_cell)
  read_boxed (boxed e r) = boxes_lib.same_read Becomes grow e r

  write_boxed : {w : World} {o : Option ℕ} {v u : Value} (new : Value) → Look w true o v u → DoesSame w (when_known o (λ c. write_cell c new)) (with_cell u (λ c. write_cell c new))
  write_boxed new (boxed e r) = boxes_lib.same_write Becomes grow new e r

  module _ (orders : Orders) (enter : from.Enter) (enter' : to.Enter)
      (same_enter : (w : World) (p : (Closure ℕ)) (q : (Closure Value)) → Becomes w p q → (vs : List Value) (depth : ℕ) → DoesSame w (enter p vs depth) (enter' q vs depth)) where
    read_same : {w : World} {o : Option ℕ} (b : Bool) (x : ℕ) (env' : Bindings Value) (depth : ℕ) (tail : Bool) → has_cell x ≡ b → Look w (has_cell x) o (value_of x env') (value_of (x + n) env') → DoesSame w (when_known o read_cell) (to.evaluate orders enter' (reading n b x) env' depth tail)
    read_same true x env' depth tail a h = read_boxed (rw a at h)
    read_same false x env' depth tail a h = read_plain (rw a at h)

    -- no cells are made where none is wanted
    no_cells : (e : Tree) (env' : Bindings Value) (depth : ℕ) (tail : Bool) (s : State (Closure Value)) → to.evaluate orders enter' (new_cells [] e) env' depth tail s ≡ to.evaluate orders enter' e env' depth tail s
    no_cells e env' depth tail s = rw (append-nil s.cells) refl

    wrapped_same : {w : World} {c : Computation (Closure ℕ) Value} (cs : List NewCell) (e : Tree) (env' : Bindings Value) (depth : ℕ) (tail : Bool) → DoesSame w c (to.evaluate orders enter' (new_cells cs e) env' depth tail) → DoesSame w c (to.evaluate orders enter' (wrapped cs e) env' depth tail)
    wrapped_same [] e env' depth tail h = record { from = λ w0 g s t r. rw (← no_cells e env' depth tail t) (h.from w0 g s t r) }
    wrapped_same (c ∷ cs) e env' depth tail h = h

    -- a binding: the variables' cells on one side, values and cells on the other
    binding_same : {w : World} {S : List ℕ} {env : Bindings ℕ} {env' : Bindings Value} (x m : ℕ) (e body : Tree) (vs : List Value) {next : List ℕ → Computation (Closure ℕ) Value} (depth : ℕ) (tail : Bool) →
        length vs ≡ m → Low n x m → Agree has_cell n x m e → EnvRel w S env env' →
        ((w1 : World) → Grows w w1 → (cs : List ℕ) (env'' : Bindings Value) → EnvRel w1 (scope_with x m S) (with_variables x cs env) env'' → DoesSame w1 (next cs) (to.evaluate orders enter' body env'' depth tail)) →
        DoesSame w (after (in_store (charge_each (cells_of x m e))) (λ _. after (computation.new_cells (some_each vs)) next)) (to.evaluate orders enter' (wrapped (cells_for has_cell n x m) body) (with_variables x vs env') depth tail)
    binding_same {w} {S} {env} {env'} x m e body vs {next} depth tail long few agree h k =
        let held : contents (cells_for has_cell n x m) (with_variables x vs env') ≡ chosen has_cell n x vs = contents_are has_cell n x m vs (with_variables x vs env') long (λ i l. inside_variables x i vs env' (omega (arith, l, long))) in
        wrapped_same (cells_for has_cell n x m) body (with_variables x vs env') depth tail
        (rw (charges_same has_cell n x m e agree, held)
        (similar_then link (boxes_lib.same_in_store Becomes grow (charge_each (cells_bytes (length (cells_for has_cell n x m)))))
        (λ w1 g _. similar_after link (boxes_lib.same_new_cells Becomes grow (kinds x vs) (some_each vs) (chosen has_cell n x vs) (kinds_hold x vs) (kinds_boxes x vs) (λ k i l. numbers_get k i (some_each vs) l) (λ k. numbers_length k (some_each vs)))
        (λ w2 g2 cs ns made. k w2 (on w w1 w2 g g2) cs _ (env_bind x m vs cs ns long few made (env_grow w w2 (on w w1 w2 g g2) h))))))

    -- the inits of a Rec go into their cells
    parts_filling : (c e : Tree) (x m : ℕ) (env' : Bindings Value) (depth : ℕ) (tail : Bool) → to.parts orders enter' (and_tree c (filling n x m e)) env' depth tail ≡ to.evaluate orders enter' c env' depth false ∷ to.parts orders enter' (filling n x m e) env' depth tail
    parts_filling c e x zero env' depth tail = refl
    parts_filling c e x (suc m) env' depth tail = refl

    filling_same : {w : World} (x m : ℕ) (cs : List ℕ) (vs : List Value) (body : Tree) (env' : Bindings Value) (depth : ℕ) (tail : Bool) (last : Value) {c : Computation (Closure ℕ) Value} →
        length cs ≡ m → length vs ≡ m →
        ((i : ℕ) → i < m → Look w true (slice_get cs i) unspecified (value_of (x + i + n) env')) → ((i : ℕ) → i < m → bound_to (x + i) env' ≡ slice_get vs i) →
        ((w1 : World) → Grows w w1 → DoesSame w1 c (to.evaluate orders enter' body env' depth tail)) →
        DoesSame w (after (write_cells cs vs) (λ _. c)) (in_turn (to.parts orders enter' (filling n x m body) env' depth tail) last)
    filling_same x zero (i ∷ cs) vs body env' depth tail last lc lv hc hv k = absurd (omega (arith, lc))
    filling_same x zero [] (v ∷ vs) body env' depth tail last lc lv hc hv k = absurd (omega (arith, lv))
    filling_same {w} x zero [] [] body env' depth tail last lc lv hc hv k =
        record { from = λ w0 g s t r. rw (last_turn (to.evaluate orders enter' body env' depth tail t)) ((k w0 g).from w0 (stays w0) s t r) }
    filling_same x (suc m) [] vs body env' depth tail last lc lv hc hv k = absurd (omega (arith, lc))
    filling_same x (suc m) (i ∷ cs) [] body env' depth tail last lc lv hc hv k = absurd (omega (arith, lv))
    filling_same {w} x (suc m) (i ∷ cs) (v ∷ vs) body env' depth tail last {c} lc lv hc hv k =
        let q : x + 0 ≡ x = omega arith in
        let cellx : Look w true (Some i) unspecified (value_of (x + n) env') = rw q at (hc 0 (omega arith)) in
        let valuex : bound_to x env' ≡ Some v = rw q at (hv 0 (omega arith)) in
        let one : DoesSame w (write_cell i v) (to.evaluate orders enter' (cell_set (x + n) (variable x)) env' depth false) =
        subst (λ u. DoesSame w (write_cell i v) (after (gives u) (λ v. with_cell (value_of (x + n) env') (λ c. write_cell c v)))) (sym (ap value_or valuex)) (write_boxed v cellx) in
        rw (parts_filling (cell_set (x + n) (variable x)) body (suc x) m env' depth tail)
        (similar_then link one
        (λ w1 g _. filling_same {w = w1} (suc x) m cs vs body env' depth tail _ (omega (arith, lc)) (omega (arith, lv))
        (λ j l. let r : x + suc j ≡ suc x + j = omega arith in look_grow w w1 g (rw r at (hc (suc j) (omega (arith, l)))))
        (λ j l. let r : x + suc j ≡ suc x + j = omega arith in rw r at (hv (suc j) (omega (arith, l))))
        (λ w2 g2. k w2 (on w w1 w2 g g2))))

    each_length : (es : Trees) (env : Bindings ℕ) (depth : ℕ) → length (from.each orders enter es env depth) ≡ count es
    each_length no_trees env depth = refl
    each_length (and_tree e es) env depth = ap suc (each_length es env depth)

    mutual
      evaluate_same : (e : Tree) {w : World} {S : List ℕ} {env : Bindings ℕ} {env' : Bindings Value} (depth : ℕ) (tail : Bool) → EnvRel w S env env' → Right has_cell n e S → DoesSame w (from.evaluate orders enter e env depth tail) (to.evaluate orders enter' (converted has_cell n e) env' depth tail)
      evaluate_same (constant c) depth tail h r = similar_gives link _ _ (λ _ _. refl)
      evaluate_same (literal k) depth tail h r = boxes_lib.same_in_store Becomes grow (read_literal k)
      evaluate_same (variable x) {env' = env'} depth tail h r = read_same (has_cell x) x env' depth tail refl (h.at x r).1
      evaluate_same (global g) depth tail h r = boxes_lib.same_in_store Becomes grow (read_global g)
      evaluate_same (set_variable x e) {w} depth tail h r =
          similar_then link (evaluate_same e depth false h r.2)
          (λ w1 g v. write_boxed v (rw r.0 at ((env_grow w w1 g h).at x r.1).1))
      evaluate_same (set_global k e) depth tail h r =
          similar_then link (evaluate_same e depth false h r) (λ _ _ v. boxes_lib.same_in_store Becomes grow (write_global k v))
      evaluate_same (define k e) depth tail h r =
          similar_then link (evaluate_same e depth false h r) (λ _ _ v. boxes_lib.same_in_store Becomes grow (write_global k v))
      evaluate_same (branch a b c) {w} depth tail h r =
          similar_then link (evaluate_same a depth false h r.0)
          (λ w1 g v. similar_either link (is_true v) (evaluate_same b depth tail (env_grow w w1 g h) r.1) (evaluate_same c depth tail (env_grow w w1 g h) r.2))
      evaluate_same (sequence es) depth tail h r = similar_in_turn link unspecified (parts_same es depth tail h r)
      evaluate_same (bind site x es e) {w} {env = env} depth tail h r =
          similar_after link (similar_all_values link (orders site) (each_same es depth h r.0))
          (λ w1 g vs vs' p. rw (← p.0) (binding_same x (count es) e (converted has_cell n e) vs depth tail (p.1 ∙ each_length es env depth) r.2 r.1 (env_grow w w1 g h)
          (λ w2 g2 cs env'' h2. evaluate_same e depth tail h2 r.3)))
      evaluate_same (fix x ls e) {w} {S} depth tail h r =
          rw (bytes_same ls _ r.2 (low_with has_cell n x (count_lambdas ls) S r.1 (env_low h)), count_lambdas_same has_cell n ls)
          (similar_then link (boxes_lib.same_in_store Becomes grow (charge_each (lambdas_bytes ls)))
          (λ w1 g _. similar_after link (boxes_lib.same_new_fix Becomes grow (count_lambdas ls) (λ k i vs l. numbers_get k i vs l) (λ k vs. numbers_length k vs)
          (λ w2 g2 cs vs fixed. closures_become ls (env_fix x (count_lambdas ls) cs vs r.0 r.1 fixed (env_grow w1 w2 g2 (env_grow w w1 g h))) r.2))
          (λ w2 g2 cs vs fixed. evaluate_same e depth tail (env_fix x (count_lambdas ls) cs vs r.0 r.1 fixed (env_grow w1 w2 g2 (env_grow w w1 g h))) r.3)))
      evaluate_same (letrec site x es e) {w} {S} {env} {env'} depth tail h r =
          let m = count es in
          rw (empty_length n x m, empty_contents x m env')
          (similar_then link (boxes_lib.same_in_store Becomes grow (charge_each (cells_bytes m)))
          (λ w1 g _. similar_after link (boxes_lib.same_new_cells Becomes grow (unset_each m) (unset_each m) (unset_each m) (unset_holds m) (unset_boxes m) (λ k i l. numbers_get k i (unset_each m) l) (λ k. numbers_length k (unset_each m)))
          (λ w2 g2 cs ns made.
          let h2 : EnvRel w2 (scope_with x m S) (with_variables x cs env) (with_new_cells (empty_cells n x m) ns env') = env_rec x m cs ns r.0 r.1 made (env_grow w w2 (on w w1 w2 g g2) h) in
          let many : length cs ≡ m = made.many ∙ unset_length m in
          similar_keeping link (λ vs. length vs ≡ length (from.each orders enter es (with_variables x cs env) depth)) (similar_all_values link (orders site) (each_same es depth h2 r.2))
          (λ w3 g3 vs p.
          let long : length vs ≡ m = p ∙ each_length es (with_variables x cs env) depth in
          let h3 : EnvRel w3 (scope_with x m S) (with_variables x cs env) (with_variables x vs (with_new_cells (empty_cells n x m) ns env')) = env_held x m vs long r.0 r.1 (env_grow w2 w3 g3 h2) in
          filling_same x m cs vs (converted has_cell n e) (with_variables x vs (with_new_cells (empty_cells n x m) ns env')) depth tail unspecified many long
          (λ i l. cell_at S env x m i l cs many h3 r.0) (λ i l. inside_variables x i vs (with_new_cells (empty_cells n x m) ns env') (omega (arith, l, long)))
          (λ w4 g4. evaluate_same e depth tail (env_grow w3 w4 g4 h3) r.3)))))
      evaluate_same (lambda name x m rest e) {S = S} depth tail h r =
          rw (ap procedure_bytes (lambda_free has_cell n x m e S r.1 r.2 (env_low h))) (similar_then link (boxes_lib.same_in_store Becomes grow (charge (lambda_bytes x m e)))
          (λ w1 g _. boxes_lib.same_new_procedure Becomes grow (record { environment' = _; scope = _; is = refl; env = env_grow _ w1 g h; agree = r.0; few = r.1; right = r.2 })))
      evaluate_same (call site spread f es) depth tail h r =
          similar_after link (similar_all_values link (orders site) (and_similar (evaluate_same f depth false h r.0) (each_same es depth h r.1)))
          (λ w1 g vs vs' p. rw (← p.0) (boxes_lib.same_call Becomes grow enter enter' same_enter spread tail depth vs))
      evaluate_same (operation site which es) depth tail h r =
          similar_after link (similar_all_values link (orders site) (each_same es depth h r))
          (λ w1 g vs vs' p. rw (← p.0) (boxes_lib.same_in_store Becomes grow (primitive which vs)))
      evaluate_same (new_cells cs e) depth tail h r = absurd r
      evaluate_same (cell_get x) depth tail h r = absurd r
      evaluate_same (cell_set x e) depth tail h r = absurd r

      each_same : (es : Trees) {w : World} {S : List ℕ} {env : Bindings ℕ} {env' : Bindings Value} (depth : ℕ) → EnvRel w S env env' → RightEach has_cell n es S → EachSimilar link w (from.each orders enter es env depth) (to.each orders enter' (converted_each has_cell n es) env' depth)
      each_same no_trees depth h r = no_similar
      each_same (and_tree e es) depth h r = and_similar (evaluate_same e depth false h r.0) (each_same es depth h r.1)

      parts_same : (es : Trees) {w : World} {S : List ℕ} {env : Bindings ℕ} {env' : Bindings Value} (depth : ℕ) (tail : Bool) → EnvRel w S env env' → RightEach has_cell n es S → EachSimilar link w (from.parts orders enter es env depth tail) (to.parts orders enter' (converted_each has_cell n es) env' depth tail)
      parts_same no_trees depth tail h r = no_similar
      parts_same (and_tree e no_trees) depth tail h r = and_similar (evaluate_same e depth tail h r.0) no_similar
      parts_same (and_tree e (and_tree e' es)) depth tail h r = and_similar (evaluate_same e depth false h r.0) (parts_same (and_tree e' es) depth tail h r.1)

  enter_same : (orders : Orders) (k : ℕ) (w : World) (p : (Closure ℕ)) (q : (Closure Value)) → Becomes w p q → (vs : List Value) (depth : ℕ) → DoesSame w (from.enter orders k p vs depth) (to.enter orders k q vs depth)
  enter_same orders zero w p q h vs depth = similar_spent link
  enter_same orders (suc k) w p q h vs depth =
      rw h.is (similar_after link (boxes_lib.keeps_in_store Becomes grow (λ ws. length ws ≡ p.formals) (fit p.formals p.rest vs) (fit_length p.formals p.rest vs))
      (λ w1 g ws ws' l. rw (← l.0) (similar_then link (boxes_lib.same_in_store Becomes grow take_entry)
      (λ w2 g2 _. binding_same orders (from.enter orders k) (to.enter orders k) (enter_same orders k) p.first p.formals p.body (converted has_cell n p.body) ws depth true l.1 h.few h.agree (env_grow w w2 (on w w1 w2 g g2) h.env)
      (λ w3 g3 cs env'' h3. evaluate_same orders (from.enter orders k) (to.enter orders k) (enter_same orders k) p.body depth true h3 h.right)))))

  -- a program and the program without assignments have the same runs
  pub runs_alike : (p : Source) → RightLambdas has_cell n p.library [] → RightEach has_cell n p.forms [] → SameRuns (from.run p) (to.run (converted_source has_cell n p))
  runs_alike p rl r = record {
    same = λ table heap depth answers entries.
        boxes_lib.same_seen Becomes grow answers entries _ _
        (similar_in_turn link unspecified (each_same (order_at table) (from.enter (order_at table) entries) (to.enter (order_at table) entries) (enter_same (order_at table) entries) p.forms depth (record { at = λ y i. absurd (cc) }) r))
        (starting_store p.statics heap answers entries) (closures p.library []) (closures (converted_lambdas has_cell n p.library) [])
        (closures_become p.library (record { at = λ y i. absurd (cc) }) rl);
  }
