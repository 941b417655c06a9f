-- Each body of what is made of a program has the name, the formals, the free variables and the count of
-- variables that it had.
use Rattle.std.proofs.Common.{◌≡◌, ℕ, zero, suc, ◌+◌, ◌<◌, Bool, true, false, List, [], ◌∷◌, length, Some, refl, sym, ap, ◌∙◌, arith}
use Rattle.std.specs.Prelude.{not, slice_get, nat_eq}
use Rattle.std.proofs.lemmas.List.{append-nil}
use Rattle.sch_word.proofs.facts.Booleans.{neither}
use Rattle.sch_word.proofs.facts.Lists.{append_same, cons_same}
use Rattle.sch_cells.proofs.Unassigned.{all_unassigned, bound_count_unassigned, all_same_length}
use Rattle.sch_word.specs.trees.Bindings.{Bindings, bound_to, with_variables, scope_with}
use Rattle.sch_cells.specs.declared.tree.NewCell.{NewCell}
use Rattle.sch_cells.specs.Tree.{Tree, Trees, Lambdas, Source, constant, literal, variable, global, set_variable, set_global, define, branch, sequence, bind, fix, letrec, lambda, call, operation, new_cells, cell_get, cell_set, no_trees, and_tree, no_lambdas, and_lambda, count, count_lambdas}
use Rattle.sch_cells.specs.Variables.{assigns, assigns_each, assigns_lambdas}
use Rattle.sch_word.specs.values.Options.{or_false}
use Rattle.sch_word.specs.trees.VariableCounts.{one_unless, twice_if, three_each}
use Rattle.sch_cells.specs.Bodies.{counts_nothing, unassigned, all_same, bound_count, once_with_cells, variables, variables_each, variables_operands, variables_parts, procedure, procedures, bodies, bodies_each, bodies_lambdas, bodies_forms, bodies_of}
use Rattle.sch_assign.specs.Converted.{and_cell, cells_for, empty_cells, filling, reading, wrapped, converted, converted_each, converted_lambdas, converted_source, Agree, AllAre, Low, Right, RightEach, RightLambdas}
use Rattle.sch_assign.proofs.Lookups.{Apart, Where, inside, outside, where_is, inside_variables, outside_variables, agree_next, empty_length}
use Rattle.sch_assign.proofs.kept.FreeMoved.{AllLow, low_with, count_same, count_lambdas_same, lambda_free}
use Rattle.sch_assign.proofs.ConversionIsRight.{IsRight}
use Rattle.sch_word.proofs.facts.NumberTests.{differ}

-- ## Nothing is assigned

wrapped_assigns : (cs : List NewCell) (e : Tree) (y : ℕ) → assigns (wrapped cs e) y ≡ assigns e y
wrapped_assigns [] e y = refl
wrapped_assigns (c ∷ cs) e y = refl

filling_assigns : (n x m : ℕ) (e : Tree) (y : ℕ) → assigns e y ≡ false → assigns_each (filling n x m e) y ≡ false
filling_assigns n x zero e y h = neither (assigns e y) false h refl
filling_assigns n x (suc m) e y h = filling_assigns n (suc x) m e y h

module _ (has_cell : ℕ → Bool) (n : ℕ) where
  reading_assigns : (b : Bool) (x y : ℕ) → assigns (reading n b x) y ≡ false
  reading_assigns true x y = refl
  reading_assigns false x y = refl

  mutual
    pub none_assigned : (e : Tree) (y : ℕ) → assigns (converted has_cell n e) y ≡ false
    none_assigned (constant c) y = refl
    none_assigned (literal k) y = refl
    none_assigned (variable x) y = reading_assigns (has_cell x) x y
    none_assigned (global g) y = refl
    none_assigned (set_variable x e) y = none_assigned e y
    none_assigned (set_global g e) y = none_assigned e y
    none_assigned (define g e) y = none_assigned e y
    none_assigned (branch a b c) y =
        neither (assigns (converted has_cell n a) y) _ (none_assigned a y) (neither (assigns (converted has_cell n b) y) (assigns (converted has_cell n c) y) (none_assigned b y) (none_assigned c y))
    none_assigned (sequence es) y = none_assigned_each es y
    none_assigned (bind site x es e) y = neither (assigns_each (converted_each has_cell n es) y) _ (none_assigned_each es y) (wrapped_assigns (cells_for has_cell n x (count es)) (converted has_cell n e) y ∙ none_assigned e y)
    none_assigned (fix x ls e) y = neither (assigns_lambdas (converted_lambdas has_cell n ls) y) (assigns (converted has_cell n e) y) (none_assigned_lambdas ls y) (none_assigned e y)
    none_assigned (letrec site x es e) y =
        neither (assigns_each (converted_each has_cell n es) y) _ (none_assigned_each es y) (filling_assigns n x (count es) (converted has_cell n e) y (none_assigned e y))
    none_assigned (lambda name x m rest e) y = wrapped_assigns (cells_for has_cell n x m) (converted has_cell n e) y ∙ none_assigned e y
    none_assigned (call site spread f es) y = neither (assigns (converted has_cell n f) y) (assigns_each (converted_each has_cell n es) y) (none_assigned f y) (none_assigned_each es y)
    none_assigned (operation site which es) y = none_assigned_each es y
    none_assigned (new_cells cs e) y = refl
    none_assigned (cell_get x) y = refl
    none_assigned (cell_set x e) y = refl

    none_assigned_each : (es : Trees) (y : ℕ) → assigns_each (converted_each has_cell n es) y ≡ false
    none_assigned_each no_trees y = refl
    none_assigned_each (and_tree e es) y = neither (assigns (converted has_cell n e) y) (assigns_each (converted_each has_cell n es) y) (none_assigned e y) (none_assigned_each es y)

    pub none_assigned_lambdas : (ls : Lambdas) (y : ℕ) → assigns_lambdas (converted_lambdas has_cell n ls) y ≡ false
    none_assigned_lambdas no_lambdas y = refl
    none_assigned_lambdas (and_lambda name x m rest e ls) y =
        neither (assigns (wrapped (cells_for has_cell n x m) (converted has_cell n e)) y) (assigns_lambdas (converted_lambdas has_cell n ls) y)
        (wrapped_assigns (cells_for has_cell n x m) (converted has_cell n e) y ∙ none_assigned e y) (none_assigned_lambdas ls y)

  -- a variable counts twice where it gets a cell, and is then one variable and one cell
  count_agrees : (x m : ℕ) (e : Tree) → Agree has_cell n x m e → bound_count x m e ≡ m + length (cells_for has_cell n x m)
  count_agrees x zero e h = refl
  count_agrees x (suc m) e h =
      let q : x + 0 ≡ x = omega arith in
      let a : has_cell x ≡ assigns e x = rw q at (h.at 0 (omega arith)) in
      rw (← a) (go (has_cell x) (count_agrees (suc x) m e (agree_next has_cell n x m e h)))
    where
      go : (b : Bool) → bound_count (suc x) m e ≡ m + length (cells_for has_cell n (suc x) m) → twice_if b + bound_count (suc x) m e ≡ suc m + length (and_cell n b x (cells_for has_cell n (suc x) m))
      go true k = omega (arith, k)
      go false k = omega (arith, k)

  unassigned_length : (x m : ℕ) (e : Tree) → length (unassigned x m e) ≡ m
  unassigned_length x zero e = refl
  unassigned_length x (suc m) e = ap suc (unassigned_length (suc x) m e)

  unassigned_get : (x m i : ℕ) (e : Tree) → i < m → slice_get (unassigned x m e) i ≡ Some (not (assigns e (x + i)))
  unassigned_get x zero i e l = absurd (omega (arith, l))
  unassigned_get x (suc m) zero e l = let q : x + 0 ≡ x = omega arith in rw q refl
  unassigned_get x (suc m) (suc i) e l = let q : x + suc i ≡ suc x + i = omega arith in rw q (unassigned_get (suc x) m i e (omega (arith, l)))

  all_same_get : (m i : ℕ) (b : Bool) → i < m → slice_get (all_same m b) i ≡ Some b
  all_same_get zero i b l = absurd (omega (arith, l))
  all_same_get (suc m) zero b l = refl
  all_same_get (suc m) (suc i) b l = all_same_get m i b (omega (arith, l))

  cells_high : (x m y : ℕ) (once : Bindings Bool) → y < n → bound_to y (once_with_cells (cells_for has_cell n x m) once) ≡ bound_to y once
  cells_high x zero y once l = refl
  cells_high x (suc m) y once l = go (has_cell x) (λ o. cells_high (suc x) m y o l)
    where
      go : (b : Bool) → ((o : Bindings Bool) → bound_to y (once_with_cells (cells_for has_cell n (suc x) m) o) ≡ bound_to y o) → bound_to y (once_with_cells (and_cell n b x (cells_for has_cell n (suc x) m)) once) ≡ bound_to y once
      go true k = k ((x + n, true) ∷ once) ∙ (let t : nat_eq y (x + n) ≡ false = differ y (x + n) (λ e. omega (arith, e, l)) in rw t refl)
      go false k = k once

  empty_high : (x m y : ℕ) (once : Bindings Bool) → y < n → bound_to y (once_with_cells (empty_cells n x m) once) ≡ bound_to y once
  empty_high x zero y once l = refl
  empty_high x (suc m) y once l = empty_high (suc x) m y ((x + n, true) ∷ once) l ∙ (let t : nat_eq y (x + n) ≡ false = differ y (x + n) (λ e. omega (arith, e, l)) in rw t refl)

  -- ## Which variables count once

  -- a variable without a cell counts as before, and one that gets a cell did not count once
  record Counts (once once' : Bindings Bool) : Type 0 where
    plain : (y : ℕ) → y < n → has_cell y ≡ false → or_false (bound_to y once') ≡ or_false (bound_to y once)
    celled : (y : ℕ) → y < n → has_cell y ≡ true → or_false (bound_to y once) ≡ false

  counts_group : (x m : ℕ) (e : Tree) (once once' : Bindings Bool) → Agree has_cell n x m e → Counts once once' →
      Counts (with_variables x (unassigned x m e) once) (once_with_cells (cells_for has_cell n x m) (with_variables x (all_same m true) once'))
  counts_group x m e once once' agree h = record { plain = λ y l a. go y l a (where_is x m y); celled = λ y l a. gone y l a (where_is x m y) }
    where
      before : (y : ℕ) → Apart x m y → Apart x (length (unassigned x m e)) y
      before y p = record { at = λ i l. p.at i (let k = unassigned_length x m e in omega (arith, l, k)) }

      after : (y : ℕ) → Apart x m y → Apart x (length (all_same m true)) y
      after y p = record { at = λ i l. p.at i (let k = all_same_length m true in omega (arith, l, k)) }

      source : (i : ℕ) → i < m → bound_to (x + i) (with_variables x (unassigned x m e) once) ≡ Some (not (assigns e (x + i)))
      source i l = inside_variables x i (unassigned x m e) once (let k = unassigned_length x m e in omega (arith, l, k)) ∙ unassigned_get x m i e l

      go : (y : ℕ) → y < n → has_cell y ≡ false → Where x m y → or_false (bound_to y (once_with_cells (cells_for has_cell n x m) (with_variables x (all_same m true) once'))) ≡ or_false (bound_to y (with_variables x (unassigned x m e) once))
      go y l a (inside i k q) =
          let a' : has_cell (x + i) ≡ false = rw q at a in
          let s : assigns e (x + i) ≡ false = sym (agree.at i k) ∙ a' in
          rw (cells_high x m y (with_variables x (all_same m true) once') l, q, source i k, s)
          (ap or_false (inside_variables x i (all_same m true) once' (let j = all_same_length m true in omega (arith, k, j)) ∙ all_same_get m i true k))
      go y l a (outside p) =
          rw (cells_high x m y (with_variables x (all_same m true) once') l, outside_variables x y (all_same m true) once' (after y p), outside_variables x y (unassigned x m e) once (before y p))
          (h.plain y l a)

      gone : (y : ℕ) → y < n → has_cell y ≡ true → Where x m y → or_false (bound_to y (with_variables x (unassigned x m e) once)) ≡ false
      gone y l a (inside i k q) =
          let a' : has_cell (x + i) ≡ true = rw q at a in
          let s : assigns e (x + i) ≡ true = sym (agree.at i k) ∙ a' in
          rw (q, source i k, s) refl
      gone y l a (outside p) = rw (outside_variables x y (unassigned x m e) once (before y p)) (h.celled y l a)

  -- a group of variables of which all or none get cells
  counts_all : (x m : ℕ) (b c : Bool) (once once' : Bindings Bool) → ((i : ℕ) → i < m → has_cell (x + i) ≡ false → c ≡ b) → ((i : ℕ) → i < m → has_cell (x + i) ≡ true → b ≡ false) → Counts once once' →
      Counts (with_variables x (all_same m b) once) (with_variables x (all_same m c) once')
  counts_all x m b c once once' f g h = record { plain = λ y l a. go y l a (where_is x m y); celled = λ y l a. gone y l a (where_is x m y) }
    where
      apart_from : (y : ℕ) (d : Bool) → Apart x m y → Apart x (length (all_same m d)) y
      apart_from y d p = record { at = λ i l. p.at i (let k = all_same_length m d in omega (arith, l, k)) }

      found : (i : ℕ) (d : Bool) (o : Bindings Bool) → i < m → bound_to (x + i) (with_variables x (all_same m d) o) ≡ Some d
      found i d o l = inside_variables x i (all_same m d) o (let k = all_same_length m d in omega (arith, l, k)) ∙ all_same_get m i d l

      go : (y : ℕ) → y < n → has_cell y ≡ false → Where x m y → or_false (bound_to y (with_variables x (all_same m c) once')) ≡ or_false (bound_to y (with_variables x (all_same m b) once))
      go y l a (inside i k q) = let a' : has_cell (x + i) ≡ false = rw q at a in rw (q, found i c once' k, found i b once k) (f i k a')
      go y l a (outside p) = rw (outside_variables x y (all_same m c) once' (apart_from y c p), outside_variables x y (all_same m b) once (apart_from y b p)) (h.plain y l a)

      gone : (y : ℕ) → y < n → has_cell y ≡ true → Where x m y → or_false (bound_to y (with_variables x (all_same m b) once)) ≡ false
      gone y l a (inside i k q) = let a' : has_cell (x + i) ≡ true = rw q at a in rw (q, found i b once k) (g i k a')
      gone y l a (outside p) = rw (outside_variables x y (all_same m b) once (apart_from y b p)) (h.celled y l a)

  -- a Rec, in its inits: its variables are not there, but their cells are
  counts_rec : (x m : ℕ) (once once' : Bindings Bool) → AllAre has_cell n true x m → Counts once once' → Counts (with_variables x (all_same m false) once) (once_with_cells (empty_cells n x m) once')
  counts_rec x m once once' all h = record { plain = λ y l a. go y l a (where_is x m y); celled = λ y l a. gone y l a (where_is x m y) }
    where
      apart_from : (y : ℕ) → Apart x m y → Apart x (length (all_same m false)) y
      apart_from y p = record { at = λ i l. p.at i (let k = all_same_length m false in omega (arith, l, k)) }

      go : (y : ℕ) → y < n → has_cell y ≡ false → Where x m y → or_false (bound_to y (once_with_cells (empty_cells n x m) once')) ≡ or_false (bound_to y (with_variables x (all_same m false) once))
      go y l a (inside i k q) = absurd (let a' : has_cell (x + i) ≡ false = rw q at a in let b : has_cell (x + i) ≡ true = all.at i k in cc)
      go y l a (outside p) = rw (empty_high x m y once' l, outside_variables x y (all_same m false) once (apart_from y p)) (h.plain y l a)

      gone : (y : ℕ) → y < n → has_cell y ≡ true → Where x m y → or_false (bound_to y (with_variables x (all_same m false) once)) ≡ false
      gone y l a (inside i k q) = rw (q, inside_variables x i (all_same m false) once (let j = all_same_length m false in omega (arith, k, j)), all_same_get m i false k) refl
      gone y l a (outside p) = rw (outside_variables x y (all_same m false) once (apart_from y p)) (h.celled y l a)

  -- and under the inits' values
  counts_under : (x m : ℕ) (once once' : Bindings Bool) → Counts (with_variables x (all_same m false) once) once' → ((i : ℕ) → i < m → has_cell (x + i) ≡ true) → Counts (with_variables x (all_same m false) once) (with_variables x (all_same m true) once')
  counts_under x m once once' h all = record { plain = λ y l a. go y l a (where_is x m y); celled = h.celled }
    where
      go : (y : ℕ) → y < n → has_cell y ≡ false → Where x m y → or_false (bound_to y (with_variables x (all_same m true) once')) ≡ or_false (bound_to y (with_variables x (all_same m false) once))
      go y l a (inside i k q) = absurd (let a' : has_cell (x + i) ≡ false = rw q at a in let b : has_cell (x + i) ≡ true = all i k in cc)
      go y l a (outside p) = rw (outside_variables x y (all_same m true) once' (record { at = λ i l. p.at i (let k = all_same_length m true in omega (arith, l, k)) })) (h.plain y l a)

  -- ## The counts

  reading_counts : (b : Bool) (x : ℕ) (once once' : Bindings Bool) → has_cell x ≡ b → x < n → Counts once once' → counts_nothing (reading n b x) once' ≡ or_false (bound_to x once)
  reading_counts true x once once' a l h = sym (h.celled x l a)
  reading_counts false x once once' a l h = h.plain x l a

  reading_variables : (b : Bool) (x : ℕ) (once : Bindings Bool) → variables (reading n b x) once ≡ 0
  reading_variables true x once = refl
  reading_variables false x once = refl

  nothing_kept : (e : Tree) (S : List ℕ) (once once' : Bindings Bool) → Right has_cell n e S → AllLow has_cell n S → Counts once once' → counts_nothing (converted has_cell n e) once' ≡ counts_nothing e once
  nothing_kept (constant c) S o o' r g h = refl
  nothing_kept (literal k) S o o' r g h = refl
  nothing_kept (variable x) S o o' r g h = reading_counts (has_cell x) x o o' refl (g.at x r) h
  nothing_kept (global k) S o o' r g h = refl
  nothing_kept (set_variable x e) S o o' r g h = refl
  nothing_kept (set_global k e) S o o' r g h = refl
  nothing_kept (define k e) S o o' r g h = refl
  nothing_kept (branch a b c) S o o' r g h = refl
  nothing_kept (sequence es) S o o' r g h = refl
  nothing_kept (bind site x es e) S o o' r g h = refl
  nothing_kept (fix x ls e) S o o' r g h = refl
  nothing_kept (letrec site x es e) S o o' r g h = refl
  nothing_kept (lambda name x m rest e) S o o' r g h = refl
  nothing_kept (call site spread f es) S o o' r g h = refl
  nothing_kept (operation site which es) S o o' r g h = refl
  nothing_kept (new_cells cs e) S o o' r g h = absurd r
  nothing_kept (cell_get x) S o o' r g h = absurd r
  nothing_kept (cell_set x e) S o o' r g h = absurd r

  wrapped_variables : (cs : List NewCell) (e : Tree) (once : Bindings Bool) → variables (wrapped cs e) once ≡ length cs + variables e (once_with_cells cs once)
  wrapped_variables [] e once = omega arith
  wrapped_variables (c ∷ cs) e once = refl

  -- the variables of a group, with those of what they are bound in
  group_total : (x m : ℕ) (e : Tree) (once once' : Bindings Bool) → Agree has_cell n x m e →
      variables (converted has_cell n e) (once_with_cells (cells_for has_cell n x m) (with_variables x (all_same m true) once')) ≡ variables e (with_variables x (unassigned x m e) once) →
      bound_count x m (wrapped (cells_for has_cell n x m) (converted has_cell n e)) + variables (wrapped (cells_for has_cell n x m) (converted has_cell n e)) (with_variables x (unassigned x m (wrapped (cells_for has_cell n x m) (converted has_cell n e))) once')
      ≡ bound_count x m e + variables e (with_variables x (unassigned x m e) once)
  group_total x m e once once' agree h =
      let none : (y : ℕ) → assigns (wrapped (cells_for has_cell n x m) (converted has_cell n e)) y ≡ false = λ y. wrapped_assigns (cells_for has_cell n x m) (converted has_cell n e) y ∙ none_assigned e y in
      let k = count_agrees x m e agree in
      rw (
        all_unassigned x m (wrapped (cells_for has_cell n x m) (converted has_cell n e)) none,
        bound_count_unassigned x m (wrapped (cells_for has_cell n x m) (converted has_cell n e)) none,
        wrapped_variables (cells_for has_cell n x m) (converted has_cell n e) (with_variables x (all_same m true) once'),
        h,
      ) (omega (arith, k))

  parts_filling : (c e : Tree) (x m : ℕ) (once : Bindings Bool) → variables_parts (and_tree c (filling n x m e)) once ≡ one_unless (counts_nothing c once) + (variables c once + variables_parts (filling n x m e) once)
  parts_filling c e x zero once = refl
  parts_filling c e x (suc m) once = refl

  filling_variables : (x m : ℕ) (e : Tree) (once : Bindings Bool) → ((i : ℕ) → i < m → bound_to (x + i) once ≡ Some true) → variables_parts (filling n x m e) once ≡ m + variables e once
  filling_variables x zero e once h = omega arith
  filling_variables x (suc m) e once h =
      let q : x + 0 ≡ x = omega arith in
      let here : bound_to x once ≡ Some true = rw q at (h 0 (omega arith)) in
      let k = filling_variables (suc x) m e once (λ i l. let r : x + suc i ≡ suc x + i = omega arith in rw r at (h (suc i) (omega (arith, l)))) in
      rw (parts_filling (cell_set (x + n) (variable x)) e (suc x) m once, here) (omega (arith, k))

  three : (m : ℕ) → three_each m ≡ m + m + m
  three zero = refl
  three (suc m) = let h = three m in omega (arith, h)

  mutual
    variables_kept : (e : Tree) (S : List ℕ) (once once' : Bindings Bool) → Right has_cell n e S → AllLow has_cell n S → Counts once once' → variables (converted has_cell n e) once' ≡ variables e once
    variables_kept (constant c) S o o' r g h = refl
    variables_kept (literal k) S o o' r g h = refl
    variables_kept (variable x) S o o' r g h = reading_variables (has_cell x) x o'
    variables_kept (global k) S o o' r g h = refl
    variables_kept (set_variable x e) S o o' r g h = rw (nothing_kept e S o o' r.2 g h, variables_kept e S o o' r.2 g h) refl
    variables_kept (set_global k e) S o o' r g h = rw (nothing_kept e S o o' r g h, variables_kept e S o o' r g h) refl
    variables_kept (define k e) S o o' r g h = rw (nothing_kept e S o o' r g h, variables_kept e S o o' r g h) refl
    variables_kept (branch a b c) S o o' r g h = rw (variables_kept a S o o' r.0 g h, variables_kept b S o o' r.1 g h, variables_kept c S o o' r.2 g h) refl
    variables_kept (sequence es) S o o' r g h = parts_kept es S o o' r g h
    variables_kept (bind site x es e) S o o' r g h =
        let m = count es in
        let k = group_total x m e o o' r.1
        (variables_kept e (scope_with x m S) (with_variables x (unassigned x m e) o) (once_with_cells (cells_for has_cell n x m) (with_variables x (all_same m true) o')) r.3 (low_with has_cell n x m S r.2 g) (counts_group x m e o o' r.1 h)) in
        rw (count_same has_cell n es, each_kept es S o o' r.0 g h, k) refl
    variables_kept (fix x ls e) S o o' r g h =
        let m = count_lambdas ls in
        rw (
          count_lambdas_same has_cell n ls,
          variables_kept e (scope_with x m S) (with_variables x (all_same m true) o) (with_variables x (all_same m true) o') r.3 (low_with has_cell n x m S r.1 g)
              (counts_all x m true true o o' (λ i l a. refl) (λ i l a. absurd (let b : has_cell (x + i) ≡ false = r.0.at i l in cc)) h),
        ) refl
    variables_kept (letrec site x es e) S o o' r g h =
        let m = count es in
        let T = scope_with x m S in
        let low = low_with has_cell n x m S r.1 g in
        let o1 = with_variables x (all_same m false) o in
        let u = once_with_cells (empty_cells n x m) o' in
        let v = with_variables x (all_same m true) u in
        let Q = sequence (filling n x m (converted has_cell n e)) in
        let hu = counts_rec x m o o' r.0 h in
        let none : (y : ℕ) → assigns Q y ≡ false = λ y. filling_assigns n x m (converted has_cell n e) y (none_assigned e y) in
        let hv : Counts o1 v = counts_under x m o u hu r.0.at in
        let ks = each_kept es T o1 u r.2 low hu in
        let ke = variables_kept e T o1 v r.3 low hv in
        let kf = filling_variables x m (converted has_cell n e) v (λ i l. inside_variables x i (all_same m true) u (let j = all_same_length m true in omega (arith, l, j)) ∙ all_same_get m i true l) in
        let kt = three m in
        rw (count_same has_cell n es, empty_length n x m, all_unassigned x m Q none, bound_count_unassigned x m Q none, kf, ks, ke) (omega (arith, kt))
    variables_kept (lambda name x m rest e) S o o' r g h = refl
    variables_kept (call site spread f es) S o o' r g h = rw (nothing_kept f S o o' r.0 g h, variables_kept f S o o' r.0 g h, operands_kept es S o o' r.1 g h) refl
    variables_kept (operation site which es) S o o' r g h = operands_kept es S o o' r g h
    variables_kept (new_cells cs e) S o o' r g h = absurd r
    variables_kept (cell_get x) S o o' r g h = absurd r
    variables_kept (cell_set x e) S o o' r g h = absurd r

    each_kept : (es : Trees) (S : List ℕ) (once once' : Bindings Bool) → RightEach has_cell n es S → AllLow has_cell n S → Counts once once' → variables_each (converted_each has_cell n es) once' ≡ variables_each es once
    each_kept no_trees S o o' r g h = refl
    each_kept (and_tree e es) S o o' r g h = rw (variables_kept e S o o' r.0 g h, each_kept es S o o' r.1 g h) refl

    operands_kept : (es : Trees) (S : List ℕ) (once once' : Bindings Bool) → RightEach has_cell n es S → AllLow has_cell n S → Counts once once' → variables_operands (converted_each has_cell n es) once' ≡ variables_operands es once
    operands_kept no_trees S o o' r g h = refl
    operands_kept (and_tree e es) S o o' r g h = rw (nothing_kept e S o o' r.0 g h, variables_kept e S o o' r.0 g h, operands_kept es S o o' r.1 g h) refl

    parts_kept : (es : Trees) (S : List ℕ) (once once' : Bindings Bool) → RightEach has_cell n es S → AllLow has_cell n S → Counts once once' → variables_parts (converted_each has_cell n es) once' ≡ variables_parts es once
    parts_kept no_trees S o o' r g h = refl
    parts_kept (and_tree e no_trees) S o o' r g h = variables_kept e S o o' r.0 g h
    parts_kept (and_tree e (and_tree e' es)) S o o' r g h = rw (nothing_kept e S o o' r.0 g h, variables_kept e S o o' r.0 g h, parts_kept (and_tree e' es) S o o' r.1 g h) refl

  counts_nil : Counts [] []
  counts_nil = record { plain = λ y l a. refl; celled = λ y l a. refl }

  -- ## The bodies

  pub procedure_kept : (name : List ℕ) (x m : ℕ) (rest : Bool) (e : Tree) (S : List ℕ) → Agree has_cell n x m e → Low n x m → Right has_cell n e (scope_with x m S) → AllLow has_cell n S →
      procedure name x m rest (wrapped (cells_for has_cell n x m) (converted has_cell n e)) ≡ procedure name x m rest e
  procedure_kept name x m rest e S agree low r g =
      let k = group_total x m e [] [] agree
      (variables_kept e (scope_with x m S) (with_variables x (unassigned x m e) []) (once_with_cells (cells_for has_cell n x m) (with_variables x (all_same m true) [])) r (low_with has_cell n x m S low g) (counts_group x m e [] [] agree counts_nil)) in
      rw (lambda_free has_cell n x m e S low r g, k) refl

  pub procedures_kept : (ls : Lambdas) (S : List ℕ) → RightLambdas has_cell n ls S → AllLow has_cell n S → procedures (converted_lambdas has_cell n ls) ≡ procedures ls
  procedures_kept no_lambdas S r g = refl
  procedures_kept (and_lambda name x m rest e ls) S r g = rw (procedure_kept name x m rest e S r.0.0 r.0.1 r.0.2 g, procedures_kept ls S r.1 g) refl

  pub form_variables : (e : Tree) → Right has_cell n e [] → variables (converted has_cell n e) [] ≡ variables e []
  form_variables e r = variables_kept e [] [] [] r (record { at = λ y i. absurd (cc) }) counts_nil

  wrapped_bodies : (cs : List NewCell) (e : Tree) → bodies (wrapped cs e) ≡ bodies e
  wrapped_bodies [] e = refl
  wrapped_bodies (c ∷ cs) e = refl

  filling_bodies : (x m : ℕ) (e : Tree) → bodies_each (filling n x m e) ≡ bodies e
  filling_bodies x zero e = append-nil (bodies e)
  filling_bodies x (suc m) e = filling_bodies (suc x) m e

  reading_bodies : (b : Bool) (x : ℕ) → bodies (reading n b x) ≡ []
  reading_bodies true x = refl
  reading_bodies false x = refl

  mutual
    bodies_kept : (e : Tree) (S : List ℕ) → Right has_cell n e S → AllLow has_cell n S → bodies (converted has_cell n e) ≡ bodies e
    bodies_kept (constant c) S r g = refl
    bodies_kept (literal k) S r g = refl
    bodies_kept (variable x) S r g = reading_bodies (has_cell x) x
    bodies_kept (global k) S r g = refl
    bodies_kept (set_variable x e) S r g = bodies_kept e S r.2 g
    bodies_kept (set_global k e) S r g = bodies_kept e S r g
    bodies_kept (define k e) S r g = bodies_kept e S r g
    bodies_kept (branch a b c) S r g = append_same (bodies_kept a S r.0 g) (append_same (bodies_kept b S r.1 g) (bodies_kept c S r.2 g))
    bodies_kept (sequence es) S r g = each_bodies es S r g
    bodies_kept (bind site x es e) S r g =
        let m = count es in
        append_same (each_bodies es S r.0 g) (wrapped_bodies (cells_for has_cell n x m) (converted has_cell n e) ∙ bodies_kept e (scope_with x m S) r.3 (low_with has_cell n x m S r.2 g))
    bodies_kept (fix x ls e) S r g =
        let m = count_lambdas ls in
        let low = low_with has_cell n x m S r.1 g in
        append_same (lambdas_bodies ls (scope_with x m S) r.2 low) (bodies_kept e (scope_with x m S) r.3 low)
    bodies_kept (letrec site x es e) S r g =
        let m = count es in
        let low = low_with has_cell n x m S r.1 g in
        append_same (each_bodies es (scope_with x m S) r.2 low) (filling_bodies x m (converted has_cell n e) ∙ bodies_kept e (scope_with x m S) r.3 low)
    bodies_kept (lambda name x m rest e) S r g =
        cons_same (procedure_kept name x m rest e S r.0 r.1 r.2 g) (wrapped_bodies (cells_for has_cell n x m) (converted has_cell n e) ∙ bodies_kept e (scope_with x m S) r.2 (low_with has_cell n x m S r.1 g))
    bodies_kept (call site spread f es) S r g = append_same (bodies_kept f S r.0 g) (each_bodies es S r.1 g)
    bodies_kept (operation site which es) S r g = each_bodies es S r g
    bodies_kept (new_cells cs e) S r g = absurd r
    bodies_kept (cell_get x) S r g = absurd r
    bodies_kept (cell_set x e) S r g = absurd r

    each_bodies : (es : Trees) (S : List ℕ) → RightEach has_cell n es S → AllLow has_cell n S → bodies_each (converted_each has_cell n es) ≡ bodies_each es
    each_bodies no_trees S r g = refl
    each_bodies (and_tree e es) S r g = append_same (bodies_kept e S r.0 g) (each_bodies es S r.1 g)

    lambdas_bodies : (ls : Lambdas) (S : List ℕ) → RightLambdas has_cell n ls S → AllLow has_cell n S → bodies_lambdas (converted_lambdas has_cell n ls) ≡ bodies_lambdas ls
    lambdas_bodies no_lambdas S r g = refl
    lambdas_bodies (and_lambda name x m rest e ls) S r g =
        cons_same (procedure_kept name x m rest e S r.0.0 r.0.1 r.0.2 g)
        (append_same (wrapped_bodies (cells_for has_cell n x m) (converted has_cell n e) ∙ bodies_kept e (scope_with x m S) r.0.2 (low_with has_cell n x m S r.0.1 g)) (lambdas_bodies ls S r.1 g))

  pub nothing_low : AllLow has_cell n []
  nothing_low = record { at = λ y i. absurd (cc) }

  forms_bodies : (es : Trees) → RightEach has_cell n es [] → bodies_forms (converted_each has_cell n es) ≡ bodies_forms es
  forms_bodies no_trees r = refl
  forms_bodies (and_tree e es) r = cons_same (rw (form_variables e r.0) refl) (append_same (bodies_kept e [] r.0 nothing_low) (forms_bodies es r.1))

  -- a program has the same bodies
  pub program_bodies : (p : Source) → IsRight has_cell n p → bodies_of (converted_source has_cell n p) ≡ bodies_of p
  program_bodies p r = append_same (lambdas_bodies p.library [] r.library nothing_low) (forms_bodies p.forms r.forms)
