-- What becomes of the shape of each node, and so of everything that is counted of shapes.
use Rattle.std.proofs.Common.{◌≡◌, ℕ, zero, suc, ◌+◌, ◌≤◌, Bool, true, false, List, [], ◌∷◌, length, refl, sym, ap, subst, arith}
use Rattle.sch_word.specs.trees.Bindings.{scope_with}
use Rattle.sch_word.specs.trees.Shape as shapes
use Rattle.sch_word.specs.trees.Shape.{Shape}
use Rattle.sch_word.proofs.Shaped.{Joins}
use Rattle.sch_cells.specs.declared.tree.NewCell.{NewCell}
use Rattle.sch_cells.specs.Tree.{Tree, Trees, Lambdas, Source, constant, literal, variable, global, set_variable, set_global, define, branch, sequence, bind, fix, letrec, lambda, call, operation, new_cells, cell_get, cell_set, no_trees, and_tree, no_lambdas, and_lambda, count, count_lambdas}
use Rattle.sch_cells.specs.Measures.{over, over_each, over_lambdas, over_source, shape, one_if_atom, dropped_parts}
use Rattle.sch_assign.specs.Converted.{cells_for, empty_cells, filling, reading, wrapped, converted, converted_each, converted_lambdas, converted_source, Right, RightEach, RightLambdas}
use Rattle.sch_assign.proofs.kept.FreeMoved.{AllLow, low_with, count_same, count_lambdas_same}
use Rattle.sch_assign.proofs.ConversionIsRight.{IsRight}
use Rattle.sch_assign.proofs.kept.BodiesKept.{procedure_kept, procedures_kept, nothing_low}

-- the shapes that a node may have got
pub data Becomes : Shape → Shape → Type 0 where
  same : {s : Shape} → Becomes s s
  read : Becomes shapes.variable shapes.cell_get
  set : Becomes shapes.set_variable shapes.cell_set
  bound : {site inits : ℕ} → Becomes (shapes.letrec site inits) (shapes.bind site inits)
  fewer : {parts dropped fewer_dropped : ℕ} → fewer_dropped ≤ dropped → Becomes (shapes.sequence parts dropped) (shapes.sequence parts fewer_dropped)

same_becomes : {s s' : Shape} → s' ≡ s → Becomes s s'
same_becomes {s} e = subst (λ t. Becomes s t) (sym e) same

filling_count : (n x m : ℕ) (e : Tree) → count (filling n x m e) ≡ suc m
filling_count n x zero e = refl
filling_count n x (suc m) e = ap suc (filling_count n (suc x) m e)

filling_dropped : (n x m : ℕ) (e : Tree) → dropped_parts (filling n x m e) ≡ 0
filling_dropped n x zero e = refl
filling_dropped n x (suc zero) e = refl
filling_dropped n x (suc (suc m)) e = let h = filling_dropped n (suc x) (suc m) e in omega (arith, h)

module _ (has_cell : ℕ → Bool) (n : ℕ) where
  -- the node that stands for a node; for a Rec it is the Let with its inits
  abbrev pub node_of : Tree → Tree
  node_of (letrec site x es e) = bind site x (converted_each has_cell n es) (sequence (filling n x (count es) (converted has_cell n e)))
  node_of e = converted has_cell n e

  reading_atom : (b : Bool) (x : ℕ) → one_if_atom (reading n b x) ≤ 1
  reading_atom true x = omega arith
  reading_atom false x = omega arith

  atom_kept : (e : Tree) → one_if_atom (converted has_cell n e) ≤ one_if_atom e
  atom_kept (constant c) = omega arith
  atom_kept (literal k) = omega arith
  atom_kept (variable x) = reading_atom (has_cell x) x
  atom_kept (global k) = omega arith
  atom_kept (set_variable x e) = omega arith
  atom_kept (set_global k e) = omega arith
  atom_kept (define k e) = omega arith
  atom_kept (branch a b c) = omega arith
  atom_kept (sequence es) = omega arith
  atom_kept (bind site x es e) = omega arith
  atom_kept (fix x ls e) = omega arith
  atom_kept (letrec site x es e) = omega arith
  atom_kept (lambda name x m rest e) = omega arith
  atom_kept (call site spread f es) = omega arith
  atom_kept (operation site which es) = omega arith
  atom_kept (new_cells cs e) = omega arith
  atom_kept (cell_get x) = omega arith
  atom_kept (cell_set x e) = omega arith

  dropped_kept : (es : Trees) → dropped_parts (converted_each has_cell n es) ≤ dropped_parts es
  dropped_kept no_trees = omega arith
  dropped_kept (and_tree e no_trees) = omega arith
  dropped_kept (and_tree e (and_tree e' es)) = let h = atom_kept e in let k = dropped_kept (and_tree e' es) in omega (arith, h, k)

  reading_becomes : (b : Bool) (x : ℕ) → Becomes shapes.variable (shape (reading n b x))
  reading_becomes true x = read
  reading_becomes false x = same

  pub shape_becomes : (e : Tree) (S : List ℕ) → Right has_cell n e S → AllLow has_cell n S → Becomes (shape e) (shape (node_of e))
  shape_becomes (constant c) S r g = same
  shape_becomes (literal k) S r g = same
  shape_becomes (variable x) S r g = reading_becomes (has_cell x) x
  shape_becomes (global k) S r g = same
  shape_becomes (set_variable x e) S r g = set
  shape_becomes (set_global k e) S r g = same
  shape_becomes (define k e) S r g = same
  shape_becomes (branch a b c) S r g = same
  shape_becomes (sequence es) S r g = rw (count_same has_cell n es) (fewer (dropped_kept es))
  shape_becomes (bind site x es e) S r g = same_becomes (ap (shapes.bind site) (count_same has_cell n es))
  shape_becomes (fix x ls e) S r g =
      let m = count_lambdas ls in
      same_becomes (let p = procedures_kept has_cell n ls (scope_with x m S) r.2 (low_with has_cell n x m S r.1 g) in rw (count_lambdas_same has_cell n ls, p) refl)
  shape_becomes (letrec site x es e) S r g = rw (count_same has_cell n es) bound
  shape_becomes (lambda name x m rest e) S r g = same_becomes (ap shapes.lambda (procedure_kept has_cell n name x m rest e S r.0 r.1 r.2 g))
  shape_becomes (call site spread f es) S r g = same_becomes (ap (λ k. shapes.call site k spread) (count_same has_cell n es))
  shape_becomes (operation site which es) S r g = same_becomes (ap (shapes.operation site which) (count_same has_cell n es))
  shape_becomes (new_cells cs e) S r g = absurd r
  shape_becomes (cell_get x) S r g = absurd r
  shape_becomes (cell_set x e) S r g = absurd r

  -- A measure of the answer's nodes is related to a measure of the argument's, where it is so at each node and
  -- the nodes that are added count nothing.
  module _ {V : Type 0} {R : V → V → Type 0} {nothing : V} {join : V → V → V} (joins : Joins R nothing join) (first_nothing : (a : V) → join nothing a ≡ a) (last_nothing : (a : V) → join a nothing ≡ a)
      (here here' : Tree → V)
      (node : (e : Tree) (S : List ℕ) → Right has_cell n e S → AllLow has_cell n S → R (here e) (here' (node_of e)))
      (cells : (cs : List NewCell) (e : Tree) → here' (new_cells cs e) ≡ nothing)
      (filled : (x : ℕ) → here' (cell_set (x + n) (variable x)) ≡ nothing)
      (value : (x : ℕ) → here' (variable x) ≡ nothing)
      (parts : (x m : ℕ) (e : Tree) → here' (sequence (filling n x m e)) ≡ nothing) where
    reading_over : (b : Bool) (x : ℕ) → over nothing join here' (reading n b x) ≡ here' (reading n b x)
    reading_over true x = refl
    reading_over false x = refl

    wrapped_over : (cs : List NewCell) (e : Tree) → over nothing join here' (wrapped cs e) ≡ over nothing join here' e
    wrapped_over [] e = refl
    wrapped_over (c ∷ cs) e = rw (cells (c ∷ cs) e) (first_nothing (over nothing join here' e))

    filling_over : (x m : ℕ) (e : Tree) → over_each nothing join here' (filling n x m e) ≡ over nothing join here' e
    filling_over x zero e = last_nothing (over nothing join here' e)
    filling_over x (suc m) e = rw (filled x, value x, first_nothing nothing, filling_over (suc x) m e) (first_nothing (over nothing join here' e))

    mutual
      over_kept : (e : Tree) (S : List ℕ) → Right has_cell n e S → AllLow has_cell n S → R (over nothing join here e) (over nothing join here' (converted has_cell n e))
      over_kept (constant c) S r g = node (constant c) S r g
      over_kept (literal k) S r g = node (literal k) S r g
      over_kept (variable x) S r g = subst (λ v. R (here (variable x)) v) (sym (reading_over (has_cell x) x)) (node (variable x) S r g)
      over_kept (global k) S r g = node (global k) S r g
      over_kept (set_variable x e) S r g = joins.joined _ _ _ _ (node (set_variable x e) S r g) (over_kept e S r.2 g)
      over_kept (set_global k e) S r g = joins.joined _ _ _ _ (node (set_global k e) S r g) (over_kept e S r g)
      over_kept (define k e) S r g = joins.joined _ _ _ _ (node (define k e) S r g) (over_kept e S r g)
      over_kept (branch a b c) S r g =
          joins.joined _ _ _ _ (node (branch a b c) S r g) (joins.joined _ _ _ _ (over_kept a S r.0 g) (joins.joined _ _ _ _ (over_kept b S r.1 g) (over_kept c S r.2 g)))
      over_kept (sequence es) S r g = joins.joined _ _ _ _ (node (sequence es) S r g) (each_kept es S r g)
      over_kept (bind site x es e) S r g =
          let m = count es in
          rw (wrapped_over (cells_for has_cell n x m) (converted has_cell n e))
          (joins.joined _ _ _ _ (node (bind site x es e) S r g) (joins.joined _ _ _ _ (each_kept es S r.0 g) (over_kept e (scope_with x m S) r.3 (low_with has_cell n x m S r.2 g))))
      over_kept (fix x ls e) S r g =
          let m = count_lambdas ls in
          let low = low_with has_cell n x m S r.1 g in
          joins.joined _ _ _ _ (node (fix x ls e) S r g) (joins.joined _ _ _ _ (lambdas_kept ls (scope_with x m S) r.2 low) (over_kept e (scope_with x m S) r.3 low))
      over_kept (letrec site x es e) S r g =
          let m = count es in
          let low = low_with has_cell n x m S r.1 g in
          let b = bind site x (converted_each has_cell n es) (sequence (filling n x m (converted has_cell n e))) in
          rw (cells (empty_cells n x m) b, first_nothing (over nothing join here' b), parts x m (converted has_cell n e), first_nothing (over_each nothing join here' (filling n x m (converted has_cell n e))), filling_over x m (converted has_cell n e))
          (joins.joined _ _ _ _ (node (letrec site x es e) S r g) (joins.joined _ _ _ _ (each_kept es (scope_with x m S) r.2 low) (over_kept e (scope_with x m S) r.3 low)))
      over_kept (lambda name x m rest e) S r g =
          rw (wrapped_over (cells_for has_cell n x m) (converted has_cell n e)) (joins.joined _ _ _ _ (node (lambda name x m rest e) S r g) (over_kept e (scope_with x m S) r.2 (low_with has_cell n x m S r.1 g)))
      over_kept (call site spread f es) S r g = joins.joined _ _ _ _ (node (call site spread f es) S r g) (joins.joined _ _ _ _ (over_kept f S r.0 g) (each_kept es S r.1 g))
      over_kept (operation site which es) S r g = joins.joined _ _ _ _ (node (operation site which es) S r g) (each_kept es S r g)
      over_kept (new_cells cs e) S r g = absurd r
      over_kept (cell_get x) S r g = absurd r
      over_kept (cell_set x e) S r g = absurd r

      each_kept : (es : Trees) (S : List ℕ) → RightEach has_cell n es S → AllLow has_cell n S → R (over_each nothing join here es) (over_each nothing join here' (converted_each has_cell n es))
      each_kept no_trees S r g = joins.empty
      each_kept (and_tree e es) S r g = joins.joined _ _ _ _ (over_kept e S r.0 g) (each_kept es S r.1 g)

      lambdas_kept : (ls : Lambdas) (S : List ℕ) → RightLambdas has_cell n ls S → AllLow has_cell n S → R (over_lambdas nothing join here ls) (over_lambdas nothing join here' (converted_lambdas has_cell n ls))
      lambdas_kept no_lambdas S r g = joins.empty
      lambdas_kept (and_lambda name x m rest e ls) S r g =
          rw (wrapped_over (cells_for has_cell n x m) (converted has_cell n e)) (joins.joined _ _ _ _ (over_kept e (scope_with x m S) r.0.2 (low_with has_cell n x m S r.0.1 g)) (lambdas_kept ls S r.1 g))

    pub source_kept : (p : Source) → IsRight has_cell n p → R (over_source nothing join here p) (over_source nothing join here' (converted_source has_cell n p))
    source_kept p r = joins.joined _ _ _ _ (lambdas_kept p.library [] r.library (nothing_low has_cell n)) (each_kept p.forms [] r.forms (nothing_low has_cell n))

  -- the same for measures of shapes
  module _ {V : Type 0} {R : V → V → Type 0} {nothing : V} {join : V → V → V} (joins : Joins R nothing join) (first_nothing : (a : V) → join nothing a ≡ a) (last_nothing : (a : V) → join a nothing ≡ a)
      (m m' : Shape → V) (turn : (s t : Shape) → Becomes s t → R (m s) (m' t))
      (cells : (k : ℕ) → m' (shapes.new_cells k) ≡ nothing) (set_nothing : m' shapes.cell_set ≡ nothing) (variable_nothing : m' shapes.variable ≡ nothing) (parts : (k : ℕ) → m' (shapes.sequence (suc k) 0) ≡ nothing) where
    pub shapes_kept : (p : Source) → IsRight has_cell n p → R (over_source nothing join (λ e. m (shape e)) p) (over_source nothing join (λ e. m' (shape e)) (converted_source has_cell n p))
    shapes_kept p r =
        source_kept joins first_nothing last_nothing (λ e. m (shape e)) (λ e. m' (shape e)) (λ e S h g. turn (shape e) (shape (node_of e)) (shape_becomes e S h g))
        (λ cs e. cells (length cs)) (λ x. set_nothing) (λ x. variable_nothing)
        (λ x k e. rw (filling_count n x k e, filling_dropped n x k e) (parts k)) p r
