-- What is made of a program weighs at most seven for each unit of its size.
use Rattle.std.proofs.Common.{◌≡◌, ℕ, zero, suc, ◌+◌, ◌*◌, ◌≤◌, Bool, true, false, List, [], ◌∷◌, length, refl, ap, arith}
use Rattle.sch_word.specs.trees.Bindings.{scope_with}
use Rattle.sch_word.specs.trees.Shape as shapes
use Rattle.sch_word.specs.trees.Shape.{procedures_size}
use Rattle.sch_word.specs.trees.NodeWeights.{free_of, procedures_weight, weight_of}
use Rattle.sch_cells.specs.declared.tree.NewCell.{NewCell}
use Rattle.sch_cells.specs.Tree.{Tree, Trees, Lambdas, Source, constant, literal, variable, global, set_variable, set_global, define, branch, sequence, bind, fix, letrec, lambda, call, operation, new_cells, cell_get, cell_set, no_trees, and_tree, no_lambdas, and_lambda, count, count_lambdas}
use Rattle.sch_cells.specs.Bodies.{procedures}
use Rattle.sch_cells.specs.Measures.{over, over_each, over_lambdas, shape, dropped_parts, program_size, weight}
use Rattle.sch_assign.specs.Converted.{cells_for, filling, reading, wrapped, converted, converted_each, converted_lambdas, converted_source, Right, RightEach, RightLambdas}
use Rattle.sch_assign.proofs.kept.FreeMoved.{AllLow, count_lambdas_same, count_same, low_with}
use Rattle.sch_assign.proofs.ConversionIsRight.{IsRight}
use Rattle.sch_assign.proofs.kept.BodiesKept.{procedure_kept, procedures_kept, nothing_low}
use Rattle.sch_assign.proofs.Lookups.{empty_length}
use Rattle.sch_assign.proofs.kept.SizeKept.{size, size_each, size_lambdas}
use Rattle.sch_assign.proofs.kept.ValidKept.{cells_length}

abbrev weigh : Tree → ℕ
weigh e = over 0 (λ a b. a + b) (λ e. weight_of (shape e)) e

abbrev weigh_each : Trees → ℕ
weigh_each es = over_each 0 (λ a b. a + b) (λ e. weight_of (shape e)) es

abbrev weigh_lambdas : Lambdas → ℕ
weigh_lambdas ls = over_lambdas 0 (λ a b. a + b) (λ e. weight_of (shape e)) ls

wrapped_weight : (cs : List NewCell) (m : ℕ) (e : Tree) → length cs ≤ m → weigh (wrapped cs e) ≤ 3 * m + weigh e
wrapped_weight [] m e l = omega arith
wrapped_weight (c ∷ cs) m e l = omega (arith, l)

filling_weight : (n x m : ℕ) (e : Tree) → weigh_each (filling n x m e) ≡ 6 * m + weigh e
filling_weight n x zero e = omega arith
filling_weight n x (suc m) e = let h = filling_weight n (suc x) m e in omega (arith, h)

filled_weight : (n x m d : ℕ) (e : Tree) → weight_of (shapes.sequence (count (filling n x m e)) d) ≡ m
filled_weight n x m d e = by (count (filling n x m e)) (filling_count m x)
  where
    filling_count : (m x : ℕ) → count (filling n x m e) ≡ suc m
    filling_count zero x = refl
    filling_count (suc m) x = ap suc (filling_count m (suc x))

    by : (k : ℕ) → k ≡ suc m → weight_of (shapes.sequence k d) ≡ m
    by zero h = absurd cc
    by (suc k) h = omega (arith, h)

-- a sequence binds no more values than it has parts, and one without parts is a constant
sequence_weight : (k d : ℕ) → weight_of (shapes.sequence k d) ≤ 2 + k
sequence_weight zero d = omega arith
sequence_weight (suc k) d = omega arith

module _ (has_cell : ℕ → Bool) (n : ℕ) where
  reading_weight : (b : Bool) (x : ℕ) → weigh (reading n b x) ≡ 2
  reading_weight true x = refl
  reading_weight false x = refl

  mutual
    -- what a value is used for at most is in it: it is bound, read, put aside and handed over
    weight_kept : (e : Tree) (S : List ℕ) → Right has_cell n e S → AllLow has_cell n S → weigh (converted has_cell n e) + 5 ≤ 7 * size e
    weight_kept (constant c) S r g = omega arith
    weight_kept (literal k) S r g = omega arith
    weight_kept (variable x) S r g = let h = reading_weight (has_cell x) x in omega (arith, h)
    weight_kept (global k) S r g = omega arith
    weight_kept (set_variable x e) S r g = let h = weight_kept e S r.2 g in omega (arith, h)
    weight_kept (set_global k e) S r g = let h = weight_kept e S r g in omega (arith, h)
    weight_kept (define k e) S r g = let h = weight_kept e S r g in omega (arith, h)
    weight_kept (branch a b c) S r g =
        let ha = weight_kept a S r.0 g in
        let hb = weight_kept b S r.1 g in
        let hc = weight_kept c S r.2 g in
        omega (arith, ha, hb, hc)
    weight_kept (sequence es) S r g =
        let h = each_weight es S r g in
        let s = sequence_weight (count (converted_each has_cell n es)) (dropped_parts (converted_each has_cell n es)) in
        let c = count_same has_cell n es in
        omega (arith, h, s, c)
    weight_kept (bind site x es e) S r g =
        let m = count es in
        let he = weight_kept e (scope_with x m S) r.3 (low_with has_cell n x m S r.2 g) in
        let hs = each_weight es S r.0 g in
        let w = wrapped_weight (cells_for has_cell n x m) m (converted has_cell n e) (cells_length has_cell n x m) in
        let c = count_same has_cell n es in
        omega (arith, he, hs, w, c)
    weight_kept (fix x ls e) S r g =
        let m = count_lambdas ls in
        let T = scope_with x m S in
        let low = low_with has_cell n x m S r.1 g in
        let he = weight_kept e T r.3 low in
        let hs = lambdas_weight ls T r.2 low in
        let c = count_lambdas_same has_cell n ls in
        rw (procedures_kept has_cell n ls T r.2 low) (omega (arith, he, hs, c))
    weight_kept (letrec site x es e) S r g =
        let m = count es in
        let T = scope_with x m S in
        let low = low_with has_cell n x m S r.1 g in
        let he = weight_kept e T r.3 low in
        let hs = each_weight es T r.2 low in
        let f = filling_weight n x m (converted has_cell n e) in
        let z = filled_weight n x m (dropped_parts (filling n x m (converted has_cell n e))) (converted has_cell n e) in
        let c = count_same has_cell n es in
        omega (arith, he, hs, f, z, c, empty_length n x m)
    weight_kept (lambda name x m rest e) S r g =
        let p = ap (λ q. weight_of (shapes.lambda q)) (procedure_kept has_cell n name x m rest e S r.0 r.1 r.2 g) in
        let he = weight_kept e (scope_with x m S) r.2 (low_with has_cell n x m S r.1 g) in
        let w = wrapped_weight (cells_for has_cell n x m) m (converted has_cell n e) (cells_length has_cell n x m) in
        omega (arith, p, he, w)
    weight_kept (call site spread f es) S r g =
        let hf = weight_kept f S r.0 g in
        let hs = each_weight es S r.1 g in
        let c = count_same has_cell n es in
        omega (arith, hf, hs, c)
    weight_kept (operation site which es) S r g =
        let h = each_weight es S r g in
        let c = count_same has_cell n es in
        omega (arith, h, c)
    weight_kept (new_cells cs e) S r g = absurd r
    weight_kept (cell_get x) S r g = absurd r
    weight_kept (cell_set x e) S r g = absurd r

    each_weight : (es : Trees) (S : List ℕ) → RightEach has_cell n es S → AllLow has_cell n S → weigh_each (converted_each has_cell n es) + 5 * count es ≤ 7 * size_each es
    each_weight no_trees S r g = omega arith
    each_weight (and_tree e es) S r g = let h = weight_kept e S r.0 g in let k = each_weight es S r.1 g in omega (arith, h, k)

    lambdas_weight : (ls : Lambdas) (S : List ℕ) → RightLambdas has_cell n ls S → AllLow has_cell n S →
        weigh_lambdas (converted_lambdas has_cell n ls) + (free_of (procedures ls) + procedures_weight (procedures ls)) ≤ 7 * size_lambdas ls + 7 * procedures_size (procedures ls)
    lambdas_weight no_lambdas S r g = omega arith
    lambdas_weight (and_lambda name x m rest e ls) S r g =
        let h = weight_kept e (scope_with x m S) r.0.2 (low_with has_cell n x m S r.0.1 g) in
        let w = wrapped_weight (cells_for has_cell n x m) m (converted has_cell n e) (cells_length has_cell n x m) in
        let k = lambdas_weight ls S r.1 g in
        omega (arith, h, w, k)

  pub program_weight : (p : Source) → IsRight has_cell n p → weight (converted_source has_cell n p) ≤ 7 * program_size p
  program_weight p r =
      let l = lambdas_weight p.library [] r.library (nothing_low has_cell n) in
      let f = each_weight p.forms [] r.forms (nothing_low has_cell n) in
      let c = count_same has_cell n p.forms in
      let q = ap procedures_weight (procedures_kept has_cell n p.library [] r.library (nothing_low has_cell n)) in
      omega (arith, l, f, c, q)
