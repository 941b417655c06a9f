-- What is made of a program is at most four times as large, and has as many variables more as get cells.
use Rattle.std.proofs.Common.{◌≡◌, ℕ, zero, suc, ◌+◌, ◌*◌, ◌≤◌, Bool, true, false, List, [], ◌∷◌, length, ap, arith}
use Rattle.sch_word.specs.trees.Bindings.{scope_with}
use Rattle.sch_word.specs.trees.Shape.{size_of, procedures_size, procedure_size}
use Rattle.sch_cells.specs.declared.tree.NewCell.{NewCell}
use Rattle.sch_cells.specs.Tree.{Tree, Trees, Lambdas, Source, constant, literal, variable, global, set_variable, set_global, define, branch, sequence, bind, fix, letrec, lambda, call, operation, new_cells, cell_get, cell_set, no_trees, and_tree, no_lambdas, and_lambda, count, count_lambdas}
use Rattle.sch_cells.specs.Bodies.{procedures}
use Rattle.sch_cells.specs.Measures.{over, over_each, over_lambdas, shape, program_size}
use Rattle.sch_assign.specs.Converted.{cells_for, filling, reading, wrapped, converted, converted_each, converted_lambdas, converted_source, Right, RightEach, RightLambdas}
use Rattle.sch_assign.proofs.kept.FreeMoved.{AllLow, low_with, count_same, count_lambdas_same}
use Rattle.sch_assign.proofs.ConversionIsRight.{IsRight}
use Rattle.sch_assign.proofs.kept.BodiesKept.{procedure_kept, procedures_kept, nothing_low}
use Rattle.sch_assign.proofs.Lookups.{empty_length}
use Rattle.sch_assign.proofs.kept.ValidKept.{cells_length}

-- the size of a tree, of trees and of lambdas
abbrev pub size : Tree → ℕ
size e = over 0 (λ a b. a + b) (λ e. size_of (shape e)) e

abbrev pub size_each : Trees → ℕ
size_each es = over_each 0 (λ a b. a + b) (λ e. size_of (shape e)) es

abbrev pub size_lambdas : Lambdas → ℕ
size_lambdas ls = over_lambdas 0 (λ a b. a + b) (λ e. size_of (shape e)) ls

wrapped_size : (cs : List NewCell) (m : ℕ) (e : Tree) → length cs ≤ m → size (wrapped cs e) ≤ 1 + m + size e
wrapped_size [] m e l = omega arith
wrapped_size (c ∷ cs) m e l = omega (arith, l)

filling_size : (n x m : ℕ) (e : Tree) → size_each (filling n x m e) ≡ m + m + size e
filling_size n x zero e = omega arith
filling_size n x (suc m) e = let h = filling_size n (suc x) m e in omega (arith, h)

module _ (has_cell : ℕ → Bool) (n : ℕ) where
  reading_size : (b : Bool) (x : ℕ) → size (reading n b x) ≤ 4
  reading_size true x = omega arith
  reading_size false x = omega arith

  mutual
    size_kept : (e : Tree) (S : List ℕ) → Right has_cell n e S → AllLow has_cell n S → size (converted has_cell n e) ≤ 4 * size e
    size_kept (constant c) S r g = omega arith
    size_kept (literal k) S r g = omega arith
    size_kept (variable x) S r g = reading_size (has_cell x) x
    size_kept (global k) S r g = omega arith
    size_kept (set_variable x e) S r g = let h = size_kept e S r.2 g in omega (arith, h)
    size_kept (set_global k e) S r g = let h = size_kept e S r g in omega (arith, h)
    size_kept (define k e) S r g = let h = size_kept e S r g in omega (arith, h)
    size_kept (branch a b c) S r g =
        let ha = size_kept a S r.0 g in
        let hb = size_kept b S r.1 g in
        let hc = size_kept c S r.2 g in
        omega (arith, ha, hb, hc)
    size_kept (sequence es) S r g = let h = each_size es S r g in omega (arith, h)
    size_kept (bind site x es e) S r g =
        let m = count es in
        let he = size_kept e (scope_with x m S) r.3 (low_with has_cell n x m S r.2 g) in
        let hs = each_size es S r.0 g in
        let w = wrapped_size (cells_for has_cell n x m) m (converted has_cell n e) (cells_length has_cell n x m) in
        rw (count_same has_cell n es) (omega (arith, he, hs, w))
    size_kept (fix x ls e) S r g =
        let m = count_lambdas ls in
        let T = scope_with x m S in
        let low = low_with has_cell n x m S r.1 g in
        let he = size_kept e T r.3 low in
        let hs = lambdas_size ls T r.2 low in
        rw (count_lambdas_same has_cell n ls, procedures_kept has_cell n ls T r.2 low) (omega (arith, he, hs))
    size_kept (letrec site x es e) S r g =
        let m = count es in
        let T = scope_with x m S in
        let low = low_with has_cell n x m S r.1 g in
        let he = size_kept e T r.3 low in
        let hs = each_size es T r.2 low in
        let f = filling_size n x m (converted has_cell n e) in
        rw (count_same has_cell n es, empty_length n x m) (omega (arith, he, hs, f))
    size_kept (lambda name x m rest e) S r g =
        let p = ap procedure_size (procedure_kept has_cell n name x m rest e S r.0 r.1 r.2 g) in
        let he = size_kept e (scope_with x m S) r.2 (low_with has_cell n x m S r.1 g) in
        let w = wrapped_size (cells_for has_cell n x m) m (converted has_cell n e) (cells_length has_cell n x m) in
        omega (arith, p, he, w)
    size_kept (call site spread f es) S r g =
        let hf = size_kept f S r.0 g in
        let hs = each_size es S r.1 g in
        omega (arith, hf, hs)
    size_kept (operation site which es) S r g = let h = each_size es S r g in omega (arith, h)
    size_kept (new_cells cs e) S r g = absurd r
    size_kept (cell_get x) S r g = absurd r
    size_kept (cell_set x e) S r g = absurd r

    each_size : (es : Trees) (S : List ℕ) → RightEach has_cell n es S → AllLow has_cell n S → size_each (converted_each has_cell n es) ≤ 4 * size_each es
    each_size no_trees S r g = omega arith
    each_size (and_tree e es) S r g = let h = size_kept e S r.0 g in let k = each_size es S r.1 g in omega (arith, h, k)

    lambdas_size : (ls : Lambdas) (S : List ℕ) → RightLambdas has_cell n ls S → AllLow has_cell n S → size_lambdas (converted_lambdas has_cell n ls) ≤ 4 * size_lambdas ls + procedures_size (procedures ls)
    lambdas_size no_lambdas S r g = omega arith
    lambdas_size (and_lambda name x m rest e ls) S r g =
        let h = size_kept e (scope_with x m S) r.0.2 (low_with has_cell n x m S r.0.1 g) in
        let w = wrapped_size (cells_for has_cell n x m) m (converted has_cell n e) (cells_length has_cell n x m) in
        let k = lambdas_size ls S r.1 g in
        omega (arith, h, w, k)

  pub program_size_kept : (p : Source) → IsRight has_cell n p → program_size (converted_source has_cell n p) ≤ 4 * program_size p
  program_size_kept p r =
      let l = lambdas_size p.library [] r.library (nothing_low has_cell n) in
      let f = each_size p.forms [] r.forms (nothing_low has_cell n) in
      rw (procedures_kept has_cell n p.library [] r.library (nothing_low has_cell n), count_same has_cell n p.forms) (omega (arith, l, f))
