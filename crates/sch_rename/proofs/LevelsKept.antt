-- Numbering keeps how deep the nodes are nested.
use Rattle.std.proofs.Common.{◌≡◌, ℕ, ◌+◌, List, refl}
use Rattle.sch_word.specs.trees.Bindings.{scope_with}
use Rattle.sch_lang.specs.Tree.{Expression, Expressions, Lambdas, constant, literal, local, global, set_local, set_global, define, branch, sequence, bind, fix, letrec, lambda, call, operation, no_expressions, and_expression, no_lambdas, and_lambda, count, count_lambdas}
use Rattle.sch_lang.specs.Measures.{levels, levels_each, levels_lambdas}
use Rattle.sch_cells.specs.Measures as to
use Rattle.sch_rename.specs.Made.{binds, binds_each, binds_lambdas, renamed, renamed_each, renamed_lambdas}

mutual
  levels_kept : (e : Expression) (s : List ℕ) (x : ℕ) → to.levels (renamed e s x) ≡ levels e
  levels_kept (constant c) s x = refl
  levels_kept (literal n) s x = refl
  levels_kept (local k) s x = refl
  levels_kept (global g) s x = refl
  levels_kept (set_local k e) s x = rw (levels_kept e s x) refl
  levels_kept (set_global g e) s x = rw (levels_kept e s x) refl
  levels_kept (define g e) s x = rw (levels_kept e s x) refl
  levels_kept (branch a b c) s x = rw (levels_kept a s x, levels_kept b s (x + binds a), levels_kept c s (x + binds a + binds b)) refl
  levels_kept (sequence es) s x = rw (each_levels es s x) refl
  levels_kept (bind site es e) s x =
      rw (each_levels es s (x + count es), levels_kept e (scope_with x (count es) s) (x + count es + binds_each es)) refl
  levels_kept (fix ls e) s x =
      rw (lambdas_levels ls (scope_with x (count_lambdas ls) s) (x + count_lambdas ls), levels_kept e (scope_with x (count_lambdas ls) s) (x + count_lambdas ls + binds_lambdas ls)) refl
  levels_kept (letrec site es e) s x =
      rw (each_levels es (scope_with x (count es) s) (x + count es), levels_kept e (scope_with x (count es) s) (x + count es + binds_each es)) refl
  levels_kept (lambda name formals rest e) s x = rw (levels_kept e (scope_with x formals s) (x + formals)) refl
  levels_kept (call site f es) s x = rw (levels_kept f s x, each_levels es s (x + binds f)) refl
  levels_kept (operation site which es) s x = rw (each_levels es s x) refl

  pub each_levels : (es : Expressions) (s : List ℕ) (x : ℕ) → to.levels_each (renamed_each es s x) ≡ levels_each es
  each_levels no_expressions s x = refl
  each_levels (and_expression e es) s x = rw (levels_kept e s x, each_levels es s (x + binds e)) refl

  pub lambdas_levels : (ls : Lambdas) (s : List ℕ) (x : ℕ) → to.levels_lambdas (renamed_lambdas ls s x) ≡ levels_lambdas ls
  lambdas_levels no_lambdas s x = refl
  lambdas_levels (and_lambda name formals rest e ls) s x =
      rw (levels_kept e (scope_with x formals s) (x + formals), lambdas_levels ls s (x + formals + binds e)) refl
