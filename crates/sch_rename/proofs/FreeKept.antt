-- A tree with numbers has the free variables of the tree without, by their numbers.
use Rattle.std.proofs.Common.{◌≡◌, ℕ, suc, ◌+◌, List, [], ◌∷◌, length, map, refl, ap, ◌∙◌, arith}
use Rattle.sch_lang.specs.Tree.{Expression, Expressions, Lambdas, constant, literal, local, global, set_local, set_global, define, branch, sequence, bind, fix, letrec, lambda, call, operation, no_expressions, and_expression, no_lambdas, and_lambda, count, count_lambdas}
use Rattle.sch_lang.specs.Variables.{outside, free, free_each, free_lambdas}
use Rattle.sch_cells.specs.Tree as tree
use Rattle.sch_cells.specs.Variables as to
use Rattle.sch_rename.specs.Made.{number_at, binds, binds_each, binds_lambdas, renamed, renamed_each, renamed_lambdas}
use Rattle.sch_lang.specs.InScope.{InScope, EachInScope, LambdasInScope}
use Rattle.sch_word.specs.trees.Bindings.{scope_with, without}
use Rattle.sch_word.proofs.facts.NumberSets.{Under, union_under}
use Rattle.sch_rename.proofs.Scopes.{Falls, falls_more, falls_with, inside, outside_under, both, outside_map}

mutual
  pub free_under : (e : Expression) (n : ℕ) → InScope e n → Under (free e) n
  free_under (constant c) n i = tt
  free_under (literal k) n i = tt
  free_under (local k) n i = (i, tt)
  free_under (global g) n i = tt
  free_under (set_local k e) n i = union_under (k ∷ []) (free e) n (i.0, tt) (free_under e n i.1)
  free_under (set_global g e) n i = free_under e n i
  free_under (define g e) n i = free_under e n i
  free_under (branch a b c) n i = union_under (free a) _ n (free_under a n i.0) (union_under (free b) (free c) n (free_under b n i.1.0) (free_under c n i.1.1))
  free_under (sequence es) n i = each_under es n i
  free_under (bind site es e) n i = union_under (free_each es) _ n (each_under es n i.0) (outside_under (count es) (free e) n (free_under e (n + count es) i.1))
  free_under (fix ls e) n i =
      outside_under (count_lambdas ls) _ n (union_under (free_lambdas ls) (free e) (n + count_lambdas ls) (lambdas_under ls (n + count_lambdas ls) i.0) (free_under e (n + count_lambdas ls) i.1))
  free_under (letrec site es e) n i =
      outside_under (count es) _ n (union_under (free_each es) (free e) (n + count es) (each_under es (n + count es) i.0) (free_under e (n + count es) i.1))
  free_under (lambda name formals rest e) n i = outside_under formals (free e) n (free_under e (n + formals) i)
  free_under (call site f es) n i = union_under (free f) (free_each es) n (free_under f n i.0) (each_under es n i.1)
  free_under (operation site which es) n i = each_under es n i

  pub each_under : (es : Expressions) (n : ℕ) → EachInScope es n → Under (free_each es) n
  each_under no_expressions n i = tt
  each_under (and_expression e es) n i = union_under (free e) (free_each es) n (free_under e n i.0) (each_under es n i.1)

  pub lambdas_under : (ls : Lambdas) (n : ℕ) → LambdasInScope ls n → Under (free_lambdas ls) n
  lambdas_under no_lambdas n i = tt
  lambdas_under (and_lambda name formals rest e ls) n i =
      union_under (outside formals (free e)) (free_lambdas ls) n (outside_under formals (free e) n (free_under e (n + formals) i.0)) (lambdas_under ls n i.1)

abbrev Kept : Expression → List ℕ → ℕ → Type 0
Kept e s x = to.free (renamed e s x) ≡ map (number_at s) (free e)

pub counts : (es : Expressions) (s : List ℕ) (x : ℕ) → tree.count (renamed_each es s x) ≡ count es
counts no_expressions s x = refl
counts (and_expression e es) s x = ap suc (counts es s (x + binds e))

pub counts_lambdas : (ls : Lambdas) (s : List ℕ) (x : ℕ) → tree.count_lambdas (renamed_lambdas ls s x) ≡ count_lambdas ls
counts_lambdas no_lambdas s x = refl
counts_lambdas (and_lambda name formals rest e ls) s x = ap suc (counts_lambdas ls s (x + formals + binds e))

mutual
  pub free_kept : (e : Expression) (s : List ℕ) (x : ℕ) → Falls s x → InScope e (length s) → Kept e s x
  free_kept (constant c) s x f i = refl
  free_kept (literal n) s x f i = refl
  free_kept (local k) s x f i = refl
  free_kept (global g) s x f i = refl
  free_kept (set_local k e) s x f i = both s x (k ∷ []) (free e) f (i.0, tt) (free_under e _ i.1) refl (free_kept e s x f i.1)
  free_kept (set_global g e) s x f i = free_kept e s x f i
  free_kept (define g e) s x f i = free_kept e s x f i
  free_kept (branch a b c) s x f i =
      both s x (free a) _ f (free_under a _ i.0) (union_under (free b) (free c) _ (free_under b _ i.1.0) (free_under c _ i.1.1)) (free_kept a s x f i.0)
      (both s x (free b) (free c) f (free_under b _ i.1.0) (free_under c _ i.1.1) (free_kept b s (x + binds a) (falls_more s x _ (omega arith) f) i.1.0) (free_kept c s (x + binds a + binds b) (falls_more s x _ (omega arith) f) i.1.1))
  free_kept (sequence es) s x f i = each_kept es s x f i
  free_kept (bind site es e) s x f i =
      let m = count es in
      let g : Falls s (x + m) = falls_more s x (x + m) (omega arith) f in
      rw (counts es s (x + m))
      (both s x (free_each es) _ f (each_under es _ i.0) (outside_under m (free e) _ (free_under e _ i.1)) (each_kept es s (x + m) g i.0)
      (ap (without x m) (free_kept e (scope_with x m s) (x + m + binds_each es) (falls_more (scope_with x m s) (x + m) _ (omega arith) (falls_with x m s f)) (inside x m s (InScope e) i.1))
      ∙ outside_map x m s (free e) f (free_under e _ i.1)))
  free_kept (fix ls e) s x f i =
      let m = count_lambdas ls in
      let t = scope_with x m s in
      let il : LambdasInScope ls (length t) = inside x m s (LambdasInScope ls) i.0 in
      let ie : InScope e (length t) = inside x m s (InScope e) i.1 in
      let g : Falls t (x + m) = falls_with x m s f in
      rw (counts_lambdas ls t (x + m))
      (ap (without x m) (both t (x + m) (free_lambdas ls) (free e) g (lambdas_under ls _ il) (free_under e _ ie) (lambdas_kept ls t (x + m) g il)
      (free_kept e t (x + m + binds_lambdas ls) (falls_more t (x + m) _ (omega arith) g) ie))
      ∙ outside_map x m s _ f (union_under (free_lambdas ls) (free e) _ (lambdas_under ls _ i.0) (free_under e _ i.1)))
  free_kept (letrec site es e) s x f i =
      let m = count es in
      let t = scope_with x m s in
      let il : EachInScope es (length t) = inside x m s (EachInScope es) i.0 in
      let ie : InScope e (length t) = inside x m s (InScope e) i.1 in
      let g : Falls t (x + m) = falls_with x m s f in
      rw (counts es t (x + m))
      (ap (without x m) (both t (x + m) (free_each es) (free e) g (each_under es _ il) (free_under e _ ie) (each_kept es t (x + m) g il)
      (free_kept e t (x + m + binds_each es) (falls_more t (x + m) _ (omega arith) g) ie))
      ∙ outside_map x m s _ f (union_under (free_each es) (free e) _ (each_under es _ i.0) (free_under e _ i.1)))
  free_kept (lambda name formals rest e) s x f i =
      ap (without x formals) (free_kept e (scope_with x formals s) (x + formals) (falls_with x formals s f) (inside x formals s (InScope e) i)) ∙ outside_map x formals s (free e) f (free_under e _ i)
  free_kept (call site g es) s x f i =
      both s x (free g) (free_each es) f (free_under g _ i.0) (each_under es _ i.1) (free_kept g s x f i.0) (each_kept es s (x + binds g) (falls_more s x _ (omega arith) f) i.1)
  free_kept (operation site which es) s x f i = each_kept es s x f i

  each_kept : (es : Expressions) (s : List ℕ) (x : ℕ) → Falls s x → EachInScope es (length s) → to.free_each (renamed_each es s x) ≡ map (number_at s) (free_each es)
  each_kept no_expressions s x f i = refl
  each_kept (and_expression e es) s x f i =
      both s x (free e) (free_each es) f (free_under e _ i.0) (each_under es _ i.1) (free_kept e s x f i.0) (each_kept es s (x + binds e) (falls_more s x _ (omega arith) f) i.1)

  lambdas_kept : (ls : Lambdas) (s : List ℕ) (x : ℕ) → Falls s x → LambdasInScope ls (length s) → to.free_lambdas (renamed_lambdas ls s x) ≡ map (number_at s) (free_lambdas ls)
  lambdas_kept no_lambdas s x f i = refl
  lambdas_kept (and_lambda name m rest e ls) s x f i =
      both s x (outside m (free e)) (free_lambdas ls) f (outside_under m (free e) _ (free_under e _ i.0)) (lambdas_under ls _ i.1)
      (ap (without x m) (free_kept e (scope_with x m s) (x + m) (falls_with x m s f) (inside x m s (InScope e) i.0)) ∙ outside_map x m s (free e) f (free_under e _ i.0))
      (lambdas_kept ls s (x + m + binds e) (falls_more s x _ (omega arith) f) i.1)

map_length : (s xs : List ℕ) → length (map (number_at s) xs) ≡ length xs
map_length s [] = refl
map_length s (x ∷ xs) = ap suc (map_length s xs)

-- a procedure has as many free variables
pub free_length : (m : ℕ) (e : Expression) (s : List ℕ) (x : ℕ) → Falls s x → InScope e (length s + m) → length (without x m (to.free (renamed e (scope_with x m s) (x + m)))) ≡ length (outside m (free e))
free_length m e s x f i =
    ap length (ap (without x m) (free_kept e (scope_with x m s) (x + m) (falls_with x m s f) (inside x m s (InScope e) i)) ∙ outside_map x m s (free e) f (free_under e _ i)) ∙ map_length s (outside m (free e))
