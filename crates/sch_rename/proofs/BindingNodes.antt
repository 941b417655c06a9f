-- What is made of the nodes that bind variables, and the scope after them, from what is made of their parts.
use Rattle.std.proofs.Common.{◌≡◌, ℕ, ◌+◌, List, length, reverse, take, refl, ap, ◌∙◌, arith}
use Rattle.sch_lang.specs.Tree as lang
use Rattle.sch_lang.specs.Tree.{count}
use Rattle.sch_cells.specs.Tree as cells
use Rattle.sch_cells.specs.Tree.{Trees}
use Rattle.sch_rename.specs.Made.{binds_each, binds_lambdas, renamed, renamed_each, renamed_lambdas, Renames, RenamesEach, RenamesLambda, RenamesLambdas}
use Rattle.sch_word.specs.trees.Bindings.{scope_with}

restored : (a b c final : List ℕ) (n : ℕ) → take (length a) b ≡ a → c ≡ b → n ≡ length a → final ≡ take n c → final ≡ a
restored a b c final n kept same l t = t ∙ ap (λ m. take m c) l ∙ ap (take (length a)) same ∙ kept

pub let_renames : (site : ℕ) (es : lang.Expressions) (e : lang.Expression) (scope a b c final : List ℕ) (x x1 x2 x3 n depth : ℕ) (qs : Trees) (q : cells.Tree) → n ≡ count es → x1 ≡ x + n →
    RenamesEach es scope a x1 x2 qs → reverse b ≡ scope_with x n (reverse a) → take (length a) b ≡ a → depth ≡ length a → Renames e b c x2 x3 q → final ≡ take depth c →
    Renames (lang.bind site es e) scope final x x3 (cells.bind site x qs q)
let_renames site es e scope a b c final x x1 x2 x3 n depth qs q m f r names kept len s t =
    let inside = scope_with x (count es) (reverse scope) in
    let p = r.made ∙ ap (renamed_each es (reverse scope)) (f ∙ ap (λ k. x + k) m) in
    let here : reverse b ≡ inside = names ∙ ap (λ y. scope_with x n (reverse y)) r.scope ∙ ap (λ k. scope_with x k (reverse scope)) m in
    let then : x2 ≡ x + count es + binds_each es = omega (arith, f, m, r.next) in
    let w = s.made ∙ ap (λ z. renamed e z x2) here ∙ ap (renamed e inside) then in
    record {
      made = ap (λ u. cells.bind site x u q) p ∙ ap (λ u. cells.bind site x (renamed_each es (reverse scope) (x + count es)) u) w;
      next = omega (arith, then, s.next);
      scope = restored a b c final depth kept s.scope len t ∙ r.scope;
    }

pub fix_renames : (ls : lang.Lambdas) (e : lang.Expression) (scope b c d final : List ℕ) (x x1 x2 x3 n depth : ℕ) (qs : cells.Lambdas) (q : cells.Tree) → n ≡ lang.count_lambdas ls → x1 ≡ x + n →
    depth ≡ length scope → reverse b ≡ scope_with x n (reverse scope) → take (length scope) b ≡ scope → RenamesLambdas ls b c x1 x2 qs → Renames e c d x2 x3 q → final ≡ take depth d →
    Renames (lang.fix ls e) scope final x x3 (cells.fix x qs q)
fix_renames ls e scope b c d final x x1 x2 x3 n depth qs q m f len names kept r s t =
    let inside = scope_with x (lang.count_lambdas ls) (reverse scope) in
    let here : reverse b ≡ inside = names ∙ ap (λ k. scope_with x k (reverse scope)) m in
    let p = r.made ∙ ap (λ z. renamed_lambdas ls z x1) here ∙ ap (renamed_lambdas ls inside) (f ∙ ap (λ k. x + k) m) in
    let then : x2 ≡ x + lang.count_lambdas ls + binds_lambdas ls = omega (arith, f, m, r.next) in
    let w = s.made ∙ ap (λ z. renamed e (reverse z) x2) r.scope ∙ ap (λ z. renamed e z x2) here ∙ ap (renamed e inside) then in
    record {
      made = ap (λ u. cells.fix x u q) p ∙ ap (λ u. cells.fix x (renamed_lambdas ls inside (x + lang.count_lambdas ls)) u) w;
      next = omega (arith, then, s.next);
      scope = restored scope b d final depth kept (s.scope ∙ r.scope) len t;
    }

pub rec_renames : (site : ℕ) (es : lang.Expressions) (e : lang.Expression) (scope b c d final : List ℕ) (x x1 x2 x3 n depth : ℕ) (qs : Trees) (q : cells.Tree) → n ≡ count es → x1 ≡ x + n →
    depth ≡ length scope → reverse b ≡ scope_with x n (reverse scope) → take (length scope) b ≡ scope → RenamesEach es b c x1 x2 qs → Renames e c d x2 x3 q → final ≡ take depth d →
    Renames (lang.letrec site es e) scope final x x3 (cells.letrec site x qs q)
rec_renames site es e scope b c d final x x1 x2 x3 n depth qs q m f len names kept r s t =
    let inside = scope_with x (count es) (reverse scope) in
    let here : reverse b ≡ inside = names ∙ ap (λ k. scope_with x k (reverse scope)) m in
    let p = r.made ∙ ap (λ z. renamed_each es z x1) here ∙ ap (renamed_each es inside) (f ∙ ap (λ k. x + k) m) in
    let then : x2 ≡ x + count es + binds_each es = omega (arith, f, m, r.next) in
    let w = s.made ∙ ap (λ z. renamed e (reverse z) x2) r.scope ∙ ap (λ z. renamed e z x2) here ∙ ap (renamed e inside) then in
    record {
      made = ap (λ u. cells.letrec site x u q) p ∙ ap (λ u. cells.letrec site x (renamed_each es inside (x + count es)) u) w;
      next = omega (arith, then, s.next);
      scope = restored scope b d final depth kept (s.scope ∙ r.scope) len t;
    }

pub lambda_renames : (f : lang.Function) (scope b c final : List ℕ) (x x2 depth : ℕ) (name : List ℕ) (body : cells.Tree) → depth ≡ length scope → reverse b ≡ scope_with x f.formals (reverse scope) →
    take (length scope) b ≡ scope → Renames f.body b c (x + f.formals) x2 body → final ≡ take depth c → name ≡ f.name →
    RenamesLambda f scope final x x2 (record { name = name; first = x; formals = f.formals; rest = f.rest; body = body })
lambda_renames f scope b c final x x2 depth name body len names kept r t same =
    let w = r.made ∙ ap (λ z. renamed f.body z (x + f.formals)) names in
    record {
      made = rw (same, w) refl;
      next = omega (arith, r.next);
      scope = restored scope b c final depth kept r.scope len t;
    }
