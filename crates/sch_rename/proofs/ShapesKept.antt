-- Numbering keeps the shape of each node, and so everything that is counted of shapes.
use Rattle.std.proofs.Common.{◌≡◌, ℕ, ◌+◌, List, [], length, refl, ap, arith}
use Rattle.sch_word.specs.trees.Bindings.{scope_with}
use Rattle.sch_word.specs.trees.Shape as shapes
use Rattle.sch_word.specs.trees.Shape.{Shape}
use Rattle.sch_word.proofs.Shaped.{Joins, equal_joins}
use Rattle.sch_lang.specs.Tree.{Expression, Expressions, Lambdas, Source, constant, literal, local, global, set_local, set_global, define, branch, sequence, bind, fix, letrec, lambda, call, operation, no_expressions, and_expression, no_lambdas, and_lambda, count, count_lambdas}
use Rattle.sch_lang.specs.Measures as from
use Rattle.sch_lang.specs.Measures.{shape, one_if_atom, dropped_parts}
use Rattle.sch_cells.specs.Tree as tree
use Rattle.sch_cells.specs.Measures as to
use Rattle.sch_rename.specs.Made.{binds, binds_lambdas, renamed, renamed_each, renamed_lambdas, renamed_source}
use Rattle.sch_lang.specs.InScope.{InScope, EachInScope, LambdasInScope, IsClosed}
use Rattle.sch_rename.proofs.Scopes.{Falls, falls_more, falls_with, inside}
use Rattle.sch_rename.proofs.FreeKept.{counts, counts_lambdas}
use Rattle.sch_rename.proofs.BodiesKept.{procedure_kept, procedures_kept}

-- A measure of the answer's nodes is related to a measure of the argument's, where it is so at each node.
module _ {A : Type 0} {R : A → A → Type 0} {nothing : A} {join : A → A → A} (joins : Joins R nothing join) (here : Expression → A) (here' : tree.Tree → A)
    (node : (e : Expression) (s : List ℕ) (x : ℕ) → Falls s x → InScope e (length s) → R (here e) (here' (renamed e s x))) where
  mutual
    pub over_kept : (e : Expression) (s : List ℕ) (x : ℕ) → Falls s x → InScope e (length s) → R (from.over nothing join here e) (to.over nothing join here' (renamed e s x))
    over_kept (constant c) s x f i = node (constant c) s x f i
    over_kept (literal n) s x f i = node (literal n) s x f i
    over_kept (local k) s x f i = node (local k) s x f i
    over_kept (global g) s x f i = node (global g) s x f i
    over_kept (set_local k e) s x f i = joins.joined _ _ _ _ (node (set_local k e) s x f i) (over_kept e s x f i.1)
    over_kept (set_global g e) s x f i = joins.joined _ _ _ _ (node (set_global g e) s x f i) (over_kept e s x f i)
    over_kept (define g e) s x f i = joins.joined _ _ _ _ (node (define g e) s x f i) (over_kept e s x f i)
    over_kept (branch a b c) s x f i =
        joins.joined _ _ _ _ (node (branch a b c) s x f i) (joins.joined _ _ _ _ (over_kept a s x f i.0)
        (joins.joined _ _ _ _ (over_kept b s _ (falls_more s x _ (omega arith) f) i.1.0) (over_kept c s _ (falls_more s x _ (omega arith) f) i.1.1)))
    over_kept (sequence es) s x f i = joins.joined _ _ _ _ (node (sequence es) s x f i) (each_kept es s x f i)
    over_kept (bind site es e) s x f i =
        let m = count es in
        joins.joined _ _ _ _ (node (bind site es e) s x f i) (joins.joined _ _ _ _ (each_kept es s (x + m) (falls_more s x _ (omega arith) f) i.0)
        (over_kept e (scope_with x m s) _ (falls_more _ (x + m) _ (omega arith) (falls_with x m s f)) (inside x m s (InScope e) i.1)))
    over_kept (fix ls e) s x f i =
        let m = count_lambdas ls in
        joins.joined _ _ _ _ (node (fix ls e) s x f i) (joins.joined _ _ _ _ (lambdas_kept ls (scope_with x m s) (x + m) (falls_with x m s f) (inside x m s (LambdasInScope ls) i.0))
        (over_kept e (scope_with x m s) _ (falls_more _ (x + m) _ (omega arith) (falls_with x m s f)) (inside x m s (InScope e) i.1)))
    over_kept (letrec site es e) s x f i =
        let m = count es in
        joins.joined _ _ _ _ (node (letrec site es e) s x f i) (joins.joined _ _ _ _ (each_kept es (scope_with x m s) (x + m) (falls_with x m s f) (inside x m s (EachInScope es) i.0))
        (over_kept e (scope_with x m s) _ (falls_more _ (x + m) _ (omega arith) (falls_with x m s f)) (inside x m s (InScope e) i.1)))
    over_kept (lambda name m rest e) s x f i =
        joins.joined _ _ _ _ (node (lambda name m rest e) s x f i) (over_kept e (scope_with x m s) (x + m) (falls_with x m s f) (inside x m s (InScope e) i))
    over_kept (call site g es) s x f i =
        joins.joined _ _ _ _ (node (call site g es) s x f i) (joins.joined _ _ _ _ (over_kept g s x f i.0) (each_kept es s _ (falls_more s x _ (omega arith) f) i.1))
    over_kept (operation site which es) s x f i = joins.joined _ _ _ _ (node (operation site which es) s x f i) (each_kept es s x f i)

    pub each_kept : (es : Expressions) (s : List ℕ) (x : ℕ) → Falls s x → EachInScope es (length s) → R (from.over_each nothing join here es) (to.over_each nothing join here' (renamed_each es s x))
    each_kept no_expressions s x f i = joins.empty
    each_kept (and_expression e es) s x f i = joins.joined _ _ _ _ (over_kept e s x f i.0) (each_kept es s _ (falls_more s x _ (omega arith) f) i.1)

    pub lambdas_kept : (ls : Lambdas) (s : List ℕ) (x : ℕ) → Falls s x → LambdasInScope ls (length s) → R (from.over_lambdas nothing join here ls) (to.over_lambdas nothing join here' (renamed_lambdas ls s x))
    lambdas_kept no_lambdas s x f i = joins.empty
    lambdas_kept (and_lambda name m rest e ls) s x f i =
        joins.joined _ _ _ _ (over_kept e (scope_with x m s) (x + m) (falls_with x m s f) (inside x m s (InScope e) i.0)) (lambdas_kept ls s _ (falls_more s x _ (omega arith) f) i.1)

  pub source_kept : (p : Source) → IsClosed p → R (from.over_source nothing join here p) (to.over_source nothing join here' (renamed_source p))
  source_kept p c = joins.joined _ _ _ _ (lambdas_kept p.library [] 0 tt c.library) (each_kept p.forms [] _ tt c.forms)

atom_kept : (e : Expression) (s : List ℕ) (x : ℕ) → to.one_if_atom (renamed e s x) ≡ one_if_atom e
atom_kept (constant c) s x = refl
atom_kept (literal n) s x = refl
atom_kept (local k) s x = refl
atom_kept (global g) s x = refl
atom_kept (set_local k e) s x = refl
atom_kept (set_global g e) s x = refl
atom_kept (define g e) s x = refl
atom_kept (branch a b c) s x = refl
atom_kept (sequence es) s x = refl
atom_kept (bind site es e) s x = refl
atom_kept (fix ls e) s x = refl
atom_kept (letrec site es e) s x = refl
atom_kept (lambda name m rest e) s x = refl
atom_kept (call site g es) s x = refl
atom_kept (operation site which es) s x = refl

pub dropped_kept : (es : Expressions) (s : List ℕ) (x : ℕ) → to.dropped_parts (renamed_each es s x) ≡ dropped_parts es
dropped_kept no_expressions s x = refl
dropped_kept (and_expression e no_expressions) s x = refl
dropped_kept (and_expression e (and_expression e' es)) s x = rw (atom_kept e s x, dropped_kept (and_expression e' es) s (x + binds e)) refl

pub shape_kept : (e : Expression) (s : List ℕ) (x : ℕ) → Falls s x → InScope e (length s) → to.shape (renamed e s x) ≡ shape e
shape_kept (constant c) s x f i = refl
shape_kept (literal n) s x f i = refl
shape_kept (local k) s x f i = refl
shape_kept (global g) s x f i = refl
shape_kept (set_local k e) s x f i = refl
shape_kept (set_global g e) s x f i = refl
shape_kept (define g e) s x f i = refl
shape_kept (branch a b c) s x f i = refl
shape_kept (sequence es) s x f i = rw (counts es s x, dropped_kept es s x) refl
shape_kept (bind site es e) s x f i = rw (counts es s (x + count es)) refl
shape_kept (fix ls e) s x f i =
    let m = count_lambdas ls in
    rw (counts_lambdas ls (scope_with x m s) (x + m), procedures_kept ls (scope_with x m s) (x + m) (falls_with x m s f) (inside x m s (LambdasInScope ls) i.0)) refl
shape_kept (letrec site es e) s x f i = rw (counts es (scope_with x (count es) s) (x + count es)) refl
shape_kept (lambda name m rest e) s x f i = ap shapes.lambda (procedure_kept name m rest e s x f i)
shape_kept (call site g es) s x f i = rw (counts es s (x + binds g)) refl
shape_kept (operation site which es) s x f i = rw (counts es s x) refl

-- any measure of shapes is the same over the whole program
pub measure_kept : {A : Type 0} (nothing : A) (join : A → A → A) (m : Shape → A) (p : Source) → IsClosed p →
    to.over_source nothing join (λ e. m (to.shape e)) (renamed_source p) ≡ from.over_source nothing join (λ e. m (shape e)) p
measure_kept nothing join m p c =
    source_kept (equal_joins nothing join) (λ e. m (shape e)) (λ e. m (to.shape e)) (λ e s x f h. ap m (shape_kept e s x f h)) p c

pub size_kept : (p : Source) → IsClosed p → to.program_size (renamed_source p) ≡ from.program_size p
size_kept p c =
    rw (procedures_kept p.library [] 0 tt c.library, counts p.forms [] (binds_lambdas p.library), measure_kept 0 (λ a b. a + b) shapes.size_of p c) refl
