-- Walks that count and take marks, one after another, over plain values.
use Rattle.std.proofs.Common.{◌≡◌, ℕ, suc, ◌+◌, ◌<◌, ◌≤◌, Bool, true, false, List, [], length, reverse, drop, get_or, refl, sym, ap, ◌∙◌, subst, arith, add-one}
use Rattle.std.specs.Prelude.{◌&&◌, nat_le}
use Rattle.std.proofs.lemmas.Bool.Decides.{nat_tests}
use Rattle.sch_word.specs.trees.Shape.{max_variables}
use Rattle.sch_word.proofs.facts.Booleans.{and_and, and_true}
use Rattle.std.specs.declared.alloc.Global.{Global}
use Rattle.std.specs.declared.boxed.Box.{Box}
use Rattle.sch_lang.specs.declared.tree.Exp.{Exp}
use Rattle.sch_lang.specs.declared.tree.Exp.TheVariants as code
use Rattle.sch_lang.specs.declared.tree.Lambda.{Lambda}
use Rattle.sch_lang.specs.Tree.{Expression, Expressions, Lambdas, bind, fix, letrec, call, no_expressions, and_expression, count, count_lambdas}
use Rattle.sch_lang.specs.Variables.{assigns}
use Rattle.sch_word.specs.trees.VariableCounts.{three_each, one_unless}
use Rattle.sch_lang.specs.Measures.{bound_count, body_variables, onto_all, onto_assigned, counts_nothing, variables, variables_each, variables_operands}
use Rattle.sch_lang.specs.View.{expression, expressions_of, lambdas_of}
use Rattle.sch_lang.proofs.ListViews.{left, left_lambdas}
use Rattle.sch_variable_counts.proofs.ListsLeft.{next_expression, next_lambda, no_expression, no_lambda, whole, whole_lambdas}
use Rattle.sch_variable_counts.specs.declared.counting.Counted.{Counted}
use Rattle.sch_variable_counts.specs.Counts.{Counts}
use Rattle.sch_variable_counts.specs.Walked.{capped, marks_of, marks_in, marks_in_each, marks_in_lambdas, Takes}
use Rattle.sch_variable_counts.specs.Within.{has_few_variables, each_procedure_in, each_lambda, few_variables}

-- ## Sums

pub sum_counts : {a b r : Counted} {A B : ℕ} {p q : Bool} → Counts a A p → Counts b B q → r.variables ≡ capped (a.variables + b.variables) → r.few ≡ (a.few && b.few) → Counts r (A + B) (p && q)
sum_counts {a} {b} {r} {A} {B} x y v f =
    let x0 : a.variables ≡ capped A = x.variables_are in
    let y0 : b.variables ≡ capped B = y.variables_are in
    record { variables_are = omega (arith, x0, y0, v); few_is = rw (sym x.few_is, sym y.few_is) f }

pub with_counts : (n N : ℕ) {a r : Counted} {A : ℕ} {p : Bool} → n ≡ capped N → Counts a A p → r.variables ≡ capped (n + a.variables) → r.few ≡ a.few → Counts r (N + A) p
with_counts n N {a} {r} {A} h x v f =
    let x0 : a.variables ≡ capped A = x.variables_are in
    record { variables_are = omega (arith, h, x0, v); few_is = f ∙ x.few_is }

module _ {marks marks' : List Bool → List Bool} {m0 m1 m2 : List Bool} where
  pub sum_taken : {a b r : Counted} {A B : ℕ} {p q : Bool} → Takes marks m0 m1 (Counts a A p) → Takes marks' m1 m2 (Counts b B q) → r.variables ≡ capped (a.variables + b.variables) → r.few ≡ (a.few && b.few) →
      Takes (λ rest. marks (marks' rest)) m0 m2 (Counts r (A + B) (p && q))
  sum_taken x y v f = record { taken = λ rest h. let i = x.taken (marks' rest) h in let j = y.taken rest i.0 in (j.0, sum_counts i.1 j.1 v f) }

module _ {marks : List Bool → List Bool} {m0 m1 : List Bool} where
  pub with_taken : (n N : ℕ) {a r : Counted} {A : ℕ} {p : Bool} → n ≡ capped N → Takes marks m0 m1 (Counts a A p) → r.variables ≡ capped (n + a.variables) → r.few ≡ a.few → Takes marks m0 m1 (Counts r (N + A) p)
  with_taken n N k x v f = record { taken = λ rest h. let i = x.taken rest h in (i.0, with_counts n N k i.1 v f) }

  -- with what is said of the variables as they stood before
  pub at_once : (F : List Bool → ℕ) {n : Counted} {few : Bool} {once start : List Bool} → once ≡ start → Takes marks m0 m1 (Counts n (F (reverse once)) few) → Takes marks m0 m1 (Counts n (F (reverse start)) few)
  at_once F {n} {few} e x = subst (λ o. Takes marks m0 m1 (Counts n (F (reverse o)) few)) e x

  pub counts_as : {n : Counted} {few few' : Bool} {A B : ℕ} → A ≡ B → few ≡ few' → Takes marks m0 m1 (Counts n A few) → Takes marks m0 m1 (Counts n B few')
  counts_as {n} {few} {few'} {A} {B} e f x = subst (λ b. Takes marks m0 m1 (Counts n B b)) f (subst (λ a. Takes marks m0 m1 (Counts n a few)) e x)

-- ## Bindings

module _ (E : Expression) (n : ℕ) (once0 once1 once2 : List Bool) {m0 m1 m2 : List Bool} {bound : ℕ} {inside w : Counted} {few : Bool} where
  -- a body under variables that are marked
  pub under_taken : Takes (marks_of n (assigns E)) m0 m1 (bound ≡ capped (bound_count n E)) → Takes (marks_of n (assigns E)) m0 m1 (reverse once2 ≡ onto_assigned n E (reverse once1)) → once1 ≡ once0 →
      Takes (marks_in E) m1 m2 (Counts inside (variables E (reverse once2)) few) → w.variables ≡ capped (bound + inside.variables) → w.few ≡ inside.few →
      Takes (λ rest. marks_of n (assigns E) (marks_in E rest)) m0 m2 (Counts w (bound_count n E + variables E (onto_assigned n E (reverse once0))) few)
  under_taken b o e i v f = record {
    taken = λ rest h.
        let x = b.taken (marks_in E rest) h in
        let y = o.taken (marks_in E rest) h in
        let z = i.taken rest x.0 in
        let k : reverse once2 ≡ onto_assigned n E (reverse once0) = y.1 ∙ ap (λ l. onto_assigned n E (reverse l)) e in
        (z.0, with_counts bound (bound_count n E) x.1 (subst (λ l. Counts inside (variables E l) few) k z.1) v f);
  }

-- a `let`, with its inits first
pub let_taken : (es : Expressions) (E : Expression) (site n : ℕ) (once0 : List Bool) {m0 m1 m2 : List Bool} {first w r : Counted} {few : Bool} → n ≡ count es →
    Takes (marks_in_each es) m0 m1 (Counts first (variables_each es (reverse once0)) few) →
    Takes (λ rest. marks_of n (assigns E) (marks_in E rest)) m1 m2 (Counts w (bound_count n E + variables E (onto_assigned n E (reverse once0))) (few_variables E)) →
    r.variables ≡ capped (first.variables + w.variables) → r.few ≡ (first.few && w.few) → few ≡ each_procedure_in has_few_variables es →
    Takes (marks_in (bind site es E)) m0 m2 (Counts r (variables (bind site es E) (reverse once0)) (few_variables (bind site es E)))
let_taken es E site n once0 {m0 = m0} {m1} {m2} {first} {w} {r} h x y v f k =
    let y' = subst (λ m. Takes (λ rest. marks_of m (assigns E) (marks_in E rest)) m1 m2 (Counts w (bound_count m E + variables E (onto_assigned m E (reverse once0))) (few_variables E))) h y in
    subst (λ b. Takes (marks_in (bind site es E)) m0 m2 (Counts r (variables (bind site es E) (reverse once0)) (b && few_variables E))) k (sum_taken x y' v f)

-- ## One after another

-- what a loop keeps: the marks of what is left are on the stack, and what is counted and what is left is the whole
pub record Turn (marks_left marks_all : List Bool → List Bool) (start now : List Bool) (left all : ℕ) (few_left few_all : Bool) (total : Counted) : Type 0 where
  pub turned : (rest : List Bool) → reverse start ≡ marks_all rest → (reverse now ≡ marks_left rest) × (capped (total.variables + left) ≡ capped all) × ((total.few && few_left) ≡ few_all)

pub first_turn : {marks : List Bool → List Bool} {start : List Bool} {n : ℕ} {few : Bool} {total : Counted} → total.variables ≡ 0 → total.few ≡ true → Turn marks marks start start n n few few total
first_turn {n = n} {few} {total} v f = record { turned = λ rest h. (h, rw v (ap capped (omega arith)), ap (λ b. b && few) f) }

pub next_turn : {marks marks_left marks_all : List Bool → List Bool} {start now now' : List Bool} {cost left all : ℕ} {few few_left few_all : Bool} {total here total' : Counted} →
    Turn (λ rest. marks (marks_left rest)) marks_all start now (cost + left) all (few && few_left) few_all total → Takes marks now now' (Counts here cost few) →
    total'.variables ≡ capped (total.variables + here.variables) → total'.few ≡ (total.few && here.few) → Turn marks_left marks_all start now' left all few_left few_all total'
next_turn {marks_left = marks_left} {cost = cost} {left} {all} {few} {few_left} {few_all} {total} {here} t x v f = record {
  turned = λ rest h.
      let a = t.turned rest h in
      let b = x.taken (marks_left rest) a.0 in
      let c : here.variables ≡ capped cost = b.1.variables_are in
      let d : capped (total.variables + (cost + left)) ≡ capped all = a.1 in
      (b.0, omega (arith, c, d, v), rw (f, b.1.few_is) (and_and total.few few few_left ∙ a.2));
}

pub end_turn : {marks_all : List Bool → List Bool} {start now : List Bool} {all : ℕ} {few_all : Bool} {total : Counted} → total.variables ≡ capped total.variables →
    Turn (λ rest. rest) marks_all start now 0 all true few_all total → Takes marks_all start now (Counts total all few_all)
end_turn {all = all} {total = total} s t = record {
  taken = λ rest h.
      let a = t.turned rest h in
      let b : capped (total.variables + 0) ≡ capped all = a.1 in
      (a.0, record { variables_are = omega (arith, s, b); few_is = sym (and_true total.few) ∙ a.2 });
}

-- ## Lists of expressions

abbrev pub EachTurn : (F : Expressions → ℕ) → (es whole : Expressions) → (start now : List Bool) → Counted → Type 0
EachTurn F es whole start now total =
    Turn (marks_in_each es) (marks_in_each whole) start now (F es) (F whole) (each_procedure_in has_few_variables es) (each_procedure_in has_few_variables whole) total

module _ (F : Expressions → ℕ) (items : List Exp) {start : List Bool} where
  pub each_init : {total : Counted} → total.variables ≡ 0 → total.few ≡ true → EachTurn F (left items) (expressions_of items) start start total
  each_init {total} v f = subst (λ es. EachTurn F es (expressions_of items) start start total) (sym (whole items)) (first_turn v f)

  pub each_next : (i : ℕ) (e : Exp) (cost : ℕ) {now now' : List Bool} {total here total' : Counted} → i < length items → e ≡ get_or items i e →
      F (and_expression (expression e) (left (drop (suc i) items))) ≡ cost + F (left (drop (suc i) items)) →
      EachTurn F (left (drop i items)) (expressions_of items) start now total → Takes (marks_in (expression e)) now now' (Counts here cost (few_variables (expression e))) →
      total'.variables ≡ capped (total.variables + here.variables) → total'.few ≡ (total.few && here.few) → EachTurn F (left (drop (i + 1) items)) (expressions_of items) start now' total'
  each_next i e cost {now} {total = total} l is k t x v f =
      let es = left (drop (suc i) items) in
      let t' = subst (λ es. EachTurn F es (expressions_of items) start now total) (next_expression items i e l is) t in
      let t'' = subst (λ n. Turn (λ rest. marks_in (expression e) (marks_in_each es rest)) (marks_in_each (expressions_of items)) start now n (F (expressions_of items)) (few_variables (expression e) && each_procedure_in has_few_variables es) (each_procedure_in has_few_variables (expressions_of items)) total) k t' in
      rw add-one (next_turn {cost = cost} t'' x v f)

  pub each_end : (i : ℕ) {now : List Bool} {total : Counted} → F no_expressions ≡ 0 → length items ≤ i → total.variables ≡ capped total.variables → EachTurn F (left (drop i items)) (expressions_of items) start now total →
      Takes (marks_in_each (expressions_of items)) start now (Counts total (F (expressions_of items)) (each_procedure_in has_few_variables (expressions_of items)))
  each_end i {now} {total} z l s t =
      let t' = subst (λ es. EachTurn F es (expressions_of items) start now total) (no_expression items i l) t in
      let t'' = subst (λ n. Turn (λ rest. rest) (marks_in_each (expressions_of items)) start now n (F (expressions_of items)) true (each_procedure_in has_few_variables (expressions_of items)) total) z t' in
      end_turn s t''

  -- the same, of the list that was walked
  pub each_taken : (es : List Exp) (i : ℕ) {now : List Bool} {total : Counted} → items ≡ es → F no_expressions ≡ 0 → length items ≤ i → total.variables ≡ capped total.variables → EachTurn F (left (drop i items)) (expressions_of items) start now total →
      Takes (marks_in_each (expressions_of es)) start now (Counts total (F (expressions_of es)) (each_procedure_in has_few_variables (expressions_of es)))
  each_taken es i {now} {total} e z l s t =
      subst (λ xs. Takes (marks_in_each (expressions_of xs)) start now (Counts total (F (expressions_of xs)) (each_procedure_in has_few_variables (expressions_of xs)))) e (each_end i z l s t)

-- ## Groups

module _ (E : Expression) (n : ℕ) (once0 once1 : List Bool) {inside : Counted} where
  pub fix_taken : (ls : Lambdas) {m0 m1 m2 : List Bool} {few : Bool} {w r : Counted} → n ≡ count_lambdas ls → Takes (marks_in_lambdas ls) m0 m1 (few ≡ each_lambda has_few_variables ls) →
      reverse once1 ≡ onto_all n true (reverse once0) → Takes (marks_in E) m1 m2 (Counts inside (variables E (reverse once1)) (few_variables E)) →
      w.variables ≡ capped (n + inside.variables) → w.few ≡ inside.few → r.variables ≡ capped (0 + w.variables) → r.few ≡ (few && w.few) →
      Takes (marks_in (fix ls E)) m0 m2 (Counts r (variables (fix ls E) (reverse once0)) (few_variables (fix ls E)))
  fix_taken ls {few = few} {w} {r} h x o y v f v' f' = record {
    taken = λ rest g.
        let a = x.taken (marks_in E rest) g in
        let b = y.taken rest a.0 in
        let k : reverse once1 ≡ onto_all (count_lambdas ls) true (reverse once0) = o ∙ ap (λ m. onto_all m true (reverse once0)) h in
        let c : inside.variables ≡ capped (variables E (onto_all (count_lambdas ls) true (reverse once0))) = b.1.variables_are ∙ ap (λ l. capped (variables E l)) k in
        let d : r.variables ≡ capped (count_lambdas ls + variables E (onto_all (count_lambdas ls) true (reverse once0))) = omega (arith, c, v, v', h) in
        let few_is : r.few ≡ (each_lambda has_few_variables ls && few_variables E) = rw (sym a.1, sym b.1.few_is, sym f) f' in
        (b.0, record { variables_are = d; few_is = few_is });
  }

  pub rec_taken : (es : Expressions) (site threes : ℕ) (once2 : List Bool) {m0 m1 m2 : List Bool} {first both r : Counted} → n ≡ count es → threes ≡ capped (three_each n) →
      reverse once1 ≡ onto_all n false (reverse once0) → Takes (marks_in_each es) m0 m1 (Counts first (variables_each es (reverse once1)) (each_procedure_in has_few_variables es)) → once2 ≡ once1 →
      Takes (marks_in E) m1 m2 (Counts inside (variables E (reverse once2)) (few_variables E)) →
      both.variables ≡ capped (first.variables + inside.variables) → both.few ≡ (first.few && inside.few) → r.variables ≡ capped (threes + both.variables) → r.few ≡ both.few →
      Takes (marks_in (letrec site es E)) m0 m2 (Counts r (variables (letrec site es E) (reverse once0)) (few_variables (letrec site es E)))
  rec_taken es site threes once2 {first = first} {both} {r} h s o x e y v f v' f' = record {
    taken = λ rest g.
        let a = x.taken (marks_in E rest) g in
        let b = y.taken rest a.0 in
        let k : reverse once1 ≡ onto_all (count es) false (reverse once0) = o ∙ ap (λ m. onto_all m false (reverse once0)) h in
        let c : first.variables ≡ capped (variables_each es (onto_all (count es) false (reverse once0))) = a.1.variables_are ∙ ap (λ l. capped (variables_each es l)) k in
        let d : inside.variables ≡ capped (variables E (onto_all (count es) false (reverse once0))) = b.1.variables_are ∙ ap (λ l. capped (variables E l)) (ap reverse e ∙ k) in
        let t : threes ≡ capped (three_each (count es)) = s ∙ ap (λ m. capped (three_each m)) h in
        let all : r.variables ≡ capped (three_each (count es) + (variables_each es (onto_all (count es) false (reverse once0)) + variables E (onto_all (count es) false (reverse once0)))) = omega (arith, c, d, t, v, v') in
        let few_is : r.few ≡ (each_procedure_in has_few_variables es && few_variables E) = f' ∙ rw (sym a.1.few_is, sym b.1.few_is) f in
        (b.0, record { variables_are = all; few_is = few_is });
  }

-- ## Procedures

few_is_capped : (n N : ℕ) → n ≡ capped N → nat_le n max_variables ≡ nat_le N max_variables
few_is_capped n N e = grind (arith, nat_tests)

pub body_taken : (E : Expression) (n : ℕ) {once0 : List Bool} {m0 m1 : List Bool} {w : Counted} {few : Bool} → once0 ≡ [] →
    Takes (λ rest. marks_of n (assigns E) (marks_in E rest)) m0 m1 (Counts w (bound_count n E + variables E (onto_assigned n E (reverse once0))) (few_variables E)) → few ≡ (nat_le w.variables max_variables && w.few) →
    Takes (λ rest. marks_of n (assigns E) (marks_in E rest)) m0 m1 (few ≡ (nat_le (body_variables n E) max_variables && few_variables E))
body_taken E n {w = w} z x f = record {
  taken = λ rest h.
      let a = x.taken rest h in
      let k : w.variables ≡ capped (body_variables n E) = a.1.variables_are ∙ ap (λ l. capped (bound_count n E + variables E (onto_assigned n E (reverse l)))) z in
      (a.0, rw (sym (few_is_capped w.variables (body_variables n E) k), sym a.1.few_is) f);
}

abbrev only : Bool → Counted
only b = record { variables = 0; few = b }

abbrev pub LambdasTurn : (ls whole : Lambdas) → (start now : List Bool) → Bool → Type 0
LambdasTurn ls whole start now few = Turn (marks_in_lambdas ls) (marks_in_lambdas whole) start now 0 0 (each_lambda has_few_variables ls) (each_lambda has_few_variables whole) (only few)

abbrev pub few_of : Lambda → Bool
few_of l = nat_le (body_variables l.formals (expression l.body)) max_variables && few_variables (expression l.body)

module _ (items : List Lambda) {start : List Bool} where
  pub lambdas_init : LambdasTurn (left_lambdas items) (lambdas_of items) start start true
  lambdas_init = subst (λ ls. LambdasTurn ls (lambdas_of items) start start true) (sym (whole_lambdas items)) (first_turn refl refl)

  pub lambdas_next : (i : ℕ) (l : Lambda) {now now' : List Bool} {few here few' : Bool} → i < length items → l ≡ get_or items i l → LambdasTurn (left_lambdas (drop i items)) (lambdas_of items) start now few →
      Takes (λ rest. marks_of l.formals (assigns (expression l.body)) (marks_in (expression l.body) rest)) now now' (here ≡ few_of l) → few' ≡ (few && here) →
      LambdasTurn (left_lambdas (drop (i + 1) items)) (lambdas_of items) start now' few'
  lambdas_next i l {now} {now'} {few} {here} lt is t x f =
      let t' = subst (λ ls. LambdasTurn ls (lambdas_of items) start now few) (next_lambda items i l lt is) t in
      let one : Takes (λ rest. marks_of l.formals (assigns (expression l.body)) (marks_in (expression l.body) rest)) now now' (Counts (only here) 0 (few_of l)) = record { taken = λ rest h. let a = x.taken rest h in (a.0, record { variables_are = refl; few_is = a.1 }) } in
      rw add-one (next_turn {cost = 0} {here = only here} t' one refl f)

  pub lambdas_end : (i : ℕ) {now : List Bool} {few : Bool} → length items ≤ i → LambdasTurn (left_lambdas (drop i items)) (lambdas_of items) start now few →
      Takes (marks_in_lambdas (lambdas_of items)) start now (few ≡ each_lambda has_few_variables (lambdas_of items))
  lambdas_end i {now} {few} lt t =
      let t' = subst (λ ls. LambdasTurn ls (lambdas_of items) start now few) (no_lambda items i lt) t in
      let z : (only few).variables ≡ capped (only few).variables = omega arith in
      let e = end_turn z t' in
      record { taken = λ rest h. let a = e.taken rest h in (a.0, a.1.few_is) }

  pub lambdas_taken : (ls : List Lambda) (i : ℕ) {now : List Bool} {few : Bool} → items ≡ ls → length items ≤ i → LambdasTurn (left_lambdas (drop i items)) (lambdas_of items) start now few →
      Takes (marks_in_lambdas (lambdas_of ls)) start now (few ≡ each_lambda has_few_variables (lambdas_of ls))
  lambdas_taken ls i {now} {few} e lt t = subst (λ xs. Takes (marks_in_lambdas (lambdas_of xs)) start now (few ≡ each_lambda has_few_variables (lambdas_of xs))) e (lambdas_end i lt t)

-- a call, with its operator first
pub call_taken : (F : Expression) (es : Expressions) (site : ℕ) (once : List Bool) {m0 m1 m2 : List Bool} {first others r : Counted} →
    Takes (marks_in F) m0 m1 (Counts first (one_unless (counts_nothing F once) + variables F once) (few_variables F)) →
    Takes (marks_in_each es) m1 m2 (Counts others (variables_operands es once) (each_procedure_in has_few_variables es)) →
    r.variables ≡ capped (first.variables + others.variables) → r.few ≡ (first.few && others.few) →
    Takes (marks_in (call site F es)) m0 m2 (Counts r (variables (call site F es) once) (few_variables (call site F es)))
call_taken F es site once x y v f =
    let e : (one_unless (counts_nothing F once) + variables F once) + variables_operands es once ≡ one_unless (counts_nothing F once) + (variables F once + variables_operands es once) = omega arith in
    counts_as e refl (sum_taken x y v f)

-- a lambda in a body
pub lambda_taken : {e : Exp} (l : Box Lambda Global) (x y : Lambda) (once : List Bool) {m0 m1 : List Bool} {few : Bool} → e ≡ code.Lambda l → x ≡ l.value → y ≡ l.value →
    Takes (λ rest. marks_of x.formals (assigns (expression y.body)) (marks_in (expression y.body) rest)) m0 m1 (few ≡ (nat_le (body_variables x.formals (expression y.body)) max_variables && few_variables (expression y.body))) →
    Takes (marks_in (expression e)) m0 m1 (Counts (record { variables = 0; few = few }) (variables (expression e) once) (few_variables (expression e)))
lambda_taken l x y once {m0} {m1} {few} h p q t =
    let t1 = subst (λ z. Takes (λ rest. marks_of z.formals (assigns (expression y.body)) (marks_in (expression y.body) rest)) m0 m1 (few ≡ (nat_le (body_variables z.formals (expression y.body)) max_variables && few_variables (expression y.body)))) p t in
    let t2 = subst (λ z. Takes (λ rest. marks_of l.value.formals (assigns (expression z.body)) (marks_in (expression z.body) rest)) m0 m1 (few ≡ (nat_le (body_variables l.value.formals (expression z.body)) max_variables && few_variables (expression z.body)))) q t1 in
    rw h (record { taken = λ rest g. let a = t2.taken rest g in (a.0, record { variables_are = refl; few_is = a.1 }) })
