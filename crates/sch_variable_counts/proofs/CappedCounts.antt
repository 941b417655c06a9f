-- Counts that go no further than past the limit, over plain values.
use Rattle.std.proofs.Common.{◌≡◌, ℕ, zero, suc, ◌+◌, ◌-◌, ◌*◌, ◌<◌, ◌≤◌, Bool, true, false, not, cond, nat_eq, List, [], ◌∷◌, ◌++◌, length, map, reverse, drop, refl, sym, ap, ◌∙◌, subst, arith, length-append}
use Rattle.std.proofs.lemmas.List.{reverse-append}
use Rattle.std.proofs.lemmas.Bool.Decides.{nat_tests}
use Rattle.sch_word.proofs.facts.NumberTests.{below_differs}
use Rattle.sch_word.specs.trees.Bindings.{numbers}
use Rattle.sch_lang.specs.declared.tree.Exp.{Exp}
use Rattle.sch_lang.specs.Tree.{Expression, Expressions, no_expressions, and_expression}
use Rattle.sch_lang.specs.Variables.{assigns}
use Rattle.sch_lang.specs.View.{expression}
use Rattle.sch_word.specs.trees.VariableCounts.{one_unless, twice_if, three_each}
use Rattle.sch_lang.specs.Measures.{counts_nothing, bound_count, onto_all, onto_assigned, variables, variables_operands, variables_parts}
use Rattle.sch_lang.proofs.ListViews.{left}
use Rattle.sch_variable_counts.specs.Walked.{capped, marks_of}

pub three_is : (n : ℕ) → three_each n ≡ n * 3
three_is zero = refl
three_is (suc n) = omega (arith, three_is n)

pub two_counts : {x y r : ℕ} (X Y : ℕ) → x ≡ capped X → y ≡ capped Y → r ≡ capped (x + y) → r ≡ capped (X + Y)
two_counts X Y p q h = omega (arith, p, q, h)

pub three_counts : {x y z t r : ℕ} (X Y Z : ℕ) → x ≡ capped X → y ≡ capped Y → z ≡ capped Z → t ≡ capped (y + z) → r ≡ capped (x + t) → r ≡ capped (X + (Y + Z))
three_counts X Y Z p q s h k = omega (arith, p, q, s, h, k)

pub one_capped : (b : Bool) → one_unless b ≡ capped (one_unless b)
one_capped true = refl
one_capped false = refl

-- ## Variables that are bound

pub all_step : (each : Bool) (xs : List Bool) (n : ℕ) (r : List Bool) → 0 < n → onto_all n each (reverse xs) ≡ r → onto_all (n - 1) each (reverse (xs ++ each ∷ [])) ≡ r
all_step each xs n r l h =
    let p : n ≡ suc (n - 1) = omega (arith, l) in
    let h' : onto_all (suc (n - 1)) each (reverse xs) ≡ r = subst (λ m. onto_all m each (reverse xs) ≡ r) p h in
    rw (reverse-append xs (each ∷ [])) (inner (n - 1) (reverse xs) ∙ h')
  where
    inner : (n : ℕ) (once : List Bool) → onto_all n each (each ∷ once) ≡ each ∷ onto_all n each once
    inner zero once = refl
    inner (suc n) once = ap (λ l. each ∷ l) (inner n once)

module _ (E : Expression) where
  pub bound_step : (n total t r : ℕ) → 0 < n → t ≡ capped (total + twice_if (assigns E (n - 1))) → capped (total + bound_count n E) ≡ r → capped (t + bound_count (n - 1) E) ≡ r
  bound_step n total t r l e h =
      let p : n ≡ suc (n - 1) = omega (arith, l) in
      let h' : capped (total + (twice_if (assigns E (n - 1)) + bound_count (n - 1) E)) ≡ r = subst (λ m. capped (total + bound_count m E) ≡ r) p h in
      omega (arith, e, h')

  pub bound_end : (n total r : ℕ) → n ≤ 0 → total ≡ capped total → capped (total + bound_count n E) ≡ capped r → total ≡ capped r
  bound_end n total r l c h =
      let z : n ≡ 0 = omega (arith, l) in
      let h' : capped (total + 0) ≡ capped r = subst (λ m. capped (total + bound_count m E) ≡ capped r) z h in
      omega (arith, c, h')

abbrev once_from : Expression → (from count : ℕ) → List Bool
once_from E from count = map (λ j. not (assigns E j)) (numbers from count)

pub once_step : (E : Expression) (n count : ℕ) (xs init : List Bool) (mark b : Bool) → 0 < n → n ≤ count → mark ≡ assigns E (n - 1) → b ≡ not mark → once_from E n (count - n) ++ reverse init ≡ reverse xs →
    once_from E (n - 1) (count - (n - 1)) ++ reverse init ≡ reverse (xs ++ b ∷ [])
once_step E n count xs init mark b l g m e h =
    let p : n ≡ suc (n - 1) = omega (arith, l) in
    let q : count - (n - 1) ≡ suc (count - n) = omega (arith, l, g) in
    let h' : once_from E (suc (n - 1)) (count - n) ++ reverse init ≡ reverse xs = subst (λ k. once_from E k (count - n) ++ reverse init ≡ reverse xs) p h in
    rw (q, reverse-append xs (b ∷ []), e, m) (ap (λ r. not (assigns E (n - 1)) ∷ r) h')

-- what a loop that binds variables keeps
pub record Bound (E : Expression) (n left total : ℕ) (rest init marks once : List Bool) : Type 0 where
  pub marks_are : reverse marks ≡ marks_of left (assigns E) rest
  pub total_is : capped (total + bound_count left E) ≡ capped (bound_count n E)
  pub once_are : once_from E left (n - left) ++ reverse init ≡ reverse once

pub bound_turn : (E : Expression) (n left total total' : ℕ) (rest init ms ms' once once' : List Bool) (mark : Bool) → 0 < left → left ≤ n → ms ≡ ms' ++ mark ∷ [] →
    total' ≡ capped (total + twice_if mark) → once' ≡ once ++ not mark ∷ [] → Bound E n left total rest init ms once → Bound E n (left - 1) total' rest init ms' once'
bound_turn E n left total total' rest init ms ms' once once' mark l g e v h k =
    let p : left ≡ suc (left - 1) = omega (arith, l) in
    let r : mark ∷ reverse ms' ≡ assigns E (left - 1) ∷ marks_of (left - 1) (assigns E) rest =
    sym (reverse-append ms' (mark ∷ [])) ∙ ap reverse (sym e) ∙ k.marks_are ∙ ap (λ m. marks_of m (assigns E) rest) p in
    let mark_is : mark ≡ assigns E (left - 1) = cc in
    let marks_are : reverse ms' ≡ marks_of (left - 1) (assigns E) rest = cc in
    record {
      marks_are = marks_are;
      total_is = bound_step E left total total' (capped (bound_count n E)) l (v ∙ ap (λ b. capped (total + twice_if b)) mark_is) k.total_is;
      once_are = once_step E left n once init mark (not mark) l g mark_is refl k.once_are ∙ ap reverse (sym h);
    }

pub bound_start : (E : Expression) (n : ℕ) (rest init marks : List Bool) → reverse marks ≡ marks_of n (assigns E) rest → Bound E n n 0 rest init marks init
bound_start E n rest init marks h =
    let z : n - n ≡ 0 = omega arith in
    record { marks_are = h; total_is = ap capped (omega arith); once_are = ap (λ k. once_from E n k ++ reverse init) z }

module _ (E : Expression) (n left total : ℕ) (rest init marks once : List Bool) (none : left ≤ 0) (k : Bound E n left total rest init marks once) where
  no_more : left ≡ 0
  no_more = omega (arith, none)

  pub bound_rest : reverse marks ≡ rest
  bound_rest = k.marks_are ∙ ap (λ m. marks_of m (assigns E) rest) no_more

  pub bound_total : total ≡ capped total → total ≡ capped (bound_count n E)
  bound_total s = bound_end E left total (bound_count n E) none s k.total_is

  pub bound_once_all : reverse once ≡ onto_assigned n E (reverse init)
  bound_once_all =
      let z : n - left ≡ n = omega (arith, none) in
      sym k.once_are ∙ ap (λ m. once_from E m (n - left) ++ reverse init) no_more ∙ ap (λ m. once_from E 0 m ++ reverse init) z

-- ## The parts of a sequence

is_none : Expressions → Bool
is_none no_expressions = true
is_none (and_expression e es) = false

part_cost : (e : Expression) (es : Expressions) (once : List Bool) → variables_parts (and_expression e es) once ≡ (cond (is_none es) 0 (one_unless (counts_nothing e once)) + variables e once) + variables_parts es once
unfolding is_none
part_cost e no_expressions once = omega arith
part_cost e (and_expression e' es) once = omega arith

eq_next : (a b : ℕ) → nat_eq (suc a + 1) (suc b) ≡ nat_eq (a + 1) b
eq_next a b = grind (arith, nat_tests)

last_is : (es : List Exp) (i : ℕ) → i < length es → is_none (left (drop (suc i) es)) ≡ nat_eq (i + 1) (length es)
unfolding is_none
last_is [] i l = absurd (omega arith)
last_is (x ∷ []) zero l = refl
last_is (x ∷ y ∷ xs) zero l = sym (below_differs 1 (length (x ∷ y ∷ xs)) (omega arith))
last_is (x ∷ xs) (suc i) l = last_is xs i (omega arith) ∙ sym (eq_next i (length xs))

pub part_taken : (es : List Exp) (i : ℕ) (e : Exp) (once : List Bool) → i < length es →
    variables_parts (and_expression (expression e) (left (drop (suc i) es))) once ≡
    (cond (nat_eq (i + 1) (length es)) 0 (one_unless (counts_nothing (expression e) once)) + variables (expression e) once) + variables_parts (left (drop (suc i) es)) once
part_taken es i e once l =
    part_cost (expression e) (left (drop (suc i) es)) once
    ∙ ap (λ x. (cond x 0 (one_unless (counts_nothing (expression e) once)) + variables (expression e) once) + variables_parts (left (drop (suc i) es)) once) (last_is es i l)

pub operand_taken : (e : Expression) (es : Expressions) (once : List Bool) → variables_operands (and_expression e es) once ≡ (one_unless (counts_nothing e once) + variables e once) + variables_operands es once
operand_taken e es once = omega arith

capped_twice : (n : ℕ) → capped n ≡ capped (capped n)
capped_twice n = omega arith

pub sum_small : (t n : ℕ) → t ≡ capped n → t ≡ capped t
sum_small t n e = e ∙ capped_twice n ∙ ap capped (sym e)

pub pushed_longer : (xs : List Bool) (b : Bool) (m : ℕ) → m ≤ length xs → m ≤ length (xs ++ b ∷ [])
pushed_longer xs b m l = omega (arith, l, length-append xs (b ∷ []))
