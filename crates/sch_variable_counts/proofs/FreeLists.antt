-- The turns of the loops that find free variables.
use Rattle.std.proofs.Common.{◌≡◌, ℕ, zero, suc, ◌+◌, ◌-◌, ◌<◌, ◌≤◌, Bool, true, false, List, [], ◌∷◌, ◌++◌, length, reverse, drop, take, get_or, refl, sym, ap, ◌∙◌, arith, add-one, append_assoc}
use Rattle.std.specs.Prelude.{nat_lt, nat_le, ◌&&◌}
use Rattle.std.proofs.lemmas.Bool.{ltb-true, ltb-false}
use Rattle.std.proofs.lemmas.List.{reverse-append, drop_all, get_or_default, length-reverse}
use Rattle.std.proofs.Math.Seq.{take-length}
use Rattle.sch_word.specs.trees.NumberSets.{union}
use Rattle.sch_word.proofs.Walking.{next_left}
use Rattle.sch_word.proofs.facts.Booleans.{and_true, and_and}
use Rattle.sch_word.proofs.facts.Lists.{reverse_cons, turn_back}
use Rattle.sch_lang.specs.declared.tree.Exp.{Exp}
use Rattle.sch_lang.specs.declared.tree.Lambda.{Lambda}
use Rattle.sch_lang.specs.Tree.{Expression}
use Rattle.sch_lang.specs.Variables.{free, outside, outside_one}
use Rattle.sch_lang.specs.Measures.{procedure}
use Rattle.sch_word.specs.trees.Shape.{Procedure, max_free_variables}
use Rattle.sch_variable_counts.specs.Within.{few_free, each_procedure, each_procedure_in, each_lambda}
use Rattle.sch_lang.specs.View.{expression, expressions_of, lambdas_of}
use Rattle.sch_lang.proofs.ListViews.{left, left_lambdas}
use Rattle.sch_variable_counts.specs.Walked.{found, found_each, found_lambdas}
use Rattle.sch_variable_counts.proofs.FreeFound.{found_alone}
use Rattle.sch_variable_counts.proofs.ListsLeft.{whole, whole_lambdas}

-- ## Variables seen from outside

outside_one_append : (ps qs : List ℕ) → outside_one (ps ++ qs) ≡ outside_one ps ++ outside_one qs
outside_one_append [] qs = refl
outside_one_append (zero ∷ ps) qs = outside_one_append ps qs
outside_one_append (suc x ∷ ps) qs = ap (λ l. x ∷ l) (outside_one_append ps qs)

pub outside_append : (n : ℕ) (ps qs : List ℕ) → outside n (ps ++ qs) ≡ outside n ps ++ outside n qs
outside_append zero ps qs = refl
outside_append (suc n) ps qs = ap outside_one (outside_append n ps qs) ∙ outside_one_append (outside n ps) (outside n qs)

outside_none : (n : ℕ) → outside n [] ≡ []
outside_none zero = refl
outside_none (suc n) = ap outside_one (outside_none n)

outside_beyond : (n k : ℕ) → outside n ((n + k) ∷ []) ≡ k ∷ []
outside_beyond zero k =
    let e : 0 + k ≡ k = omega arith in
    rw e refl
outside_beyond (suc n) k =
    let e : suc n + k ≡ n + suc k = omega arith in
    ap (λ x. outside_one (outside n (x ∷ []))) e ∙ ap outside_one (outside_beyond n (suc k))

pub outside_far : (n x : ℕ) → n ≤ x → outside n (x ∷ []) ≡ (x - n) ∷ []
outside_far n x l =
    let e : n + (x - n) ≡ x = omega (arith, l) in
    ap (λ y. outside n (y ∷ [])) (sym e) ∙ outside_beyond n (x - n)

-- one that is bound inside
outside_bound : (n x : ℕ) → x < n → outside n (x ∷ []) ≡ []
outside_bound zero x l = absurd (omega (arith, l))
outside_bound (suc n) x l = go (nat_lt x n) refl (λ h. outside_bound n x h)
  where
    go : (b : Bool) → nat_lt x n ≡ b → (x < n → outside n (x ∷ []) ≡ []) → outside_one (outside n (x ∷ [])) ≡ []
    go true e f = ap outside_one (f (ltb-true x n e))
    go false e f =
        let h : x ≡ n + 0 = omega (arith, l, ltb-false x n e) in
        ap (λ y. outside_one (outside n (y ∷ []))) h ∙ ap outside_one (outside_beyond n 0)

turn : (n : ℕ) (xs : List ℕ) (i x : ℕ) (ys whole : List ℕ) → i < length xs → x ≡ get_or xs i x → outside n (reverse (drop i xs)) ++ reverse ys ≡ whole → outside n (reverse (drop (suc i) xs)) ++ (outside n (x ∷ []) ++ reverse ys) ≡ whole
turn n xs i x ys whole l is k =
    sym (append_assoc (outside n (reverse (drop (suc i) xs))) (outside n (x ∷ [])) (reverse ys))
    ∙ ap (λ r. r ++ reverse ys) (sym (outside_append n (reverse (drop (suc i) xs)) (x ∷ [])))
    ∙ ap (λ r. outside n r ++ reverse ys) (sym (reverse_cons x (drop (suc i) xs)))
    ∙ next_left xs i (λ r. outside n (reverse r) ++ reverse ys ≡ whole) x l is k

pub goes_outside : (n : ℕ) (xs : List ℕ) (i y : ℕ) (ys ys' whole : List ℕ) → i < length xs → n ≤ get_or xs i 0 → y ≡ get_or xs i 0 - n → ys' ≡ ys ++ y ∷ [] →
    outside n (reverse (drop i xs)) ++ reverse ys ≡ whole → outside n (reverse (drop (i + 1) xs)) ++ reverse ys' ≡ whole
goes_outside n xs i y ys ys' whole l g e h k =
    let x = get_or xs i 0 in
    let t = rw (outside_far n x g) at (turn n xs i x ys whole l (get_or_default xs i 0 x l) k) in
    rw (h, e, add-one, reverse-append ys ((x - n) ∷ [])) t

pub stays_inside : (n : ℕ) (xs : List ℕ) (i : ℕ) (ys ys' whole : List ℕ) → i < length xs → get_or xs i 0 < n → ys' ≡ ys →
    outside n (reverse (drop i xs)) ++ reverse ys ≡ whole → outside n (reverse (drop (i + 1) xs)) ++ reverse ys' ≡ whole
stays_inside n xs i ys ys' whole l g h k =
    let x = get_or xs i 0 in
    let t = rw (outside_bound n x g) at (turn n xs i x ys whole l (get_or_default xs i 0 x l) k) in
    rw (h, add-one) t

pub none_inside : (n : ℕ) (xs : List ℕ) (i : ℕ) (ys whole : List ℕ) → length xs ≤ i → outside n (reverse (drop i xs)) ++ reverse ys ≡ whole → reverse ys ≡ whole
none_inside n xs i ys whole l k = let k' = rw (drop_all i xs l, outside_none n) at k in k'

-- ## From the last to the first

each_last : (ps : List Exp) (e : Exp) (xs : List ℕ) → found_each (left (ps ++ e ∷ [])) xs ≡ found_each (left ps) (found (expression e) xs)
each_last [] e xs = refl
each_last (a ∷ ps) e xs = ap (found (expression a)) (each_last ps e xs)

-- what a lambda adds
abbrev pub found_lambda : Lambda → List ℕ → List ℕ
found_lambda l xs = union (outside l.formals (found (expression l.body) [])) xs

lambdas_last : (ps : List Lambda) (e : Lambda) (xs : List ℕ) → found_lambdas (left_lambdas (ps ++ e ∷ [])) xs ≡ found_lambdas (left_lambdas ps) (found_lambda e xs)
lambdas_last [] e xs = refl
lambdas_last (a ∷ ps) e xs = ap (found_lambda a) (lambdas_last ps e xs)

few_last : (test : Procedure → Bool) (ps : List Exp) (e : Exp) (b : Bool) → (each_procedure_in test (left (ps ++ e ∷ [])) && b) ≡ (each_procedure_in test (left ps) && (each_procedure test (expression e) && b))
few_last test [] e b = ap (λ x. x && b) (and_true (each_procedure test (expression e)))
few_last test (a ∷ ps) e b = and_and (each_procedure test (expression a)) _ b ∙ ap (λ x. each_procedure test (expression a) && x) (few_last test ps e b) ∙ sym (and_and (each_procedure test (expression a)) _ _)

few_of : (test : Procedure → Bool) → Lambda → Bool
few_of test e = test (procedure e.name e.formals e.rest (expression e.body)) && each_procedure test (expression e.body)

lambdas_few_last : (test : Procedure → Bool) (ps : List Lambda) (e : Lambda) (b : Bool) → (each_lambda test (left_lambdas (ps ++ e ∷ [])) && b) ≡ (each_lambda test (left_lambdas ps) && (few_of test e && b))
unfolding few_of
lambdas_few_last test [] e b = ap (λ x. x && b) (and_true (few_of test e))
lambdas_few_last test (a ∷ ps) e b =
    and_and (few_of test a) _ b ∙ ap (λ x. few_of test a && x) (lambdas_few_last test ps e b) ∙ sym (and_and (few_of test a) _ _)

pub each_turn : (items : List Exp) (n : ℕ) (a : Exp) (r r' whole : List ℕ) → 0 < n → n ≤ length items → a ≡ get_or items (n - 1) a → r' ≡ found (expression a) r → found_each (left (take n items)) r ≡ whole → found_each (left (take (n - 1) items)) r' ≡ whole
each_turn = turn_back (λ ps r. found_each (left ps) r) (λ a r. found (expression a) r) each_last

pub lambdas_turn : (items : List Lambda) (n : ℕ) (a : Lambda) (r r' whole : List ℕ) → 0 < n → n ≤ length items → a ≡ get_or items (n - 1) a → r' ≡ found_lambda a r → found_lambdas (left_lambdas (take n items)) r ≡ whole → found_lambdas (left_lambdas (take (n - 1) items)) r' ≡ whole
lambdas_turn = turn_back (λ ps r. found_lambdas (left_lambdas ps) r) found_lambda lambdas_last

pub few_turn : (test : Procedure → Bool) (items : List Exp) (n : ℕ) (a : Exp) (b b' whole : Bool) → 0 < n → n ≤ length items → a ≡ get_or items (n - 1) a → b' ≡ (each_procedure test (expression a) && b) → (each_procedure_in test (left (take n items)) && b) ≡ whole → (each_procedure_in test (left (take (n - 1) items)) && b') ≡ whole
few_turn test = turn_back (λ ps b. each_procedure_in test (left ps) && b) (λ a b. each_procedure test (expression a) && b) (few_last test)

pub lambdas_few_turn : (test : Procedure → Bool) (items : List Lambda) (n : ℕ) (a : Lambda) (b b' whole : Bool) → 0 < n → n ≤ length items → a ≡ get_or items (n - 1) a → b' ≡ ((test (procedure a.name a.formals a.rest (expression a.body)) && each_procedure test (expression a.body)) && b) →
    (each_lambda test (left_lambdas (take n items)) && b) ≡ whole → (each_lambda test (left_lambdas (take (n - 1) items)) && b') ≡ whole
unfolding few_of
lambdas_few_turn test = turn_back (λ ps b. each_lambda test (left_lambdas ps) && b) (λ a b. few_of test a && b) (lambdas_few_last test)

pub each_whole : (items : List Exp) → left (take (length items) items) ≡ expressions_of items
each_whole items = ap left (take-length items) ∙ whole items

pub lambdas_whole : (items : List Lambda) → left_lambdas (take (length items) items) ≡ lambdas_of items
lambdas_whole items = ap left_lambdas (take-length items) ∙ whole_lambdas items

-- the free variables of a procedure are few, and those of the procedures in it
pub few_are : (n : ℕ) (own inside : List ℕ) (e : Expression) (f empty : List ℕ) (few : Bool) → reverse own ≡ outside n (reverse inside) → inside ≡ f → empty ≡ [] → reverse f ≡ found e (reverse empty) → few ≡ few_free e →
    (nat_le (length own) max_free_variables && few) ≡ (nat_le (length (outside n (free e))) max_free_variables && few_free e)
few_are n own inside e f empty few p q z r h =
    let k : length own ≡ length (outside n (free e)) =
    sym (length-reverse own) ∙ ap length p ∙ ap (λ l. length (outside n (reverse l))) q ∙ ap (λ l. length (outside n l)) (r ∙ ap (λ l. found e (reverse l)) z ∙ found_alone e) in
    rw (k, h) refl
