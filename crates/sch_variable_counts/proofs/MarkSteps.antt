-- The steps of the walk that marks assigned variables, over plain values.
use Rattle.std.proofs.Common.{◌≡◌, ℕ, ◌+◌, ◌-◌, ◌<◌, ◌≤◌, Bool, false, List, [], ◌∷◌, ◌++◌, length, drop, take, get_or, refl, sym, ap, subst, ◌∙◌, arith}
use Rattle.std.specs.Prelude.{◌||◌, nat_eq}
use Rattle.sch_word.proofs.facts.Booleans.{or_or, or_swap}
use Rattle.sch_word.proofs.facts.Lists.{turn_back}
use Rattle.sch_lang.specs.declared.tree.Exp.{Exp}
use Rattle.sch_lang.specs.declared.tree.Lambda.{Lambda}
use Rattle.sch_lang.specs.Measures.{onto_all}
use Rattle.sch_lang.specs.Tree.{Expression, Expressions, Lambdas, set_local, branch, bind, fix, letrec, call, count, count_lambdas}
use Rattle.sch_lang.specs.Variables.{assigns, assigns_each, assigns_lambdas}
use Rattle.sch_lang.specs.View.{expression}
use Rattle.sch_lang.proofs.ListViews.{left, left_lambdas}
use Rattle.sch_variable_counts.specs.Walked.{marks_of, marks_in, marks_in_each, marks_in_lambdas}
use Rattle.sch_word.specs.trees.Assigned.{marked}
use Rattle.sch_variable_counts.proofs.Marks.{group_marked}
use Rattle.sch_word.proofs.facts.AssignedMarks.{marked_none, marked_same, marked_twice, then_marked, before_marked}

-- ## The variables in scope

module _ {e : Expression} (bs : List Bool) {cs ds : List Bool} where
  pub set_marked : {v : Expression} (k : ℕ) → e ≡ set_local k v → cs ≡ marked (λ j. nat_eq k j) 0 bs → ds ≡ marked (assigns v) 0 cs → ds ≡ marked (assigns e) 0 bs
  set_marked {v} k h p q = rw h (then_marked (λ j. nat_eq k j) (assigns v) 0 bs p q)

  pub branch_marked : {a b c : Expression} {xs : List Bool} → e ≡ branch a b c → cs ≡ marked (assigns c) 0 bs → ds ≡ marked (assigns b) 0 cs → xs ≡ marked (assigns a) 0 ds → xs ≡ marked (assigns e) 0 bs
  branch_marked {a} {b} {c} h p q r =
      rw h (before_marked (assigns a) (λ i. assigns b i || assigns c i) 0 bs (before_marked (assigns b) (assigns c) 0 bs p q) r)

  pub bind_marked : {es : Expressions} {b : Expression} (site n : ℕ) → e ≡ bind site es b → n ≡ count es → cs ≡ marked (λ j. assigns b (j + n)) 0 bs → ds ≡ marked (assigns_each es) 0 cs → ds ≡ marked (assigns e) 0 bs
  bind_marked {es} {b} site n h w p q =
      rw h (before_marked (assigns_each es) (λ j. assigns b (j + count es)) 0 bs (subst (λ m. cs ≡ marked (λ j. assigns b (j + m)) 0 bs) w p) q)

  pub fix_marked : {ls : Lambdas} {b : Expression} {xs ys : List Bool} (n : ℕ) → e ≡ fix ls b → n ≡ count_lambdas ls → cs ≡ onto_all n false bs → ds ≡ marked (assigns b) 0 cs → xs ≡ marked (assigns_lambdas ls) 0 ds → ys ≡ drop n xs → ys ≡ marked (assigns e) 0 bs
  fix_marked {ls} {b} {ys = ys} n h w o p q r =
      rw h (subst (λ m. ys ≡ marked (λ j. assigns_lambdas ls (j + m) || assigns b (j + m)) 0 bs) w (group_marked (assigns_lambdas ls) (assigns b) n bs o p q r))

  pub letrec_marked : {es : Expressions} {b : Expression} {xs ys : List Bool} (site n : ℕ) → e ≡ letrec site es b → n ≡ count es → cs ≡ onto_all n false bs → ds ≡ marked (assigns b) 0 cs → xs ≡ marked (assigns_each es) 0 ds → ys ≡ drop n xs → ys ≡ marked (assigns e) 0 bs
  letrec_marked {es} {b} {ys = ys} site n h w o p q r =
      rw h (subst (λ m. ys ≡ marked (λ j. assigns_each es (j + m) || assigns b (j + m)) 0 bs) w (group_marked (assigns_each es) (assigns b) n bs o p q r))

  pub call_marked : {f : Expression} {es : Expressions} (site : ℕ) → e ≡ call site f es → cs ≡ marked (assigns_each es) 0 bs → ds ≡ marked (assigns f) 0 cs → ds ≡ marked (assigns e) 0 bs
  call_marked {f} {es} site h p q = rw h (before_marked (assigns f) (assigns_each es) 0 bs p q)

-- ## From the last to the first

or_between : (a b c : Bool) → (a || (b || c)) ≡ (b || (a || c))
or_between a b c = sym (or_or a b c) ∙ ap (λ x. x || c) (or_swap a b) ∙ or_or b a c

assigns_last : (ps : List Exp) (a : Exp) (j : ℕ) → assigns_each (left (ps ++ a ∷ [])) j ≡ (assigns (expression a) j || assigns_each (left ps) j)
assigns_last [] a j = refl
assigns_last (p ∷ ps) a j = ap (λ b. assigns (expression p) j || b) (assigns_last ps a j) ∙ or_between (assigns (expression p) j) (assigns (expression a) j) (assigns_each (left ps) j)

marked_last : (ps : List Exp) (a : Exp) (bs : List Bool) → marked (assigns_each (left (ps ++ a ∷ []))) 0 bs ≡ marked (assigns_each (left ps)) 0 (marked (assigns (expression a)) 0 bs)
marked_last ps a bs =
    marked_same (assigns_each (left (ps ++ a ∷ []))) (λ j. assigns (expression a) j || assigns_each (left ps) j) 0 bs (assigns_last ps a)
    ∙ sym (marked_twice (assigns (expression a)) (assigns_each (left ps)) 0 bs)

stacked_last : (ps : List Exp) (a : Exp) (bs : List Bool) → marks_in_each (left (ps ++ a ∷ [])) bs ≡ marks_in_each (left ps) (marks_in (expression a) bs)
stacked_last [] a bs = refl
stacked_last (p ∷ ps) a bs = ap (marks_in (expression p)) (stacked_last ps a bs)

-- what a lambda assigns, and its marks
abbrev pub lambda_assigns : Lambda → ℕ → Bool
lambda_assigns l j = assigns (expression l.body) (j + l.formals)

abbrev pub lambda_marks : Lambda → List Bool → List Bool
lambda_marks l bs = marks_of l.formals (assigns (expression l.body)) (marks_in (expression l.body) bs)

lambda_assigns_last : (ps : List Lambda) (a : Lambda) (j : ℕ) → assigns_lambdas (left_lambdas (ps ++ a ∷ [])) j ≡ (lambda_assigns a j || assigns_lambdas (left_lambdas ps) j)
lambda_assigns_last [] a j = refl
lambda_assigns_last (p ∷ ps) a j = ap (λ b. lambda_assigns p j || b) (lambda_assigns_last ps a j) ∙ or_between (lambda_assigns p j) (lambda_assigns a j) (assigns_lambdas (left_lambdas ps) j)

lambda_marked_last : (ps : List Lambda) (a : Lambda) (bs : List Bool) → marked (assigns_lambdas (left_lambdas (ps ++ a ∷ []))) 0 bs ≡ marked (assigns_lambdas (left_lambdas ps)) 0 (marked (lambda_assigns a) 0 bs)
lambda_marked_last ps a bs =
    marked_same (assigns_lambdas (left_lambdas (ps ++ a ∷ []))) (λ j. lambda_assigns a j || assigns_lambdas (left_lambdas ps) j) 0 bs (lambda_assigns_last ps a)
    ∙ sym (marked_twice (lambda_assigns a) (assigns_lambdas (left_lambdas ps)) 0 bs)

lambda_stacked_last : (ps : List Lambda) (a : Lambda) (bs : List Bool) → marks_in_lambdas (left_lambdas (ps ++ a ∷ [])) bs ≡ marks_in_lambdas (left_lambdas ps) (lambda_marks a bs)
lambda_stacked_last [] a bs = refl
lambda_stacked_last (p ∷ ps) a bs = ap (lambda_marks p) (lambda_stacked_last ps a bs)

module _ (n : ℕ) (bs cs all : List Bool) where
  pub marked_turn : (items : List Exp) (a : Exp) → 0 < n → n ≤ length items → a ≡ get_or items (n - 1) a → cs ≡ marked (assigns (expression a)) 0 bs →
      marked (assigns_each (left (take n items))) 0 bs ≡ all → marked (assigns_each (left (take (n - 1) items))) 0 cs ≡ all
  marked_turn items a = turn_back (λ ps r. marked (assigns_each (left ps)) 0 r) (λ p r. marked (assigns (expression p)) 0 r) marked_last items n a bs cs all

  pub stacked_turn : (items : List Exp) (a : Exp) → 0 < n → n ≤ length items → a ≡ get_or items (n - 1) a → cs ≡ marks_in (expression a) bs →
      marks_in_each (left (take n items)) bs ≡ all → marks_in_each (left (take (n - 1) items)) cs ≡ all
  stacked_turn items a = turn_back (λ ps r. marks_in_each (left ps) r) (λ p r. marks_in (expression p) r) stacked_last items n a bs cs all

  pub lambda_marked_turn : (items : List Lambda) (a : Lambda) → 0 < n → n ≤ length items → a ≡ get_or items (n - 1) a → cs ≡ marked (lambda_assigns a) 0 bs →
      marked (assigns_lambdas (left_lambdas (take n items))) 0 bs ≡ all → marked (assigns_lambdas (left_lambdas (take (n - 1) items))) 0 cs ≡ all
  lambda_marked_turn items a = turn_back (λ ps r. marked (assigns_lambdas (left_lambdas ps)) 0 r) (λ p r. marked (lambda_assigns p) 0 r) lambda_marked_last items n a bs cs all

  pub lambda_stacked_turn : (items : List Lambda) (a : Lambda) → 0 < n → n ≤ length items → a ≡ get_or items (n - 1) a → cs ≡ lambda_marks a bs →
      marks_in_lambdas (left_lambdas (take n items)) bs ≡ all → marks_in_lambdas (left_lambdas (take (n - 1) items)) cs ≡ all
  lambda_stacked_turn items a = turn_back (λ ps r. marks_in_lambdas (left_lambdas ps) r) lambda_marks lambda_stacked_last items n a bs cs all

module _ (n : ℕ) (bs all : List Bool) (none : n ≤ 0) where
  end_is : n ≡ 0
  end_is = omega (arith, none)

  pub marked_end : (items : List Exp) → marked (assigns_each (left (take n items))) 0 bs ≡ all → bs ≡ all
  marked_end items k = sym (marked_none 0 bs) ∙ subst (λ m. marked (assigns_each (left (take m items))) 0 bs ≡ all) end_is k

  pub stacked_end : (items : List Exp) → marks_in_each (left (take n items)) bs ≡ all → bs ≡ all
  stacked_end items k = subst (λ m. marks_in_each (left (take m items)) bs ≡ all) end_is k

  pub lambda_marked_end : (items : List Lambda) → marked (assigns_lambdas (left_lambdas (take n items))) 0 bs ≡ all → bs ≡ all
  lambda_marked_end items k = sym (marked_none 0 bs) ∙ subst (λ m. marked (assigns_lambdas (left_lambdas (take m items))) 0 bs ≡ all) end_is k

  pub lambda_stacked_end : (items : List Lambda) → marks_in_lambdas (left_lambdas (take n items)) bs ≡ all → bs ≡ all
  lambda_stacked_end items k = subst (λ m. marks_in_lambdas (left_lambdas (take m items)) bs ≡ all) end_is k
