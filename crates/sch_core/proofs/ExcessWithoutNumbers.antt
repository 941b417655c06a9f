-- How many variables an expression has does not depend on the numbers of its globals, sites and literals.
use Rattle.std.proofs.Common.{◌≡◌, ℕ, zero, suc, ◌+◌, Bool, true, false, not, List, [], ◌∷◌, ◌++◌, map, Option, Some, None, length, refl, sym, ap, ◌∙◌}
use Rattle.sch_word.specs.declared.constant.Const.TheVariants.{Nil}
use Rattle.sch_word.specs.trees.Shape.{Procedure}
use Rattle.sch_word.specs.trees.Bindings.{numbers}
use Rattle.sch_lang.specs.Tree.{Expression, Expressions, Lambdas, constant, literal, local, global, set_local, set_global, define, branch, sequence, bind, fix, letrec, lambda, call, operation, no_expressions, and_expression, no_lambdas, and_lambda, count, count_lambdas}
use Rattle.sch_lang.specs.Variables.{free, free_each, free_lambdas, assigns, assigns_each, assigns_lambdas}
use Rattle.sch_lang.specs.Measures.{counts_nothing, onto_assigned, onto_all, bound_count, variables, variables_each, variables_operands, variables_parts, procedure}
use Rattle.sch_variable_counts.specs.Within.{each_procedure, each_procedure_in, each_lambda, has_few_variables, has_few_free}
use Rattle.sch_sketch.specs.Draft as draft
use Rattle.sch_names.specs.Scope.{VariableNames}
use Rattle.sch_sketch.specs.Draft.{Draft, Drafts, no_drafts, and_draft}
use Rattle.sch_link_tables.specs.Assigned.{is_group}
use Rattle.sch_link_tables.specs.Sites.{unless_group, widths, widths_of_each}
use Rattle.sch_link_tables.specs.Quoted.{quotes_in, quotes_in_each}
use Rattle.sch_word.specs.values.Options.{rest_of}
use Rattle.sch_link_tables.specs.Numbered.{numbered, numbered_each, body_name, procedures_of, grouped, first_of}
use Rattle.sch_core.specs.Excess.{excess, first_excess}

-- an expression without those numbers
abbrev mutual
  pub blank : Expression → Expression
  blank (constant c) = constant Nil
  blank (literal n) = constant Nil
  blank (local k) = local k
  blank (global g) = global 0
  blank (set_local k e) = set_local k (blank e)
  blank (set_global g e) = set_global 0 (blank e)
  blank (define g e) = define 0 (blank e)
  blank (branch a b c) = branch (blank a) (blank b) (blank c)
  blank (sequence es) = sequence (blank_each es)
  blank (bind site es e) = bind 0 (blank_each es) (blank e)
  blank (fix ls e) = fix (blank_lambdas ls) (blank e)
  blank (letrec site es e) = letrec 0 (blank_each es) (blank e)
  blank (lambda name formals rest e) = lambda name formals rest (blank e)
  blank (call site f es) = call 0 (blank f) (blank_each es)
  blank (operation site which es) = operation 0 which (blank_each es)

  pub blank_each : Expressions → Expressions
  blank_each no_expressions = no_expressions
  blank_each (and_expression e es) = and_expression (blank e) (blank_each es)

  pub blank_lambdas : Lambdas → Lambdas
  blank_lambdas no_lambdas = no_lambdas
  blank_lambdas (and_lambda name formals rest e ls) = and_lambda name formals rest (blank e) (blank_lambdas ls)

-- ## What is counted

same_count : (es : Expressions) → count (blank_each es) ≡ count es
same_count no_expressions = refl
same_count (and_expression e es) = ap suc (same_count es)

same_lambdas : (ls : Lambdas) → count_lambdas (blank_lambdas ls) ≡ count_lambdas ls
same_lambdas no_lambdas = refl
same_lambdas (and_lambda name formals rest e ls) = ap suc (same_lambdas ls)

mutual
  same_assigns : (e : Expression) (j : ℕ) → assigns (blank e) j ≡ assigns e j
  same_assigns (constant c) j = refl
  same_assigns (literal n) j = refl
  same_assigns (local k) j = refl
  same_assigns (global g) j = refl
  same_assigns (set_local k e) j = rw (same_assigns e j) refl
  same_assigns (set_global g e) j = same_assigns e j
  same_assigns (define g e) j = same_assigns e j
  same_assigns (branch a b c) j = rw (same_assigns a j, same_assigns b j, same_assigns c j) refl
  same_assigns (sequence es) j = same_assigns_each es j
  same_assigns (bind site es e) j = rw (same_count es, same_assigns_each es j, same_assigns e (j + count es)) refl
  same_assigns (fix ls e) j = rw (same_lambdas ls, same_assigns_lambdas ls (j + count_lambdas ls), same_assigns e (j + count_lambdas ls)) refl
  same_assigns (letrec site es e) j = rw (same_count es, same_assigns_each es (j + count es), same_assigns e (j + count es)) refl
  same_assigns (lambda name formals rest e) j = same_assigns e (j + formals)
  same_assigns (call site f es) j = rw (same_assigns f j, same_assigns_each es j) refl
  same_assigns (operation site which es) j = same_assigns_each es j

  same_assigns_each : (es : Expressions) (j : ℕ) → assigns_each (blank_each es) j ≡ assigns_each es j
  same_assigns_each no_expressions j = refl
  same_assigns_each (and_expression e es) j = rw (same_assigns e j, same_assigns_each es j) refl

  same_assigns_lambdas : (ls : Lambdas) (j : ℕ) → assigns_lambdas (blank_lambdas ls) j ≡ assigns_lambdas ls j
  same_assigns_lambdas no_lambdas j = refl
  same_assigns_lambdas (and_lambda name formals rest e ls) j = rw (same_assigns e (j + formals), same_assigns_lambdas ls j) refl

same_bound : (n : ℕ) (e : Expression) → bound_count n (blank e) ≡ bound_count n e
same_bound zero e = refl
same_bound (suc n) e = rw (same_assigns e n, same_bound n e) refl

same_marks : (e : Expression) (js : List ℕ) → map (λ j. not (assigns (blank e) j)) js ≡ map (λ j. not (assigns e j)) js
same_marks e [] = refl
same_marks e (j ∷ js) = rw (same_assigns e j, same_marks e js) refl

same_onto : (n : ℕ) (e : Expression) (once : List Bool) → onto_assigned n (blank e) once ≡ onto_assigned n e once
same_onto n e once = ap (λ marks. marks ++ once) (same_marks e (numbers 0 n))

same_nothing : (e : Expression) (once : List Bool) → counts_nothing (blank e) once ≡ counts_nothing e once
same_nothing (constant c) once = refl
same_nothing (literal n) once = refl
same_nothing (local k) once = refl
same_nothing (global g) once = refl
same_nothing (set_local k e) once = refl
same_nothing (set_global g e) once = refl
same_nothing (define g e) once = refl
same_nothing (branch a b c) once = refl
same_nothing (sequence es) once = refl
same_nothing (bind site es e) once = refl
same_nothing (fix ls e) once = refl
same_nothing (letrec site es e) once = refl
same_nothing (lambda name formals rest e) once = refl
same_nothing (call site f es) once = refl
same_nothing (operation site which es) once = refl

mutual
  same_variables : (e : Expression) (once : List Bool) → variables (blank e) once ≡ variables e once
  same_variables (constant c) once = refl
  same_variables (literal n) once = refl
  same_variables (local k) once = refl
  same_variables (global g) once = refl
  same_variables (set_local k e) once = rw (same_nothing e once, same_variables e once) refl
  same_variables (set_global g e) once = rw (same_nothing e once, same_variables e once) refl
  same_variables (define g e) once = rw (same_nothing e once, same_variables e once) refl
  same_variables (branch a b c) once = rw (same_variables a once, same_variables b once, same_variables c once) refl
  same_variables (sequence es) once = same_parts es once
  same_variables (bind site es e) once =
      rw (same_count es, same_bound (count es) e, same_onto (count es) e once, same_each es once, same_variables e (onto_assigned (count es) e once)) refl
  same_variables (fix ls e) once = rw (same_lambdas ls, same_variables e (onto_all (count_lambdas ls) true once)) refl
  same_variables (letrec site es e) once =
      rw (same_count es, same_each es (onto_all (count es) false once), same_variables e (onto_all (count es) false once)) refl
  same_variables (lambda name formals rest e) once = refl
  same_variables (call site f es) once = rw (same_nothing f once, same_variables f once, same_operands es once) refl
  same_variables (operation site which es) once = same_operands es once

  same_each : (es : Expressions) (once : List Bool) → variables_each (blank_each es) once ≡ variables_each es once
  same_each no_expressions once = refl
  same_each (and_expression e es) once = rw (same_variables e once, same_each es once) refl

  same_operands : (es : Expressions) (once : List Bool) → variables_operands (blank_each es) once ≡ variables_operands es once
  same_operands no_expressions once = refl
  same_operands (and_expression e es) once = rw (same_nothing e once, same_variables e once, same_operands es once) refl

  same_parts : (es : Expressions) (once : List Bool) → variables_parts (blank_each es) once ≡ variables_parts es once
  same_parts no_expressions once = refl
  same_parts (and_expression e no_expressions) once = same_variables e once
  same_parts (and_expression e (and_expression f fs)) once = rw (same_nothing e once, same_variables e once, same_parts (and_expression f fs) once) refl

mutual
  same_free : (e : Expression) → free (blank e) ≡ free e
  same_free (constant c) = refl
  same_free (literal n) = refl
  same_free (local k) = refl
  same_free (global g) = refl
  same_free (set_local k e) = rw (same_free e) refl
  same_free (set_global g e) = same_free e
  same_free (define g e) = same_free e
  same_free (branch a b c) = rw (same_free a, same_free b, same_free c) refl
  same_free (sequence es) = same_free_each es
  same_free (bind site es e) = rw (same_count es, same_free_each es, same_free e) refl
  same_free (fix ls e) = rw (same_lambdas ls, same_free_lambdas ls, same_free e) refl
  same_free (letrec site es e) = rw (same_count es, same_free_each es, same_free e) refl
  same_free (lambda name formals rest e) = rw (same_free e) refl
  same_free (call site f es) = rw (same_free f, same_free_each es) refl
  same_free (operation site which es) = same_free_each es

  same_free_each : (es : Expressions) → free_each (blank_each es) ≡ free_each es
  same_free_each no_expressions = refl
  same_free_each (and_expression e es) = rw (same_free e, same_free_each es) refl

  same_free_lambdas : (ls : Lambdas) → free_lambdas (blank_lambdas ls) ≡ free_lambdas ls
  same_free_lambdas no_lambdas = refl
  same_free_lambdas (and_lambda name formals rest e ls) = rw (same_free e, same_free_lambdas ls) refl

same_procedure : (name : List ℕ) (formals : ℕ) (rest : Bool) (e : Expression) → procedure name formals rest (blank e) ≡ procedure name formals rest e
same_procedure name formals rest e =
    rw (same_free e, same_bound formals e, same_onto formals e [], same_variables e (onto_assigned formals e [])) refl

module _ (test : Procedure → Bool) where
  mutual
    same_tests : (e : Expression) → each_procedure test (blank e) ≡ each_procedure test e
    same_tests (constant c) = refl
    same_tests (literal n) = refl
    same_tests (local k) = refl
    same_tests (global g) = refl
    same_tests (set_local k e) = same_tests e
    same_tests (set_global g e) = same_tests e
    same_tests (define g e) = same_tests e
    same_tests (branch a b c) = rw (same_tests a, same_tests b, same_tests c) refl
    same_tests (sequence es) = same_tests_in es
    same_tests (bind site es e) = rw (same_tests_in es, same_tests e) refl
    same_tests (fix ls e) = rw (same_tests_lambdas ls, same_tests e) refl
    same_tests (letrec site es e) = rw (same_tests_in es, same_tests e) refl
    same_tests (lambda name formals rest e) = rw (ap test (same_procedure name formals rest e), same_tests e) refl
    same_tests (call site f es) = rw (same_tests f, same_tests_in es) refl
    same_tests (operation site which es) = same_tests_in es

    same_tests_in : (es : Expressions) → each_procedure_in test (blank_each es) ≡ each_procedure_in test es
    same_tests_in no_expressions = refl
    same_tests_in (and_expression e es) = rw (same_tests e, same_tests_in es) refl

    same_tests_lambdas : (ls : Lambdas) → each_lambda test (blank_lambdas ls) ≡ each_lambda test ls
    same_tests_lambdas no_lambdas = refl
    same_tests_lambdas (and_lambda name formals rest e ls) = rw (ap test (same_procedure name formals rest e), same_tests e, same_tests_lambdas ls) refl

pub same_excess : (formals : ℕ) (e : Expression) → excess formals (blank e) ≡ excess formals e
same_excess formals e =
    rw (ap has_few_variables (same_procedure [] formals false e), ap has_few_free (same_procedure [] formals false e), same_tests has_few_variables e, same_tests has_few_free e) refl

-- ## What is numbered

blank_procedures : (es : Expressions) → blank_lambdas (procedures_of es) ≡ procedures_of (blank_each es)
blank_procedures no_expressions = refl
blank_procedures (and_expression (constant c) es) = rw (blank_procedures es) refl
blank_procedures (and_expression (literal n) es) = rw (blank_procedures es) refl
blank_procedures (and_expression (local k) es) = rw (blank_procedures es) refl
blank_procedures (and_expression (global g) es) = rw (blank_procedures es) refl
blank_procedures (and_expression (set_local k e) es) = rw (blank_procedures es) refl
blank_procedures (and_expression (set_global g e) es) = rw (blank_procedures es) refl
blank_procedures (and_expression (define g e) es) = rw (blank_procedures es) refl
blank_procedures (and_expression (branch a b c) es) = rw (blank_procedures es) refl
blank_procedures (and_expression (sequence xs) es) = rw (blank_procedures es) refl
blank_procedures (and_expression (bind site xs e) es) = rw (blank_procedures es) refl
blank_procedures (and_expression (fix ls e) es) = rw (blank_procedures es) refl
blank_procedures (and_expression (letrec site xs e) es) = rw (blank_procedures es) refl
blank_procedures (and_expression (lambda name formals rest e) es) = rw (blank_procedures es) refl
blank_procedures (and_expression (call site f xs) es) = rw (blank_procedures es) refl
blank_procedures (and_expression (operation site which xs) es) = rw (blank_procedures es) refl

blank_grouped : (g : Bool) (s s' : ℕ) (es es' : Expressions) (e e' : Expression) → blank_each es ≡ blank_each es' → blank e ≡ blank e' → blank (grouped g s es e) ≡ blank (grouped g s' es' e')
blank_grouped true s s' es es' e e' h k = rw (blank_procedures es, blank_procedures es', h, k) refl
blank_grouped false s s' es es' e e' h k = rw (h, k) refl

module _ (own globals symbols own' globals' symbols' : List (List ℕ)) where
  mutual
    pub alike : (v : Option (List ℕ)) (e : Draft) (s l s' l' : ℕ) → blank (numbered own globals symbols v e s l) ≡ blank (numbered own' globals' symbols' v e s' l')
    alike v (draft.constant c) s l s' l' = refl
    alike v (draft.symbol x) s l s' l' = refl
    alike v (draft.literal d) s l s' l' = refl
    alike v (draft.local k) s l s' l' = refl
    alike v (draft.global x) s l s' l' = refl
    alike v (draft.set_local k e) s l s' l' = ap (set_local k) (alike None e s l s' l')
    alike v (draft.set_global x e) s l s' l' = ap (set_global 0) (alike None e s l s' l')
    alike v (draft.define x e) s l s' l' = ap (define 0) (alike (Some x) e s l s' l')
    alike v (draft.branch a b c) s l s' l' =
        let i = alike None a s l s' l' in
        let j = alike None b (s + length (widths a)) (l + length (quotes_in a)) (s' + length (widths a)) (l' + length (quotes_in a)) in
        let k = alike None c (s + length (widths a) + length (widths b)) (l + length (quotes_in a) + length (quotes_in b))
        (s' + length (widths a) + length (widths b)) (l' + length (quotes_in a) + length (quotes_in b)) in
        λ p. branch (i p) (j p) (k p)
    alike v (draft.sequence es) s l s' l' = ap sequence (alike_each [] es s l s' l')
    alike v (draft.bind vs es e) s l s' l' =
        let i = alike_each vs es (s + 1) l (s' + 1) l' in
        let j = alike None e (s + 1 + length (widths_of_each es)) (l + length (quotes_in_each es)) (s' + 1 + length (widths_of_each es)) (l' + length (quotes_in_each es)) in
        λ p. bind 0 (i p) (j p)
    alike v (draft.letrec vs g es e) s l s' l' =
        let n = length (unless_group (is_group g es e) (draft.count es)) in
        blank_grouped (is_group g es e) s s' _ _ _ _ (alike_each vs es (s + n) l (s' + n) l')
        (alike None e (s + n + length (widths_of_each es)) (l + length (quotes_in_each es)) (s' + n + length (widths_of_each es)) (l' + length (quotes_in_each es)))
    alike v (draft.lambda n r e) s l s' l' = ap (lambda (body_name v) n r) (alike None e s l s' l')
    alike v (draft.call vs f es) s l s' l' =
        let i = alike None f (s + 1) l (s' + 1) l' in
        let j = alike_each vs es (s + 1 + length (widths f)) (l + length (quotes_in f)) (s' + 1 + length (widths f)) (l' + length (quotes_in f)) in
        λ p. call 0 (i p) (j p)
    alike v (draft.operation q es) s l s' l' = ap (operation 0 q) (alike_each [] es (s + 1) l (s' + 1) l')

    pub alike_each : (vs : VariableNames) (es : Drafts) (s l s' l' : ℕ) → blank_each (numbered_each own globals symbols vs es s l) ≡ blank_each (numbered_each own' globals' symbols' vs es s' l')
    alike_each vs no_drafts s l s' l' = refl
    alike_each vs (and_draft e es) s l s' l' =
        let i = alike (first_of vs) e s l s' l' in
        let j = alike_each (rest_of vs) es (s + length (widths e)) (l + length (quotes_in e)) (s' + length (widths e)) (l' + length (quotes_in e)) in
        λ p. and_expression (i p) (j p)

-- ## The first form that has too much

first_blank : (places : List ℕ) (es : Expressions) → first_excess places (blank_each es) ≡ first_excess places es
first_blank [] es = refl
first_blank (at ∷ places) no_expressions = refl
first_blank (at ∷ places) (and_expression e es) = rw (same_excess 0 e, first_blank places es) refl

pub first_alike : (places : List ℕ) (xs ys : Expressions) → blank_each xs ≡ blank_each ys → first_excess places xs ≡ first_excess places ys
first_alike places xs ys h = sym (first_blank places xs) ∙ ap (first_excess places) h ∙ first_blank places ys
