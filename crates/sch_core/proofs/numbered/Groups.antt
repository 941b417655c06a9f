-- A group of procedures is measured as the expressions that it is made of.
use Rattle.std.proofs.Common.{◌≡◌, ◌+◌, ◌&&◌, ◌||◌, ◌++◌, ℕ, suc, max, Bool, true, false, List, [], refl, ap}
use Rattle.std.proofs.lemmas.Bool.{and_from}
use Rattle.sch_word.proofs.facts.Booleans.{and_parts}
use Rattle.sch_word.specs.trees.Shape.{Procedure, max_variables, procedures_fit}
use Rattle.sch_lang.specs.Tree as tree
use Rattle.sch_lang.specs.Tree.{Expression, Expressions, no_expressions, and_expression, count_lambdas}
use Rattle.sch_lang.specs.Variables as variables
use Rattle.sch_lang.specs.Measures.{over, over_each, over_lambdas, levels, levels_each, levels_lambdas, procedure, procedures, site_here}
use Rattle.sch_lang.specs.Valid.{fits_here}
use Rattle.sch_lang.specs.InScope.{in_scope, each_in_scope, lambdas_in_scope}
use Rattle.sch_variable_counts.specs.Within.{each_procedure, each_procedure_in, each_lambda}
use Rattle.sch_names.specs.Scope.{VariableNames}
use Rattle.sch_sketch.specs.Draft.{Draft, Drafts, lambda, no_drafts, and_draft}
use Rattle.sch_link_tables.specs.Assigned.{is_group}
use Rattle.sch_word.specs.values.Options.{rest_of}
use Rattle.sch_link_tables.specs.Numbered.{grouped, numbered_each, procedures_of}
use Rattle.sch_core.specs.SoundDrafts.{AreProcedures, AreProceduresIf}

abbrev pub IsLambda : Expression → Type 0
IsLambda (tree.lambda name n r e) = Unit {0}
IsLambda _ = ⊥

abbrev pub AreLambdas : Expressions → Type 0
AreLambdas no_expressions = Unit {0}
AreLambdas (and_expression e es) = IsLambda e × AreLambdas es

pub count_group : (xs : Expressions) → AreLambdas xs → count_lambdas (procedures_of xs) ≡ tree.count xs
count_group no_expressions h = refl
count_group (and_expression (tree.lambda name n r e) xs) h = ap suc (count_group xs h.1)
count_group (and_expression _ xs) h = absurd h.0

pub scope_group : (xs : Expressions) (m : ℕ) → AreLambdas xs → lambdas_in_scope (procedures_of xs) m ≡ each_in_scope xs m
scope_group no_expressions m h = refl
scope_group (and_expression (tree.lambda name n r e) xs) m h = ap (λ b. in_scope e (m + n) && b) (scope_group xs m h.1)
scope_group (and_expression _ xs) m h = absurd h.0

pub assigns_group : (xs : Expressions) (j : ℕ) → AreLambdas xs → variables.assigns_lambdas (procedures_of xs) j ≡ variables.assigns_each xs j
assigns_group no_expressions j h = refl
assigns_group (and_expression (tree.lambda name n r e) xs) j h = ap (λ b. variables.assigns e (j + n) || b) (assigns_group xs j h.1)
assigns_group (and_expression _ xs) j h = absurd h.0

pub levels_group : (xs : Expressions) → AreLambdas xs → levels_lambdas (procedures_of xs) ≡ levels_each xs
levels_group no_expressions h = refl
levels_group (and_expression (tree.lambda name n r e) xs) h = ap (λ k. max (1 + levels e) k) (levels_group xs h.1)
levels_group (and_expression _ xs) h = absurd h.0

pub sites_group : (xs : Expressions) → AreLambdas xs → over_lambdas [] (λ a b. a ++ b) site_here (procedures_of xs) ≡ over_each [] (λ a b. a ++ b) site_here xs
sites_group no_expressions h = refl
sites_group (and_expression (tree.lambda name n r e) xs) h = ap (λ l. over [] (λ a b. a ++ b) site_here e ++ l) (sites_group xs h.1)
sites_group (and_expression _ xs) h = absurd h.0

pub few_group : (test : Procedure → Bool) (xs : Expressions) → AreLambdas xs → each_lambda test (procedures_of xs) ≡ each_procedure_in test xs
few_group test no_expressions h = refl
few_group test (and_expression (tree.lambda name n r e) xs) h = ap (λ b. (test (procedure name n r e) && each_procedure test e) && b) (few_group test xs h.1)
few_group test (and_expression _ xs) h = absurd h.0

pub holds_group : (here : Expression → Bool) (xs : Expressions) → AreLambdas xs → over_each true (λ a b. a && b) here xs ≡ true → over_lambdas true (λ a b. a && b) here (procedures_of xs) ≡ true
holds_group here no_expressions h k = refl
holds_group here (and_expression (tree.lambda name n r e) xs) h k =
    let a = and_parts _ _ k in and_from _ _ (and_parts _ _ a.0).1 (holds_group here xs h.1 a.1)
holds_group here (and_expression _ xs) h k = absurd h.0

pub fit_group : (xs : Expressions) → AreLambdas xs → over_each true (λ a b. a && b) fits_here xs ≡ true → procedures_fit max_variables (procedures (procedures_of xs)) ≡ true
fit_group no_expressions h k = refl
fit_group (and_expression (tree.lambda name n r e) xs) h k =
    let a = and_parts _ _ k in and_from _ _ (and_parts _ _ a.0).0 (fit_group xs h.1 a.1)
fit_group (and_expression _ xs) h k = absurd h.0

-- a test that each group passes
pub hold_grouped : (here : Expression → Bool) (g : Bool) (xs : Expressions) (x : Expression) (s : ℕ) → (g ≡ true → AreLambdas xs) → here (grouped g s xs x) ≡ true →
    over_each true (λ a b. a && b) here xs ≡ true → over true (λ a b. a && b) here x ≡ true → over true (λ a b. a && b) here (grouped g s xs x) ≡ true
hold_grouped here true xs x s h t p q = and_from _ _ t (and_from _ _ (holds_group here xs (h refl) p) q)
hold_grouped here false xs x s h t p q = and_from _ _ t (and_from _ _ p q)

-- ## The drafts of a group

pub group_procedures : (p : Bool) (es : Drafts) (e : Draft) → AreProceduresIf p es → is_group p es e ≡ true → AreProcedures es
group_procedures true es e h g = h
group_procedures false es e h g = cc

module _ (own globals symbols : List (List ℕ)) where
  pub lambdas_numbered : (es : Drafts) (vs : VariableNames) (s l : ℕ) → AreProcedures es → AreLambdas (numbered_each own globals symbols vs es s l)
  lambdas_numbered no_drafts vs s l h = tt
  lambdas_numbered (and_draft (lambda n r e) es) vs s l h = (tt, lambdas_numbered es (rest_of vs) _ _ h.1)
  lambdas_numbered (and_draft _ es) vs s l h = absurd h.0

  pub group_lambdas : (p : Bool) (es : Drafts) (e : Draft) (vs : VariableNames) (s l : ℕ) → AreProceduresIf p es → is_group p es e ≡ true →
      AreLambdas (numbered_each own globals symbols vs es s l)
  group_lambdas p es e vs s l h g = lambdas_numbered es vs s l (group_procedures p es e h g)
