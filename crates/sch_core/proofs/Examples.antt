-- Worked rows: the limits on variables and on free variables, 1,000 each, and the first form that has more; names and drafts of
-- definitions.
use Rattle.std.proofs.Common.{◌≡◌, ℕ, zero, suc, [], ◌∷◌, Option, Some, None, true, false, refl}
use Rattle.sch_word.specs.declared.constant.Const.TheVariants.{Nil}
use Rattle.sch_lang.specs.Tree.{Expressions, constant, lambda, local, sequence, no_expressions, and_expression}
use Rattle.sch_core.specs.declared.error.Kind.{Kind}
use Rattle.sch_core.specs.declared.error.Kind.TheVariants.{Free, Variables}
use Rattle.sch_sketch.specs.Draft as draft
use Rattle.sch_link_tables.specs.Programs.{Definition}
use Rattle.sch_core.specs.Excess.{first_definition_excess}
use Rattle.sch_core.specs.Excess.{excess, first_excess}
use Rattle.sch_core.specs.LibraryDefinitions.{AreNamedProcedures}
use Rattle.sch_core.specs.SmallDefinitions.{is_small}

most_variables : excess 1000 (constant Nil) ≡ None
most_variables = refl

one_more_variable : excess 1001 (constant Nil) ≡ Some Variables
one_more_variable = refl

-- n variables, each nearer than the one before it
variables_down : ℕ → Expressions
variables_down zero = no_expressions
variables_down (suc n) = and_expression (local n) (variables_down n)

-- Of the parts of a sequence that are free variables each but the last counts as a variable. With one free variable too many
-- there are as many variables as there may be; with two there is one too many, which is said before the free ones.
most_free : excess 0 (sequence (variables_down 1000)) ≡ None
unfolding variables_down
most_free = refl

one_more_free : excess 0 (sequence (variables_down 1001)) ≡ Some Free
unfolding variables_down
one_more_free = refl

variables_before_free : excess 0 (sequence (variables_down 1002)) ≡ Some Variables
unfolding variables_down
variables_before_free = refl

-- the second form, which stands at 7, is the first with too many
second_form : ◌≡◌ {A = Option (Kind × ℕ)}
    (first_excess (3 ∷ 7 ∷ 9 ∷ []) (and_expression (constant Nil)
    (and_expression (lambda [] 1001 false (constant Nil)) (and_expression (lambda [] 1002 false (constant Nil)) no_expressions))))
    (Some (Variables, 7))
second_form = refl

-- the same of definitions
constant_of : ℕ → Definition
constant_of n = record { name = []; formals = n; rest = false; body = draft.constant Nil }

second_definition : ◌≡◌ {A = Option (Kind × ℕ)} (first_definition_excess (3 ∷ 7 ∷ 9 ∷ []) (constant_of 1000 ∷ constant_of 1001 ∷ constant_of 1002 ∷ [])) (Some (Variables, 7))
unfolding constant_of
second_definition = refl

-- with the procedure and its body a small definition has 333 nodes and bound variables at most
most_small : is_small (constant_of 331) ≡ true
unfolding constant_of
most_small = refl

one_more_small : is_small (constant_of 332) ≡ false
unfolding constant_of
one_more_small = refl

-- a name with the draft of a procedure, a draft that is none, a name that is not there, and a draft too many
named_procedure : AreNamedProcedures (Some [] ∷ []) (draft.lambda 0 false (draft.constant Nil) ∷ [])
named_procedure = (tt, tt)

no_procedure : AreNamedProcedures (Some [] ∷ []) (draft.constant Nil ∷ []) → ⊥
no_procedure h = h.0

no_name : AreNamedProcedures (None ∷ []) (draft.lambda 0 false (draft.constant Nil) ∷ []) → ⊥
no_name h = h

no_more_names : AreNamedProcedures [] (draft.lambda 0 false (draft.constant Nil) ∷ []) → ⊥
no_more_names h = h
