-- What holds of each body that normalizing makes, with the number of variables that its flat body may need, holds so of
-- those of a program.
use Rattle.std.proofs.Common.{◌≡◌, ℕ, ◌-◌, Bool, true, List, [], ◌∷◌, ◌++◌, map, take, drop, refl}
use Rattle.std.proofs.lemmas.List.{drop-map, take-map}
use Rattle.sch_word.proofs.facts.Booleans.{and_of, and_parts}
use Rattle.sch_flat.specs.Tree.{Tree, Trees, Body, Source, no_trees, and_tree}
use Rattle.sch_flat.specs.Measures.{variables, body_variables}
use Rattle.sch_control.specs.Tree.{Code}
use Rattle.sch_control.specs.Sizes.{all_with}
use Rattle.sch_anf_laws.specs.Counted.{in_order, form_variables, most_variables}
use Rattle.sch_anf_laws.specs.Normal.{procedure_code, form_code, normal_bodies, normal_source}

module _ (holds : Code → ℕ → Bool) where
  holds_append : (xs : List Code) (ms : List ℕ) (ys : List Code) (ns : List ℕ) → all_with holds xs ms ≡ true
      → all_with holds ys ns ≡ true → all_with holds (xs ++ ys) (ms ++ ns) ≡ true
  holds_append [] [] ys ns h k = k
  holds_append (x ∷ xs) (m ∷ ms) ys ns h k =
      let parts = and_parts (holds x m) (all_with holds xs ms) h in
      and_of (holds x m) _ parts.0 (holds_append xs ms ys ns parts.1 k)
  holds_append [] (m ∷ ms) ys ns h k = absurd (cc)
  holds_append (x ∷ xs) [] ys ns h k = absurd (cc)

  module _ (starts : List ℕ) (of_body : (b : Body) → holds (procedure_code starts b) (body_variables b) ≡ true)
      (of_form : (e : Tree) → holds (form_code starts e) (variables e) ≡ true) where
    procedures_hold : (bs : List Body) → all_with holds (map (procedure_code starts) bs) (map body_variables bs) ≡ true
    procedures_hold [] = refl
    procedures_hold (b ∷ bs) = and_of (holds (procedure_code starts b) (body_variables b)) _ (of_body b) (procedures_hold bs)

    codes_hold : (forms : Trees) (places : List ℕ) (bodies : List Body) (before : ℕ)
        → all_with holds (normal_bodies starts before bodies forms places)
        (in_order before (map body_variables bodies) (form_variables forms) places) ≡ true
    codes_hold no_trees places bodies before = procedures_hold bodies
    codes_hold (and_tree e es) [] bodies before = and_of (holds (form_code starts e) (variables e)) _ (of_form e) (codes_hold es [] bodies before)
    codes_hold (and_tree e es) (p ∷ places) bodies before =
        rw (take-map body_variables (p - before) bodies, drop-map body_variables (p - before) bodies)
        (holds_append (map (procedure_code starts) (take (p - before) bodies)) (map body_variables (take (p - before) bodies)) _ _
        (procedures_hold (take (p - before) bodies)) (and_of (holds (form_code starts e) (variables e)) _ (of_form e) (codes_hold es places (drop (p - before) bodies) p)))

-- The same of each body of a program.
pub program_holds : (holds : Code → ℕ → Bool) (p : Source) → ((b : Body) → holds (procedure_code p.starts b) (body_variables b) ≡ true)
    → ((e : Tree) → holds (form_code p.starts e) (variables e) ≡ true) → all_with holds (normal_source p).bodies (most_variables p) ≡ true
program_holds holds p of_body of_form = codes_hold holds p.starts of_body of_form p.forms p.starts p.bodies 0
