-- The bodies of a program, each form before the procedures inside it, from its procedures and its forms apart.
use Rattle.std.proofs.Common.{◌≡◌, ℕ, ◌+◌, ◌-◌, List, [], ◌∷◌, ◌++◌, length, map, take, drop, refl, sym, ap, ◌∙◌, arith}
use Rattle.std.proofs.lemmas.List.{drop-map, map-append, take-map}
use Rattle.std.proofs.Math.Seq.{take-append_seam, drop-append_seam}
use Rattle.sch_closure.proofs.AsManyBodies.{bodies_count, lambdas_count}
use Rattle.sch_word.specs.trees.Shape.{Procedure}
use Rattle.sch_cells.specs.Tree.{Trees, Source, no_trees, and_tree}
use Rattle.sch_cells.specs.Bodies.{bodies, bodies_each, bodies_lambdas, bodies_forms, bodies_of, form}
use Rattle.sch_closure.specs.Closed.{procedures, procedures_lambdas, starts}
use Rattle.sch_closure.specs.Kept.{forms_in, procedures_in}
use Rattle.sch_anf_laws.specs.Counted.{in_order}

-- ## In order

module _ {A B : Type 0} (g : A → B) where
  -- what is said of each is said in the same order
  pub map_in_order : (forms : List A) (places : List ℕ) (bodies : List A) (before : ℕ) → map g (in_order before bodies forms places) ≡ in_order before (map g bodies) (map g forms) places
  map_in_order [] places bodies before = refl
  map_in_order (f ∷ forms) [] bodies before = ap (λ l. g f ∷ l) (map_in_order forms [] bodies before)
  map_in_order (f ∷ forms) (place ∷ places) bodies before =
      rw (take-map g (place - before) bodies, drop-map g (place - before) bodies)
      (map-append g (take (place - before) bodies) (f ∷ in_order place (drop (place - before) bodies) forms places)
      ∙ ap (λ l. map g (take (place - before) bodies) ++ g f ∷ l) (map_in_order forms places (drop (place - before) bodies) place))

-- some bodies that stand before a place, and then the form that is there
placed : {A : Type 0} (place before : ℕ) (xs ys : List A) (f : A) (forms : List A) (places : List ℕ) → place - before ≡ length xs
    → in_order before (xs ++ ys) (f ∷ forms) (place ∷ places) ≡ xs ++ f ∷ in_order place ys forms places
placed place before xs ys f forms places long =
    ap (λ k. take k (xs ++ ys) ++ f ∷ in_order place (drop k (xs ++ ys)) forms places) long
    ∙ ap (λ zs. zs ++ f ∷ in_order place (drop (length xs) (xs ++ ys)) forms places) (take-append_seam xs ys)
    ∙ ap (λ zs. xs ++ f ∷ in_order place zs forms places) (drop-append_seam xs ys)

forms_in_order : (es : Trees) (xs : List Procedure) (before place : ℕ) → place ≡ before + length xs
    → in_order before (xs ++ bodies_each es) (forms_in es) (starts es place) ≡ xs ++ bodies_forms es
forms_in_order no_trees xs before place long = refl
forms_in_order (and_tree e es) xs before place long =
    placed place before xs (bodies e ++ bodies_each es) (form e) (forms_in es) (starts es (place + procedures e)) (omega (arith, long))
    ∙ ap (λ zs. xs ++ form e ∷ zs) (forms_in_order es (bodies e) place (place + procedures e) (ap (λ k. place + k) (sym (bodies_count e))))

pub bodies_in_order : (p : Source) → in_order 0 (procedures_in p) (forms_in p.forms) (starts p.forms (procedures_lambdas p.library)) ≡ bodies_of p
bodies_in_order p = forms_in_order p.forms (bodies_lambdas p.library) 0 (procedures_lambdas p.library) (let count = lambdas_count p.library in omega (arith, count))
