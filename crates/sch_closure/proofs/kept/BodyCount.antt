-- The bodies of a program are its procedures and its forms.
use Rattle.std.proofs.Common.{◌≡◌, suc, ◌+◌, List, length, map, ap, arith, refl, length-append}
use Rattle.sch_word.proofs.facts.Lists.{map_length}
use Rattle.sch_cells.specs.Tree as from
use Rattle.sch_cells.specs.Bodies.{bodies, bodies_each, bodies_forms, bodies_lambdas, bodies_of}
use Rattle.sch_flat.specs.Tree as to
use Rattle.sch_closure.specs.Kept.{flat_forms, forms_in, procedure_of, procedures_in}

forms_counted : (es : from.Trees) → length (bodies_each es) + length (forms_in es) ≡ length (bodies_forms es)
forms_counted from.no_trees = refl
forms_counted (from.and_tree e es) =
    omega (arith, forms_counted es, length-append (bodies e) (bodies_each es), length-append (bodies e) (bodies_forms es))

flat_counted : (es : to.Trees) → length (flat_forms es) ≡ to.count es
flat_counted to.no_trees = refl
flat_counted (to.and_tree e es) = ap suc (flat_counted es)

-- of bodies that are a program's procedures, and of trees that are its forms
pub bodies_counted : (p : from.Source) (bs : List to.Body) (es : to.Trees) → map procedure_of bs ≡ procedures_in p → flat_forms es ≡ forms_in p.forms
    → length bs + to.count es ≡ length (bodies_of p)
bodies_counted p bs es same_bodies same_forms =
    let b = map_length procedure_of bs in
    let m = ap length same_bodies in
    let n = ap length same_forms in
    omega (
      arith,
      b,
      m,
      n,
      flat_counted es,
      forms_counted p.forms,
      length-append (bodies_lambdas p.library) (bodies_each p.forms),
      length-append (bodies_lambdas p.library) (bodies_forms p.forms),
    )
