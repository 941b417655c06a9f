-- The calls and primitives of a program are those of what normalizing makes of it, each as often.
use Rattle.std.proofs.Common.{◌≡◌, ℕ, List, [], ◌∷◌, ◌++◌, refl, ap, ◌∙◌, arith}
use Rattle.std.specs.Prelude.{nat_eq}
use Rattle.std.specs.List.{count_by, sum_by}
use Rattle.std.proofs.lemmas.List.{map-append}
use Rattle.std.proofs.lemmas.List.Sums.{sum_by-append}
use Rattle.sch_word.specs.trees.Shape as shapes
use Rattle.sch_flat.specs.Tree as flat
use Rattle.sch_flat.specs.Tree.{Tree, Trees, Body, Source, constant, literal, variable, global, set_global, define, branch, sequence, bind, make_closure, fix_closures, call, operation, new_cells, cell_get, cell_set, no_trees, and_tree}
use Rattle.sch_flat.specs.Measures.{over, over_each, over_bodies, call_sites_of}
use Rattle.sch_control.specs.Valid.{sites_of_each}
use Rattle.sch_anf_laws.specs.Normal.{normal_source}
use Rattle.sch_word.proofs.facts.Occurrences.{times, one}
use Rattle.sch_anf_laws.proofs.runs.Sites.{keys, keyed_times}
use Rattle.sch_anf_laws.proofs.valid.SitesKept.{calls_in, calls_in_each}
use Rattle.sch_anf_laws.proofs.valid.ValidProgram.{all_kept, rows_bodies, at_site}

abbrev calls : Tree → List ℕ
calls = over [] (λ x y. x ++ y) shapes.call_site_of

abbrev calls_each : Trees → List ℕ
calls_each = over_each [] (λ x y. x ++ y) shapes.call_site_of

joined : (xs ys : List (ℕ × ℕ)) (us vs : List ℕ) → keys xs ≡ us → keys ys ≡ vs → keys (xs ++ ys) ≡ us ++ vs
joined xs ys us vs e f = map-append (λ r. r.0) xs ys ∙ (ap (λ l. l ++ keys ys) e ∙ ap (λ l. us ++ l) f)

no_call : (v : flat.Variable) → keys (calls_in (variable v)) ≡ calls (variable v)
no_call (flat.bound x) = refl
no_call (flat.free k) = refl

mutual
  calls_keys : (e : Tree) → keys (calls_in e) ≡ calls e
  calls_keys (constant c) = refl
  calls_keys (literal k) = refl
  calls_keys (variable v) = no_call v
  calls_keys (global g) = refl
  calls_keys (set_global g e) = calls_keys e
  calls_keys (define g e) = calls_keys e
  calls_keys (branch x y z) = joined (calls_in x) (calls_in y ++ calls_in z) (calls x) (calls y ++ calls z) (calls_keys x)
      (joined (calls_in y) (calls_in z) (calls y) (calls z) (calls_keys y) (calls_keys z))
  calls_keys (sequence es) = calls_keys_each es
  calls_keys (bind site first es e) = joined (calls_in_each es) (calls_in e) (calls_each es) (calls e) (calls_keys_each es) (calls_keys e)
  calls_keys (make_closure m) = refl
  calls_keys (fix_closures first ms e) = calls_keys e
  calls_keys (call site spread f es) = ap (λ l. site ∷ l) (joined (calls_in f) (calls_in_each es) (calls f) (calls_each es) (calls_keys f) (calls_keys_each es))
  calls_keys (operation site which es) = ap (λ l. site ∷ l) (calls_keys_each es)
  calls_keys (new_cells cs e) = calls_keys e
  calls_keys (cell_get v) = refl
  calls_keys (cell_set v e) = calls_keys e

  calls_keys_each : (es : Trees) → keys (calls_in_each es) ≡ calls_each es
  calls_keys_each no_trees = refl
  calls_keys_each (and_tree e es) = joined (calls_in e) (calls_in_each es) (calls e) (calls_each es) (calls_keys e) (calls_keys_each es)

bodies_times : (starts : List ℕ) (k : ℕ) (bs : List Body) → rows_bodies starts (at_site k) bs ≡ times k (over_bodies [] (λ x y. x ++ y) shapes.call_site_of bs)
bodies_times starts k [] = refl
bodies_times starts k (b ∷ bs) =
    let h = bodies_times starts k bs in
    let here : sum_by (at_site k) (calls_in b.code) ≡ times k (calls b.code) = keyed_times k (calls_in b.code) ∙ ap (λ l. times k l) (calls_keys b.code) in
    omega (arith, h, here, sum_by-append (one k) (calls b.code) (over_bodies [] (λ x y. x ++ y) shapes.call_site_of bs))

-- Each site stands as often in the calls and primitives of both programs.
pub program_calls : (p : Source) (site : ℕ) → count_by (λ at. nat_eq at.0 site) (sites_of_each (normal_source p).bodies) ≡ count_by (λ x. nat_eq x site) (call_sites_of p)
program_calls p site =
    let h = all_kept p.starts (at_site site) p.forms p.starts p.bodies 0 in
    let bodies = bodies_times p.starts site p.bodies in
    let forms : sum_by (at_site site) (calls_in_each p.forms) ≡ times site (calls_each p.forms) = keyed_times site (calls_in_each p.forms) ∙ ap (λ l. times site l) (calls_keys_each p.forms) in
    omega (arith, h, bodies, forms, sum_by-append (one site) (over_bodies [] (λ x y. x ++ y) shapes.call_site_of p.bodies) (calls_each p.forms))
