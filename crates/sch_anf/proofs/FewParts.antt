-- The nodes of a valid program have few parts.
use Rattle.std.proofs.Common.{◌≡◌, ◌≤◌, ◌<◌, ℕ, zero, suc, true, List, [], ◌∷◌, length, get_or, map, sym, subst, arith}
use Rattle.std.specs.Prelude.{Bool, nat_le, ◌&&◌}
use Rattle.std.proofs.lemmas.Bool.{leb-true}
use Rattle.sch_word.proofs.facts.Booleans.{and_left, and_right}
use Rattle.sch_word.specs.trees.Shape.{fits, max_operands, max_variables}
use Rattle.sch_flat.specs.declared.tree.Exp.{Exp}
use Rattle.sch_flat.specs.declared.tree.Body as flat_body
use Rattle.sch_flat.specs.Tree.{Tree, Trees, Body, Source, constant, literal, variable, global, set_global, define, branch, sequence, bind, make_closure, fix_closures, call, operation, new_cells, cell_get, cell_set, no_trees, and_tree, count}
use Rattle.sch_flat.specs.Measures.{over, over_each, over_bodies, shape}
use Rattle.sch_flat.specs.Valid.{is_formed}
use Rattle.sch_flat.specs.View.{body, tree}
use Rattle.sch_anf_laws.proofs.Items.{left}
use Rattle.sch_anf.specs.FewParts.{BodiesHaveFewParts, HasFewParts, HaveFewParts}

abbrev node_fits : Tree → Bool
node_fits e = fits max_variables (shape e)

abbrev all_fit : Tree → Bool
all_fit = over true (λ a b. a && b) (fits max_variables)

abbrev each_fits : Trees → Bool
each_fits = over_each true (λ a b. a && b) (fits max_variables)

abbrev bodies_fit : List Body → Bool
bodies_fit = over_bodies true (λ a b. a && b) (fits max_variables)

few : (n : ℕ) → nat_le n max_operands ≡ true → n ≤ max_operands
few n h = leb-true n max_operands h

mutual
  parts_few : (e : Tree) → all_fit e ≡ true → HasFewParts e
  parts_few (constant c) h = tt
  parts_few (literal k) h = tt
  parts_few (variable v) h = tt
  parts_few (global g) h = tt
  parts_few (set_global g e) h = parts_few e h
  parts_few (define g e) h = parts_few e h
  parts_few (branch a b c) h = (
    parts_few a (and_left (all_fit a) (all_fit b && all_fit c) h),
    parts_few b (and_left (all_fit b) (all_fit c) (and_right (all_fit a) (all_fit b && all_fit c) h)),
    parts_few c (and_right (all_fit b) (all_fit c) (and_right (all_fit a) (all_fit b && all_fit c) h)),
  )
  parts_few (sequence es) h = each_few es h
  parts_few (bind site first es e) h =
      let n = nat_le (count es) max_operands in
      let m = and_right n (each_fits es && all_fit e) h in
      (few (count es) (and_left n (each_fits es && all_fit e) h), each_few es (and_left (each_fits es) (all_fit e) m), parts_few e (and_right (each_fits es) (all_fit e) m))
  parts_few (make_closure m) h = tt
  parts_few (fix_closures first ms e) h = parts_few e (and_right (nat_le (length ms) max_operands) (all_fit e) h)
  parts_few (call site spread f es) h =
      let n = nat_le (count es) max_operands in
      let m = and_right n (all_fit f && each_fits es) h in
      (few (count es) (and_left n (all_fit f && each_fits es) h), parts_few f (and_left (all_fit f) (each_fits es) m), each_few es (and_right (all_fit f) (each_fits es) m))
  parts_few (operation site which es) h =
      let n = nat_le (count es) max_operands in (few (count es) (and_left n (each_fits es) h), each_few es (and_right n (each_fits es) h))
  parts_few (new_cells cs e) h = parts_few e (and_right (nat_le (length cs) max_operands) (all_fit e) h)
  parts_few (cell_get v) h = tt
  parts_few (cell_set v e) h = parts_few e h

  each_few : (es : Trees) → each_fits es ≡ true → HaveFewParts es
  each_few no_trees h = tt
  each_few (and_tree e es) h = (parts_few e (and_left (all_fit e) (each_fits es) h), each_few es (and_right (all_fit e) (each_fits es) h))

bodies_few : (bs : List Body) → bodies_fit bs ≡ true → BodiesHaveFewParts bs
bodies_few [] h = tt
bodies_few (b ∷ bs) h = (parts_few b.code (and_left (all_fit b.code) (bodies_fit bs) h), bodies_few bs (and_right (all_fit b.code) (bodies_fit bs) h))

module _ (p : Source) (formed : is_formed p ≡ true) where
  all_within : (bodies_fit p.bodies && each_fits p.forms) ≡ true
  all_within = and_left (bodies_fit p.bodies && each_fits p.forms) _ (and_right _ _ (and_right _ _ formed))

  pub program_bodies_few : BodiesHaveFewParts p.bodies
  program_bodies_few = bodies_few p.bodies (and_left (bodies_fit p.bodies) (each_fits p.forms) all_within)

  pub program_forms_few : HaveFewParts p.forms
  program_forms_few = each_few p.forms (and_right (bodies_fit p.bodies) (each_fits p.forms) all_within)

-- ## One of them

pub few_at : (items : List Exp) (i : ℕ) (e : Exp) → i < length items → e ≡ get_or items i e → HaveFewParts (left items) → HasFewParts (tree e)
few_at [] i e l is h = absurd (omega (arith, l))
few_at (x ∷ items) zero e l is h = subst (λ a. HasFewParts (tree a)) (sym is) h.0
few_at (x ∷ items) (suc i) e l is h = few_at items i e (omega (arith, l)) is h.1

pub few_body_at : (bodies : List flat_body.Body) (i : ℕ) (b : flat_body.Body) → i < length bodies → b ≡ get_or bodies i b → BodiesHaveFewParts (map body bodies) → HasFewParts (tree b.code)
few_body_at [] i b l is h = absurd (omega (arith, l))
few_body_at (x ∷ bodies) zero b l is h = subst (λ a. HasFewParts (tree a.code)) (sym is) h.0
few_body_at (x ∷ bodies) (suc i) b l is h = few_body_at bodies i b (omega (arith, l)) is h.1
