-- What the walk over a tree adds to the bodies that it has made before, from the beginning of the text on.
use Rattle.std.specs.Prelude.{◌≡◌, ℕ, suc, ◌+◌, List, [], ◌∷◌, ◌++◌, length, map}
use Rattle.sch_cells.specs.Tree.{Tree, Trees, Lambdas, constant, literal, variable, global, set_variable, set_global, define, branch, sequence, bind, fix, letrec, lambda, call, operation, new_cells, cell_get, cell_set, no_trees, and_tree, no_lambdas, and_lambda, Function}
use Rattle.sch_flat.specs.declared.tree.Body as coded
use Rattle.sch_flat.specs.Tree as to
use Rattle.sch_flat.specs.Tree.{Body}
use Rattle.sch_flat.specs.View.{body}
use Rattle.sch_closure.specs.Closed.{body_of, procedures, procedures_each, procedures_lambdas, closed, closed_each, made, made_each}

-- the bodies of the procedures in a tree, after those made, of which there are as many as the first label
abbrev mutual
  pub with_bodies : Tree → List Body → List Body
  with_bodies (constant c) all = all
  with_bodies (literal n) all = all
  with_bodies (variable x) all = all
  with_bodies (global g) all = all
  with_bodies (set_variable x e) all = with_bodies e all
  with_bodies (set_global g e) all = with_bodies e all
  with_bodies (define g e) all = with_bodies e all
  with_bodies (branch a b c) all = with_bodies c (with_bodies b (with_bodies a all))
  with_bodies (sequence es) all = with_bodies_each es all
  with_bodies (bind site first es e) all = with_bodies e (with_bodies_each es all)
  with_bodies (fix first ls e) all = with_bodies e (with_bodies_lambdas ls all)
  with_bodies (letrec site first es e) all = with_bodies e (with_bodies_each es all)
  with_bodies (lambda name first formals rest e) all = with_bodies e (all ++ body_of name first formals rest e (length all) ∷ [])
  with_bodies (call site spread f es) all = with_bodies_each es (with_bodies f all)
  with_bodies (operation site which es) all = with_bodies_each es all
  with_bodies (new_cells cs e) all = with_bodies e all
  with_bodies (cell_get x) all = all
  with_bodies (cell_set x e) all = with_bodies e all

  pub with_bodies_each : Trees → List Body → List Body
  with_bodies_each no_trees all = all
  with_bodies_each (and_tree e es) all = with_bodies_each es (with_bodies e all)

  pub with_bodies_lambdas : Lambdas → List Body → List Body
  with_bodies_lambdas no_lambdas all = all
  with_bodies_lambdas (and_lambda name first formals rest e ls) all =
      with_bodies_lambdas ls (with_bodies e (all ++ body_of name first formals rest e (length all) ∷ []))

-- the body of a procedure, whose record has this many fields, with this code
abbrev pub body_with : Function → (fields : ℕ) → (code : to.Tree) → Body
body_with f fields code = record {
  name = f.name;
  first = f.first;
  formals = f.formals;
  rest = f.rest;
  fields = fields;
  code = code;
}

-- What a walk has made of a tree in a body whose record has the fields `own`, and the bodies before and after it.
abbrev pub Closes : Tree → (own : List ℕ) → (before after : List coded.Body) → to.Tree → Type 0
Closes e own before after q = record {
  made : q ≡ closed e own (length before);
  bodies : map body after ≡ with_bodies e (map body before);
  count : length after ≡ length before + procedures e;
}

abbrev pub ClosesEach : Trees → (own : List ℕ) → (before after : List coded.Body) → to.Trees → Type 0
ClosesEach es own before after qs = record {
  made : qs ≡ closed_each es own (length before);
  bodies : map body after ≡ with_bodies_each es (map body before);
  count : length after ≡ length before + procedures_each es;
}

abbrev pub ClosesLambda : Function → (own : List ℕ) → (before after : List coded.Body) → to.Made → Type 0
ClosesLambda f own before after m = record {
  made : m ≡ made f.first f.formals f.body own (length before);
  bodies : map body after ≡ with_bodies (lambda f.name f.first f.formals f.rest f.body) (map body before);
  count : length after ≡ length before + suc (procedures f.body);
}

abbrev pub ClosesLambdas : Lambdas → (own : List ℕ) → (before after : List coded.Body) → List to.Made → Type 0
ClosesLambdas ls own before after ms = record {
  made : ms ≡ made_each ls own (length before);
  bodies : map body after ≡ with_bodies_lambdas ls (map body before);
  count : length after ≡ length before + procedures_lambdas ls;
}
