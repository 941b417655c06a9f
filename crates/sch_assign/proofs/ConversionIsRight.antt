-- For a valid program, and the variables that are assigned or belong to a Rec, the conversion is right.
use Rattle.std.proofs.Common.{◌≡◌, ℕ, zero, suc, ◌+◌, ◌<◌, Bool, true, false, List, [], ◌∷◌, ◌++◌, length, refl, ◌∙◌, arith}
use Rattle.std.specs.Prelude.{IsTrue, ◌||◌, ◌&&◌, not, nat_eq, nat_lt}
use Rattle.std.proofs.lemmas.Bool.{eqb-true, ltb-true}
use Rattle.sch_word.proofs.facts.Booleans.{not_true, or_left, or_right, neither, not_left, and_parts}
use Rattle.sch_word.proofs.facts.NumberSets.{in_deeper, append_left, append_right}
use Rattle.sch_word.specs.trees.NumberSets.{has, without_repeats, In}
use Rattle.sch_word.specs.trees.Bindings.{numbers, scope_with}
use Rattle.sch_word.specs.values.Literals.{count_literals}
use Rattle.sch_word.specs.trees.Shape.{names_known, well_formed}
use Rattle.sch_cells.specs.Tree.{Tree, Trees, Lambdas, Source, constant, literal, variable, global, set_variable, set_global, define, branch, sequence, bind, fix, letrec, lambda, call, operation, new_cells, cell_get, cell_set, no_trees, and_tree, no_lambdas, and_lambda, count, count_lambdas}
use Rattle.sch_cells.specs.Variables.{assigns, assigns_lambdas, bound, bound_each, bound_lambdas, closed, closed_each, closed_lambdas, below}
use Rattle.sch_cells.specs.Measures.{over, over_each, over_lambdas, shape, every}
use Rattle.sch_cells.specs.Valid.{has_form, none_assigned, fix_unassigned, scoped, formed, bound_of}
use Rattle.sch_cells.specs.Clear.{Apart}
use Rattle.sch_cells.proofs.Clearing.{Parts, distinct_parts, left_apart, right_apart, apart_back, apart_scope}
use Rattle.sch_assign.specs.Celled.{celled, celled_each, celled_lambdas, celled_in}
use Rattle.sch_assign.specs.Converted.{Low, Right, RightEach, RightLambdas}
use Rattle.sch_assign.proofs.kept.FreeMoved.{group_has}
use Rattle.sch_assign.proofs.CelledWhere.{not_celled, none_celled, no_lambda_celled, only_assigned, lambdas_only_assigned, not_used, not_first, not_second}
use Rattle.sch_word.proofs.facts.NumberTests.{same as self}

-- nodes of a tree without cells, in which no variable of a Fix is assigned
abbrev plain : Tree → Bool
plain e = over true (λ a b. a && b) (λ e. has_form false (shape e)) e

abbrev plain_each : Trees → Bool
plain_each es = over_each true (λ a b. a && b) (λ e. has_form false (shape e)) es

abbrev plain_lambdas : Lambdas → Bool
plain_lambdas ls = over_lambdas true (λ a b. a && b) (λ e. has_form false (shape e)) ls

abbrev fixed : Tree → Bool
fixed e = over true (λ a b. a && b) fix_unassigned e

abbrev fixed_each : Trees → Bool
fixed_each es = over_each true (λ a b. a && b) fix_unassigned es

abbrev fixed_lambdas : Lambdas → Bool
fixed_lambdas ls = over_lambdas true (λ a b. a && b) fix_unassigned ls

no_second : (a b : Bool) → b ≡ false → (a || b) ≡ a
no_second true b h = refl
no_second false b h = h

no_first : (a b : Bool) → a ≡ false → (a || b) ≡ b
no_first true b h = absurd (cc)
no_first false b h = refl

-- what holds at no variable but those of a scope and a list
abbrev Outside : (S bs : List ℕ) → (ℕ → Bool) → Type 0
Outside S bs f = (y : ℕ) → has y S ≡ false → has y bs ≡ false → f y ≡ false

not_in_scope : (x m y : ℕ) (S : List ℕ) → has y (scope_with x m S) ≡ false → has y S ≡ false
not_in_scope x m y S h = go (has y S) refl
  where
    go : (b : Bool) → has y S ≡ b → b ≡ false
    go true e = absurd (let q : has y (scope_with x m S) ≡ true = in_deeper x m y S e in cc)
    go false e = refl

group_not : (x m y : ℕ) (S : List ℕ) → has y (scope_with x m S) ≡ false → has y (numbers x m) ≡ false
group_not x zero y S h = refl
group_not x (suc m) y S h =
    neither (nat_eq y x) (has y (numbers (suc x) m)) (not_left (nat_eq y x) (has y S) (not_in_scope (suc x) m y (x ∷ S) h)) (group_not (suc x) m y (x ∷ S) h)

outside_deeper : (x m : ℕ) (S bs : List ℕ) (f : ℕ → Bool) → Outside S bs f → Outside (scope_with x m S) bs f
outside_deeper x m S bs f h y s b = h y (not_in_scope x m y S s) b

unassigned_at : (x m i : ℕ) (ls : Lambdas) (e : Tree) → IsTrue (none_assigned x m ls e) → i < m → (assigns_lambdas ls (x + i) || assigns e (x + i)) ≡ false
unassigned_at x zero i ls e h l = absurd (omega (arith, l))
unassigned_at x (suc m) zero ls e h l =
    let q : x + 0 ≡ x = omega arith in
    rw q (not_true (assigns_lambdas ls x || assigns e x) (and_parts (not (assigns_lambdas ls x || assigns e x)) (none_assigned (suc x) m ls e) h).0)
unassigned_at x (suc m) (suc i) ls e h l =
    let q : x + suc i ≡ suc x + i = omega arith in
    rw q (unassigned_at (suc x) m i ls e (and_parts (not (assigns_lambdas ls x || assigns e x)) (none_assigned (suc x) m ls e) h).1 (omega (arith, l)))

pub below_has : (n y : ℕ) (xs : List ℕ) → IsTrue (below n xs) → In y xs → y < n
below_has n y [] h i = absurd (cc)
below_has n y (x ∷ xs) h i = go (nat_eq y x) refl (below_has n y xs (and_parts (nat_lt x n) (below n xs) h).1)
  where
    go : (b : Bool) → nat_eq y x ≡ b → (In y xs → y < n) → y < n
    go true e k = let q : y ≡ x = eqb-true y x e in let l : x < n = ltb-true x n (and_parts (nat_lt x n) (below n xs) h).0 in omega (arith, q, l)
    go false e k = let j : (false || has y xs) ≡ true = rw e at i in k j

module _ (has_cell : ℕ → Bool) (n : ℕ) where
  -- A part of a program that binds these variables and gives cells by f: the variables are all different, not
  -- in scope, below n, and get their cells by f.
  record Fine (S bs : List ℕ) (f : ℕ → Bool) : Type 0 where
    different : IsTrue (without_repeats bs)
    apart : Apart bs S
    low : (y : ℕ) → In y bs → y < n
    local : (y : ℕ) → In y bs → has_cell y ≡ f y
    sound : (y : ℕ) → f y ≡ true → has_cell y ≡ true

  split : (S xs ys : List ℕ) (f g : ℕ → Bool) → Fine S (xs ++ ys) (λ y. f y || g y) → Outside S xs f → Outside S ys g → Fine S xs f × Fine S ys g
  split S xs ys f g h out out' =
      let d : Parts xs ys = distinct_parts xs ys h.different in
      let back = apart_back xs ys d.apart in
      let al = left_apart xs ys S h.apart in
      let ar = right_apart xs ys S h.apart in (
        record {
          different = d.left;
          apart = al;
          low = λ y i. h.low y (append_left y xs ys i);
          local = λ y i. h.local y (append_left y xs ys i) ∙ no_second (f y) (g y) (out' y (al.at y i) (d.apart.at y i));
          sound = λ y e. h.sound y (or_left (f y) (g y) e);
        },
        record {
          different = d.right;
          apart = ar;
          low = λ y i. h.low y (append_right y xs ys i);
          local = λ y i. h.local y (append_right y xs ys i) ∙ no_first (f y) (g y) (out y (ar.at y i) (back.at y i));
          sound = λ y e. h.sound y (or_right (f y) (g y) e);
        },
      )

  in_scope : (S T bs : List ℕ) (f : ℕ → Bool) → Apart bs T → Fine S bs f → Fine T bs f
  in_scope S T bs f a h = record { different = h.different; apart = a; low = h.low; local = h.local; sound = h.sound }

  -- under a group of variables
  record Group (S : List ℕ) (x m : ℕ) (bs : List ℕ) (f : ℕ → Bool) : Type 0 where
    low : Low n x m
    local : (i : ℕ) → i < m → has_cell (x + i) ≡ f (x + i)
    new : (i : ℕ) → i < m → has (x + i) bs ≡ false
    outer : (i : ℕ) → i < m → has (x + i) S ≡ false
    outside : Apart bs S
    under : Fine (scope_with x m S) bs f

  group : (S : List ℕ) (x m : ℕ) (bs : List ℕ) (f : ℕ → Bool) → Fine S (numbers x m ++ bs) f → Group S x m bs f
  group S x m bs f h =
      let d : Parts (numbers x m) bs = distinct_parts (numbers x m) bs h.different in
      let ar = right_apart (numbers x m) bs S h.apart in
      let at : (i : ℕ) → i < m → In (x + i) (numbers x m ++ bs) = λ i l. append_left (x + i) (numbers x m) bs (group_has has_cell n x m i (x + i) l refl) in
      record {
        low = record { at = λ i l. h.low (x + i) (at i l) };
        local = λ i l. h.local (x + i) (at i l);
        new = λ i l. d.apart.at (x + i) (group_has has_cell n x m i (x + i) l refl);
        outer = λ i l. h.apart.at (x + i) (at i l);
        outside = ar;
        under = record {
          different = d.right;
          apart = apart_scope bs x m S (apart_back (numbers x m) bs d.apart) ar;
          low = λ y i. h.low y (append_right y (numbers x m) bs i);
          local = λ y i. h.local y (append_right y (numbers x m) bs i);
          sound = h.sound;
        };
      }

  mutual
    right : (e : Tree) (S : List ℕ) → IsTrue (closed e S) → Fine S (bound e) (celled e) → IsTrue (plain e) → IsTrue (fixed e) → Right has_cell n e S
    right (constant c) S k h u t = tt
    right (literal j) S k h u t = tt
    right (variable x) S k h u t = k
    right (global g) S k h u t = tt
    right (set_variable x e) S k h u t =
        let p = and_parts (has x S) (closed e S) k in
        let q = split S [] (bound e) (λ y. nat_eq x y) (celled e) h (λ y s b. not_used x y S p.0 s) (λ y s b. not_celled e S y p.1 s b) in
        (h.sound x (or_left (nat_eq x x) (celled e x) (self x)), p.0, right e S p.1 q.1 u t)
    right (set_global g e) S k h u t = right e S k h u t
    right (define g e) S k h u t = right e S k h u t
    right (branch a b c) S k h u t =
        let p = and_parts (closed a S) (closed b S && closed c S) k in
        let p' = and_parts (closed b S) (closed c S) p.1 in
        let q = split S (bound a) (bound b ++ bound c) (celled a) (λ y. celled b y || celled c y) h (λ y s i. not_celled a S y p.0 s i)
        (λ y s i. neither (celled b y) (celled c y) (not_celled b S y p'.0 s (not_first y (bound b) (bound c) i)) (not_celled c S y p'.1 s (not_second y (bound b) (bound c) i))) in
        let q' = split S (bound b) (bound c) (celled b) (celled c) q.1 (λ y s i. not_celled b S y p'.0 s i) (λ y s i. not_celled c S y p'.1 s i) in
        let v = and_parts (plain a) (plain b && plain c) u in
        let v' = and_parts (plain b) (plain c) v.1 in
        let w = and_parts (fixed a) (fixed b && fixed c) t in
        let w' = and_parts (fixed b) (fixed c) w.1 in
        (right a S p.0 q.0 v.0 w.0, right b S p'.0 q'.0 v'.0 w'.0, right c S p'.1 q'.1 v'.1 w'.1)
    right (sequence es) S k h u t = right_each es S k h u t
    right (bind site x es e) S k h u t =
        let m = count es in
        let T = scope_with x m S in
        let p = and_parts (closed_each es S) (closed e T) k in
        let g = group S x m (bound_each es ++ bound e) (λ y. celled_each es y || celled e y) h in
        let q = split T (bound_each es) (bound e) (celled_each es) (celled e) g.under
        (outside_deeper x m S (bound_each es) (celled_each es) (λ y s i. none_celled es S y p.0 s i)) (λ y s i. not_celled e T y p.1 s i) in
        let v = and_parts (plain_each es) (plain e) u in
        let w = and_parts (fixed_each es) (fixed e) t in (
          right_each es S p.0 (in_scope T S (bound_each es) (celled_each es) (left_apart (bound_each es) (bound e) S g.outside) q.0) v.0 w.0,
          record {
            at = λ i l.
                g.local i l
                ∙ no_first (celled_each es (x + i)) (celled e (x + i)) (none_celled es S (x + i) p.0 (g.outer i l) (not_first (x + i) (bound_each es) (bound e) (g.new i l)))
                ∙ only_assigned e (x + i) (not_second (x + i) (bound_each es) (bound e) (g.new i l));
          },
          g.low,
          right e T p.1 q.1 v.1 w.1,
        )
    right (fix x ls e) S k h u t =
        let m = count_lambdas ls in
        let T = scope_with x m S in
        let p = and_parts (closed_lambdas ls T) (closed e T) k in
        let g = group S x m (bound_lambdas ls ++ bound e) (λ y. celled_lambdas ls y || celled e y) h in
        let q = split T (bound_lambdas ls) (bound e) (celled_lambdas ls) (celled e) g.under (λ y s i. no_lambda_celled ls T y p.0 s i) (λ y s i. not_celled e T y p.1 s i) in
        let v = and_parts (plain_lambdas ls) (plain e) u in
        let z = and_parts (none_assigned x m ls e) (fixed_lambdas ls && fixed e) t in
        let w = and_parts (fixed_lambdas ls) (fixed e) z.1 in (
          record {
            at = λ i l.
                let a : celled_lambdas ls (x + i) ≡ assigns_lambdas ls (x + i) = lambdas_only_assigned ls (x + i) (not_first (x + i) (bound_lambdas ls) (bound e) (g.new i l)) in
                let b : celled e (x + i) ≡ assigns e (x + i) = only_assigned e (x + i) (not_second (x + i) (bound_lambdas ls) (bound e) (g.new i l)) in
                g.local i l ∙ rw (a, b) (unassigned_at x m i ls e z.0 l);
          },
          g.low,
          right_lambdas ls T p.0 q.0 v.0 w.0,
          right e T p.1 q.1 v.1 w.1,
        )
    right (letrec site x es e) S k h u t =
        let m = count es in
        let T = scope_with x m S in
        let p = and_parts (closed_each es T) (closed e T) k in
        let rest : ℕ → Bool = λ y. celled_each es y || celled e y in
        let whole : ℕ → Bool = λ y. has y (numbers x m) || rest y in
        let g = group S x m (bound_each es ++ bound e) whole h in
        let q = split T [] (bound_each es ++ bound e) (λ y. has y (numbers x m)) rest g.under
        (λ y s i. group_not x m y S s)
        (λ y s i. neither (celled_each es y) (celled e y) (none_celled es T y p.0 s (not_first y (bound_each es) (bound e) i)) (not_celled e T y p.1 s (not_second y (bound_each es) (bound e) i))) in
        let r = split T (bound_each es) (bound e) (celled_each es) (celled e) q.1 (λ y s i. none_celled es T y p.0 s i) (λ y s i. not_celled e T y p.1 s i) in
        let v = and_parts (plain_each es) (plain e) u in
        let w = and_parts (fixed_each es) (fixed e) t in (
          record { at = λ i l. g.local i l ∙ or_left (has (x + i) (numbers x m)) (rest (x + i)) (group_has has_cell n x m i (x + i) l refl) },
          g.low,
          right_each es T p.0 r.0 v.0 w.0,
          right e T p.1 r.1 v.1 w.1,
        )
    right (lambda name x m rest e) S k h u t =
        let g = group S x m (bound e) (celled e) h in
        (record { at = λ i l. g.local i l ∙ only_assigned e (x + i) (g.new i l) }, g.low, right e (scope_with x m S) k g.under u t)
    right (call site spread f es) S k h u t =
        let p = and_parts (closed f S) (closed_each es S) k in
        let q = split S (bound f) (bound_each es) (celled f) (celled_each es) h (λ y s i. not_celled f S y p.0 s i) (λ y s i. none_celled es S y p.1 s i) in
        let v = and_parts (plain f) (plain_each es) u in
        let w = and_parts (fixed f) (fixed_each es) t in
        (right f S p.0 q.0 v.0 w.0, right_each es S p.1 q.1 v.1 w.1)
    right (operation site which es) S k h u t = right_each es S k h u t
    right (new_cells cs e) S k h u t = absurd (cc)
    right (cell_get x) S k h u t = absurd (cc)
    right (cell_set x e) S k h u t = absurd (cc)

    right_each : (es : Trees) (S : List ℕ) → IsTrue (closed_each es S) → Fine S (bound_each es) (celled_each es) → IsTrue (plain_each es) → IsTrue (fixed_each es) → RightEach has_cell n es S
    right_each no_trees S k h u t = tt
    right_each (and_tree e es) S k h u t =
        let p = and_parts (closed e S) (closed_each es S) k in
        let q = split S (bound e) (bound_each es) (celled e) (celled_each es) h (λ y s i. not_celled e S y p.0 s i) (λ y s i. none_celled es S y p.1 s i) in
        let v = and_parts (plain e) (plain_each es) u in
        let w = and_parts (fixed e) (fixed_each es) t in
        (right e S p.0 q.0 v.0 w.0, right_each es S p.1 q.1 v.1 w.1)

    right_lambdas : (ls : Lambdas) (S : List ℕ) → IsTrue (closed_lambdas ls S) → Fine S (bound_lambdas ls) (celled_lambdas ls) → IsTrue (plain_lambdas ls) → IsTrue (fixed_lambdas ls) → RightLambdas has_cell n ls S
    right_lambdas no_lambdas S k h u t = tt
    right_lambdas (and_lambda name x m rest e ls) S k h u t =
        let T = scope_with x m S in
        let p = and_parts (closed e T) (closed_lambdas ls S) k in
        let g = group S x m (bound e ++ bound_lambdas ls) (λ y. celled e y || celled_lambdas ls y) h in
        let q = split T (bound e) (bound_lambdas ls) (celled e) (celled_lambdas ls) g.under (λ y s i. not_celled e T y p.0 s i)
        (outside_deeper x m S (bound_lambdas ls) (celled_lambdas ls) (λ y s i. no_lambda_celled ls S y p.1 s i)) in
        let v = and_parts (plain e) (plain_lambdas ls) u in
        let w = and_parts (fixed e) (fixed_lambdas ls) t in (
          (
            record {
              at = λ i l.
                  g.local i l
                  ∙ no_second (celled e (x + i)) (celled_lambdas ls (x + i)) (no_lambda_celled ls S (x + i) p.1 (g.outer i l) (not_second (x + i) (bound e) (bound_lambdas ls) (g.new i l)))
                  ∙ only_assigned e (x + i) (not_first (x + i) (bound e) (bound_lambdas ls) (g.new i l));
            },
            g.low,
            right e T p.0 q.0 v.0 w.0,
          ),
          right_lambdas ls S p.1 (in_scope T S (bound_lambdas ls) (celled_lambdas ls) (right_apart (bound e) (bound_lambdas ls) S g.outside) q.1) v.1 w.1,
        )

  pub record IsRight (p : Source) : Type 0 where
    pub library : RightLambdas has_cell n p.library []
    pub forms : RightEach has_cell n p.forms []

-- a valid program without cells is right for its conversion
pub program_right : (has_cell : ℕ → Bool) (p : Source) → ((y : ℕ) → has_cell y ≡ celled_in p y) → IsTrue (scoped p) → IsTrue (formed false p) → IsRight has_cell p.variables p
program_right has_cell p same s f =
    let q = and_parts (without_repeats (bound_of p) && below p.variables (bound_of p)) (closed_lambdas p.library [] && closed_each p.forms []) s in
    let d = and_parts (without_repeats (bound_of p)) (below p.variables (bound_of p)) q.0 in
    let c = and_parts (closed_lambdas p.library []) (closed_each p.forms []) q.1 in
    let a = and_parts (every (λ e. has_form false (shape e)) p && every (λ e. names_known (length p.statics.symbols) (count_literals p.statics.literals) (length p.statics.globals) (shape e)) p) (every (λ e. well_formed (shape e)) p && every fix_unassigned p) f in
    let b = and_parts (every (λ e. has_form false (shape e)) p) (every (λ e. names_known (length p.statics.symbols) (count_literals p.statics.literals) (length p.statics.globals) (shape e)) p) a.0 in
    let g = and_parts (every (λ e. well_formed (shape e)) p) (every fix_unassigned p) a.1 in
    let u = and_parts (plain_lambdas p.library) (plain_each p.forms) b.0 in
    let t = and_parts (fixed_lambdas p.library) (fixed_each p.forms) g.1 in
    let whole : Fine has_cell p.variables [] (bound_lambdas p.library ++ bound_each p.forms) (λ y. celled_lambdas p.library y || celled_each p.forms y) = record {
      different = d.0;
      apart = record { at = λ y i. refl };
      low = λ y i. below_has p.variables y (bound_of p) d.1 i;
      local = λ y i. same y;
      sound = λ y e. same y ∙ e;
    } in
    let h = split has_cell p.variables [] (bound_lambdas p.library) (bound_each p.forms) (celled_lambdas p.library) (celled_each p.forms) whole
    (λ y s i. no_lambda_celled p.library [] y c.0 s i) (λ y s i. none_celled p.forms [] y c.1 s i) in
    record {
      library = right_lambdas has_cell p.variables p.library [] c.0 h.0 u.0 t.0;
      forms = right_each has_cell p.variables p.forms [] c.1 h.1 u.1 t.1;
    }
