-- The table after a walk tells which variables get a cell; and a valid program's variables are in range.
use Rattle.std.proofs.Common.{◌≡◌, ℕ, zero, suc, ◌<◌, Bool, true, false, List, [], ◌∷◌, length, refl, sym, ap, ◌∙◌, arith}
use Rattle.std.specs.Prelude.{◌||◌, nat_eq, slice_set}
use Rattle.std.proofs.lemmas.List.{length-set}
use Rattle.sch_word.specs.trees.NumberSets.{has}
use Rattle.sch_word.specs.trees.Bindings.{numbers, scope_with}
use Rattle.sch_cells.specs.Tree.{Tree, Trees, Lambdas, constant, literal, variable, global, set_variable, set_global, define, branch, sequence, bind, fix, letrec, lambda, call, operation, new_cells, cell_get, cell_set, no_trees, and_tree, no_lambdas, and_lambda, count, count_lambdas}
use Rattle.sch_assign.specs.Celled.{celled, celled_each, celled_lambdas}
use Rattle.sch_assign.specs.Converted.{Low, Right, RightEach, RightLambdas}
use Rattle.sch_assign.specs.InRange.{InRange, EachInRange, LambdasInRange}
use Rattle.sch_assign.specs.Table.{table, group_marked, marked, each_marked, lambdas_marked}
use Rattle.sch_assign.proofs.Lookups.{low_first, low_next}
use Rattle.sch_assign.proofs.kept.FreeMoved.{AllLow, low_with}
use Rattle.sch_word.proofs.facts.NumberTests.{differ, same_test}
use Rattle.sch_word.proofs.facts.Booleans.{or_swap, or_or, or_right_false}

same_either_way : (x y : ℕ) → nat_eq x y ≡ nat_eq y x
same_either_way x y = same_test x y y x (λ e. sym e) (λ e. sym e)

set_table : (bs : List Bool) (x y : ℕ) → x < length bs → table (slice_set bs x true) y ≡ (table bs y || nat_eq x y)
set_table [] x y l = absurd (omega (arith, l))
set_table (b ∷ bs) zero zero l = or_swap true b
set_table (b ∷ bs) zero (suc y) l = let t : nat_eq 0 (suc y) ≡ false = differ 0 (suc y) (λ e. omega (arith, e)) in rw t (sym (or_right_false (table bs y)))
set_table (b ∷ bs) (suc x) zero l = let t : nat_eq (suc x) 0 ≡ false = differ (suc x) 0 (λ e. omega (arith, e)) in rw t (sym (or_right_false b))
set_table (b ∷ bs) (suc x) (suc y) l =
    let t : nat_eq (suc x) (suc y) ≡ nat_eq x y = same_test (suc x) (suc y) x y (λ e. omega (arith, e)) (λ e. omega (arith, e)) in
    rw t (set_table bs x y (omega (arith, l)))

group_size : (x m : ℕ) (bs : List Bool) → length (group_marked x m bs) ≡ length bs
group_size x zero bs = refl
group_size x (suc m) bs = group_size (suc x) m (slice_set bs x true) ∙ length-set bs x true

module _ (has_cell : ℕ → Bool) (n : ℕ) where
  group_table : (x m : ℕ) (bs : List Bool) (y : ℕ) → Low n x m → length bs ≡ n → table (group_marked x m bs) y ≡ (table bs y || has y (numbers x m))
  group_table x zero bs y low e = sym (or_right_false (table bs y))
  group_table x (suc m) bs y low e =
      let f : x < n = low_first has_cell n x m low in
      group_table (suc x) m (slice_set bs x true) y (low_next has_cell n x m low) (length-set bs x true ∙ e)
      ∙ ap (λ b. b || has y (numbers (suc x) m)) (set_table bs x y (omega (arith, f, e)) ∙ ap (λ b. table bs y || b) (same_either_way x y))
      ∙ or_or (table bs y) (nat_eq y x) (has y (numbers (suc x) m))

  -- one walk after another
  pub record Walked (bs bs' : List Bool) (f : ℕ → Bool) : Type 0 where
    pub size : length bs' ≡ n
    pub at : (y : ℕ) → table bs' y ≡ (table bs y || f y)

  stayed : (bs : List Bool) → length bs ≡ n → Walked bs bs (λ y. false)
  stayed bs e = record { size = e; at = λ y. sym (or_right_false (table bs y)) }

  then_walked : (bs bs' bs'' : List Bool) (f g : ℕ → Bool) → Walked bs bs' f → Walked bs' bs'' g → Walked bs bs'' (λ y. f y || g y)
  then_walked bs bs' bs'' f g h k = record { size = k.size; at = λ y. k.at y ∙ ap (λ b. b || g y) (h.at y) ∙ or_or (table bs y) (f y) (g y) }

  mutual
    walked : (e : Tree) (bs : List Bool) → InRange n e → length bs ≡ n → Walked bs (marked e bs) (celled e)
    walked (constant c) bs i l = stayed bs l
    walked (literal k) bs i l = stayed bs l
    walked (variable x) bs i l = stayed bs l
    walked (global g) bs i l = stayed bs l
    walked (set_variable x e) bs i l =
        let h : Walked bs (slice_set bs x true) (λ y. nat_eq x y) = record { size = length-set bs x true ∙ l; at = λ y. set_table bs x y (let f = i.0 in omega (arith, f, l)) } in
        then_walked bs _ _ (λ y. nat_eq x y) (celled e) h (walked e (slice_set bs x true) i.1 h.size)
    walked (set_global g e) bs i l = walked e bs i l
    walked (define g e) bs i l = walked e bs i l
    walked (branch a b c) bs i l =
        let h = walked a bs i.0 l in
        let k = walked b (marked a bs) i.1 h.size in
        let j = walked c (marked b (marked a bs)) i.2 k.size in
        then_walked bs _ _ (celled a) (λ y. celled b y || celled c y) h (then_walked _ _ _ (celled b) (celled c) k j)
    walked (sequence es) bs i l = walked_each es bs i l
    walked (bind site x es e) bs i l =
        let h = walked_each es bs i.0 l in
        then_walked bs _ _ (celled_each es) (celled e) h (walked e (each_marked es bs) i.2 h.size)
    walked (fix x ls e) bs i l =
        let h = walked_lambdas ls bs i.0 l in
        then_walked bs _ _ (celled_lambdas ls) (celled e) h (walked e (lambdas_marked ls bs) i.2 h.size)
    walked (letrec site x es e) bs i l =
        let m = count es in
        let h : Walked bs (group_marked x m bs) (λ y. has y (numbers x m)) = record { size = group_size x m bs ∙ l; at = λ y. group_table x m bs y i.1 l } in
        let k = walked_each es (group_marked x m bs) i.0 h.size in
        let j = walked e (each_marked es (group_marked x m bs)) i.2 k.size in
        then_walked bs _ _ (λ y. has y (numbers x m)) (λ y. celled_each es y || celled e y) h (then_walked _ _ _ (celled_each es) (celled e) k j)
    walked (lambda name x m rest e) bs i l = walked e bs i.1 l
    walked (call site spread f es) bs i l =
        let h = walked f bs i.0 l in
        then_walked bs _ _ (celled f) (celled_each es) h (walked_each es (marked f bs) i.1 h.size)
    walked (operation site which es) bs i l = walked_each es bs i l
    walked (new_cells cs e) bs i l = absurd i
    walked (cell_get x) bs i l = absurd i
    walked (cell_set x e) bs i l = absurd i

    pub walked_each : (es : Trees) (bs : List Bool) → EachInRange n es → length bs ≡ n → Walked bs (each_marked es bs) (celled_each es)
    walked_each no_trees bs i l = stayed bs l
    walked_each (and_tree e es) bs i l =
        let h = walked e bs i.0 l in
        then_walked bs _ _ (celled e) (celled_each es) h (walked_each es (marked e bs) i.1 h.size)

    pub walked_lambdas : (ls : Lambdas) (bs : List Bool) → LambdasInRange n ls → length bs ≡ n → Walked bs (lambdas_marked ls bs) (celled_lambdas ls)
    walked_lambdas no_lambdas bs i l = stayed bs l
    walked_lambdas (and_lambda name x m rest e ls) bs i l =
        let h = walked e bs i.0.1 l in
        then_walked bs _ _ (celled e) (celled_lambdas ls) h (walked_lambdas ls (marked e bs) i.1 h.size)

  -- ## In range

  mutual
    in_range : (e : Tree) (S : List ℕ) → Right has_cell n e S → AllLow has_cell n S → InRange n e
    in_range (constant c) S r g = tt
    in_range (literal k) S r g = tt
    in_range (variable x) S r g = g.at x r
    in_range (global k) S r g = tt
    in_range (set_variable x e) S r g = (g.at x r.1, in_range e S r.2 g)
    in_range (set_global k e) S r g = in_range e S r g
    in_range (define k e) S r g = in_range e S r g
    in_range (branch a b c) S r g = (in_range a S r.0 g, in_range b S r.1 g, in_range c S r.2 g)
    in_range (sequence es) S r g = each_in_range es S r g
    in_range (bind site x es e) S r g = (each_in_range es S r.0 g, r.2, in_range e (scope_with x (count es) S) r.3 (low_with has_cell n x (count es) S r.2 g))
    in_range (fix x ls e) S r g =
        let m = count_lambdas ls in
        let low = low_with has_cell n x m S r.1 g in
        (lambdas_in_range ls (scope_with x m S) r.2 low, r.1, in_range e (scope_with x m S) r.3 low)
    in_range (letrec site x es e) S r g =
        let m = count es in
        let low = low_with has_cell n x m S r.1 g in
        (each_in_range es (scope_with x m S) r.2 low, r.1, in_range e (scope_with x m S) r.3 low)
    in_range (lambda name x m rest e) S r g = (r.1, in_range e (scope_with x m S) r.2 (low_with has_cell n x m S r.1 g))
    in_range (call site spread f es) S r g = (in_range f S r.0 g, each_in_range es S r.1 g)
    in_range (operation site which es) S r g = each_in_range es S r g
    in_range (new_cells cs e) S r g = absurd r
    in_range (cell_get x) S r g = absurd r
    in_range (cell_set x e) S r g = absurd r

    pub each_in_range : (es : Trees) (S : List ℕ) → RightEach has_cell n es S → AllLow has_cell n S → EachInRange n es
    each_in_range no_trees S r g = tt
    each_in_range (and_tree e es) S r g = (in_range e S r.0 g, each_in_range es S r.1 g)

    pub lambdas_in_range : (ls : Lambdas) (S : List ℕ) → RightLambdas has_cell n ls S → AllLow has_cell n S → LambdasInRange n ls
    lambdas_in_range no_lambdas S r g = tt
    lambdas_in_range (and_lambda name x m rest e ls) S r g = ((r.0.1, in_range e (scope_with x m S) r.0.2 (low_with has_cell n x m S r.0.1 g)), lambdas_in_range ls S r.1 g)
