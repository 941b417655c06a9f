-- What the regions of a body save is in reach of a set of its variables.
use Rattle.std.proofs.Common.{◌≡◌, ℕ, ◌≤◌, List, [], ◌∷◌, Bool, true, refl, arith}
use Rattle.std.specs.Prelude.{◌&&◌, not, nat_lt}
use Rattle.std.specs.List.{list_all}
use Rattle.std.proofs.lemmas.Bool.{and_from, and_parts, lt-ltb, ltb-true}
use Rattle.sch_control.specs.Meaning.{with_region}
use Rattle.sch_control.specs.Tree.{Expression, perform, bind, sequence, branch, fix, call, tail_call, return, end, save}
use Rattle.sch_control.specs.flow.Regions.{regions_apart, SavesBelow}

module _ (n bound : ℕ) (le : n ≤ bound) where
  some_below : (inside : ℕ → Bool) (xs : List ℕ) → list_all (λ x. nat_lt x n && not (inside x)) xs ≡ true → list_all (λ x. nat_lt x bound) xs ≡ true
  some_below inside [] h = refl
  some_below inside (x ∷ xs) h =
      let parts = and_parts (nat_lt x n && not (inside x)) _ h in
      let lt = ltb-true x n (and_parts (nat_lt x n) _ parts.0).0 in
      and_from _ _ (lt-ltb x bound (omega (arith, le, lt))) (some_below inside xs parts.1)

  pub apart_below : (e : Expression) (inside : ℕ → Bool) → regions_apart n e inside ≡ true → SavesBelow bound e
  apart_below (perform o) inside h = tt
  apart_below (bind y a b) inside h = let parts = and_parts (regions_apart n a inside) _ h in (apart_below a inside parts.0, apart_below b inside parts.1)
  apart_below (sequence a b) inside h = let parts = and_parts (regions_apart n a inside) _ h in (apart_below a inside parts.0, apart_below b inside parts.1)
  apart_below (branch a b c) inside h =
      let parts = and_parts (regions_apart n a inside) _ h in
      let arms = and_parts (regions_apart n b inside) _ parts.1 in
      (apart_below a inside parts.0, (apart_below b inside arms.0, apart_below c inside arms.1))
  apart_below (fix members e) inside h = apart_below e inside h
  apart_below (call a restores) inside h = tt
  apart_below (tail_call a) inside h = tt
  apart_below (return e) inside h = apart_below e inside h
  apart_below (end e) inside h = apart_below e inside h
  apart_below (save saves e) inside h =
      let parts = and_parts _ _ (and_parts _ (list_all (λ x. nat_lt x n && not (inside x)) saves && regions_apart n e (with_region saves inside)) h).1 in
      (some_below inside saves parts.0, apart_below e (with_region saves inside) parts.1)
