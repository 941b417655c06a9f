-- The table that the two walks over a valid body make.
use Rattle.std.proofs.Common.{◌≡◌, ℕ, ◌+◌, ◌<◌, ◌≤◌, Bool, true, false, List, length, ap, sym, ◌∙◌, subst, arith}
use Rattle.std.specs.Prelude.{nat_lt, nat_le}
use Rattle.std.specs.FinSet as set
use Rattle.std.proofs.Math.Path.{fun_ext}
use Rattle.std.proofs.lemmas.Bool.Decides.{nat_tests}
use Rattle.sch_sets.specs.Members.{NumberSet}
use Rattle.sch_sets.proofs.Membership.{contains-empty}
use Rattle.sch_word.specs.trees.NumberSets.{has}
use Rattle.sch_word.proofs.facts.Booleans.{and_right}
use Rattle.sch_control.specs.Tree.{Expression, Code}
use Rattle.sch_control.specs.Valid.{in_scope_whole, numbered, ended, first_bound, bound_in}
use Rattle.sch_control.specs.flow.Bare.{erased}
use Rattle.sch_control.specs.flow.Places.{formals_of}
use Rattle.sch_regs.specs.NotedSets.{IsNoted, note, assign_noted}
use Rattle.sch_regs.specs.PlaceChoice.{arrived, nothing_behind, table_of}
use Rattle.sch_control.specs.flow.LiveTests.{behind}
use Rattle.sch_regs.specs.SetsAsTests.{noted_in, IsNotedBack}
use Rattle.sch_regs.proofs.NotedBackward.{notes, noted_same}
use Rattle.sch_regs.proofs.NotedPlaces.{noted_places}
use Rattle.sch_regs.proofs.WholeBodies.{enough, bound_within, sits}

nothing : (none : NumberSet) → none ≡ set.empty → behind none none ≡ nothing_behind
nothing none e = fun_ext (λ x. fun_ext (λ r. by r x)) where
  by : (r : Bool) (x : ℕ) → behind none none x r ≡ false
  by true x = ap (λ s. set.contains s x) e ∙ contains-empty x
  by false x = ap (λ s. set.contains s x) e ∙ contains-empty x

module _ (c : Code) (e : Expression) (is : erased e ≡ c.expression) (i : in_scope_whole c ≡ true) (n : numbered c ≡ true) (d : ended c ≡ true) where
  bound_lt : (x : ℕ) → has x (bound_in e) ≡ true → x < c.variables
  bound_lt x h =
      let lt : nat_lt x c.variables ≡ true = and_right (nat_le (first_bound c.entry) x) _ (bound_within c e is i n d x h) in
      grind (arith, nat_tests, lt)

  pub formals_within : 2 + formals_of c.entry ≤ c.variables
  formals_within = let k = enough c e is i n d in omega (arith, k)

  -- what is noted is what is live at each binding
  pub noted_right : (none before : NumberSet) (old new : List NumberSet) → none ≡ set.empty → length old ≡ c.variables → IsNotedBack e none none before old new
      → IsNoted (noted_in new) e nothing_behind
  noted_right none before old new empty long h =
      noted_same e nothing_behind (note e nothing_behind (noted_in old)) (noted_in new)
      (λ z m. h.1.0 z (subst (λ k. z < k) (sym long) (bound_lt z m)) ∙ ap (λ l. note e l (noted_in old) z) (nothing none empty))
      (notes e (sits c e is i n d).once nothing_behind (noted_in old))

  -- so the walk makes the table of the body
  pub table_made : (none before : NumberSet) (old new : List NumberSet) → none ≡ set.empty → length old ≡ c.variables → IsNotedBack e none none before old new
      → assign_noted (noted_in new) e (arrived (formals_of c.entry)) ≡ table_of c.entry e
  table_made none before old new empty long h =
      noted_places (noted_in new) e nothing_behind (noted_right none before old new empty long h) (arrived (formals_of c.entry))
