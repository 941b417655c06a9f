-- A body with restores, and its places.
use Rattle.std.proofs.Common.{◌≡◌, ℕ, ◌+◌, ◌<◌, ◌≤◌, List, true, sym, refl, subst, arith, ◌^◌}
use Rattle.std.specs.Prelude.{nat_le}
use Rattle.std.proofs.lemmas.Bool.Decides.{nat_tests}
use Rattle.sch_word.specs.declared.place.Place.{Place}
use Rattle.sch_word.proofs.facts.Booleans.{and_left}
use Rattle.sch_control.specs.Valid.{ended, in_scope_whole, max_body_variables, numbered}
use Rattle.sch_control.specs.declared.restored_body.RestoredBody.{RestoredBody}
use Rattle.sch_control.specs.Tree.{Code}
use Rattle.sch_control.specs.flow.Bare.{erased}
use Rattle.sch_control.specs.flow.Places.{count_slots, formals_of}
use Rattle.sch_control.specs.flow.Reads.{VariablesBelow}
use Rattle.sch_control.specs.flow.RestoredView.{restored}
use Rattle.sch_control.proofs.SameBodies.{ending, numbers, scoped, with_tree}
use Rattle.sch_control.proofs.SlotCounts.{slots_within}
use Rattle.sch_paths.proofs.saves.VariablesBelow.{listed_below}
use Rattle.sch_regs.specs.PlaceChoice.{places, slots, table_of}
use Rattle.sch_regs.proofs.TableMade.{formals_within}
use Rattle.sch_regs.proofs.WholeBodies.{IsPlaced, is_placed, slots_same}

module _ {N : ℕ} (b : RestoredBody N) where
  abbrev pub code_of : Code
  code_of = with_tree b.body.now (erased (restored b.exp)) b.bare

  pub scope : in_scope_whole code_of ≡ true
  scope = scoped b.body.now (erased (restored b.exp)) b.bare

  pub numbering : numbered code_of ≡ true
  numbering = numbers b.body.now (erased (restored b.exp)) b.bare

  pub ends : ended code_of ≡ true
  ends = ending b.body.now (erased (restored b.exp)) b.bare

  pub some_words : 0 < N
  some_words = let k = formals_within code_of (restored b.exp) refl scope numbering ends in let l = b.fits in omega (arith, k, l)

  pub variables_within : (bound : ℕ) → b.body.now.variables ≤ bound → VariablesBelow bound (restored b.exp)
  variables_within bound l = listed_below code_of numbering bound l (restored b.exp) refl scope

  pub entered_within : 2 + formals_of b.body.now.entry ≤ b.body.now.variables
  entered_within = formals_within code_of (restored b.exp) refl scope numbering ends

  -- a body has few variables, and no more slots
  pub few_slots : slots (table_of b.body.now.entry (restored b.exp)) < 2 ^ 32
  few_slots =
      let same : count_slots (places b.body.now.entry b.body.now.variables (restored b.exp)) ≡ slots (table_of b.body.now.entry (restored b.exp))
      = slots_same code_of (restored b.exp) refl scope numbering ends in
      let k = slots_within (places b.body.now.entry b.body.now.variables (restored b.exp)) in
      let long = (is_placed code_of (restored b.exp) refl scope numbering ends).whole in
      let most : nat_le b.body.now.variables max_body_variables ≡ true = and_left (nat_le b.body.now.variables max_body_variables) _ numbering in
      let few : b.body.now.variables ≤ max_body_variables = grind (arith, nat_tests, most) in
      omega (arith, same, k, long, few)

  pub placed : (ps : List Place) → ps ≡ places b.body.now.entry b.body.now.variables (restored b.exp) → IsPlaced b.body.now.entry b.body.now.variables (restored b.exp) ps
  placed ps made = subst (IsPlaced b.body.now.entry b.body.now.variables (restored b.exp)) (sym made) (is_placed code_of (restored b.exp) refl scope numbering ends)
