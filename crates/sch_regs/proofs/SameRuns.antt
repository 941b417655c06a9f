-- A body with enough restores does the same, whatever its calls keep.
use Rattle.std.proofs.Common.{◌≡◌, ℕ, Bool, true, false, List, refl, sym, ◌∙◌}
use Rattle.sch_word.specs.declared.place.Place.{Place}
use Rattle.sch_control.specs.declared.restored_body.RestoredBody.{RestoredBody}
use Rattle.sch_control.specs.Meaning.{World, Environment, Callee, do_body, no_region}
use Rattle.sch_control.specs.Tree.{Expression, Code}
use Rattle.sch_control.specs.Valid.{in_scope_whole, numbered}
use Rattle.sch_control.specs.flow.Bare.{erased}
use Rattle.sch_control.specs.flow.Live.{nothing_later}
use Rattle.sch_control.specs.flow.Middle.{restoring, silent}
use Rattle.sch_word.specs.values.Places.{is_slot}
use Rattle.sch_control.specs.flow.Places.{place_of}
use Rattle.sch_control.specs.flow.Regions.{restores_saved}
use Rattle.sch_control.specs.flow.RestoredView.{restored}
use Rattle.sch_paths.specs.Conditions.{Saved}
use Rattle.sch_paths.proofs.runs.RestoresAreEnough.{valid_fresh}
use Rattle.sch_paths.proofs.runs.SameWithoutMarks.{silently}
use Rattle.sch_paths.specs.EachSoonRestored.{EachSoonRestored}
use Rattle.sch_paths.proofs.saves.SavedAndRestored.{restored_kept}
use Rattle.sch_regs.specs.Promises.{KeepsRuns}
use Rattle.sch_regs.proofs.PlacedBodies.{code_of, numbering, scope}
use Rattle.sch_regs.proofs.SavedWhereRestored.{saved}

module _ (c : Code) (e : Expression) (is : erased e ≡ c.expression) (i : in_scope_whole c ≡ true) (n : numbered c ≡ true) (v : restores_saved e no_region ≡ true) (r : EachSoonRestored e) where
  whatever : (keeps : ℕ → Bool) → Saved keeps e (Unit {0}) no_region nothing_later
  whatever keeps = saved keeps e (Unit {0}) no_region nothing_later nothing_later r v (valid_fresh c e is i n) (λ x t met g b. absurd b)

  same_runs : (keeps : ℕ → Bool) (callee : Callee) (depth : ℕ) (environment : Environment) (w : World)
      → do_body restoring callee depth e environment w ≡ do_body (silent keeps) callee depth e environment w
  same_runs keeps callee depth environment w =
      sym (silently (λ x. false) callee depth no_region e (whatever (λ x. false)) r (valid_fresh c e is i n) environment w)
      ∙ silently keeps callee depth no_region e (whatever keeps) (restored_kept keeps e (Unit {0}) nothing_later nothing_later r) (valid_fresh c e is i n) environment w

pub keeps_runs : {N : ℕ} (b : RestoredBody N) → EachSoonRestored (restored b.exp) → (places : List Place) → KeepsRuns (restored b.exp) (restored b.exp) places
keeps_runs b r places = same_runs (code_of b) (restored b.exp) refl (scope b) (numbering b) b.saved r (λ x. is_slot (place_of places x))
