-- Marks that an evaluator marks leave the state alone.
use Rattle.std.proofs.Common.{◌≡◌, ℕ, List, [], ◌∷◌, Bool, true, false, cond, refl, ◌∙◌}
use Rattle.sch_word.specs.declared.mark.MarkKind.{MarkKind}
use Rattle.sch_word.specs.declared.mark.MarkKind.TheVariants as mark
use Rattle.sch_control.specs.declared.operation.Member.{Member}
use Rattle.sch_control.specs.Meaning.{World, Reading, marked, marked_if, marked_each, mark_each, mark_bound, mark_members}

if_state : (t : Bool) (m : MarkKind) (w : World) → (marked_if t m w).state ≡ w.state
if_state true m w = refl
if_state false m w = refl

pub moves_state : (ms : List MarkKind) (w : World) → (marked_each ms w).state ≡ w.state
moves_state [] w = refl
moves_state (m ∷ ms) w = moves_state ms (marked m w)

module _ (reading : Reading) where
  pub each_state : (kind : ℕ → MarkKind) (xs : List ℕ) (w : World) → (mark_each reading kind xs w).state ≡ w.state
  each_state kind [] w = refl
  each_state kind (x ∷ xs) w = each_state kind xs (marked_if (reading.is_marked x) (kind x) w) ∙ if_state (reading.is_marked x) (kind x) w

  pub bound_state : (inside : ℕ → Bool) (x : ℕ) (w : World) → (mark_bound reading inside x w).state ≡ w.state
  bound_state inside x w =
      if_state (cond (inside x) (reading.is_marked x) false) (mark.Save x) (marked_if (reading.spills x) (mark.Spill x) w)
      ∙ if_state (reading.spills x) (mark.Spill x) w

  pub members_state : (inside : ℕ → Bool) (members : List (Member ℕ)) (w : World) → (mark_members reading inside members w).state ≡ w.state
  members_state inside [] w = refl
  members_state inside (m ∷ members) w = members_state inside members (mark_bound reading inside m.at w) ∙ bound_state inside m.at w
