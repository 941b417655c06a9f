-- What a tally knows of the activations of a run.
use Rattle.std.specs.Prelude.{◌≡◌, ℕ, ◌+◌, ◌-◌, ◌<◌, ◌^◌, Bool, true, false, nat_eq, List, [], ◌∷◌, ◌++◌, length, reverse, Option, Some, None, slice_get}
use Rattle.std.specs.List.{list_any, sum_by}
use Rattle.sch_word.specs.declared.mark.MarkKind.{MarkKind}
use Rattle.sch_word.specs.declared.mark.MarkKind.TheVariants.{Enter}
use Rattle.sch_word.specs.runs.Activations.{Activations, activations, none_yet, pass, is_call}
use Rattle.sch_count.specs.declared.tally.Open.{Open}
use Rattle.sch_count.specs.declared.tally.Tally.{Tally}
use Rattle.sch_count.specs.ActivationCounts.{is_of, saves_of, replaced, replaced_by, row_over, unended}

-- Of an activation that has not ended: its body, which is one of these, its saves, and whether it has called.
pub record IsOpen (bodies : ℕ) (own : List MarkKind) (o : Open) : Type 0 where
  pub known : o.body < bodies
  pub is_body : (body : ℕ) → is_of body own ≡ nat_eq o.body body
  pub saves : saves_of own ≡ o.saves
  pub called : list_any is_call own ≡ o.called

abbrev pub IsTop : (bodies : ℕ) → Option (List MarkKind) → Option Open → Type 0
IsTop bodies None None = Unit {0}
IsTop bodies (Some own) (Some o) = IsOpen bodies own o
IsTop bodies None (Some o) = ⊥
IsTop bodies (Some own) None = ⊥

abbrev pub AreSuspended : (bodies : ℕ) → List (List MarkKind) → List Open → Type 0
AreSuspended bodies [] [] = Unit {0}
AreSuspended bodies (own ∷ owns) (o ∷ opens) = IsOpen bodies own o × AreSuspended bodies owns opens
AreSuspended bodies [] (o ∷ opens) = ⊥
AreSuspended bodies (own ∷ owns) [] = ⊥

-- where a tail call is just over no activation is open
abbrev pub IsHandedOver : Bool → Option (List MarkKind) → Type 0
IsHandedOver false top = Unit {0}
IsHandedOver true None = Unit {0}
IsHandedOver true (Some own) = ⊥

-- A tally of these activations, and of those that entries have ended. The last one that was suspended is the last of the tally.
pub record Tallies (t : Tally) (a : Activations) (over : List (List MarkKind)) : Type 0 where
  pub top : IsTop (length t.rows.items) a.current t.current
  pub suspended : AreSuspended (length t.rows.items) a.suspended (reverse t.suspended)
  pub handed_over : t.handed_over ≡ a.handed_over
  pub handing_over : IsHandedOver a.handed_over a.current
  pub rows : (body : ℕ) → body < length t.rows.items → slice_get t.rows.items body ≡ Some (row_over a.ended (over ++ unended a) body)

-- Where no tail call is just over, the one tally has this mark besides those of the other.
abbrev pub TalliesNext : MarkKind → (old new : Tally) → Type 0
TalliesNext m old new = (a : Activations) (over : List (List MarkKind)) → a.handed_over ≡ false → Tallies old a over
    → Tallies new (pass m a) (over ++ replaced_by m a)

-- how many marks activations have
abbrev pub marks_in : List (List MarkKind) → ℕ
marks_in owns = sum_by length owns

-- The activations of a tally have so few marks that its numbers can grow.
pub record HasRoom (t : Tally) : Type 0 where
  pub a : Activations
  pub over : List (List MarkKind)
  pub tallies : Tallies t a over
  pub few : marks_in (a.ended ++ (over ++ unended a)) < 2 ^ 128 - 1

-- A tally of the marks of a run.
abbrev pub TalliesMarks : Tally → List MarkKind → Type 0
TalliesMarks t marks = Tallies t (activations marks) (replaced none_yet marks)

-- The run is so short that this many more marks can be counted.
pub record HasRoomFor (more : ℕ) (t : Tally) : Type 0 where
  pub marks : List MarkKind
  pub tallies : TalliesMarks t marks
  pub few : length marks + more < 2 ^ 128 - 1

-- an entry is that of one of these bodies
abbrev pub IsKnown : (bodies : ℕ) → MarkKind → Type 0
IsKnown bodies (Enter body) = body < bodies
IsKnown bodies _ = Unit {0}
