-- Where marks stand at their instructions, each has an instruction behind it, with no label between.
use Rattle.std.proofs.Common.{◌≡◌, List, [], ◌∷◌, Bool, true, false, refl, subst}
use Rattle.std.specs.Prelude.{◌&&◌, not}
use Rattle.std.proofs.lemmas.Bool.{and_parts}
use Rattle.sch_word.specs.declared.mark.MarkKind.{MarkKind}
use Rattle.sch_word.specs.declared.mark.MarkKind.TheVariants as mark
use Rattle.sch_frames.specs.Covered.{marks_settled}
use Rattle.sch_frames.specs.Standing.{Before, Marked, Called, Other, before_next, belongs, is_restore, is_unmarked, marked_before_next, marks_stand}
use Rattle.sch_frames.specs.declared.instruction.Instruction.{Instruction}
use Rattle.sch_frames.specs.declared.instruction.Instruction.TheVariants.{Label, Mark}

-- whether a mark waits for its instruction
abbrev pub is_waiting : Before → Bool
is_waiting (Marked m) = true
is_waiting Called = false
is_waiting Other = false

none_waits : (m : MarkKind) → is_waiting (marked_before_next m) ≡ false
none_waits (mark.Call site) = refl
none_waits (mark.Restore x) = refl
none_waits _ = refl

-- a mark belongs neither to a label nor to a mark
no_label : (m : MarkKind) (i : Instruction) → belongs m i ≡ true → (is : List Instruction) → marks_settled false is ≡ true → marks_settled true (i ∷ is) ≡ true
no_label m (Label l) b is r = absurd (by m b) where
  by : (m : MarkKind) → belongs m (Label l) ≡ true → ⊥
  by (mark.Save x) b = cc
  by (mark.Spill x) b = cc
  by mark.Argument b = cc
  by mark.Temp b = cc
  by (mark.Restore x) b = cc
  by (mark.Call site) b = cc
  by (mark.Tail site) b = cc
  by mark.Return b = cc
  by (mark.Enter l) b = cc
no_label m (Mark k) b is r = absurd (by m b) where
  by : (m : MarkKind) → belongs m (Mark k) ≡ true → ⊥
  by (mark.Save x) b = cc
  by (mark.Spill x) b = cc
  by mark.Argument b = cc
  by mark.Temp b = cc
  by (mark.Restore x) b = cc
  by (mark.Call site) b = cc
  by (mark.Tail site) b = cc
  by mark.Return b = cc
  by (mark.Enter l) b = cc
no_label m _ b is r = r

behind : (i : Instruction) (is : List Instruction) → marks_settled (is_waiting (before_next i)) is ≡ true → marks_settled false (i ∷ is) ≡ true
behind (Mark m) is r = r
behind (Label l) is r = r
behind _ is r = r

pub settled : (before : Before) (is : List Instruction) → marks_stand before is ≡ true → marks_settled (is_waiting before) is ≡ true
settled (Marked m) [] h = absurd (cc)
settled Called [] h = refl
settled Other [] h = refl
settled (Marked m) (i ∷ is) h =
    let p = and_parts (belongs m i) _ h in no_label m i p.0 is (subst (λ w. marks_settled w is ≡ true) (none_waits m) (settled (marked_before_next m) is p.1))
settled Called (i ∷ is) h = behind i is (settled (before_next i) is (and_parts (is_unmarked i) _ h).1)
settled Other (i ∷ is) h = behind i is (settled (before_next i) is (and_parts (is_unmarked i && not (is_restore i)) _ h).1)
