-- The marks of a path: a call behind each save, and restores directly behind calls.
use Rattle.std.proofs.Common.{◌≡◌, ℕ, zero, suc, List, [], ◌∷◌, ◌++◌, Option, Some, None, Bool, true, false, cond, refl, sym, ap, ◌∙◌, subst, append_assoc}
use Rattle.std.specs.List.{list_all}
use Rattle.std.proofs.lemmas.Bool.{and_from}
use Rattle.sch_word.specs.declared.place.Place.{Place}
use Rattle.sch_word.proofs.facts.Booleans.{and_left, and_right, or_right}
use Rattle.sch_control.specs.declared.body.Entry.{Entry}
use Rattle.sch_word.specs.declared.mark.MarkKind.{MarkKind}
use Rattle.sch_word.specs.declared.mark.MarkKind.TheVariants as mark
use Rattle.sch_control.specs.declared.operation.Atom.TheVariants.{Constant, Literal, Variable}
use Rattle.sch_control.specs.declared.operation.Operand.{Operand}
use Rattle.sch_control.specs.declared.operation.Operand.TheVariants as operand
use Rattle.sch_word.specs.values.Places.{same_place, is_slot}
use Rattle.sch_layout.specs.BodyLayout.{Plan, move_mark, spill}
use Rattle.sch_control.specs.flow.Places.{variable_arrival}
use Rattle.sch_layout.specs.Moves.{Move}
use Rattle.sch_word.specs.runs.Activations.{is_call}
use Rattle.sch_layout.specs.OwnMarks.{has_call, SavesThenCalls, RestoresAfterCalls, OwnMarksStand}
use Rattle.sch_control.specs.flow.Paths.{Event, Binds, References, Saves, Calls, Tails, Returns, Ends, SavesCalled, some_call}
use Rattle.std.specs.Option.{option_to_list}
use Rattle.sch_layout.specs.PathMarks.{left_by, move_marks, restore_marks, path_marks, arrival_marks, entry_marks}
use Rattle.sch_layout.proofs.marks.LaidWays.{ways_are_paths}

-- neither a save, nor a call or a restore
abbrev is_quiet : MarkKind → Bool
is_quiet mark.Temp = true
is_quiet mark.Argument = true
is_quiet (mark.Spill x) = true
is_quiet (mark.Enter l) = true
is_quiet _ = false

abbrev Quiet : List MarkKind → Type 0
Quiet ms = list_all is_quiet ms ≡ true

after_more : (marks : List MarkKind) (called : Bool) → RestoresAfterCalls false marks → RestoresAfterCalls called marks
after_more marks true r = by marks r where
  by : (marks : List MarkKind) → RestoresAfterCalls false marks → RestoresAfterCalls true marks
  by [] r = r
  by (mark.Restore x ∷ marks) r = absurd (let e = r.0 in cc)
  by (mark.Call site ∷ marks) r = r
  by (mark.Enter l ∷ marks) r = r
  by (mark.Save x ∷ marks) r = r
  by (mark.Spill x ∷ marks) r = r
  by (mark.Temp ∷ marks) r = r
  by (mark.Argument ∷ marks) r = r
  by (mark.Return ∷ marks) r = r
  by (mark.Tail site ∷ marks) r = r
after_more marks false r = r

quiet_restores : (ms marks : List MarkKind) → Quiet ms → RestoresAfterCalls false marks → RestoresAfterCalls false (ms ++ marks)
quiet_restores [] marks q r = r
quiet_restores (mark.Temp ∷ ms) marks q r = quiet_restores ms marks q r
quiet_restores (mark.Argument ∷ ms) marks q r = quiet_restores ms marks q r
quiet_restores (mark.Spill x ∷ ms) marks q r = quiet_restores ms marks q r
quiet_restores (mark.Enter l ∷ ms) marks q r = quiet_restores ms marks q r
quiet_restores (mark.Save x ∷ ms) marks q r = absurd (cc)
quiet_restores (mark.Restore x ∷ ms) marks q r = absurd (cc)
quiet_restores (mark.Return ∷ ms) marks q r = absurd (cc)
quiet_restores (mark.Call site ∷ ms) marks q r = absurd (cc)
quiet_restores (mark.Tail site ∷ ms) marks q r = absurd (cc)

quiet_saves : (ms marks : List MarkKind) → Quiet ms → SavesThenCalls marks → SavesThenCalls (ms ++ marks)
quiet_saves [] marks q r = r
quiet_saves (mark.Temp ∷ ms) marks q r = quiet_saves ms marks q r
quiet_saves (mark.Argument ∷ ms) marks q r = quiet_saves ms marks q r
quiet_saves (mark.Spill x ∷ ms) marks q r = quiet_saves ms marks q r
quiet_saves (mark.Enter l ∷ ms) marks q r = quiet_saves ms marks q r
quiet_saves (mark.Save x ∷ ms) marks q r = absurd (cc)
quiet_saves (mark.Restore x ∷ ms) marks q r = absurd (cc)
quiet_saves (mark.Return ∷ ms) marks q r = absurd (cc)
quiet_saves (mark.Call site ∷ ms) marks q r = absurd (cc)
quiet_saves (mark.Tail site ∷ ms) marks q r = absurd (cc)

quiet_both : (xs ys : List MarkKind) → Quiet xs → Quiet ys → Quiet (xs ++ ys)
quiet_both [] ys q r = r
quiet_both (m ∷ xs) ys q r = and_from _ _ (and_left (is_quiet m) _ q) (quiet_both xs ys (and_right (is_quiet m) _ q) r)

-- a call that is behind is one of all
call_behind : (ms marks : List MarkKind) → has_call marks ≡ true → has_call (ms ++ marks) ≡ true
call_behind [] marks h = h
call_behind (m ∷ ms) marks h = or_right (is_call m) _ (call_behind ms marks h)

moves_quiet : (moves : List Move) → Quiet (move_marks moves)
moves_quiet [] = refl
moves_quiet (m ∷ moves) = quiet_both (left_by m.to (move_mark m) m.from) (move_marks moves) (left m.temp m.to m.from) (moves_quiet moves) where
  one : (temp : Bool) (to : Place) (s : Bool) → Quiet (option_to_list (cond temp (Some mark.Temp) (cond s (Some mark.Argument) None)))
  one true to s = refl
  one false to true = refl
  one false to false = refl

  left : (temp : Bool) (to : Place) (o : Operand Place) → Quiet (left_by to (cond temp (Some mark.Temp) (cond (is_slot to) (Some mark.Argument) None)) o)
  left temp to (operand.Atom (Variable p)) = by (same_place to p) where
    by : (t : Bool) → Quiet (cond t [] (option_to_list (cond temp (Some mark.Temp) (cond (is_slot to) (Some mark.Argument) None))))
    by true = refl
    by false = one temp to (is_slot to)
  left temp to (operand.Atom (Constant c)) = one temp to (is_slot to)
  left temp to (operand.Atom (Literal n)) = one temp to (is_slot to)
  left temp to (operand.Read site which atoms) = one temp to (is_slot to)

module _ (plan : Plan) where
  spill_quiet : (x : ℕ) → Quiet (option_to_list (spill plan x))
  spill_quiet x = by (is_slot (plan.place x)) where
    by : (t : Bool) → Quiet (option_to_list (cond t (Some (mark.Spill x)) None))
    by true = refl
    by false = refl

  restored_then : (xs : List ℕ) (marks : List MarkKind) → RestoresAfterCalls true marks → RestoresAfterCalls true (restore_marks plan xs ++ marks)
  restored_then [] marks r = r
  restored_then (x ∷ xs) marks r = by (is_slot (plan.place x)) (restored_then xs marks r) where
    by : (t : Bool) → RestoresAfterCalls true (restore_marks plan xs ++ marks) → RestoresAfterCalls true (cond t (restore_marks plan xs) (mark.Restore x ∷ restore_marks plan xs) ++ marks)
    by true r = r
    by false r = (refl, r)

  restored_saves : (xs : List ℕ) (marks : List MarkKind) → SavesThenCalls marks → SavesThenCalls (restore_marks plan xs ++ marks)
  restored_saves [] marks r = r
  restored_saves (x ∷ xs) marks r = by (is_slot (plan.place x)) (restored_saves xs marks r) where
    by : (t : Bool) → SavesThenCalls (restore_marks plan xs ++ marks) → SavesThenCalls (cond t (restore_marks plan xs) (mark.Restore x ∷ restore_marks plan xs) ++ marks)
    by true r = r
    by false r = r

  -- ## Restores

  path_restores : (es : List Event) → RestoresAfterCalls false (path_marks plan es)
  path_restores [] = tt
  path_restores (Binds x ∷ es) = quiet_restores (option_to_list (spill plan x)) (path_marks plan es) (spill_quiet x) (path_restores es)
  path_restores (References x ∷ es) = path_restores es
  path_restores (Saves x ∷ es) = by (is_slot (plan.place x)) (path_restores es) where
    by : (t : Bool) → RestoresAfterCalls false (path_marks plan es) → RestoresAfterCalls false (cond t [] (mark.Save x ∷ []) ++ path_marks plan es)
    by true r = r
    by false r = r
  path_restores (Calls a restores ∷ es) =
      subst (RestoresAfterCalls false) (sym (append_assoc (move_marks (plan.moves false a)) (mark.Call a.site ∷ restore_marks plan restores) (path_marks plan es)))
      (quiet_restores (move_marks (plan.moves false a)) _ (moves_quiet (plan.moves false a)) (restored_then restores (path_marks plan es) (after_more (path_marks plan es) true (path_restores es))))
  path_restores (Tails a ∷ es) =
      subst (RestoresAfterCalls false) (sym (append_assoc (move_marks (plan.moves true a)) (mark.Tail a.site ∷ []) (path_marks plan es)))
      (quiet_restores (move_marks (plan.moves true a)) _ (moves_quiet (plan.moves true a)) (path_restores es))
  path_restores (Returns ∷ es) = path_restores es
  path_restores (Ends ∷ es) = path_restores es

  -- ## Saves

  path_calls : (es : List Event) → some_call es ≡ true → has_call (path_marks plan es) ≡ true
  path_calls [] c = absurd (cc)
  path_calls (Binds x ∷ es) c = call_behind (option_to_list (spill plan x)) (path_marks plan es) (path_calls es c)
  path_calls (References x ∷ es) c = path_calls es c
  path_calls (Saves x ∷ es) c = call_behind (cond (is_slot (plan.place x)) [] (mark.Save x ∷ [])) (path_marks plan es) (path_calls es c)
  path_calls (Calls a restores ∷ es) c =
      ap has_call (append_assoc (move_marks (plan.moves false a)) (mark.Call a.site ∷ restore_marks plan restores) (path_marks plan es)) ∙ call_behind (move_marks (plan.moves false a)) _ refl
  path_calls (Tails a ∷ es) c = call_behind (move_marks (plan.moves true a) ++ (mark.Tail a.site ∷ [])) (path_marks plan es) (path_calls es c)
  path_calls (Returns ∷ es) c = path_calls es c
  path_calls (Ends ∷ es) c = path_calls es c

  path_saves : (es : List Event) → SavesCalled es → SavesThenCalls (path_marks plan es)
  path_saves [] s = tt
  path_saves (Binds x ∷ es) s = quiet_saves (option_to_list (spill plan x)) (path_marks plan es) (spill_quiet x) (path_saves es s)
  path_saves (References x ∷ es) s = path_saves es s
  path_saves (Saves x ∷ es) s = by (is_slot (plan.place x)) (path_calls es s.0) (path_saves es s.1) where
    by : (t : Bool) → has_call (path_marks plan es) ≡ true → SavesThenCalls (path_marks plan es) → SavesThenCalls (cond t [] (mark.Save x ∷ []) ++ path_marks plan es)
    by true c r = r
    by false c r = (c, r)
  path_saves (Calls a restores ∷ es) s =
      subst SavesThenCalls (sym (append_assoc (move_marks (plan.moves false a)) (mark.Call a.site ∷ restore_marks plan restores) (path_marks plan es)))
      (quiet_saves (move_marks (plan.moves false a)) _ (moves_quiet (plan.moves false a)) (restored_saves restores (path_marks plan es) (path_saves es s)))
  path_saves (Tails a ∷ es) s =
      subst SavesThenCalls (sym (append_assoc (move_marks (plan.moves true a)) (mark.Tail a.site ∷ []) (path_marks plan es)))
      (quiet_saves (move_marks (plan.moves true a)) _ (moves_quiet (plan.moves true a)) (path_saves es s))
  path_saves (Returns ∷ es) s = path_saves es s
  path_saves (Ends ∷ es) s = path_saves es s

  -- ## Entries

  arrivals_quiet : (count from : ℕ) → Quiet (arrival_marks plan from count)
  arrivals_quiet zero from = refl
  arrivals_quiet (suc count) from = quiet_both (cond (same_place (plan.place from) (variable_arrival from)) [] (option_to_list (spill plan from))) _ (by (same_place (plan.place from) (variable_arrival from))) (arrivals_quiet count (suc from)) where
    by : (t : Bool) → Quiet (cond t [] (option_to_list (spill plan from)))
    by true = refl
    by false = spill_quiet from

  entry_quiet : (entry : Option Entry) → Quiet (entry_marks plan entry)
  entry_quiet None = refl
  entry_quiet (Some e) = arrivals_quiet (suc e.formals) 1

pub own_marks_stand : OwnMarksStand
own_marks_stand codes own w c plan e laid called =
    let path = ways_are_paths codes own w c plan e laid in
    subst (λ l. SavesThenCalls l × RestoresAfterCalls false l) (sym path.1.1.1) (
      quiet_saves (entry_marks plan c.entry) _ (entry_quiet plan c.entry) (path_saves plan path.0 (called path.0 path.1.0 path.1.1.0)),
      quiet_restores (entry_marks plan c.entry) _ (entry_quiet plan c.entry) (path_restores plan path.0),
    )
