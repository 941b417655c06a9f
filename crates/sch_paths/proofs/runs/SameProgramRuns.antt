-- Programs whose bodies do the same, but for marks, have the same run.
use Rattle.std.proofs.Common.{◌≡◌, ℕ, zero, suc, List, [], ◌∷◌, Option, Some, None, refl, ap}
use Rattle.std.specs.Prelude.{slice_get}
use Rattle.sch_word.specs.declared.answer.Answer.{Answer}
use Rattle.sch_word.specs.values.Values.{Value, unspecified}
use Rattle.sch_word.specs.runs.Charges.{fit}
use Rattle.sch_word.specs.runs.Computation.{gives, stops, spent, in_store, take_entry}
use Rattle.sch_word.specs.declared.mark.MarkKind.TheVariants.{Enter}
use Rattle.sch_control.specs.declared.body.Entry.{Entry}
use Rattle.sch_control.specs.Meaning.{World, Result, Callee, Reading, marked, do_body}
use Rattle.sch_control.specs.Run.{Bodies, enter_body, enter, do_forms, entry_at, outcome_of, seen_of, beginning, do_known, bodies_of, run, starting_world}
use Rattle.sch_control.specs.Tree.{Expression, Code, Source}
use Rattle.sch_control.specs.Valid.{entries_of}
use Rattle.sch_paths.specs.Conditions.{Alike, CalleesAlike, BodiesAlike, DoesTheSame}
use Rattle.sch_paths.proofs.runs.AlikeWithMarks.{outcome_alike, return_alike}

module _ (bodies bodies' : Bodies) (alike : BodiesAlike bodies bodies') where
  entered_alike : (callee callee' : Callee) → CalleesAlike callee callee' → (e : Option Entry) → CalleesAlike (enter_body bodies callee e) (enter_body bodies' callee' e)
  entered_alike callee callee' c None self p vs depth w w' q = tt
  entered_alike callee callee' c (Some e) self p vs depth w w' q =
      outcome_alike w.marks w'.marks (in_store (fit e.formals e.rest vs) w.state) (in_store (fit e.formals e.rest vs) w'.state) _ _ (ap (in_store (fit e.formals e.rest vs)) q)
      (λ arguments s is. outcome_alike w.marks w'.marks (in_store take_entry s) (in_store take_entry s) _ _ refl
      (λ u s is. alike p.label callee callee' c depth self arguments _ _ refl))

  enters_alike : (entry : ℕ → Option Entry) (n : ℕ) → CalleesAlike (enter entry bodies n) (enter entry bodies' n)
  enters_alike entry zero self p vs depth w w' q = q
  enters_alike entry (suc n) self p vs depth w w' q = entered_alike (enter entry bodies n) (enter entry bodies' n) (enters_alike entry n) (entry p.label) self p vs depth w w' q

  forms_alike : (entries : List (Option Entry)) (label : ℕ) (callee callee' : Callee) → CalleesAlike callee callee' → (depth : ℕ) (w w' : World) → w'.state ≡ w.state
      → Alike (do_forms entries label bodies callee depth w) (do_forms entries label bodies' callee' depth w')
  forms_alike [] label callee callee' c depth w w' q = (refl, q)
  forms_alike (Some e ∷ entries) label callee callee' c depth w w' q = forms_alike entries (suc label) callee callee' c depth w w' q
  forms_alike (None ∷ entries) label callee callee' c depth w w' q =
      return_alike _ _ _ _ (alike label callee callee' c depth unspecified [] (marked (Enter label) w) (marked (Enter label) w') q)
      (λ v w w' q. forms_alike entries (suc label) callee callee' c depth w w' q)

  pub outcomes_alike : (entered : List (Option Entry)) (depth entries : ℕ) (w w' : World) → w'.state ≡ w.state
      → Alike (outcome_of entered bodies depth entries w) (outcome_of entered bodies' depth entries w')
  outcomes_alike entered depth entries w w' q =
      forms_alike entered 0 (enter (entry_at entered) bodies entries) (enter (entry_at entered) bodies' entries) (enters_alike (entry_at entered) entries) depth w w' q

-- what is seen of results that are alike is the same
pub seen_alike : (answers : List Answer) (entries : ℕ) (r r' : Result) → Alike r r' → seen_of answers entries r' ≡ seen_of answers entries r
seen_alike answers entries None None a = refl
seen_alike answers entries (Some (gives v w)) (Some (gives u w')) a = ap (λ s. seen_of answers entries (Some (gives v (record { state = s; marks = [] })))) a.1
seen_alike answers entries (Some (stops why w)) (Some (stops why' w')) a =
    rw a.0 (ap (λ s. seen_of answers entries (Some (stops why (record { state = s; marks = [] })))) a.1)
seen_alike answers entries (Some (spent w)) (Some (spent w')) a = ap (λ s. seen_of answers entries (Some (spent (record { state = s; marks = [] })))) a
seen_alike answers entries None (Some o) a = absurd a
seen_alike answers entries (Some (gives v w)) None a = absurd a
seen_alike answers entries (Some (gives v w)) (Some (stops why w')) a = absurd a
seen_alike answers entries (Some (gives v w)) (Some (spent w')) a = absurd a
seen_alike answers entries (Some (stops why w)) None a = absurd a
seen_alike answers entries (Some (stops why w)) (Some (gives v w')) a = absurd a
seen_alike answers entries (Some (stops why w)) (Some (spent w')) a = absurd a
seen_alike answers entries (Some (spent w)) None a = absurd a
seen_alike answers entries (Some (spent w)) (Some (gives v w')) a = absurd a
seen_alike answers entries (Some (spent w)) (Some (stops why w')) a = absurd a

-- ## Programs of placed bodies

-- the bodies of a program, each by a tree of its own under a reading of its own
abbrev pub placed_known : Option Code → Reading → Expression → Callee → (depth : ℕ) → (self : Value) → (arguments : List Value) → World → Result
placed_known None reading e callee depth self arguments w = None
placed_known (Some c) reading e callee depth self arguments w = do_body reading callee depth e (beginning c.entry self arguments) w

abbrev pub placed_bodies : List Code → (readings : ℕ → Reading) → (trees : ℕ → Expression) → Bodies
placed_bodies codes readings trees label = placed_known (slice_get codes label) (readings label) (trees label)

-- The program's run is that of its bodies with saves and restores.
pub placed_run : (p : Source) (readings : ℕ → Reading) (trees : ℕ → Expression) → ((label : ℕ) (c : Code) → slice_get p.bodies label ≡ Some c → DoesTheSame c (trees label))
    → (heap depth : ℕ) (answers : List Answer) (entries : ℕ)
    → seen_of answers entries (outcome_of (entries_of p.bodies) (placed_bodies p.bodies readings trees) depth entries (starting_world p.statics p.library heap answers entries))
    ≡ run p heap depth answers entries
placed_run p readings trees does heap depth answers entries =
    seen_alike answers entries _ _
    (outcomes_alike (bodies_of p.bodies) (placed_bodies p.bodies readings trees) (λ label. by label (slice_get p.bodies label) refl) (entries_of p.bodies) depth entries _ _ refl) where
      by : (label : ℕ) (found : Option Code) → slice_get p.bodies label ≡ found → (callee callee' : Callee) → CalleesAlike callee callee'
          → (depth : ℕ) (self : Value) (arguments : List Value) (w w' : World) → w'.state ≡ w.state
          → Alike (do_known found callee depth self arguments w) (placed_known found (readings label) (trees label) callee' depth self arguments w')
      by label None e callee callee' c depth self arguments w w' q = tt
      by label (Some code) e callee callee' c depth self arguments w w' q = does label code e (readings label) callee callee' c depth (beginning code.entry self arguments) w w' q
