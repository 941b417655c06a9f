-- What each mark does to the activations before it.
use Rattle.std.proofs.Common.{◌≡◌, List, [], ◌∷◌, ◌++◌, Bool, true, false, cond, Option, Some, None, refl, sym, ap, subst, ◌∙◌, append_assoc}
use Rattle.std.specs.Prelude.{◌&&◌, not}
use Rattle.std.proofs.lemmas.List.{append-nil}
use Rattle.sch_word.specs.declared.mark.MarkKind.{MarkKind}
use Rattle.sch_word.specs.declared.mark.MarkKind.TheVariants.{Enter, Save, Restore, Spill, Temp, Argument, Call, Return, Tail}
use Rattle.sch_frames.specs.declared.instruction.Instruction.TheVariants.{Mark}
use Rattle.sch_word.specs.runs.Activations.{is_enter}
use Rattle.sch_frames.specs.Tree.{Code}
use Rattle.sch_word.specs.runs.Activations.{Activations, activations, after, none_yet, pass, resumed, settled, with_mark}
use Rattle.sch_word.proofs.facts.AfterMarks.{after_both}
use Rattle.sch_frames.proofs.MarksAndEnds.{stands_alone, waiting}
use Rattle.sch_frames.specs.Ways.{AreWays, IsWay}

-- the activations behind one mark more
one_more : (marks : List MarkKind) (m : MarkKind) (a : Activations) → activations marks ≡ a → activations (marks ++ m ∷ []) ≡ pass m (settled m a)
one_more marks m a e = after_both none_yet marks (m ∷ []) ∙ ap (λ a. pass m (settled m a)) e

-- ---- what has ended stays

record Longer (first whole : List (List MarkKind)) : Type 0 where
  more : List (List MarkKind)
  is : whole ≡ first ++ more

the_same : (ended : List (List MarkKind)) → Longer ended ended
the_same ended = record { more = []; is = sym (append-nil ended) }

with_more : (ended more : List (List MarkKind)) → Longer ended (ended ++ more)
with_more ended more = record { more = more; is = refl }

still_longer : {a b c : List (List MarkKind)} → Longer a b → Longer b c → Longer a c
still_longer {a} l m = record { more = l.more ++ m.more; is = m.is ∙ (ap (λ x. x ++ m.more) l.is ∙ append_assoc a l.more m.more) }

resumed_keeps : (suspended ended : List (List MarkKind)) → Longer ended (resumed suspended ended).ended
resumed_keeps [] ended = the_same ended
resumed_keeps (own ∷ suspended) ended = the_same ended

settled_keeps : (m : MarkKind) (a : Activations) → Longer a.ended (settled m a).ended
settled_keeps m a = by (a.handed_over && not (is_enter m))
  where
    by : (b : Bool) → Longer a.ended (cond b (resumed a.suspended a.ended) (record a { handed_over = false })).ended
    by true = resumed_keeps a.suspended a.ended
    by false = the_same a.ended

pass_keeps : (m : MarkKind) (a : Activations) → Longer a.ended (pass m a).ended
pass_keeps (Tail site) a = with_more a.ended (with_mark (Tail site) a.current)
pass_keeps Return a = still_longer (with_more a.ended (with_mark Return a.current)) (resumed_keeps a.suspended _)
pass_keeps _ a = the_same a.ended

after_keeps : (a : Activations) (marks : List MarkKind) → Longer a.ended (after a marks).ended
after_keeps a [] = the_same a.ended
after_keeps a (m ∷ marks) = still_longer (still_longer (settled_keeps m a) (pass_keeps m (settled m a))) (after_keeps (pass m (settled m a)) marks)

module _ (codes : List Code) where
  first_ways : (first more : List (List MarkKind)) → AreWays codes (first ++ more) → AreWays codes first
  first_ways [] more h = tt
  first_ways (own ∷ first) more h = (h.0, first_ways first more h.1)

  -- what holds of a run holds of its beginnings
  pub beginning_ways : (first more whole : List MarkKind) → first ++ more ≡ whole → AreWays codes (activations whole).ended → AreWays codes (activations first).ended
  beginning_ways first more whole e h =
      let l = after_keeps (activations first) more in
      let is : (activations whole).ended ≡ (activations first).ended ++ l.more = ap (λ ms. (activations ms).ended) (sym e) ∙ (ap (λ a. a.ended) (after_both none_yet first more) ∙ l.is) in
      first_ways (activations first).ended l.more (subst (AreWays codes) is h)

  ways_and_one : (first : List (List MarkKind)) (own : List MarkKind) → AreWays codes first → IsWay codes own → AreWays codes (first ++ own ∷ [])
  ways_and_one [] own h w = (w, tt)
  ways_and_one (x ∷ first) own h w = (h.0, ways_and_one first own h.1 w)

  -- ---- where a run stands

  -- what is told of activations by marks; those that have ended have taken ways
  pub record Told (current : Option (List MarkKind)) (suspended : List (List MarkKind)) (handed_over : Bool) (marks : List MarkKind) : Type 0 where
    pub ended : List (List MarkKind)
    pub are : activations marks ≡ record { current = current; suspended = suspended; handed_over = handed_over; ended = ended }
    pub ways : AreWays codes ended

  -- an activation with these own marks is on top
  abbrev pub On : (own : List MarkKind) → (suspended : List (List MarkKind)) → (marks : List MarkKind) → Type 0
  On own suspended marks = Told (Some own) suspended false marks

  -- a body may be entered, whatever is on top
  pub record Level (suspended : List (List MarkKind)) (marks : List MarkKind) : Type 0 where
    pub current : Option (List MarkKind)
    pub handed_over : Bool
    pub told : Told current suspended handed_over marks

  -- the activation that was suspended last is on top again
  abbrev pub Back : (suspended : List (List MarkKind)) → (marks : List MarkKind) → Type 0
  Back [] marks = Told None [] false marks
  Back (own ∷ suspended) marks = On own suspended marks

  abbrev pub Sound : (marks : List MarkKind) → Type 0
  Sound marks = AreWays codes (activations marks).ended

  pub told_sound : {current : Option (List MarkKind)} {suspended : List (List MarkKind)} {handed_over : Bool} {marks : List MarkKind} → Told current suspended handed_over marks → Sound marks
  told_sound t = subst (AreWays codes) (ap (λ a. a.ended) (sym t.are)) t.ways

  pub entered : {suspended : List (List MarkKind)} {marks : List MarkKind} → (label : _) → Level suspended marks → On (Enter label ∷ []) suspended (marks ++ Enter label ∷ [])
  entered {suspended} {marks} label l = by l.handed_over l.told
    where
      by : (handed_over : Bool) → Told l.current suspended handed_over marks → On (Enter label ∷ []) suspended (marks ++ Enter label ∷ [])
      by true t = record { ended = t.ended; are = one_more marks (Enter label) _ t.are; ways = t.ways }
      by false t = record { ended = t.ended; are = one_more marks (Enter label) _ t.are; ways = t.ways }

  pub called : {own : List MarkKind} {suspended : List (List MarkKind)} {marks : List MarkKind} → (site : _) → On own suspended marks
      → Level ((own ++ Call site ∷ []) ∷ suspended) (marks ++ Call site ∷ [])
  called {own} {suspended} {marks} site t =
      record { current = None; handed_over = false; told = record { ended = t.ended; are = one_more marks (Call site) _ t.are; ways = t.ways } }

  pub tail_called : {own : List MarkKind} {suspended : List (List MarkKind)} {marks : List MarkKind} → (site : _) → On own suspended marks → IsWay codes (own ++ Tail site ∷ [])
      → Level suspended (marks ++ Tail site ∷ [])
  tail_called {own} {suspended} {marks} site t w = record {
    current = None;
    handed_over = true;
    told = record { ended = _; are = one_more marks (Tail site) _ t.are; ways = ways_and_one t.ended (own ++ Tail site ∷ []) t.ways w };
  }

  pub returned : {own : List MarkKind} (suspended : List (List MarkKind)) {marks : List MarkKind} → On own suspended marks → IsWay codes (own ++ Return ∷ []) → Back suspended (marks ++ Return ∷ [])
  returned {own} [] {marks} t w = record { ended = _; are = one_more marks Return _ t.are; ways = ways_and_one t.ended (own ++ Return ∷ []) t.ways w }
  returned {own} (x ∷ suspended) {marks} t w = record { ended = _; are = one_more marks Return _ t.are; ways = ways_and_one t.ended (own ++ Return ∷ []) t.ways w }

  -- any other mark is one more of its own
  pub one_own : {own : List MarkKind} {suspended : List (List MarkKind)} {marks : List MarkKind} → (m : MarkKind) (form : Bool) → stands_alone form (Mark m) ≡ true → waiting (Mark m) ≡ None
      → On own suspended marks
      → On (own ++ m ∷ []) suspended (marks ++ m ∷ [])
  one_own (Enter label) form h e t = absurd (let bad : false ≡ true = h in cc)
  one_own (Call site) form h e t = absurd (let bad : Some (Call site) ≡ None = e in cc)
  one_own (Tail site) form h e t = absurd (let bad : Some (Tail site) ≡ None = e in cc)
  one_own Return form h e t = absurd (let bad : Some Return ≡ None = e in cc)
  one_own {own} {suspended} {marks} (Save x) form h e t = record { ended = t.ended; are = one_more marks (Save x) _ t.are; ways = t.ways }
  one_own {own} {suspended} {marks} (Restore x) form h e t = record { ended = t.ended; are = one_more marks (Restore x) _ t.are; ways = t.ways }
  one_own {own} {suspended} {marks} (Spill x) form h e t = record { ended = t.ended; are = one_more marks (Spill x) _ t.are; ways = t.ways }
  one_own {own} {suspended} {marks} Temp form h e t = record { ended = t.ended; are = one_more marks Temp _ t.are; ways = t.ways }
  one_own {own} {suspended} {marks} Argument form h e t = record { ended = t.ended; are = one_more marks Argument _ t.are; ways = t.ways }
