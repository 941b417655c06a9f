-- The own marks of each activation that has ended are those on one way through its body.
use Rattle.std.proofs.Common.{◌≡◌, ℕ, zero, suc, ◌+◌, arith, List, [], ◌∷◌, ◌++◌, length, Bool, true, false, cond, Option, Some, None, refl, sym, ap, subst, ◌∙◌, append_assoc, append-nil, map}
use Rattle.std.specs.Prelude.{nat_eq, slice_get}
use Rattle.std.specs.List.{list_all}
use Rattle.std.proofs.lemmas.Bool.{and_parts}
use Rattle.sch_word.specs.declared.answer.Answer.{Answer}
use Rattle.sch_word.specs.declared.place.Place.TheVariants.{Slot}
use Rattle.sch_word.specs.values.Checked.{Checked, passes, refused, exhausted, unreachable}
use Rattle.sch_word.specs.values.Values.{Value, is_true, unspecified}
use Rattle.sch_word.specs.runs.Charges.{charge_each, fit}
use Rattle.sch_word.specs.runs.Computation.{Entry as Entered, Outcome, State, checked_call, gives, in_store, procedures_from, spent, stops, take_entry, with_rest}
use Rattle.sch_word.specs.runs.Store.{Store}
use Rattle.sch_word.proofs.SameStore.{Gives, fit_length}
use Rattle.sch_control.specs.declared.body.Entry.{Entry}
use Rattle.sch_word.specs.declared.mark.MarkKind.{MarkKind}
use Rattle.sch_word.specs.declared.mark.MarkKind.TheVariants as mark
use Rattle.sch_control.specs.CoveredOperands.{is_form}
use Rattle.sch_word.specs.values.Options.{when_some}
use Rattle.sch_control.specs.Meaning.{Callee, Result, World, call_in, entered as into, marked, on_checked, on_ending, on_outcome, on_return}
use Rattle.sch_control.specs.Operations.{Ending, member_bytes, members_made, operate, with_procedures}
use Rattle.sch_word.specs.runs.Procedures.{Procedure}
use Rattle.std.specs.Option.{option_flatten}
use Rattle.sch_control.specs.Run.{do_forms, enter, enter_body, entry_at, outcome_of, starting_world}
use Rattle.sch_frames.specs.declared.instruction.Instruction.{Instruction}
use Rattle.sch_frames.specs.declared.instruction.Instruction.TheVariants.{Do, Store as Put, Copy, Pass, Fix, Call, Tail, Return, End, IfFalse, Jump, Label, Mark}
use Rattle.sch_word.specs.values.Places.{link_place}
use Rattle.sch_word.proofs.facts.Lists.{each_at}
use Rattle.sch_frames.specs.Meaning.{Cell, Frame, Is, Junk, Link, after_call, beginning, execute, execute_each, held, if_link, parts, sought, value_in, with_members}
use Rattle.sch_frames.specs.Run.{bodies_of, do_known, entries_of}
use Rattle.sch_frames.specs.Tree.{Code, Source}
use Rattle.sch_control.specs.flow.Places.{formals_of}
use Rattle.sch_frames.specs.Covered.{is_covered_code}
use Rattle.sch_frames.specs.Standing.{all_marks_stand, code_marks_stand}
use Rattle.sch_frames.proofs.MarksAndEnds.{belongs, code_stands, marks_stand, stands_alone, waiting}
use Rattle.sch_frames.specs.Ways.{IsWay, way}
use Rattle.sch_frames.proofs.Turns.{Back, Level, On, Sound, called, entered, one_own, returned, tail_called, told_sound}

-- what is sought behind an instruction, with the mark that waits there
passed_over : (l : ℕ) (i : Instruction) → (Q : Option MarkKind → Option ℕ → Type 0) → ((e : Option MarkKind) → Q e (Some l)) → Q None None → Q (waiting i) (sought l i)
passed_over l (Label k) Q some none = by (nat_eq k l)
  where
    by : (b : Bool) → Q None (cond b None (Some l))
    by true = none
    by false = some None
passed_over l (Mark m) Q some none = some (waiting (Mark m))
passed_over l _ Q some none = some None

-- no label stands behind a mark that waits
no_label : (m : MarkKind) (l : ℕ) (i : Instruction) → belongs m i ≡ true → sought l i ≡ Some l
no_label (mark.Call site) l (Call spread count) h = refl
no_label (mark.Tail site) l (Tail spread count) h = refl
no_label mark.Return l Return h = refl
no_label _ l _ h = absurd cc

module _ (codes : List Code) where
  -- a result where a body is left: what it gives keeps P, and what has ended has taken ways
  abbrev pub Ends : (P : List MarkKind → Type 0) → Result → Type 0
  Ends P None = Unit {0}
  Ends P (Some (gives v w)) = P w.marks
  Ends P (Some (stops why w)) = Sound codes w.marks
  Ends P (Some (spent w)) = Sound codes w.marks

  -- a procedure that is entered leaves the one that was suspended last on top
  abbrev Returns : Callee → Type 0
  Returns callee = (suspended : List (List MarkKind)) (self : Value) (p : Procedure) (vs : List Value) (depth : ℕ) (w : World)
      → Level codes suspended w.marks → Ends (Back codes suspended) (callee self p vs depth w)

  level_sound : {suspended : List (List MarkKind)} {marks : List MarkKind} → Level codes suspended marks → Sound codes marks
  level_sound l = told_sound codes l.told

  valued : {A : Type 0} (P : List MarkKind → Type 0) (o : Option A) (next : A → Result) → ((a : A) → o ≡ Some a → Ends P (next a)) → Ends P (when_some o next)
  valued P None next h = tt
  valued P (Some a) next h = h a refl

  linked : (P : List MarkKind → Type 0) (c : Cell) (r : Result) → (c ≡ Link → Ends P r) → Ends P (if_link c r)
  linked P Link r h = h refl
  linked P (Is v) r h = tt
  linked P Junk r h = tt

  outcome : {V : Type 0} (P : List MarkKind → Type 0) (marks : List MarkKind) → Sound codes marks → (o : Outcome (State Procedure) V) (next : V → World → Result)
      → ((v : V) (s : State Procedure) → o ≡ gives v s → Ends P (next v (record { state = s; marks = marks }))) → Ends P (on_outcome marks o next)
  outcome P marks sound (gives v s) next h = h v s refl
  outcome P marks sound (stops why s) next h = sound
  outcome P marks sound (spent s) next h = sound

  ending : (P : List MarkKind → Type 0) (marks : List MarkKind) → Sound codes marks → (o : Ending) (next : Value → World → Result)
      → ((v : Value) (s : State Procedure) → o ≡ Some (gives v s) → Ends P (next v (record { state = s; marks = marks }))) → Ends P (on_ending marks o next)
  ending P marks sound None next h = tt
  ending P marks sound (Some o) next h = outcome P marks sound o next (λ v s e. h v s (ap Some e))

  came_back : (P Q : List MarkKind → Type 0) (r : Result) (next : Value → World → Result) → Ends P r → ((v : Value) (u : World) → P u.marks → Ends Q (next v u)) → Ends Q (on_return r next)
  came_back P Q None next h k = tt
  came_back P Q (Some (gives v w)) next h k = k v w h
  came_back P Q (Some (stops why w)) next h k = h
  came_back P Q (Some (spent w)) next h k = h

  as_given : (P Q : List MarkKind → Type 0) → ((marks : List MarkKind) → P marks → Q marks) → (r : Result) → Ends P r → Ends Q r
  as_given P Q f None h = tt
  as_given P Q f (Some (gives v w)) h = f w.marks h
  as_given P Q f (Some (stops why w)) h = h
  as_given P Q f (Some (spent w)) h = h

  module _ (callee : Callee) (returns : Returns callee) (depth : ℕ) where
    call_comes : (spread tail : Bool) (suspended : List (List MarkKind)) (vs : List Value) (w : World) → Level codes suspended w.marks
        → Ends (Back codes suspended) (call_in callee spread tail depth vs w)
    call_comes spread tail suspended vs w level = by (checked_call w.state.procedures w.state.store spread tail depth vs) vs
      where
        by : (c : Checked _) (vs : List Value) → Ends (Back codes suspended) (on_checked c w (into callee vs w))
        by (passes e) [] = tt
        by (passes e) (v ∷ vs) = returns suspended v e.procedure e.arguments e.depth w level
        by (refused why) vs = level_sound level
        by exhausted vs = level_sound level
        by unreachable vs = level_sound level

    -- behind a call that goes through, the caller goes on
    call_goes : (spread : Bool) (suspended : List (List MarkKind)) (vs : List Value) (w : World) → Level codes suspended w.marks → (P : List MarkKind → Type 0) (next : Value → World → Result)
        → ((e : Entered Procedure) → checked_call w.state.procedures w.state.store spread false depth vs ≡ passes e → (v : Value) (u : World) → Back codes suspended u.marks → Ends P (next v u))
        → Ends P (on_return (call_in callee spread false depth vs w) next)
    call_goes spread suspended vs w level P next go = by (checked_call w.state.procedures w.state.store spread false depth vs) refl vs
      where
        by : (c : Checked (Entered Procedure)) → checked_call w.state.procedures w.state.store spread false depth vs ≡ c → (us : List Value)
            → Ends P (on_return (on_checked c w (into callee us w)) next)
        by (passes e) i [] = tt
        by (passes e) i (v ∷ us) =
            came_back (Back codes suspended) P (callee v e.procedure e.arguments e.depth w) next (returns suspended v e.procedure e.arguments e.depth w level) (go e i)
        by (refused why) i us = level_sound level
        by exhausted i us = level_sound level
        by unreachable i us = level_sound level

    -- ---- one body

    module _ (label : ℕ) (code : Code) (self : Value) (arguments : List Value) (start : State Procedure) (is : slice_get codes label ≡ Some code) (fitting : length arguments ≡ formals_of code.entry)
        (suspended : List (List MarkKind)) (P : List MarkKind → Type 0)
        (back : (marks : List MarkKind) → Back codes suspended marks → P marks)
        (finished : is_form code.entry ≡ true → (own marks : List MarkKind) → On codes own suspended marks → P marks) where
      abbrev Whole : List MarkKind → Type 0
      Whole marks = way code.instructions None (beginning code.entry self arguments) start marks

      a_way : (marks : List MarkKind) → Whole marks → IsWay codes (mark.Enter label ∷ marks)
      a_way marks h = record { label = label; code = code; self = self; arguments = arguments; state = start; marks = marks; body = is; fitting = fitting; own_marks = refl; along = h }

      -- a way on is a way through the whole body
      abbrev Leads : Option ℕ → Option MarkKind → Frame → State Procedure → List MarkKind → List Instruction → Type 0
      Leads (Some l) waits f s before rest = (marks : List MarkKind) → way rest (Some l) f s marks → Whole (before ++ marks)
      Leads None None f s before rest = (marks : List MarkKind) → way rest None f s marks → Whole (before ++ marks)
      Leads None (Some m) f s before rest = (marks : List MarkKind) → way rest None f s marks → Whole (before ++ m ∷ marks)

      -- the body's own marks, and perhaps one that waits for its instruction
      abbrev Mine : Option ℕ → Option MarkKind → (before marks : List MarkKind) → Type 0
      Mine (Some l) waits before marks = On codes (mark.Enter label ∷ before) suspended marks
      Mine None None before marks = On codes (mark.Enter label ∷ before) suspended marks
      Mine None (Some m) before marks = (prior : List MarkKind) × ((marks ≡ prior ++ m ∷ []) × On codes (mark.Enter label ∷ before) suspended prior)

      abbrev Goes : List Instruction → Type 0
      Goes rest = (waits : Option MarkKind) → marks_stand (is_form code.entry) waits rest ≡ true → (look : Option ℕ) (f : Frame) (w : World) (before : List MarkKind)
          → Leads look waits f w.state before rest → Mine look waits before w.marks → Ends P (execute_each callee depth rest look f w)

      one_before : (before : List MarkKind) (m : MarkKind) (marks : List MarkKind) → Whole (before ++ m ∷ marks) → Whole ((before ++ m ∷ []) ++ marks)
      one_before before m marks = subst Whole (sym (append_assoc before (m ∷ []) marks))

      -- the marks of the members of a group that are stored
      spilled_own : (xs : List ℕ) (before marks : List MarkKind) → On codes (mark.Enter label ∷ before) suspended marks
          → On codes (mark.Enter label ∷ (before ++ map mark.Spill xs)) suspended (marks ++ map mark.Spill xs)
      spilled_own [] before marks t =
          subst (λ b. On codes (mark.Enter label ∷ b) suspended (marks ++ [])) (sym (append-nil before)) (subst (λ m. On codes (mark.Enter label ∷ before) suspended m) (sym (append-nil marks)) t)
      spilled_own (x ∷ xs) before marks t =
          subst (λ b. On codes (mark.Enter label ∷ b) suspended (marks ++ (mark.Spill x ∷ map mark.Spill xs))) (append_assoc before (mark.Spill x ∷ []) (map mark.Spill xs))
          (subst (λ m. On codes (mark.Enter label ∷ ((before ++ mark.Spill x ∷ []) ++ map mark.Spill xs)) suspended m) (append_assoc marks (mark.Spill x ∷ []) (map mark.Spill xs))
          (spilled_own xs (before ++ mark.Spill x ∷ []) (marks ++ mark.Spill x ∷ []) (one_own codes (mark.Spill x) false refl refl t)))

      module _ (rest : List Instruction) (goes : Goes rest) where
        marked_goes : (m : MarkKind) → stands_alone (is_form code.entry) (Mark m) ≡ true → marks_stand (is_form code.entry) (waiting (Mark m)) rest ≡ true
            → (f : Frame) (w : World) (before : List MarkKind)
            → Leads None None f w.state before (Mark m ∷ rest) → Mine None None before w.marks → Ends P (execute_each callee depth rest None f (marked m w))
        marked_goes (mark.Enter x) a h f w before leads mine = absurd (let bad : false ≡ true = a in cc)
        marked_goes (mark.Call site) a h f w before leads mine = goes (Some (mark.Call site)) h None f _ before (λ marks y. leads (mark.Call site ∷ marks) (refl, y)) (w.marks, (refl, mine))
        marked_goes (mark.Tail site) a h f w before leads mine = goes (Some (mark.Tail site)) h None f _ before (λ marks y. leads (mark.Tail site ∷ marks) (refl, y)) (w.marks, (refl, mine))
        marked_goes mark.Return a h f w before leads mine = goes (Some mark.Return) h None f _ before (λ marks y. leads (mark.Return ∷ marks) (refl, y)) (w.marks, (refl, mine))
        marked_goes (mark.Save x) a h f w before leads mine =
            goes None h None f _ (before ++ mark.Save x ∷ []) (λ marks y. one_before before (mark.Save x) marks (leads (mark.Save x ∷ marks) (refl, y)))
            (one_own codes (mark.Save x) (is_form code.entry) a refl mine)
        marked_goes (mark.Restore x) a h f w before leads mine =
            goes None h None f _ (before ++ mark.Restore x ∷ []) (λ marks y. one_before before (mark.Restore x) marks (leads (mark.Restore x ∷ marks) (refl, y)))
            (one_own codes (mark.Restore x) (is_form code.entry) a refl mine)
        marked_goes (mark.Spill x) a h f w before leads mine =
            goes None h None f _ (before ++ mark.Spill x ∷ []) (λ marks y. one_before before (mark.Spill x) marks (leads (mark.Spill x ∷ marks) (refl, y)))
            (one_own codes (mark.Spill x) (is_form code.entry) a refl mine)
        marked_goes mark.Temp a h f w before leads mine =
            goes None h None f _ (before ++ mark.Temp ∷ []) (λ marks y. one_before before mark.Temp marks (leads (mark.Temp ∷ marks) (refl, y)))
            (one_own codes mark.Temp (is_form code.entry) a refl mine)
        marked_goes mark.Argument a h f w before leads mine =
            goes None h None f _ (before ++ mark.Argument ∷ []) (λ marks y. one_before before mark.Argument marks (leads (mark.Argument ∷ marks) (refl, y)))
            (one_own codes mark.Argument (is_form code.entry) a refl mine)

        tested : (v : Value) (b : Bool) → is_true v ≡ b → (l : ℕ) → marks_stand (is_form code.entry) None rest ≡ true → (f : Frame) (w : World) (before : List MarkKind)
            → value_in f.accumulator ≡ Some v
            → Leads None None f w.state before (IfFalse l ∷ rest) → Mine None None before w.marks
            → Ends P (cond b (execute_each callee depth rest None f w) (execute_each callee depth rest (Some l) f w))
        tested v true e l h f w before i leads mine = goes None h None f w before (λ marks y. leads marks (v, (i, subst (λ b. way rest (cond b None (Some l)) f w.state marks) (sym e) y))) mine
        tested v false e l h f w before i leads mine = goes None h (Some l) f w before (λ marks y. leads marks (v, (i, subst (λ b. way rest (cond b None (Some l)) f w.state marks) (sym e) y))) mine

        -- an instruction before which no mark waits
        done : (i : Instruction) → stands_alone (is_form code.entry) i ≡ true → marks_stand (is_form code.entry) (waiting i) rest ≡ true → (f : Frame) (w : World) (before : List MarkKind)
            → Leads None None f w.state before (i ∷ rest) → Mine None None before w.marks → Ends P (execute callee depth i (execute_each callee depth rest) f w)
        done (Do o) a h f w before leads mine =
            ending P w.marks (told_sound codes mine) (operate (held f) o w.state) _
            (λ v s e. goes None h None _ _ before (λ marks y. leads marks (v, (s, (e, y)))) mine)
        done (Put p) a h f w before leads mine = goes None h None _ w before leads mine
        done (Copy to from) a h f w before leads mine = goes None h None _ w before leads mine
        done (Pass k) a h f w before leads mine = goes None h None _ w before leads mine
        done (Fix members spills) a h f w before leads mine =
            outcome P w.marks (told_sound codes mine) (in_store (charge_each (member_bytes members)) w.state) _
            (λ x s e. let inner = with_members f members (procedures_from (length s.procedures) (length members)) in
            valued P (with_procedures s (members_made (held inner) s members)) _ (λ t q. goes None h None inner _ (before ++ map mark.Spill spills)
            (λ marks y. subst Whole (sym (append_assoc before (map mark.Spill spills) marks)) (leads (map mark.Spill spills ++ marks) (x, (s, (e, (t, (q, (marks, (refl, y))))))))) (spilled_own spills before w.marks mine)))
        done (Call spread count) a h f w before leads mine = absurd (let bad : false ≡ true = a in cc)
        done (Tail spread count) a h f w before leads mine = absurd (let bad : false ≡ true = a in cc)
        done Return a h f w before leads mine = absurd (let bad : false ≡ true = a in cc)
        done End a h f w before leads mine = finished a _ w.marks mine
        done (IfFalse l) a h f w before leads mine = valued P (value_in f.accumulator) _ (λ v e. tested v (is_true v) refl l h f w before e leads mine)
        done (Jump l) a h f w before leads mine = goes None h (Some l) f w before leads mine
        done (Label l) a h f w before leads mine = goes None h None f w before leads mine
        done (Mark m) a h f w before leads mine = marked_goes m a h f w before leads mine

        -- the instruction for which a mark waits
        left : (m : MarkKind) (i : Instruction) → belongs m i ≡ true → marks_stand (is_form code.entry) None rest ≡ true → (f : Frame) (w : World) (before prior : List MarkKind)
            → w.marks ≡ prior ++ m ∷ []
            → Leads None (Some m) f w.state before (i ∷ rest) → On codes (mark.Enter label ∷ before) suspended prior → Ends P (execute callee depth i (execute_each callee depth rest) f w)
        left (mark.Call site) (Call spread count) b h f w before prior e leads mine =
            let level = called codes site mine in
            valued P (parts f.places f.outgoing count) _
            (λ vs q. call_goes spread ((mark.Enter label ∷ (before ++ mark.Call site ∷ [])) ∷ suspended) vs w
            (subst (Level codes ((mark.Enter label ∷ (before ++ mark.Call site ∷ [])) ∷ suspended)) (sym e) level) P _
            (λ p i v u on. goes None h None (after_call f v) u (before ++ mark.Call site ∷ [])
            (λ marks y. one_before before (mark.Call site) marks (leads marks (vs, (q, ((depth, (p, i)), (v, (u.state, y))))))) on))
        left (mark.Tail site) (Tail spread count) b h f w before prior e leads mine =
            linked P (f.places link_place) _ (λ i. valued P (parts f.places (λ j. f.places (Slot j)) count) (λ vs. call_in callee spread true depth vs w)
            (λ vs q. let level = tail_called codes site mine (a_way (before ++ mark.Tail site ∷ []) (leads [] (i, (vs, (q, refl))))) in
            as_given (Back codes suspended) P back (call_in callee spread true depth vs w) (call_comes spread true suspended vs w (subst (Level codes suspended) (sym e) level))))
        left mark.Return Return b h f w before prior e leads mine =
            linked P (f.places link_place) _ (λ i. valued P (value_in f.accumulator) (λ v. Some (gives v w))
            (λ v q. back w.marks (subst (Back codes suspended) (sym e) (returned codes suspended mine (a_way (before ++ mark.Return ∷ []) (leads [] (i, (v, (q, refl)))))))))
        left _ _ b h f w before prior e leads mine = absurd cc

      pub body_goes : (rest : List Instruction) → Goes rest
      body_goes [] waits h look f w before leads mine = tt
      body_goes (i ∷ rest) None h (Some l) f w before leads mine =
          passed_over l i (λ waits look. marks_stand (is_form code.entry) waits rest ≡ true → ((marks : List MarkKind) → way rest look f w.state marks → Whole (before ++ marks))
          → Ends P (execute_each callee depth rest look f w))
          (λ waits h leads. body_goes rest waits h (Some l) f w before leads mine) (λ h leads. body_goes rest None h None f w before leads mine) (and_parts _ _ h).1 leads
      body_goes (i ∷ rest) (Some m) h (Some l) f w before leads mine =
          let q = and_parts _ _ h in let e = no_label m l i q.0 in
          subst (λ look. Ends P (execute_each callee depth rest look f w)) (sym e)
          (body_goes rest None q.1 (Some l) f w before (λ marks y. leads marks (subst (λ look. way rest look f w.state marks) (sym e) y)) mine)
      body_goes (i ∷ rest) None h None f w before leads mine = let q = and_parts _ _ h in done rest (body_goes rest) i q.0 q.1 f w before leads mine
      body_goes (i ∷ rest) (Some m) h None f w before leads mine = let q = and_parts _ _ h in left rest (body_goes rest) m i q.0 q.1 f w before mine.0 mine.1.0 leads mine.1.1

-- ---- programs

form_free : (entry : Option Entry) (e : Entry) → entry ≡ Some e → is_form entry ≡ true → ⊥
form_free None e i h = cc
form_free (Some d) e i h = cc

entry_of : (codes : List Code) (label : ℕ) (c : Code) → slice_get codes label ≡ Some c → entry_at (entries_of codes) label ≡ c.entry
entry_of [] label c e = absurd cc
entry_of (d ∷ codes) zero c e = let same : d ≡ c = (let q : Some d ≡ Some c = e in cc) in ap (λ c. c.entry) same
entry_of (d ∷ codes) (suc label) c e = entry_of codes label c e

-- a procedure that is entered has as many arguments as formals
fitted : (formals : ℕ) (rest : Bool) (vs : List Value) (s : State Procedure) (ws : List Value) (t : State Procedure) → in_store (fit formals rest vs) s ≡ gives ws t → length ws ≡ formals
fitted formals rest vs s ws t e = by (fit formals rest vs s.store) (fit_length formals rest vs s.store) e
  where
    by : (o : Outcome Store (List Value)) → Gives (λ ws. length ws ≡ formals) o → with_rest s.cells s.procedures o ≡ gives ws t → length ws ≡ formals
    by (gives us u) h e = let same : us ≡ ws = cc in subst (λ x. length x ≡ formals) same h
    by (stops why u) h e = absurd (let bad = e in cc)
    by (spent u) h e = absurd (let bad = e in cc)

module _ (codes : List Code) (covered : list_all is_covered_code codes ≡ true) (stand : all_marks_stand codes ≡ true) where
  -- the body of a label, once its mark is passed
  body_comes : (callee : Callee) → Returns codes callee → (label depth : ℕ) (self : Value) (vs : List Value) (suspended : List (List MarkKind)) (w : World) → Level codes suspended w.marks
      → (P : List MarkKind → Type 0) → ((marks : List MarkKind) → Back codes suspended marks → P marks)
      → ((c : Code) → slice_get codes label ≡ Some c → is_form c.entry ≡ true → (own marks : List MarkKind) → On codes own suspended marks → P marks)
      → ((c : Code) → slice_get codes label ≡ Some c → length vs ≡ formals_of c.entry)
      → Ends codes P (bodies_of codes label callee depth self vs (marked (mark.Enter label) w))
  body_comes callee returns label depth self vs suspended w level P back finished fitting = by (slice_get codes label) refl
    where
      by : (o : Option Code) → slice_get codes label ≡ o → Ends codes P (do_known o callee depth self vs (marked (mark.Enter label) w))
      by None e = tt
      by (Some c) e =
          body_goes codes callee returns depth label c self vs w.state e (fitting c e) suspended P back (finished c e) c.instructions None
          (code_stands c (each_at is_covered_code codes label c covered e) (each_at code_marks_stand codes label c stand e)) None (beginning c.entry self vs) _ []
          (λ marks y. y) (entered codes label level)

  module _ (n : ℕ) (returns : Returns codes (enter (entry_at (entries_of codes)) (bodies_of codes) n)) where
    entering_returns : (suspended : List (List MarkKind)) (o : Option Entry) (self : Value) (p : Procedure) (vs : List Value) (depth : ℕ) (w : World) → entry_at (entries_of codes) p.label ≡ o
        → Level codes suspended w.marks
        → Ends codes (Back codes suspended) (enter_body (bodies_of codes) (enter (entry_at (entries_of codes)) (bodies_of codes) n) o self p vs depth w)
    entering_returns suspended None self p vs depth w i level = tt
    entering_returns suspended (Some e) self p vs depth w i level =
        outcome codes (Back codes suspended) w.marks (level_sound codes level) (in_store (fit e.formals e.rest vs) w.state) _
        (λ arguments s r. outcome codes (Back codes suspended) w.marks (level_sound codes level) (in_store take_entry s) _
        (λ x t q. body_comes (enter (entry_at (entries_of codes)) (bodies_of codes) n) returns p.label depth self arguments suspended (record { state = t; marks = w.marks }) level
        (Back codes suspended) (λ marks b. b)
        (λ c known form own marks on. absurd (form_free c.entry e (sym (entry_of codes p.label c known) ∙ i) form))
        (λ c known. fitted e.formals e.rest vs w.state arguments s r ∙ sym (ap formals_of (sym (entry_of codes p.label c known) ∙ i)))))

  enter_returns : (n : ℕ) → Returns codes (enter (entry_at (entries_of codes)) (bodies_of codes) n)
  enter_returns zero suspended self p vs depth w level = level_sound codes level
  enter_returns (suc n) suspended self p vs depth w level = entering_returns n (enter_returns n) suspended (entry_at (entries_of codes) p.label) self p vs depth w refl level

  back_level : (marks : List MarkKind) → Back codes [] marks → Level codes [] marks
  back_level marks b = record { current = None; handed_over = false; told = b }

  -- the entries of the bodies from a label on
  abbrev From : ℕ → List (Option Entry) → Type 0
  From label entries = (j : ℕ) (o : Option Entry) → slice_get entries j ≡ Some o → slice_get (entries_of codes) (label + j) ≡ Some o

  from_next : (label : ℕ) (e : Option Entry) (entries : List (Option Entry)) → From label (e ∷ entries) → From (suc label) entries
  from_next label e entries from j o i = let s : label + suc j ≡ suc label + j = omega arith in ap (slice_get (entries_of codes)) (sym s) ∙ from (suc j) o i

  form_fitting : (label : ℕ) (entries : List (Option Entry)) → From label (None ∷ entries) → (c : Code) → slice_get codes label ≡ Some c → 0 ≡ formals_of c.entry
  form_fitting label entries from c known =
      let z : label + 0 ≡ label = omega arith in
      let none : entry_at (entries_of codes) label ≡ None = ap option_flatten (ap (slice_get (entries_of codes)) (sym z) ∙ from 0 None refl) in
      ap formals_of (sym none ∙ entry_of codes label c known)

  forms_come : (n depth : ℕ) (entries : List (Option Entry)) (label : ℕ) (w : World) → From label entries → Level codes [] w.marks
      → Ends codes (Level codes []) (do_forms entries label (bodies_of codes) (enter (entry_at (entries_of codes)) (bodies_of codes) n) depth w)
  forms_come n depth [] label w from level = level
  forms_come n depth (Some e ∷ entries) label w from level = forms_come n depth entries (suc label) w (from_next label (Some e) entries from) level
  forms_come n depth (None ∷ entries) label w from level =
      came_back codes (Level codes []) (Level codes [])
      (bodies_of codes label (enter (entry_at (entries_of codes)) (bodies_of codes) n) depth unspecified [] (marked (mark.Enter label) w))
      (λ v u. do_forms entries (suc label) (bodies_of codes) (enter (entry_at (entries_of codes)) (bodies_of codes) n) depth u)
      (body_comes (enter (entry_at (entries_of codes)) (bodies_of codes) n) (enter_returns n) label depth unspecified [] [] w level (Level codes []) back_level
      (λ c known form own marks on. record { current = Some own; handed_over = false; told = on })
      (form_fitting label entries from))
      (λ v u level. forms_come n depth entries (suc label) u (from_next label None entries from) level)

-- the own marks of each activation that has ended, in a run of a program whose calls stand behind their marks
pub own_ways : (p : Source) → list_all is_covered_code p.bodies ≡ true → all_marks_stand p.bodies ≡ true → (heap depth : ℕ) (answers : List Answer) (entries : ℕ)
    → Ends p.bodies (Sound p.bodies) (outcome_of (entries_of p.bodies) (bodies_of p.bodies) depth entries (starting_world p.statics p.library heap answers entries))
own_ways p covered stand heap depth answers entries =
    as_given p.bodies (Level p.bodies []) (Sound p.bodies) (λ marks level. level_sound p.bodies level)
    (outcome_of (entries_of p.bodies) (bodies_of p.bodies) depth entries (starting_world p.statics p.library heap answers entries))
    (forms_come p.bodies covered stand entries depth (entries_of p.bodies) 0 (starting_world p.statics p.library heap answers entries)
    (λ j o i. let z : 0 + j ≡ j = omega arith in ap (slice_get (entries_of p.bodies)) z ∙ i)
    (record { current = None; handed_over = false; told = record { ended = []; are = refl; ways = tt } }))
