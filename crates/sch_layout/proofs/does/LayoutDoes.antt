-- The layout of an expression does what the expression does, with its regions and what it restores, where a call leaves
-- nothing in registers. What this asks of a plan is `Homes`, once, and `Placed` of the expression: where a variable is
-- written lives no other that is live then, and so two variables may share a place that are never live together. A
-- variable may live in a register that calls use, and a formal may stay in the slot where it arrives.
use Rattle.std.proofs.Common.{◌≡◌, ℕ, zero, suc, ◌+◌, ◌<◌, ◌≤◌, List, [], ◌∷◌, ◌++◌, length, Option, Some, None, Bool, true, false, cond, refl, sym, ap, ◌∙◌, subst, arith, ◌⊎◌, inl, inr, map}
use Rattle.std.specs.Bool.{MatchBool}
use Rattle.std.specs.Prelude.{filter, nat_eq, ◌||◌}
use Rattle.std.proofs.lemmas.Bool.{eq-eqb, eqb-false, eqb-true, ne_eqb}
use Rattle.sch_control.proofs.Environments.{after_value}
use Rattle.sch_word.specs.declared.place.Place.{Place}
use Rattle.sch_word.specs.declared.place.Place.TheVariants.{Slot}
use Rattle.sch_word.specs.values.Values.{Value, is_true}
use Rattle.sch_word.specs.runs.Charges.{charge_each, procedure_bytes}
use Rattle.sch_word.specs.runs.Computation.{gives, stops, spent, State, in_store, procedures_from}
use Rattle.sch_word.specs.trees.NumberSets.{has}
use Rattle.sch_word.proofs.facts.Booleans.{false_true, neither, not_left, not_right, or_right}
use Rattle.sch_word.specs.declared.mark.MarkKind.{MarkKind}
use Rattle.sch_word.specs.declared.mark.MarkKind.TheVariants as mark
use Rattle.sch_word.specs.values.Registers.{argument_registers}
use Rattle.sch_word.proofs.Lengths.{procedures_length}
use Rattle.sch_control.specs.flow.Apart.{Around, EachHas}
use Rattle.sch_control.specs.declared.operation.Application.{Application}
use Rattle.sch_control.specs.declared.operation.Member.{Member}
use Rattle.sch_control.specs.declared.operation.Source.{Source}
use Rattle.sch_control.specs.Meaning as control
use Rattle.sch_word.specs.values.Options.{when_some}
use Rattle.sch_control.specs.Meaning.{World, Result, Environment, Then, Callee, marked, on_outcome, on_return, put, put_if, put_each, put_inside, binds, heads, with_region, save_each, on_ending, mark_each, mark_bound, mark_members, call_in, evaluate}
use Rattle.sch_control.specs.Operations.{Ending, operand_values, operate, member_bytes, members_made, with_procedures}
use Rattle.sch_word.specs.runs.Procedures.{Procedure}
use Rattle.sch_control.specs.AtomsAndSites.{operation_atoms, application_atoms, member_atoms}
use Rattle.sch_control.specs.Tree.{Expression, perform, bind, sequence, branch, fix, call, tail_call, return, end, save}
use Rattle.sch_control.specs.Valid.{member_variables}
use Rattle.sch_frames.specs.declared.instruction.Instruction.{Instruction}
use Rattle.sch_frames.specs.declared.instruction.Instruction.TheVariants.{Store, Copy, Fix, Call, Tail, Return, Jump, Label, Mark}
use Rattle.sch_frames.specs.Does.{Follows, unmarked, EndsAs, world, CalleesFollow}
use Rattle.sch_word.specs.values.Places.{link_place, is_slot}
use Rattle.sch_frames.specs.Meaning.{Cell, Is, Frame, value_in, held, with_place, with_members, parts, after_call, if_link, execute_each}
use Rattle.sch_frames.proofs.EndsAlike.{onto_end, with_value_ends, on_outcome_ends, on_return_ends, call_in_ends, with_procedures_follow, either_ends}
use Rattle.sch_layout.specs.BodyLayout.{Plan, sources_at, members_at, operation_at, spill, unmarked_reading, stored, loaded, leave, labels, lay}
use Rattle.sch_layout.specs.Laws.{AtomsHave, Behind, MembersUse, Uses}
use Rattle.sch_control.specs.flow.Live.{Mentions, Perhaps, Across, Later, Live}
use Rattle.sch_control.proofs.MarksAlone.{each_state, bound_state, members_state}
use Rattle.sch_control.proofs.Results.{perhaps}
use Rattle.sch_control.proofs.VariableLists.{heads_has}
use Rattle.sch_layout.specs.SharedPlaces.{Homes, Alone, Brings, FreeInCall, FreeInTail, Placed}
use Rattle.sch_layout.proofs.does.PlacesAgree.{Lives, atoms_live, Agrees, Stored, StoredOne, agrees_as, agrees_on, agrees_left, found, bound, members_bound, one_stored, slot_stored, meant, reloaded_one, one_loaded, slot_loaded}
use Rattle.sch_layout.proofs.does.CallsReady.{Values, values_are, values_length, call_parts, tail_parts, brings_do, call_leaves, tail_leaves}
use Rattle.sch_layout.proofs.does.MovesDo.{under_does}
use Rattle.sch_layout.proofs.does.OperationsFollow.{operate_follows, members_follow}
use Rattle.sch_layout.proofs.does.LabelsPassed.{past, past_label, Below, below_up}

-- ## Groups in their places

module _ (place : ℕ → Place) where
  pub length_members : (members : List (Member ℕ)) → length (members_at place members) ≡ length members
  length_members [] = refl
  length_members (m ∷ members) = ap suc (length_members members)

  pub length_sources : (sources : List (Source ℕ)) → length (sources_at place sources) ≡ length sources
  length_sources [] = refl
  length_sources (c ∷ sources) = ap suc (length_sources sources)

  bytes_kept : (members : List (Member ℕ)) → member_bytes (members_at place members) ≡ member_bytes members
  bytes_kept [] = refl
  bytes_kept (m ∷ members) = ap (λ n. procedure_bytes n ∷ member_bytes (members_at place members)) (length_sources m.closure.fields) ∙ ap (λ ns. procedure_bytes (length m.closure.fields) ∷ ns) (bytes_kept members)

-- whatever marks there are
at_state : (next : World → Result) (r : Result) (w : World) (s : State Procedure) → w.state ≡ s → ((marks : List MarkKind) → EndsAs (next (world s marks)) r) → EndsAs (next w) r
at_state next r w s e h = subst (λ t. EndsAs (next (world t w.marks)) r) (sym e) (h w.marks)

-- ## What is saved where it is bound

-- what is saved of one variable and then of others is saved of all
saved_more : {A : Type 0} (a b : Bool) (x y : A) → cond (a || b) x y ≡ cond b x (cond a x y)
saved_more true true x y = refl
saved_more true false x y = refl
saved_more false true x y = refl
saved_more false false x y = refl

one_saved : (inside : ℕ → Bool) (environment saved : Environment) (x : ℕ) (v : Value) (y : ℕ)
    → put_if (inside x) saved x v y ≡ save_each (filter inside (x ∷ [])) (put environment x v) saved y
one_saved inside environment saved x v y = by (inside x) where
  here : (t : Bool) (e u : Option Value) → cond t (Some v) u ≡ cond (t || false) (cond t (Some v) e) u
  here true e u = refl
  here false e u = refl

  by : (b : Bool) → put_if b saved x v y ≡ save_each (cond b (x ∷ []) []) (put environment x v) saved y
  by true = here (nat_eq y x) (environment y) (saved y)
  by false = refl

-- a group binds nothing else
group_other : (members : List (Member ℕ)) (vs : List Value) (environment : Environment) (z : ℕ) → has z (member_variables members) ≡ false → put_each environment members vs z ≡ environment z
group_other [] vs environment z h = refl
group_other (m ∷ members) [] environment z h = refl
group_other (m ∷ members) (v ∷ vs) environment z h =
    group_other members vs (put environment m.at v) z (not_right (nat_eq z m.at) _ h) ∙ ap (λ t. cond t (Some v) (environment z)) (not_left (nat_eq z m.at) _ h)

filtered_out : (inside : ℕ → Bool) (xs : List ℕ) (z : ℕ) → inside z ≡ true → has z (filter inside xs) ≡ false → has z xs ≡ false
filtered_out inside [] z i h = refl
filtered_out inside (x ∷ xs) z i h = by (inside x) refl (filtered_out inside xs z i) h where
  by : (b : Bool) → inside x ≡ b → (has z (filter inside xs) ≡ false → has z xs ≡ false) → has z (cond b (x ∷ filter inside xs) (filter inside xs)) ≡ false → (nat_eq z x || has z xs) ≡ false
  by true e more h = neither (nat_eq z x) _ (not_left (nat_eq z x) _ h) (more (not_right (nat_eq z x) _ h))
  by false e more h = neither (nat_eq z x) _ (ne_eqb z x (λ q. false_true i (ap inside q ∙ e))) (more h)

-- what is saved of a group are those of its members that are inside a region
group_saved : (inside : ℕ → Bool) (members : List (Member ℕ)) (vs : List Value) (environment saved : Environment) (z : ℕ) → length vs ≡ length members
    → put_inside inside saved members vs z ≡ save_each (filter inside (member_variables members)) (put_each environment members vs) saved z
group_saved inside [] vs environment saved z l = refl
group_saved inside (m ∷ members) [] environment saved z l = absurd (cc)
group_saved inside (m ∷ members) (v ∷ vs) environment saved z l =
    group_saved inside members vs (put environment m.at v) (put_if (inside m.at) saved m.at v) z (omega (arith, l))
    ∙ by (inside m.at) (nat_eq z m.at) (has z (filter inside (member_variables members))) refl refl refl (put_each (put environment m.at v) members vs z)
    (λ out. group_other members vs (put environment m.at v) z out) where
      by : (b t h : Bool) → inside m.at ≡ b → nat_eq z m.at ≡ t → has z (filter inside (member_variables members)) ≡ h → (whole : Option Value)
          → (has z (member_variables members) ≡ false → whole ≡ cond (nat_eq z m.at) (Some v) (environment z))
          → cond h whole (put_if b saved m.at v z) ≡ cond (has z (cond b (m.at ∷ filter inside (member_variables members)) (filter inside (member_variables members)))) whole (saved z)
      by false t h eb et eh whole o = ap (λ x. cond x whole (saved z)) (sym eh)
      by true t true eb et eh whole o = sym (ap (λ x. cond x whole (saved z)) (or_right (nat_eq z m.at) _ eh))
      by true false false eb et eh whole o = rw (et, eh) refl
      by true true false eb et eh whole o =
          rw et (sym (o (filtered_out inside (member_variables members) z (ap inside (eqb-true z m.at et) ∙ eb) eh) ∙ ap (λ t. cond t (Some v) (environment z)) et))

-- ## What is given

-- ends that follow, where it is known what is given
given_ends : (marks marks' : List MarkKind) (a b : Ending) (next next' : Value → World → Result) → Follows a b
    → ((v : Value) (s : State Procedure) → a ≡ Some (gives v s) → EndsAs (next v (world s marks)) (next' v (world s marks'))) → EndsAs (on_ending marks a next) (on_ending marks' b next')
given_ends marks marks' None b next next' f h = tt
given_ends marks marks' (Some (gives v s)) b next next' f h =
    onto_end (next v (world s marks)) (next' v (world s marks')) (on_ending marks' b next') (ap (λ t. on_ending marks' t next') f) (h v s refl)
given_ends marks marks' (Some (stops why s)) b next next' f h = ap (λ t. unmarked (on_ending marks' t next')) f
given_ends marks marks' (Some (spent s)) b next next' f h = ap (λ t. unmarked (on_ending marks' t next')) f

-- ## What is kept: what is live and inside a region

abbrev pub Kept : (inside : ℕ → Bool) → (live : ℕ → Type 0) → ℕ → Type 0
Kept inside live x = (inside x ≡ true) × live x

-- where fewer are live
agrees_less : (plan : Plan) {inside : ℕ → Bool} {live live' : ℕ → Type 0} {environment saved : Environment} {places : Place → Cell} → ((x : ℕ) → live' x → live x)
    → Agrees plan live (Kept inside live) environment saved places → Agrees plan live' (Kept inside live') environment saved places
agrees_less plan f r = agrees_on plan f (λ x k. (k.0, f x k.1)) r

-- one more is stored
one_more_kept : (x : ℕ) (xs : List ℕ) (live kept : ℕ → Type 0) (z : ℕ) → Stored (x ∷ xs) live kept z → Stored xs live (StoredOne x live kept) z
one_more_kept x xs live kept z (l, inr k) = (l, inr (l, inr k))
one_more_kept x xs live kept z (l, inl h) = by (nat_eq z x) refl h where
  by : (t : Bool) → nat_eq z x ≡ t → (t || has z xs) ≡ true → Stored xs live (StoredOne x live kept) z
  by true i h = (l, inr (l, inl (eqb-true z x i)))
  by false i h = (l, inl h)

-- what is bound is stored where it is inside, and the others are kept that were
bound_kept : (inside : ℕ → Bool) (xs : List ℕ) (live before : ℕ → Type 0) → ((z : ℕ) → has z xs ≡ false → live z → before z) → (z : ℕ) → Kept inside live z
    → Stored (filter inside xs) live (Kept inside before) z
bound_kept inside xs live before f z (i, l) = by (has z (filter inside xs)) refl where
  by : (t : Bool) → has z (filter inside xs) ≡ t → Stored (filter inside xs) live (Kept inside before) z
  by true h = (l, inl h)
  by false h = (l, inr (i, f z (filtered_out inside xs z i h) l))

-- at the head of a region what is live and inside it is stored, as what it binds is not live there
head_kept : (inside : ℕ → Bool) (saves : List ℕ) (e : Expression) (live : ℕ → Type 0) → ((z : ℕ) → has z saves ≡ true → binds z e ≡ true → live z → ⊥) → (z : ℕ)
    → Kept (with_region saves inside) live z → Stored (heads e saves) live (Kept inside live) z
head_kept inside saves e live fresh z (i, l) = by (has z saves) refl (binds z e) refl i where
  by : (t : Bool) → has z saves ≡ t → (b : Bool) → binds z e ≡ b → (t || inside z) ≡ true → Stored (heads e saves) live (Kept inside live) z
  by true h true b i = absurd (fresh z h b l)
  by true h false b i = (l, inl (heads_has e saves z h b))
  by false h b eb i = (l, inr (i, l))

module _ (plan : Plan) (homes : Homes plan) (callee callee' : Callee) (follow : CalleesFollow callee callee') (depth : ℕ) where
  abbrev run : List Instruction → Option ℕ → Frame → World → Result
  run is seeking f w = execute_each callee' depth is seeking f w

  abbrev does : Expression → (inside : ℕ → Bool) → Environment → Environment → World → Then → Result
  does e inside environment saved w next = evaluate (unmarked_reading plan) callee depth e inside environment saved w next

  -- what is done with a value in the accumulator: what follows, or the label of a test that fails is sought
  abbrev go_on : Option ℕ → Value → List Instruction → Frame → World → Result
  go_on None v rest f w = run rest None f w
  go_on (Some l) v rest f w = cond (is_true v) (run rest None f w) (run rest (Some l) f w)

  leaving : (test : Option ℕ) (rest : List Instruction) (f : Frame) (w : World) (v : Value) → f.accumulator ≡ Is v
      → run (leave test rest) None f w ≡ go_on test v rest f w
  leaving None rest f w v e = refl
  leaving (Some l) rest f w v e = ap (λ c. when_some (value_in c) (λ v. cond (is_true v) (run rest None f w) (run rest (Some l) f w))) e

  -- what follows an expression is followed by what stands behind its layout
  abbrev Next : (inside : ℕ → Bool) → Later → Option ℕ → List Instruction → Then → Type 0
  Next inside L test rest next = (v : Value) (environment saved : Environment) (f : Frame) (s : State Procedure) (marks marks' : List MarkKind)
      → Agrees plan (λ x. L x (is_true v)) (Kept inside (λ x. L x (is_true v))) environment saved f.places → f.accumulator ≡ Is v → EndsAs (next v environment saved (world s marks)) (go_on test v rest f (world s marks'))

  -- behind the first arm, over the other arm to the end
  joined : (c : Expression) (inside : ℕ → Bool) (n m : ℕ) (test : Option ℕ) (rest : List Instruction) (v : Value) (f : Frame) (w : World) → suc n < m → Below test n
      → go_on test v (Jump (suc n) ∷ (Label n ∷ lay plan c inside m test (Label (suc n) ∷ rest))) f w ≡ go_on test v rest f w
  joined c inside n m test rest v f w lt b = by test b where
    here : (test : Option ℕ) → run (Jump (suc n) ∷ (Label n ∷ lay plan c inside m test (Label (suc n) ∷ rest))) None f w ≡ run rest None f w
    here test =
        ap (λ t. run (lay plan c inside m test (Label (suc n) ∷ rest)) (cond t None (Some (suc n))) f w) (ne_eqb n (suc n) (λ e. omega (arith, e)))
        ∙ (past callee' depth plan c inside m test (Label (suc n) ∷ rest) (suc n) f w lt
        ∙ ap (λ t. run rest (cond t None (Some (suc n))) f w) (eq-eqb (suc n) (suc n) refl))

    there : (test : Option ℕ) (l : ℕ) → l < n → run (Jump (suc n) ∷ (Label n ∷ lay plan c inside m test (Label (suc n) ∷ rest))) (Some l) f w ≡ run rest (Some l) f w
    there test l h =
        past_label callee' depth plan n l _ f w h
        ∙ (past callee' depth plan c inside m test (Label (suc n) ∷ rest) l f w (omega (arith, h, lt))
        ∙ past_label callee' depth plan (suc n) l rest f w (omega (arith, h)))

    by : (test : Option ℕ) → Below test n → go_on test v (Jump (suc n) ∷ (Label n ∷ lay plan c inside m test (Label (suc n) ∷ rest))) f w ≡ go_on test v rest f w
    by None b = here None
    by (Some l) b =
        ap (λ t. cond (is_true v) t (run (Jump (suc n) ∷ (Label n ∷ lay plan c inside m (Some l) (Label (suc n) ∷ rest))) (Some l) f w)) (here (Some l))
        ∙ ap (λ t. cond (is_true v) (run rest None f w) t) (there (Some l) l b)

  ended : (n : ℕ) (test : Option ℕ) (rest : List Instruction) (v : Value) (f : Frame) (w : World) → Below test n
      → go_on test v (Label (suc n) ∷ rest) f w ≡ go_on test v rest f w
  ended n None rest v f w b = refl
  ended n (Some l) rest v f w b = ap (λ t. cond (is_true v) (run rest None f w) t) (past_label callee' depth plan (suc n) l rest f w (omega (arith, b)))

  same_return : {kept : ℕ → Type 0} (environment saved : Environment) (rest : List Instruction) (f : Frame) (s : State Procedure) (marks marks' : List MarkKind) (v : Value) → Agrees plan (λ x. x ≡ 0) kept environment saved f.places → f.accumulator ≡ Is v
      → EndsAs (when_some (environment 0) (λ link. Some (gives v (marked mark.Return (world s marks))))) (run (Mark mark.Return ∷ (Return ∷ rest)) None f (world s marks'))
  same_return environment saved rest f s marks marks' v r e = by (environment 0) refl where
    by : (o : Option Value) → environment 0 ≡ o
        → EndsAs (when_some o (λ link. Some (gives v (marked mark.Return (world s marks)))))
        (if_link (f.places link_place) (when_some (value_in f.accumulator) (λ v. Some (gives v (marked mark.Return (world s marks'))))))
    by None i = tt
    by (Some u) i =
        ap (λ c. unmarked (if_link c (when_some (value_in f.accumulator) (λ v. Some (gives v (marked mark.Return (world s marks'))))))) (ap f.places (sym homes.link) ∙ r.here 0 u refl i)
        ∙ ap (λ c. unmarked (when_some (value_in c) (λ v. Some (gives v (marked mark.Return (world s marks')))))) e

  -- a group of procedures, with its charges and how many it has
  abbrev group : List (Member Place) → (spills : List ℕ) → (bytes : List ℕ) → (count : ℕ) → List Instruction → Frame → State Procedure → List MarkKind → Result
  group members spills bytes count rest f s marks =
      on_outcome marks (in_store (charge_each bytes) s)
      (λ _ w. let inner = with_members f members (procedures_from (length w.state.procedures) count) in
      when_some (with_procedures w.state (members_made (held inner) w.state members)) (λ s. run rest None inner (record { state = s; marks = w.marks ++ map mark.Spill spills })))

  -- ## Saves and restores

  -- one variable is stored in its home, and more is done
  one_stored_does : (live kept : ℕ → Type 0) (x : ℕ) (environment saved : Environment) (f : Frame) (s : State Procedure) (marks' : List MarkKind) (more : List Instruction) (r : Result)
      → Agrees plan live kept environment saved f.places
      → ((g : Frame) (marks' : List MarkKind) → Agrees plan live (StoredOne x live kept) environment (λ z. cond (nat_eq z x) (environment z) (saved z)) g.places → g.accumulator ≡ f.accumulator → EndsAs r (run more None g (world s marks')))
      → EndsAs r (run (cond (is_slot (plan.place x)) more (Mark (mark.Save x) ∷ (Copy (plan.home x) (plan.place x) ∷ more))) None f (world s marks'))
  one_stored_does live kept x environment saved f s marks' more r a go = by (is_slot (plan.place x)) refl where
    by : (t : Bool) → is_slot (plan.place x) ≡ t → EndsAs r (run (cond t more (Mark (mark.Save x) ∷ (Copy (plan.home x) (plan.place x) ∷ more))) None f (world s marks'))
    by true i = go f marks' (slot_stored plan homes live kept a x i) refl
    by false i = go (with_place f (plan.home x) (f.places (plan.place x))) (marks' ++ mark.Save x ∷ []) (one_stored plan homes live kept a x i) refl

  -- some variables are
  stored_does : (live kept : ℕ → Type 0) (xs : List ℕ) (environment saved : Environment) (f : Frame) (s : State Procedure) (marks' : List MarkKind) (rest : List Instruction) (r : Result)
      → Agrees plan live kept environment saved f.places
      → ((g : Frame) (marks' : List MarkKind) → Agrees plan live (Stored xs live kept) environment (save_each xs environment saved) g.places → g.accumulator ≡ f.accumulator → EndsAs r (run rest None g (world s marks')))
      → EndsAs r (run (stored plan xs rest) None f (world s marks'))
  stored_does live kept [] environment saved f s marks' rest r a go = go f marks' (agrees_on plan (λ z l. l) (λ z k. none z k) a) refl where
    none : (z : ℕ) → Stored [] live kept z → kept z
    none z (l, inl h) = absurd (cc)
    none z (l, inr k) = k
  stored_does live kept (x ∷ xs) environment saved f s marks' rest r a go =
      one_stored_does live kept x environment saved f s marks' (stored plan xs rest) r a
      (λ g marks' a e. stored_does live (StoredOne x live kept) xs environment (λ z. cond (nat_eq z x) (environment z) (saved z)) g s marks' rest r a
      (λ g' marks' a' e'. go g' marks' (agrees_on plan (λ z l. l) (one_more_kept x xs live kept)
      (agrees_as plan (λ z. refl) (λ z. saved_more (nat_eq z x) (has z xs) (environment z) (saved z)) a')) (e' ∙ e)))

  -- some variables have what is saved of them, if they live in registers
  abbrev reloaded : List ℕ → Environment → Environment → Environment
  reloaded xs environment saved x = cond (is_slot (plan.place x)) (environment x) (cond (has x xs) (saved x) (environment x))

  -- one variable is loaded from its home, and more is done
  one_loaded_does : (live kept : ℕ → Type 0) (y : ℕ) → (live y → kept y) → Alone plan live y → (environment saved : Environment) (f : Frame) (s : State Procedure) (marks' : List MarkKind) (more : List Instruction) (r : Result)
      → Agrees plan live kept environment saved f.places
      → ((g : Frame) (marks' : List MarkKind) → Agrees plan live kept (reloaded_one plan homes y environment saved) saved g.places → g.accumulator ≡ f.accumulator → EndsAs r (run more None g (world s marks')))
      → EndsAs r (run (cond (is_slot (plan.place y)) more (Mark (mark.Restore y) ∷ (Copy (plan.place y) (plan.home y) ∷ more))) None f (world s marks'))
  one_loaded_does live kept y at free environment saved f s marks' more r a go = by (is_slot (plan.place y)) refl where
    by : (t : Bool) → is_slot (plan.place y) ≡ t → EndsAs r (run (cond t more (Mark (mark.Restore y) ∷ (Copy (plan.place y) (plan.home y) ∷ more))) None f (world s marks'))
    by true i = go f marks' (slot_loaded plan homes live a y i) refl
    by false i = go (with_place f (plan.place y) (f.places (plan.home y))) (marks' ++ mark.Restore y ∷ []) (one_loaded plan homes live a y at free i) refl

  -- some variables are
  loaded_does : (live kept : ℕ → Type 0) (xs : List ℕ) → EachHas (λ y. (live y → kept y) × Alone plan live y) xs → (environment saved : Environment) (f : Frame) (s : State Procedure) (marks' : List MarkKind) (rest : List Instruction) (r : Result)
      → Agrees plan live kept environment saved f.places
      → ((g : Frame) (marks' : List MarkKind) → Agrees plan live kept (reloaded xs environment saved) saved g.places → g.accumulator ≡ f.accumulator → EndsAs r (run rest None g (world s marks')))
      → EndsAs r (run (loaded plan xs rest) None f (world s marks'))
  loaded_does live kept [] free environment saved f s marks' rest r a go = go f marks' (agrees_as plan (λ x. none (is_slot (plan.place x)) (environment x)) (λ x. refl) a) refl where
    none : (t : Bool) (o : Option Value) → cond t o o ≡ o
    none true o = refl
    none false o = refl
  loaded_does live kept (y ∷ ys) free environment saved f s marks' rest r a go =
      one_loaded_does live kept y free.0.0 free.0.1 environment saved f s marks' (loaded plan ys rest) r a
      (λ g marks' a e. loaded_does live kept ys free.1 (reloaded_one plan homes y environment saved) saved g s marks' rest r a
      (λ g' marks' a' e'. go g' marks' (agrees_as plan (λ x. one_more (is_slot (plan.place x)) (nat_eq x y) (has x ys) (environment x) (saved x)) (λ x. refl) a') (e' ∙ e))) where
        one_more : (t q b : Bool) (e u : Option Value) → cond t e (cond (q || b) u e) ≡ cond t (cond t e (cond q u e)) (cond b u (cond t e (cond q u e)))
        one_more true q b e u = refl
        one_more false q b e u = saved_more q b u e

  -- the members that live in slots
  abbrev slotted : List (Member ℕ) → List ℕ
  slotted members = filter (λ x. is_slot (plan.place x)) (member_variables members)

  abbrev Unbound : List (Member ℕ) → (live : ℕ → Type 0) → ℕ → Type 0
  Unbound members live x = (has x (member_variables members) ≡ false) × Around members live x

  same_group : (members : List (Member ℕ)) (e : Expression) (inside : ℕ → Bool) (live : ℕ → Type 0) → MembersUse Behind members → AtomsHave Behind (member_atoms members)
      → EachHas (Alone plan (Around members live)) (member_variables members) → (rest : List Instruction) (next : Then)
      → ((environment saved : Environment) (f : Frame) (s : State Procedure) → Agrees plan live (Kept inside live) environment saved f.places → (marks marks' : List MarkKind)
      → EndsAs (does e inside environment saved (world s marks) next) (run rest None f (world s marks')))
      → (environment saved : Environment) (f : Frame) (s : State Procedure) (marks marks' : List MarkKind)
      → Agrees plan (Unbound members live) (Kept inside (Unbound members live)) environment saved f.places
      → EndsAs (does (fix members e) inside environment saved (world s marks) next) (run (Fix (members_at plan.place members) (slotted members) ∷ stored plan (filter inside (member_variables members)) rest) None f (world s marks'))
  same_group members e inside live u h free rest next go environment saved f s marks marks' r =
      let whole = stored plan (filter inside (member_variables members)) rest in
      onto_end (does (fix members e) inside environment saved (world s marks) next) (group (members_at plan.place members) (slotted members) (member_bytes members) (length members) whole f s marks') _
      (ap (λ bytes. group (members_at plan.place members) (slotted members) bytes (length (members_at plan.place members)) whole f s marks') (bytes_kept plan.place members)
      ∙ ap (λ n. group (members_at plan.place members) (slotted members) (member_bytes members) n whole f s marks') (length_members plan.place members))
      (on_outcome_ends marks marks' (in_store (charge_each (member_bytes members)) s) _ _
      (λ _ s. let vs = procedures_from (length s.procedures) (length members) in
      let inner = put_each environment members vs in
      let g = with_members f (members_at plan.place members) vs in
      let r' : Agrees plan (Around members live) (Kept inside (Unbound members live)) (put_each environment members vs) saved (with_members f (members_at plan.place members) vs).places =
      members_bound plan homes (Around members live) members vs (procedures_length _ (length members)) environment saved f u free r in
      with_value_ends (with_procedures s (members_made inner s members))
      (with_procedures s (members_made (held g) s (members_at plan.place members))) _ _
      (with_procedures_follow s _ _ (members_follow plan.place (Lives (Around members live)) inner (held g) (found plan (Around members live) g r') s members
      (atoms_live (Around members live) (member_atoms members) h (λ x l. inl l))))
      (λ s. stored_does (Around members live) (Kept inside (Unbound members live)) (filter inside (member_variables members)) inner saved g s (marks' ++ map mark.Spill (slotted members)) rest _ r'
      (λ g' marks' a e'. at_state (λ w. does e inside inner (put_inside inside saved members vs) w next) _ (mark_members (unmarked_reading plan) inside members (world s marks)) s
      (members_state (unmarked_reading plan) inside members (world s marks))
      (λ marks. go inner (put_inside inside saved members vs) g' s
      (agrees_on plan (λ x l. inr l) (λ x k. bound_kept inside (member_variables members) (Around members live) (Unbound members live) (λ z o l. (o, l)) x (k.0, inr k.1))
      (agrees_as plan (λ z. refl) (λ z. group_saved inside members vs environment saved z (procedures_length _ (length members))) a)) marks marks')))))

  -- ## Calls

  -- behind a call, in a frame whose slots are those before it
  returned : (inside : ℕ → Bool) (L : Later) (test : Option ℕ) (rest : List Instruction) (next : Then) → Next inside L test rest next → (restores : List ℕ) → EachHas (λ y. (inside y ≡ true) × Alone plan (λ x. Perhaps (L x)) y) restores
      → (environment saved : Environment) (f g : Frame) → Agrees plan (λ x. Perhaps (L x)) (Kept inside (λ x. Perhaps (L x))) environment saved f.places
      → ((x : ℕ) → Perhaps (L x) → is_slot (plan.place x) ≡ true → g.places (plan.place x) ≡ f.places (plan.place x))
      → ((x : ℕ) → is_slot (plan.place x) ≡ false → g.places (plan.home x) ≡ f.places (plan.home x)) → (v : Value) (s : State Procedure) (marks marks' : List MarkKind)
      → EndsAs (next v (control.after_call (unmarked_reading plan).keeps restores environment saved) saved (mark_each (unmarked_reading plan) mark.Restore restores (world s marks)))
      (run (loaded plan restores (leave test rest)) None (after_call g v) (world s marks'))
  returned inside L test rest next h restores free environment saved f g r same_slots same_homes v s marks marks' =
      loaded_does (λ x. Perhaps (L x)) (Kept inside (λ x. Perhaps (L x))) restores (each_kept restores free) (λ x. cond (is_slot (plan.place x)) (environment x) None) saved (after_call g v) s marks' (leave test rest) _
      (agrees_left plan homes (λ x. Perhaps (L x)) f.places g.places r same_slots same_homes)
      (λ g' marks' a e. at_state (λ w. next v (control.after_call (unmarked_reading plan).keeps restores environment saved) saved w) _ (mark_each (unmarked_reading plan) mark.Restore restores (world s marks)) s
      (each_state (unmarked_reading plan) mark.Restore restores (world s marks))
      (λ marks. onto_end (next v (control.after_call (unmarked_reading plan).keeps restores environment saved) saved (world s marks)) _ _ (leaving test rest g' (world s marks') v e)
      (h v (control.after_call (unmarked_reading plan).keeps restores environment saved) saved g' s marks marks'
      (agrees_less plan (λ x l. perhaps (L x) (is_true v) l) (agrees_as plan (λ x. left (is_slot (plan.place x)) (has x restores) (environment x) (saved x)) (λ x. refl) a)) e))) where
        each_kept : (xs : List ℕ) → EachHas (λ y. (inside y ≡ true) × Alone plan (λ x. Perhaps (L x)) y) xs
            → EachHas (λ y. (Perhaps (L y) → Kept inside (λ x. Perhaps (L x)) y) × Alone plan (λ x. Perhaps (L x)) y) xs
        each_kept [] h = tt
        each_kept (y ∷ ys) h = ((λ l. (h.0.0, l), h.0.1), each_kept ys h.1)

        left : (t b : Bool) (e u : Option Value) → cond t e (cond b u None) ≡ cond t (cond t e None) (cond b u (cond t e None))
        left true b e u = refl
        left false b e u = refl

  same_call : (a : Application ℕ) (restores : List ℕ) (inside : ℕ → Bool) (L : Later) → AtomsHave Behind (application_atoms a) → Placed plan (call a restores) inside L → (n : ℕ) (test : Option ℕ) (rest : List Instruction)
      → (environment saved : Environment) (f : Frame) (s : State Procedure) (marks marks' : List MarkKind) (next : Then) → Agrees plan (λ x. Live x (call a restores) (L x)) (Kept inside (λ x. Live x (call a restores) (L x))) environment saved f.places → Next inside L test rest next
      → EndsAs (does (call a restores) inside environment saved (world s marks) next) (run (lay plan (call a restores) inside n test rest) None f (world s marks'))
  same_call a restores inside L u p n test rest environment saved f s marks marks' next r h = by (operand_values environment s.store (a.operator ∷ a.operands)) refl where
    by : (ys : Option (List Value)) → operand_values environment s.store (a.operator ∷ a.operands) ≡ ys
        → EndsAs (when_some ys
        (λ vs. on_return (call_in callee a.spread false depth vs (marked (mark.Call a.site) (world s marks)))
        (λ v w. next v (control.after_call (unmarked_reading plan).keeps restores environment saved) saved (mark_each (unmarked_reading plan) mark.Restore restores w))))
        (run (lay plan (call a restores) inside n test rest) None f (world s marks'))
    by None e = tt
    by (Some vs) e =
        let values : Values environment s.store (a.operator ∷ a.operands) vs = values_are environment s.store (a.operator ∷ a.operands) vs e in
        brings_do plan callee' depth s false (FreeInCall plan (λ x. Perhaps (L x))) a p.0 (λ x. Mentions x (application_atoms a) ⊎ Perhaps (L x)) environment saved f r u (λ x l. inl l) vs values
        (Mark (mark.Call a.site) ∷ (Call a.spread (length a.operands) ∷ loaded plan restores (leave test rest))) _
        (λ g marks' there kept. onto_end _ _ _
        (ap (λ o. when_some o (λ vs. on_return (call_in callee' a.spread false depth vs (world s (marks' ++ mark.Call a.site ∷ [])))
        (λ v w. run (loaded plan restores (leave test rest)) None (after_call g v) w)))
        (call_parts plan.limit vs (length a.operands) g (values_length environment s.store (a.operator ∷ a.operands) vs values) there))
        (on_return_ends (call_in callee a.spread false depth vs (world s (marks ++ mark.Call a.site ∷ []))) (call_in callee' a.spread false depth vs (world s (marks' ++ mark.Call a.site ∷ []))) _ _
        (call_in_ends callee callee' follow a.spread false depth vs s (marks ++ mark.Call a.site ∷ []) (marks' ++ mark.Call a.site ∷ []))
        (λ v s marks marks'. returned inside L test rest next h restores p.1.1 environment saved f g (agrees_less plan (λ x l. inr l) r)
        (λ x l t. kept (plan.place x) (call_leaves plan (λ x. Perhaps (L x)) a p.0 (plan.place x) t (p.1.0 x l) (λ q free. free.0 x l t)))
        (λ x t. kept (plan.home x) (call_leaves plan (λ x. Perhaps (L x)) a p.0 (plan.home x) (homes.home x t).in_slot (homes.home x t).own (λ q free. free.1 x t))) v s marks marks'))) marks'

  same_tail : {kept : ℕ → Type 0} (a : Application ℕ) (inside : ℕ → Bool) → AtomsHave Behind (application_atoms a) → Brings plan true (FreeInTail plan) a → length a.operands ≤ length argument_registers + plan.limit → (n : ℕ) (test : Option ℕ) (rest : List Instruction)
      → (environment saved : Environment) (f : Frame) (s : State Procedure) (marks marks' : List MarkKind) (next : Then)
      → Agrees plan (λ x. (x ≡ 0) ⊎ Mentions x (application_atoms a)) kept environment saved f.places
      → EndsAs (does (tail_call a) inside environment saved (world s marks) next) (run (lay plan (tail_call a) inside n test rest) None f (world s marks'))
  same_tail a inside u b few n test rest environment saved f s marks marks' next r = by (environment 0) refl (operand_values environment s.store (a.operator ∷ a.operands)) refl where
    by : (o : Option Value) → environment 0 ≡ o → (ys : Option (List Value)) → operand_values environment s.store (a.operator ∷ a.operands) ≡ ys
        → EndsAs (when_some o (λ link. when_some ys (λ vs. call_in callee a.spread true depth vs (marked (mark.Tail a.site) (world s marks)))))
        (run (lay plan (tail_call a) inside n test rest) None f (world s marks'))
    by None eo ys e = tt
    by (Some back) eo None e = tt
    by (Some back) eo (Some vs) e =
        let values : Values environment s.store (a.operator ∷ a.operands) vs = values_are environment s.store (a.operator ∷ a.operands) vs e in
        brings_do plan callee' depth s true (FreeInTail plan) a b (λ x. (x ≡ 0) ⊎ Mentions x (application_atoms a)) environment saved f r u (λ x l. inr l) vs values
        (Mark (mark.Tail a.site) ∷ (Tail a.spread (length a.operands) ∷ rest)) _
        (λ g marks' there kept. onto_end _ (call_in callee' a.spread true depth vs (world s (marks' ++ mark.Tail a.site ∷ []))) _
        (ap (λ c. if_link c (when_some (parts g.places (λ j. g.places (Slot j)) (length a.operands)) (λ vs. call_in callee' a.spread true depth vs (world s (marks' ++ mark.Tail a.site ∷ [])))))
        (kept link_place (tail_leaves plan a b) ∙ (ap f.places (sym homes.link) ∙ r.here 0 back (inl refl) eo))
        ∙ ap (λ o. when_some o (λ vs. call_in callee' a.spread true depth vs (world s (marks' ++ mark.Tail a.site ∷ []))))
        (tail_parts plan.limit vs (length a.operands) g (values_length environment s.store (a.operator ∷ a.operands) vs values) few there))
        (call_in_ends callee callee' follow a.spread true depth vs s (marks ++ mark.Tail a.site ∷ []) (marks' ++ mark.Tail a.site ∷ []))) marks'

  pub same : (e : Expression) (inside : ℕ → Bool) (L : Later) → Uses Behind e → Placed plan e inside L → (n : ℕ) (test : Option ℕ) (rest : List Instruction) → Below test n
      → (environment saved : Environment) (f : Frame) (s : State Procedure) (marks marks' : List MarkKind) (next : Then) → Agrees plan (λ x. Live x e (L x)) (Kept inside (λ x. Live x e (L x))) environment saved f.places → Next inside L test rest next
      → EndsAs (does e inside environment saved (world s marks) next) (run (lay plan e inside n test rest) None f (world s marks'))
  same (perform o) inside L u p n test rest below environment saved f s marks marks' next r h =
      given_ends marks marks' (operate environment o s) (operate (held f) (operation_at plan.place o) s) _ _
      (operate_follows plan.place (Lives (λ x. Live x (perform o) (L x))) environment (held f) (found plan (λ x. Live x (perform o) (L x)) f r) o s (atoms_live _ (operation_atoms o) u (λ x l. inl l)))
      (λ v s' e. onto_end (next v environment saved (world s' marks)) _ _ (leaving test rest (record f { accumulator = Is v }) (world s' marks') v refl)
      (h v environment saved (record f { accumulator = Is v }) s' marks marks' (agrees_less plan (λ x l. inr (after_value environment o s s' v e (L x) l)) r) refl))
  same (bind x a b) inside L u p n test rest below environment saved f s marks marks' next r h =
      same a inside (λ z t. Across x z (Live z b (L z))) u.1.0 p.1.0 n None _ tt environment saved f s marks marks' _ r
      (λ v environment saved f s marks marks' r e.
      under_does plan.limit callee' depth s (spill plan x) (Store (plan.place x)) _ f _
      (λ marks'. stored_does (λ z. Live z b (L z)) (Kept inside (λ z. Across x z (Live z b (L z)))) (filter inside (x ∷ []))
      (put environment x v) saved (with_place f (plan.place x) f.accumulator) s marks' _ _
      (bound plan homes (λ z. Live z b (L z)) x r p.0 v f.accumulator (e ∙ is_meant x v u.0))
      (λ g marks' a' e'. at_state (λ w. does b inside (put environment x v) (put_if (inside x) saved x v) w next) _ (mark_bound (unmarked_reading plan) inside x (world s marks)) s
      (bound_state (unmarked_reading plan) inside x (world s marks))
      (λ marks. same b inside L u.1.1 p.1.1 (n + labels a) test rest (below_up test n (n + labels a) (omega arith) below)
      (put environment x v) (put_if (inside x) saved x v) g s marks marks' next
      (agrees_on plan (λ z l. l) (λ z k. bound_kept inside (x ∷ []) (λ z. Live z b (L z)) (λ z. Across x z (Live z b (L z))) (λ z o l. (eqb-false z x (not_left (nat_eq z x) _ o), l)) z k)
      (agrees_as plan (λ z. refl) (one_saved inside environment saved x v) a')) h))) marks') where
        is_meant : (x : ℕ) (v : Value) → Behind x → Is v ≡ meant x v
        is_meant zero v b = absurd b
        is_meant (suc x) v b = refl
  same (sequence a b) inside L u p n test rest below environment saved f s marks marks' next r h =
      same a inside (λ x t. Live x b (L x)) u.0 p.0 n None _ tt environment saved f s marks marks' _ r
      (λ v environment saved f s marks marks' r e. same b inside L u.1 p.1 (n + labels a) test rest (below_up test n (n + labels a) (omega arith) below)
      environment saved f s marks marks' next r h)
  same (branch a b d) inside L u p n test rest below environment saved f s marks marks' next r h =
      same a inside (λ x t. MatchBool t (Live x b (L x)) (Live x d (L x))) u.0 p.0 (suc (suc n)) (Some n) _ (omega arith) environment saved f s marks marks' _ r
      (λ v environment saved f s marks marks' r e. either_ends (is_true v) _ _ _ _
      (λ t. same b inside L u.1.0 p.1.0 (suc (suc (n + labels a))) test _ (below_up test n _ (omega arith) below) environment saved f s marks marks' next
      (agrees_less plan (λ x l. subst (λ z. MatchBool z (Live x b (L x)) (Live x d (L x))) (sym t) l) r)
      (λ v environment saved f s marks marks' r e. onto_end (next v environment saved (world s marks)) _ _
      (joined d inside n (suc (suc (n + labels a + labels b))) test rest v f (world s marks') (omega arith) below) (h v environment saved f s marks marks' r e)))
      (λ t. onto_end (does d inside environment saved (world s marks) next) _ _
      (past callee' depth plan b inside (suc (suc (n + labels a))) test _ n f (world s marks') (omega arith)
      ∙ ap (λ z. run (lay plan d inside (suc (suc (n + labels a + labels b))) test (Label (suc n) ∷ rest)) (cond z None (Some n)) f (world s marks')) (eq-eqb n n refl))
      (same d inside L u.1.1 p.1.1 (suc (suc (n + labels a + labels b))) test _ (below_up test n _ (omega arith) below) environment saved f s marks marks' next
      (agrees_less plan (λ x l. subst (λ z. MatchBool z (Live x b (L x)) (Live x d (L x))) (sym t) l) r)
      (λ v environment saved f s marks marks' r e. onto_end (next v environment saved (world s marks)) _ _ (ended n test rest v f (world s marks') below) (h v environment saved f s marks marks' r e)))))
  same (fix members e) inside L u p n test rest below environment saved f s marks marks' next r h =
      same_group members e inside (λ x. Live x e (L x)) u.0 u.1.0 p.0 (lay plan e inside n test rest) next
      (λ environment saved f s r marks marks'. same e inside L u.1.1 p.1 n test rest below environment saved f s marks marks' next r h) environment saved f s marks marks' r
  same (call a restores) inside L u p n test rest below environment saved f s marks marks' next r h = same_call a restores inside L u p n test rest environment saved f s marks marks' next r h
  same (tail_call a) inside L u p n test rest below environment saved f s marks marks' next r h = same_tail a inside u p.0 p.1 n test rest environment saved f s marks marks' next r
  same (return e) inside L u p n test rest below environment saved f s marks marks' next r h =
      same e inside (λ x t. x ≡ 0) u p n None _ tt environment saved f s marks marks' _ r (λ v environment saved f s marks marks' r i. same_return environment saved rest f s marks marks' v r i)
  same (end e) inside L u p n test rest below environment saved f s marks marks' next r h =
      same e inside (λ x t. ⊥) u p n None _ tt environment saved f s marks marks' _ r (λ v environment saved f s marks marks' r i. refl)
  same (save saves e) inside L u p n test rest below environment saved f s marks marks' next r h =
      stored_does (λ x. Live x e (L x)) (Kept inside (λ x. Live x e (L x))) (heads e saves) environment saved f s marks' _ _ r
      (λ g marks' a i. at_state (λ w. does e (with_region saves inside) environment (save_each (heads e saves) environment saved) w next) _
      (mark_each (unmarked_reading plan) mark.Save (heads e saves) (world s marks)) s (each_state (unmarked_reading plan) mark.Save (heads e saves) (world s marks))
      (λ marks. same e (with_region saves inside) L u p.1 n test rest below environment (save_each (heads e saves) environment saved) g s marks marks' next
      (agrees_on plan (λ x l. l) (head_kept inside saves e (λ x. Live x e (L x)) p.0) a)
      (λ v environment saved f s marks marks' r i. h v environment saved f s marks marks' (agrees_on plan (λ x l. l) (λ x k. (or_right (has x saves) _ k.0, k.1)) r) i)))
