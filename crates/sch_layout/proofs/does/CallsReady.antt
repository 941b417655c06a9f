-- What a call finds where it takes its operator and its operands, and what its moves leave alone.
use Rattle.std.proofs.Common.{◌≡◌, ℕ, zero, suc, ◌+◌, ◌<◌, ◌≤◌, List, [], ◌∷◌, length, Option, Some, None, Bool, true, false, cond, refl, sym, ap, ◌∙◌, subst, arith}
use Rattle.std.specs.Prelude.{◌-◌, slice_get}
use Rattle.std.specs.List.{list_all}
use Rattle.std.specs.Bool.{MatchBool}
use Rattle.std.proofs.lemmas.Bool.{and_from, ne_eqb, le-ltb, lt-ltb, ltb-true}
use Rattle.std.proofs.lemmas.Option.{slice_get_within}
use Rattle.sch_frames.proofs.EndsAlike.{follows_some}
use Rattle.sch_word.specs.declared.place.Place.{Place}
use Rattle.sch_word.specs.declared.place.Place.TheVariants.{Reg, Slot}
use Rattle.sch_word.specs.values.Values.{Value}
use Rattle.sch_word.specs.runs.Computation.{State}
use Rattle.sch_word.specs.runs.Store.{Store}
use Rattle.sch_word.specs.declared.mark.MarkKind.{MarkKind}
use Rattle.sch_word.specs.values.Registers.{argument_registers}
use Rattle.sch_control.specs.declared.operation.Atom.{Atom}
use Rattle.sch_control.specs.declared.operation.Atom.TheVariants.{Constant, Literal, Variable}
use Rattle.sch_control.specs.declared.operation.Operand.{Operand}
use Rattle.sch_control.specs.declared.operation.Operand.TheVariants as operand
use Rattle.sch_control.specs.declared.operation.Application.{Application}
use Rattle.sch_control.specs.AtomsAndSites.{operand_atoms, operands_atoms, application_atoms}
use Rattle.sch_control.specs.Meaning.{Environment, Callee, Result}
use Rattle.sch_control.specs.Operations.{and_value, operand_value, operand_values}
use Rattle.sch_word.specs.runs.Procedures.{Procedure}
use Rattle.sch_frames.specs.declared.instruction.Instruction.{Instruction}
use Rattle.sch_frames.specs.Does.{EndsAs}
use Rattle.sch_frames.specs.Meaning.{Cell, Frame, argument, argument_in, arguments, held, parts, value_in}
use Rattle.sch_control.specs.flow.Places.{argument_register, argument_slot, register_or_slot}
use Rattle.sch_word.specs.values.Places.{same_place, closure_place, is_slot, link_place}
use Rattle.sch_word.proofs.facts.Lists.{some_same}
use Rattle.sch_frames.proofs.FramePlaces.{slot_of}
use Rattle.sch_layout.specs.BodyLayout.{Plan, atoms_at, operand_at, operands_at, arguments_at, target, move_all}
use Rattle.sch_layout.specs.Laws.{AtomsHave, Behind}
use Rattle.sch_control.specs.flow.Live.{Mentions}
use Rattle.sch_layout.specs.Moves.{Contents, EachMove, is_own, reads_own, reads_own_atom}
use Rattle.sch_layout.specs.SharedPlaces.{Brings, FreeInCall, FreeInTail}
use Rattle.sch_control.proofs.RegisterOrSlot.{arrival_by}
use Rattle.sch_layout.proofs.does.MovesDo.{seen, operand_seen, moves_do, run}
use Rattle.sch_layout.proofs.does.OperationsFollow.{have_left, have_right, operand_follows}
use Rattle.sch_layout.proofs.does.PlacesAgree.{Agrees, Lives, atoms_live, found}
use Rattle.sch_layout.proofs.MovesHave.{each_mapped}

-- ## Values of operands

abbrev the_list : Option (List Value) → List Value
the_list None = []
the_list (Some vs) = vs

-- these operands have these values
abbrev pub Values : (environment : Environment) → Store → List (Operand ℕ) → List Value → Type 0
Values environment t [] [] = Unit {0}
Values environment t (o ∷ operands) (v ∷ vs) = (operand_value environment t o ≡ Some v) × Values environment t operands vs
Values environment t _ _ = ⊥

pub values_are : (environment : Environment) (t : Store) (operands : List (Operand ℕ)) (vs : List Value) → operand_values environment t operands ≡ Some vs → Values environment t operands vs
values_are environment t [] [] h = tt
values_are environment t [] (v ∷ vs) h = absurd cc
values_are environment t (o ∷ operands) vs h = by (operand_value environment t o) refl (operand_values environment t operands) refl (values_are environment t operands) h where
  by : (a : Option Value) → operand_value environment t o ≡ a → (bs : Option (List Value)) → operand_values environment t operands ≡ bs
      → ((us : List Value) → operand_values environment t operands ≡ Some us → Values environment t operands us) → and_value a bs ≡ Some vs → Values environment t (o ∷ operands) vs
  by None ea bs eb more h = absurd cc
  by (Some v) ea None eb more h = absurd cc
  by (Some v) ea (Some us) eb more h = subst (λ ws. Values environment t (o ∷ operands) ws) (ap the_list h) (ea, more us eb)

pub values_length : (environment : Environment) (t : Store) (operands : List (Operand ℕ)) (vs : List Value) → Values environment t operands vs → length vs ≡ length operands
values_length environment t [] [] h = refl
values_length environment t [] (v ∷ vs) h = absurd h
values_length environment t (o ∷ operands) [] h = absurd h
values_length environment t (o ∷ operands) (v ∷ vs) h = ap suc (values_length environment t operands vs h.1)

-- ## What is read where a call takes it

arguments_are : (us : List Value) (places : Place → Cell) (slots : ℕ → Cell) (from : ℕ) → ((k : ℕ) (v : Value) → slice_get us k ≡ Some v → argument places slots (from + k) ≡ Some v)
    → arguments places slots from (length us) ≡ Some us
arguments_are [] places slots from h = refl
arguments_are (u ∷ us) places slots from h =
    ap (λ a. and_value a (arguments places slots (suc from) (length us))) (subst (λ n. argument places slots n ≡ Some u) (omega arith) (h 0 u refl))
    ∙ ap (λ b. and_value (Some u) b) (arguments_are us places slots (suc from) (λ k v e. subst (λ n. argument places slots n ≡ Some v) (omega arith) (h (suc k) v e)))

parts_are : (vs : List Value) (count : ℕ) (places : Place → Cell) (slots : ℕ → Cell) → length vs ≡ suc count → ((v : Value) → slice_get vs 0 ≡ Some v → value_in (places closure_place) ≡ Some v)
    → ((k : ℕ) (v : Value) → slice_get vs (suc k) ≡ Some v → argument places slots k ≡ Some v) → parts places slots count ≡ Some vs
parts_are [] count places slots l c h = absurd (omega (arith, l))
parts_are (u ∷ us) count places slots l c h =
    ap (λ x. and_value x (arguments places slots 0 count)) (c u refl)
    ∙ ap (λ b. and_value (Some u) b) (subst (λ n. arguments places slots 0 n ≡ Some us) (omega (arith, l)) (arguments_are us places slots 0 (λ k v e. subst (λ n. argument places slots n ≡ Some v) (omega arith) (h k v e))))

module _ (words : ℕ) where
  -- a call finds its parts in its targets
  pub call_parts : (vs : List Value) (count : ℕ) (g : Frame) → length vs ≡ suc count → ((k : ℕ) (v : Value) → slice_get vs k ≡ Some v → value_in (seen words g (target false words k)) ≡ Some v)
      → parts g.places g.outgoing count ≡ Some vs
  call_parts vs count g l h = parts_are vs count g.places g.outgoing l (λ v e. h 0 v e) (λ k v e. at (argument_register k) (argument_slot k) ∙ h (suc k) v e) where
    at : (o : Option ℕ) (j : ℕ) → argument_in g.places g.outgoing o j ≡ value_in (seen words g (register_or_slot o (words + j)))
    at (Some r) j = refl
    at None j =
        ap (λ n. value_in (g.outgoing n)) (omega arith)
        ∙ sym (ap (λ t. value_in (cond t (g.places (Slot (words + j))) (g.outgoing ((words + j) - words)))) (le-ltb (words + j) words (omega arith)))

  -- and so does a tail call, whose operands fit into the frame
  pub tail_parts : (vs : List Value) (count : ℕ) (g : Frame) → length vs ≡ suc count → count ≤ length argument_registers + words
      → ((k : ℕ) (v : Value) → slice_get vs k ≡ Some v → value_in (seen words g (target true words k)) ≡ Some v) → parts g.places (λ j. g.places (Slot j)) count ≡ Some vs
  tail_parts vs count g l few h =
      parts_are vs count g.places (λ j. g.places (Slot j)) l (λ v e. h 0 v e)
      (λ k v e. let lt : suc k < length vs = slice_get_within vs (suc k) v e in at k (omega (arith, lt, l)) (argument_register k) refl ∙ (ap (λ p. value_in (seen words g p)) (sym (arrival_by k)) ∙ h (suc k) v e)) where
        at : (k : ℕ) → k < count → (o : Option ℕ) → argument_register k ≡ o → argument_in g.places (λ j. g.places (Slot j)) o (argument_slot k) ≡ value_in (seen words g (register_or_slot o (argument_slot k)))
        at k lt (Some r) e = refl
        at k lt None e =
            let i = slot_of k e in
            sym (ap (λ t. value_in (cond t (g.places (Slot (argument_slot k))) (g.outgoing (argument_slot k - words)))) (lt-ltb (argument_slot k) words (omega (arith, i, lt, few))))

  -- ## What is not written

  -- no target of a call is a slot of the own frame
  pub target_apart : (p : Place) → is_slot p ≡ true → is_own words p ≡ true → (k : ℕ) → same_place p (target false words k) ≡ false
  target_apart (Reg r) s own k = absurd (cc)
  target_apart (Slot j) s own zero = refl
  target_apart (Slot j) s own (suc k) = by (argument_register k) where
    by : (o : Option ℕ) → same_place (Slot j) (register_or_slot o (words + argument_slot k)) ≡ false
    by (Some r) = refl
    by None = let lt : j < words = ltb-true j words own in ne_eqb j (words + argument_slot k) (λ e. omega (arith, e, lt))

  -- and none of a tail call is where the return address is
  pub target_not_link : (k : ℕ) → same_place link_place (target true words k) ≡ false
  target_not_link zero = refl
  target_not_link (suc zero) = refl
  target_not_link (suc (suc zero)) = refl
  target_not_link (suc (suc (suc zero))) = refl
  target_not_link (suc (suc (suc (suc zero)))) = refl
  target_not_link (suc (suc (suc (suc (suc zero))))) = refl
  target_not_link (suc (suc (suc (suc (suc (suc zero)))))) = refl
  target_not_link (suc (suc (suc (suc (suc (suc (suc k))))))) = refl

module _ (plan : Plan) where
  -- the moves of a call leave a slot that is free of them
  pub call_leaves : (live : ℕ → Type 0) (a : Application ℕ) → Brings plan false (FreeInCall plan live) a → (p : Place) → is_slot p ≡ true → is_own plan.limit p ≡ true
      → ((q : Place) → FreeInCall plan live q → same_place p q ≡ false) → EachMove (λ m. same_place p m.to ≡ false) (plan.moves false a)
  call_leaves live a b p s own free = each_mapped _ _ (plan.moves false a) (λ m h. by m.temp m.to m.argument h) b.writes where
    by : (t : Bool) (to : Place) (k : ℕ) → MatchBool t (FreeInCall plan live to) (to ≡ target false plan.limit k) → same_place p to ≡ false
    by true to k h = free to h
    by false to k h = ap (same_place p) h ∙ target_apart plan.limit p s own k

  pub tail_leaves : (a : Application ℕ) → Brings plan true (FreeInTail plan) a → EachMove (λ m. same_place link_place m.to ≡ false) (plan.moves true a)
  tail_leaves a b = each_mapped _ _ (plan.moves true a) (λ m h. by m.temp m.to m.argument h) b.writes where
    by : (t : Bool) (to : Place) (k : ℕ) → MatchBool t (FreeInTail plan to) (to ≡ target true plan.limit k) → same_place link_place to ≡ false
    by true to k h = h
    by false to k h = ap (same_place link_place) h ∙ target_not_link plan.limit k

  -- ## Arguments, by what the frame holds

  abbrev Own : ℕ → Type 0
  Own x = is_own plan.limit (plan.place x) ≡ true

  own_atoms : (atoms : List (Atom ℕ)) → AtomsHave (Lives Own) atoms → list_all (reads_own_atom plan.limit) (atoms_at plan.place atoms) ≡ true
  own_atoms [] h = refl
  own_atoms (Constant c ∷ atoms) h = own_atoms atoms h.1
  own_atoms (Literal n ∷ atoms) h = own_atoms atoms h.1
  own_atoms (Variable x ∷ atoms) h = and_from _ _ h.0.1 (own_atoms atoms h.1)

  own_operand : (o : Operand ℕ) → AtomsHave (Lives Own) (operand_atoms o) → reads_own plan.limit (operand_at plan.place o) ≡ true
  own_operand (operand.Atom a) h = own_atoms (a ∷ []) h
  own_operand (operand.Read site which atoms) h = own_atoms atoms h

  module _ (live : ℕ → Type 0) {kept : ℕ → Type 0} (environment saved : Environment) (f : Frame) (agrees : Agrees plan live kept environment saved f.places) (t : Store) where
    -- what is seen before the moves
    abbrev start : Contents
    start p = value_in (seen plan.limit f p)

    one_given : (o : Operand ℕ) (v : Value) → operand_value environment t o ≡ Some v → AtomsHave (Lives live) (operand_atoms o) → AtomsHave (Lives Own) (operand_atoms o)
        → operand_value start t (operand_at plan.place o) ≡ Some v
    one_given o v e u own =
        sym (operand_seen plan.limit f start (λ p. refl) t (operand_at plan.place o) (own_operand o own))
        ∙ follows_some _ _ v e (operand_follows plan.place (Lives live) environment (held f) (found plan live f agrees) t o u)

    -- each argument has a value
    all_given : (operands : List (Operand ℕ)) (vs : List Value) → Values environment t operands vs → AtomsHave (Lives live) (operands_atoms operands) → AtomsHave (Lives Own) (operands_atoms operands)
        → (k : ℕ) (o : Operand Place) → slice_get (operands_at plan.place operands) k ≡ Some o → (v : Value) × (operand_value start t o ≡ Some v)
    all_given [] vs h u own k o e = absurd (cc)
    all_given (x ∷ operands) [] h u own k o e = absurd h
    all_given (x ∷ operands) (v ∷ vs) h u own zero o e =
        (v, subst (λ z. operand_value start t z ≡ Some v) (some_same e) (one_given x v h.0 (have_left (Lives live) (operand_atoms x) _ u) (have_left (Lives Own) (operand_atoms x) _ own)))
    all_given (x ∷ operands) (v ∷ vs) h u own (suc k) o e = all_given operands vs h.1 (have_right (Lives live) (operand_atoms x) _ u) (have_right (Lives Own) (operand_atoms x) _ own) k o e

    -- and it is the one that is wanted
    given_at : (operands : List (Operand ℕ)) (vs : List Value) → Values environment t operands vs → AtomsHave (Lives live) (operands_atoms operands) → AtomsHave (Lives Own) (operands_atoms operands)
        → (k : ℕ) (v : Value) → slice_get vs k ≡ Some v → (o : Operand Place) × ((slice_get (operands_at plan.place operands) k ≡ Some o) × (operand_value start t o ≡ Some v))
    given_at [] [] h u own k v e = absurd (cc)
    given_at [] (w ∷ vs) h u own k v e = absurd h
    given_at (x ∷ operands) [] h u own k v e = absurd h
    given_at (x ∷ operands) (w ∷ vs) h u own zero v e =
        (operand_at plan.place x, (refl, one_given x w h.0 (have_left (Lives live) (operand_atoms x) _ u) (have_left (Lives Own) (operand_atoms x) _ own) ∙ e))
    given_at (x ∷ operands) (w ∷ vs) h u own (suc k) v e = given_at operands vs h.1 (have_right (Lives live) (operand_atoms x) _ u) (have_right (Lives Own) (operand_atoms x) _ own) k v e

  -- the moves of a call bring its parts where it takes them
  pub brings_do : (callee : Callee) (depth : ℕ) (s : State Procedure) (tail : Bool) (Free : Place → Type 0) (a : Application ℕ) → Brings plan tail Free a
      → (live : ℕ → Type 0) {kept : ℕ → Type 0} (environment saved : Environment) (f : Frame) → Agrees plan live kept environment saved f.places → AtomsHave Behind (application_atoms a)
      → ((x : ℕ) → Mentions x (application_atoms a) → live x) → (vs : List Value) → Values environment s.store (a.operator ∷ a.operands) vs → (rest : List Instruction) (r : Result)
      → ((g : Frame) (marks : List MarkKind) → ((k : ℕ) (v : Value) → slice_get vs k ≡ Some v → value_in (seen plan.limit g (target tail plan.limit k)) ≡ Some v)
      → ((p : Place) → EachMove (λ m. same_place p m.to ≡ false) (plan.moves tail a) → g.places p ≡ f.places p) → EndsAs r (run plan.limit callee depth s rest g marks))
      → (marks : List MarkKind) → EndsAs r (run plan.limit callee depth s (move_all plan.limit (plan.moves tail a) rest) f marks)
  brings_do callee depth s tail Free a b live environment saved f agrees u l vs values rest r go marks =
      let lives = atoms_live live (application_atoms a) u l in
      let own = atoms_live Own (application_atoms a) u b.inside in
      moves_do plan.limit callee depth s (arguments_at plan.place a) (start live environment saved f agrees s.store)
      (all_given live environment saved f agrees s.store (a.operator ∷ a.operands) vs values lives own)
      (plan.moves tail a) (start live environment saved f agrees s.store) (b.shuffled.carries s.store (start live environment saved f agrees s.store)) b.reads f (λ p. refl) rest r
      (λ g marks sees kept. go g marks
      (λ k v e. let o = given_at live environment saved f agrees s.store (a.operator ∷ a.operands) vs values lives own k v e in
      sees (target tail plan.limit k) ∙ (b.shuffled.arrives s.store (start live environment saved f agrees s.store) k o.0 o.1.0 ∙ o.1.1)) kept) marks
