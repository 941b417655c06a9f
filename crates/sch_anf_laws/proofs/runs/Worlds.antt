-- The states of a flat program beside those of the program that normalizing makes of it.
use Rattle.std.proofs.Common.{◌≡◌, ℕ, zero, suc, Bool, true, List, [], ◌∷◌, length, map, Option, Some, None, option_map, refl, ◌∙◌}
use Rattle.std.specs.Prelude.{slice_get, nat_lt}
use Rattle.std.specs.List.{list_all}
use Rattle.std.proofs.lemmas.Option.{slice_get-map}
use Rattle.sch_word.specs.values.Values.{Value, unspecified, fixnum, character, boolean, nil, symbol, object, procedure, cell}
use Rattle.sch_word.specs.runs.Store.{Store, Constants}
use Rattle.sch_word.specs.values.Checked.{Checked, passes, refused, exhausted, unreachable, on_passed}
use Rattle.sch_word.specs.runs.Handed.{handed}
use Rattle.sch_word.specs.runs.Computation.{Outcome, gives, stops, spent, State, on_value, with_rest, checked, call_with, callee, known_procedure, depth_left, entry_left, operands, Entry}
use Rattle.sch_word.specs.runs.Orders.{Orders}
use Rattle.sch_word.proofs.SameStore.{Gives}
use Rattle.sch_word.proofs.Steady.{OutcomeGrows}
use Rattle.sch_flat.specs.Tree.{Body}
use Rattle.sch_flat.specs.Meaning.{Enter}
use Rattle.sch_flat.specs.Valid.{has_fields}
use Rattle.sch_word.specs.declared.mark.MarkKind.{MarkKind}
use Rattle.sch_word.specs.runs.Procedures.{Procedure}
use Rattle.sch_control.specs.Meaning.{World, Result, Callee, on_outcome, on_checked, call_in, entered}
use Rattle.sch_anf_laws.specs.Normal.{new_label}

-- What does not change in a run: the flat bodies, the places of the forms among them, the constants of the
-- store with as many literals, and the orders of the sites.
pub record Setting : Type 0 where
  pub bodies : List Body
  pub starts : List ℕ
  pub orders : Orders
  pub constants : Constants
  pub literals : ℕ
  pub literal : (k : ℕ) → nat_lt k literals ≡ true → (v : Value) × (slice_get constants.literals k ≡ Some v)

-- ## States

-- the same procedure, by its label in the other program
abbrev pub image : List ℕ → Procedure → Procedure
image starts c = record { label = new_label starts c.label; fields = c.fields }

abbrev pub images : List ℕ → List Procedure → List Procedure
images starts = map (image starts)

abbrev pub state_of : List ℕ → State Procedure → State Procedure
state_of starts s = record { cells = s.cells; store = s.store; procedures = images starts s.procedures }

abbrev pub world_of : List ℕ → State Procedure → List MarkKind → World
world_of starts s marks = record { state = state_of starts s; marks = marks }

-- a procedure has a body with as many fields as its record
abbrev pub is_procedure_of : List Body → Procedure → Bool
is_procedure_of bodies c = has_fields (slice_get bodies c.label) (length c.fields)

-- a state that a run comes to from another one: procedures stay, and each has a body
pub record Reached (a : Setting) (start s : State Procedure) : Type 0 where
  pub kept : (i : ℕ) (c : Procedure) → slice_get start.procedures i ≡ Some c → slice_get s.procedures i ≡ Some c
  pub constants : s.store.constants ≡ a.constants
  pub known : list_all (is_procedure_of a.bodies) s.procedures ≡ true

-- What a flat tree ends with, and what its normal form does: the same value and state, but for the marks and the
-- labels of procedures. A stop may leave other cells: those of a group are made one by one.
abbrev pub Same : Setting → State Procedure → Outcome (State Procedure) Value → Result → Type 0
Same a start (gives v s) r = (marks : List MarkKind) × (r ≡ Some (gives v (world_of a.starts s marks))) × Reached a start s
Same a start (stops why s) r = (w : World) × (r ≡ Some (stops why w)) × (w.state.store ≡ s.store)
Same a start (spent s) r = (w : World) × (r ≡ Some (spent w)) × (w.state.store ≡ s.store)

abbrev entry_of : {P : Type 0} → P → List Value → ℕ → Entry P
entry_of p arguments left = record { procedure = p; arguments = arguments; depth = left }

module _ (a : Setting) where
  pub reached_self : (start s : State Procedure) → Reached a start s → Reached a s s
  reached_self start s r = record { kept = λ i c e. e; constants = r.constants; known = r.known }

  pub reached_on : (s t u : State Procedure) → Reached a s t → Reached a t u → Reached a s u
  reached_on s t u r q = record { kept = λ i c e. q.kept i c (r.kept i c e); constants = q.constants; known = q.known }

  pub reached_store : (start s : State Procedure) (cells : List (Option Value)) (t : Store) → Reached a start s → t.constants ≡ a.constants
      → Reached a start (record { cells = cells; store = t; procedures = s.procedures })
  reached_store start s cells t r e = record { kept = r.kept; constants = e; known = r.known }

  -- from a state that is reached
  pub same_from : (start s : State Procedure) (o : Outcome (State Procedure) Value) (r : Result) → Reached a start s → Same a s o r → Same a start o r
  same_from start s (gives v t) r q h = (h.0, h.1, reached_on start s t q h.2)
  same_from start s (stops why t) r q h = h
  same_from start s (spent t) r q h = h

  -- ## Steps

  pub same_after : {V W : Type 0} (start : State Procedure) (o : Outcome (State Procedure) V) (f : V → State Procedure → Outcome (State Procedure) W)
      (k : W → State Procedure → Outcome (State Procedure) Value) (r : Result)
      → Same a start (on_value o (λ v s. on_value (f v s) k)) r → Same a start (on_value (on_value o f) k) r
  same_after start (gives v s) f k r h = h
  same_after start (stops why s) f k r h = h
  same_after start (spent s) f k r h = h

  -- an action on the store does the same on both sides
  pub same_action : {V : Type 0} (start s : State Procedure) (o : Outcome Store V) (cells : List (Option Value)) (marks : List MarkKind) (k : V → State Procedure → Outcome (State Procedure) Value)
      (next : V → World → Result)
      → Reached a start s → OutcomeGrows s.store o
      → ((v : V) (t : Store) → t.constants ≡ a.constants → Same a start (k v (record { cells = s.cells; store = t; procedures = s.procedures }))
      (next v (record { state = record { cells = cells; store = t; procedures = images a.starts s.procedures }; marks = marks })))
      → Same a start (on_value (with_rest s.cells s.procedures o) k) (on_outcome marks (with_rest cells (images a.starts s.procedures) o) next)
  same_action start s (gives v t) cells marks k next r g h = h v t (g.constants ∙ r.constants)
  same_action start s (stops why t) cells marks k next r g h = (record { state = record { cells = cells; store = t; procedures = images a.starts s.procedures }; marks = marks }, refl, refl)
  same_action start s (spent t) cells marks k next r g h = (record { state = record { cells = cells; store = t; procedures = images a.starts s.procedures }; marks = marks }, refl, refl)

  -- the same for one that keeps a promise on its value
  pub same_promised : {V : Type 0} (Promise : V → Type 0) (start s : State Procedure) (o : Outcome Store V) (marks : List MarkKind) (k : V → State Procedure → Outcome (State Procedure) Value)
      (next : V → World → Result)
      → Reached a start s → OutcomeGrows s.store o → Gives Promise o
      → ((v : V) (t : Store) → t.constants ≡ a.constants → Promise v
      → Same a start (k v (record { cells = s.cells; store = t; procedures = s.procedures }))
      (next v (record { state = record { cells = s.cells; store = t; procedures = images a.starts s.procedures }; marks = marks })))
      → Same a start (on_value (with_rest s.cells s.procedures o) k) (on_outcome marks (with_rest s.cells (images a.starts s.procedures) o) next)
  same_promised Promise start s (gives v t) marks k next r g p h = h v t (g.constants ∙ r.constants) p
  same_promised Promise start s (stops why t) marks k next r g p h = (record { state = record { cells = s.cells; store = t; procedures = images a.starts s.procedures }; marks = marks }, refl, refl)
  same_promised Promise start s (spent t) marks k next r g p h = (record { state = record { cells = s.cells; store = t; procedures = images a.starts s.procedures }; marks = marks }, refl, refl)

  -- ## Calls

  -- entering a procedure does the same on both sides
  abbrev pub SameEnter : Enter → Callee → Type 0
  SameEnter enter to = (s : State Procedure) (marks : List MarkKind) (i : ℕ) (c : Procedure) (vs : List Value) (left : ℕ) → Reached a s s → slice_get s.procedures i ≡ Some c
      → Same a s (enter c vs left s) (to (procedure i) (image a.starts c) vs left (world_of a.starts s marks))

  module _ (enter : Enter) (to : Callee) (same_enter : SameEnter enter to) where
    same_left : (s : State Procedure) (marks : List MarkKind) (i : ℕ) (us : List Value) (c : Procedure) (arguments : List Value) (entries : ℕ) (left : Checked ℕ) → Reached a s s
        → slice_get s.procedures i ≡ Some c
        → Same a s (checked (on_passed left (λ left. entry_left entries (entry_of c arguments left))) (λ e. enter e.procedure e.arguments e.depth) s)
        (on_checked (on_passed left (λ left. entry_left entries (entry_of (image a.starts c) arguments left))) (world_of a.starts s marks) (entered to (procedure i ∷ us) (world_of a.starts s marks)))
    same_left s marks i us c arguments zero (passes left) r e = (_, refl, refl)
    same_left s marks i us c arguments (suc n) (passes left) r e = same_enter s marks i c arguments left r e
    same_left s marks i us c arguments n (refused why) r e = (_, refl, refl)
    same_left s marks i us c arguments n exhausted r e = (_, refl, refl)
    same_left s marks i us c arguments n unreachable r e = (_, refl, refl)

    same_known : (s : State Procedure) (marks : List MarkKind) (i : ℕ) (us : List Value) (o : Option Procedure) (arguments : List Value) (left : Checked ℕ) → Reached a s s → slice_get s.procedures i ≡ o
        → Same a s (checked (on_passed (known_procedure o) (λ p. on_passed left (λ left. entry_left s.store.entries (entry_of p arguments left)))) (λ e. enter e.procedure e.arguments e.depth) s)
        (on_checked (on_passed (known_procedure (option_map (image a.starts) o)) (λ p. on_passed left (λ left. entry_left s.store.entries (entry_of p arguments left))))
        (world_of a.starts s marks) (entered to (procedure i ∷ us) (world_of a.starts s marks)))
    same_known s marks i us None arguments left r e = (_, refl, refl)
    same_known s marks i us (Some c) arguments left r e = same_left s marks i us c arguments s.store.entries left r e

    abbrev Called : State Procedure → List MarkKind → (tail : Bool) → ℕ → List Value → Checked (List Value) → Type 0
    Called s marks tail depth us arguments =
        Same a s (checked (on_passed arguments (λ arguments. on_passed (callee s.procedures us)
        (λ p. on_passed (depth_left tail depth) (λ left. entry_left s.store.entries (entry_of p arguments left))))) (λ e. enter e.procedure e.arguments e.depth) s)
        (on_checked (on_passed arguments (λ arguments. on_passed (callee (images a.starts s.procedures) us)
        (λ p. on_passed (depth_left tail depth) (λ left. entry_left s.store.entries (entry_of p arguments left))))) (world_of a.starts s marks) (entered to us (world_of a.starts s marks)))

    same_called : (s : State Procedure) (marks : List MarkKind) (tail : Bool) (depth : ℕ) (us : List Value) (arguments : Checked (List Value)) → Reached a s s → Called s marks tail depth us arguments
    same_called s marks tail depth us (refused why) r = (_, refl, refl)
    same_called s marks tail depth us exhausted r = (_, refl, refl)
    same_called s marks tail depth us unreachable r = (_, refl, refl)
    same_called s marks tail depth [] (passes arguments) r = (_, refl, refl)
    same_called s marks tail depth (procedure i ∷ us) (passes arguments) r =
        rw (slice_get-map (image a.starts) s.procedures i) (same_known s marks i us (slice_get s.procedures i) arguments (depth_left tail depth) r refl)
    same_called s marks tail depth (fixnum n ∷ us) (passes arguments) r = (_, refl, refl)
    same_called s marks tail depth (character b ∷ us) (passes arguments) r = (_, refl, refl)
    same_called s marks tail depth (boolean b ∷ us) (passes arguments) r = (_, refl, refl)
    same_called s marks tail depth (nil ∷ us) (passes arguments) r = (_, refl, refl)
    same_called s marks tail depth (unspecified ∷ us) (passes arguments) r = (_, refl, refl)
    same_called s marks tail depth (symbol n ∷ us) (passes arguments) r = (_, refl, refl)
    same_called s marks tail depth (object n ∷ us) (passes arguments) r = (_, refl, refl)
    same_called s marks tail depth (cell n ∷ us) (passes arguments) r = (_, refl, refl)

    pub same_call : (s : State Procedure) (marks : List MarkKind) (spread tail : Bool) (depth : ℕ) (us : List Value) → Reached a s s
        → Same a s (call_with enter spread tail depth us s) (call_in to spread tail depth us (world_of a.starts s marks))
    same_call s marks spread tail depth us r = same_called s marks tail depth us (handed (operands us) spread s.store.objects) r
