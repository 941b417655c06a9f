-- What is owed where a procedure with a rest variable is entered: its pairs are paid for by what is charged for them.
use Rattle.std.proofs.Common.{◌≡◌, ℕ, suc, ◌+◌, ◌*◌, ◌<◌, ◌≤◌, List, [], length, drop, sym, ap, ◌∙◌, arith}
use Rattle.std.proofs.Common.{subst, append-nil, true}
use Rattle.sch_word.specs.values.Values.{Value}
use Rattle.sch_word.specs.runs.Charges.{fit}
use Rattle.sch_word.specs.runs.Store.{Store}
use Rattle.sch_word.specs.runs.Computation.{Outcome, gives, stops, spent, with_rest}
use Rattle.sch_control.specs.Meaning.{World, Result, on_outcome}
use Rattle.sch_frames.specs.Meaning.{Junk, entry_places}
use Rattle.sch_asm.specs.declared.item.Item.{Item}
use Rattle.sch_word.specs.declared.mark.MarkKind.{MarkKind}
use Rattle.sch_asm.specs.Stands.{Stands}
use Rattle.sch_asm.specs.Views.{View}
use Rattle.sch_select_memory.specs.Parts.{Parts}
use Rattle.sch_select_memory.specs.RestCode.{rest_routine, rest_entry}
use Rattle.sch_select_memory.proofs.Places.{Plan, Activation, StoreAt, PlacesAt}
use Rattle.sch_select_memory.proofs.simulation.Outcomes.{Sim, Laid, after, stops_here}
use Rattle.sch_select_memory.proofs.lists.RestLoop.{changed}
use Rattle.sch_select_memory.proofs.lists.Rests.{Begun, Fits, fitted}

module _ (plan : Plan) (body_steps : ℕ) (laid : Laid plan body_steps) (act : Activation plan) (parts : Parts) (a0 : ℕ)
    (behind : List Item) (routine : Stands plan.setting [] a0 (rest_routine plan.stack behind)) where
  open plan use {setting, words, heap, stack}

  -- what the body that begins owes, with its arguments
  module _ (self : Value) (vs : List Value) (w : World) (x : View) (before : List MarkKind) (required n c : ℕ)
      (following : List Item) (next : List Value → World → Result) (many : length vs ≤ 6 + words)
      (few : required < 6 + words) (counted : x.registers 0 ≡ length vs)
      (f : PlacesAt plan act parts w.state.store.charged (entry_places self vs) (λ k. Junk) x.registers x.bytes)
      (g : StoreAt plan parts w.state x.bytes x.output x.answers)
      (h : Stands setting [] x.place (rest_entry required n following)) (marked : w.marks ≡ before)
      (K : (us : List Value) (t : Store) (q : Begun plan act parts a0 behind routine x w.state self
      (length (drop required vs)) following us t) → Sim plan body_steps act q.parts_after before t
      (changed x q.registers q.flags q.place q.bytes) c
      (next us (record w { state = record w.state { store = t } }))) where
    pub rest_sim : Sim plan body_steps act parts before w.state.store x (25 + c)
        (on_outcome w.marks (with_rest w.state.cells w.state.procedures (fit (suc required) true vs w.state.store)) next)
    rest_sim = by (fit (suc required) true vs w.state.store)
        (fitted plan act parts a0 behind routine self vs w.state x required n following many few counted f g h)
      where
        by : (o : Outcome Store (List Value))
            → Fits plan act parts a0 behind routine x w.state self (length (drop required vs)) following o
            → Sim plan body_steps act parts before w.state.store x (25 + c)
            (on_outcome w.marks (with_rest w.state.cells w.state.procedures o) next)
        by (gives us t) q =
            let first = q.few in let entries = q.entries in let charged = q.charged in let room = q.store.within in
            let answers = ap length q.answers in let bodies = ap (λ k. body_steps * k) q.entries in
            after plan body_steps act parts q.parts_after q.words before [] w.state.store t x
            (changed x q.registers q.flags q.place q.bytes) q.least q.steps c (25 + c) _ q.leads q.below
            (omega (arith, entries)) (omega (arith, entries))
            (omega (arith, first, charged, room, answers, bodies))
            (subst (λ b. Sim plan body_steps act q.parts_after b t (changed x q.registers q.flags q.place q.bytes) c
            (next us (record w { state = record w.state { store = t } }))) (sym (append-nil before)) (K us t q))
        by (stops why t) q = subst (λ t. Sim plan body_steps act parts before w.state.store x (25 + c)
            (on_outcome w.marks (with_rest w.state.cells w.state.procedures (stops why t)) next)) (sym q.0)
            (stops_here plan body_steps laid before [] x 13 (25 + c) why w q.1 g.printed
            (marked ∙ sym (append-nil before)) (omega arith))
        by (spent t) q = absurd q
