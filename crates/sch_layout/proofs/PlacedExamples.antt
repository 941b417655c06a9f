-- A worked example of the whole: a procedure with its variables in registers, `(lambda (f x) (- (f x) x))`. The closure and x
-- stay where they arrive, the value of the call shares RBX with f, and the return address and x are saved and restored. The
-- arguments of the call go straight to their places.
use Rattle.std.proofs.Common.{◌≡◌, ◌≢◌, refl, ap, arith, ℕ, zero, suc, ◌+◌, ◌<◌, true, false, List, [], ◌∷◌, length, Some, None, inl, inr}
use Rattle.std.proofs.lemmas.Bool.{lt-ltb, ne_eqb}
use Rattle.std.specs.Prelude.{slice_get}
use Rattle.sch_word.specs.declared.place.Place.{Place}
use Rattle.sch_word.specs.declared.place.Place.TheVariants.{Reg, Slot}
use Rattle.sch_word.specs.declared.primitive.Primitive.TheVariants.{Subtract}
use Rattle.sch_word.specs.values.Values.{Value}
use Rattle.sch_word.specs.runs.Computation.{State}
use Rattle.sch_word.specs.runs.Store.{Store as Memory}
use Rattle.sch_word.specs.declared.mark.MarkKind.{MarkKind}
use Rattle.sch_word.specs.declared.mark.MarkKind.TheVariants as mark
use Rattle.sch_control.specs.declared.operation.Atom.TheVariants.{Variable}
use Rattle.sch_control.specs.declared.operation.Operand.{Operand}
use Rattle.sch_control.specs.declared.operation.Operand.TheVariants as operand
use Rattle.sch_control.specs.declared.operation.Operation.TheVariants as operation
use Rattle.sch_control.specs.Meaning.{Callee, binds, do_body, no_region}
use Rattle.sch_control.specs.Operations.{operand_value}
use Rattle.sch_word.specs.runs.Procedures.{Procedure}
use Rattle.sch_control.specs.Run as control_run
use Rattle.sch_word.specs.trees.NumberSets.{has}
use Rattle.sch_word.proofs.facts.Booleans.{false_true}
use Rattle.sch_control.specs.Tree.{Expression, perform, bind, call, return, save}
use Rattle.sch_control.proofs.Examples.{applied, held_in}
use Rattle.sch_frames.specs.declared.instruction.Instruction.TheVariants.{Do, Store, Copy, Call, Return, Mark}
use Rattle.sch_frames.specs.Does.{EndsAs, CalleesFollow, world}
use Rattle.sch_frames.specs.Meaning.{execute_each, beginning}
use Rattle.sch_word.specs.values.Places.{same_place, is_slot}
use Rattle.sch_layout.specs.BodyLayout.{Plan, arguments_at, entering, lay, target, unmarked_reading}
use Rattle.sch_layout.specs.Moves.{Contents, Move, is_own, moved}
use Rattle.sch_control.specs.flow.Live.{Live, nothing_later}
use Rattle.sch_control.proofs.VariableLists.{each_at}
use Rattle.sch_layout.specs.SharedPlaces.{Arrives, Brings, FreeInCall, HomeApart, PlacedBody}
use Rattle.sch_layout.proofs.MoveExamples.{given_by}
use Rattle.sch_layout.proofs.SharedExamples.{two_formals}
use Rattle.sch_layout.proofs.does.PlacedBodies.{body_does}

abbrev place : ℕ → Place
place zero = Reg 15
place (suc zero) = Reg 14
place (suc (suc zero)) = Reg 3
place (suc (suc (suc zero))) = Reg 8
place (suc (suc (suc (suc zero)))) = Reg 3
place x = Slot 25

-- the operator goes from RBX into R14, and then x from R8 into RBX: nothing is set aside
abbrev straight : List Move
straight = record { argument = 0; from = operand.Atom (Variable (Reg 3)); to = Reg 14; temp = false } ∷ record { argument = 1; from = operand.Atom (Variable (Reg 8)); to = Reg 3; temp = false } ∷ []

abbrev plan : Plan
plan = record { place = place; home = λ x. Slot (10 + x); limit = 40; moves = λ tail a. straight }

-- ## What is saved

not_there : (j : ℕ) → j < 20 → (y : ℕ) → same_place (Slot j) (place y) ≡ false
not_there j lt zero = refl
not_there j lt (suc zero) = refl
not_there j lt (suc (suc zero)) = refl
not_there j lt (suc (suc (suc zero))) = refl
not_there j lt (suc (suc (suc (suc zero)))) = refl
not_there j lt (suc (suc (suc (suc (suc y))))) = ne_eqb j 25 (λ e. omega (arith, e, lt))

home_apart : (x : ℕ) → x < 10 → HomeApart plan x
home_apart x few = record {
  in_slot = refl;
  own = lt-ltb (10 + x) 40 (omega (arith, few));
  places = not_there (10 + x) (omega (arith, few));
  homes = λ y s n. ne_eqb (10 + x) (10 + y) (λ e. n (omega (arith, e)));
}

home : (x : ℕ) → is_slot (place x) ≡ false → HomeApart plan x
home zero s = home_apart 0 (omega arith)
home (suc zero) s = home_apart 1 (omega arith)
home (suc (suc zero)) s = home_apart 2 (omega arith)
home (suc (suc (suc zero))) s = home_apart 3 (omega arith)
home (suc (suc (suc (suc zero)))) s = home_apart 4 (omega arith)
home (suc (suc (suc (suc (suc x))))) s = absurd (cc)

-- ## The procedure

abbrev after : Expression
after = return (perform (operation.Prim 1 Subtract (held_in 4 ∷ held_in 3 ∷ [])))

abbrev saved_round : Expression
saved_round = bind 4 (call (applied 0 (held_in 2) (held_in 3 ∷ [])) (0 ∷ 3 ∷ [])) after

abbrev body : Expression
body = save (0 ∷ 3 ∷ []) saved_round

-- nothing is brought anywhere
comes : (live : ℕ → Type 0) → Arrives plan live 4
comes live zero lt s x few l n = absurd (cc)
comes live (suc zero) lt s x few l n = absurd (cc)
comes live (suc (suc zero)) lt s x few l n = absurd (cc)
comes live (suc (suc (suc zero))) lt s x few l n = absurd (cc)
comes live (suc (suc (suc (suc y)))) lt s x few l n = absurd (omega (arith, lt))

own : (x : ℕ) → is_own 40 (place x) ≡ true
own zero = refl
own (suc zero) = refl
own (suc (suc zero)) = refl
own (suc (suc (suc zero))) = refl
own (suc (suc (suc (suc zero)))) = refl
own (suc (suc (suc (suc (suc x))))) = refl

brings : (live : ℕ → Type 0) → Brings plan false (FreeInCall plan live) (applied 0 (held_in 2) (held_in 3 ∷ []))
brings live = record {
  shuffled = record { carries = λ t start. ((_, (refl, refl)), ((_, (refl, refl)), tt)); arrives = arrives };
  reads = (refl, (refl, tt));
  writes = (refl, (refl, tt));
  inside = λ x m. own x;
} where
  arrives : (t : Memory) (start : Contents) (k : ℕ) (o : Operand Place) → slice_get (arguments_at place (applied 0 (held_in 2) (held_in 3 ∷ []))) k ≡ Some o
      → moved t straight start (target false 40 k) ≡ operand_value start t o
  arrives t start zero o e = ap (given_by start t) e
  arrives t start (suc zero) o e = ap (given_by start t) e
  arrives t start (suc (suc k)) o e = absurd (cc)

-- behind the call f is no longer live
value_alone : (x : ℕ) → Live x after (nothing_later x) → x ≢ 4 → same_place (place x) (Reg 3) ≡ false
value_alone zero l n = refl
value_alone (suc zero) l n = refl
value_alone (suc (suc zero)) (inl e) n = absurd (cc)
value_alone (suc (suc zero)) (inr (inl e)) n = absurd (omega (arith, e))
value_alone (suc (suc zero)) (inr (inr e)) n = absurd (omega (arith, e))
value_alone (suc (suc (suc zero))) l n = refl
value_alone (suc (suc (suc (suc zero)))) l n = absurd (n refl)
value_alone (suc (suc (suc (suc (suc x))))) l n = refl

link_alone : (x : ℕ) → x ≢ 0 → same_place (place x) (Reg 15) ≡ false
link_alone zero n = absurd (n refl)
link_alone (suc zero) n = refl
link_alone (suc (suc zero)) n = refl
link_alone (suc (suc (suc zero))) n = refl
link_alone (suc (suc (suc (suc zero)))) n = refl
link_alone (suc (suc (suc (suc (suc x))))) n = refl

third_alone : (x : ℕ) → x ≢ 3 → same_place (place x) (Reg 8) ≡ false
third_alone zero n = refl
third_alone (suc zero) n = refl
third_alone (suc (suc zero)) n = refl
third_alone (suc (suc (suc zero))) n = absurd (n refl)
third_alone (suc (suc (suc (suc zero)))) n = refl
third_alone (suc (suc (suc (suc (suc x))))) n = refl

is_placed : PlacedBody plan two_formals body
is_placed = record {
  homes = record { link = refl; home = home };
  arrives = comes (λ x. Live x body (nothing_later x));
  placed = (fresh, (value_alone, ((brings _, (λ x l. own x, ((refl, λ x l n. link_alone x n), ((refl, λ x l n. third_alone x n), tt)))), tt)));
} where
  -- what is saved is bound before
  fresh : (x : ℕ) → has x (0 ∷ 3 ∷ []) ≡ true → binds x saved_round ≡ true → Live x body (nothing_later x) → ⊥
  fresh x h b l = false_true b (each_at (λ x. binds x saved_round ≡ false) (0 ∷ 3 ∷ []) (refl, (refl, tt)) x h)

-- so its layout does what it does, from where the closure and the arguments arrive
its_layout_does : (callee callee' : Callee) → CalleesFollow callee callee'
    → (depth : ℕ) (self : Value) (arguments : List Value) → length arguments ≡ 2 → (s : State Procedure) (marks marks' : List MarkKind)
    → EndsAs (do_body (unmarked_reading plan) callee depth body (control_run.beginning two_formals self arguments) (world s marks))
    (execute_each callee' depth (entering plan two_formals (lay plan body no_region 0 None [])) None (beginning two_formals self arguments) (world s marks'))
its_layout_does = body_does plan two_formals body is_placed (tt, ((tt, (tt, tt)), (tt, (tt, tt))))

its_layout : entering plan two_formals (lay plan body no_region 0 None []) ≡
    Mark (mark.Save 0) ∷ Copy (Slot 10) (Reg 15) ∷ Mark (mark.Save 3) ∷ Copy (Slot 13) (Reg 8)
    ∷ Copy (Reg 14) (Reg 3) ∷ Copy (Reg 3) (Reg 8) ∷ Mark (mark.Call 0) ∷ Call false 1
    ∷ Mark (mark.Restore 0) ∷ Copy (Reg 15) (Slot 10) ∷ Mark (mark.Restore 3) ∷ Copy (Reg 8) (Slot 13) ∷ Store (Reg 3)
    ∷ Do (operation.Prim 1 Subtract (held_in (Reg 3) ∷ held_in (Reg 8) ∷ [])) ∷ Mark mark.Return ∷ Return ∷ []
its_layout = refl
