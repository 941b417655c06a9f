-- Activations of small runs, and the one way through a body that tests a constant.
use Rattle.std.proofs.Common.{◌≡◌, List, [], ◌∷◌, true, false, cond, Some, None, refl, sym, ap, subst, ◌∙◌}
use Rattle.sch_word.specs.declared.constant.Const.TheVariants.{Boolean}
use Rattle.sch_word.specs.values.Values.{Value, boolean, is_true, unspecified}
use Rattle.sch_word.specs.values.Checked.{passes}
use Rattle.sch_word.specs.runs.Computation.{gives, State, checked_call}
use Rattle.sch_word.specs.runs.Procedures.{Procedure}
use Rattle.sch_word.specs.declared.mark.MarkKind.{MarkKind}
use Rattle.sch_word.specs.declared.mark.MarkKind.TheVariants as mark
use Rattle.sch_word.specs.declared.place.Place.TheVariants.{Slot}
use Rattle.sch_control.specs.declared.operation.Atom.TheVariants.{Constant, Variable}
use Rattle.sch_control.specs.declared.operation.Operand.TheVariants as operand
use Rattle.sch_control.specs.declared.operation.Operation.TheVariants as operation
use Rattle.sch_frames.specs.declared.instruction.Instruction.{Instruction}
use Rattle.sch_frames.specs.declared.instruction.Instruction.TheVariants.{Do, Call, IfFalse, Jump, Label, Mark, Return, Tail}
use Rattle.sch_frames.specs.Meaning.{Frame, Is, Junk, Link, beginning}
use Rattle.sch_word.specs.runs.Activations.{activations}
use Rattle.sch_frames.specs.Standing.{Other, marks_stand}
use Rattle.sch_frames.specs.Ways.{way}

-- ---- which marks are whose

-- a form calls twice; the second callee is left by a tail call, and then the next form begins
two_calls : activations (mark.Enter 0 ∷ mark.Call 5 ∷ mark.Enter 1 ∷ mark.Save 2 ∷ mark.Return ∷ mark.Call 6 ∷ mark.Enter 1 ∷ mark.Tail 7 ∷ mark.Enter 2 ∷ mark.Return ∷ mark.Temp
    ∷ mark.Enter 3 ∷ []) ≡ record {
      current = Some (mark.Enter 3 ∷ []);
      suspended = [];
      handed_over = false;
      ended = (mark.Enter 1 ∷ mark.Save 2 ∷ mark.Return ∷ []) ∷ ((mark.Enter 1 ∷ mark.Tail 7 ∷ []) ∷ ((mark.Enter 2 ∷ mark.Return ∷ []) ∷ []));
    }
two_calls = refl

-- one that waits has its marks before the call and those after it
goes_on : activations (mark.Enter 0 ∷ mark.Save 1 ∷ mark.Call 5 ∷ mark.Enter 1 ∷ mark.Return ∷ mark.Restore 1 ∷ []) ≡ record {
  current = Some (mark.Enter 0 ∷ mark.Save 1 ∷ mark.Call 5 ∷ mark.Restore 1 ∷ []);
  suspended = [];
  handed_over = false;
  ended = (mark.Enter 1 ∷ mark.Return ∷ []) ∷ [];
}
goes_on = refl

-- calls that are pending wait in their order
two_wait : activations (mark.Enter 0 ∷ mark.Call 5 ∷ mark.Enter 1 ∷ mark.Call 6 ∷ mark.Enter 2 ∷ []) ≡ record {
  current = Some (mark.Enter 2 ∷ []);
  suspended = (mark.Enter 1 ∷ mark.Call 6 ∷ []) ∷ ((mark.Enter 0 ∷ mark.Call 5 ∷ []) ∷ []);
  handed_over = false;
  ended = [];
}
two_wait = refl

-- behind a tail call that enters nothing the caller goes on
tail_to_nothing : activations (mark.Enter 0 ∷ mark.Call 5 ∷ mark.Enter 1 ∷ mark.Tail 6 ∷ mark.Save 2 ∷ []) ≡ record {
  current = Some (mark.Enter 0 ∷ mark.Call 5 ∷ mark.Save 2 ∷ []);
  suspended = [];
  handed_over = false;
  ended = (mark.Enter 1 ∷ mark.Tail 6 ∷ []) ∷ [];
}
tail_to_nothing = refl

-- what is passed while none is open is nobody's
nobodys : activations (mark.Save 1 ∷ mark.Call 2 ∷ mark.Return ∷ mark.Tail 3 ∷ mark.Temp ∷ []) ≡ record { current = None; suspended = []; handed_over = false; ended = [] }
nobodys = refl

-- ---- ways

abbrev behind : List Instruction
behind = Mark (mark.Save 1) ∷ (Jump 1 ∷ (Label 0 ∷ (Mark (mark.Save 2) ∷ (Label 1 ∷ (Mark mark.Return ∷ (Return ∷ []))))))

-- `(if #f 1 2)` with a mark in each arm
abbrev constant_test : List Instruction
constant_test = Do (operation.Operand (operand.Atom (Constant (Boolean false)))) ∷ (IfFalse 0 ∷ behind)

from_label : (f : Frame) (s : State Procedure) (marks : List MarkKind) → way behind (Some 0) f s marks → marks ≡ mark.Save 2 ∷ (mark.Return ∷ [])
from_label f s [] h = absurd h
from_label f s (n ∷ []) h = absurd h.1
from_label f s (n ∷ (m ∷ [])) h = let a : n ≡ mark.Save 2 = h.0 in let b : m ≡ mark.Return = h.1.0 in cc
from_label f s (n ∷ (m ∷ (k ∷ marks))) h = absurd (let e : k ∷ marks ≡ [] = h.1.1.1.1.1 in cc)

goes_false : (u : Value) → Some (boolean false) ≡ Some u → is_true u ≡ false
goes_false u e = let i : boolean false ≡ u = cc in ap is_true (sym i)

-- a procedure without operands
abbrev entered : Frame
entered = beginning (Some (record { formals = 0; rest = false; fields = 0 })) unspecified []

-- it goes through the second arm, and through that alone
through : (s : State Procedure) → way constant_test None entered s (mark.Save 2 ∷ (mark.Return ∷ []))
through s = (boolean false, (s, (refl, (boolean false, (refl, (refl, (refl, (refl, (boolean false, (refl, refl))))))))))

second_arm : (s : State Procedure) (marks : List MarkKind) → way constant_test None entered s marks → marks ≡ mark.Save 2 ∷ (mark.Return ∷ [])
second_arm s marks w =
    let v = w.0 in
    let e : Some (gives (boolean false) s) ≡ Some (gives v w.1.0) = w.1.1.0 in
    let i : boolean false ≡ v = cc in
    let u = w.1.1.1.0 in
    let q : Some v ≡ Some u = w.1.1.1.1.0 in
    let f = record entered { accumulator = Is v } in
    from_label f w.1.0 marks (subst (λ b. way behind (cond b None (Some 0)) f w.1.0 marks) (goes_false u (ap Some i ∙ q)) w.1.1.1.1.1)

-- no way ends by a return where it is not known where to return, or where there is no value
no_link : (s : State Procedure) (marks : List MarkKind) → way (Mark mark.Return ∷ (Return ∷ [])) None (beginning None unspecified []) s marks → ⊥
no_link s [] h = h
no_link s (n ∷ marks) h = let e : Junk ≡ Link = h.1.0 in cc

no_value : (s : State Procedure) (marks : List MarkKind) → way (Mark mark.Return ∷ (Return ∷ [])) None entered s marks → ⊥
no_value s [] h = h
no_value s (n ∷ marks) h = let e : None ≡ Some h.1.1.0 = h.1.1.1.0 in cc

-- no way goes through a call without its operand
no_operand : (s : State Procedure) (marks : List MarkKind) → way (Mark (mark.Call 5) ∷ (Call false 1 ∷ (Mark mark.Return ∷ (Return ∷ [])))) None entered s marks → ⊥
no_operand s [] h = h
no_operand s (n ∷ marks) h = let e : None ≡ Some h.1.0 = h.1.1.0 in cc

-- nor through one of what is no procedure
no_procedure : (s : State Procedure) (marks : List MarkKind) → way (Mark (mark.Call 5) ∷ (Call false 0 ∷ (Mark mark.Return ∷ (Return ∷ [])))) None entered s marks → ⊥
no_procedure s [] h = h
no_procedure s (n ∷ marks) h =
    let vs = h.1.0 in
    let q : Some (unspecified ∷ []) ≡ Some vs = h.1.1.0 in
    let p : unspecified ∷ [] ≡ vs = cc in
    let depth = h.1.1.1.0.0 in
    let i : checked_call s.procedures s.store false false depth (unspecified ∷ []) ≡ passes h.1.1.1.0.1.0 =
    subst (λ us. checked_call s.procedures s.store false false depth us ≡ passes h.1.1.1.0.1.0) (sym p) h.1.1.1.0.1.1 in
    cc

-- no way ends by a tail call where it is not known where to return, or without its operand
no_link_behind : (s : State Procedure) (marks : List MarkKind) → way (Mark (mark.Tail 5) ∷ (Tail false 0 ∷ [])) None (beginning None unspecified []) s marks → ⊥
no_link_behind s [] h = h
no_link_behind s (n ∷ marks) h = let e : Junk ≡ Link = h.1.0 in cc

no_last_operand : (s : State Procedure) (marks : List MarkKind) → way (Mark (mark.Tail 5) ∷ (Tail false 1 ∷ [])) None entered s marks → ⊥
no_last_operand s [] h = h
no_last_operand s (n ∷ marks) h = let e : None ≡ Some h.1.1.0 = h.1.1.1.0 in cc

-- no way loads what is not there
no_load : (s : State Procedure) (marks : List MarkKind) → way (Do (operation.Operand (operand.Atom (Variable (Slot 3)))) ∷ (Mark mark.Return ∷ (Return ∷ []))) None entered s marks → ⊥
no_load s marks h = let e : None ≡ Some (gives h.0 h.1.0) = h.1.1.0 in cc

both_stand : marks_stand Other (Mark (mark.Call 1) ∷ (Call false 0 ∷ (Mark (mark.Tail 2) ∷ (Tail false 0 ∷ [])))) ≡ true
both_stand = refl

call_alone : marks_stand Other (Call false 0 ∷ (Mark mark.Return ∷ (Return ∷ []))) ≡ false
call_alone = refl

other_between : marks_stand Other (Mark mark.Return ∷ (Label 0 ∷ (Return ∷ []))) ≡ false
other_between = refl
