-- How procedures are entered: the operands where a body finds them, and the code of an operator.
use Rattle.std.proofs.Common.{◌≡◌, ℕ, zero, suc, ◌+◌, ◌*◌, ◌^◌, ◌<◌, ◌≤◌, ◌%◌, List, [], ◌∷◌, length, Bool}
use Rattle.std.proofs.Common.{true, false, Option, Some, None, refl, sym, ap, ◌∙◌, subst, arith, ◌||◌, inl, inr, ◌⊎◌}
use Rattle.std.specs.Prelude.{nat_eq, negsuc, slice_get}
use Rattle.std.proofs.lemmas.Bool.{eqb-true, cases_lt}
use Rattle.std.proofs.lemmas.Option.{slice_get-get_or}
use Rattle.sch_word.specs.declared.place.Place.{Place}
use Rattle.sch_word.specs.declared.place.Place.TheVariants.{Reg}
use Rattle.sch_word.specs.values.Values.{Value, procedure}
use Rattle.sch_word.specs.runs.Computation.{State}
use Rattle.sch_control.specs.Operations.{and_value}
use Rattle.sch_word.specs.runs.Procedures.{Procedure}
use Rattle.sch_control.specs.Meaning.{World, Callee}
use Rattle.sch_frames.specs.Meaning.{Cell, Junk, value_in, cell_of, argument, arguments, entry_places}
use Rattle.sch_frames.specs.Valid.{is_register}
use Rattle.sch_insn.specs.Machine.{add64, word}
use Rattle.sch_word.specs.declared.mark.MarkKind.{MarkKind}
use Rattle.sch_asm.specs.Data.{word_in}
use Rattle.sch_asm.specs.Views.{View}
use Rattle.sch_select_memory.specs.Parts.{a_procedure, Parts}
use Rattle.sch_select_memory.specs.Encoded.{IsWord}
use Rattle.sch_select_memory.proofs.heap.Spots.{spot_within}
use Rattle.sch_select_memory.proofs.Places.{Plan, code_of, Activation, StoreAt, PlacesAt, Holds, held_value}
use Rattle.sch_select_memory.proofs.simulation.Outcomes.{Sim}

-- ---- the operands of a call

-- what a list of values was read from
record Consed (o : Option Value) (q : Option (List Value)) (vs : List Value) : Type 0 where
  first : Value
  others : List Value
  first_is : o ≡ Some first
  others_are : q ≡ Some others
  is : vs ≡ first ∷ others

consed : (o : Option Value) (q : Option (List Value)) (vs : List Value) → and_value o q ≡ Some vs → Consed o q vs
consed (Some v) (Some us) vs e = let f : Some (v ∷ us) ≡ Some vs = e in let same : v ∷ us ≡ vs = cc in record
    { first = v; others = us; first_is = refl; others_are = refl; is = sym same }
consed (Some v) None vs e = absurd (let bad : None ≡ Some vs = e in cc)
consed None None vs e = absurd (let bad : None ≡ Some vs = e in cc)
consed None (Some us) vs e = absurd (let bad : None ≡ Some vs = e in cc)

module _ (places : Place → Cell) (slots : ℕ → Cell) where
  pub arguments_count : (from count : ℕ) (vs : List Value) → arguments places slots from count ≡ Some vs
      → length vs ≡ count
  arguments_count from zero vs e = let f : Some [] ≡ Some vs = e in let same : [] ≡ vs = cc in ap length (sym same)
  arguments_count from (suc count) vs e =
      let h = consed (argument places slots from) (arguments places slots (suc from) count) vs e in
      ap length h.is ∙ ap suc (arguments_count (suc from) count h.others h.others_are)

  argument_from : (from count k : ℕ) (vs : List Value) (v : Value) → arguments places slots from count ≡ Some vs
      → slice_get vs k ≡ Some v → argument places slots (from + k) ≡ Some v
  argument_from from zero k vs v e f = absurd (let g : Some [] ≡ Some vs = e in let same : [] ≡ vs = cc in let bad :
      None ≡ Some v = ap (λ l. slice_get l k) same ∙ f in cc)
  argument_from from (suc count) zero vs v e f =
      let h = consed (argument places slots from) (arguments places slots (suc from) count) vs e in
      let g : Some h.first ≡ Some v = sym (ap (λ l. slice_get l 0) h.is) ∙ f in
      let z : from + 0 ≡ from = omega arith in
      ap (argument places slots) z ∙ h.first_is ∙ g
  argument_from from (suc count) (suc k) vs v e f =
      let h = consed (argument places slots from) (arguments places slots (suc from) count) vs e in
      let z : from + suc k ≡ suc from + k = omega arith in
      ap (argument places slots) z ∙ argument_from (suc from) count k h.others v h.others_are
      (sym (ap (λ l. slice_get l (suc k)) h.is) ∙ f)

  -- the operand with k before it
  pub argument_at : (count k : ℕ) (vs : List Value) (v : Value) → arguments places slots 0 count ≡ Some vs
      → slice_get vs k ≡ Some v → argument places slots k ≡ Some v
  argument_at count k vs v e f = let z : k ≡ 0 + k = omega arith in ap (argument places slots) z
      ∙ argument_from 0 count k vs v e f

-- ---- the places of a body that is entered

-- a register of variables is one of eight
pub each_register : (P : ℕ → Type 0) → P 3 → P 6 → P 7 → P 8 → P 9 → P 10 → P 14 → P 15 → (r : ℕ) → is_register r ≡ true
    → P r
each_register P p3 p6 p7 p8 p9 p10 p14 p15 r e = by (nat_eq r 3) (nat_eq r 8) (nat_eq r 9) (nat_eq r 10)
    (nat_eq r 6) (nat_eq r 7) (nat_eq r 14) (nat_eq r 15) refl refl refl refl refl refl refl refl e
  where
    from : (k : ℕ) → P k → nat_eq r k ≡ true → P r
    from k p h = subst P (sym (eqb-true r k h)) p

    by : (b3 b8 b9 b10 b6 b7 b14 b15 : Bool) → nat_eq r 3 ≡ b3 → nat_eq r 8 ≡ b8 → nat_eq r 9 ≡ b9 → nat_eq r 10 ≡ b10
        → nat_eq r 6 ≡ b6 → nat_eq r 7 ≡ b7 → nat_eq r 14 ≡ b14 → nat_eq r 15 ≡ b15
        → (b3 || (b8 || (b9 || (b10 || (b6 || (b7 || (b14 || (b15 || false)))))))) ≡ true → P r
    by true b8 b9 b10 b6 b7 b14 b15 h3 h8 h9 h10 h6 h7 h14 h15 t = from 3 p3 h3
    by false true b9 b10 b6 b7 b14 b15 h3 h8 h9 h10 h6 h7 h14 h15 t = from 8 p8 h8
    by false false true b10 b6 b7 b14 b15 h3 h8 h9 h10 h6 h7 h14 h15 t = from 9 p9 h9
    by false false false true b6 b7 b14 b15 h3 h8 h9 h10 h6 h7 h14 h15 t = from 10 p10 h10
    by false false false false true b7 b14 b15 h3 h8 h9 h10 h6 h7 h14 h15 t = from 6 p6 h6
    by false false false false false true b14 b15 h3 h8 h9 h10 h6 h7 h14 h15 t = from 7 p7 h7
    by false false false false false false true b15 h3 h8 h9 h10 h6 h7 h14 h15 t = from 14 p14 h14
    by false false false false false false false true h3 h8 h9 h10 h6 h7 h14 h15 t = from 15 p15 h15
    by false false false false false false false false h3 h8 h9 h10 h6 h7 h14 h15 t = absurd
        (let bad : false ≡ true = t in cc)

pub passed : (back : ℕ) (parts : Parts) (vs : List Value) (k x : ℕ)
    → ((v : Value) → slice_get vs k ≡ Some v → IsWord parts v x) → Holds back parts (cell_of (slice_get vs k)) x
passed back parts vs k x h = by (slice_get vs k) refl
  where
    by : (o : Option Value) → slice_get vs k ≡ o → Holds back parts (cell_of o) x
    by None e = tt
    by (Some v) e = h v e

-- Registers have the operands that they had, that of the closure the procedure, and that of the link where to return.
pub entry_registers : (back to : ℕ) (parts : Parts) (places : Place → Cell) (slots : ℕ → Cell) (count : ℕ)
    (self : Value) (vs : List Value) (old new : ℕ → ℕ) → arguments places slots 0 count ≡ Some vs
    → ((r : ℕ) → is_register r ≡ true → Holds back parts (places (Reg r)) (old r)) → IsWord parts self (new 14)
    → new 15 ≡ to
    → new 3 ≡ old 3 → new 6 ≡ old 6 → new 7 ≡ old 7 → new 8 ≡ old 8 → new 9 ≡ old 9 → new 10 ≡ old 10
    → (r : ℕ) → is_register r ≡ true → Holds to parts (entry_places self vs (Reg r)) (new r)
entry_registers back to parts places slots count self vs old new e h hs link e3 e6 e7 e8 e9 e10 =
    each_register (λ r. Holds to parts (entry_places self vs (Reg r)) (new r)) (from 3 0 refl (λ v f. f) e3)
    (from 6 4 refl (λ v f. f) e6) (from 7 5 refl (λ v f. f) e7) (from 8 1 refl (λ v f. f) e8)
    (from 9 2 refl (λ v f. f) e9) (from 10 3 refl (λ v f. f) e10) hs link
  where
    from : (r k : ℕ) → is_register r ≡ true → ((v : Value) → argument places slots k ≡ Some v → value_in
        (places (Reg r)) ≡ Some v) → new r ≡ old r → Holds to parts (cell_of (slice_get vs k)) (new r)
    from r k is at same = passed to parts vs k (new r) (λ v f. subst (IsWord parts v) (sym same)
        (held_value back parts (places (Reg r)) (old r) v (h r is) (at v (argument_at places slots count k vs v e f))))

-- ---- the code of an operator

module _ (plan : Plan) where
  open plan use {closures, stack, near}

  -- a procedure that a word names is there
  pub is_there : (parts : Parts) (s : State Procedure) (x : View) (n u : ℕ)
      → StoreAt plan parts s x.bytes x.output x.answers → IsWord parts (procedure n) u
      → slice_get s.procedures n ≡ None → ⊥
  is_there parts s x n u g name e = ⊎_by (cases_lt n (length s.procedures))
    where
      ⊎_by : (n < length s.procedures) ⊎ (length s.procedures ≤ n) → ⊥
      ⊎_by (inl lt) = let there = slice_get-get_or s.procedures n (record { label = 0; fields = [] }) lt in let bad :
          None ≡ Some _ = sym e ∙ there in cc
      ⊎_by (inr le) = let none = g.new.procedure n le in let bad : None ≡ Some name.at = sym none ∙ name.there in cc

  pub record CodeOf (bytes : List ℕ) (label u : ℕ) : Type 0 where
    pub at : ℕ
    pub named : add64 u (word (negsuc 3)) ≡ at
    pub low : closures ≤ at
    pub high : at + 8 ≤ stack
    pub is : word_in bytes at ≡ code_of plan label

  pub code_there : (parts : Parts) (s : State Procedure) (x : View) (n u : ℕ) (q : Procedure)
      → StoreAt plan parts s x.bytes x.output x.answers → slice_get s.procedures n ≡ Some q
      → IsWord parts (procedure n) u → CodeOf x.bytes q.label u
  code_there parts s x n u q g e name =
      let r = g.contents.procedure n q e in
      let inside = spot_within parts (a_procedure n) r.at r.there in
      let low = inside.0 in let high = inside.1 in let room = r.room in
      let same : Some name.at ≡ Some r.at = sym name.there ∙ r.there in
      let at : name.at ≡ r.at = cc in
      let b = g.begins in let z = g.ends in let i = g.within in let top = near in
      let is : u ≡ 16 * r.at.unit + 4 = name.is ∙ ap (λ s. 16 * s.unit + 4) at in
      record {
        at = 16 * r.at.unit;
        named = ap (λ u. add64 u (word (negsuc 3))) is ∙ (let m : (16 * r.at.unit + 4 + 18446744073709551612) % 2 ^ 64
            ≡ 16 * r.at.unit = omega (arith, high, room, z, i, top) in m);
        low = omega (arith, low, b);
        high = omega (arith, high, room, z, i);
        is = r.code;
      }

-- ---- entering

-- Wherever a callee is entered, the machine does what it does: it stands at the code of the procedure, RAX has
-- the operands' count, and the places hold what they hold where a body begins.
abbrev pub Enters : (plan : Plan) (body_steps : ℕ) → Callee → (nested : ℕ) → Type 0
Enters plan body_steps callee nested =
    (act : Activation plan) → act.nested ≡ nested → act.entered ≡ true
    → (self : Value) (p : Procedure) (vs : List Value) (parts : Parts) (before : List MarkKind) (w : World)
    (x : View)
    → x.place ≡ code_of plan p.label → x.registers 0 ≡ length vs → length vs < 2 ^ 31
    → length vs ≤ 6 + plan.words
    → PlacesAt plan act parts w.state.store.charged (entry_places self vs) (λ k. Junk) x.registers x.bytes
    → StoreAt plan parts w.state x.bytes x.output x.answers → w.marks ≡ before
    → Sim plan body_steps act parts before w.state.store x 40 (callee self p vs act.left w)
