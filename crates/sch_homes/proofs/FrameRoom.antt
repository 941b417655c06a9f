-- How large a frame is: the slots of variables, a home for no more variables than live in registers, and what calls set aside.
use Rattle.std.proofs.Common.{◌≡◌, ℕ, zero, suc, ◌+◌, ◌*◌, ◌<◌, ◌≤◌, List, [], ◌∷◌, length, Option, Some, None, Bool, true, false, cond, refl, sym, ap, ◌∙◌, subst, arith}
use Rattle.std.specs.Prelude.{nat_lt, slice_get}
use Rattle.std.proofs.Math.Nat.{max-le}
use Rattle.std.proofs.lemmas.Bool.{and_parts, leb-true, ltb-false, ltb-true}
use Rattle.std.proofs.lemmas.Option.{slice_get_within}
use Rattle.sch_word.specs.declared.place.Place.{Place}
use Rattle.sch_word.specs.declared.place.Place.TheVariants.{Reg, Slot}
use Rattle.sch_word.specs.trees.Shape.{max_operands}
use Rattle.sch_word.specs.values.Registers.{argument_registers}
use Rattle.sch_control.specs.declared.body.Entry.{Entry}
use Rattle.sch_control.specs.Tree as control
use Rattle.sch_control.specs.Tree.{Expression, perform, bind, sequence, branch, fix, call, tail_call, return, end, save}
use Rattle.sch_control.specs.Valid.{entry_shaped, first_bound}
use Rattle.sch_control.specs.flow.Bare.{erased}
use Rattle.sch_word.specs.values.Places.{is_slot, link_place}
use Rattle.sch_control.specs.flow.Places.{arrival, count_slots, is_usual, place_of, stays, formals_of}
use Rattle.sch_control.proofs.SlotCounts.{slots_within}
use Rattle.sch_frames.specs.Valid.{max_words}
use Rattle.sch_layout.specs.Laws.{Uses}
use Rattle.sch_layout.proofs.EachCall.{call_erased, each_call, operands_few}
use Rattle.sch_control.specs.EachCall.{EachCall}
use Rattle.sch_layout.proofs.layouts.VariablesUsed.{code_uses, numbered_is}
use Rattle.sch_homes.specs.CallMoves.{call_end}
use Rattle.sch_homes.specs.Homes.{count_below, first_home, has_home, homes_end, homes_words, is_saved, late_slots, place, slots_end, has_register}
use Rattle.sch_homes.specs.Laws.{AreDense, IsPlaced}
use Rattle.sch_homes.proofs.CallEnds.{call_within, calls_within, used_before}
use Rattle.sch_homes.proofs.SlotsApart.{HasRoom}

-- ## What regions and restores leave

pub uses_erased : (P : ℕ → Type 0) (e : Expression) → Uses P (erased e) → Uses P e
uses_erased P (perform o) u = u
uses_erased P (bind x a b) u = (u.0, (uses_erased P a u.1.0, uses_erased P b u.1.1))
uses_erased P (sequence a b) u = (uses_erased P a u.0, uses_erased P b u.1)
uses_erased P (branch a b c) u = (uses_erased P a u.0, (uses_erased P b u.1.0, uses_erased P c u.1.1))
uses_erased P (fix members e) u = (u.0, (u.1.0, uses_erased P e u.1.1))
uses_erased P (call a restores) u = u
uses_erased P (tail_call a) u = u
uses_erased P (return e) u = uses_erased P e u
uses_erased P (end e) u = uses_erased P e u
uses_erased P (save saves e) u = uses_erased P e u

-- ## Counts

count_shift : (test : ℕ → Bool) (n : ℕ) → count_below test (suc n) ≡ cond (test 0) (suc (count_below (λ x. test (suc x)) n)) (count_below (λ x. test (suc x)) n)
count_shift test zero = refl
count_shift test (suc n) = by (test (suc n)) (test 0) (count_shift test n) where
  by : (t z : Bool) → count_below test (suc n) ≡ cond z (suc (count_below (λ x. test (suc x)) n)) (count_below (λ x. test (suc x)) n)
      → cond t (suc (count_below test (suc n))) (count_below test (suc n))
      ≡ cond z (suc (cond t (suc (count_below (λ x. test (suc x)) n)) (count_below (λ x. test (suc x)) n))) (cond t (suc (count_below (λ x. test (suc x)) n)) (count_below (λ x. test (suc x)) n))
  by true true e = ap suc e
  by true false e = ap suc e
  by false true e = e
  by false false e = e

count_more : (test other : ℕ → Bool) → ((x : ℕ) → test x ≡ true → other x ≡ true) → (n : ℕ) → count_below test n ≤ count_below other n
count_more test other f zero = omega arith
count_more test other f (suc n) = by (test n) (other n) refl refl (count_more test other f n) where
  by : (t r : Bool) → test n ≡ t → other n ≡ r → count_below test n ≤ count_below other n
      → cond t (suc (count_below test n)) (count_below test n) ≤ cond r (suc (count_below other n)) (count_below other n)
  by true true e i le = omega (arith, le)
  by true false e i le = absurd (let h = sym i ∙ f n e in cc)
  by false true e i le = omega (arith, le)
  by false false e i le = le

-- each variable lives in a register or in a slot
registers_and_slots : (places : List Place) → count_below (λ x. has_register (slice_get places x)) (length places) + count_slots places ≡ length places
registers_and_slots [] = refl
registers_and_slots (Reg r ∷ places) =
    let s = count_shift (λ x. has_register (slice_get (Reg r ∷ places) x)) (length places) in
    let h = registers_and_slots places in
    omega (arith, s, h)
registers_and_slots (Slot j ∷ places) =
    let s = count_shift (λ x. has_register (slice_get (Slot j ∷ places) x)) (length places) in
    let h = registers_and_slots places in
    omega (arith, s, h)

-- no more have homes than live in registers
pub homes_few : (entry : Option Entry) (e : Expression) (places : List Place) → count_below (has_home entry e places) (length places) + count_slots places ≤ length places
homes_few entry e places =
    let more = count_more (has_home entry e places) (λ x. has_register (slice_get places x)) (λ x h. (and_parts _ (is_saved e x) h).0) (length places) in
    let all = registers_and_slots places in
    omega (arith, more, all)

-- where each slot is below a number, so is the end of the slots
pub slots_end_below : (late most : ℕ) → late ≤ most → (places : List Place) → ((x j : ℕ) → slice_get places x ≡ Some (Slot j) → j < most) → slots_end late places ≤ most
slots_end_below late most le [] f = le
slots_end_below late most le (Reg r ∷ places) f = slots_end_below late most le places (λ x j h. f (suc x) j h)
slots_end_below late most le (Slot j ∷ places) f = max-le (f 0 j refl) (slots_end_below late most le places (λ x j h. f (suc x) j h))

-- as many variables live in slots as there are from the first one on
first_slots : (places : List Place) (n : ℕ) → n ≤ length places → ((k : ℕ) → k < n → is_slot (place_of places k) ≡ true) → n ≤ count_slots places
first_slots [] n le f = le
first_slots (q ∷ places) zero le f = omega arith
first_slots (q ∷ places) (suc n) le f = by (is_slot q) (f 0 (omega arith)) (first_slots places n (omega (arith, le)) (λ k lt. f (suc k) (omega (arith, lt)))) where
  by : (t : Bool) → t ≡ true → n ≤ count_slots places → suc n ≤ cond t (suc (count_slots places)) (count_slots places)
  by true h more = omega (arith, more)
  by false h more = absurd (cc)

count_rest : (q : Place) (places : List Place) → count_slots places ≤ count_slots (q ∷ places)
count_rest q places = by (is_slot q) where
  by : (t : Bool) → count_slots places ≤ cond t (suc (count_slots places)) (count_slots places)
  by true = omega arith
  by false = omega arith

-- or from a later one on
slots_from : (from : ℕ) (places : List Place) (n : ℕ) → from + n ≤ length places → ((k : ℕ) → k < n → is_slot (place_of places (from + k)) ≡ true) → n ≤ count_slots places
slots_from zero places n le f =
    first_slots places n (omega (arith, le)) (λ k lt. let same : 0 + k ≡ k = omega arith in subst (λ m. is_slot (place_of places m) ≡ true) same (f k lt))
slots_from (suc from) [] n le f = omega (arith, le)
slots_from (suc from) (q ∷ places) n le f =
    let more = slots_from from places n (omega (arith, le)) (λ k lt. let same : suc from + k ≡ suc (from + k) = omega arith in subst (λ m. is_slot (place_of (q ∷ places) m) ≡ true) same (f k lt)) in
    let rest = count_rest q places in
    omega (arith, more, rest)

-- what arrives in a slot lives in one
in_slot_by : (k : ℕ) (q : Place) → stays (arrival (suc (suc (suc (suc (suc (suc k))))))) q ≡ true → is_slot q ≡ true
in_slot_by k (Reg r) h = absurd (cc)
in_slot_by k (Slot j) h = refl

-- ## Bodies

the_place : (places : List Place) (x : ℕ) (p : Place) → slice_get places x ≡ Some p → place_of places x ≡ p
the_place [] x p h = absurd (cc)
the_place (q ∷ places) zero p h = cc
the_place (q ∷ places) (suc x) p h = the_place places x p h

module _ (c : control.Code) (e : Expression) (places : List Place) (p : IsPlaced c e places) where
  -- no call has more operands than it may have
  pub calls_few : EachCall (λ tail a. length a.operands ≤ max_operands) e
  calls_few =
      let shape = (and_parts (entry_shaped c.entry) _ p.shaped).1 in
      call_erased (λ tail a. length a.operands ≤ max_operands) e (subst (EachCall (λ tail a. length a.operands ≤ max_operands)) (sym p.body) (operands_few c.expression shape))

  pub formals_few : formals_of c.entry ≤ max_operands
  formals_few = by c.entry (and_parts (entry_shaped c.entry) _ p.shaped).0 where
    by : (o : Option Entry) → entry_shaped o ≡ true → formals_of o ≤ max_operands
    by None h = omega arith
    by (Some i) h = leb-true _ _ (and_parts _ _ h).0

  pub first_there : 2 + formals_of c.entry ≤ length places
  first_there = by c.entry (numbered_is c p.numbers).first where
    by : (o : Option Entry) → first_bound o ≤ c.variables → 2 + formals_of o ≤ length places
    by None h = let w = p.whole in omega (arith, h, w)
    by (Some i) h = let w = p.whole in omega (arith, h, w)

  slot_few : (x j : ℕ) → slice_get places x ≡ Some (Slot j) → j < max_operands + count_slots places
  slot_few zero j h = absurd (let i = sym p.link ∙ the_place places 0 (Slot j) h in cc)
  slot_few (suc zero) j h = absurd (let i = sym p.closure ∙ the_place places 1 (Slot j) h in cc)
  slot_few (suc (suc x)) j h =
      let w = p.whole in
      let lt = slice_get_within places (suc (suc x)) (Slot j) h in
      ltb-true j _ (ap (is_usual (count_slots places)) (sym (the_place places (suc (suc x)) (Slot j) h)) ∙ p.usual (suc (suc x)) (omega arith) (omega (arith, w, lt)))

  -- the formals that arrive in slots live there
  late_few : late_slots c.entry ≤ count_slots places
  late_few = by (nat_lt (length argument_registers) (formals_of c.entry)) refl where
    late : (k : ℕ) → k < late_slots c.entry → is_slot (place_of places (2 + length argument_registers + k)) ≡ true
    late k lt =
        let behind : 2 + (length argument_registers + k) ≡ 2 + length argument_registers + k = omega arith in
        let past : suc (suc (suc (suc (suc (suc k))))) ≡ length argument_registers + k = omega arith in
        subst (λ n. is_slot (place_of places n) ≡ true) behind
        (in_slot_by k (place_of places (2 + (length argument_registers + k)))
        (subst (λ n. stays (arrival n) (place_of places (2 + (length argument_registers + k))) ≡ true) (sym past)
        (p.formals (length argument_registers + k) (omega (arith, lt)))))

    by : (t : Bool) → nat_lt (length argument_registers) (formals_of c.entry) ≡ t → late_slots c.entry ≤ count_slots places
    by true h =
        let first = first_there in
        let more : length argument_registers < formals_of c.entry = ltb-true (length argument_registers) (formals_of c.entry) h in
        slots_from (2 + length argument_registers) places (late_slots c.entry) (omega (arith, first, more)) late
    by false h = let few : formals_of c.entry ≤ length argument_registers = ltb-false (length argument_registers) (formals_of c.entry) h in omega (arith, few)

  -- the return address lives in a register
  one_more : suc (count_slots places) ≤ length places
  one_more = by places p.link first_there where
    by : (ps : List Place) → place_of ps 0 ≡ link_place → 2 + formals_of c.entry ≤ length ps → suc (count_slots ps) ≤ length ps
    by [] h le = absurd (omega (arith, le))
    by (Reg r ∷ ps) h le = let all = slots_within ps in omega (arith, all)
    by (Slot j ∷ ps) h le = absurd (cc)

  slots_few : first_home c.entry e places ≤ max_operands + count_slots places
  slots_few = let formals = formals_few in slots_end_below (late_slots c.entry) (max_operands + count_slots places) (omega (arith, formals)) places slot_few

  variables_few : length places ≤ 1002
  variables_few = let most = (numbered_is c p.numbers).most in let w = p.whole in omega (arith, most, w)

  pub has_room : HasRoom c.entry e places
  has_room =
      let homes = homes_few c.entry e places in
      let slots = slots_few in
      let v = variables_few in
      record { ends_low = omega (arith, homes, slots, v); many = omega (arith, v) }

  pub uses_low : Uses (λ x. x < length places) e
  uses_low =
      let w = p.whole in
      uses_erased (λ x. x < length places) e (subst (Uses (λ x. x < length places)) (sym p.body)
      (code_uses (λ x. x < length places) c (λ x h. let lt = h.1 in omega (arith, w, lt)) p.scoped (numbered_is c p.numbers)))

  -- each call needs no more slots than this
  ends_within : (bound : ℕ) → homes_end c.entry e places + max_operands ≤ bound → suc (max_operands + first_home c.entry e places) ≤ bound → homes_words c.entry e places ≤ bound
  ends_within bound homes slots =
      calls_within (homes_end c.entry e places) (place c.entry e places) bound (omega (arith, homes)) e
      (each_call (λ x. x < length places) (λ tail a. length a.operands ≤ max_operands) (λ tail a. call_end (homes_end c.entry e places) (place c.entry e places) tail a ≤ bound)
      (λ tail a reads few. call_within c.entry e places has_room tail a few reads bound homes slots) e uses_low calls_few)

  -- beside the operands of a call and as many slots, a frame has at most a word for each variable
  pub words_few : homes_words c.entry e places ≤ 2 * max_operands + length places
  words_few =
      let homes = homes_few c.entry e places in
      let slots = slots_few in
      let one = one_more in
      ends_within (2 * max_operands + length places) (omega (arith, homes, slots)) (omega (arith, slots, one))

  -- where each slot is below the number of variables that have one, it has at most a word for each variable and each operand of a call
  pub dense_few : AreDense places → homes_words c.entry e places ≤ max_operands + length places
  dense_few dense =
      let homes = homes_few c.entry e places in
      let one = one_more in
      let slots : first_home c.entry e places ≤ count_slots places = slots_end_below (late_slots c.entry) (count_slots places) late_few places dense in
      ends_within (max_operands + length places) (omega (arith, homes, slots)) (omega (arith, slots, one))

  pub words_fit : homes_words c.entry e places ≤ max_words
  words_fit = let few = words_few in let v = variables_few in omega (arith, few, v)

  pub homes_before : homes_end c.entry e places ≤ homes_words c.entry e places
  homes_before = used_before (homes_end c.entry e places) (place c.entry e places) e
