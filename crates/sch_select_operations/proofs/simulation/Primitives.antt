-- The machine does what a primitive does, whose operands are in RAX and RCX.
use Rattle.std.proofs.Common.{◌≡◌, ℕ, zero, suc, ◌+◌, ◌*◌, ◌^◌, ◌<◌, ◌≤◌, ◌%◌, ◌/◌, List, [], ◌∷◌, Bool, true, false}
use Rattle.std.proofs.Common.{cond, Some, refl, sym, ap, ◌∙◌, subst, arith, ◌==◌, ◌||◌, eq-eqb}
use Rattle.std.specs.Prelude.{ℤ, pos, negsuc, nat_abs, ◌+ℤ◌, ◌-ℤ◌, ◌*ℤ◌, ◌≤ℤ◌, not, bit_and, nat_le, nat_lt, int_lt}
use Rattle.std.specs.Prelude.{int_le, int_div, int_rem, ◌&&◌, Ok}
use Rattle.std.proofs.lemmas.Bool.{ne_eqb, and_parts, ltb-true, eqb-false}
use Rattle.std.proofs.lemmas.Bool.Decides.{nat_tests}
use Rattle.std.proofs.lemmas.Int.{ints}
use Rattle.sch_word.specs.values.Options.{when_ok}
use Rattle.sch_word.specs.declared.primitive.Primitive.{Primitive}
use Rattle.sch_word.specs.declared.primitive.Primitive.TheVariants.{Eq, Eqv, IsBoolean, IsPair, IsNull, IsSymbol}
use Rattle.sch_word.specs.declared.primitive.Primitive.TheVariants.{IsInteger, IsChar, IsString, IsVector}
use Rattle.sch_word.specs.declared.primitive.Primitive.TheVariants.{IsProcedure, Add, Subtract, Multiply, Quotient}
use Rattle.sch_word.specs.declared.primitive.Primitive.TheVariants.{Remainder, Modulo, Equal, Less, Greater}
use Rattle.sch_word.specs.declared.primitive.Primitive.TheVariants.{LessEqual, GreaterEqual, CharToInteger}
use Rattle.sch_word.specs.declared.primitive.Primitive.TheVariants.{IntegerToChar}
use Rattle.sch_word.specs.declared.stop.Stop.TheVariants.{OutOfRange, DivideByZero, Overflow}
use Rattle.sch_word.specs.values.Fixnum.{IsFixnum}
use Rattle.sch_word.specs.values.Values.{Value, Object, fixnum, character, boolean, same_value}
use Rattle.sch_word.specs.runs.Store.{Store}
use Rattle.sch_word.specs.runs.Computation.{Outcome, gives, stops, spent, Action, require}
use Rattle.sch_word.specs.values.PrimitiveRows.{primitive, as_fixnum, fixnum_or_stop, is_zero, is_index, in_range}
use Rattle.sch_word.specs.values.PrimitiveRows.{signs_differ, int_modulo}
use Rattle.sch_word.proofs.values.Fixnums.{is_fixnum_holds}
use Rattle.sch_insn.specs.declared.condition.TheConstants.{A, E, L, GE, G, LE}
use Rattle.sch_insn.specs.declared.insn.Arg.TheVariants.{Reg}
use Rattle.sch_insn.specs.declared.insn.Insn.{Insn}
use Rattle.sch_insn.specs.declared.insn.Insn.TheVariants.{MovTo, MovNumber, AddTo, SubTo, CmpTo, AddNumber}
use Rattle.sch_insn.specs.declared.insn.Insn.TheVariants.{CmpNumber, Imul, Idiv, Cqo, Shl, Shr, Sar}
use Rattle.sch_insn.specs.declared.state.Flags.{Flags}
use Rattle.sch_insn.specs.Machine.{Computed, add64, set_register, difference_of, sum_of, product_of}
use Rattle.sch_insn.specs.Machine.{shift_right_signed, condition, unknown_flags, with_flags, with_register}
use Rattle.sch_insn.specs.Machine.{with_place}
use Rattle.sch_insn.specs.Step.{Runs, perform, moved, sign_word}
use Rattle.sch_insn.proofs.Conditions.{compared_e, compared_a}
use Rattle.sch_insn.proofs.Paths.{leads_on, leads_here}
use Rattle.sch_asm.specs.declared.item.Item.{Item}
use Rattle.sch_asm.specs.declared.item.Item.TheVariants.{Label, Plain, Jump, JumpIf}
use Rattle.sch_word.specs.declared.mark.MarkKind.{MarkKind}
use Rattle.sch_asm.specs.Stands.{Stands}
use Rattle.sch_asm.specs.Data.{FixnumWord}
use Rattle.sch_asm.specs.Views.{View, Leads, full}
use Rattle.sch_asm.proofs.EachItem.{goes, branches, jumps}
use Rattle.sch_select_memory.specs.Encoded.{IsWord}
use Rattle.sch_select_memory.specs.Addresses.{stop_label}
use Rattle.sch_select_memory.specs.Checks.{check_fixnum, test_code, overflow_code}
use Rattle.sch_select_operations.specs.ArithmeticCode.{compare_code, comparison_code, division_code, modulo_code}
use Rattle.sch_select_operations.specs.OperandCode.{unary_code, binary_code}
use Rattle.sch_select_memory.proofs.heap.Signs.{low_word, high_word}
use Rattle.sch_select_memory.proofs.heap.Sums.{Computes, sum_computes, difference_computes}
use Rattle.sch_select_memory.proofs.heap.Products.{IsNear, untagged, product_computes}
use Rattle.sch_select_memory.proofs.heap.Quotients.{Divides, divides, quotient_computes, positive_word}
use Rattle.sch_select_memory.proofs.heap.Comparisons.{is_less, is_not_less, at_most_is, tests_equal, tests_less, tests_greater}
use Rattle.sch_select_memory.proofs.heap.Comparisons.{tests_less_equal, tests_greater_equal}
use Rattle.sch_select_memory.specs.Parts.{Parts}
use Rattle.sch_select_memory.proofs.heap.Encodings.{fits, integer_tested, character_tested, boolean_tested, null_tested}
use Rattle.sch_select_memory.proofs.heap.Encodings.{symbol_tested, procedure_tested, same_tested}
use Rattle.sch_select_memory.proofs.heap.Objects.{pair_tested, vector_tested, string_tested}
use Rattle.sch_select_memory.specs.Heap.{AreKinds}
use Rattle.sch_word.specs.runs.Computation.{State}
use Rattle.sch_word.specs.runs.Procedures.{Procedure}
use Rattle.sch_select_memory.proofs.Places.{Plan, StoreAt}
use Rattle.sch_select_memory.proofs.Straight.{is_free, kept_set, kept_then, moved_to, tagged, Comes}
use Rattle.sch_select_memory.proofs.Straight.{comes_after, yields_after, fixnum_checked, character_checked}
use Rattle.sch_select_memory.proofs.Straight.{booleans, tests, ends_fixnum, by_7, by_127, by_255}
use Rattle.sch_select_operations.proofs.simulation.SelectedPrograms.{takes, is_computed, not_both}

-- ---- fixnums' words

word_zero : (n : ℤ) (x : ℕ) → FixnumWord n x → (x == 0) ≡ is_zero n
word_zero (pos zero) x h = eq-eqb x 0 (low_word 0 x h)
word_zero (pos (suc m)) x h = let e = low_word (suc m) x h in ne_eqb x 0 (λ z. omega (arith, e, z))
    ∙ sym (ne_eqb (suc m) 0 (λ z. omega (arith, z)))
word_zero (negsuc m) x h = let e = high_word m x h in let l : negsuc 1152921504606846975 ≤ℤ negsuc m = h.range.low in
    ne_eqb x 0 (λ z. omega (arith, ints, e, z, l))

not_zero : (n : ℤ) (x : ℕ) → FixnumWord n x → is_zero n ≡ false → 0 < x
not_zero n x h e = let f = word_zero n x h ∙ e in let g : x ≡ 0 → ⊥ = eqb-false x 0 f in by x g
  where
    by : (x : ℕ) → (x ≡ 0 → ⊥) → 0 < x
    by zero g = absurd (g refl)
    by (suc x) g = omega arith

-- a byte's word is at most 2040, without a sign
byte_tested : (n : ℤ) (x : ℕ) → FixnumWord n x → nat_le x 2040 ≡ is_index n 256
byte_tested (pos m) x h = let e = low_word m x h in go e
  where
    go : x ≡ 8 * m → nat_le x 2040 ≡ (nat_le 0 m && nat_lt m 256)
    go e = grind (arith, nat_tests)
byte_tested (negsuc m) x h = let e = high_word m x h in let l : negsuc 1152921504606846975 ≤ℤ negsuc m =
    h.range.low in go (omega (arith, ints, e, l))
  where
    go : 2040 < x → nat_le x 2040 ≡ false
    go lt = grind (arith, nat_tests)

zero_word : FixnumWord (pos 0) 0
zero_word = positive_word 0 (omega arith)

byte_word : (parts : Parts) (k : ℤ) (x : ℕ) → FixnumWord k x → is_index k 256 ≡ true
    → IsWord parts (character (nat_abs k)) (add64 (x * 2 ^ 5 % 2 ^ 64) 46)
byte_word parts (pos m) x h e = let w = low_word m x h in let lt : m < 256 = ltb-true m 256
    (and_parts (nat_le 0 m) (nat_lt m 256) e).1 in (omega (arith, w, lt), lt)
byte_word parts (negsuc m) x h e = absurd (let bad : false ≡ true = e in cc)

-- a number that is neither zero nor negative
other_sign : (l : ℤ) → is_zero l ≡ false → int_lt l (pos 0) ≡ false → int_lt (pos 0) l ≡ true
other_sign (pos zero) e f = absurd cc
other_sign (pos (suc m)) e f = is_less (pos 0) (pos (suc m)) (omega (arith, ints))
other_sign (negsuc m) e f = absurd (omega (arith, ints, f))

module _ (plan : Plan) (parts : Parts) where
  open plan use {setting}
  open setting use {place_of}

  abbrev Std : List MarkKind → ℕ → List Item → Type 0
  Std waiting a is = Stands setting waiting a is

  abbrev Owes : View → List MarkKind → ℕ → Store → List Item → Outcome Store Value → Type 0
  Owes x waiting most t rest o = Comes setting parts is_free x waiting most t rest o

  pub comes_within : (free : ℕ → Bool) (x : View) (waiting : List MarkKind) (c most : ℕ) (t : Store)
      (rest : List Item) (o : Outcome Store Value) → c ≤ most → Comes setting parts free x waiting c t rest o
      → Comes setting parts free x waiting most t rest o
  comes_within free x waiting c most t rest (gives v u) le s = let y = s.1 in (
    s.0,
    record {
      registers = y.registers;
      flags = y.flags;
      place = y.place;
      least = y.least;
      steps = y.steps;
      leads = y.leads;
      few = omega (arith, y.few, le);
      kept = y.kept;
      value = y.value;
      ahead = y.ahead;
    },
  )
  comes_within free x waiting c most t rest (stops why u) le s = let y = s.1 in (
    s.0,
    record {
      registers = y.registers;
      flags = y.flags;
      least = y.least;
      steps = y.steps;
      leads = y.leads;
      few = omega (arith, y.few, le);
    },
  )
  comes_within free x waiting c most t rest (spent u) le s = absurd s

  tested : (x : View) (n mask size tag : ℕ) (a b : Bool) (waiting : List MarkKind) (t : Store) (rest : List Item)
      → ((w : ℕ) → bit_and w mask ≡ w % size) → size ≤ 256 → 0 < size → tag < 256 → (x.registers 0 % size == tag) ≡ a
      → b ≡ a → Std waiting x.place (test_code n mask tag rest) → Owes x waiting 20 t rest (gives (boolean b) t)
  tested x n mask size tag a b waiting t rest is small some low e same h =
      comes_within is_free x waiting 6 20 t rest (gives (boolean b) t) (omega arith)
      (refl, tests setting parts x n mask size tag b waiting rest is small some low (e ∙ sym same) h)

  -- ---- a result that has been computed

  result : (n : ℤ) (c : Computed) (i : Insn) (x : View) (waiting : List MarkKind) (t : Store) (rest : List Item)
      → Computes n c → (h : Std waiting x.place (Plain i ∷ overflow_code rest))
      → perform i (x.place + h.0) (full setting x) ≡ Runs
      (full setting (moved_to x (set_register x.registers 0 c.value) c.flags (x.place + h.0)))
      → Owes x waiting 2 t rest (fixnum_or_stop n t)
  result n c i x waiting t rest computes h p =
      let y = moved_to x (set_register x.registers 0 c.value) c.flags (x.place + h.0) in
      comes_after setting parts is_free x y.registers y.flags y.place waiting 1 1 1 2 t rest (fixnum_or_stop n t)
      (goes setting x y i h.0 waiting h.1 p) (kept_set is_free x.registers 0 c.value refl) (omega arith)
      (ends_fixnum setting parts n c y [] t rest computes refl refl h.2)

  -- a fixnum is there already
  there : (n : ℤ) (x : View) (t : Store) (rest : List Item) → FixnumWord n (x.registers 0) → Std [] x.place rest
      → Owes x [] 0 t rest (fixnum_or_stop n t)
  there n x t rest w h =
      subst (λ b. Owes x [] 0 t rest (require b Overflow (gives (fixnum n)) t)) (sym (is_fixnum_holds n w.range)) (
        refl,
        record {
          registers = x.registers;
          flags = x.flags;
          place = x.place;
          least = 0;
          steps = 0;
          leads =
              leads_here setting.marks (full setting x);
          few = omega arith;
          kept = λ r f. refl;
          value = w;
          ahead = h;
        },
      )

  -- ---- two fixnums

  both_checked : (a b : Value) (next : ℤ → ℤ → Action Value) (x : View) (waiting : List MarkKind) (c : ℕ) (t : Store)
      (code rest : List Item) → IsWord parts a (x.registers 0) → IsWord parts b (x.registers 1)
      → Std waiting x.place (check_fixnum 0 (check_fixnum 1 code)) →
      ((m n : ℤ) (registers : ℕ → ℕ) (flags : Flags) (place : ℕ) → FixnumWord m (registers 0)
      → FixnumWord n (registers 1) → Std [] place code → Owes (moved_to x registers flags place) [] c t rest
      (next m n t)) →
      Owes x waiting (c + 6) t rest (as_fixnum a (λ m. as_fixnum b (next m)) t)
  both_checked a b next x waiting c t code rest ha hb h K =
      let sum : c + 3 + 3 ≡ c + 6 = omega arith in
      subst (λ k. Owes x waiting k t rest (as_fixnum a (λ m. as_fixnum b (next m)) t)) sum
      (fixnum_checked setting parts 0 a (λ m. as_fixnum b (next m)) x waiting (c + 3) t (check_fixnum 1 code) rest ha
      h (λ m tag flags place hm st.
      fixnum_checked setting parts 1 b (next m) (tagged setting x 0 tag flags place) [] c t code rest hb st
      (λ n tag' flags' place' hn st'.
      K m n (tagged setting (tagged setting x 0 tag flags place) 1 tag' flags' place').registers flags' place' hm hn
      st')))

  compared : (f : ℤ → ℤ → Bool) (a b : Value) (n c : ℕ) (x : View) (waiting : List MarkKind) (t : Store)
      (rest : List Item) → ((k l : ℤ) (u v : ℕ) → FixnumWord k u → FixnumWord l v
      → condition (difference_of u v).flags c ≡ Some (f k l)) → IsWord parts a (x.registers 0)
      → IsWord parts b (x.registers 1) → Std waiting x.place (comparison_code n c rest)
      → Owes x waiting 30 t rest (as_fixnum a (λ k. as_fixnum b (λ l. gives (boolean (f k l)))) t)
  compared f a b n c x waiting t rest is ha hb h =
      comes_within is_free x waiting 10 30 t rest _ (omega arith)
      (both_checked a b (λ k l. gives (boolean (f k l))) x waiting 4 t (compare_code n c rest) rest ha hb h
      (λ k l registers flags place hk hl st.
      let y = moved_to x registers flags place in
      let z = moved_to x registers (difference_of (registers 0) (registers 1)).flags (place + st.0) in (
        refl,
        yields_after setting parts is_free y z.registers z.flags z.place [] 1 1 3 4 (boolean (f k l)) rest
            (goes setting y z (CmpTo (Reg 0) 1) st.0 [] st.1 refl) (λ r f. refl) (omega arith)
            (booleans setting parts z n c (f k l) [] rest (is k l (registers 0) (registers 1) hk hl) st.2),
      )))

  same : (objects : List Object) → AreKinds parts objects → (a b : Value) (n : ℕ) (x : View) (waiting : List MarkKind) (t : Store) (rest : List Item)
      → IsWord parts a (x.registers 0) → IsWord parts b (x.registers 1) → Std waiting x.place (compare_code n E rest)
      → Owes x waiting 30 t rest (gives (boolean (same_value a b)) t)
  same objects kinds a b n x waiting t rest ha hb h =
      let z = moved_to x x.registers (difference_of (x.registers 0) (x.registers 1)).flags (x.place + h.0) in (
        refl,
        yields_after setting parts is_free x z.registers z.flags z.place waiting 1 1 3 30 (boolean (same_value a b))
            rest (goes setting x z (CmpTo (Reg 0) 1) h.0 waiting h.1 refl) (λ r f. refl) (omega arith)
            (booleans setting parts z n E (same_value a b) [] rest
            (compared_e (x.registers 0) (x.registers 1) (fits parts a _ ha) (fits parts b _ hb)
            ∙ ap Some (same_tested parts objects kinds a b _ _ ha hb)) h.2),
      )

  -- ---- division

  divided : (f : ℤ → ℤ → ℤ) (a b : Value) (x : View) (waiting : List MarkKind) (c : ℕ) (t : Store)
      (code rest : List Item) → IsWord parts a (x.registers 0) → IsWord parts b (x.registers 1)
      → Std waiting x.place (division_code code) →
      ((m n : ℤ) (u v : ℕ) (d : Divides m n u v) (registers : ℕ → ℕ) (place : ℕ) → registers 0 ≡ d.quotient
      → registers 2 ≡ d.remainder → registers 1 ≡ v → FixnumWord n v → is_zero n ≡ false → Std [] place code
      → Owes (moved_to x registers unknown_flags place) [] c t rest (fixnum_or_stop (f m n) t)) →
      Owes x waiting (c + 10) t rest
      (as_fixnum a (λ m. as_fixnum b (λ n. require (not (is_zero n)) DivideByZero (fixnum_or_stop (f m n)))) t)
  divided f a b x waiting c t code rest ha hb h K =
      let sum : c + 4 + 6 ≡ c + 10 = omega arith in
      subst (λ k. Owes x waiting k t rest
      (as_fixnum a (λ m. as_fixnum b (λ n. require (not (is_zero n)) DivideByZero (fixnum_or_stop (f m n)))) t)) sum
      (both_checked a b (λ m n. require (not (is_zero n)) DivideByZero (fixnum_or_stop (f m n))) x waiting (c + 4) t
      (Plain (CmpNumber (Reg 1) (pos 0)) ∷ (JumpIf E (stop_label DivideByZero) ∷
      (Plain Cqo ∷ (Plain (Idiv (Reg 1)) ∷ code)))) rest ha hb h at)
    where
      at : (m n : ℤ) (registers : ℕ → ℕ) (flags : Flags) (place : ℕ) → FixnumWord m (registers 0)
          → FixnumWord n (registers 1) → Std [] place (Plain (CmpNumber (Reg 1) (pos 0)) ∷
          (JumpIf E (stop_label DivideByZero) ∷ (Plain Cqo ∷ (Plain (Idiv (Reg 1)) ∷ code))))
          → Owes (moved_to x registers flags place) [] (c + 4) t rest
          (require (not (is_zero n)) DivideByZero (fixnum_or_stop (f m n)) t)
      at m n registers flags place hm hn st = by (is_zero n) refl
        where
          y : View
          y = moved_to x registers flags place

          z : View
          z = moved_to x registers (difference_of (registers 1) 0).flags (place + st.0)

          first : Leads setting 1 1 [] y z
          first = goes setting y z (CmpNumber (Reg 1) (pos 0)) st.0 [] st.1 refl

          zero_is : (b : Bool) → is_zero n ≡ b → condition z.flags E ≡ Some b
          zero_is b e = compared_e (registers 1) 0 hn.fits (omega arith) ∙ ap Some (word_zero n (registers 1) hn ∙ e)

          by : (b : Bool) → is_zero n ≡ b → Owes y [] (c + 4) t rest
              (require (not b) DivideByZero (fixnum_or_stop (f m n)) t)
          by true e = (
            refl,
            record {
              registers = registers;
              flags = z.flags;
              least = 2;
              steps = 2;
              leads = leads_on setting.marks first (branches setting z E (stop_label DivideByZero)
                  (Plain Cqo ∷ (Plain (Idiv (Reg 1)) ∷ code)) [] true st.2 (zero_is true e));
              few = omega arith;
            },
          )
          by false e =
              let u = moved_to x registers z.flags (z.place + st.2.0) in
              let s = st.2.4 in
              let v = moved_to x (set_register registers 2 (sign_word (registers 0))) z.flags (u.place + s.0) in
              let d = divides m n (registers 0) (registers 1) hm hn (not_zero n (registers 1) hn e) in
              let w = moved_to x (set_register (set_register v.registers 0 d.quotient) 2 d.remainder) unknown_flags
              (v.place + s.2.0) in
              comes_after setting parts is_free y w.registers unknown_flags w.place [] 4 4 c (c + 4) t rest
              (fixnum_or_stop (f m n) t)
              (leads_on setting.marks (leads_on setting.marks (leads_on setting.marks first
              (branches setting z E (stop_label DivideByZero) (Plain Cqo ∷ (Plain (Idiv (Reg 1)) ∷ code)) [] false
              st.2 (zero_is false e)))
              (goes setting u v Cqo s.0 [] s.1 refl))
              (goes setting v w (Idiv (Reg 1)) s.2.0 [] s.2.1 (ap
              (λ o. moved (full setting v)
              (when_ok o (λ p. Ok (with_flags unknown_flags (with_register 2 p.1
              (with_register 0 p.0 (with_place w.place (full setting v).core))))))) d.is)))
              (kept_then is_free registers v.registers w.registers
              (kept_set is_free registers 2 (sign_word (registers 0)) refl)
              (kept_then is_free v.registers (set_register v.registers 0 d.quotient) w.registers
              (kept_set is_free v.registers 0 d.quotient refl) (kept_set is_free
              (set_register v.registers 0 d.quotient) 2 d.remainder refl)))
              (omega arith)
              (K m n (registers 0) (registers 1) d w.registers w.place refl refl refl hn e s.2.2)

  -- ---- a byte

  -- RAX has a fixnum, and becomes the character of that number
  ranged : (k : ℤ) (x : View) (t : Store) (rest : List Item) → FixnumWord k (x.registers 0)
      → Std [] x.place (Plain (CmpNumber (Reg 0) (pos 2040)) ∷
      (JumpIf A (stop_label OutOfRange) ∷ (Plain (Shl (Reg 0) 5) ∷ (Plain (AddNumber (Reg 0) (pos 46)) ∷ rest))))
      → Owes x [] 4 t rest (in_range k 256 (λ byte. gives (character byte)) t)
  ranged k x t rest hk st = by (is_index k 256) refl
    where
      z : View
      z = moved_to x x.registers (difference_of (x.registers 0) 2040).flags (x.place + st.0)

      first : Leads setting 1 1 [] x z
      first = goes setting x z (CmpNumber (Reg 0) (pos 2040)) st.0 [] st.1 refl

      above : (b : Bool) → is_index k 256 ≡ b → condition z.flags A ≡ Some (not b)
      above b e = compared_a (x.registers 0) 2040 hk.fits (omega arith)
          ∙ ap (λ b. Some (not b)) (byte_tested k (x.registers 0) hk ∙ e)

      by : (b : Bool) → is_index k 256 ≡ b → Owes x [] 4 t rest (require b OutOfRange (gives (character (nat_abs k))) t)
      by false e = (
        refl,
        record {
          registers = x.registers;
          flags = z.flags;
          least = 2;
          steps = 2;
          leads = leads_on setting.marks first (branches setting z A (stop_label OutOfRange)
              (Plain (Shl (Reg 0) 5) ∷ (Plain (AddNumber (Reg 0) (pos 46)) ∷ rest)) [] true st.2 (above false e));
          few = omega arith;
        },
      )
      by true e =
          let u = moved_to x x.registers z.flags (z.place + st.2.0) in
          let s = st.2.4 in
          let w = x.registers 0 * 2 ^ 5 % 2 ^ 64 in
          let v = moved_to x (set_register x.registers 0 w) unknown_flags (u.place + s.0) in
          let c = sum_of w 46 in
          let o = moved_to x (set_register v.registers 0 c.value) c.flags (v.place + s.2.0) in (
            refl,
            record {
              registers = o.registers;
              flags = o.flags;
              place = o.place;
              least = 4;
              steps = 4;
              leads = leads_on setting.marks (leads_on setting.marks
                  (leads_on setting.marks first (branches setting z A (stop_label OutOfRange)
                  (Plain (Shl (Reg 0) 5) ∷ (Plain (AddNumber (Reg 0) (pos 46)) ∷ rest)) [] false st.2 (above true e)))
                  (goes setting u v (Shl (Reg 0) 5) s.0 [] s.1 refl))
                  (goes setting v o (AddNumber (Reg 0) (pos 46)) s.2.0 [] s.2.1 refl);
              few = omega arith;
              kept = kept_then is_free x.registers v.registers o.registers (kept_set is_free x.registers 0 w refl)
                  (kept_set is_free v.registers 0 c.value refl);
              value = byte_word parts k (x.registers 0) hk e;
              ahead = s.2.2;
            },
          )

  -- ---- `modulo`

  -- RAX has the word of r and RCX that of the divisor
  module _ (r l : ℤ) (n : ℕ) (x : View) (t : Store) (rest : List Item) (hr : FixnumWord r (x.registers 0))
      (hl : FixnumWord l (x.registers 1)) where
    abbrev Adjusted : Flags → ℕ → ℕ → Type 0
    Adjusted flags a c = Owes (moved_to x x.registers flags a) [] c t rest
        (fixnum_or_stop (cond (signs_differ r l) (r +ℤ l) r) t)

    -- where the signs do not differ
    stays : (flags : Flags) (a : ℕ) → signs_differ r l ≡ false → Std [] a rest → Adjusted flags a 0
    stays flags a e h = subst (λ b. Owes (moved_to x x.registers flags a) [] 0 t rest
        (fixnum_or_stop (cond b (r +ℤ l) r) t)) (sym e) (there r (moved_to x x.registers flags a) t rest hr h)

    -- where they differ
    adds : (flags : Flags) (a : ℕ) → signs_differ r l ≡ true → IsFixnum (r +ℤ l)
        → Std [] a (Plain (AddTo (Reg 0) 1) ∷ (Label n ∷ rest)) → Adjusted flags a 1
    adds flags a e range h =
        let y = moved_to x x.registers flags a in
        let c = sum_of (x.registers 0) (x.registers 1) in
        let z = moved_to x (set_register x.registers 0 c.value) c.flags (a + h.0) in
        let w = (sum_computes r l (x.registers 0) (x.registers 1) hr hl).value (is_fixnum_holds (r +ℤ l) range) in
        subst (λ b. Owes y [] 1 t rest (fixnum_or_stop (cond b (r +ℤ l) r) t)) (sym e)
        (comes_after setting parts is_free y z.registers z.flags z.place [] 1 1 0 1 t rest _
        (goes setting y z (AddTo (Reg 0) 1) h.0 [] h.1 refl) (kept_set is_free x.registers 0 c.value refl)
        (omega arith)
        (there (r +ℤ l) z t rest w h.2.2))

    below : int_lt r (pos 0) ≡ true → int_lt (pos 0) l ≡ true → IsFixnum (r +ℤ l)
    below e f =
        let a : negsuc 1152921504606846975 ≤ℤ r = hr.range.low in
        let b : l ≤ℤ pos 1152921504606846975 = hl.range.high in
        record { low = omega (arith, ints, a, e, f); high = omega (arith, ints, b, e, f) }

    above : int_lt (pos 0) r ≡ true → int_lt l (pos 0) ≡ true → IsFixnum (r +ℤ l)
    above e f =
        let a : r ≤ℤ pos 1152921504606846975 = hr.range.high in
        let b : negsuc 1152921504606846975 ≤ℤ l = hl.range.low in
        record { low = omega (arith, ints, b, e, f); high = omega (arith, ints, a, e, f) }

    signs : (p q u v : Bool) → int_lt r (pos 0) ≡ p → int_lt (pos 0) r ≡ q → int_lt (pos 0) l ≡ u
        → int_lt l (pos 0) ≡ v → signs_differ r l ≡ ((p && u) || (q && v))
    signs p q u v e f g h = rw (e, f, g, h) refl

    -- from the comparison of the divisor with zero on, the remainder being negative
    negative_rest : (flags : Flags) (a : ℕ) → is_zero l ≡ false → int_lt r (pos 0) ≡ true → int_lt (pos 0) r ≡ false
        → Std [] a (Plain (CmpNumber (Reg 1) (pos 0)) ∷ (JumpIf L n ∷
        (Label (n + 2) ∷ (Plain (AddTo (Reg 0) 1) ∷ (Label n ∷ rest))))) → Adjusted flags a 3
    negative_rest flags a nz e f h = by (int_lt l (pos 0)) refl
      where
        y : View
        y = moved_to x x.registers flags a

        z : View
        z = moved_to x x.registers (difference_of (x.registers 1) 0).flags (a + h.0)

        first : Leads setting 1 1 [] y z
        first = goes setting y z (CmpNumber (Reg 1) (pos 0)) h.0 [] h.1 refl

        is : (b : Bool) → int_lt l (pos 0) ≡ b → condition z.flags L ≡ Some b
        is b g = tests_less l (pos 0) (x.registers 1) 0 hl zero_word ∙ ap Some g

        more : List Item
        more = Label (n + 2) ∷ (Plain (AddTo (Reg 0) 1) ∷ (Label n ∷ rest))

        by : (b : Bool) → int_lt l (pos 0) ≡ b → Adjusted flags a 3
        by true g =
            comes_after setting parts is_free y x.registers z.flags (place_of n) [] 2 2 0 3 t rest _
            (leads_on setting.marks first (branches setting z L n more [] true h.2 (is true g))) (λ k i. refl)
            (omega arith)
            (stays z.flags (place_of n) (signs true false false true e f
            (is_not_less (pos 0) l (omega (arith, ints, g))) g)
            (subst (λ a. Std [] a rest) (sym h.2.4.2.2.1) h.2.4.2.2.2))
        by false g =
            let up = other_sign l nz g in
            comes_after setting parts is_free y x.registers z.flags (z.place + h.2.0) [] 2 2 1 3 t rest _
            (leads_on setting.marks first (branches setting z L n more [] false h.2 (is false g))) (λ k i. refl)
            (omega arith)
            (adds z.flags (z.place + h.2.0) (signs true false true false e f up g) (below e up) h.2.4.2)

    -- the remainder being positive
    positive_rest : (flags : Flags) (a : ℕ) (more : List Item) → is_zero l ≡ false → int_lt r (pos 0) ≡ false
        → int_lt (pos 0) r ≡ true → Std [] a (Plain (CmpNumber (Reg 1) (pos 0)) ∷
        (JumpIf GE n ∷ (Jump (n + 2) ∷ more))) → Std [] (place_of n) rest
        → Std [] (place_of (n + 2)) (Plain (AddTo (Reg 0) 1) ∷ (Label n ∷ rest)) → Adjusted flags a 4
    positive_rest flags a more nz e f h end addition = by (int_lt l (pos 0)) refl
      where
        y : View
        y = moved_to x x.registers flags a

        z : View
        z = moved_to x x.registers (difference_of (x.registers 1) 0).flags (a + h.0)

        first : Leads setting 1 1 [] y z
        first = goes setting y z (CmpNumber (Reg 1) (pos 0)) h.0 [] h.1 refl

        is : (b : Bool) → int_lt l (pos 0) ≡ b → condition z.flags GE ≡ Some (not b)
        is b g = tests_greater_equal l (pos 0) (x.registers 1) 0 hl zero_word
            ∙ ap Some (at_most_is l (pos 0) ∙ ap not g)

        by : (b : Bool) → int_lt l (pos 0) ≡ b → Adjusted flags a 4
        by false g =
            comes_after setting parts is_free y x.registers z.flags (place_of n) [] 2 2 0 4 t rest _
            (leads_on setting.marks first (branches setting z GE n (Jump (n + 2) ∷ more) [] true h.2
            (is false g))) (λ k i. refl) (omega arith)
            (stays z.flags (place_of n) (signs false true true false e f (other_sign l nz g) g) end)
        by true g =
            let u = moved_to x x.registers z.flags (z.place + h.2.0) in
            comes_after setting parts is_free y x.registers z.flags (place_of (n + 2)) [] 3 3 1 4 t rest _
            (leads_on setting.marks (leads_on setting.marks first
            (branches setting z GE n (Jump (n + 2) ∷ more) [] false h.2 (is true g)))
            (jumps setting u (n + 2) more [] h.2.4)) (λ k i. refl) (omega arith)
            (adds z.flags (place_of (n + 2)) (signs false true false true e f
            (is_not_less (pos 0) l (omega (arith, ints, g))) g) (above f g) addition)

    signed_like : is_zero l ≡ false → Std [] x.place (modulo_code n rest)
        → Owes x [] 9 t rest (fixnum_or_stop (cond (signs_differ r l) (r +ℤ l) r) t)
    signed_like nz s0 = by (int_lt r (pos 0)) (int_lt (pos 0) r) refl refl
      where
        y : View
        y = moved_to x x.registers (difference_of (x.registers 0) 0).flags (x.place + s0.0)

        first : Leads setting 1 1 [] x y
        first = goes setting x y (CmpNumber (Reg 0) (pos 0)) s0.0 [] s0.1 refl

        z : View
        z = moved_to x x.registers y.flags (y.place + s0.2.0)

        cases : List Item
        cases = Plain (AddTo (Reg 0) 1) ∷ (Label n ∷ rest)

        negative_case : List Item
        negative_case = Plain (CmpNumber (Reg 1) (pos 0)) ∷ (JumpIf L n ∷ (Label (n + 2) ∷ cases))

        positive_case : List Item
        positive_case = Plain (CmpNumber (Reg 1) (pos 0)) ∷
            (JumpIf GE n ∷ (Jump (n + 2) ∷ (Label (n + 1) ∷ negative_case)))

        zero_is : (p q : Bool) → int_lt r (pos 0) ≡ p → int_lt (pos 0) r ≡ q
            → condition y.flags E ≡ Some (not q && not p)
        zero_is p q e f = tests_equal r (pos 0) (x.registers 0) 0 hr zero_word
            ∙ rw (at_most_is (pos 0) r, at_most_is r (pos 0), e, f) refl

        less_is : (p : Bool) → int_lt r (pos 0) ≡ p → condition y.flags L ≡ Some p
        less_is p e = tests_less r (pos 0) (x.registers 0) 0 hr zero_word ∙ ap Some e

        end : Std [] (place_of n) rest
        end = subst (λ a. Std [] a rest) (sym s0.2.4.4.2.4.4.2.2.4.2.2.1) s0.2.4.4.2.4.4.2.2.4.2.2.2

        by : (p q : Bool) → int_lt r (pos 0) ≡ p → int_lt (pos 0) r ≡ q
            → Owes x [] 9 t rest (fixnum_or_stop (cond (signs_differ r l) (r +ℤ l) r) t)
        by true true e f = absurd (omega (arith, ints, e, f))
        by false false e f =
            comes_after setting parts is_free x x.registers y.flags (place_of n) [] 2 2 0 9 t rest _
            (leads_on setting.marks first (branches setting y E n (JumpIf L (n + 1) ∷ positive_case) [] true s0.2
            (zero_is false false e f))) (λ k i. refl) (omega arith)
            (stays y.flags (place_of n) (signs false false (int_lt (pos 0) l) (int_lt l (pos 0)) e f refl refl) end)
        by true false e f =
            comes_after setting parts is_free x x.registers y.flags (place_of (n + 1)) [] 3 3 3 9 t rest _
            (leads_on setting.marks (leads_on setting.marks first
            (branches setting y E n (JumpIf L (n + 1) ∷ positive_case) [] false s0.2 (zero_is true false e f)))
            (branches setting z L (n + 1) positive_case [] true s0.2.4 (less_is true e))) (λ k i. refl)
            (omega arith)
            (negative_rest y.flags (place_of (n + 1)) nz e f (subst (λ a. Std [] a negative_case)
            (sym s0.2.4.4.2.4.4.1) s0.2.4.4.2.4.4.2))
        by false true e f =
            comes_after setting parts is_free x x.registers y.flags (z.place + s0.2.4.0) [] 3 3 4 9 t rest _
            (leads_on setting.marks (leads_on setting.marks first
            (branches setting y E n (JumpIf L (n + 1) ∷ positive_case) [] false s0.2 (zero_is false true e f)))
            (branches setting z L (n + 1) positive_case [] false s0.2.4 (less_is false e))) (λ k i. refl)
            (omega arith)
            (positive_rest y.flags (z.place + s0.2.4.0) (Label (n + 1) ∷ negative_case) nz e f s0.2.4.4 end
            (subst (λ a. Std [] a cases) (sym s0.2.4.4.2.4.4.2.2.4.1) s0.2.4.4.2.4.4.2.2.4.2))

  -- ---- one operand

  pub unary_here : (n : ℕ) (which : Primitive) (a : Value) (x : View) (waiting : List MarkKind) (s : State Procedure)
      (rest : List Item) → takes 1 which ≡ true → is_computed which ≡ true → StoreAt plan parts s x.bytes x.output x.answers
      → IsWord parts a (x.registers 0) → Std waiting x.place (unary_code n which rest)
      → Owes x waiting 20 s.store rest (primitive which (a ∷ []) s.store)
  unary_here n IsBoolean a x waiting s rest p plain g ha h = tested x n 127 128 6 _ _ waiting s.store rest by_127
      (omega arith) (omega arith) (omega arith) (boolean_tested parts a _ ha) refl h
  unary_here n IsPair a x waiting s rest p plain g ha h = tested x n 7 8 1 _ _ waiting s.store rest by_7
      (omega arith) (omega arith) (omega arith) (pair_tested parts s.store g.contents.kinds a _ ha) refl h
  unary_here n IsNull a x waiting s rest p plain g ha h = tested x n 255 256 22 _ _ waiting s.store rest by_255 (omega arith)
      (omega arith) (omega arith) (null_tested parts a _ ha) refl h
  unary_here n IsSymbol a x waiting s rest p plain g ha h = tested x n 7 8 5 _ _ waiting s.store rest by_7 (omega arith)
      (omega arith) (omega arith) (symbol_tested parts a _ ha) refl h
  unary_here n IsInteger a x waiting s rest p plain g ha h = tested x n 7 8 0 _ _ waiting s.store rest by_7 (omega arith)
      (omega arith) (omega arith) (integer_tested parts a _ ha) refl h
  unary_here n IsChar a x waiting s rest p plain g ha h = tested x n 255 256 46 _ _ waiting s.store rest by_255 (omega arith)
      (omega arith) (omega arith) (character_tested parts a _ ha) refl h
  unary_here n IsString a x waiting s rest p plain g ha h = tested x n 7 8 3 _ _ waiting s.store rest by_7
      (omega arith) (omega arith) (omega arith) (string_tested parts s.store g.contents.kinds a _ ha) refl h
  unary_here n IsVector a x waiting s rest p plain g ha h = tested x n 7 8 2 _ _ waiting s.store rest by_7
      (omega arith) (omega arith) (omega arith) (vector_tested parts s.store g.contents.kinds a _ ha) refl h
  unary_here n IsProcedure a x waiting s rest p plain g ha h = tested x n 7 8 4 _ _ waiting s.store rest by_7 (omega arith)
      (omega arith) (omega arith) (procedure_tested parts a _ ha) refl h
  unary_here n CharToInteger a x waiting s rest p plain g ha h =
      comes_within is_free x waiting 6 20 s.store rest _ (omega arith)
      (character_checked setting parts a (λ byte. gives (fixnum (pos byte))) x waiting 2 s.store
      (Plain (Shr (Reg 0) 8) ∷ (Plain (Shl (Reg 0) 3) ∷ rest)) rest ha h (λ byte tag flags place hb st.
      let y = tagged setting x 0 tag flags place in
      let b = x.registers 0 / 2 ^ 8 in
      let u = moved_to x (set_register y.registers 0 b) unknown_flags (place + st.0) in
      let w = b * 2 ^ 3 % 2 ^ 64 in
      let v = moved_to x (set_register u.registers 0 w) unknown_flags (u.place + st.2.0) in
      let e : w ≡ 8 * byte = omega (arith, hb.0, hb.1) in (
        refl,
        record {
          registers = v.registers;
          flags = unknown_flags;
          place = v.place;
          least = 2;
          steps = 2;
          leads = leads_on setting.marks (goes setting y u (Shr (Reg 0) 8) st.0 [] st.1 refl)
              (goes setting u v (Shl (Reg 0) 3) st.2.0 [] st.2.1 refl);
          few = omega arith;
          kept = kept_then is_free y.registers u.registers v.registers (kept_set is_free y.registers 0 b refl)
              (kept_set is_free u.registers 0 w refl);
          value = subst (FixnumWord (pos byte)) (sym e) (positive_word byte (let l = hb.1 in omega (arith, l)));
          ahead = st.2.2;
        },
      )))
  unary_here n IntegerToChar a x waiting s rest p plain g ha h =
      comes_within is_free x waiting 7 20 s.store rest _ (omega arith)
      (fixnum_checked setting parts 0 a (λ k. in_range k 256 (λ byte. gives (character byte))) x waiting 4 s.store
      (Plain (CmpNumber (Reg 0) (pos 2040)) ∷ (JumpIf A (stop_label OutOfRange) ∷
      (Plain (Shl (Reg 0) 5) ∷ (Plain (AddNumber (Reg 0) (pos 46)) ∷ rest)))) rest ha h
      (λ k tag flags place hk st. ranged k (tagged setting x 0 tag flags place) s.store rest hk st))
  unary_here n which a x waiting s rest p plain g ha h = absurd (not_both (takes 1 which) (is_computed which) refl p plain)

  -- ---- two operands

  pub binary_here : (n : ℕ) (which : Primitive) (a b : Value) (x : View) (waiting : List MarkKind)
      (s : State Procedure) (rest : List Item) → takes 2 which ≡ true → is_computed which ≡ true
      → StoreAt plan parts s x.bytes x.output x.answers → IsWord parts a (x.registers 0) → IsWord parts b (x.registers 1) → Std waiting x.place (binary_code n which rest)
      → Owes x waiting 30 s.store rest (primitive which (a ∷ (b ∷ [])) s.store)
  binary_here n Eq a b x waiting s rest p plain g ha hb h = same s.store.objects g.contents.kinds a b n x waiting s.store rest ha hb h
  binary_here n Eqv a b x waiting s rest p plain g ha hb h = same s.store.objects g.contents.kinds a b n x waiting s.store rest ha hb h
  binary_here n Add a b x waiting s rest p plain g ha hb h =
      comes_within is_free x waiting 8 30 s.store rest _ (omega arith)
      (both_checked a b (λ k l. fixnum_or_stop (k +ℤ l)) x waiting 2 s.store (Plain (AddTo (Reg 0) 1) ∷ overflow_code rest)
      rest ha hb h (λ k l registers flags place hk hl st.
      result (k +ℤ l) (sum_of (registers 0) (registers 1)) (AddTo (Reg 0) 1) (moved_to x registers flags place) [] s.store
      rest (sum_computes k l _ _ hk hl) st refl))
  binary_here n Subtract a b x waiting s rest p plain g ha hb h =
      comes_within is_free x waiting 8 30 s.store rest _ (omega arith)
      (both_checked a b (λ k l. fixnum_or_stop (k -ℤ l)) x waiting 2 s.store (Plain (SubTo (Reg 0) 1) ∷ overflow_code rest)
      rest ha hb h (λ k l registers flags place hk hl st.
      result (k -ℤ l) (difference_of (registers 0) (registers 1)) (SubTo (Reg 0) 1) (moved_to x registers flags place)
      [] s.store rest (difference_computes k l _ _ hk hl) st refl))
  binary_here n Multiply a b x waiting s rest p plain g ha hb h =
      comes_within is_free x waiting 9 30 s.store rest _ (omega arith)
      (both_checked a b (λ k l. fixnum_or_stop (k *ℤ l)) x waiting 3 s.store
      (Plain (Sar (Reg 0) 3) ∷ (Plain (Imul 0 (Reg 1)) ∷ overflow_code rest)) rest ha hb h
      (λ k l registers flags place hk hl st.
      let y = moved_to x registers flags place in
      let w = shift_right_signed (registers 0) 3 in
      let z = moved_to x (set_register registers 0 w) unknown_flags (place + st.0) in
      let near : IsNear k = record {
        low = hk.range.low;
        high =
            (let m : k ≤ℤ pos 1152921504606846975 = hk.range.high in omega (arith, ints, m));
      } in
      comes_after setting parts is_free y z.registers z.flags z.place [] 1 1 2 3 s.store rest _
      (goes setting y z (Sar (Reg 0) 3) st.0 [] st.1 refl) (kept_set is_free registers 0 w refl) (omega arith)
      (result (k *ℤ l) (product_of w (registers 1)) (Imul 0 (Reg 1)) z [] s.store rest
      (product_computes k l w (registers 1) near (untagged k (registers 0) hk) hl) st.2 refl)))
  binary_here n Quotient a b x waiting s rest p plain g ha hb h =
      comes_within is_free x waiting 13 30 s.store rest _ (omega arith)
      (divided int_div a b x waiting 3 s.store (Plain (MovNumber (Reg 1) (pos 8)) ∷
      (Plain (Imul 0 (Reg 1)) ∷ overflow_code rest)) rest ha hb h (λ k l u v d registers place q r w hv nz st.
      let y = moved_to x registers unknown_flags place in
      let z = moved_to x (set_register registers 1 8) unknown_flags (place + st.0) in
      comes_after setting parts is_free y z.registers z.flags z.place [] 1 1 2 3 s.store rest _
      (goes setting y z (MovNumber (Reg 1) (pos 8)) st.0 [] st.1 refl) (kept_set is_free registers 1 8 refl)
      (omega arith)
      (result (int_div k l) (product_of (registers 0) 8) (Imul 0 (Reg 1)) z [] s.store rest
      (subst (λ q. Computes (int_div k l) (product_of q 8)) (sym q) (quotient_computes k l u v d)) st.2 refl)))
  binary_here n Remainder a b x waiting s rest p plain g ha hb h =
      comes_within is_free x waiting 11 30 s.store rest _ (omega arith)
      (divided int_rem a b x waiting 1 s.store (Plain (MovTo (Reg 0) 2) ∷ rest) rest ha hb h
      (λ k l u v d registers place q r w hv nz st.
      let y = moved_to x registers unknown_flags place in
      let z = moved_to x (set_register registers 0 (registers 2)) unknown_flags (place + st.0) in
      comes_after setting parts is_free y z.registers z.flags z.place [] 1 1 0 1 s.store rest _
      (goes setting y z (MovTo (Reg 0) 2) st.0 [] st.1 refl) (kept_set is_free registers 0 (registers 2) refl)
      (omega arith)
      (there (int_rem k l) z s.store rest (subst (FixnumWord (int_rem k l)) (sym r) d.word) st.2)))
  binary_here n Modulo a b x waiting s rest p plain g ha hb h =
      comes_within is_free x waiting 20 30 s.store rest _ (omega arith)
      (divided int_modulo a b x waiting 10 s.store (Plain (MovTo (Reg 0) 2) ∷ modulo_code n rest) rest ha hb h
      (λ k l u v d registers place q r w hv nz st.
      let y = moved_to x registers unknown_flags place in
      let z = moved_to x (set_register registers 0 (registers 2)) unknown_flags (place + st.0) in
      comes_after setting parts is_free y z.registers z.flags z.place [] 1 1 9 10 s.store rest _
      (goes setting y z (MovTo (Reg 0) 2) st.0 [] st.1 refl) (kept_set is_free registers 0 (registers 2) refl)
      (omega arith)
      (signed_like (int_rem k l) l n z s.store rest (subst (FixnumWord (int_rem k l)) (sym r) d.word)
      (subst (FixnumWord l) (sym w) hv) nz st.2)))
  binary_here n Equal a b x waiting s rest p plain g ha hb h = compared (λ k l. int_le k l && int_le l k) a b n E x waiting s.store
      rest tests_equal ha hb h
  binary_here n Less a b x waiting s rest p plain g ha hb h = compared int_lt a b n L x waiting s.store rest tests_less ha hb h
  binary_here n Greater a b x waiting s rest p plain g ha hb h = compared (λ k l. int_lt l k) a b n G x waiting s.store rest
      tests_greater ha hb h
  binary_here n LessEqual a b x waiting s rest p plain g ha hb h = compared int_le a b n LE x waiting s.store rest tests_less_equal
      ha hb h
  binary_here n GreaterEqual a b x waiting s rest p plain g ha hb h = compared (λ k l. int_le l k) a b n GE x waiting s.store rest
      tests_greater_equal ha hb h
  binary_here n which a b x waiting s rest p plain g ha hb h = absurd (not_both (takes 2 which) (is_computed which) refl p plain)
