-- The routine that puts a fixnum: its digits are written into the routines' own words, and then put.
use Rattle.std.proofs.Common.{◌≡◌, ℕ, suc, ◌+◌, ◌-◌, ◌*◌, ◌/◌, ◌^◌, ◌<◌, ◌≤◌, List, [], ◌∷◌, length, drop, Bool, true, false, cond, refl, sym, ap, ◌∙◌, subst, arith, ⊎_elim}
use Rattle.std.specs.Prelude.{pos, negsuc, ℤ, ◌≤ℤ◌}
use Rattle.std.specs.Fmt.{decimal, digits, digits_onto, signed_decimal}
use Rattle.std.proofs.lemmas.Int.{ints}
use Rattle.sch_word.specs.runs.ProgramLayout.{data_address}
use Rattle.sch_insn.specs.declared.insn.Arg.TheVariants.{Reg, Base}
use Rattle.sch_insn.specs.declared.insn.Insn.TheVariants.{MovTo, MovNumber, SubTo, SubNumber8, CmpNumber8, Neg, Sar}
use Rattle.sch_insn.specs.Machine.{set_register, sub64, is_negative, difference_of, unknown_flags, shift_right_signed}
use Rattle.sch_insn.proofs.Paths.{leads_then, leads_on, leads_within}
use Rattle.sch_word.specs.declared.registers.TheConstants.{RAX, RCX, RDX, RSI, RDI, R11}
use Rattle.sch_insn.specs.declared.condition.TheConstants.{GE}
use Rattle.sch_asm.specs.declared.item.Item.TheVariants.{JumpIf, Label, Plain, StoreWord}
use Rattle.sch_asm.specs.Stands.{Setting, Stands}
use Rattle.sch_asm.specs.Data.{FixnumWord, word_in, with_word}
use Rattle.sch_asm.specs.Views.{View, Leads}
use Rattle.sch_asm.specs.Effects.{IsReady, Puts, own_size}
use Rattle.sch_asm.proofs.EachItem.{goes, jumps, branches, stores_data, stores_one_byte}
use Rattle.sch_asm.proofs.Bytes.{with_byte}
use Rattle.sch_runtime.specs.Code.{absolute_code, digit_code, digit_label, digits_end, done_code, done_label, exit_code, failed_label, fixnum_code, fixnum_label, kept_rdi, kept_rsi, loop_code, loop_label, minus_code, positive_code, positive_label, ready_code, ready_label, sign_code, write_code, write_label}
use Rattle.sch_runtime.proofs.ZeroTests.{ge_zero, is_high, is_low}
use Rattle.sch_runtime.proofs.WriteLoop.{is_other, other_of}
use Rattle.sch_runtime.proofs.PutRoutine.{Kept, Saved, kept_bytes, saves, finishes}
use Rattle.sch_runtime.proofs.Digits.{Begun, limit, longer, prints}

-- ---- the number of a fixnum's word

-- what is shifted, and its absolute value
record Shifted (n : ℤ) (v : ℕ) : Type 0 where
  size : ℕ
  negative : Bool
  fits : v < 2 ^ 64
  sign : is_negative v ≡ negative
  small : size < 2 ^ 63
  digits : size < limit 18
  is : cond negative (sub64 0 v) v ≡ size
  decimal_is : signed_decimal n ≡ cond negative (45 ∷ decimal size) (decimal size)

shifted_number : (n : ℤ) (x : ℕ) → FixnumWord n x → Shifted n (shift_right_signed x 3)
shifted_number (pos m) x h =
    let high : pos m ≤ℤ pos 1152921504606846975 = h.range.high in
    let fits = h.fits in
    let e : x ≡ 8 * m = ⊎_elim (λ e. omega (arith, ints, e)) (λ e. omega (arith, ints, e, fits)) h.shifted in
    let low : m ≤ 1152921504606846975 = omega (arith, ints, high) in
    let v : shift_right_signed x 3 ≡ m = ap (λ b. cond b (2 ^ 64 - 1 - (2 ^ 64 - 1 - x) / 2 ^ 3) (x / 2 ^ 3)) (is_low x (omega (arith, e, low))) ∙ omega (arith, e) in
    record {
      size = m;
      negative = false;
      fits = omega (arith, v, low);
      sign = is_low (shift_right_signed x 3) (omega (arith, v, low));
      small = omega (arith, low);
      digits = omega (arith, low);
      is = v;
      decimal_is = refl;
    }
shifted_number (negsuc m) x h =
    let high : negsuc 1152921504606846975 ≤ℤ negsuc m = h.range.low in
    let fits = h.fits in
    let low : m ≤ 1152921504606846975 = omega (arith, ints, high) in
    let e : x + 8 * suc m ≡ 18446744073709551616 = ⊎_elim (λ e. omega (arith, ints, e)) (λ e. omega (arith, ints, e)) h.shifted in
    let v : shift_right_signed x 3 + suc m ≡ 18446744073709551616 =
    ap (λ b. cond b (2 ^ 64 - 1 - (2 ^ 64 - 1 - x) / 2 ^ 3) (x / 2 ^ 3) + suc m) (is_high x (omega (arith, e, low))) ∙ omega (arith, e, low) in
    record {
      size = suc m;
      negative = true;
      fits = omega (arith, v);
      sign = is_high (shift_right_signed x 3) (omega (arith, v, low));
      small = omega (arith, low);
      digits = omega (arith, low);
      is = omega (arith, v, low);
      decimal_is = refl;
    }

decimal_by : (n : ℕ) → decimal n ≡ digits_onto 64 10 false n []
unfolding digits
decimal_by n = refl

module _ (setting : Setting) where
  open setting use {place_of}

  -- nothing is begun, with room for twenty digits
  begun_at : (x : View) → own_size ≤ length x.bytes → x.registers RSI ≡ digits_end → Begun setting x x [] 20
  begun_at x long e = record {
    digits = record { rest = drop (x.registers RSI - data_address) x.bytes; is = refl; low = omega (arith, e); high = omega (arith, e, long) };
    end = omega (arith, e);
    low = omega (arith, e);
    rdi_is = refl;
    r11_is = refl;
    registers = λ r o. refl;
    size = refl;
    words = λ b l u. refl;
    others = refl;
    output_is = refl;
    answers_are = refl;
  }

  -- A sign stands before the digits of a number below zero.
  record Signed (z x : View) (piece : List ℕ) : Type 0 where
    y : View
    least : ℕ
    most : ℕ
    leads : Leads setting least most [] x y
    few : most ≤ 5
    begun : Begun setting z y piece 0
    ahead : Stands setting [] y.place ready_code

  signs : (ready_stands : Stands setting [] (place_of ready_label) ready_code) (z x : View) (piece : List ℕ) (negative : Bool) → Stands setting [] x.place sign_code → Begun setting z x piece 1
      → own_size ≤ length z.bytes → is_negative (x.registers RDI) ≡ negative → x.registers RDI < 2 ^ 64 → Signed z x (cond negative (45 ∷ piece) piece)
  signs ready_stands z x piece false h b long e fits =
      let y1 : View = record x { flags = (difference_of (x.registers RDI) 0).flags; place = x.place + h.0 } in
      record {
        y = record y1 { place = place_of ready_label };
        least = 2;
        most = 2;
        leads = leads_on setting.marks (goes setting x y1 (CmpNumber8 (Reg RDI) (pos 0)) h.0 [] h.1 refl)
            (branches setting y1 GE ready_label minus_code [] true h.2 (ge_zero (x.registers RDI) false fits e));
        few = omega arith;
        begun = record {
          digits = b.digits;
          end = b.end;
          low = (let l = b.low in omega (arith, l));
          rdi_is = b.rdi_is;
          r11_is = b.r11_is;
          registers = b.registers;
          size = b.size;
          words = b.words;
          others = b.others;
          output_is = b.output_is;
          answers_are = b.answers_are;
        };
        ahead = ready_stands;
      }
  signs ready_stands z x piece true h b long e fits =
      let low = b.low in
      let end = b.end in
      let size = b.size in
      let a = x.registers RSI - 1 in
      let y1 : View = record x { flags = (difference_of (x.registers RDI) 0).flags; place = x.place + h.0 } in
      let h1 = h.2 in
      let y2 : View = record y1 { place = y1.place + h1.0 } in
      let h2 = h1.4 in
      let y3 : View = record y2 { registers = set_register x.registers RSI (sub64 (x.registers RSI) 1); flags = (difference_of (x.registers RSI) 1).flags; place = y2.place + h2.0 } in
      let h3 = h2.2 in
      let y4 : View = record y3 { registers = set_register y3.registers RDX 45; place = y3.place + h3.0 } in
      let h4 = h3.2 in
      let y5 : View = record y4 { bytes = with_byte x.bytes a 45; place = y4.place + h4.0 } in
      let below : sub64 (x.registers RSI) 1 ≡ a = omega (arith, low, end) in
      record {
        y = y5;
        least = 5;
        most = 5;
        leads = leads_on setting.marks (leads_on setting.marks (leads_on setting.marks (leads_on setting.marks
            (goes setting x y1 (CmpNumber8 (Reg RDI) (pos 0)) h.0 [] h.1 refl)
            (branches setting y1 GE ready_label minus_code [] false h1 (ge_zero (x.registers RDI) true fits e)))
            (goes setting y2 y3 (SubNumber8 (Reg RSI) (pos 1)) h2.0 [] h2.1 refl))
            (goes setting y3 y4 (MovNumber (Reg RDX) (pos 45)) h3.0 [] h3.1 refl))
            (stores_one_byte setting y4 RDX h4.0 a (Base RSI) [] h4.1 below (omega (arith, low)) (omega (arith, end, size, long, low)));
        few = omega arith;
        begun = longer setting z x y5 piece 0 45 b long below refl refl refl (λ r o. let q = other_of r o in rw (q.2, q.3) refl) refl refl;
        ahead = h4.2.2;
      }

  module _ (write_stands : Stands setting [] (place_of write_label) write_code) (loop_stands : Stands setting [] (place_of loop_label) loop_code)
      (failed_stands : Stands setting [] (place_of failed_label) (exit_code 74)) (done_stands : Stands setting [] (place_of done_label) done_code) where
    -- rax has the absolute value, and rdi the number
    record Absolute (x : View) (size : ℕ) (negative : Bool) : Type 0 where
      z : View
      least : ℕ
      most : ℕ
      leads : Leads setting least most [] x z
      few : most ≤ 7
      ahead : Stands setting [] z.place positive_code
      size_is : z.registers RAX ≡ size
      sign : is_negative (z.registers RDI) ≡ negative
      fits : z.registers RDI < 2 ^ 64
      bytes : z.bytes ≡ kept_bytes x
      r11_is : z.registers R11 ≡ x.registers R11
      registers : (r : ℕ) → is_other r ≡ true → z.registers r ≡ x.registers r
      output_is : z.output ≡ x.output
      answers_are : z.answers ≡ x.answers

    absolute : (fixnum_stands : Stands setting [] (place_of fixnum_label) fixnum_code) (positive_stands : Stands setting [] (place_of positive_label) positive_code) (x : View) (n : ℤ)
        → x.place ≡ place_of fixnum_label → IsReady x → (s : Shifted n (shift_right_signed (x.registers RAX) 3)) → Absolute x s.size s.negative
    absolute fixnum_stands positive_stands x n at ready s = by s.negative s.sign s.is
      where
        v : ℕ
        v = shift_right_signed (x.registers RAX) 3

        h : Stands setting [] x.place fixnum_code
        h = subst (λ a. Stands setting [] a fixnum_code) (sym at) fixnum_stands

        kept : Saved x
        kept = saves x ready

        y1 : View
        y1 = record x { bytes = with_word x.bytes kept_rsi (x.registers RSI); place = x.place + h.0 }

        y2 : View
        y2 = record x { bytes = kept_bytes x; place = y1.place + h.4.0 }

        y3 : View
        y3 = record y2 { registers = set_register x.registers RAX v; flags = unknown_flags; place = y2.place + h.4.4.0 }

        y4 : View
        y4 = record y3 { registers = set_register y3.registers RDI v; place = y3.place + h.4.4.2.0 }

        y5 : View
        y5 = record y4 { flags = (difference_of v 0).flags; place = y4.place + h.4.4.2.2.0 }

        p : Leads setting 5 5 [] x y5
        p = leads_on setting.marks (leads_on setting.marks (leads_on setting.marks (leads_on setting.marks
            (stores_data setting x RSI kept_rsi (StoreWord kept_rdi RDI ∷ Plain (Sar (Reg RAX) 3) ∷ Plain (MovTo (Reg RDI) RAX) ∷ absolute_code) [] h kept.inside_rsi)
            (stores_data setting y1 RDI kept_rdi (Plain (Sar (Reg RAX) 3) ∷ Plain (MovTo (Reg RDI) RAX) ∷ absolute_code) [] h.4 kept.inside_rdi))
            (goes setting y2 y3 (Sar (Reg RAX) 3) h.4.4.0 [] h.4.4.1 refl))
            (goes setting y3 y4 (MovTo (Reg RDI) RAX) h.4.4.2.0 [] h.4.4.2.1 refl))
            (goes setting y4 y5 (CmpNumber8 (Reg RAX) (pos 0)) h.4.4.2.2.0 [] h.4.4.2.2.1 refl)

        h5 : Stands setting [] y5.place (JumpIf GE positive_label ∷ Plain (Neg (Reg RAX)) ∷ Label positive_label ∷ positive_code)
        h5 = h.4.4.2.2.2

        by : (t : Bool) → is_negative v ≡ t → cond t (sub64 0 v) v ≡ s.size → Absolute x s.size t
        by false e f = record {
          z = record y5 { place = place_of positive_label };
          least = 6;
          most = 6;
          leads = leads_on setting.marks p (branches setting y5 GE positive_label (Plain (Neg (Reg RAX)) ∷ Label positive_label ∷ positive_code) [] true h5 (ge_zero v false s.fits e));
          few = omega arith;
          ahead = positive_stands;
          size_is = f;
          sign = e;
          fits = s.fits;
          bytes = refl;
          r11_is = refl;
          registers = λ r o. let q = other_of r o in rw (q.0, q.4) refl;
          output_is = refl;
          answers_are = refl;
        }
        by true e f =
            let y6 : View = record y5 { place = y5.place + h5.0 } in
            let h6 = h5.4 in
            record {
              z = record y6 { registers = set_register y5.registers RAX (sub64 0 v); flags = (difference_of 0 v).flags; place = y6.place + h6.0 };
              least = 7;
              most = 7;
              leads = leads_on setting.marks (leads_on setting.marks p
                  (branches setting y5 GE positive_label (Plain (Neg (Reg RAX)) ∷ Label positive_label ∷ positive_code) [] false h5 (ge_zero v true s.fits e)))
                  (goes setting y6 _ (Neg (Reg RAX)) h6.0 [] h6.1 refl);
              few = omega arith;
              ahead = h6.2.2;
              size_is = f;
              sign = e;
              fits = s.fits;
              bytes = refl;
              r11_is = refl;
              registers = λ r o. let q = other_of r o in rw (q.0, q.4) refl;
              output_is = refl;
              answers_are = refl;
            }

    -- the routine
    pub puts_fixnum : (fixnum_stands : Stands setting [] (place_of fixnum_label) fixnum_code) (positive_stands : Stands setting [] (place_of positive_label) positive_code)
        (digit_stands : Stands setting [] (place_of digit_label) digit_code) (ready_stands : Stands setting [] (place_of ready_label) ready_code) →
        (x : View) (n : ℤ) → x.place ≡ place_of fixnum_label → IsReady x → FixnumWord n (x.registers RAX) → Puts setting x 167 (signed_decimal n)
    puts_fixnum fixnum_stands positive_stands digit_stands ready_stands x n at ready word =
        let s = shifted_number n (x.registers RAX) word in
        let o = absolute fixnum_stands positive_stands x n at ready s in
        let kept = saves x ready in
        let z = o.z in
        let h = o.ahead in
        let w1 : View = record z { registers = set_register z.registers RSI digits_end; place = z.place + h.0 } in
        let w2 : View = record w1 { registers = set_register w1.registers RCX 10; place = w1.place + h.2.0 } in
        let size : length z.bytes ≡ length x.bytes = ap length o.bytes ∙ kept.size in
        let long : own_size ≤ length w2.bytes = omega (arith, size, ready.own_words) in
        let e0 = o.size_is in
        let r = prints setting digit_stands 18 63 w2 w2 [] (omega arith) (sym h.2.2.1) (omega (arith, e0, s.digits)) (omega (arith, e0, s.small)) refl long (begun_at w2 long refl) in
        let p0 : Leads setting (o.least + 1 + 1 + r.least) (o.most + 1 + 1 + r.most) [] x r.y = leads_then setting.marks (leads_on setting.marks (leads_on setting.marks o.leads
        (goes setting z w1 (MovNumber (Reg RSI) (pos digits_end)) h.0 [] h.1 refl)) (goes setting w1 w2 (MovNumber (Reg RCX) (pos 10)) h.2.0 [] h.2.1 refl)) r.leads in
        let b0 = r.begun in
        let g = signs ready_stands w2 r.y (digits_onto 64 10 false (z.registers RAX) []) s.negative r.ahead b0 long (ap is_negative b0.rdi_is ∙ o.sign)
        (let e = b0.rdi_is in omega (arith, e, o.fits)) in
        let b = g.begun in
        let end = b.end in
        let low = b.low in
        let piece = cond s.negative (45 ∷ digits_onto 64 10 false (z.registers RAX) []) (digits_onto 64 10 false (z.registers RAX) []) in
        let k0 = g.ahead in
        let u1 : View = record (g.y) { registers = set_register g.y.registers RDX digits_end; place = g.y.place + k0.0 } in
        let k1 = k0.2 in
        let u2 : View = record u1 {
          registers = set_register u1.registers RDX (sub64 digits_end (g.y.registers RSI));
          flags = (difference_of digits_end (g.y.registers RSI)).flags;
          place = u1.place + k1.0;
        } in
        let u3 : View = record u2 { place = place_of write_label } in
        let p : Leads setting (o.least + 1 + 1 + r.least + g.least + 1 + 1 + 1) (o.most + 1 + 1 + r.most + g.most + 1 + 1 + 1) [] x u3 =
        leads_on setting.marks (leads_on setting.marks (leads_on setting.marks (leads_then setting.marks p0 g.leads)
        (goes setting g.y u1 (MovNumber (Reg RDX) (pos digits_end)) k0.0 [] k0.1 refl)) (goes setting u1 u2 (SubTo (Reg RDX) RSI) k1.0 [] k1.1 refl)) (jumps setting u2 write_label [] [] k1.2) in
        let few : o.most + 1 + 1 + r.most + g.most + 1 + 1 + 1 ≤ 150 = (let a = o.few in let c = r.few in let d = g.few in omega (arith, a, c, d)) in
        let k : Kept setting x u3 = record {
          at = refl;
          back = b.r11_is ∙ o.r11_is;
          rsi_kept = λ u. b.words kept_rsi (omega arith) (omega arith) ∙ ap (λ l. word_in l kept_rsi) o.bytes ∙ kept.rsi_kept u;
          rdi_kept = λ u. b.words kept_rdi (omega arith) (omega arith) ∙ ap (λ l. word_in l kept_rdi) o.bytes ∙ kept.rdi_kept u;
          registers = λ r e. let q = other_of r e in rw (q.2) (b.registers r e ∙ rw (q.1, q.3) (o.registers r e));
          size = b.size ∙ size;
          others = b.others ∙ ap (drop own_size) o.bytes ∙ kept.behind own_size (omega arith);
          output_is = b.output_is ∙ o.output_is;
          answers_are = b.answers_are ∙ o.answers_are;
        } in
        let length_is : sub64 digits_end (g.y.registers RSI) ≡ length piece = omega (arith, end, low) in
        let done = finishes setting write_stands loop_stands failed_stands done_stands x u3 (o.least + 1 + 1 + r.least + g.least + 1 + 1 + 1) 150 piece
        (leads_within setting.marks p (omega arith) few) k ready length_is b.digits (omega (arith, low)) in
        let d0 : digits_onto 64 10 false (z.registers RAX) [] ≡ decimal s.size = ap (λ n. digits_onto 64 10 false n []) e0 ∙ sym (decimal_by s.size) in
        let same : piece ≡ signed_decimal n = ap (λ l. cond s.negative (45 ∷ l) l) d0 ∙ sym s.decimal_is in
        subst (Puts setting x 167) same done
