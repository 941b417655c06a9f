-- The fills: a loop that stores one element in each turn, whatever the size of an element.
use Rattle.std.proofs.Common.{◌≡◌, ℕ, zero, suc, ◌+◌, ◌-◌, ◌*◌, ◌%◌, ◌^◌, ◌<◌, ◌≤◌, List, [], ◌∷◌, length, take, drop, length-append, Some, Bool, true, false, refl, sym, ap, ◌∙◌, subst, arith, ◌==◌, ◌||◌, eq-eqb}
use Rattle.std.specs.Prelude.{pos, not}
use Rattle.std.specs.Int.{w64, to_le_bytes}
use Rattle.std.proofs.lemmas.Bool.{ne_eqb}
use Rattle.sch_word.specs.runs.ProgramLayout.{data_address}
use Rattle.sch_insn.specs.declared.insn.Arg.TheVariants.{Reg, Base}
use Rattle.sch_insn.specs.declared.insn.Insn.{Insn}
use Rattle.sch_insn.specs.declared.insn.Insn.TheVariants.{AddNumber8, SubNumber8, CmpNumber8, JumpTo}
use Rattle.sch_insn.specs.Machine.{set_register, add64, sub64, difference_of, sum_of, condition, put_bytes, word}
use Rattle.sch_insn.proofs.Paths.{leads_then, leads_on}
use Rattle.sch_word.specs.declared.registers.TheConstants.{RAX, RCX, RDX, R11}
use Rattle.sch_insn.specs.declared.condition.TheConstants.{NE}
use Rattle.sch_asm.specs.declared.item.Item.TheVariants.{Label, Plain}
use Rattle.sch_asm.specs.Stands.{Setting, Found, Stands}
use Rattle.sch_asm.specs.Views.{View, Leads}
use Rattle.sch_asm.specs.Effects.{AreBytes, AreWords, Fills, HasRoom, IsReady, is_scratch}
use Rattle.sch_asm.proofs.EachItem.{goes, jumps, branches, stores_word, stores_one_byte}
use Rattle.sch_runtime.specs.Code.{byte_store, bytes_code, bytes_label, bytes_test, bytes_turn, fill_code, test_code, turn_code, word_store, words_code, words_label, words_test, words_turn}
use Rattle.sch_insn.proofs.PutSize.{size_put}
use Rattle.sch_runtime.proofs.PutBytes.{before_put, behind_put, bytes_put, length_bytes, length_words, put_after, put_none, repeated, words_put}
use Rattle.sch_runtime.proofs.ZeroTests.{ne_zero}

-- The scratch registers that a fill writes are rax and rdx.
unscratched : (r : ℕ) → is_scratch r ≡ false → ((r == RAX) ≡ false) × ((r == RDX) ≡ false)
unscratched r e = by (r == RAX) (r == RCX) (r == RDX) (r == R11) e
  where
    by : (a b c d : Bool) → (a || (b || (c || (d || false)))) ≡ false → (a ≡ false) × (c ≡ false)
    by true b c d e = absurd cc
    by false true c d e = absurd cc
    by false false true d e = absurd cc
    by false false false true e = absurd cc
    by false false false false e = (refl, refl)

module _ (setting : Setting) where
  open setting use {place_of}

  -- Wherever it stands, an instruction stores an element of some bytes at the address in rax, where rcx has
  -- this word.
  abbrev Stores : Insn → ℕ → List ℕ → Type 0
  Stores store w element = (x : View) (n a : ℕ) → Found setting x.place store n [] → x.registers RAX ≡ a → x.registers RCX ≡ w → data_address ≤ a → a + length element ≤ data_address + length x.bytes →
      Leads setting 1 1 [] x (record x { bytes = put_bytes x.bytes (a - data_address) element; place = x.place + n })

  word_stores : (w : ℕ) → Stores word_store w (to_le_bytes w64 w)
  word_stores w x n a f at is low high =
      subst (λ v. Leads setting 1 1 [] x (record x { bytes = put_bytes x.bytes (a - data_address) (to_le_bytes w64 v); place = x.place + n })) is
      (stores_word setting x RCX n a (Base RAX) [] f at (record { low = low; high = high }))

  byte_stores : (w b : ℕ) → w % 256 ≡ b → Stores byte_store w (b ∷ [])
  byte_stores w b e x n a f at is low high =
      subst (λ v. Leads setting 1 1 [] x (record x { bytes = put_bytes x.bytes (a - data_address) (v ∷ []); place = x.place + n })) (ap (λ v. v % 256) is ∙ e)
      (stores_one_byte setting x RCX n a (Base RAX) [] f at low (omega (arith, high)))

  module _ (store : Insn) (size turn test w : ℕ) (element : List ℕ) (stores : Stores store w element) (size_is : length element ≡ size) (step_is : word (pos size) ≡ size) where
    -- From the test on, n elements are written from the address a on, and the machine is back.
    record Filled (x : View) (a n : ℕ) : Type 0 where
      y : View
      leads : Leads setting (5 * n + 3) (5 * n + 3) [] x y
      at : y.place ≡ x.registers R11
      registers : (r : ℕ) → (r == RAX) ≡ false → (r == RDX) ≡ false → y.registers r ≡ x.registers r
      bytes : y.bytes ≡ put_bytes x.bytes (a - data_address) (repeated n element)
      output_is : y.output ≡ x.output
      left_is : y.answers ≡ x.answers

    -- What the loop keeps: n elements from the address a on are still to be written.
    record Ahead (x : View) (a n : ℕ) : Type 0 where
      at : x.place ≡ place_of test
      address : x.registers RAX ≡ a
      count : x.registers RDX ≡ n
      element_is : x.registers RCX ≡ w
      low : data_address ≤ a
      high : a + length (repeated n element) ≤ data_address + length x.bytes
      top : data_address + length x.bytes < 2 ^ 63
      few : n < 2 ^ 63

    module _ (turn_stands : Stands setting [] (place_of turn) (turn_code store size turn test)) (test_stands : Stands setting [] (place_of test) (test_code turn)) where
      -- nothing is left
      finished : (x : View) (a : ℕ) → Ahead x a 0 → Filled x a 0
      finished x a q =
          let h = subst (λ p. Stands setting [] p (test_code turn)) (sym q.at) test_stands in
          let y1 : View = record x { flags = (difference_of (x.registers RDX) 0).flags; place = x.place + h.0 } in
          let none = q.count in
          let is : condition y1.flags NE ≡ Some false = ne_zero (x.registers RDX) (omega (arith, none)) ∙ ap (λ t. Some (not t)) (eq-eqb (x.registers RDX) 0 none) in
          let y2 : View = record y1 { place = y1.place + h.2.0 } in
          let h2 = h.2.4 in
          let y3 : View = record y2 { place = x.registers R11 } in
          record {
            y = y3;
            leads = leads_on setting.marks (leads_on setting.marks (goes setting x y1 (CmpNumber8 (Reg RDX) (pos 0)) h.0 [] h.1 refl)
                (branches setting y1 NE turn (Plain (JumpTo (Reg R11)) ∷ []) [] false h.2 is))
                (goes setting y2 y3 (JumpTo (Reg R11)) h2.0 [] h2.1 refl);
            at = refl;
            registers = λ r e f. refl;
            bytes = sym (put_none x.bytes (a - data_address));
            output_is = refl;
            left_is = refl;
          }

      -- one turn
      record Turned (x : View) (a n : ℕ) : Type 0 where
        y : View
        leads : Leads setting 5 5 [] x y
        ahead : Ahead y (a + size) n
        back : y.registers R11 ≡ x.registers R11
        registers : (r : ℕ) → (r == RAX) ≡ false → (r == RDX) ≡ false → y.registers r ≡ x.registers r
        bytes : y.bytes ≡ put_bytes x.bytes (a - data_address) element
        output_is : y.output ≡ x.output
        left_is : y.answers ≡ x.answers

      turned : (x : View) (a n : ℕ) → Ahead x a (suc n) → Turned x a n
      turned x a n q =
          let low = q.low in
          let high = q.high in
          let top = q.top in
          let few = q.few in
          let count = q.count in
          let address = q.address in
          let k = a - data_address in
          let both = length-append element (repeated n element) in
          let h = subst (λ p. Stands setting [] p (test_code turn)) (sym q.at) test_stands in
          let y1 : View = record x { flags = (difference_of (x.registers RDX) 0).flags; place = x.place + h.0 } in
          let is : condition y1.flags NE ≡ Some true = ne_zero (x.registers RDX) (omega (arith, count, few)) ∙ ap (λ t. Some (not t)) (ne_eqb (x.registers RDX) 0 (λ e. omega (arith, count, e))) in
          let y2 : View = record y1 { place = place_of turn } in
          let h2 = turn_stands in
          let y3 : View = record y2 { bytes = put_bytes x.bytes k element; place = y2.place + h2.0 } in
          let h3 = h2.2 in
          let y4 : View = record y3 {
            registers = set_register x.registers RAX (add64 (x.registers RAX) (word (pos size)));
            flags = (sum_of (x.registers RAX) (word (pos size))).flags;
            place = y3.place + h3.0;
          } in
          let h4 = h3.2 in
          let y5 : View = record y4 { registers = set_register y4.registers RDX (sub64 (x.registers RDX) 1); flags = (difference_of (x.registers RDX) 1).flags; place = y4.place + h4.0 } in
          let same = size_put x.bytes k element (omega (arith, low, high, both)) in
          record {
            y = y5;
            leads = leads_on setting.marks (leads_on setting.marks (leads_on setting.marks (leads_on setting.marks
                (goes setting x y1 (CmpNumber8 (Reg RDX) (pos 0)) h.0 [] h.1 refl)
                (branches setting y1 NE turn (Plain (JumpTo (Reg R11)) ∷ []) [] true h.2 is))
                (stores y2 h2.0 a h2.1 address q.element_is low (omega (arith, high, both))))
                (goes setting y3 y4 (AddNumber8 (Reg RAX) (pos size)) h3.0 [] h3.1 refl))
                (goes setting y4 y5 (SubNumber8 (Reg RDX) (pos 1)) h4.0 [] h4.1 refl);
            ahead = record {
              at = sym h4.2.1;
              address = ap (add64 (x.registers RAX)) step_is ∙ omega (arith, address, low, high, top, both, size_is);
              count = omega (arith, count, few);
              element_is = q.element_is;
              low = omega (arith, low);
              high = omega (arith, high, both, size_is, same);
              top = omega (arith, top, same);
              few = omega (arith, few);
            };
            back = refl;
            registers = λ r e f. rw (e, f) refl;
            bytes = refl;
            output_is = refl;
            left_is = refl;
          }

      turns : (n : ℕ) (x : View) (a : ℕ) → Ahead x a n → Filled x a n
      turns zero x a q = finished x a q
      turns (suc n) x a q =
          let t = turned x a n q in
          let r = turns n t.y (a + size) t.ahead in
          let low = q.low in
          let high = q.high in
          let k = a - data_address in
          let next : a + size - data_address ≡ k + length element = omega (arith, low, size_is) in
          let steps : 5 + (5 * n + 3) ≡ 5 * suc n + 3 = omega arith in
          record {
            y = r.y;
            leads = subst (λ m. Leads setting m m [] x r.y) steps (leads_then setting.marks t.leads r.leads);
            at = r.at ∙ t.back;
            registers = λ k e f. r.registers k e f ∙ t.registers k e f;
            bytes = r.bytes
                ∙ ap (λ j. put_bytes t.y.bytes j (repeated n element)) next
                ∙ ap (λ l. put_bytes l (k + length element) (repeated n element)) t.bytes
                ∙ put_after x.bytes k element (repeated n element) (omega (arith, low, high));
            output_is = r.output_is ∙ t.output_is;
            left_is = r.left_is ∙ t.left_is;
          }

    -- the routine
    fills : (label : ℕ) → Stands setting [] (place_of label) (fill_code store size turn test) → (x : View) (a n total : ℕ) (AreFilled : List ℕ → Type 0) → x.place ≡ place_of label → IsReady x
        → HasRoom x a n total → x.registers RCX ≡ w →
        length (repeated n element) ≡ total → n ≤ total → AreFilled (put_bytes x.bytes (a - data_address) (repeated n element)) → Fills setting x a total (5 * n + 4) AreFilled
    fills label stands x a n total AreFilled at ready room is all within filled =
        let low = room.low in
        let high = room.high in
        let top = ready.within in
        let k = a - data_address in
        let h = subst (λ p. Stands setting [] p (fill_code store size turn test)) (sym at) stands in
        let turn_stands : Stands setting [] (place_of turn) (turn_code store size turn test) = subst (λ p. Stands setting [] p (turn_code store size turn test)) (sym h.4.1) h.4.2 in
        let test_stands : Stands setting [] (place_of test) (test_code turn) = subst (λ p. Stands setting [] p (test_code turn)) (sym turn_stands.2.2.2.1) turn_stands.2.2.2.2 in
        let y : View = record x { place = place_of test } in
        let ahead : Ahead y a n = record {
          at = refl;
          address = room.address_is;
          count = room.count_is;
          element_is = is;
          low = omega (arith, low);
          high = omega (arith, high, all);
          top = top;
          few = omega (arith, within, high, top);
        } in
        let r = turns turn_stands test_stands n y a ahead in
        let fit : k + length (repeated n element) ≤ length x.bytes = omega (arith, low, high, all) in
        let start : k ≤ length x.bytes = omega (arith, fit) in
        let end : a + total - data_address ≡ k + length (repeated n element) = omega (arith, low, all) in
        record {
          y = r.y;
          least = 1 + (5 * n + 3);
          most = 1 + (5 * n + 3);
          leads = leads_then setting.marks (jumps setting x test (Label turn ∷ turn_code store size turn test) [] h) r.leads;
          some = omega arith;
          few = omega arith;
          at = r.at;
          registers = λ k e u. let o = unscratched k e in r.registers k o.0 o.1;
          size_is = ap length r.bytes ∙ size_put x.bytes k (repeated n element) fit;
          before = ap (take k) r.bytes ∙ before_put x.bytes k (repeated n element) start;
          filled = subst AreFilled (sym r.bytes) filled;
          behind = ap (λ l. drop (a + total - data_address) l) r.bytes
              ∙ ap (λ j. drop j (put_bytes x.bytes k (repeated n element))) end
              ∙ behind_put x.bytes k (repeated n element) start
              ∙ ap (λ j. drop j x.bytes) (sym end);
          output_is = r.output_is;
          left_is = r.left_is;
        }

  pub fills_words : Stands setting [] (place_of words_label) words_code → (x : View) (a n w : ℕ) → x.place ≡ place_of words_label → IsReady x → HasRoom x a n (8 * n) → x.registers RCX ≡ w
      → w < 2 ^ 64 → Fills setting x a (8 * n) (5 * n + 4) (AreWords a n w)
  fills_words stands x a n w at ready room is fits =
      let low = room.low in
      let high = room.high in
      fills word_store 8 words_turn words_test w (to_le_bytes w64 w) (word_stores w) refl refl words_label stands x a n (8 * n) (AreWords a n w) at ready room is (length_words n w) (omega arith)
      (words_put x.bytes a n w (omega (arith, low)) (omega (arith, high)) fits)

  pub fills_bytes : Stands setting [] (place_of bytes_label) bytes_code → (x : View) (a n b : ℕ) → x.place ≡ place_of bytes_label → IsReady x → HasRoom x a n n → x.registers RCX % 256 ≡ b
      → Fills setting x a n (5 * n + 4) (AreBytes a n b)
  fills_bytes stands x a n b at ready room is =
      let low = room.low in
      let high = room.high in
      fills byte_store 1 bytes_turn bytes_test (x.registers RCX) (b ∷ []) (byte_stores (x.registers RCX) b is) refl refl bytes_label stands x a n n (AreBytes a n b) at ready room refl
      (length_bytes n b) (omega arith)
      (bytes_put x.bytes a n b (omega (arith, low)) (omega (arith, high)))
