-- The digits of a number, written from the last one to the first.
use Rattle.std.proofs.Common.{◌≡◌, ℕ, zero, suc, ◌+◌, ◌-◌, ◌*◌, ◌/◌, ◌%◌, ◌^◌, ◌<◌, ◌≤◌, List, [], ◌∷◌, length, drop, Some, Bool, true, false, refl, sym, ap, ◌∙◌, subst, arith, inl, ◌==◌}
use Rattle.std.specs.Prelude.{pos, not, nat_lt, Result, Ok, if◌then◌else◌}
use Rattle.std.specs.Fmt.{digit_glyph, digits_onto}
use Rattle.std.proofs.lemmas.Bool.{eqb-false}
use Rattle.std.proofs.lemmas.Bool.Decides.{nat_tests}
use Rattle.sch_word.specs.values.Options.{when_ok}
use Rattle.sch_word.specs.runs.ProgramLayout.{data_address}
use Rattle.sch_insn.specs.declared.insn.Arg.TheVariants.{Reg, Base}
use Rattle.sch_insn.specs.declared.insn.Insn.TheVariants.{MovNumber, Idiv, AddNumber8, SubNumber8, CmpNumber8}
use Rattle.sch_insn.specs.declared.state.StuckCause.{StuckCause}
use Rattle.sch_insn.specs.Machine.{set_register, add64, sub64, magnitude, difference_of, sum_of, unknown_flags, condition, with_flags, with_register, with_place}
use Rattle.sch_insn.specs.Step.{Runs, moved, perform, quotient_of, dividend_magnitude, is_quotient}
use Rattle.sch_insn.proofs.Paths.{leads_then, leads_on}
use Rattle.sch_word.specs.declared.registers.TheConstants.{RAX, RCX, RDX, RSI, RDI, R11}
use Rattle.sch_insn.specs.declared.condition.TheConstants.{NE}
use Rattle.sch_asm.specs.declared.item.Item.TheVariants.{JumpIf}
use Rattle.sch_asm.specs.Stands.{Setting, Stands}
use Rattle.sch_asm.specs.Data.{PieceAt, word_in}
use Rattle.sch_asm.specs.Views.{View, full, Leads}
use Rattle.sch_asm.proofs.EachItem.{goes, branches, stores_one_byte}
use Rattle.sch_asm.proofs.Bytes.{with_byte, size_with_byte, from_byte, behind_byte, word_beside_byte}
use Rattle.sch_asm.specs.Effects.{own_size}
use Rattle.sch_runtime.specs.Code.{digit_code, digit_label, digits_end, sign_code}
use Rattle.sch_runtime.proofs.ZeroTests.{ne_zero}
use Rattle.sch_runtime.proofs.WriteLoop.{is_other, other_of}

-- ---- division by ten

fits_quotient : (q : ℕ) → q < 2 ^ 63 → is_quotient false q ≡ true
fits_quotient q lt = grind (arith, nat_tests)

tenth : (n v : ℕ) → v ≡ 10 → n < 2 ^ 63 → quotient_of 0 n v ≡ Ok (n / 10, n % 10)
tenth n v e lt =
    let low : n / 10 < 2 ^ 63 = omega (arith, lt) in
    let whole : dividend_magnitude 0 n ≡ n = omega arith in
    let q : dividend_magnitude 0 n / magnitude 10 ≡ n / 10 = ap (λ k. k / 10) whole in
    let r : dividend_magnitude 0 n % magnitude 10 ≡ n % 10 = ap (λ k. k % 10) whole in
    let fit = fits_quotient (n / 10) low in
    ap (quotient_of 0 n) e ∙ rw (q, r, fit) refl

-- ---- one digit

glyph_of : (d : ℕ) → d < 10 → 48 + d ≡ digit_glyph false d
glyph_of d lt = let e : nat_lt d 10 ≡ true = grind (arith, nat_tests) in rw e refl

-- one more byte before a piece
piece_longer : (bs : List ℕ) (a b v : ℕ) (piece : List ℕ) → PieceAt bs a piece → b + 1 ≡ a → data_address ≤ b → b < data_address + length bs → PieceAt (with_byte bs b v) b (v ∷ piece)
piece_longer bs a b v piece at e low lt = record {
  rest = at.rest;
  is = from_byte bs b v low lt ∙ ap (λ k. v ∷ drop (k - data_address) bs) e ∙ ap (λ l. v ∷ l) at.is;
  low = low;
  high = let s = size_with_byte bs b v low lt in let h = at.high in omega (arith, s, h, e);
}

-- 10 to the power of j + 1
abbrev pub limit : ℕ → ℕ
limit zero = 10
limit (suc j) = 10 * limit j

module _ (setting : Setting) where
  open setting use {place_of}

  divided : (y : View) (next q r : ℕ) → quotient_of (y.registers RDX) (y.registers RAX) (y.registers RCX) ≡ Ok (q, r)
      → perform (Idiv (Reg RCX)) next (full setting y) ≡ Runs (full setting (record y { registers = set_register (set_register y.registers RAX q) RDX r; flags = unknown_flags; place = next }))
  divided y next q r e = ap (λ (o : Result (ℕ × ℕ) StuckCause). moved (full setting y)
      (when_ok o (λ p. Ok (with_flags unknown_flags (with_register RDX p.1 (with_register RAX p.0 (with_place next (full setting y).core))))))) e

  -- A view in which a piece has been begun, from its end on: what has become of an earlier view.
  pub record Begun (z y : View) (piece : List ℕ) (room : ℕ) : Type 0 where
    pub digits : PieceAt y.bytes (y.registers RSI) piece
    pub end : y.registers RSI + length piece ≡ digits_end
    pub low : 0x10000018 + room ≤ y.registers RSI
    pub rdi_is : y.registers RDI ≡ z.registers RDI
    pub r11_is : y.registers R11 ≡ z.registers R11
    pub registers : (r : ℕ) → is_other r ≡ true → y.registers r ≡ z.registers r
    pub size : length y.bytes ≡ length z.bytes
    pub words : (b : ℕ) → data_address ≤ b → b + 8 ≤ 0x10000018 → word_in y.bytes b ≡ word_in z.bytes b
    pub others : drop own_size y.bytes ≡ drop own_size z.bytes
    pub output_is : y.output ≡ z.output
    pub answers_are : y.answers ≡ z.answers

  -- one byte more, where rsi has gone down by one
  pub longer : (z x y : View) (piece : List ℕ) (room v : ℕ) → Begun z x piece (suc room) → own_size ≤ length z.bytes → y.registers RSI ≡ x.registers RSI - 1
      → y.bytes ≡ with_byte x.bytes (x.registers RSI - 1) v → y.registers RDI ≡ x.registers RDI → y.registers R11 ≡ x.registers R11 →
      ((r : ℕ) → is_other r ≡ true → y.registers r ≡ x.registers r) → y.output ≡ x.output → y.answers ≡ x.answers → Begun z y (v ∷ piece) room
  longer z x y piece room v b long e f g h i j k =
      let low = b.low in
      let end = b.end in
      let size = b.size in
      let a = x.registers RSI - 1 in
      let base : data_address ≤ a = omega arith in
      let inside : a < data_address + length x.bytes = omega arith in
      let same : a + 1 ≡ x.registers RSI = omega arith in
      let at = piece_longer x.bytes (x.registers RSI) a v piece b.digits same base inside in
      record {
        digits = subst (λ n. PieceAt y.bytes n (v ∷ piece)) (sym e) (subst (λ l. PieceAt l a (v ∷ piece)) (sym f) at);
        end = omega (arith, e, end, low);
        low = omega (arith, e, low);
        rdi_is = g ∙ b.rdi_is;
        r11_is = h ∙ b.r11_is;
        registers = λ r o. i r o ∙ b.registers r o;
        size = ap length f ∙ size_with_byte x.bytes a v base inside ∙ size;
        words = λ c l u. ap (λ l. word_in l c) f ∙ word_beside_byte x.bytes a v c base inside l (inl (omega (arith, u, low))) ∙ b.words c l u;
        others = ap (drop own_size) f ∙ behind_byte x.bytes a v own_size base inside (omega (arith, end)) ∙ b.others;
        output_is = j ∙ b.output_is;
        answers_are = k ∙ b.answers_are;
      }

  -- The digits stand before what was begun.
  pub record Printed (z x : View) (piece : List ℕ) (bound : ℕ) : Type 0 where
    pub y : View
    pub least : ℕ
    pub most : ℕ
    pub leads : Leads setting least most [] x y
    pub few : most ≤ bound
    pub begun : Begun z y piece 1
    pub ahead : Stands setting [] y.place sign_code

  -- One digit is written. What follows depends on whether it was the first.
  record Digit (z x : View) (piece : List ℕ) (room : ℕ) : Type 0 where
    y : View
    leads : Leads setting 6 6 [] x y
    begun : Begun z y (digit_glyph false (x.registers RAX % 10) ∷ piece) room
    rest : y.registers RAX ≡ x.registers RAX / 10
    ten : y.registers RCX ≡ 10
    test : condition y.flags NE ≡ Some (not (x.registers RAX / 10 == 0))
    ahead : Stands setting [] y.place (JumpIf NE digit_label ∷ sign_code)

  digit : (z x : View) (piece : List ℕ) (room : ℕ) → Stands setting [] x.place digit_code → x.registers RAX < 2 ^ 63 → x.registers RCX ≡ 10 → own_size ≤ length z.bytes → Begun z x piece (suc room)
      → Digit z x piece room
  digit z x piece room h small ten long b =
      let n = x.registers RAX in
      let p = x.registers RSI in
      let a = p - 1 in
      let low = b.low in
      let end = b.end in
      let size = b.size in
      let y1 : View = record x { registers = set_register x.registers RDX 0; place = x.place + h.0 } in
      let h1 = h.2 in
      let y2 : View = record y1 { registers = set_register (set_register y1.registers RAX (n / 10)) RDX (n % 10); flags = unknown_flags; place = y1.place + h1.0 } in
      let h2 = h1.2 in
      let y3 : View = record y2 { registers = set_register y2.registers RDX (add64 (n % 10) 48); flags = (sum_of (n % 10) 48).flags; place = y2.place + h2.0 } in
      let h3 = h2.2 in
      let y4 : View = record y3 { registers = set_register y3.registers RSI (sub64 p 1); flags = (difference_of p 1).flags; place = y3.place + h3.0 } in
      let h4 = h3.2 in
      let below : sub64 p 1 ≡ a = omega (arith, low, end) in
      let y5 : View = record y4 { bytes = with_byte x.bytes a (add64 (n % 10) 48 % 256); place = y4.place + h4.0 } in
      let h5 = h4.2 in
      let y6 : View = record y5 { flags = (difference_of (n / 10) 0).flags; place = y5.place + h5.0 } in
      let glyph : add64 (n % 10) 48 % 256 ≡ digit_glyph false (n % 10) = (let e : add64 (n % 10) 48 % 256 ≡ 48 + n % 10 = omega arith in e ∙ glyph_of (n % 10) (omega arith)) in
      record {
        y = y6;
        leads = leads_on setting.marks (leads_on setting.marks (leads_on setting.marks (leads_on setting.marks (leads_on setting.marks
            (goes setting x y1 (MovNumber (Reg RDX) (pos 0)) h.0 [] h.1 refl)
            (goes setting y1 y2 (Idiv (Reg RCX)) h1.0 [] h1.1 (divided y1 (y1.place + h1.0) (n / 10) (n % 10) (tenth n (x.registers RCX) ten small))))
            (goes setting y2 y3 (AddNumber8 (Reg RDX) (pos 48)) h2.0 [] h2.1 refl))
            (goes setting y3 y4 (SubNumber8 (Reg RSI) (pos 1)) h3.0 [] h3.1 refl))
            (stores_one_byte setting y4 RDX h4.0 a (Base RSI) [] h4.1 below (omega (arith, low)) (omega (arith, end, size, long, low))))
            (goes setting y5 y6 (CmpNumber8 (Reg RAX) (pos 0)) h5.0 [] h5.1 refl);
        begun = longer z x y6 piece room (digit_glyph false (n % 10)) b long below (ap (with_byte x.bytes a) glyph) refl refl (λ r e. let o = other_of r e in rw (o.0, o.2, o.3) refl) refl refl;
        rest = refl;
        ten = ten;
        test = ne_zero (n / 10) (omega (arith, small));
        ahead = h5.2;
      }

  -- the digit was the first one, or the loop goes on
  closes : (z x : View) (piece more : List ℕ) (room j : ℕ) (d : Digit z x piece (suc room)) (t : Bool) → (x.registers RAX / 10 == 0) ≡ t
      → (t ≡ false → Printed z (record (d.y) { place = place_of digit_label }) more j) → Printed z x (if t then digit_glyph false (x.registers RAX % 10) ∷ piece else more) (7 + j)
  closes z x piece more room j d true e next =
      let h = d.ahead in
      let y : View = record (d.y) { place = d.y.place + h.0 } in
      let b = d.begun in
      record {
        y = y;
        least = 7;
        most = 7;
        leads = leads_on setting.marks d.leads (branches setting d.y NE digit_label sign_code [] false h (d.test ∙ ap (λ t. Some (not t)) e));
        few = omega arith;
        begun = record {
          digits = b.digits;
          end = b.end;
          low = (let l = b.low in omega (arith, l));
          rdi_is = b.rdi_is;
          r11_is = b.r11_is;
          registers = b.registers;
          size = b.size;
          words = b.words;
          others = b.others;
          output_is = b.output_is;
          answers_are = b.answers_are;
        };
        ahead = h.4;
      }
  closes z x piece more room j d false e next =
      let h = d.ahead in
      let r = next refl in
      record {
        y = r.y;
        least = 7 + r.least;
        most = 7 + r.most;
        leads = leads_then setting.marks (leads_on setting.marks d.leads (branches setting d.y NE digit_label sign_code [] true h (d.test ∙ ap (λ t. Some (not t)) e))) r.leads;
        few = let f = r.few in omega (arith, f);
        begun = r.begun;
        ahead = r.ahead;
      }

  module _ (digit_stands : Stands setting [] (place_of digit_label) digit_code) where
    -- From `digit_label` on, rax has the number and rcx ten.
    pub prints : (j f : ℕ) (z x : View) (piece : List ℕ) → j ≤ f → x.place ≡ place_of digit_label → x.registers RAX < limit j → x.registers RAX < 2 ^ 63 → x.registers RCX ≡ 10
        → own_size ≤ length z.bytes → Begun z x piece (suc (suc j)) →
        Printed z x (digits_onto (suc f) 10 false (x.registers RAX) piece) (7 + 7 * j)
    prints zero f z x piece le at lt small ten long b =
        let h = subst (λ a. Stands setting [] a digit_code) (sym at) digit_stands in
        let d = digit z x piece 1 h small ten long b in
        let none : x.registers RAX / 10 ≡ 0 = omega (arith, lt) in
        closes z x piece (digits_onto f 10 false (x.registers RAX / 10) (digit_glyph false (x.registers RAX % 10) ∷ piece)) 0 0 d (x.registers RAX / 10 == 0) refl
        (λ e. absurd (eqb-false (x.registers RAX / 10) 0 e none))
    prints (suc j) zero z x piece le at lt small ten long b = absurd (omega (arith, le))
    prints (suc j) (suc f) z x piece le at lt small ten long b =
        let h = subst (λ a. Stands setting [] a digit_code) (sym at) digit_stands in
        let d = digit z x piece (suc (suc j)) h small ten long b in
        let rest = d.rest in
        let more = digits_onto (suc f) 10 false (x.registers RAX / 10) (digit_glyph false (x.registers RAX % 10) ∷ piece) in
        let bound : 7 + 7 * j ≡ 7 * suc j = omega arith in
        closes z x piece more (suc j) (7 * suc j) d (x.registers RAX / 10 == 0) refl
        (λ e. subst (Printed z (record (d.y) { place = place_of digit_label }) more) bound
        (subst (λ n. Printed z (record (d.y) { place = place_of digit_label }) (digits_onto (suc f) 10 false n (digit_glyph false (x.registers RAX % 10) ∷ piece)) (7 + 7 * j)) rest
        (prints j f z (record (d.y) { place = place_of digit_label }) (digit_glyph false (x.registers RAX % 10) ∷ piece) (omega (arith, le)) refl (omega (arith, rest, lt))
        (omega (arith, rest, small)) d.ten long
        (let b = d.begun in record {
          digits = b.digits;
          end = b.end;
          low = b.low;
          rdi_is = b.rdi_is;
          r11_is = b.r11_is;
          registers = b.registers;
          size = b.size;
          words = b.words;
          others = b.others;
          output_is = b.output_is;
          answers_are = b.answers_are;
        }))))
