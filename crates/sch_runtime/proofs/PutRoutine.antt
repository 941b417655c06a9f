-- A put as a routine: r11, rsi and rdi are kept in words of the data, and it returns through r11.
use Rattle.std.proofs.Common.{◌≡◌, ℕ, ◌+◌, ◌*◌, ◌^◌, ◌<◌, ◌≤◌, List, [], ◌∷◌, ◌++◌, length, drop, Bool, true, false, refl, sym, ap, ◌∙◌, subst, arith, ⊎_elim, inl, inr, ◌==◌, ◌&&◌, ◌||◌}
use Rattle.std.specs.Prelude.{not}
use Rattle.std.proofs.lemmas.Bool.{cases_Bool, eqb-true}
use Rattle.sch_word.specs.values.Put.{put}
use Rattle.sch_word.specs.declared.answer.Answer.{Answer}
use Rattle.sch_word.specs.runs.ProgramLayout.{data_address}
use Rattle.sch_insn.specs.declared.insn.Arg.TheVariants.{Reg}
use Rattle.sch_insn.specs.declared.insn.Insn.TheVariants.{MovTo, JumpTo}
use Rattle.sch_insn.specs.Machine.{set_register}
use Rattle.sch_insn.proofs.Paths.{leads_then, leads_on}
use Rattle.sch_word.specs.declared.registers.TheConstants.{RAX, RCX, RDX, RSI, RDI, R11}
use Rattle.sch_asm.specs.declared.item.Item.TheVariants.{Label, Plain, LoadWord, StoreWord}
use Rattle.sch_asm.specs.Stands.{Setting, Stands}
use Rattle.sch_asm.specs.Data.{PieceAt, word_in, with_word, Inside}
use Rattle.sch_asm.specs.Views.{View, Leads}
use Rattle.sch_asm.specs.Effects.{is_scratch, IsReady, PutEnds, Puts, own_size}
use Rattle.sch_asm.proofs.EachItem.{goes, loads_data, stores_data}
use Rattle.sch_asm.proofs.Words.{size_kept, word_same, word_other, behind_word}
use Rattle.sch_asm.proofs.Pieces.{piece_behind}
use Rattle.sch_runtime.specs.Code.{done_code, done_label, exit_code, failed_label, kept_r11, kept_rdi, kept_rsi, loop_code, loop_label, put_code, put_label, write_code, write_label}
use Rattle.sch_runtime.proofs.Exits.{stops_after}
use Rattle.sch_runtime.proofs.WriteLoop.{is_other, other_of, Ends, writes}

-- a word of the routines' own
pub own_word : (size a : ℕ) → own_size ≤ size → data_address ≤ a → a + 8 ≤ data_address + own_size → Inside size a
own_word size a long low high = record { low = low; high = omega arith }

-- what is said of registers that are kept
others_of : (r : ℕ) → is_scratch r ≡ false → (r == RSI) ≡ false → (r == RDI) ≡ false → is_other r ≡ true
others_of r e f g = by (r == RAX) (r == RCX) (r == RDX) (r == RSI) (r == RDI) (r == R11) e f g
  where
    by : (a b c d h k : Bool) → (a || (b || (c || (k || false)))) ≡ false → d ≡ false → h ≡ false → (not a && (not b && (not c && (not d && (not h && not k))))) ≡ true
    by true b c d h k e f g = absurd cc
    by false true c d h k e f g = absurd cc
    by false false true d h k e f g = absurd cc
    by false false false d h true e f g = absurd cc
    by false false false true h false e f g = absurd cc
    by false false false false true false e f g = absurd cc
    by false false false false false false e f g = refl

-- rsi and rdi are kept first
abbrev pub kept_bytes : View → List ℕ
kept_bytes x = with_word (with_word x.bytes kept_rsi (x.registers RSI)) kept_rdi (x.registers RDI)

pub record Saved (x : View) : Type 0 where
  pub rsi_kept : x.registers RSI < 2 ^ 64 → word_in (kept_bytes x) kept_rsi ≡ x.registers RSI
  pub rdi_kept : x.registers RDI < 2 ^ 64 → word_in (kept_bytes x) kept_rdi ≡ x.registers RDI
  pub size : length (kept_bytes x) ≡ length x.bytes
  pub inside_rsi : Inside (length x.bytes) kept_rsi
  pub inside_rdi : Inside (length (with_word x.bytes kept_rsi (x.registers RSI))) kept_rdi
  pub behind : (j : ℕ) → 24 ≤ j → drop j (kept_bytes x) ≡ drop j x.bytes

pub saves : (x : View) → IsReady x → Saved x
saves x ready =
    let i1 = own_word (length x.bytes) kept_rsi ready.own_words (omega arith) (omega arith) in
    let bs1 = with_word x.bytes kept_rsi (x.registers RSI) in
    let s1 = size_kept x.bytes kept_rsi (x.registers RSI) i1 in
    let i2 = own_word (length bs1) kept_rdi (omega (arith, s1, ready.own_words)) (omega arith) (omega arith) in
    record {
      rsi_kept = λ u. word_other bs1 kept_rdi (x.registers RDI) kept_rsi i2 (omega arith) (inl (omega arith)) ∙ word_same x.bytes kept_rsi (x.registers RSI) i1 u;
      rdi_kept = λ u. word_same bs1 kept_rdi (x.registers RDI) i2 u;
      size = size_kept bs1 kept_rdi (x.registers RDI) i2 ∙ s1;
      inside_rsi = i1;
      inside_rdi = i2;
      behind = λ j le. behind_word bs1 kept_rdi (x.registers RDI) j i2 (omega (arith, le)) ∙ behind_word x.bytes kept_rsi (x.registers RSI) j i1 (omega (arith, le));
    }

module _ (setting : Setting) where
  open setting use {place_of}

  -- At `write_label` a routine that was entered in the view x has kept rsi and rdi, and has everything else as it was.
  pub record Kept (x z : View) : Type 0 where
    pub at : z.place ≡ place_of write_label
    pub back : z.registers R11 ≡ x.registers R11
    pub rsi_kept : x.registers RSI < 2 ^ 64 → word_in z.bytes kept_rsi ≡ x.registers RSI
    pub rdi_kept : x.registers RDI < 2 ^ 64 → word_in z.bytes kept_rdi ≡ x.registers RDI
    pub registers : (r : ℕ) → is_other r ≡ true → z.registers r ≡ x.registers r
    pub size : length z.bytes ≡ length x.bytes
    pub others : drop own_size z.bytes ≡ drop own_size x.bytes
    pub output_is : z.output ≡ x.output
    pub answers_are : z.answers ≡ x.answers

  module _ (write_stands : Stands setting [] (place_of write_label) write_code) (loop_stands : Stands setting [] (place_of loop_label) loop_code)
      (failed_stands : Stands setting [] (place_of failed_label) (exit_code 74)) (done_stands : Stands setting [] (place_of done_label) done_code) where
    -- from the loop's end back to the caller
    returned : (x z w : View) (a b : ℕ) (output : List ℕ) (left : List Answer) → Leads setting a b [] x w → w.bytes ≡ with_word z.bytes kept_r11 (z.registers R11) → w.answers ≡ z.answers
        → ((r : ℕ) → is_other r ≡ true → w.registers r ≡ z.registers r) →
        Kept x z → IsReady x → (whole : Bool) → Ends setting whole w output left → PutEnds setting whole x (b + 16) output left
    returned x z w a b output left p e f same k ready false s = stops_after setting x w a b 12 (b + 16) 74 output left p s (let g = ap (λ l. 10 * length l) (f ∙ k.answers_are) in omega (arith, g))
    returned x z w a b output left p e f same k ready true d =
        let size = k.size in
        let long : own_size ≤ length z.bytes = omega (arith, size, ready.own_words) in
        let i0 = own_word (length z.bytes) kept_r11 long (omega arith) (omega arith) in
        let y0 = d.y in
        let bs : y0.bytes ≡ with_word z.bytes kept_r11 (z.registers R11) = d.bytes ∙ e in
        let same_size : length y0.bytes ≡ length z.bytes = ap length bs ∙ size_kept z.bytes kept_r11 (z.registers R11) i0 in
        let long' : own_size ≤ length y0.bytes = omega (arith, same_size, long) in
        let h : Stands setting [] y0.place done_code = subst (λ a. Stands setting [] a done_code) (sym d.at) done_stands in
        let y1 : View = record y0 { registers = set_register y0.registers RSI (word_in y0.bytes kept_rsi); place = y0.place + h.0 } in
        let h1 = h.4 in
        let y2 : View = record y1 { registers = set_register y1.registers RDI (word_in y0.bytes kept_rdi); place = y1.place + h1.0 } in
        let h2 = h1.4 in
        let y3 : View = record y2 { registers = set_register y2.registers R11 (word_in y0.bytes kept_r11); place = y2.place + h2.0 } in
        let h3 = h2.4 in
        let y4 : View = record y3 { place = word_in y0.bytes kept_r11 } in
        let way = leads_on setting.marks (leads_on setting.marks (leads_on setting.marks (leads_on setting.marks d.leads
        (loads_data setting y0 RSI kept_rsi (LoadWord RDI kept_rdi ∷ LoadWord R11 kept_r11 ∷ Plain (JumpTo (Reg R11)) ∷ []) [] h
        (own_word (length y0.bytes) kept_rsi long' (omega arith) (omega arith))))
        (loads_data setting y1 RDI kept_rdi (LoadWord R11 kept_r11 ∷ Plain (JumpTo (Reg R11)) ∷ []) [] h1 (own_word (length y0.bytes) kept_rdi long' (omega arith) (omega arith))))
        (loads_data setting y2 R11 kept_r11 (Plain (JumpTo (Reg R11)) ∷ []) [] h2 (own_word (length y0.bytes) kept_r11 long' (omega arith) (omega arith))))
        (goes setting y3 y4 (JumpTo (Reg R11)) h3.0 [] h3.1 refl) in
        let fits : z.registers R11 < 2 ^ 64 = subst (λ v. v < 2 ^ 64) (sym k.back) ready.back in
        let rsi : word_in y0.bytes kept_rsi ≡ word_in z.bytes kept_rsi =
        ap (λ l. word_in l kept_rsi) bs ∙ word_other z.bytes kept_r11 (z.registers R11) kept_rsi i0 (omega arith) (inr (omega arith)) in
        let rdi : word_in y0.bytes kept_rdi ≡ word_in z.bytes kept_rdi =
        ap (λ l. word_in l kept_rdi) bs ∙ word_other z.bytes kept_r11 (z.registers R11) kept_rdi i0 (omega arith) (inr (omega arith)) in
        record {
          y = y4;
          least = a + (d.least + 1 + 1 + 1 + 1);
          most = b + (d.most + 1 + 1 + 1 + 1);
          leads = leads_then setting.marks p way;
          few = let g = d.few in omega (arith, g, ap (λ l. 10 * length l) (f ∙ k.answers_are));
          at = ap (λ l. word_in l kept_r11) bs ∙ word_same z.bytes kept_r11 (z.registers R11) i0 fits ∙ k.back;
          registers = λ r free u.
              ⊎_elim
              (λ t. let q : r ≡ RSI = eqb-true r RSI t in
              subst (λ n. y4.registers n ≡ x.registers n) (sym q) (rsi ∙ k.rsi_kept (subst (λ n. x.registers n < 2 ^ 64) q u)))
              (λ t.
              ⊎_elim
              (λ v. let q : r ≡ RDI = eqb-true r RDI v in
              subst (λ n. y4.registers n ≡ x.registers n) (sym q) (rdi ∙ k.rdi_kept (subst (λ n. x.registers n < 2 ^ 64) q u)))
              (λ v. let other = others_of r free t v in let o = other_of r other in rw (o.3, o.4, o.5) (d.kept r other ∙ same r other ∙ k.registers r other))
              (cases_Bool (r == RDI)))
              (cases_Bool (r == RSI));
          size = same_size ∙ k.size;
          others = ap (drop own_size) bs ∙ behind_word z.bytes kept_r11 (z.registers R11) own_size i0 (omega arith) ∙ k.others;
          output_is = d.output_is;
          left_is = d.left_is;
        }

    -- From `write_label` on a piece is put, and the machine is back.
    pub finishes : (x z : View) (a b : ℕ) (piece : List ℕ) → Leads setting a b [] x z → Kept x z → IsReady x → z.registers RDX ≡ length piece → PieceAt z.bytes (z.registers RSI) piece
        → kept_rsi ≤ z.registers RSI → Puts setting x (b + 17) piece
    finishes x z a b piece p k ready size at low =
        let long : own_size ≤ length z.bytes = (let e = k.size in omega (arith, e, ready.own_words)) in
        let i0 = own_word (length z.bytes) kept_r11 long (omega arith) (omega arith) in
        let h : Stands setting [] z.place write_code = subst (λ a. Stands setting [] a write_code) (sym k.at) write_stands in
        let bs = with_word z.bytes kept_r11 (z.registers R11) in
        let w : View = record z { bytes = bs; place = z.place + h.0 } in
        let q : Leads setting (a + 1) (b + 1) [] x w = leads_then setting.marks p (stores_data setting z R11 kept_r11 (Label loop_label ∷ loop_code) [] h i0) in
        let here : w.place ≡ place_of loop_label = sym h.4.1 in
        let there : PieceAt bs (z.registers RSI) piece = piece_behind z.bytes (z.registers RSI) piece kept_r11 (z.registers R11) at (omega (arith, low)) i0 in
        let top : data_address + length bs < 2 ^ 63 = (let e = size_kept z.bytes kept_r11 (z.registers R11) i0 in let f = k.size in omega (arith, e, f, ready.within)) in
        let r = writes setting loop_stands failed_stands w.answers w piece refl here size there top in
        let back = returned x z w (a + 1) (b + 1) (w.output ++ (put piece w.answers).taken) (put piece w.answers).left q refl refl (λ r e. refl) k ready (put piece w.answers).whole r in
        let bound : b + 1 + 16 ≡ b + 17 = omega arith in
        let same : PutEnds setting (put piece z.answers).whole x (b + 17) (z.output ++ (put piece z.answers).taken) (put piece z.answers).left =
        subst (λ n. PutEnds setting (put piece z.answers).whole x n (z.output ++ (put piece z.answers).taken) (put piece z.answers).left) bound back in
        subst (λ l. PutEnds setting (put piece l).whole x (b + 17) (x.output ++ (put piece l).taken) (put piece l).left) k.answers_are
        (subst (λ o. PutEnds setting (put piece z.answers).whole x (b + 17) (o ++ (put piece z.answers).taken) (put piece z.answers).left) k.output_is same)

    -- the routine that puts a piece
    pub puts : (put_stands : Stands setting [] (place_of put_label) put_code) (x : View) (piece : List ℕ) → x.place ≡ place_of put_label → IsReady x → data_address + own_size ≤ x.registers RAX
        → x.registers RDX ≡ length piece → PieceAt x.bytes (x.registers RAX) piece → Puts setting x 20 piece
    puts put_stands x piece at ready low size here =
        let s = saves x ready in
        let h : Stands setting [] x.place put_code = subst (λ a. Stands setting [] a put_code) (sym at) put_stands in
        let bs1 = with_word x.bytes kept_rsi (x.registers RSI) in
        let y1 : View = record x { bytes = bs1; place = x.place + h.0 } in
        let h1 = h.4 in
        let y2 : View = record y1 { bytes = kept_bytes x; place = y1.place + h1.0 } in
        let h2 = h1.4 in
        let y3 : View = record y2 { registers = set_register x.registers RSI (x.registers RAX); place = y2.place + h2.0 } in
        let p : Leads setting 3 3 [] x y3 = leads_on setting.marks (leads_on setting.marks
        (stores_data setting x RSI kept_rsi (StoreWord kept_rdi RDI ∷ Plain (MovTo (Reg RSI) RAX) ∷ Label write_label ∷ write_code) [] h s.inside_rsi)
        (stores_data setting y1 RDI kept_rdi (Plain (MovTo (Reg RSI) RAX) ∷ Label write_label ∷ write_code) [] h1 s.inside_rdi))
        (goes setting y2 y3 (MovTo (Reg RSI) RAX) h2.0 [] h2.1 refl) in
        let k : Kept x y3 = record {
          at = sym h2.2.1;
          back = refl;
          rsi_kept = s.rsi_kept;
          rdi_kept = s.rdi_kept;
          registers = λ r e. let o = other_of r e in rw (o.3) refl;
          size = s.size;
          others = s.behind own_size (omega arith);
          output_is = refl;
          answers_are = refl;
        } in
        let there : PieceAt (kept_bytes x) (x.registers RAX) piece =
        piece_behind bs1 (x.registers RAX) piece kept_rdi (x.registers RDI) (piece_behind x.bytes (x.registers RAX) piece kept_rsi (x.registers RSI) here (omega (arith, low)) s.inside_rsi)
        (omega (arith, low)) s.inside_rdi in
        finishes x y3 3 3 piece p k ready size there (omega (arith, low))
