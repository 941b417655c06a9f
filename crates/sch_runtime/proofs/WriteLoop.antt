-- The write loop: rsi has the address of what is left of a piece and rdx its size. It writes until nothing
-- is left, whatever the kernel answers.
use Rattle.std.proofs.Common.{◌≡◌, ℕ, zero, suc, ◌+◌, ◌-◌, ◌*◌, ◌^◌, ◌<◌, ◌≤◌, min, List, [], ◌∷◌, ◌++◌, length, take, drop, Some, Bool, true, false, refl, sym, ap, ◌∙◌, subst, arith, append_assoc, append-nil, length-drop, ◌==◌, ◌&&◌, eq-eqb}
use Rattle.std.specs.Prelude.{pos, not}
use Rattle.std.proofs.lemmas.Bool.{ne_eqb}
use Rattle.std.proofs.lemmas.List.{take_min, drop_min}
use Rattle.std.proofs.Math.Seq.{take-append_seam}
use Rattle.sch_word.specs.values.Put.{put}
use Rattle.sch_word.specs.declared.answer.Answer.{Answer}
use Rattle.sch_word.specs.declared.answer.Answer.TheVariants.{Took, Failed}
use Rattle.sch_insn.specs.declared.insn.Arg.TheVariants.{Reg}
use Rattle.sch_insn.specs.declared.insn.Insn.TheVariants.{MovNumber, AddTo, SubTo, CmpNumber8, Syscall}
use Rattle.sch_word.specs.values.Options.{first_or_0, rest_of}
use Rattle.sch_word.specs.runs.ProgramLayout.{data_address}
use Rattle.sch_insn.specs.Machine.{set_register, add64, sub64, difference_of, sum_of, unknown_flags, condition}
use Rattle.sch_insn.specs.Step.{Runs, answered, write_row, piece_written}
use Rattle.sch_insn.proofs.Paths.{leads_then, leads_on}
use Rattle.sch_word.specs.declared.registers.TheConstants.{RAX, RCX, RDX, RSI, RDI, R11}
use Rattle.sch_insn.specs.declared.condition.TheConstants.{E, LE}
use Rattle.sch_asm.specs.Stands.{Setting, Stands}
use Rattle.sch_asm.specs.Data.{PieceAt}
use Rattle.sch_asm.specs.Views.{View, full, Leads}
use Rattle.sch_asm.specs.Effects.{Stops}
use Rattle.sch_asm.proofs.EachItem.{goes, jumps, branches}
use Rattle.sch_asm.proofs.Pieces.{piece_later, piece_read}
use Rattle.sch_runtime.specs.Code.{ask_code, count_code, done_label, exit_code, failed_label, loop_code, loop_label, next_code}
use Rattle.sch_runtime.proofs.ZeroTests.{e_zero, le_zero, passes_le}
use Rattle.sch_runtime.proofs.Exits.{exits_here, stops_after}

-- The registers that the loop does not write.
abbrev pub is_other : ℕ → Bool
is_other r = not (r == RAX) && (not (r == RCX) && (not (r == RDX) && (not (r == RSI) && (not (r == RDI) && not (r == R11)))))

pub other_of : (r : ℕ) → is_other r ≡ true → ((r == RAX) ≡ false) × ((r == RCX) ≡ false) × ((r == RDX) ≡ false) × ((r == RSI) ≡ false) × ((r == RDI) ≡ false) × ((r == R11) ≡ false)
other_of r e = by (r == RAX) (r == RCX) (r == RDX) (r == RSI) (r == RDI) (r == R11) e
  where
    by : (a b c d f g : Bool) → (not a && (not b && (not c && (not d && (not f && not g))))) ≡ true → (a ≡ false) × (b ≡ false) × (c ≡ false) × (d ≡ false) × (f ≡ false) × (g ≡ false)
    by true b c d f g e = absurd cc
    by false true c d f g e = absurd cc
    by false false true d f g e = absurd cc
    by false false false true f g e = absurd cc
    by false false false false true g e = absurd cc
    by false false false false false true e = absurd cc
    by false false false false false false e = (refl, refl, refl, refl, refl, refl)

-- ---- pieces, as far as the kernel takes them

module _ (setting : Setting) where
  open setting use {place_of}

  abbrev Led : ℕ → ℕ → View → View → Type 0
  Led least most x y = Leads setting least most [] x y

  -- the kernel is offered the piece
  offered : (x : View) (next : ℕ) (b : ℕ) (bs : List ℕ) → x.registers RDX ≡ length (b ∷ bs) → PieceAt x.bytes (x.registers RSI) (b ∷ bs)
      → write_row (full setting x) next (x.registers RDX) ≡ Runs (answered (full setting x) next (b ∷ bs) x.answers)
  offered x next b bs size at =
      let n = length bs in
      let s = full setting x in
      ap (write_row s next) size
      ∙ ap (piece_written s next (suc n)) (piece_read setting x.bytes (x.registers RSI) (b ∷ bs) at (omega arith))
      ∙ ap (λ l. Runs (answered s next l x.answers)) (take-append_seam (b ∷ bs) at.rest)

  -- the view after a write
  abbrev wrote : View → ℕ → ℕ → List ℕ → List Answer → View
  wrote x next rax taken left = record x {
    registers = set_register (set_register (set_register x.registers RAX rax) RCX (first_or_0 x.spare)) R11 (first_or_0 (rest_of x.spare));
    flags = unknown_flags;
    place = next;
    output = x.output ++ taken;
    answers = left;
    spare = rest_of (rest_of x.spare);
  }

  -- The loop has come to its end, in no more steps than c and ten for each answer that it used.
  pub record Done (c : ℕ) (x : View) (output : List ℕ) (left : List Answer) : Type 0 where
    pub y : View
    pub least : ℕ
    pub most : ℕ
    pub leads : Led least most x y
    pub few : most + 10 * length left ≤ c + 10 * length x.answers
    pub at : y.place ≡ place_of done_label
    pub kept : (r : ℕ) → is_other r ≡ true → y.registers r ≡ x.registers r
    pub bytes : y.bytes ≡ x.bytes
    pub output_is : y.output ≡ output
    pub left_is : y.answers ≡ left

  abbrev pub Ends : Bool → View → List ℕ → List Answer → Type 0
  Ends true x output left = Done 12 x output left
  Ends false x output left = Stops setting x 12 74 output left

  module _ (loop_stands : Stands setting [] (place_of loop_label) loop_code) (failed_stands : Stands setting [] (place_of failed_label) (exit_code 74)) where
    -- where it fails
    fails : (x : View) → x.place ≡ place_of failed_label → Stops setting x 3 74 x.output x.answers
    fails x at = exits_here setting x 74 (omega arith) (subst (λ a. Stands setting [] a (exit_code 74)) (sym at) failed_stands)

    -- one turn, up to the kernel's answer
    abbrev asking : View → View
    asking x = record x { registers = set_register (set_register x.registers RAX 1) RDI 1 }

    record Asked (x : View) (rax : ℕ) (taken : List ℕ) (left : List Answer) : Type 0 where
      next : ℕ
      leads : Led 5 5 x (wrote (asking x) next rax taken left)
      ahead : Stands setting [] next count_code

    asked : (x : View) (b : ℕ) (bs : List ℕ) (rax : ℕ) (taken : List ℕ) (left : List Answer) → x.place ≡ place_of loop_label → x.registers RDX ≡ length (b ∷ bs) → length (b ∷ bs) < 2 ^ 63
        → PieceAt x.bytes (x.registers RSI) (b ∷ bs) →
        ((y : View) (next : ℕ) → y.answers ≡ x.answers → answered (full setting y) next (b ∷ bs) y.answers ≡ full setting (wrote y next rax taken left)) → Asked x rax taken left
    asked x b bs rax taken left at size small piece answer =
        let h : Stands setting [] x.place loop_code = subst (λ a. Stands setting [] a loop_code) (sym at) loop_stands in
        let fs = (difference_of (x.registers RDX) 0).flags in
        let y1 : View = record x { flags = fs; place = x.place + h.0 } in
        let is : condition fs E ≡ Some false = e_zero (x.registers RDX) (omega arith) ∙ ap Some (ne_eqb (x.registers RDX) 0 (λ e. omega arith)) in
        let y2 : View = record y1 { place = y1.place + h.2.0 } in
        let h2 = h.2.4 in
        let y3 : View = record y2 { registers = set_register x.registers RAX 1; place = y2.place + h2.0 } in
        let y4 : View = record y3 { registers = set_register y3.registers RDI 1; place = y3.place + h2.2.0 } in
        let next = y4.place + h2.2.2.0 in
        record {
          next = next;
          leads = leads_on setting.marks (leads_on setting.marks
              (leads_on setting.marks (leads_on setting.marks (goes setting x y1 (CmpNumber8 (Reg RDX) (pos 0)) h.0 [] h.1 refl) (branches setting y1 E done_label ask_code [] false h.2 is))
              (goes setting y2 y3 (MovNumber (Reg RAX) (pos 1)) h2.0 [] h2.1 refl))
              (goes setting y3 y4 (MovNumber (Reg RDI) (pos 1)) h2.2.0 [] h2.2.1 refl))
              (goes setting y4 (wrote (asking x) next rax taken left) Syscall h2.2.2.0 [] h2.2.2.1 (offered y4 next b bs size piece ∙ ap Runs (answer y4 next refl)));
          ahead = h2.2.2.2;
        }

    -- nothing is left
    finished : (x : View) → x.place ≡ place_of loop_label → x.registers RDX ≡ 0 → Done 2 x x.output x.answers
    finished x at none =
        let h : Stands setting [] x.place loop_code = subst (λ a. Stands setting [] a loop_code) (sym at) loop_stands in
        let fs = (difference_of (x.registers RDX) 0).flags in
        let y1 : View = record x { flags = fs; place = x.place + h.0 } in
        let is : condition fs E ≡ Some true = e_zero (x.registers RDX) (omega arith) ∙ ap Some (eq-eqb (x.registers RDX) 0 none) in
        record {
          y = record y1 { place = place_of done_label };
          least = 2;
          most = 2;
          leads = leads_on setting.marks (goes setting x y1 (CmpNumber8 (Reg RDX) (pos 0)) h.0 [] h.1 refl) (branches setting y1 E done_label ask_code [] true h.2 is);
          few = omega arith;
          at = refl;
          kept = λ k e. refl;
          bytes = refl;
          output_is = refl;
          left_is = refl;
        }

    -- some was taken: what is left is counted, and the loop begins again
    record Counted (x : View) (m : ℕ) (taken : List ℕ) (left : List Answer) : Type 0 where
      y : View
      leads : Led 10 10 x y
      at : y.place ≡ place_of loop_label
      address : y.registers RSI ≡ x.registers RSI + m
      size : y.registers RDX + m ≡ x.registers RDX
      kept : (r : ℕ) → is_other r ≡ true → y.registers r ≡ x.registers r
      bytes : y.bytes ≡ x.bytes
      output_is : y.output ≡ x.output ++ taken
      left_is : y.answers ≡ left

    counted : (x : View) (m : ℕ) (taken : List ℕ) (left : List Answer) → Asked x m taken left → 0 < m → m ≤ x.registers RDX → x.registers RDX < 2 ^ 63 → x.registers RSI + x.registers RDX < 2 ^ 63
        → Counted x m taken left
    counted x m taken left q some within small top =
        let h = q.ahead in
        let y0 = wrote (asking x) q.next m taken left in
        let y1 : View = record y0 { flags = (difference_of m 0).flags; place = q.next + h.0 } in
        let y2 : View = record y1 { place = y1.place + h.2.0 } in
        let h2 = h.2.4 in
        let y3 : View = record y2 { registers = set_register y2.registers RSI (add64 (x.registers RSI) m); flags = (sum_of (x.registers RSI) m).flags; place = y2.place + h2.0 } in
        let y4 : View = record y3 { registers = set_register y3.registers RDX (sub64 (x.registers RDX) m); flags = (difference_of (x.registers RDX) m).flags; place = y3.place + h2.2.0 } in
        record {
          y = record y4 { place = place_of loop_label };
          leads = leads_on setting.marks (leads_on setting.marks (leads_on setting.marks (leads_on setting.marks (leads_on setting.marks q.leads
              (goes setting y0 y1 (CmpNumber8 (Reg RAX) (pos 0)) h.0 [] h.1 refl))
              (branches setting y1 LE failed_label next_code [] false h.2 (passes_le m some (omega arith))))
              (goes setting y2 y3 (AddTo (Reg RSI) RAX) h2.0 [] h2.1 refl))
              (goes setting y3 y4 (SubTo (Reg RDX) RAX) h2.2.0 [] h2.2.1 refl))
              (jumps setting y4 loop_label [] [] h2.2.2);
          at = refl;
          address = omega arith;
          size = omega arith;
          kept = λ k e.
              let o = other_of k e in
              rw (o.0, o.1, o.2, o.3, o.4, o.5) refl;
          bytes = refl;
          output_is = refl;
          left_is = refl;
        }

    -- a turn that took something, and what follows
    follows : (w : Bool) (x : View) (m : ℕ) (taken output : List ℕ) (left after : List Answer) → (q : Counted x m taken after) → 10 * length after + 10 ≤ 10 * length x.answers
        → Ends w q.y output left → Ends w x output left
    follows true x m taken output left after q le d = record {
      y = d.y;
      least = 10 + d.least;
      most = 10 + d.most;
      leads = leads_then setting.marks q.leads d.leads;
      few = let f = d.few in let e = ap length q.left_is in omega (arith, le, f, ap (λ n. 10 * n) e);
      at = d.at;
      kept = λ k e. d.kept k e ∙ q.kept k e;
      bytes = d.bytes ∙ q.bytes;
      output_is = d.output_is;
      left_is = d.left_is;
    }
    follows false x m taken output left after q le d = let e = ap length q.left_is in stops_after setting x q.y 10 10 12 12 74 output left q.leads d (omega (arith, le, ap (λ n. 10 * n) e))

    -- a write that took nothing
    gives_up : (x : View) (rax : ℕ) (a : Answer) (left : List Answer) → x.answers ≡ a ∷ left → Asked x rax [] left → condition (difference_of rax 0).flags LE ≡ Some true
        → Stops setting x 12 74 (x.output ++ []) left
    gives_up x rax a left e q taken =
        let h = q.ahead in
        let y0 = wrote (asking x) q.next rax [] left in
        let y1 : View = record y0 { flags = (difference_of rax 0).flags; place = q.next + h.0 } in
        let y2 : View = record y1 { place = place_of failed_label } in
        stops_after setting x y2 7 7 3 12 74 (x.output ++ []) left
        (leads_on setting.marks (leads_on setting.marks q.leads (goes setting y0 y1 (CmpNumber8 (Reg RAX) (pos 0)) h.0 [] h.1 refl)) (branches setting y1 LE failed_label next_code [] true h.2 taken))
        (fails y2 refl) (let f = ap length e in omega (arith, f))

    answered_by : (b : ℕ) (bs : List ℕ) (rax : ℕ) (taken : List ℕ) (left answers : List Answer)
        → ((y : View) (next : ℕ) → answered (full setting y) next (b ∷ bs) answers ≡ full setting (wrote y next rax taken left)) →
        (x : View) → x.answers ≡ answers → (y : View) (next : ℕ) → y.answers ≡ x.answers → answered (full setting y) next (b ∷ bs) y.answers ≡ full setting (wrote y next rax taken left)
    answered_by b bs rax taken left answers h x e y next f = ap (answered (full setting y) next (b ∷ bs)) (f ∙ e) ∙ h y next

    -- a put, by the answers
    pub writes : (answers : List Answer) (x : View) (piece : List ℕ) → x.answers ≡ answers → x.place ≡ place_of loop_label → x.registers RDX ≡ length piece
        → PieceAt x.bytes (x.registers RSI) piece → data_address + length x.bytes < 2 ^ 63 →
        Ends (put piece answers).whole x (x.output ++ (put piece answers).taken) (put piece answers).left
    writes answers x [] e at size piece top =
        let d = finished x at size in
        record {
          y = d.y;
          least = d.least;
          most = d.most;
          leads = d.leads;
          few = let f = d.few in omega (arith, f, ap (λ l. 10 * length l) e);
          at = d.at;
          kept = d.kept;
          bytes = d.bytes;
          output_is = d.output_is ∙ sym (append-nil x.output);
          left_is = d.left_is ∙ e;
        }
    writes [] x (b ∷ bs) e at size piece top =
        let n = length (b ∷ bs) in
        let high = piece.high in
        let q = asked x b bs n (b ∷ bs) [] at size (omega arith) piece (answered_by b bs n (b ∷ bs) [] [] (λ y next. refl) x e) in
        let t = counted x n (b ∷ bs) [] q (omega arith) (omega arith) (omega arith) (omega arith) in
        let z = t.size in
        let d = finished t.y t.at (omega arith) in
        record {
          y = d.y;
          least = 10 + d.least;
          most = 10 + d.most;
          leads = leads_then setting.marks t.leads d.leads;
          few = let f = d.few in omega (arith, f, ap (λ l. 10 * length l) t.left_is);
          at = d.at;
          kept = λ k f. d.kept k f ∙ t.kept k f;
          bytes = d.bytes ∙ t.bytes;
          output_is = d.output_is ∙ t.output_is;
          left_is = d.left_is ∙ t.left_is;
        }
    writes (Failed ∷ answers) x (b ∷ bs) e at size piece top =
        let high = piece.high in
        gives_up x (2 ^ 64 - 5) Failed answers e (asked x b bs (2 ^ 64 - 5) [] answers at size (omega arith) piece
        (answered_by b bs (2 ^ 64 - 5) [] answers (Failed ∷ answers) (λ y next. refl) x e)) (le_zero (2 ^ 64 - 5) true (omega arith) refl)
    writes (Took zero ∷ answers) x (b ∷ bs) e at size piece top =
        let high = piece.high in
        let least : min 0 (length (b ∷ bs)) ≡ 0 = omega arith in
        gives_up x 0 (Took 0) answers e (asked x b bs 0 [] answers at size (omega arith) piece
        (answered_by b bs 0 [] answers (Took 0 ∷ answers) (λ y next. ap (λ m. full setting (wrote y next m (take m (b ∷ bs)) answers)) least) x e)) (le_zero 0 false (omega arith) refl)
    writes (Took (suc k) ∷ answers) x (b ∷ bs) e at size piece top =
        let high = piece.high in
        let whole = b ∷ bs in
        let m = min (suc k) (length whole) in
        let some : 0 < m = omega arith in
        let within : m ≤ length whole = omega arith in
        let q = asked x b bs m (take m whole) answers at size (omega arith) piece (answered_by b bs m (take m whole) answers (Took (suc k) ∷ answers) (λ y next. refl) x e) in
        let t = counted x m (take m whole) answers q some (omega arith) (omega arith) (omega arith) in
        let z = t.size in
        let len = length-drop m whole in
        let at' : PieceAt t.y.bytes (t.y.registers RSI) (drop m whole) =
        subst (λ a. PieceAt t.y.bytes a (drop m whole)) (sym t.address)
        (subst (λ l. PieceAt l (x.registers RSI + m) (drop m whole)) (sym t.bytes) (piece_later x.bytes (x.registers RSI) whole m within piece)) in
        let r = writes answers t.y (drop m whole) t.left_is t.at (omega arith) at' (subst (λ l. data_address + length l < 2 ^ 63) (sym t.bytes) top) in
        let p = put (drop (suc k) whole) answers in
        let r' = subst (λ l. Ends (put l answers).whole t.y (t.y.output ++ (put l answers).taken) (put l answers).left) (drop_min (suc k) whole) r in
        let out : t.y.output ++ p.taken ≡ x.output ++ (take (suc k) whole ++ p.taken) =
        ap (λ l. l ++ p.taken) (t.output_is ∙ ap (λ l. x.output ++ l) (take_min (suc k) whole)) ∙ append_assoc x.output (take (suc k) whole) p.taken in
        follows p.whole x m (take m whole) (x.output ++ (take (suc k) whole ++ p.taken)) p.left answers t (omega (arith, ap length e)) (subst (λ o. Ends p.whole t.y o p.left) out r')
