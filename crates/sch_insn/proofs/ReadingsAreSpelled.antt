-- What is read was spelled so: where `decode` answers, the bytes begin with the spelling of its answer.
use Rattle.std.proofs.Common.{◌≡◌, ℕ, zero, suc, ◌+◌, ◌*◌, ◌/◌, ◌%◌, ◌^◌, ◌<◌, ◌≤◌, List, [], ◌∷◌, ◌++◌, length, take, drop, get_or, true, false, cond, Option, Some, refl, sym, ap, ◌∙◌, subst, arith, length-drop, append-nil, nat_lt, ◌==◌, ◌&&◌, lit<, take-add}
use Rattle.std.specs.Prelude.{ℤ, not}
use Rattle.std.specs.Int.{w8, w32, w64, cast_signed, to_le_bytes, from_le_bytes}
use Rattle.std.specs.Int.RustNames.{FitsSigned}
use Rattle.std.proofs.lemmas.List.{get_or-drop}
use Rattle.std.proofs.lemmas.Nat.{le_bytes_4, le_bytes_8}
use Rattle.std.proofs.lemmas.Int.{of_z-to_z}
use Rattle.std.proofs.Math.Facts.{sfits_to_z}
use Rattle.std.proofs.lemmas.Bool.{eqb-true, eqb-false}
use Rattle.std.proofs.lemmas.Bool.Decides.{nat_tests}
use Rattle.sch_word.proofs.facts.Booleans.{and_parts, not_true}
use Rattle.sch_insn.specs.declared.insn.Arg.{Arg}
use Rattle.sch_insn.specs.declared.insn.Arg.TheVariants.{Reg, Base, Base8, Base32, Rip}
use Rattle.sch_insn.specs.declared.insn.Insn.{Insn}
use Rattle.sch_insn.specs.declared.insn.Insn.TheVariants.{MovTo, MovFrom, MovNumber, MovWord, StoreByte, LoadByte, Lea, AddTo, OrTo, AndTo, SubTo, XorTo, CmpTo, AddFrom, OrFrom, AndFrom, SubFrom, XorFrom, CmpFrom, AddNumber, OrNumber, AndNumber, SubNumber, XorNumber, CmpNumber, AddNumber8, OrNumber8, AndNumber8, SubNumber8, XorNumber8, CmpNumber8, TestTo, Imul, Neg, Idiv, Cqo, Shl, Shr, Sar, Jump, Jump8, JumpTo, JumpIf, JumpIf8, Syscall}
use Rattle.sch_insn.specs.Spelling.{one_byte, four_bytes, eight_bytes, high_bit, rex, wide, modrm, sib, operand, IsArg, in_memory, spelling, IsCondition, IsValid}
use Rattle.sch_insn.specs.Decode.{number_of_1, number_of_4, number_of_8, sib_size, arg_of, operand_of, count_of, with_count, number_form_of_4, number_form_of_1, shift_form, mov_number_of, plain_form, wide_of, narrow_of, long_of, full_of, rexed_of, is_jump_if, escaped_of, decode}
use Rattle.sch_word.specs.values.Options.{when_some}
use Rattle.sch_insn.proofs.Lists.{take_1, take_2, take_3, drop_1}
use Rattle.sch_insn.proofs.OnAnswer.{OnAnswer, nothing, gives, branch, sequence}

-- ---- numbers
-- Each element is below 256 (and the answer past the end is 0).
abbrev pub Bytes : List ℕ → Type 0
Bytes bs = (i : ℕ) → get_or bs i 0 < 256

behind : (x : ℕ) (bs : List ℕ) → Bytes (x ∷ bs) → Bytes bs
behind x bs h i = h (suc i)

dropped : (n : ℕ) (bs : List ℕ) → Bytes bs → Bytes (drop n bs)
dropped n bs h i = let e = get_or-drop n bs i 0 in let l = h (n + i) in omega (arith, e, l)

small4 : (a b c d : ℕ) → a < 256 → b < 256 → c < 256 → d < 256 → Bytes (a ∷ b ∷ c ∷ d ∷ [])
small4 a b c d h i j k zero = h
small4 a b c d h i j k (suc zero) = i
small4 a b c d h i j k (suc (suc zero)) = j
small4 a b c d h i j k (suc (suc (suc zero))) = k
small4 a b c d h i j k (suc (suc (suc (suc n)))) = lit< tt

small8 : (a b c d e f g k : ℕ) → a < 256 → b < 256 → c < 256 → d < 256 → e < 256 → f < 256 → g < 256 → k < 256 → Bytes (a ∷ b ∷ c ∷ d ∷ e ∷ f ∷ g ∷ k ∷ [])
small8 a b c d e f g k ha hb hc hd he hf hg hk zero = ha
small8 a b c d e f g k ha hb hc hd he hf hg hk (suc zero) = hb
small8 a b c d e f g k ha hb hc hd he hf hg hk (suc (suc zero)) = hc
small8 a b c d e f g k ha hb hc hd he hf hg hk (suc (suc (suc zero))) = hd
small8 a b c d e f g k ha hb hc hd he hf hg hk (suc (suc (suc (suc i)))) = small4 e f g k he hf hg hk i

-- The first bytes, `size` many, are those of the number.
record Number (size : ℕ) (bytes_of : ℤ → List ℕ) (Fits : ℤ → Type 0) (bs : List ℕ) (d : ℤ) : Type 0 where
  pub long : size ≤ length bs
  pub same : take size bs ≡ bytes_of d
  pub fits : Fits d

abbrev NumberOf1 : List ℕ → ℤ → Type 0
NumberOf1 = Number 1 one_byte (FitsSigned w8)

abbrev NumberOf4 : List ℕ → ℤ → Type 0
NumberOf4 = Number 4 four_bytes (FitsSigned w32)

abbrev NumberOf8 : List ℕ → ℤ → Type 0
NumberOf8 = Number 8 eight_bytes (FitsSigned w64)

number_of_1_back : (bs : List ℕ) → Bytes bs → OnAnswer (NumberOf1 bs) (number_of_1 bs)
number_of_1_back [] h = nothing
number_of_1_back (x ∷ bs) h =
    let low : x < 2 ^ 8 = h 0 in
    branch (nat_lt (length (x ∷ bs)) 1) (λ _. nothing) (λ _. gives (cast_signed w8 x) (record {
      long = omega arith;
      same = ap (λ y. y ∷ []) (sym (of_z-to_z w8 x low));
      fits = sfits_to_z (record { fits = low });
    }))

number_of_4_back : (bs : List ℕ) → Bytes bs → OnAnswer (NumberOf4 bs) (number_of_4 bs)
number_of_4_back [] h = nothing
number_of_4_back (a ∷ []) h = nothing
number_of_4_back (a ∷ b ∷ []) h = nothing
number_of_4_back (a ∷ b ∷ c ∷ []) h = nothing
number_of_4_back (a ∷ b ∷ c ∷ f ∷ bs) h =
    let n = from_le_bytes w32 (a ∷ b ∷ c ∷ f ∷ []) in
    let ha = h 0 in let hb = h 1 in let hc = h 2 in let hf = h 3 in
    let low : n < 2 ^ 32 = omega arith in
    branch (nat_lt (length (a ∷ b ∷ c ∷ f ∷ bs)) 4) (λ _. nothing) (λ _. gives (cast_signed w32 n) (record {
      long = omega arith;
      same = sym (le_bytes_4 (a ∷ b ∷ c ∷ f ∷ []) n refl (small4 a b c f ha hb hc hf) refl) ∙ ap (to_le_bytes w32) (sym (of_z-to_z w32 n low));
      fits = sfits_to_z (record { fits = low });
    }))

number_of_8_back : (bs : List ℕ) → Bytes bs → OnAnswer (NumberOf8 bs) (number_of_8 bs)
number_of_8_back [] h = nothing
number_of_8_back (a ∷ []) h = nothing
number_of_8_back (a ∷ b ∷ []) h = nothing
number_of_8_back (a ∷ b ∷ c ∷ []) h = nothing
number_of_8_back (a ∷ b ∷ c ∷ d ∷ []) h = nothing
number_of_8_back (a ∷ b ∷ c ∷ d ∷ e ∷ []) h = nothing
number_of_8_back (a ∷ b ∷ c ∷ d ∷ e ∷ f ∷ []) h = nothing
number_of_8_back (a ∷ b ∷ c ∷ d ∷ e ∷ f ∷ g ∷ []) h = nothing
number_of_8_back (a ∷ b ∷ c ∷ d ∷ e ∷ f ∷ g ∷ k ∷ bs) h =
    let n = from_le_bytes w64 (a ∷ b ∷ c ∷ d ∷ e ∷ f ∷ g ∷ k ∷ []) in
    let h0 = h 0 in let h1 = h 1 in let h2 = h 2 in let h3 = h 3 in let h4 = h 4 in let h5 = h 5 in let h6 = h 6 in let h7 = h 7 in
    let low : n < 2 ^ 64 = omega arith in
    branch (nat_lt (length (a ∷ b ∷ c ∷ d ∷ e ∷ f ∷ g ∷ k ∷ bs)) 8) (λ _. nothing) (λ _. gives (cast_signed w64 n) (record {
      long = omega arith;
      same = sym (le_bytes_8 (a ∷ b ∷ c ∷ d ∷ e ∷ f ∷ g ∷ k ∷ []) n refl (small8 a b c d e f g k h0 h1 h2 h3 h4 h5 h6 h7) refl) ∙ ap (to_le_bytes w64) (sym (of_z-to_z w64 n low));
      fits = sfits_to_z (record { fits = low });
    }))

not_over : (x : ℕ) → nat_lt 63 x ≡ false → x < 64
not_over x e = grind (arith, nat_tests)

-- The first byte is the count.
record Count (bs : List ℕ) (x : ℕ) : Type 0 where
  pub long : 1 ≤ length bs
  pub same : take 1 bs ≡ x ∷ []
  pub small : x < 64

count_back : (bs : List ℕ) → OnAnswer (Count bs) (count_of bs)
count_back [] = nothing
count_back (x ∷ bs) =
    branch (nat_lt (length (x ∷ bs)) 1) (λ _. nothing) (λ _. branch (nat_lt 63 x) (λ _. nothing) (λ e. gives x (record { long = omega arith; same = refl; small = not_over x e })))

-- ---- operands
-- The first n bytes are what SIB is after ModRM with these low bits.
record Sib (low : ℕ) (bs : List ℕ) (n : ℕ) : Type 0 where
  pub within : n ≤ length bs
  pub same : take n bs ≡ cond (low == 4) (36 ∷ []) []

sib_back : (low : ℕ) (bs : List ℕ) → OnAnswer (Sib low bs) (sib_size low bs)
sib_back low [] = branch (low == 4) (λ _. nothing) (λ e. gives 0 (record { within = omega arith; same = ap (λ t. cond t (36 ∷ []) []) (sym e) }))
sib_back low (x ∷ bs) =
    branch (low == 4)
    (λ e. branch (nat_lt (length (x ∷ bs)) 1) (λ _. nothing) (λ _. branch (x == 36)
    (λ z. gives 1 (record { within = omega arith; same = ap (λ y. y ∷ []) (eqb-true x 36 z) ∙ ap (λ t. cond t (36 ∷ []) []) (sym e) }))
    (λ _. nothing)))
    (λ e. gives 0 (record { within = omega arith; same = ap (λ t. cond t (36 ∷ []) []) (sym e) }))

-- With ModRM before them, the first bytes are the operand, whatever the register of the form is.
record Read (mode low hi : ℕ) (bs : List ℕ) (p : Arg × ℕ) : Type 0 where
  pub within : p.1 ≤ length bs
  pub same : (r : ℕ) → (64 * mode + 8 * (r % 8) + low) ∷ take p.1 bs ≡ operand r p.0
  pub is : IsArg p.0
  pub high : high_bit p.0 ≡ hi

arg_back : (mode high low : ℕ) (bs : List ℕ) → mode < 4 → high < 2 → low < 8 → Bytes bs → OnAnswer (Read mode low high bs) (arg_of mode high low bs)
arg_back mode high low bs hm hh hl h =
    let b = 8 * high + low in
    let lo : low ≡ b % 8 = omega arith in
    let bb : b < 16 = omega arith in
    let hi : b / 8 ≡ high = omega arith in
    branch (mode == 3)
    (λ e. let m3 = eqb-true mode 3 e in gives (Reg b, 0) (record { within = omega arith; same = λ r. ap (λ x. x ∷ []) (omega arith); is = bb; high = hi }))
    (λ e3. branch (mode == 2)
    (λ e. let m2 = eqb-true mode 2 e in
    sequence (sib_size low bs) (λ n en. sequence (number_of_4 (drop n bs)) (λ d ed.
    let s = (sib_back low bs).by n en in
    let num = (number_of_4_back (drop n bs) (dropped n bs h)).by d ed in
    let len = length-drop n bs in
    let in1 = s.within in
    let in2 = num.long in
    let bytes : take (n + 4) bs ≡ sib b ++ four_bytes d =
    take-add n 4 bs ∙ ap (λ l. l ++ take 4 (drop n bs)) s.same ∙ ap (λ l. cond (low == 4) (36 ∷ []) [] ++ l) num.same ∙ ap (λ z. cond (z == 4) (36 ∷ []) [] ++ four_bytes d) lo in
    gives (Base32 b d, n + 4) (record {
      within = omega arith;
      same = λ r. let first : 64 * mode + 8 * (r % 8) + low ≡ modrm 2 r b = omega arith in ap (λ x. x ∷ take (n + 4) bs) first ∙ ap (λ l. modrm 2 r b ∷ l) bytes;
      is = (bb, num.fits);
      high = hi;
    }))))
    (λ e2. branch (mode == 1)
    (λ e. let m1 = eqb-true mode 1 e in
    sequence (sib_size low bs) (λ n en. sequence (number_of_1 (drop n bs)) (λ d ed.
    let s = (sib_back low bs).by n en in
    let num = (number_of_1_back (drop n bs) (dropped n bs h)).by d ed in
    let len = length-drop n bs in
    let in1 = s.within in
    let in2 = num.long in
    let bytes : take (n + 1) bs ≡ sib b ++ one_byte d =
    take-add n 1 bs ∙ ap (λ l. l ++ take 1 (drop n bs)) s.same ∙ ap (λ l. cond (low == 4) (36 ∷ []) [] ++ l) num.same ∙ ap (λ z. cond (z == 4) (36 ∷ []) [] ++ one_byte d) lo in
    gives (Base8 b d, n + 1) (record {
      within = omega arith;
      same = λ r. let first : 64 * mode + 8 * (r % 8) + low ≡ modrm 1 r b = omega arith in ap (λ x. x ∷ take (n + 1) bs) first ∙ ap (λ l. modrm 1 r b ∷ l) bytes;
      is = (bb, num.fits);
      high = hi;
    }))))
    (λ e1.
    let n3 = eqb-false mode 3 e3 in let n2 = eqb-false mode 2 e2 in let n1 = eqb-false mode 1 e1 in
    let m0 : mode ≡ 0 = omega arith in
    branch (low == 5)
    (λ e. let l5 = eqb-true low 5 e in branch (high == 0)
    (λ z. let h0 = eqb-true high 0 z in sequence (number_of_4 bs) (λ d ed.
    let num = (number_of_4_back bs h).by d ed in
    gives (Rip d, 4) (record {
      within = num.long;
      same = λ r. let first : 64 * mode + 8 * (r % 8) + low ≡ modrm 0 r 5 = omega arith in ap (λ x. x ∷ take 4 bs) first ∙ ap (λ l. modrm 0 r 5 ∷ l) num.same;
      is = num.fits;
      high = sym h0;
    })))
    (λ _. nothing))
    (λ e. let l5 = eqb-false low 5 e in sequence (sib_size low bs) (λ n en.
    let s = (sib_back low bs).by n en in
    let bytes : take n bs ≡ sib b = s.same ∙ ap (λ z. cond (z == 4) (36 ∷ []) []) lo in
    gives (Base b, n) (record {
      within = s.within;
      same = λ r. let first : 64 * mode + 8 * (r % 8) + low ≡ modrm 0 r b = omega arith in ap (λ x. x ∷ take n bs) first ∙ ap (λ l. modrm 0 r b ∷ l) bytes;
      is = (bb, omega arith);
      high = hi;
    }))))))

-- From ModRM on, the first bytes are the operand with the register, and REX has their high bits.
record Operand (r b : ℕ) (bs : List ℕ) (p : ℕ × Arg × ℕ) : Type 0 where
  pub within : p.2 ≤ length bs
  pub same : take p.2 bs ≡ operand p.0 p.1
  pub is : IsArg p.1
  pub high : high_bit p.1 ≡ b
  pub reg : p.0 / 8 ≡ r
  pub low : p.0 < 16

operand_back : (r b : ℕ) (bs : List ℕ) → r < 2 → b < 2 → Bytes bs → OnAnswer (Operand r b bs) (operand_of r b bs)
unfolding operand_of
operand_back r b [] hr hb h = nothing
operand_back r b (x ∷ bs) hr hb h =
    let small = h 0 in
    branch (nat_lt (length (x ∷ bs)) 1) (λ _. nothing) (λ _. sequence (arg_of (x / 64) b (x % 8) bs) (λ p ep.
    let mode : x / 64 < 4 = omega arith in
    let low : x % 8 < 8 = omega arith in
    let q = (arg_back (x / 64) b (x % 8) bs mode hb low (behind x bs h)).by p ep in
    let reg = 8 * r + x / 8 % 8 in
    let first : x ≡ 64 * (x / 64) + 8 * (reg % 8) + x % 8 = omega arith in
    let in1 = q.within in
    gives (reg, p.0, p.1 + 1) (record {
      within = omega arith;
      same = take_1 p.1 x bs ∙ ap (λ z. z ∷ take p.1 bs) first ∙ q.same reg;
      is = q.is;
      high = q.high;
      reg = omega arith;
      low = omega arith;
    })))

-- ---- forms with W
-- The instruction is spelled by W, this opcode, the operand, and these bytes at its end.
record Ended (op r : ℕ) (m : Arg) (tail : List ℕ) (i : Insn) : Type 0 where
  pub same : spelling i ≡ wide op r m ++ tail
  pub is : IsValid i

-- The kinds of rows: the register field is a digit of the opcode; nothing stands at the end; both.
digit : (i : Insn) (op d r : ℕ) (m : Arg) (tail : List ℕ) → spelling i ≡ wide op d m ++ tail → IsValid i → (r == d) ≡ true → OnAnswer (Ended op r m tail) (Some i)
digit i op d r m tail e v t = gives i (record { same = e ∙ ap (λ n. wide op n m ++ tail) (sym (eqb-true r d t)); is = v })

plain : (i : Insn) (o op r : ℕ) (m : Arg) → spelling i ≡ wide o r m → IsValid i → (op == o) ≡ true → OnAnswer (Ended op r m []) (Some i)
plain i o op r m e v t = gives i (record { same = e ∙ ap (λ z. wide z r m) (sym (eqb-true op o t)) ∙ sym (append-nil (wide op r m)); is = v })

plain_digit : (i : Insn) (o d op r : ℕ) (m : Arg) → spelling i ≡ wide o d m → IsValid i → ((op == o) ≡ true) × ((r == d) ≡ true) → OnAnswer (Ended op r m []) (Some i)
plain_digit i o d op r m e v t = plain i o op r m (e ∙ ap (λ n. wide o n m) (sym (eqb-true r d t.1))) v t.0

-- One line for each row.
form_of_4_back : (r : ℕ) (m : Arg) (n : ℤ) → IsArg m → FitsSigned w32 n → OnAnswer (Ended 129 r m (four_bytes n)) (number_form_of_4 r m n)
form_of_4_back r m n hm fits =
    branch (r == 0) (digit (AddNumber m n) 129 0 r m (four_bytes n) refl (hm, fits)) (λ _.
    branch (r == 1) (digit (OrNumber m n) 129 1 r m (four_bytes n) refl (hm, fits)) (λ _.
    branch (r == 4) (digit (AndNumber m n) 129 4 r m (four_bytes n) refl (hm, fits)) (λ _.
    branch (r == 5) (digit (SubNumber m n) 129 5 r m (four_bytes n) refl (hm, fits)) (λ _.
    branch (r == 6) (digit (XorNumber m n) 129 6 r m (four_bytes n) refl (hm, fits)) (λ _.
    branch (r == 7) (digit (CmpNumber m n) 129 7 r m (four_bytes n) refl (hm, fits)) (λ _. nothing))))))

form_of_1_back : (r : ℕ) (m : Arg) (n : ℤ) → IsArg m → FitsSigned w8 n → OnAnswer (Ended 131 r m (one_byte n)) (number_form_of_1 r m n)
form_of_1_back r m n hm fits =
    branch (r == 0) (digit (AddNumber8 m n) 131 0 r m (one_byte n) refl (hm, fits)) (λ _.
    branch (r == 1) (digit (OrNumber8 m n) 131 1 r m (one_byte n) refl (hm, fits)) (λ _.
    branch (r == 4) (digit (AndNumber8 m n) 131 4 r m (one_byte n) refl (hm, fits)) (λ _.
    branch (r == 5) (digit (SubNumber8 m n) 131 5 r m (one_byte n) refl (hm, fits)) (λ _.
    branch (r == 6) (digit (XorNumber8 m n) 131 6 r m (one_byte n) refl (hm, fits)) (λ _.
    branch (r == 7) (digit (CmpNumber8 m n) 131 7 r m (one_byte n) refl (hm, fits)) (λ _. nothing))))))

shift_form_back : (r : ℕ) (m : Arg) (x : ℕ) → IsArg m → x < 64 → OnAnswer (Ended 193 r m (x ∷ [])) (shift_form r m x)
shift_form_back r m x hm small =
    branch (r == 4) (digit (Shl m x) 193 4 r m (x ∷ []) refl (hm, small)) (λ _.
    branch (r == 5) (digit (Shr m x) 193 5 r m (x ∷ []) refl (hm, small)) (λ _.
    branch (r == 7) (digit (Sar m x) 193 7 r m (x ∷ []) refl (hm, small)) (λ _. nothing)))

plain_form_back : (op r : ℕ) (m : Arg) → IsArg m → r < 16 → OnAnswer (Ended op r m []) (plain_form op r m)
plain_form_back op r m hm hr =
    branch (op == 1) (plain (AddTo m r) 1 op r m refl (hm, hr)) (λ _.
    branch (op == 3) (plain (AddFrom r m) 3 op r m refl (hm, hr)) (λ _.
    branch (op == 9) (plain (OrTo m r) 9 op r m refl (hm, hr)) (λ _.
    branch (op == 11) (plain (OrFrom r m) 11 op r m refl (hm, hr)) (λ _.
    branch (op == 33) (plain (AndTo m r) 33 op r m refl (hm, hr)) (λ _.
    branch (op == 35) (plain (AndFrom r m) 35 op r m refl (hm, hr)) (λ _.
    branch (op == 41) (plain (SubTo m r) 41 op r m refl (hm, hr)) (λ _.
    branch (op == 43) (plain (SubFrom r m) 43 op r m refl (hm, hr)) (λ _.
    branch (op == 49) (plain (XorTo m r) 49 op r m refl (hm, hr)) (λ _.
    branch (op == 51) (plain (XorFrom r m) 51 op r m refl (hm, hr)) (λ _.
    branch (op == 57) (plain (CmpTo m r) 57 op r m refl (hm, hr)) (λ _.
    branch (op == 59) (plain (CmpFrom r m) 59 op r m refl (hm, hr)) (λ _.
    branch (op == 133) (plain (TestTo m r) 133 op r m refl (hm, hr)) (λ _.
    branch (op == 137) (plain (MovTo m r) 137 op r m refl (hm, hr)) (λ _.
    branch (op == 139) (plain (MovFrom r m) 139 op r m refl (hm, hr)) (λ _.
    branch ((op == 141) && in_memory m) (λ e. let t = and_parts (op == 141) (in_memory m) e in plain (Lea r m) 141 op r m refl (hm, hr, t.1) t.0) (λ _.
    branch ((op == 247) && (r == 3)) (λ e. plain_digit (Neg m) 247 3 op r m refl hm (and_parts (op == 247) (r == 3) e)) (λ _.
    branch ((op == 247) && (r == 7)) (λ e. plain_digit (Idiv m) 247 7 op r m refl hm (and_parts (op == 247) (r == 7) e)) (λ _. nothing))))))))))))))))))

-- Behind the operand, `size` bytes make up the spelling of an instruction with W.
record Form (op r : ℕ) (m : Arg) (k : ℕ) (bs : List ℕ) (p : Insn × ℕ) : Type 0 where
  pub size : ℕ
  pub total : p.1 ≡ k + size
  pub within : size ≤ length bs
  pub same : spelling p.0 ≡ rex 1 r m ∷ op ∷ (operand r m ++ take size bs)
  pub is : IsValid p.0

module _ (r : ℕ) (m : Arg) (k : ℕ) (bs : List ℕ) where
  ended : (op size n : ℕ) (tail : List ℕ) (o : Option Insn) → n ≡ k + size → size ≤ length bs → take size bs ≡ tail → OnAnswer (Ended op r m tail) o
      → OnAnswer (Form op r m k bs) (when_some o (λ i. Some (i, n)))
  ended op size n tail o total long same back = sequence o (λ i ei.
      let f = back.by i ei in
      gives (i, n) (record { size = size; total = total; within = long; same = f.same ∙ ap (λ l. wide op r m ++ l) (sym same); is = f.is }))

  numbered : (op size : ℕ) (bytes_of : ℤ → List ℕ) (Fits : ℤ → Type 0) (form : ℤ → Option Insn) (read : Option ℤ) → OnAnswer (Number size bytes_of Fits bs) read
      → ((n : ℤ) → Fits n → OnAnswer (Ended op r m (bytes_of n)) (form n)) → OnAnswer (Form op r m k bs) (when_some read (λ n. when_some (form n) (λ i. Some (i, k + size))))
  numbered op size bytes_of Fits form read back forms = sequence read (λ n en.
      let num = back.by n en in ended op size (k + size) (bytes_of n) (form n) refl num.long num.same (forms n num.fits))

  shifted : IsArg m → OnAnswer (Form 193 r m k bs) (with_count (shift_form r m) k bs)
  shifted hm = sequence (count_of bs) (λ x ex.
      let n = (count_back bs).by x ex in ended 193 1 (k + 1) (x ∷ []) (shift_form r m x) refl n.long n.same (shift_form_back r m x hm n.small))

  moved : IsArg m → Bytes bs → OnAnswer (Form 199 r m k bs) (mov_number_of r m k bs)
  moved hm h = branch (r == 0) (λ e. numbered 199 4 four_bytes (FitsSigned w32) (λ n. Some (MovNumber m n)) (number_of_4 bs) (number_of_4_back bs h)
      (λ n fits. digit (MovNumber m n) 199 0 r m (four_bytes n) refl (hm, fits) e)) (λ _. nothing)

  -- a row is chosen by its opcode
  chosen : (op o : ℕ) (answer : Option (Insn × ℕ)) → OnAnswer (Form o r m k bs) answer → (op == o) ≡ true → OnAnswer (Form op r m k bs) answer
  chosen op o answer f e = subst (λ z. OnAnswer (Form z r m k bs) answer) (sym (eqb-true op o e)) f

  wide_back : (op : ℕ) → IsArg m → r < 16 → Bytes bs → OnAnswer (Form op r m k bs) (wide_of op r m k bs)
  unfolding wide_of
  wide_back op hm hr h =
      branch (op == 129) (chosen op 129 _ (numbered 129 4 four_bytes (FitsSigned w32) (number_form_of_4 r m) (number_of_4 bs) (number_of_4_back bs h) (λ n. form_of_4_back r m n hm))) (λ _.
      branch (op == 131) (chosen op 131 _ (numbered 131 1 one_byte (FitsSigned w8) (number_form_of_1 r m) (number_of_1 bs) (number_of_1_back bs h) (λ n. form_of_1_back r m n hm))) (λ _.
      branch (op == 193) (chosen op 193 _ (shifted hm)) (λ _.
      branch (op == 199) (chosen op 199 _ (moved hm h)) (λ _.
      ended op 0 k [] (plain_form op r m) (omega arith) (omega arith) refl (plain_form_back op r m hm hr)))))

-- ---- whole instructions
-- The first bytes are the spelling of an instruction that there is.
pub record Spelt (bs : List ℕ) (p : Insn × ℕ) : Type 0 where
  pub within : p.1 ≤ length bs
  pub same : take p.1 bs ≡ spelling p.0
  pub is : IsValid p.0

-- REX as it was read
rex_was : (w r b reg : ℕ) (m : Arg) → reg / 8 ≡ r → high_bit m ≡ b → 64 + 8 * w + 4 * r + b ≡ rex w reg m
rex_was w r b reg m e f = omega (arith, e, f)

narrow_back : (op r b : ℕ) (bs : List ℕ) → r < 2 → b < 2 → Bytes bs → OnAnswer (Spelt ((64 + 8 * 0 + 4 * r + b) ∷ op ∷ bs)) (narrow_of op r b bs)
unfolding narrow_of
narrow_back op r b bs hr hb h = sequence (operand_of r b bs) (λ p ep.
    let q = (operand_back r b bs hr hb h).by p ep in
    let in1 = q.within in
    let first = rex_was 0 r b p.0 p.1 q.reg q.high in
    branch ((op == 136) && in_memory p.1)
    (λ e. let t = and_parts (op == 136) (in_memory p.1) e in
    gives (StoreByte p.1 p.0, p.2 + 2) (record {
      within = omega arith;
      same = take_2 p.2 (64 + 8 * 0 + 4 * r + b) op bs ∙ ap (λ z. z ∷ op ∷ take p.2 bs) first ∙ ap (λ z. rex 0 p.0 p.1 ∷ z ∷ take p.2 bs) (eqb-true op 136 t.0)
          ∙ ap (λ l. rex 0 p.0 p.1 ∷ 136 ∷ l) q.same;
      is = (q.is, q.low, t.1);
    }))
    (λ _. branch ((op == 255) && (p.0 == 4))
    (λ e. let t = and_parts (op == 255) (p.0 == 4) e in
    gives (JumpTo p.1, p.2 + 2) (record {
      within = omega arith;
      same = take_2 p.2 (64 + 8 * 0 + 4 * r + b) op bs ∙ ap (λ z. z ∷ op ∷ take p.2 bs) first ∙ ap (λ z. rex 0 p.0 p.1 ∷ z ∷ take p.2 bs) (eqb-true op 255 t.0)
          ∙ ap (λ l. rex 0 p.0 p.1 ∷ 255 ∷ l) q.same ∙ ap (λ z. rex 0 z p.1 ∷ 255 ∷ operand z p.1) (eqb-true p.0 4 t.1);
      is = q.is;
    }))
    (λ _. nothing)))

long_back : (r b : ℕ) (bs : List ℕ) → r < 2 → b < 2 → Bytes bs → OnAnswer (Spelt ((64 + 8 * 1 + 4 * r + b) ∷ 15 ∷ bs)) (long_of r b bs)
unfolding long_of
long_back r b [] hr hb h = nothing
long_back r b (x ∷ bs) hr hb h = branch (nat_lt (length (x ∷ bs)) 1) (λ _. nothing) (λ _. sequence (operand_of r b bs) (λ p ep.
    let q = (operand_back r b bs hr hb (behind x bs h)).by p ep in
    let in1 = q.within in
    let first = rex_was 1 r b p.0 p.1 q.reg q.high in
    branch ((x == 182) && in_memory p.1)
    (λ e. let t = and_parts (x == 182) (in_memory p.1) e in
    gives (LoadByte p.0 p.1, p.2 + 3) (record {
      within = omega arith;
      same = take_3 p.2 (64 + 8 * 1 + 4 * r + b) 15 x bs ∙ ap (λ z. z ∷ 15 ∷ x ∷ take p.2 bs) first ∙ ap (λ z. rex 1 p.0 p.1 ∷ 15 ∷ z ∷ take p.2 bs) (eqb-true x 182 t.0)
          ∙ ap (λ l. rex 1 p.0 p.1 ∷ 15 ∷ 182 ∷ l) q.same;
      is = (q.is, q.low, t.1);
    }))
    (λ _. branch (x == 175)
    (λ e. gives (Imul p.0 p.1, p.2 + 3) (record {
      within = omega arith;
      same = take_3 p.2 (64 + 8 * 1 + 4 * r + b) 15 x bs ∙ ap (λ z. z ∷ 15 ∷ x ∷ take p.2 bs) first ∙ ap (λ z. rex 1 p.0 p.1 ∷ 15 ∷ z ∷ take p.2 bs) (eqb-true x 175 e)
          ∙ ap (λ l. rex 1 p.0 p.1 ∷ 15 ∷ 175 ∷ l) q.same;
      is = (q.is, q.low);
    }))
    (λ _. nothing))))

rexed_back : (w r b : ℕ) (bs : List ℕ) → w < 2 → r < 2 → b < 2 → Bytes bs → OnAnswer (Spelt ((64 + 8 * w + 4 * r + b) ∷ bs)) (rexed_of w r b bs)
unfolding rexed_of
rexed_back w r b [] hw hr hb h = nothing
rexed_back w r b (op ∷ bs) hw hr hb h =
    let all = behind op bs h in
    branch (nat_lt (length (op ∷ bs)) 1) (λ _. nothing) (λ _. branch (w == 0)
    (λ e. let z : 0 ≡ w = sym (eqb-true w 0 e) in subst (λ w. OnAnswer (Spelt ((64 + 8 * w + 4 * r + b) ∷ op ∷ bs)) (narrow_of op r b bs)) z (narrow_back op r b bs hr hb all))
    (λ e0. let n0 = eqb-false w 0 e0 in let one : 1 ≡ w = omega arith in
    subst (λ w. OnAnswer (Spelt ((64 + 8 * w + 4 * r + b) ∷ op ∷ bs)) (full_of r b (op ∷ bs))) one (
    branch (op / 8 == 23)
    (λ e. let o = eqb-true (op / 8) 23 e in branch (r == 0)
    (λ z. let r0 = eqb-true r 0 z in sequence (number_of_8 bs) (λ n en.
    let num = (number_of_8_back bs all).by n en in
    let in1 = num.long in
    let reg = 8 * b + op % 8 in
    let x0 : 64 + 8 * 1 + 4 * r + b ≡ 72 + reg / 8 = omega arith in
    let x1 : op ≡ 184 + reg % 8 = omega arith in
    gives (MovWord reg n, 10) (record {
      within = omega arith;
      same = ap (λ z. z ∷ op ∷ take 8 bs) x0 ∙ ap (λ z. (72 + reg / 8) ∷ z ∷ take 8 bs) x1 ∙ ap (λ l. (72 + reg / 8) ∷ (184 + reg % 8) ∷ l) num.same;
      is = (omega arith, num.fits);
    })))
    (λ _. nothing))
    (λ _. branch (op == 153)
    (λ e. branch ((r == 0) && (b == 0))
    (λ z. let t = and_parts (r == 0) (b == 0) z in
    let r0 = eqb-true r 0 t.0 in let b0 = eqb-true b 0 t.1 in
    let x0 : 64 + 8 * 1 + 4 * r + b ≡ 72 = omega arith in
    gives (Cqo, 2) (record { within = omega arith; same = ap (λ z. z ∷ op ∷ []) x0 ∙ ap (λ z. 72 ∷ z ∷ []) (eqb-true op 153 e); is = tt }))
    (λ _. nothing))
    (λ _. branch (op == 15)
    (λ e. let o : 15 ≡ op = sym (eqb-true op 15 e) in subst (λ z. OnAnswer (Spelt ((64 + 8 * 1 + 4 * r + b) ∷ z ∷ bs)) (long_of r b bs)) o (long_back r b bs hr hb all))
    (λ _. sequence (operand_of r b bs) (λ p ep.
    let q = (operand_back r b bs hr hb all).by p ep in
    let first = rex_was 1 r b p.0 p.1 q.reg q.high in
    let more = drop (p.2 + 1) (op ∷ bs) in
    let was = drop_1 p.2 op bs in
    record {
      by = λ v ev.
          let f = (wide_back p.0 p.1 (p.2 + 2) more op q.is q.low (dropped (p.2 + 1) (op ∷ bs) h)).by v ev in
          let in1 = q.within in
          let in2 = f.within in
          let len = length-drop (p.2 + 1) (op ∷ bs) in
          let tot : v.1 ≡ p.2 + f.size + 2 = omega (arith, f.total) in
          record {
            within = omega (arith, tot);
            same = ap (λ n. take n ((64 + 8 * 1 + 4 * r + b) ∷ op ∷ bs)) tot
                ∙ take_2 (p.2 + f.size) (64 + 8 * 1 + 4 * r + b) op bs
                ∙ ap (λ z. z ∷ op ∷ take (p.2 + f.size) bs) first
                ∙ ap (λ l. rex 1 p.0 p.1 ∷ op ∷ l) (take-add p.2 f.size bs)
                ∙ ap (λ l. rex 1 p.0 p.1 ∷ op ∷ (take p.2 bs ++ take f.size l)) (sym was)
                ∙ ap (λ l. rex 1 p.0 p.1 ∷ op ∷ (l ++ take f.size more)) q.same
                ∙ sym f.same;
            is = f.is;
          };
    })))))))

-- The opcode of a jump with a condition has the condition's number.
jump_op_back : (high op : ℕ) → is_jump_if high op ≡ true → (op ≡ 16 * high + op % 16) × IsCondition (op % 16)
jump_op_back high op e =
    let t = and_parts ((op / 16 == high) && not (op % 16 == 10)) (not (op % 16 == 11)) e in
    let s = and_parts (op / 16 == high) (not (op % 16 == 10)) t.0 in
    let top = eqb-true (op / 16) high s.0 in
    let whole : op ≡ 16 * high + op % 16 = omega arith in
    let small : op % 16 < 16 = omega arith in
    (whole, (small, eqb-false (op % 16) 10 (not_true (op % 16 == 10) s.1), eqb-false (op % 16) 11 (not_true (op % 16 == 11) t.1)))

escaped_back : (bs : List ℕ) → Bytes bs → OnAnswer (Spelt (15 ∷ bs)) (escaped_of bs)
unfolding escaped_of
escaped_back [] h = nothing
escaped_back (x ∷ bs) h =
    let all = behind x bs h in
    branch (nat_lt (length (x ∷ bs)) 1) (λ _. nothing) (λ _. branch (x == 5)
    (λ e. gives (Syscall, 2) (record { within = omega arith; same = ap (λ z. 15 ∷ z ∷ []) (eqb-true x 5 e); is = tt }))
    (λ _. branch (is_jump_if 8 x)
    (λ e. sequence (number_of_4 bs) (λ d ed.
    let num = (number_of_4_back bs all).by d ed in
    let in1 = num.long in
    let jump = jump_op_back 8 x e in
    gives (JumpIf (x % 16) d, 2 + 4) (record {
      within = omega arith;
      same = ap (λ z. 15 ∷ z ∷ take 4 bs) jump.0 ∙ ap (λ l. 15 ∷ (128 + x % 16) ∷ l) num.same;
      is = (jump.1, num.fits);
    })))
    (λ _. nothing)))

pub decode_back : (bs : List ℕ) → Bytes bs → OnAnswer (Spelt bs) (decode bs)
decode_back [] h = nothing
decode_back (x ∷ bs) h =
    let all = behind x bs h in
    let small = h 0 in
    branch (nat_lt (length (x ∷ bs)) 1) (λ _. nothing) (λ _. branch ((x / 16 == 4) && (x / 2 % 2 == 0))
    (λ e. let t = and_parts (x / 16 == 4) (x / 2 % 2 == 0) e in
    let a = eqb-true (x / 16) 4 t.0 in
    let b = eqb-true (x / 2 % 2) 0 t.1 in
    let first : 64 + 8 * (x / 8 % 2) + 4 * (x / 4 % 2) + x % 2 ≡ x = omega arith in
    subst (λ z. OnAnswer (Spelt (z ∷ bs)) (rexed_of (x / 8 % 2) (x / 4 % 2) (x % 2) bs)) first (rexed_back (x / 8 % 2) (x / 4 % 2) (x % 2) bs (omega arith) (omega arith) (omega arith) all))
    (λ _. branch (x == 15)
    (λ e. let o : 15 ≡ x = sym (eqb-true x 15 e) in subst (λ z. OnAnswer (Spelt (z ∷ bs)) (escaped_of bs)) o (escaped_back bs all))
    (λ _. branch (x == 233)
    (λ e. sequence (number_of_4 bs) (λ d ed.
    let num = (number_of_4_back bs all).by d ed in
    let in1 = num.long in
    gives (Jump d, 1 + 4) (record { within = omega arith; same = ap (λ z. z ∷ take 4 bs) (eqb-true x 233 e) ∙ ap (λ l. 233 ∷ l) num.same; is = num.fits })))
    (λ _. branch (x == 235)
    (λ e. sequence (number_of_1 bs) (λ d ed.
    let num = (number_of_1_back bs all).by d ed in
    let in1 = num.long in
    gives (Jump8 d, 1 + 1) (record { within = omega arith; same = ap (λ z. z ∷ take 1 bs) (eqb-true x 235 e) ∙ ap (λ l. 235 ∷ l) num.same; is = num.fits })))
    (λ _. branch (is_jump_if 7 x)
    (λ e. sequence (number_of_1 bs) (λ d ed.
    let num = (number_of_1_back bs all).by d ed in
    let in1 = num.long in
    let jump = jump_op_back 7 x e in
    gives (JumpIf8 (x % 16) d, 1 + 1) (record { within = omega arith; same = ap (λ z. z ∷ take 1 bs) jump.0 ∙ ap (λ l. (112 + x % 16) ∷ l) num.same; is = (jump.1, num.fits) })))
    (λ _. nothing))))))
