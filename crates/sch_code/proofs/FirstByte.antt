-- What is read is chosen by the first byte.
use Rattle.std.proofs.Common.{◌≡◌, ◌≢◌, ℕ, ◌+◌, ◌*◌, ◌/◌, ◌%◌, List, length, get_or, drop, true, false, ◌==◌, Option, Some, None, arith}
use Rattle.std.proofs.lemmas.Bool.{eqb-true, eqb-false, eq-eqb, ne_eqb, lt-ltb, le-ltb}
use Rattle.std.specs.Prelude.{nat_lt}
use Rattle.sch_insn.specs.declared.insn.Arg.{Arg}
use Rattle.sch_insn.specs.declared.insn.Insn.{Insn}
use Rattle.sch_insn.specs.declared.insn.Insn.TheVariants.{LoadByte, Imul}
use Rattle.sch_insn.specs.Spelling.{in_memory}
use Rattle.sch_insn.specs.Decode.{decode, escaped_of, full_of, long_of, narrow_of, operand_of, rexed_of, whole_word_of, wide_of, is_rex, jump_of, without_operand_of}

abbrev long_answer : Insn → ℕ → Option (Insn × ℕ)
long_answer i size = Some (i, size + 3)

module _ (bs : List ℕ) where
  some_byte : (length bs == 0) ≡ false → nat_lt (length bs) 1 ≡ false
  some_byte e = let h = eqb-false (length bs) 0 e in le-ltb (length bs) 1 (omega arith)

  no_byte : (length bs == 0) ≡ true → nat_lt (length bs) 1 ≡ true
  no_byte e = let h = eqb-true (length bs) 0 e in lt-ltb (length bs) 1 (omega arith)

  -- nothing is there
  pub read_nothing : (length bs == 0) ≡ true → None ≡ decode bs
  read_nothing e = let h = no_byte e in rw h

  pub rexed_nothing : (w r b : ℕ) → (length bs == 0) ≡ true → None ≡ rexed_of w r b bs
  unfolding rexed_of
  rexed_nothing w r b e = let h = no_byte e in rw h

  module _ (first : ℕ) (rest : List ℕ) (here : get_or bs 0 0 ≡ first) (behind : drop 1 bs ≡ rest) where
    -- the first byte of an instruction
    pub read_rexed : (length bs == 0) ≡ false → is_rex first ≡ true → rexed_of (first / 8 % 2) (first / 4 % 2) (first % 2) rest ≡ decode bs
    read_rexed e f = let h = some_byte e in rw (h, here, behind, f)

    pub read_escaped : (length bs == 0) ≡ false → is_rex first ≡ false → first ≡ 0x0F → escaped_of rest ≡ decode bs
    read_escaped e f g = let h = some_byte e in let i = eq-eqb first 0x0F g in rw (h, here, behind, f, i)

    pub read_jump : (length bs == 0) ≡ false → is_rex first ≡ false → first ≢ 0x0F → jump_of first rest ≡ decode bs
    read_jump e f g = let h = some_byte e in let i = ne_eqb first 0x0F g in rw (h, here, behind, f, i)

    -- the opcode behind REX
    pub rexed_narrow : (w r b : ℕ) → (length bs == 0) ≡ false → w ≡ 0 → narrow_of first r b rest ≡ rexed_of w r b bs
    unfolding rexed_of
    rexed_narrow w r b e f = let h = some_byte e in let i = eq-eqb w 0 f in rw (h, here, behind, i)

    -- the opcode behind REX with W
    pub full_whole_word : (r b : ℕ) → first / 8 ≡ 23 → whole_word_of r (8 * b + first % 8) rest ≡ full_of r b bs
    full_whole_word r b f = let i = eq-eqb (first / 8) 23 f in rw (here, behind, i)

    pub full_without_operand : (r b : ℕ) → first / 8 ≢ 23 → first ≡ 0x99 → without_operand_of r b ≡ full_of r b bs
    full_without_operand r b f g = let i = ne_eqb (first / 8) 23 f in let j = eq-eqb first 0x99 g in rw (here, i, j)

    pub full_long : (r b : ℕ) → first / 8 ≢ 23 → first ≢ 0x99 → first ≡ 0x0F → long_of r b rest ≡ full_of r b bs
    full_long r b f g h = let i = ne_eqb (first / 8) 23 f in let j = ne_eqb first 0x99 g in let k = eq-eqb first 0x0F h in rw (here, behind, i, j, k)

    pub full_wide : (r b reg size : ℕ) (m : Arg) → first / 8 ≢ 23 → first ≢ 0x99 → first ≢ 0x0F → operand_of r b rest ≡ Some (reg, m, size) →
        wide_of first reg m (size + 2) (drop (size + 1) bs) ≡ full_of r b bs
    full_wide r b reg size m f g h o =
        let i = ne_eqb (first / 8) 23 f in let j = ne_eqb first 0x99 g in let k = ne_eqb first 0x0F h in rw (here, behind, i, j, k, o)

    pub full_nothing : (r b : ℕ) → first / 8 ≢ 23 → first ≢ 0x99 → first ≢ 0x0F → operand_of r b rest ≡ None → None ≡ full_of r b bs
    full_nothing r b f g h o = let i = ne_eqb (first / 8) 23 f in let j = ne_eqb first 0x99 g in let k = ne_eqb first 0x0F h in rw (here, behind, i, j, k, o)

    -- the opcode behind 0F
    pub long_nothing : (r b : ℕ) → (length bs == 0) ≡ false → operand_of r b rest ≡ None → None ≡ long_of r b bs
    unfolding long_of
    long_nothing r b e o = let h = some_byte e in rw (h, behind, o)

    pub long_load : (r b reg size : ℕ) (m : Arg) → (length bs == 0) ≡ false → operand_of r b rest ≡ Some (reg, m, size) → first ≡ 0xB6 → in_memory m ≡ true → long_answer (LoadByte reg m) size ≡ long_of r b bs
    unfolding long_of
    long_load r b reg size m e o f g = let h = some_byte e in let i = eq-eqb first 0xB6 f in rw (h, here, behind, o, i, g)

    pub long_in_register : (r b reg size : ℕ) (m : Arg) → (length bs == 0) ≡ false → operand_of r b rest ≡ Some (reg, m, size) → first ≡ 0xB6 → in_memory m ≡ false → None ≡ long_of r b bs
    unfolding long_of
    long_in_register r b reg size m e o f g =
        let h = some_byte e in let i = eq-eqb first 0xB6 f in let k : (first == 0xAF) ≡ false = ne_eqb first 0xAF (omega arith) in rw (h, here, behind, o, i, g, k)

    pub long_imul : (r b reg size : ℕ) (m : Arg) → (length bs == 0) ≡ false → operand_of r b rest ≡ Some (reg, m, size) → first ≡ 0xAF → long_answer (Imul reg m) size ≡ long_of r b bs
    unfolding long_of
    long_imul r b reg size m e o f = let h = some_byte e in let i = eq-eqb first 0xAF f in let k : (first == 0xB6) ≡ false = ne_eqb first 0xB6 (omega arith) in rw (h, here, behind, o, i, k)

  pub rexed_full : (w r b : ℕ) → (length bs == 0) ≡ false → w ≢ 0 → full_of r b bs ≡ rexed_of w r b bs
  unfolding rexed_of
  rexed_full w r b e f = let h = some_byte e in let i = ne_eqb w 0 f in rw (h, i)
