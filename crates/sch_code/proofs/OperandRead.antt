-- The register of the form and the operand, as they are read.
use Rattle.std.proofs.Common.{◌≡◌, ℕ, ◌+◌, ◌-◌, ◌*◌, ◌/◌, ◌%◌, ◌<◌, ◌≤◌, List, length, get_or, drop, take, true, false, ◌==◌, Option, Some, None, sym, ap, ◌∙◌, arith, length-drop}
use Rattle.std.proofs.lemmas.Bool.{eqb-false, eqb-true, le-ltb, lt-ltb}
use Rattle.std.proofs.lemmas.List.{take_rest}
use Rattle.sch_insn.specs.declared.insn.Arg.{Arg}
use Rattle.sch_insn.specs.Decode.{arg_of, operand_of}

module _ (bs : List ℕ) (some : (length bs == 0) ≡ false) where
  pub within : (n : ℕ) → (n ≤ length (take (length bs - 1) (drop 1 bs))) × (n < 7) → (n + 1 ≤ length bs) × (n + 1 < 8)
  within n h = let a = ap length (take_rest bs 1) in let b = length-drop 1 bs in let d = eqb-false (length bs) 0 some in (omega (arith, a, b, h.0), omega (arith, h.1))

  pub value : (r b n : ℕ) (m : Arg) → Some (m, n) ≡ arg_of (get_or bs 0 0 / 64) b (get_or bs 0 0 % 8) (take (length bs - 1) (drop 1 bs)) →
      ◌≡◌ {A = Option (ℕ × Arg × ℕ)} (Some (8 * r + get_or bs 0 0 / 8 % 8, m, n + 1)) (operand_of r b bs)
  unfolding operand_of
  value r b n m e =
      let d = eqb-false (length bs) 0 some in
      let long = le-ltb (length bs) 1 (omega arith) in
      let read = sym (e ∙ ap (arg_of (get_or bs 0 0 / 64) b (get_or bs 0 0 % 8)) (take_rest bs 1)) in
      rw (long, read)

  pub nothing : (r b : ℕ) → None ≡ arg_of (get_or bs 0 0 / 64) b (get_or bs 0 0 % 8) (take (length bs - 1) (drop 1 bs)) → None ≡ operand_of r b bs
  unfolding operand_of
  nothing r b e =
      let d = eqb-false (length bs) 0 some in
      let long = le-ltb (length bs) 1 (omega arith) in
      let read = sym (e ∙ ap (arg_of (get_or bs 0 0 / 64) b (get_or bs 0 0 % 8)) (take_rest bs 1)) in
      rw (long, read)

pub no_byte : (bs : List ℕ) → (length bs == 0) ≡ true → (r b : ℕ) → None ≡ operand_of r b bs
unfolding operand_of
no_byte bs e r b = let d = eqb-true (length bs) 0 e in let short = lt-ltb (length bs) 1 (omega arith) in rw short
