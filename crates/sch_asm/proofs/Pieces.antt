-- Pieces of the data: where words and bytes are written beside them, their parts, and what the kernel reads.
use Rattle.std.proofs.Common.{◌≡◌, ℕ, ◌+◌, ◌-◌, ◌<◌, ◌≤◌, List, [], ◌∷◌, ◌++◌, length, take, drop, Option, Some, None, cond, sym, ap, ◌∙◌, subst, arith, append_assoc, length-drop}
use Rattle.std.proofs.lemmas.List.{drop-drop, drop-append-le, take-append-drop, length-take-le}
use Rattle.std.proofs.Math.Seq.{take-append_seam}
use Rattle.sch_word.specs.runs.ProgramLayout.{data_address}
use Rattle.sch_insn.specs.Machine.{bytes_from}
use Rattle.sch_asm.specs.Stands.{Setting}
use Rattle.sch_asm.specs.Data.{data_at, with_word, Inside, PieceAt}
use Rattle.sch_asm.proofs.Words.{memory, not_text, in_data, size_kept, behind_word, before_word}

-- where the bytes from its address on stay
pub piece_same : (bytes bytes' : List ℕ) (a : ℕ) (piece : List ℕ) → PieceAt bytes a piece → length bytes' ≡ length bytes → drop (a - data_address) bytes' ≡ drop (a - data_address) bytes → PieceAt bytes' a piece
piece_same bytes bytes' a piece at e f = record { rest = at.rest; is = f ∙ at.is; low = at.low; high = subst (λ s. a + length piece ≤ data_address + s) (sym e) at.high }

-- where a word before it is written
pub piece_behind : (bytes : List ℕ) (a : ℕ) (piece : List ℕ) (b v : ℕ) → PieceAt bytes a piece → b + 8 ≤ a → Inside (length bytes) b → PieceAt (with_word bytes b v) a piece
piece_behind bytes a piece b v at le within = piece_same bytes (with_word bytes b v) a piece at (size_kept bytes b v within) (behind_word bytes b v (a - data_address) within (omega (arith, at.low, le)))

-- where a word behind it is written
pub piece_before : (bytes : List ℕ) (a : ℕ) (piece : List ℕ) (b v : ℕ) → PieceAt bytes a piece → a + length piece ≤ b → Inside (length bytes) b → PieceAt (with_word bytes b v) a piece
piece_before bytes a piece b v at le within =
    let n = length piece in
    let new = drop (a - data_address) (with_word bytes b v) in
    let low = at.low in
    let first : take n new ≡ piece = before_word bytes b v (a - data_address) n within (omega arith) ∙ ap (take n) at.is ∙ take-append_seam piece at.rest in
    record {
      rest = drop n new;
      is = sym (take-append-drop n new) ∙ ap (λ l. l ++ drop n new) first;
      low = at.low;
      high = subst (λ s. a + n ≤ data_address + s) (sym (size_kept bytes b v within)) at.high;
    }

-- a part of it
pub piece_part : (bytes : List ℕ) (a : ℕ) (piece : List ℕ) (k n : ℕ) → PieceAt bytes a piece → k + n ≤ length piece → PieceAt bytes (a + k) (take n (drop k piece))
piece_part bytes a piece k n at le =
    let low = at.low in
    let high = at.high in
    let place : a + k - data_address ≡ (a - data_address) + k = omega arith in
    let size : length (take n (drop k piece)) ≡ n = length-take-le n (drop k piece) (omega (arith, length-drop k piece)) in
    record {
      rest = drop n (drop k piece) ++ at.rest;
      is = ap (λ n. drop n bytes) place ∙ sym (drop-drop k (a - data_address) bytes) ∙ ap (drop k) at.is ∙ drop-append-le k piece at.rest (omega arith)
          ∙ ap (λ l. l ++ at.rest) (sym (take-append-drop n (drop k piece))) ∙ append_assoc (take n (drop k piece)) (drop n (drop k piece)) at.rest;
      low = omega arith;
      high = omega arith;
    }

-- what is left of it behind its first bytes
pub piece_later : (bytes : List ℕ) (a : ℕ) (piece : List ℕ) (k : ℕ) → k ≤ length piece → PieceAt bytes a piece → PieceAt bytes (a + k) (drop k piece)
piece_later bytes a piece k le at =
    let low = at.low in
    let high = at.high in
    let place : a + k - data_address ≡ (a - data_address) + k = omega arith in
    record {
      rest = at.rest;
      is = ap (λ n. drop n bytes) place ∙ sym (drop-drop k (a - data_address) bytes) ∙ ap (drop k) at.is ∙ drop-append-le k piece at.rest le;
      low = omega arith;
      high = omega (arith, length-drop k piece);
    }

-- the bytes that the kernel reads from its address on begin with it
pub piece_read : (setting : Setting) (bytes : List ℕ) (a : ℕ) (piece : List ℕ) (at : PieceAt bytes a piece) → 0 < length piece → bytes_from (λ g. g.readable) (memory setting bytes) a (length piece) ≡ Some (piece ++ at.rest)
piece_read setting bytes a piece at some =
    let n = length piece in
    let none : Option (List ℕ) = None in
    let found : Option (List ℕ) = Some (drop (a - data_address) bytes) in
    ap (λ t. cond t (cond setting.text.readable (Some (drop (a - setting.text.address) setting.text.bytes)) none) (bytes_from (λ g. g.readable) (data_at bytes ∷ []) a n)) (not_text setting a n at.low some)
    ∙ ap (λ t. cond t found none) (in_data setting bytes a n at.low at.high)
    ∙ ap Some at.is
