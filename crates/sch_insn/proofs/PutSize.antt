-- Bytes that are put into a list of bytes leave its size.
use Rattle.std.proofs.Common.{◌≡◌, ℕ, ◌+◌, ◌≤◌, List, ◌++◌, length, take, drop, length-append, length-drop, arith}
use Rattle.std.proofs.lemmas.List.{length-take-le}
use Rattle.sch_insn.specs.Machine.{put_bytes}

pub size_put : (bs : List ℕ) (k : ℕ) (xs : List ℕ) → k + length xs ≤ length bs → length (put_bytes bs k xs) ≡ length bs
size_put bs k xs within =
    let rest = drop (k + length xs) bs in
    omega (arith, within, length-take-le k bs (omega (arith, within)), length-drop (k + length xs) bs, length-append xs rest, length-append (take k bs) (xs ++ rest))
