-- Words of two data that agree before an address or from an address on: what a fill keeps, by words.
use Rattle.std.proofs.Common.{◌≡◌, ℕ, ◌+◌, ◌-◌, ◌≤◌, List, take, drop, sym, ap, ◌∙◌, arith}
use Rattle.std.specs.Int.{w64, from_le_bytes}
use Rattle.std.proofs.lemmas.List.{drop-drop, take-take}
use Rattle.std.proofs.lemmas.Slice.{between_is}
use Rattle.sch_word.specs.runs.ProgramLayout.{data_address}
use Rattle.sch_asm.specs.Data.{word_in}
use Rattle.sch_asm.proofs.Words.{eight_count, take_eight}

-- a word that ends before the address
pub word_before : (xs ys : List ℕ) (a b : ℕ) → take (a - data_address) ys ≡ take (a - data_address) xs → data_address ≤ b → b + 8 ≤ a → word_in ys b ≡ word_in xs b
word_before xs ys a b e low le =
    let j = b - data_address in
    let k = a - data_address in
    let within : j + 8 ≤ k = omega (arith, low, le) in
    let cut : (l : List ℕ) → take 8 (drop j l) ≡ drop j (take (j + 8) (take k l)) = λ l. sym (take_eight l j) ∙ between_is l j (j + 8) ∙ ap (drop j) (sym (take-take (j + 8) k l within)) in
    eight_count (drop j ys) (drop j xs) (cut ys ∙ ap (λ l. drop j (take (j + 8) l)) e ∙ sym (cut xs))

-- a word that begins at the address or behind it
pub word_behind : (xs ys : List ℕ) (a b : ℕ) → drop (a - data_address) ys ≡ drop (a - data_address) xs → data_address ≤ a → a ≤ b → word_in ys b ≡ word_in xs b
word_behind xs ys a b e low le =
    let j = b - data_address in
    let k = a - data_address in
    let parts : k + (j - k) ≡ j = omega (arith, low, le) in
    let cut : (l : List ℕ) → drop j l ≡ drop (j - k) (drop k l) = λ l. ap (λ n. drop n l) (sym parts) ∙ sym (drop-drop (j - k) k l) in
    ap (from_le_bytes w64) (cut ys ∙ ap (drop (j - k)) e ∙ sym (cut xs))
