-- Items for each register of a list, one behind the other.
use Rattle.std.proofs.Common.{◌≡◌, ℕ, suc, ◌+◌, ◌<◌, List, ◌∷◌, ◌++◌, length, drop, sym, ap, ◌∙◌, arith}
use Rattle.std.specs.Prelude.{slice_index}
use Rattle.std.proofs.Math.Seq.{drop-cons}
use Rattle.sch_asm.specs.declared.item.Item.{Item}

-- those of one register more
pub one_further : (each : ℕ → List ℕ → List Item → List Item) (one : ℕ → ℕ → List Item → List Item)
    → ((m r : ℕ) (rs : List ℕ) (rest : List Item) → each m (r ∷ rs) rest ≡ one m r (each (suc m) rs rest))
    → (rs : List ℕ) (m : ℕ) → m < length rs → (a b : List Item) (whole : List Item → List Item)
    → ((rest : List Item) → b ++ rest ≡ a ++ one m (slice_index rs m) rest)
    → ((rest : List Item) → a ++ each m (drop m rs) rest ≡ whole rest)
    → (rest : List Item) → b ++ each (m + 1) (drop (m + 1) rs) rest ≡ whole rest
one_further each one step rs m lt a b whole at_b at_a rest =
    let next : suc m ≡ m + 1 = omega arith in
    let split : drop m rs ≡ slice_index rs m ∷ drop (m + 1) rs = drop-cons rs m 0 lt ∙ ap (λ n. slice_index rs m ∷ drop n rs) next in
    let opened : each m (drop m rs) rest ≡ one m (slice_index rs m) (each (m + 1) (drop (m + 1) rs) rest) =
    ap (λ l. each m l rest) split ∙ step m (slice_index rs m) (drop (m + 1) rs) rest ∙ ap (λ n. one m (slice_index rs m) (each n (drop (m + 1) rs) rest)) next in
    at_b (each (m + 1) (drop (m + 1) rs) rest) ∙ ap (λ l. a ++ l) (sym opened) ∙ at_a rest
