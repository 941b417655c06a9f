-- The effort of letting literals go falls.
use Rattle.std.proofs.Common.{◌≡◌, ◌+◌, ◌*◌, ◌<◌, ◌≤◌, ◌++◌, ℕ, suc, List, [], ◌∷◌, length, ap, arith}
use Rattle.std.specs.Prelude.{slice_set, slice_index_or}
use Rattle.std.proofs.lemmas.Nat.{mul-le}
use Rattle.sch_word.specs.declared.literal.Lit.{Lit}
use Rattle.sch_word.specs.values.Effort.{effort}
use Rattle.sch_word.specs.values.Literals.{literal_size}
use Rattle.sch_word.specs.values.LiteralView.{literal}
use Rattle.sch_word.specs.values.LiteralParts.{sizes, plain}

-- the trees together are smaller
pub lighter : (next rest next' rest' : ℕ) → next' + rest' < next + rest → effort next' rest' < effort next rest
lighter next rest next' rest' h =
    let s : ℕ = next' + rest' in
    let square : suc s * suc s ≤ (next + rest) * (next + rest) = mul-le (suc s) (suc s) (next + rest) (next + rest) (omega (arith, h)) (omega (arith, h)) in
    omega (arith, square)

-- they are as large as before, and the next one is smaller
pub shallower : (next rest next' rest' : ℕ) → next' + rest' ≡ next + rest → next' < next → effort next' rest' < effort next rest
shallower next rest next' rest' same h = rw same (omega (arith, h))

pub sizes_push : (ls : List Lit) (l : Lit) → sizes (plain (ls ++ l ∷ [])) ≡ sizes (plain ls) + literal_size (literal l)
sizes_push [] l = omega arith
sizes_push (x ∷ ls) l = let e = sizes_push ls l in omega (arith, e)

-- the first literal gives its place to one of the size of the rest
pub first_swapped : (items : List Lit) (first kept : Lit) (rest tail : ℕ) → 0 < length items → first ≡ slice_index_or items 0 first → literal_size (literal kept) ≡ 1 + (rest + tail)
    → effort (literal_size (literal first)) (sizes (plain (slice_set items 0 kept))) < effort (1 + sizes (plain items) + tail) rest
first_swapped [] first kept rest tail l e k = absurd (omega (arith, l))
first_swapped (x ∷ xs) first kept rest tail l e k =
    let f = ap (λ y. literal_size (literal y)) e in
    shallower (1 + sizes (plain (x ∷ xs)) + tail) rest (literal_size (literal first)) (sizes (plain (kept ∷ xs))) (omega (arith, f, k)) (omega (arith, f))
