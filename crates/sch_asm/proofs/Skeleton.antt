-- The size of the text of items, by their pieces.
use Rattle.std.proofs.Common.{◌≡◌, ℕ, ◌+◌, ◌*◌, ◌≤◌, List, [], ◌∷◌, ◌++◌, length, true, sym, ap, ◌∙◌, arith}
use Rattle.std.proofs.lemmas.List.{map-append}
use Rattle.sch_insn.specs.Spelling.{spelling}
use Rattle.sch_insn.proofs.PrefixCode.{spelling_short}
use Rattle.sch_jumps.specs.Sizes.{IsPiece, ArePieces, end_from, none}
use Rattle.sch_jumps.specs.Least as least
use Rattle.sch_jumps.specs.Least.{long_size}
use Rattle.sch_jumps.proofs.Text.{at_least_short, at_most_long}
use Rattle.sch_asm.specs.declared.item.Item.{Item}
use Rattle.sch_asm.specs.declared.item.Item.TheVariants as item
use Rattle.sch_asm.specs.Codes.{text_size}
use Rattle.sch_asm.specs.Pieces.{piece_of, shortest_size, skeleton}

pub skeleton_append : (xs ys : List Item) → skeleton (xs ++ ys) ≡ skeleton xs ++ skeleton ys
skeleton_append xs ys = map-append piece_of xs ys

piece_sound : (i : Item) → IsPiece (piece_of i)
piece_sound (item.Label l) = tt
piece_sound (item.Plain i) = spelling_short i
piece_sound (item.Jump l) = (omega arith, omega arith)
piece_sound (item.JumpIf c l) = (omega arith, omega arith)
piece_sound (item.LoadLabel r l) = omega arith
piece_sound (item.LoadWord r a) = omega arith
piece_sound (item.StoreWord a r) = omega arith
piece_sound (item.Mark m) = omega arith

pub sound_pieces : (is : List Item) → ArePieces (skeleton is)
sound_pieces [] = tt
sound_pieces (i ∷ is) = (piece_sound i, sound_pieces is)

-- with all jumps long the size is the landed one, which is a sum
long_end : (is : List Item) (k at : ℕ) → end_from (λ j. true) k at (skeleton is) ≡ at + text_size is
long_end [] k at = omega arith
long_end (item.Label l ∷ is) k at = let h = long_end is k at in omega (arith, h)
long_end (item.Plain i ∷ is) k at = let h = long_end is k (at + length (spelling i)) in omega (arith, h)
long_end (item.Jump l ∷ is) k at = let h = long_end is (k + 1) (at + 5) in omega (arith, h)
long_end (item.JumpIf c l ∷ is) k at = let h = long_end is (k + 1) (at + 6) in omega (arith, h)
long_end (item.LoadLabel r l ∷ is) k at = let h = long_end is k (at + 7) in omega (arith, h)
long_end (item.LoadWord r a ∷ is) k at = let h = long_end is k (at + 7) in omega (arith, h)
long_end (item.StoreWord a r ∷ is) k at = let h = long_end is k (at + 7) in omega (arith, h)
long_end (item.Mark m ∷ is) k at = let h = long_end is k (at + 0) in omega (arith, h)

pub long_is_sum : (is : List Item) → long_size (skeleton is) ≡ text_size is
long_is_sum is = let h = long_end is 0 0 in omega (arith, h)

pub at_most_sum : (is : List Item) → shortest_size is ≤ text_size is
at_most_sum is = let h = at_most_long (skeleton is) (sound_pieces is) in let e = long_is_sum is in omega (arith, h, e)

-- a short jump has a third of the bytes of a long one at least
short_end : (is : List Item) (k at at' : ℕ) → at ≤ 3 * at' → end_from (λ j. true) k at (skeleton is) ≤ 3 * end_from none k at' (skeleton is)
short_end [] k at at' h = h
short_end (item.Label l ∷ is) k at at' h = short_end is k at at' h
short_end (item.Plain i ∷ is) k at at' h = short_end is k (at + length (spelling i)) (at' + length (spelling i)) (omega (arith, h))
short_end (item.Jump l ∷ is) k at at' h = short_end is (k + 1) (at + 5) (at' + 2) (omega (arith, h))
short_end (item.JumpIf c l ∷ is) k at at' h = short_end is (k + 1) (at + 6) (at' + 2) (omega (arith, h))
short_end (item.LoadLabel r l ∷ is) k at at' h = short_end is k (at + 7) (at' + 7) (omega (arith, h))
short_end (item.LoadWord r a ∷ is) k at at' h = short_end is k (at + 7) (at' + 7) (omega (arith, h))
short_end (item.StoreWord a r ∷ is) k at at' h = short_end is k (at + 7) (at' + 7) (omega (arith, h))
short_end (item.Mark m ∷ is) k at at' h = short_end is k (at + 0) (at' + 0) (omega (arith, h))

pub a_third : (is : List Item) → text_size is ≤ 3 * shortest_size is
a_third is =
    let a = short_end is 0 0 0 (omega arith) in
    let b = at_least_short (skeleton is) (sound_pieces is) in
    let e = long_is_sum is in
    omega (arith, a, b, e)

-- ---- items that differ in numbers alone

pub same_shortest : (xs ys : List Item) → skeleton xs ≡ skeleton ys → shortest_size xs ≡ shortest_size ys
same_shortest xs ys e = ap least.text_size e

pub same_append : (us vs xs ys : List Item) → skeleton us ≡ skeleton vs → skeleton xs ≡ skeleton ys → skeleton (us ++ xs) ≡ skeleton (vs ++ ys)
same_append us vs xs ys e f = skeleton_append us xs ∙ ap (λ p. p ++ skeleton xs) e ∙ ap (λ p. skeleton vs ++ p) f ∙ sym (skeleton_append vs ys)

-- What is put before other items, where what is put before is as long and what stands behind too.
pub behind_same : (f g : List Item → List Item) → ((rest : List Item) → f rest ≡ f [] ++ rest) → ((rest : List Item) → g rest ≡ g [] ++ rest) → (rest more : List Item) → skeleton (f []) ≡ skeleton (g []) → skeleton rest ≡ skeleton more → skeleton (f rest) ≡ skeleton (g more)
behind_same f g a b rest more e h =
    ap skeleton (a rest) ∙ skeleton_append (f []) rest ∙ ap (λ p. p ++ skeleton rest) e ∙ ap (λ p. skeleton (g []) ++ p) h ∙ sym (skeleton_append (g []) more) ∙ sym (ap skeleton (b more))
