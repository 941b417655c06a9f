-- The steps of walks over literals.
use Rattle.std.proofs.Common.{◌≡◌, ◌≤◌, ◌<◌, ℕ, suc, ◌+◌, List, [], ◌∷◌, ◌++◌, length, reverse, take, drop, refl, sym, ap, ◌∙◌, arith, length-append}
use Rattle.std.proofs.lemmas.List.{append_assoc, map-append, drop-map, take-map, length-reverse}
use Rattle.std.proofs.Math.Seq.{take-append_seam, drop-append_seam}
use Rattle.sch_word.specs.declared.literal.Lit.{Lit}
use Rattle.sch_word.specs.values.Literals.{Literal, Literals, constant, text, list, elements, no_literals, and_literal, literals, count_literals, literal_size, literals_size}
use Rattle.sch_word.specs.values.LiteralView.{literal, literals_of}
use Rattle.sch_word.specs.values.LiteralParts.{each_of, parts, sizes, plain}
use Rattle.sch_word.proofs.facts.Lists.{map_length, map_reverse, take_reversed, drop_reversed}
use Rattle.sch_word.proofs.worked.LiteralRows.{literals_of_list}

pub each_literal : (ls : List Literal) → each_of (literals ls) ≡ ls
each_literal [] = refl
each_literal (l ∷ ls) = ap (λ m. l ∷ m) (each_literal ls)

pub each_plain : (ls : List Lit) → each_of (literals_of ls) ≡ plain ls
each_plain ls = ap each_of (literals_of_list ls) ∙ each_literal (plain ls)

pub each_count : (ls : Literals) → length (each_of ls) ≡ count_literals ls
each_count no_literals = refl
each_count (and_literal l ls) = ap suc (each_count ls)

pub plain_count : (ls : List Lit) → length (each_of (literals_of ls)) ≡ length ls
plain_count ls = ap length (each_plain ls) ∙ go ls
  where
    go : (ls : List Lit) → length (plain ls) ≡ length ls
    go [] = refl
    go (l ∷ ls) = ap suc (go ls)

pub literals_each : (ls : Literals) → literals (each_of ls) ≡ ls
literals_each no_literals = refl
literals_each (and_literal l ls) = ap (and_literal l) (literals_each ls)

-- ## Sizes

pub sizes_each : (ls : Literals) → sizes (each_of ls) ≡ literals_size ls
sizes_each no_literals = refl
sizes_each (and_literal l ls) = ap (λ n. literal_size l + n) (sizes_each ls)

pub sizes_of : (ls : List Lit) → literals_size (literals_of ls) ≡ sizes (plain ls)
sizes_of ls = sym (sizes_each (literals_of ls)) ∙ ap sizes (each_plain ls)

pub sizes_append : (xs ys : List Literal) → sizes (xs ++ ys) ≡ sizes xs + sizes ys
sizes_append [] ys = omega arith
sizes_append (x ∷ xs) ys = omega (arith, sizes_append xs ys)

pub some_size : (l : Literal) → 1 ≤ literal_size l
some_size (constant c) = omega arith
some_size (text bytes) = omega arith
some_size (list ls tail) = omega arith
some_size (elements ls) = omega arith

pub parts_size : (l : Literal) → sizes (parts l) + 1 ≤ literal_size l
parts_size (constant c) = omega arith
parts_size (text bytes) = omega arith
parts_size (list ls tail) = omega (arith, sizes_append (each_of ls) (tail ∷ []), sizes_each ls)
parts_size (elements ls) = omega (arith, sizes_each ls)

-- a literal is visited, and its parts are left to visit
pub less_left : (l : Literal) (before after others : List Literal) → before ≡ l ∷ others → after ≡ parts l ++ others → sizes after < sizes before
less_left l before after others b a =
    let p = ap sizes b in
    let q = ap sizes a in
    omega (arith, p, q, sizes_append (parts l) others, parts_size l)

-- ## Parts

pub list_entered : (ls first second : List Lit) (tail : Lit) (rest : List Lit) → first ≡ tail ∷ rest → second ≡ ls ++ first
    → plain second ≡ parts (list (literals_of ls) (literal tail)) ++ plain rest
list_entered ls first second tail rest f s =
    ap plain (s ∙ ap (λ l. ls ++ l) f) ∙ map-append literal ls (tail ∷ rest)
    ∙ sym (append_assoc (plain ls) (literal tail ∷ []) (plain rest)) ∙ ap (λ l. (l ++ literal tail ∷ []) ++ plain rest) (sym (each_plain ls))

pub vector_entered : (ls second rest : List Lit) → second ≡ ls ++ rest → plain second ≡ parts (elements (literals_of ls)) ++ plain rest
vector_entered ls second rest s = ap plain s ∙ map-append literal ls rest ∙ ap (λ l. l ++ plain rest) (sym (each_plain ls))

-- ## Literals that are made

pub made_taken : (items taken : List Lit) (count at : ℕ) → count + at ≡ length items → taken ≡ reverse (drop at items) → plain taken ≡ take count (reverse (plain items))
made_taken items taken count at e t =
    ap plain t ∙ map_reverse literal (drop at items) ∙ ap reverse (sym (drop-map literal at items))
    ∙ sym (take_reversed (plain items) count at (e ∙ sym (map_length literal items)))

pub made_left : (items rest : List Lit) (count at : ℕ) → count + at ≡ length items → rest ≡ take at items → reverse (plain rest) ≡ drop count (reverse (plain items))
made_left items rest count at e t =
    ap (λ l. reverse (plain l)) t ∙ ap reverse (sym (take-map literal at items)) ∙ sym (drop_reversed (plain items) count at (e ∙ sym (map_length literal items)))

pub made_count : (items : List Lit) → length (reverse (plain items)) ≡ length items
made_count items = length-reverse (plain items) ∙ map_length literal items

-- where the literals of a list come first
module _ (ls : List Lit) (all more : List Literal) (h : all ≡ each_of (literals_of ls) ++ more) where
  pub enough : length ls ≤ length all
  enough = let n = ap length h in omega (arith, n, length-append (each_of (literals_of ls)) more, plain_count ls)

  pub front : take (length ls) all ≡ plain ls
  front = ap (take (length ls)) h ∙ ap (λ k. take k (each_of (literals_of ls) ++ more)) (sym (plain_count ls)) ∙ take-append_seam (each_of (literals_of ls)) more ∙ each_plain ls

  pub behind : drop (length ls) all ≡ more
  behind = ap (drop (length ls)) h ∙ ap (λ k. drop k (each_of (literals_of ls) ++ more)) (sym (plain_count ls)) ∙ drop-append_seam (each_of (literals_of ls)) more
