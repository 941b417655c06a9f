-- The units of literals in order: each has its own, and its parts have theirs.
use Rattle.std.proofs.Common.{◌≡◌, ℕ, ◌+◌, ◌≤◌, List, [], ◌∷◌, ◌++◌, refl, sym, ap, ◌∙◌, subst, arith, append_assoc}
use Rattle.std.specs.Prelude.{sum_by}
use Rattle.std.specs.Borrow.{Bor}
use Rattle.std.proofs.lemmas.List.{map-append}
use Rattle.std.proofs.lemmas.List.Sums.{sum_by-cons, sum_by-append}
use Rattle.sch_word.specs.trees.InOrder.{AreInOrder}
use Rattle.sch_word.specs.values.Literals.{Literal, Literals, constant, text, list, elements, no_literals, and_literal, literals}
use Rattle.sch_word.specs.declared.literal.Lit.{Lit}
use Rattle.sch_word.specs.values.LiteralView.{literal, literals_of}
use Rattle.sch_word.specs.values.LiteralParts.{each_of, parts, plain, lent_literal, lent}
use Rattle.sch_word.proofs.facts.TreesInOrder.{Walk, walks, ComeBefore, parts_there}
use Rattle.sch_word.proofs.worked.LiteralRows.{literals_of_list}
use Rattle.sch_select_data.specs.PlacedWords.{units_in, units_in_each, own_units}

pub units_joined : (ls : Literals) (others : List Literal) → units_in_each (literals (each_of ls ++ others)) ≡ units_in_each ls + units_in_each (literals others)
units_joined no_literals others = omega arith
units_joined (and_literal l ls) others = let h = units_joined ls others in omega (arith, h)

-- a literal, and others
with_parts : (l : Literal) (others : List Literal) → own_units l + units_in_each (literals (parts l ++ others)) ≡ units_in l + units_in_each (literals others)
with_parts (constant c) others = refl
with_parts (text bytes) others = refl
with_parts (list ls tail) others =
    let a = ap (λ l. units_in_each (literals l)) (append_assoc (each_of ls) (tail ∷ []) others) in
    let h = units_joined ls (tail ∷ others) in
    omega (arith, a, h)
with_parts (elements ls) others = let h = units_joined ls others in omega (arith, h)

walk_units : (nodes trees : List Literal) → Walk parts nodes trees → sum_by own_units nodes ≡ units_in_each (literals trees)
walk_units [] trees h = sym (ap (λ l. units_in_each (literals l)) h)
walk_units (n ∷ nodes) trees h =
    let rest = walk_units nodes (parts n ++ h.0) h.2 in
    let one = with_parts n h.0 in
    let all = ap (λ l. units_in_each (literals l)) h.1 in
    omega (arith, sum_by-cons own_units n nodes, rest, one, all)

pub order_units : (nodes trees : List Literal) → AreInOrder parts nodes trees → sum_by own_units nodes ≡ units_in_each (literals trees)
order_units nodes trees h = walk_units nodes trees (walks parts nodes trees h)

-- where all but the first ones are put, there is room for the last of these
pub room_there : (before : List Literal) (n : Literal) (there trees : List Literal) → ComeBefore parts (before ++ n ∷ []) there trees
    → own_units n + units_in_each (literals there) ≤ units_in_each (literals trees)
room_there before n there trees h =
    let all = walk_units ((before ++ n ∷ []) ++ h.0) trees h.1 in
    let behind = walk_units h.0 there h.2 in
    omega (arith, all, behind, sum_by-append own_units (before ++ n ∷ []) h.0, sum_by-append own_units before (n ∷ []))

-- ---- literals of the program's type, of which the last one is taken

pub units_of_order : (order items : List (Bor Lit)) (ls given : List Lit) → items ≡ order → given ≡ ls → AreInOrder parts (lent order) (plain given)
    → sum_by own_units (lent items) ≡ units_in_each (literals_of ls)
units_of_order order items ls given i g h =
    ap (λ l. sum_by own_units (lent l)) i ∙ order_units (lent order) (plain given) h ∙ ap units_in_each (ap (λ l. literals (plain l)) g ∙ sym (literals_of_list ls))

module _ (order before : List (Bor Lit)) (l : Bor Lit) (there : List Literal) (ls : List Lit) (taken : order ≡ before ++ l ∷ []) (h : ComeBefore parts (lent order) there (plain ls)) where
  last_there : ComeBefore parts (lent before ++ literal l.now ∷ []) there (plain ls)
  last_there = subst (λ o. ComeBefore parts o there (plain ls)) (ap lent taken ∙ map-append lent_literal before (l ∷ [])) h

  pub last_parts : (others : List Literal) × (there ≡ parts (literal l.now) ++ others) × ComeBefore parts (lent before) (literal l.now ∷ others) (plain ls)
  last_parts = parts_there parts (lent before) (literal l.now) there (plain ls) last_there

  pub last_room : own_units (literal l.now) + units_in_each (literals there) ≤ units_in_each (literals_of ls)
  last_room =
      let all = ap units_in_each (literals_of_list ls) in
      let room = room_there (lent before) (literal l.now) there (plain ls) last_there in
      omega (arith, all, room)
