-- The plain data of a list of literals is the list of their data.
use Rattle.std.proofs.Common.{◌≡◌, List, refl, sym, ap, ◌∙◌, map}
use Rattle.sch_word.specs.declared.literal.Lit.{Lit, Row_of-Lit, end_of-Lit, more_of-Lit, items-the_row-Lit, items_hidden-the_row-Lit-0}
use Rattle.sch_word.specs.declared.literal.Lit.TheBlock.{hidden-the_row-Lit-0}
use Rattle.sch_word.specs.values.Literals.{and_literal, literals}
use Rattle.sch_word.specs.values.LiteralView.{literal, literals_of, literals_of_row}

literals_of_items : {m : _} → (row : Row_of-Lit m) → literals_of_row row ≡ literals (map literal (items-the_row-Lit m row))
literals_of_items end_of-Lit = refl
literals_of_items (more_of-Lit l ls) = ap (and_literal (literal l)) (literals_of_items ls)

pub literals_of_list : (ls : List Lit) → literals_of ls ≡ literals (map literal ls)
literals_of_list ls = literals_of_items (hidden-the_row-Lit-0 ls) ∙ ap (λ l. literals (map literal l)) (items_hidden-the_row-Lit-0 ls)

-- lists of literals with the same data
pub same_literals : (xs ys : List Lit) → map literal xs ≡ map literal ys → literals_of xs ≡ literals_of ys
same_literals xs ys same = literals_of_list xs ∙ ap literals same ∙ sym (literals_of_list ys)
