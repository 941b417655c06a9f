-- The steps of the walk that makes literals, over plain values.
use Rattle.std.proofs.Common.{◌≡◌, ℕ, ◌≤◌, List, [], ◌∷◌, ◌++◌, length, take, drop, map, refl, sym, ap, ◌∙◌, arith, length-append}
use Rattle.std.proofs.lemmas.List.{map-append, append_assoc}
use Rattle.std.proofs.Math.Seq.{take-append_seam, drop-append_seam}
use Rattle.sch_word.specs.declared.literal.Lit.{Lit}
use Rattle.sch_word.specs.declared.constant.Const.TheVariants.{Nil}
use Rattle.sch_word.specs.values.Literals as words
use Rattle.sch_word.specs.values.Literals.{Literal, literals, and_literal}
use Rattle.sch_word.specs.values.LiteralParts.{plain}
use Rattle.sch_word.specs.values.LiteralView.{literal, literals_of}
use Rattle.sch_word.proofs.facts.Lists.{map_length}
use Rattle.sch_word.proofs.worked.LiteralRows.{literals_of_list}
use Rattle.sch_read.specs.Grammar.{Datum, Data, dotted, vector, none, cons}
use Rattle.sch_read.specs.DatumParts.{each_of, parts, trees_of}
use Rattle.sch_read.specs.declared.datum.Datum as code
use Rattle.sch_read.specs.Views.{gather, tree_of, data_of}
use Rattle.sch_read.proofs.DatumSteps.{each_gathered}
use Rattle.sch_link_tables.specs.Quoted.{list_of, literal_of, literals_of_data, literals_of_parts, ArePartsReady}

module _ (symbols : List (List ℕ)) where
  abbrev pub quoted : List Datum → List Literal
  quoted ds = map (literal_of symbols) ds

  quoted_literals : (ds : List Datum) → literals (quoted ds) ≡ literals_of_data symbols (gather ds)
  quoted_literals [] = refl
  quoted_literals (d ∷ ds) = ap (and_literal (literal_of symbols d)) (quoted_literals ds)

  -- literals that are those of data
  pub same_quoted : (ls : List Lit) (items : List code.Datum) → plain ls ≡ quoted (trees_of items) → literals_of ls ≡ literals_of_data symbols (data_of items)
  same_quoted ls items h = literals_of_list ls ∙ ap literals h ∙ quoted_literals (trees_of items)

  -- where the literals of the data of a list come first
  module _ (items : List code.Datum) (all more : List Literal) (h : all ≡ quoted (each_of (data_of items)) ++ more) where
    at_front : all ≡ quoted (trees_of items) ++ more
    at_front = h ∙ ap (λ ds. quoted ds ++ more) (each_gathered (trees_of items))

    count_quoted : length (quoted (trees_of items)) ≡ length items
    count_quoted = map_length (literal_of symbols) (trees_of items) ∙ map_length tree_of items

    pub enough : length items ≤ length all
    enough = let n = ap length at_front in omega (arith, n, length-append (quoted (trees_of items)) more, count_quoted)

    pub front : take (length items) all ≡ quoted (trees_of items)
    front = ap (λ k. take k all) (sym count_quoted) ∙ ap (take (length (quoted (trees_of items)))) at_front ∙ take-append_seam (quoted (trees_of items)) more

    pub behind : drop (length items) all ≡ more
    behind = ap (λ k. drop k all) (sym count_quoted) ∙ ap (drop (length (quoted (trees_of items)))) at_front ∙ drop-append_seam (quoted (trees_of items)) more

  -- what is ready for a datum is ready for this one
  pub ready_as : {d e : Datum} {all : List Literal} → d ≡ e → (ready : ArePartsReady symbols d all) → all ≡ quoted (parts e) ++ ready.0
  ready_as same ready = ready.1 ∙ ap (λ d. literals_of_parts symbols d ++ ready.0) same

  -- those of a dotted list, and then others
  pub dotted_front : (ds : Data) (last : Datum) (all more : List Literal) → all ≡ quoted (each_of ds ++ last ∷ []) ++ more → all ≡ quoted (each_of ds) ++ literal_of symbols last ∷ more
  dotted_front ds last all more h =
      h ∙ ap (λ l. l ++ more) (map-append (literal_of symbols) (each_of ds) (last ∷ [])) ∙ append_assoc (quoted (each_of ds)) (literal_of symbols last ∷ []) more

-- ## Lists without a dot

pub empty_list : (items : List Lit) → length items ≡ 0 → words.constant Nil ≡ list_of (literals_of items)
empty_list items h = rw (literals_of_list items) (go items h)
  where
    go : (items : List Lit) → length items ≡ 0 → words.constant Nil ≡ list_of (literals (map literal items))
    go [] h = refl
    go (l ∷ ls) h = absurd (omega (arith, h))

pub some_list : (items : List Lit) → (length items ≡ 0 → ⊥) → words.list (literals_of items) (words.constant Nil) ≡ list_of (literals_of items)
some_list items h = rw (literals_of_list items) (go items h)
  where
    go : (items : List Lit) → (length items ≡ 0 → ⊥) → words.list (literals (map literal items)) (words.constant Nil) ≡ list_of (literals (map literal items))
    go [] h = absurd (h refl)
    go (l ∷ ls) h = refl

-- ## Rows: the literals of parts, the one after a dot last

module _ (symbols : List (List ℕ)) (a b c : Datum) where
  dotted_literals : literals_of_parts symbols (dotted 1 (cons a (cons b none)) c) ≡ literal_of symbols a ∷ literal_of symbols b ∷ literal_of symbols c ∷ []
  dotted_literals = refl

  vector_literals : literals_of_parts symbols (vector 1 (cons a (cons b none))) ≡ literal_of symbols a ∷ literal_of symbols b ∷ []
  vector_literals = refl
