use Rattle.std.proofs.Common.{◌≡◌, ℕ, ◌+◌, List, [], ◌∷◌, ◌++◌, length, refl, ap, ◌∙◌, arith}
use Rattle.sch_read.specs.Grammar as grammar
use Rattle.sch_read.specs.Grammar.{atom, list, symbol, none, cons}
use Rattle.sch_read.specs.Valid.{weight}
use Rattle.sch_read.specs.Views.{tree_of, data_of}
use Rattle.sch_tests_passes.proofs.expander.behind.Goals as goal

around : (at : ℕ) (name : List ℕ) (t u : grammar.Datum) → t ≡ atom at (symbol name) → length name ≡ 5 → weight (list at (cons t (cons u none))) ≡ 7 + weight u
around at name t u e l =
    let sum : weight (list at (cons (atom at (symbol name)) (cons u none))) ≡ 1 + (1 + length name + (weight u + 0)) = refl in
    ap (λ s. weight (list at (cons s (cons u none)))) e ∙ sum ∙ omega (arith, l)

pub returns : goal.returns
returns c =
    let items = c.in_ok-push-2.ensures.ok ∙ ap (λ l. l ++ c.args.d ∷ []) (c.in_ok-push.ensures.ok ∙ ap (λ l. l ++ c.word.result ∷ []) c.new-items.ensures) in
    ap weight (c.listed.ensures ∙ ap (λ l. list c.args.at (data_of l)) items)
    ∙ around c.args.at c.in_ok-from_slice.field-0 (tree_of c.word.result) (tree_of c.args.d) c.word.ensures (ap length c.in_ok-from_slice.ensures ∙ c.requires)
