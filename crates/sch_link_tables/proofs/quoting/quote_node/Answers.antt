use Rattle.std.proofs.Common.{rules, ◌≡◌, ◌∷◌, ◌++◌, length, take, drop, sym, ap, ◌∙◌, arith}
use Rattle.std.proofs.lemmas.Result.{IfOk-weaker}
use Rattle.sch_word.specs.values.Literals as words
use Rattle.sch_word.specs.values.LiteralView.{literal}
use Rattle.sch_word.specs.values.LiteralParts.{plain}
use Rattle.sch_word.specs.values.MadeView.{made}
use Rattle.sch_word.proofs.facts.Lists.{head_same, tail_same}
use Rattle.sch_read.specs.Grammar.{list, dotted, vector}
use Rattle.sch_read.specs.DatumParts.{trees_of}
use Rattle.sch_read.specs.Views.{tree_of, data_of}
use Rattle.sch_read.specs.declared.datum.Datum.{the_lemmas}
use Rattle.sch_names.specs.NamesView.{names_of}
use Rattle.sch_link_tables.specs.Quoted.{list_of, literal_of, literals_of_data, literals_of_parts}
use Rattle.sch_link_tables.proofs.QuoteSteps.{quoted, same_quoted, enough, front, behind, ready_as, dotted_front}
use Rattle.sch_link_tables.proofs.quoting.quote_node.Goals as goal

pub take-requires : goal.take-requires
take-requires c =
    let symbols = names_of c.args.symbols.now in
    let items = c.in-List-default-None.items in
    let tree : tree_of c.args.d.now ≡ list c.args.d.now.at (data_of items) = search (rules, the_lemmas) in
    let first = ready_as symbols tree c.requires.ready in
    let n = c.len.ensures in
    omega (arith, n, enough symbols items _ _ first)

pub take-requires-in-List-default-Some : goal.take-requires-in-List-default-Some
take-requires-in-List-default-Some c =
    let symbols = names_of c.args.symbols.now in
    let items = c.in-List-default-Some.items in
    let end = tree_of c.in-List-default-Some.field-1-0.value in
    let tree : tree_of c.args.d.now ≡ dotted c.args.d.now.at (data_of items) end = search (rules, the_lemmas) in
    let first = dotted_front symbols (data_of items) end _ _ (ready_as symbols tree c.requires.ready) in
    let n = c.len-in-List-default-Some.ensures in
    omega (arith, n, enough symbols items _ _ first)

pub pop-requires : goal.pop-requires
pop-requires c =
    let symbols = names_of c.args.symbols.now in
    let items = c.in-List-default-Some.items in
    let end = tree_of c.in-List-default-Some.field-1-0.value in
    let tree : tree_of c.args.d.now ≡ dotted c.args.d.now.at (data_of items) end = search (rules, the_lemmas) in
    let first = dotted_front symbols (data_of items) end _ _ (ready_as symbols tree c.requires.ready) in
    let left : made c.take-in-List-default-Some.new.self ≡ literal_of symbols end ∷ c.requires.ready.0 =
    c.in_ok-items-in-List-default-Some.ensures.left ∙ ap (λ k. drop k (made c.args.literals.now)) c.len-in-List-default-Some.ensures ∙ behind symbols items _ _ first in
    let n = ap length left in
    omega (arith, n)

pub take-requires-in-Vector : goal.take-requires-in-Vector
take-requires-in-Vector c =
    let symbols = names_of c.args.symbols.now in
    let items = c.in-Vector.items in
    let tree : tree_of c.args.d.now ≡ vector c.args.d.now.at (data_of items) = search (rules, the_lemmas) in
    let first = ready_as symbols tree c.requires.ready in
    let n = c.len-in-Vector.ensures in
    omega (arith, n, enough symbols items _ _ first)

pub returns-in_ok-items-in-List-default-None-clause-same : goal.returns-in_ok-items-in-List-default-None-clause-same
returns-in_ok-items-in-List-default-None-clause-same c =
    let symbols = names_of c.args.symbols.now in
    let items = c.in-List-default-None.items in
    let tree : tree_of c.args.d.now ≡ list c.args.d.now.at (data_of items) = search (rules, the_lemmas) in
    let first = ready_as symbols tree c.requires.ready in
    let same : plain c.in_ok-items-in-List-default-None.items ≡ quoted symbols (trees_of items) =
    c.in_ok-items-in-List-default-None.ensures.taken ∙ ap (λ k. take k (made c.args.literals.now)) c.len.ensures ∙ front symbols items _ _ first in
    let whole = same_quoted symbols c.in_ok-items-in-List-default-None.items items same in
    IfOk-weaker c.list_of.result _ _ (λ l h. h ∙ ap list_of whole ∙ sym (ap (literal_of symbols) tree)) c.list_of.ensures

pub returns-in_ok-items-in-List-default-None-clause-taken : goal.returns-in_ok-items-in-List-default-None-clause-taken
returns-in_ok-items-in-List-default-None-clause-taken c =
    let symbols = names_of c.args.symbols.now in
    let items = c.in-List-default-None.items in
    let tree : tree_of c.args.d.now ≡ list c.args.d.now.at (data_of items) = search (rules, the_lemmas) in
    let first = ready_as symbols tree c.requires.ready in
    let left : made c.take.new.self ≡ c.requires.ready.0 =
    c.in_ok-items-in-List-default-None.ensures.left ∙ ap (λ k. drop k (made c.args.literals.now)) c.len.ensures ∙ behind symbols items _ _ first in
    IfOk-weaker c.list_of.result _ _ (λ _ _. c.requires.ready.1 ∙ ap (λ ls. literals_of_parts symbols (tree_of c.args.d.now) ++ ls) (sym left)) c.list_of.ensures

pub returns-in_ok-end-in-List-default-Some-clause-same : goal.returns-in_ok-end-in-List-default-Some-clause-same
returns-in_ok-end-in-List-default-Some-clause-same c =
    let symbols = names_of c.args.symbols.now in
    let items = c.in-List-default-Some.items in
    let end = tree_of c.in-List-default-Some.field-1-0.value in
    let tree : tree_of c.args.d.now ≡ dotted c.args.d.now.at (data_of items) end = search (rules, the_lemmas) in
    let first = dotted_front symbols (data_of items) end _ _ (ready_as symbols tree c.requires.ready) in
    let left : made c.take-in-List-default-Some.new.self ≡ literal_of symbols end ∷ c.requires.ready.0 =
    c.in_ok-items-in-List-default-Some.ensures.left ∙ ap (λ k. drop k (made c.args.literals.now)) c.len-in-List-default-Some.ensures ∙ behind symbols items _ _ first in
    let same : plain c.in_ok-items-in-List-default-Some.items ≡ quoted symbols (trees_of items) =
    c.in_ok-items-in-List-default-Some.ensures.taken ∙ ap (λ k. take k (made c.args.literals.now)) c.len-in-List-default-Some.ensures ∙ front symbols items _ _ first in
    let whole = same_quoted symbols c.in_ok-items-in-List-default-Some.items items same in
    let tail : literal c.in_ok-end-in-List-default-Some.end.value ≡ literal_of symbols end =
    ap literal c.in_ok-end-in-List-default-Some.ensures.ok ∙ head_same (sym c.pop.ensures ∙ left) in
    ap (λ ls. words.list ls (literal c.in_ok-end-in-List-default-Some.end.value)) whole ∙ ap (words.list (literals_of_data symbols (data_of items))) tail
    ∙ sym (ap (literal_of symbols) tree)

pub returns-in_ok-end-in-List-default-Some-clause-taken : goal.returns-in_ok-end-in-List-default-Some-clause-taken
returns-in_ok-end-in-List-default-Some-clause-taken c =
    let symbols = names_of c.args.symbols.now in
    let items = c.in-List-default-Some.items in
    let end = tree_of c.in-List-default-Some.field-1-0.value in
    let tree : tree_of c.args.d.now ≡ dotted c.args.d.now.at (data_of items) end = search (rules, the_lemmas) in
    let first = dotted_front symbols (data_of items) end _ _ (ready_as symbols tree c.requires.ready) in
    let left : made c.take-in-List-default-Some.new.self ≡ literal_of symbols end ∷ c.requires.ready.0 =
    c.in_ok-items-in-List-default-Some.ensures.left ∙ ap (λ k. drop k (made c.args.literals.now)) c.len-in-List-default-Some.ensures ∙ behind symbols items _ _ first in
    c.requires.ready.1 ∙ ap (λ ls. literals_of_parts symbols (tree_of c.args.d.now) ++ ls) (sym (tail_same (sym c.pop.ensures ∙ left)))

pub returns-in_ok-items-in-Vector-clause-same : goal.returns-in_ok-items-in-Vector-clause-same
returns-in_ok-items-in-Vector-clause-same c =
    let symbols = names_of c.args.symbols.now in
    let items = c.in-Vector.items in
    let tree : tree_of c.args.d.now ≡ vector c.args.d.now.at (data_of items) = search (rules, the_lemmas) in
    let first = ready_as symbols tree c.requires.ready in
    let same : plain c.in_ok-items-in-Vector.items ≡ quoted symbols (trees_of items) =
    c.in_ok-items-in-Vector.ensures.taken ∙ ap (λ k. take k (made c.args.literals.now)) c.len-in-Vector.ensures ∙ front symbols items _ _ first in
    ap words.elements (same_quoted symbols c.in_ok-items-in-Vector.items items same) ∙ sym (ap (literal_of symbols) tree)

pub returns-in_ok-items-in-Vector-clause-taken : goal.returns-in_ok-items-in-Vector-clause-taken
returns-in_ok-items-in-Vector-clause-taken c =
    let symbols = names_of c.args.symbols.now in
    let items = c.in-Vector.items in
    let tree : tree_of c.args.d.now ≡ vector c.args.d.now.at (data_of items) = search (rules, the_lemmas) in
    let first = ready_as symbols tree c.requires.ready in
    let left : made c.take-in-Vector.new.self ≡ c.requires.ready.0 =
    c.in_ok-items-in-Vector.ensures.left ∙ ap (λ k. drop k (made c.args.literals.now)) c.len-in-Vector.ensures ∙ behind symbols items _ _ first in
    c.requires.ready.1 ∙ ap (λ ls. literals_of_parts symbols (tree_of c.args.d.now) ++ ls) (sym left)
