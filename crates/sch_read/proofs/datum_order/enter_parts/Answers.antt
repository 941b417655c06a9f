use Rattle.std.proofs.Common.{rules, ◌≡◌, ◌∷◌, ◌++◌, ap, sym, ◌∙◌}
use Rattle.std.proofs.lemmas.Result.{on_ok_weaker}
use Rattle.sch_read.specs.DatumParts.{parts, trees_of}
use Rattle.sch_read.specs.Grammar.{list, dotted, vector}
use Rattle.sch_read.specs.Views.{tree_of, data_of}
use Rattle.sch_read.specs.declared.datum.Datum.{the_lemmas}
use Rattle.sch_read.proofs.DatumSteps.{entered, both_entered}
use Rattle.sch_read.proofs.datum_order.enter_parts.Goals as goal

pub returns-in-List-default-None : goal.returns-in-List-default-None
returns-in-List-default-None c =
    let tree : tree_of c.args.d.now ≡ list c.args.d.now.at (data_of c.in-List-default-None.parts) = search (rules, the_lemmas) in
    on_ok_weaker c.enter.result (λ h. entered c.in-List-default-None.parts c.enter.new.self c.args.left.now (h ∙ ap (λ l. l ++ c.args.left.now) c.as_slice.ensures)
    ∙ ap (λ t. parts t ++ trees_of c.args.left.now) (sym tree)) c.enter.ensures

pub returns-in_ok-enter-in-List-default-Some : goal.returns-in_ok-enter-in-List-default-Some
returns-in_ok-enter-in-List-default-Some c =
    let items = c.in-List-default-Some.parts in
    let last = c.in-List-default-Some.last.value in
    let tree : tree_of c.args.d.now ≡ dotted c.args.d.now.at (data_of items) (tree_of last) = search (rules, the_lemmas) in
    let own : c.deref.result.now ≡ last = search rules in
    let f : trees_of c.enter_datum.new.left ≡ tree_of last ∷ trees_of c.args.left.now = c.in_ok-enter_datum-in-List-default-Some.ensures ∙ ap (λ d. tree_of d ∷ trees_of c.args.left.now) own in
    let s : c.enter-in-List-default-Some.new.self ≡ items ++ c.enter_datum.new.left =
    c.in_ok-enter-in-List-default-Some.ensures ∙ ap (λ l. l ++ c.enter_datum.new.left) c.as_slice-in-List-default-Some.ensures in
    both_entered items c.enter_datum.new.left c.enter-in-List-default-Some.new.self last (trees_of c.args.left.now) f s
    ∙ ap (λ t. parts t ++ trees_of c.args.left.now) (sym tree)

pub returns-in-Vector : goal.returns-in-Vector
returns-in-Vector c =
    let tree : tree_of c.args.d.now ≡ vector c.args.d.now.at (data_of c.in-Vector.parts) = search (rules, the_lemmas) in
    on_ok_weaker c.enter-in-Vector.result (λ h. entered c.in-Vector.parts c.enter-in-Vector.new.self c.args.left.now (h ∙ ap (λ l. l ++ c.args.left.now) c.as_slice-in-Vector.ensures)
    ∙ ap (λ t. parts t ++ trees_of c.args.left.now) (sym tree)) c.enter-in-Vector.ensures
