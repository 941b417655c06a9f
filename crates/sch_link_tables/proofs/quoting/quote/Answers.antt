use Rattle.std.proofs.Common.{◌≡◌, [], ◌∷◌, ◌++◌, length, sym, ap, ◌∙◌, subst, arith}
use Rattle.std.proofs.lemmas.List.{map-append, append_cancel_left}
use Rattle.sch_word.specs.trees.InOrder.{AreInOrder}
use Rattle.sch_word.specs.values.MadeView.{made}
use Rattle.sch_word.proofs.facts.Lists.{head_same}
use Rattle.sch_word.proofs.facts.TreesInOrder.{ComeBefore, back_begun, parts_there, back_ended}
use Rattle.sch_read.specs.DatumParts.{parts, trees_of, lent_trees, lent_tree}
use Rattle.sch_read.specs.Views.{tree_of}
use Rattle.sch_names.specs.NamesView.{names_of}
use Rattle.sch_link_tables.specs.Quoted.{literal_of}
use Rattle.sch_link_tables.proofs.QuoteSteps.{quoted}
use Rattle.sch_link_tables.proofs.quoting.quote.Goals as goal

pub each-init : goal.each-init
each-init c =
    let order = c.in_ok-order.order in
    let trees = tree_of c.args.d.now ∷ [] in
    ([], c.new-literals.ensures, back_begun parts (lent_trees order) trees (subst (λ ds. AreInOrder parts (lent_trees order) (trees_of ds)) c.from_ref.ensures.value c.in_ok-order.ensures))

pub quote_node-requires : goal.quote_node-requires
quote_node-requires c =
    let symbols = names_of c.args.symbols.now in
    let trees = tree_of c.args.d.now ∷ [] in
    let d = tree_of c.in-Some.node.now in
    let left = lent_trees c.pop.new.self in
    let order : lent_trees c.each.order ≡ left ++ d ∷ [] = ap lent_trees c.in-Some.ensures ∙ map-append lent_tree c.pop.new.self (c.in-Some.node ∷ []) in
    let there = c.each.invariant.0 in
    let next = parts_there parts left d there trees (subst (λ o. ComeBefore parts o there trees) order c.each.invariant.2) in
    record {
      few = c.requires.few;
      ready = (quoted symbols next.0, c.each.invariant.1 ∙ ap (quoted symbols) next.1 ∙ map-append (literal_of symbols) (parts d) next.0);
    }

pub each-preserved : goal.each-preserved
each-preserved c =
    let symbols = names_of c.args.symbols.now in
    let trees = tree_of c.args.d.now ∷ [] in
    let d = tree_of c.in-Some.node.now in
    let left = lent_trees c.pop.new.self in
    let order : lent_trees c.each.order ≡ left ++ d ∷ [] = ap lent_trees c.in-Some.ensures ∙ map-append lent_tree c.pop.new.self (c.in-Some.node ∷ []) in
    let there = c.each.invariant.0 in
    let next = parts_there parts left d there trees (subst (λ o. ComeBefore parts o there trees) order c.each.invariant.2) in
    let all : made c.each.literals ≡ quoted symbols (parts d) ++ quoted symbols next.0 =
    c.each.invariant.1 ∙ ap (quoted symbols) next.1 ∙ map-append (literal_of symbols) (parts d) next.0 in
    let rest : made c.quote_node.new.literals ≡ quoted symbols next.0 = append_cancel_left (quoted symbols (parts d)) _ _ (sym c.in_ok-l.ensures.taken ∙ all) in
    (d ∷ next.0, c.in_ok-push.ensures ∙ ap (λ l. l ∷ made c.quote_node.new.literals) c.in_ok-l.ensures.same ∙ ap (λ ls. literal_of symbols d ∷ ls) rest, next.2)

pub pop-requires-2 : goal.pop-requires-2
pop-requires-2 c =
    let symbols = names_of c.args.symbols.now in
    let trees = tree_of c.args.d.now ∷ [] in
    let none = ap lent_trees c.in_default.ensures.0 in
    let there = c.each.invariant.0 in
    let all = back_ended parts there trees (subst (λ o. ComeBefore parts o there trees) none c.each.invariant.2) in
    let n = ap length (c.each.invariant.1 ∙ ap (quoted symbols) all) in
    omega (arith, n)

pub returns : goal.returns
returns c =
    let symbols = names_of c.args.symbols.now in
    let trees = tree_of c.args.d.now ∷ [] in
    let none = ap lent_trees c.in_default.ensures.0 in
    let there = c.each.invariant.0 in
    let all = back_ended parts there trees (subst (λ o. ComeBefore parts o there trees) none c.each.invariant.2) in
    head_same (sym c.pop-2.ensures ∙ c.each.invariant.1 ∙ ap (quoted symbols) all)
