use Rattle.std.proofs.Common.{[], ◌∷◌, ◌∙◌, sym, ap, subst}
use Rattle.sch_word.specs.trees.InOrder.{AreInOrder}
use Rattle.sch_read.specs.DatumParts.{parts, trees_of, lent_trees}
use Rattle.sch_read.specs.Views.{tree_of}
use Rattle.sch_names.specs.NamesView.{names_of}
use Rattle.sch_link_tables.specs.Named.{firsts}
use Rattle.sch_link_tables.proofs.SymbolsInOrder.{last_node, one_in_order}
use Rattle.sch_link_tables.proofs.naming.name_datum.Goals as goal

pub returns-clause-names : goal.returns-clause-names
returns-clause-names c =
    let order = c.as_slice-node-items.result.now in
    let seen = names_of c.args.symbols.now.names in
    let nodes : AreInOrder parts (lent_trees order) (tree_of c.args.d.now ∷ []) =
    subst (λ l. AreInOrder parts (lent_trees l) (tree_of c.args.d.now ∷ [])) (sym c.as_slice-node-items.ensures)
    (subst (λ ds. AreInOrder parts (lent_trees c.in_ok-order.order) (trees_of ds)) c.from_ref.ensures.value c.in_ok-order.ensures) in
    last_node order c.loop-node.node-index _ _ c.loop-node-test.false c.loop-node.invariant.names ∙ ap (firsts seen) (one_in_order (lent_trees order) (tree_of c.args.d.now) nodes)
