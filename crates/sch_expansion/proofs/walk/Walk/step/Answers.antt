use Rattle.std.proofs.Common.{ap, sym, ◌∙◌, reverse}
use Rattle.std.proofs.lemmas.Result.{IfOk-weaker}
use Rattle.sch_read.specs.Views.{tree_of, data_of}
use Rattle.sch_names.specs.NamesView.{globals_of}
use Rattle.sch_expansion.specs.Outline.{outline_datum, outline}
use Rattle.sch_sketch.specs.Sketch.{width}
use Rattle.sch_sketch.specs.SketchView.{sketch_of, kind_of}
use Rattle.sch_expansion.proofs.Stacks.{node_wanted, at_datum, at_rest, at_wrong, at_leaf, at_limited, at_deep, how_many_is, smaller_datum, smaller_rest, smaller_wrong, smaller_leaf, smaller_limited, smaller_deep, smaller_node, smaller_opened}
use Rattle.sch_sketch.proofs.Sketches.{text_view, rest_view, wrong_view, leaf_view, node_view, limited_view}
use Rattle.sch_expansion.proofs.walk.Walk.step.Goals as goal

pub returns-in_default-clause-ready : goal.returns-in_default-clause-ready
returns-in_default-clause-ready c = λ w h f. f _ _ (at_deep w.globals (node_view _ _ _ c.in-Node.is)
    (c.width.ensures ∙ ap (λ m. width (kind_of c.in-Node.kind) m) (c.len.ensures ∙ sym (how_many_is c.in-Node.parts))) c.report_operands-in-Node.ensures
    c.in_default.ensures c.report_deep.ensures c.nothing-in_default.ensures)

pub returns-in_ok-k-in-Text-clause-ready : goal.returns-in_ok-k-in-Text-clause-ready
returns-in_ok-k-in-Text-clause-ready c = λ w h f m e r.
    f m e (at_datum w.globals (text_view _ c.in-Text.is) (c.in_ok-k-in-Text.ensures ∙ ap (λ g. outline_datum g c.args.self.now.scope (tree_of c.in-Text.d.now)) (sym h)) r)

pub returns-in_ok-k-in-Rest-clause-ready : goal.returns-in_ok-k-in-Rest-clause-ready
returns-in_ok-k-in-Rest-clause-ready c = λ w h f m e r.
    rw c.in_ok-k-in-Rest.ensures.scope
    (f m e (at_rest w.globals (rest_view _ _ _ _ c.in-Rest.is)
    (c.in_ok-k-in-Rest.ensures.made ∙ ap (λ g. outline g c.args.self.now.scope c.args.at.position c.in-Rest.row c.in-Rest.place (data_of c.in-Rest.first.now) (data_of c.in-Rest.second.now)) (sym h))
    c.in_ok-k-in-Rest.ensures.scope r))

pub returns-in_ok-report_wrong-in-Wrong-clause-ready : goal.returns-in_ok-report_wrong-in-Wrong-clause-ready
returns-in_ok-report_wrong-in-Wrong-clause-ready c = λ w h f. f _ _ (at_wrong w.globals (wrong_view _ c.in-Wrong.is) c.in_ok-report_wrong-in-Wrong.ensures c.nothing.ensures)

pub returns-in-Leaf-clause-ready : goal.returns-in-Leaf-clause-ready
returns-in-Leaf-clause-ready c = λ w h f. f _ _ (at_leaf w.globals (leaf_view _ _ c.in-Leaf.is) c.report_level.ensures c.draft_of_leaf-e.ensures)

pub returns-in-Limited-clause-ready : goal.returns-in-Limited-clause-ready
returns-in-Limited-clause-ready c = λ w h f m e r.
    f m e (at_limited w.globals (limited_view _ _ _ c.in-Limited.is) (ap sketch_of c.into_inner-inside.ensures) c.report_operands.ensures r)

pub returns-in_ok-node-in-Node-clause-ready : goal.returns-in_ok-node-in-Node-clause-ready
returns-in_ok-node-in-Node-clause-ready c = λ w h f.
    c.resume.ensures.ready w h (c.in_ok-node-in-Node.ensures.ready w (reverse c.args.self.now.stack) _ (node_wanted w _ _ _ c.args.at.level _ _ _ c.args.at.position _ (sketch_of c.args.sketch) c.args.fault.now _ (node_view _ _ _ c.in-Node.is)
    (c.width.ensures ∙ ap (λ m. width (kind_of c.in-Node.kind) m) (c.len.ensures ∙ sym (how_many_is c.in-Node.parts))) c.report_operands-in-Node.ensures
    c.in-Some.ensures.0 c.in-Some.ensures.1 f))

pub returns-in_default-clause-smaller : goal.returns-in_default-clause-smaller
returns-in_default-clause-smaller c = smaller_deep _ (node_view _ _ _ c.in-Node.is)

pub returns-in_ok-k-in-Text-clause-smaller : goal.returns-in_ok-k-in-Text-clause-smaller
returns-in_ok-k-in-Text-clause-smaller c = smaller_datum (globals_of c.args.globals.now) c.args.self.now.scope _ (text_view _ c.in-Text.is) c.in_ok-k-in-Text.ensures

pub returns-in_ok-k-in-Rest-clause-smaller : goal.returns-in_ok-k-in-Rest-clause-smaller
returns-in_ok-k-in-Rest-clause-smaller c = smaller_rest (globals_of c.args.globals.now) c.args.self.now.scope c.args.at.position _ (rest_view _ _ _ _ c.in-Rest.is) c.in_ok-k-in-Rest.ensures.made

pub returns-in_ok-report_wrong-in-Wrong-clause-smaller : goal.returns-in_ok-report_wrong-in-Wrong-clause-smaller
returns-in_ok-report_wrong-in-Wrong-clause-smaller c = smaller_wrong _ (wrong_view _ c.in-Wrong.is)

pub returns-in-Leaf-clause-smaller : goal.returns-in-Leaf-clause-smaller
returns-in-Leaf-clause-smaller c = smaller_leaf _ (leaf_view _ _ c.in-Leaf.is)

pub returns-in-Limited-clause-smaller : goal.returns-in-Limited-clause-smaller
returns-in-Limited-clause-smaller c = smaller_limited _ (limited_view _ _ _ c.in-Limited.is) (ap sketch_of c.into_inner-inside.ensures)

pub returns-in_ok-node-in-Node-clause-smaller : goal.returns-in_ok-node-in-Node-clause-smaller
returns-in_ok-node-in-Node-clause-smaller c =
    IfOk-weaker c.resume.result _ _ (λ x l. smaller_node _ (sketch_of c.args.sketch) _ _ (node_view _ _ _ c.in-Node.is) (smaller_opened _ _ _ _ c.in_ok-node-in-Node.ensures.left l)) c.resume.ensures.smaller
