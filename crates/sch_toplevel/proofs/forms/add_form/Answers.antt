use Rattle.std.proofs.lemmas.Result.{on_ok_weaker}
use Rattle.sch_read.specs.Parts.{offset}
use Rattle.sch_read.specs.Views.{tree_of}
use Rattle.sch_toplevel.specs.Forms.{form_sketch}
use Rattle.sch_toplevel.specs.FormView.{places_at, sketches_at}
use Rattle.sch_toplevel.proofs.FormLists.{begin_entered, begin_lighter}
use Rattle.sch_toplevel.proofs.forms.add_form.Goals as goal

pub returns-in-Begin-clause-sketches : goal.returns-in-Begin-clause-sketches
returns-in-Begin-clause-sketches c =
    on_ok_weaker c.enter.result
    (begin_entered form_sketch (tree_of c.args.d.now) c.in-Begin.items.now c.enter.new.self c.args.left.now (sketches_at c.args.forms.now) c.in-Begin.ensures.0) c.enter.ensures

pub returns-in-Begin-clause-places : goal.returns-in-Begin-clause-places
returns-in-Begin-clause-places c =
    on_ok_weaker c.enter.result
    (begin_entered offset (tree_of c.args.d.now) c.in-Begin.items.now c.enter.new.self c.args.left.now (places_at c.args.forms.now) c.in-Begin.ensures.0) c.enter.ensures

pub returns-in-Begin-clause-less : goal.returns-in-Begin-clause-less
returns-in-Begin-clause-less c =
    on_ok_weaker c.enter.result
    (begin_lighter (tree_of c.args.d.now) c.in-Begin.items.now c.enter.new.self c.args.left.now c.in-Begin.ensures.2) c.enter.ensures
