use Rattle.std.proofs.Common.{◌∙◌}
use Rattle.sch_control.specs.Tree.{save}
use Rattle.sch_control.specs.View.{expression_with}
use Rattle.sch_writer.proofs.WholeLayout.{whole_written}
use Rattle.sch_writer.proofs.body_layout.write_region_body.Goals as goal

pub returns-clause-instructions : goal.returns-clause-instructions
returns-clause-instructions g c =
    whole_written (g.P.VariablePlaces.plan c.args.allocation.now.places) c.args.entry (save c.args.saves.now (expression_with (g.R.Restores.lists c.args.allocation.now.restores) c.args.e.now)) _ _ _ _ c.in_ok-out.ensures.instructions
    (c.in_ok-enter.ensures.labels ∙ c.in_ok-out.ensures.labels) c.in_ok-enter.ensures.instructions c.in_ok-lay_region.ensures.instructions
