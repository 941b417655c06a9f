use Rattle.std.proofs.Common.{◌≡◌, ap, ◌∙◌, arith}
use Rattle.std.specs.Prelude.{nat_lt}
use Rattle.sch_saves.proofs.ListTurns.{first_init, first_turn}
use Rattle.sch_saves.proofs.variables.first_variables.Goals as goal

pub loop-x-init : goal.loop-x-init
loop-x-init g c = record { whole = first_init c.new-all.result c.new-all.ensures }

pub loop-x-preserved : goal.loop-x-preserved
loop-x-preserved g c = record { whole = first_turn c.loop-x.all _ c.loop-x.x c.insert.ensures c.loop-x.invariant.whole }

pub returns : goal.returns
returns g c =
    let at_end : c.loop-x.x ≡ c.args.count = omega arith in
    λ y. c.loop-x.invariant.whole y ∙ ap (λ n. nat_lt y n) at_end
