use Rattle.std.proofs.Common.{◌∙◌, ap, sym}
use Rattle.std.proofs.lemmas.Result.{IfOk-weaker}
use Rattle.sch_control.specs.flow.RestoredView.{restored}
use Rattle.sch_homes.specs.Homes.{calls_end}
use Rattle.sch_homes.specs.HomeTable.{place_in}
use Rattle.sch_homes.proofs.frame_room.+calls_end.Goals as goal

pub returns-in-Call : goal.returns-in-Call
returns-in-Call g t c =
    IfOk-weaker c.call_end.result _ _ (λ n h. h ∙ ap (λ e. calls_end c.args.used (place_in c.args.lives.now.places.now) (restored e)) (sym c.in-Call.is)) c.call_end.ensures
