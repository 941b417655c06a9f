use Rattle.std.proofs.Common.{◌∙◌, length, ap, sym, arith}
use Rattle.sch_word.specs.trees.Bindings.{numbers}
use Rattle.sch_flat.proofs.Rows.{count_is}
use Rattle.sch_anf.proofs.PlacedLists.{numbers_turn, numbers_end}
use Rattle.sch_anf.proofs.sites.init_places.Goals as goal

pub loop-place-preserved : goal.loop-place-preserved
loop-place-preserved c = numbers_turn c.loop-place.all _ _ c.loop-place.place (length c.args.es.now) (omega arith)
    c.in_ok-push.ensures.ok c.loop-place.invariant

pub returns : goal.returns
returns c = numbers_end c.loop-place.all _ c.loop-place.place (length c.args.es.now) (omega arith) c.loop-place.invariant ∙ ap (numbers 0) (sym (count_is c.args.es.now))
