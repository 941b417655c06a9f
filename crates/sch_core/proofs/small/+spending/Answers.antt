use Rattle.std.proofs.Common.{refl, ap, arith}
use Rattle.sch_sketch.specs.DraftMeasures.{size}
use Rattle.sch_link_tables.proofs.DraftViews.{bind_view, letrec_view}
use Rattle.sch_link_tables.proofs.DraftLists.{width_is}
use Rattle.sch_core.proofs.small.+spending.Goals as goal

pub spend-returns-in-Let : goal.spend-returns-in-Let
spend-returns-in-Let t c =
    omega (
      arith,
      ap size (bind_view _ _ _ c.in-Let.is refl c.as_slice-in-Let.ensures c.deref-in-Let.ensures),
      width_is _ c.len.ensures c.as_slice-in-Let.ensures,
      c.spend_each-left.ensures,
      c.spend-in-Let.ensures,
    )

pub spend-returns-in-Letrec : goal.spend-returns-in-Letrec
spend-returns-in-Letrec t c =
    omega (
      arith,
      ap size (letrec_view _ _ _ _ c.in-Letrec.is refl c.as_slice-in-Letrec.ensures c.deref-in-Letrec.ensures),
      width_is _ c.len-in-Letrec.ensures c.as_slice-in-Letrec.ensures,
      c.spend_each-left-in-Letrec.ensures,
      c.spend-in-Letrec.ensures,
    )
