use Rattle.sch_step.proofs.ImageMemory.{filled}
use Rattle.sch_step.proofs.loading.with_zeros.Goals as goal

pub returns : goal.returns
returns c = filled c.overwrite.new.all c.args.bytes.now c.as_mut_slice.result.now c.in_ok-all.all.items c.in_ok-all.all.len c.args.zeros c.overwrite.ensures c.as_mut_slice.ensures.value
    c.in_ok-all.ensures.len (c.in_ok-all.ensures.items_if_clones_equal (λ y same. same))
