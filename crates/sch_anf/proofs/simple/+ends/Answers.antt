use Rattle.std.proofs.Common.{◌∙◌, ◌-◌, length, ap, sym, arith}
use Rattle.sch_anf_laws.specs.Normal.{last_in_call}
use Rattle.sch_anf.proofs.PartTests.{last_is}
use Rattle.sch_anf_laws.proofs.Items.{no_items}
use Rattle.sch_anf.proofs.simple.+ends.Goals as goal

pub last_in_call-returns-then-count-eq0 : goal.last_in_call-returns-then-count-eq0
last_in_call-returns-then-count-eq0 t c = sym (ap last_in_call (no_items c.as_slice-items.result.now c.args.es.now c.as_slice-items.ensures (omega arith)))

pub last_in_call-returns : goal.last_in_call-returns
last_in_call-returns t c =
    let items = c.as_slice-items.result.now in
    c.ends_in_call.ensures ∙ sym (last_is items c.args.es.now (length items - 1) c.index-items-count.result c.as_slice-items.ensures (omega arith) c.index-items-count.is)
