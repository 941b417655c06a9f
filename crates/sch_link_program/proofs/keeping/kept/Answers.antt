use Rattle.std.proofs.Common.{refl, ◌-◌, length, take, arith}
use Rattle.sch_word.proofs.facts.Lists.{length_none}
use Rattle.sch_names.specs.NamesView.{names_of}
use Rattle.sch_link_program.proofs.KeepSteps.{last_apart, still_whole, step_list, step_names, all_looked}
use Rattle.sch_link_program.proofs.keeping.kept.Goals as goal

pub loop-left-preserved : goal.loop-left-preserved
loop-left-preserved c =
    let left = c.loop-left.left.now in
    let before = take (length left - 1) left in
    let d = c.d-item.result in
    let named = names_of c.args.asked.now.named.now in
    let held = names_of c.args.asked.now.held.now in
    let ds = c.args.definitions.now in
    let l = last_apart left d c.in-len1-up.len_at_least c.d-item.is in
    let i = c.loop-left.invariant in
    record {
      whole = still_whole ds left before d i.whole l;
      names = step_names named held (names_of c.loop-left.wanted.globals.names) ds left before d i.whole l _ i.names refl _ c.in_ok-keep.ensures.names;
      list = step_list named held (names_of c.loop-left.wanted.globals.names) ds left before d i.whole l _ i.names refl c.loop-left.all _ c.in_ok-keep.ensures.list i.list;
    }

pub returns : goal.returns
returns c =
    let named = names_of c.args.asked.now.named.now in
    let held = names_of c.args.asked.now.held.now in
    all_looked named held c.args.definitions.now c.loop-left.left.now c.loop-left.all _ (length_none c.loop-left.left.now (omega (arith, c.in_default.len_below))) c.loop-left.invariant.list c.reversed.ensures
