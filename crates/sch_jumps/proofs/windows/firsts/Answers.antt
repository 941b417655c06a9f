use Rattle.std.proofs.Common.{◌≡◌, ◌-◌, ◌<◌, length, refl, arith, slice_index}
use Rattle.std.proofs.lemmas.List.{get_or_read_under}
use Rattle.sch_jumps.proofs.FirstsAndLasts.{firsts_none, firsts_long, firsts_short}
use Rattle.sch_jumps.proofs.windows.firsts.Goals as goal
use Rattle.sch_jumps.proofs.windows.firsts.Goals.{then-not-longs-k, else-not-longs-k}

pub loop-k-init : goal.loop-k-init
loop-k-init c = firsts_none c.args.highs.now c.args.longs.now c.in_ok-firsts.firsts.items c.in_ok-firsts.ensures

pub loop-k-preserved : goal.loop-k-preserved
loop-k-preserved c =
    let v = c.loop-k.invariant in
    let k = c.loop-k.k in
    let lt = c.loop-k-test.true in
    let highs = c.args.highs.now in
    let longs = c.args.longs.now in
    let t = c.loop-k.firsts.items in
    let e = slice_index highs k - 1 in
    elim c.if-not-longs-k.branch [
      | then-not-longs-k w ↦
          let high = c.requires.high k lt in
          let top = c.requires.top k lt in
          let size = v.size in
          let inside : e < length t = omega arith in
          let x : w.index.result.now ≡ slice_index t e = get_or_read_under t e (length t) w.index.result.now 0 w.index.ensures inside refl in
          rw w.firsts-is (firsts_short highs longs k t v e w.min.result refl (rw (← x) w.min.ensures) lt high top (c.requires.narrow k lt w.if-not-longs-k.true))
      | else-not-longs-k w ↦ rw w.firsts-is (firsts_long highs longs k t v w.if-not-longs-k.false)
    ]
