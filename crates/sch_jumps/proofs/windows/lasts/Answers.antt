use Rattle.std.proofs.Common.{◌≡◌, ◌+◌, ◌<◌, ◌≤◌, ◌∙◌, length, refl, sym, false, arith, rules, slice_index, slice_index_or}
use Rattle.std.specs.Prelude.{max}
use Rattle.std.proofs.lemmas.Bool.{false≢true}
use Rattle.std.proofs.lemmas.List.{get_or_read_under}
use Rattle.sch_jumps.proofs.FirstsAndLasts.{lasts_none, lasts_other, lasts_short}
use Rattle.sch_jumps.proofs.windows.lasts.Goals as goal
use Rattle.sch_jumps.proofs.windows.lasts.Goals.{then-not-longs-k+then-lows-k, else-not-longs-k, else-not-longs-k-via-then-not-longs-k+else-lows-k, else-not-longs-k-via-else-not-longs-k}

pub loop-k-init : goal.loop-k-init
loop-k-init c = lasts_none c.args.lows.now c.args.longs.now c.in_ok-lasts.lasts.items c.in_ok-lasts.ensures

pub loop-k-preserved : goal.loop-k-preserved
loop-k-preserved c =
    let v = c.loop-k.invariant in
    let k = c.loop-k.k in
    let lt = c.loop-k-test.true in
    let lows = c.args.lows.now in
    let longs = c.args.longs.now in
    let t = c.loop-k.lasts.items in
    let e = slice_index lows k in
    elim c.if-not-longs-k.branch [
      | then-not-longs-k+then-lows-k w ↦
          let size = v.size in
          let within = w.if-lows-k.true in
          let inside : e < length t = omega arith in
          let x : w.index.result.now ≡ slice_index t e = get_or_read_under t e (length t) w.index.result.now 0 w.index.ensures inside refl in
          let m : w.max.result ≡ max w.index.result.now (k + 1) = search rules in
          rw w.lasts-is (lasts_short lows longs k t v w.max.result (rw (← x) m) within (c.requires.narrow k lt w.if-not-longs-k.true))
      | else-not-longs-k w ↦
          let other : slice_index_or longs k false ≡ false → length longs ≤ slice_index lows k =
          elim w.else-not-longs-k.branch [
            | else-not-longs-k-via-then-not-longs-k+else-lows-k w' ↦ λ e. w'.if-lows-k.false
            | else-not-longs-k-via-else-not-longs-k w' ↦ λ e. absurd (false≢true (sym e ∙ w'.if-not-longs-k.false))
          ] in
          rw w.lasts-is (lasts_other lows longs k t v other)
    ]
