use Rattle.std.proofs.Common.{◌≡◌, ◌+◌, ◌-◌, ◌<◌, length, refl, arith, slice_index}
use Rattle.std.proofs.lemmas.List.{get_or_read_under}
use Rattle.sch_jumps.proofs.FirstsAndLasts.{minima_none, minima_more}
use Rattle.sch_jumps.proofs.windows.suffix_minima.Goals as goal

pub loop-i-init : goal.loop-i-init
loop-i-init c = minima_none c.args.numbers.now.items c.len-least.result (omega arith)

pub loop-i-preserved : goal.loop-i-preserved
loop-i-preserved c =
    let v = c.loop-i.invariant in
    let i = c.loop-i.i in
    let old = c.args.numbers.now.items in
    let t = c.loop-i.numbers.items in
    let at = c.len.result - 1 - i in
    let lt : i < length old = omega arith in
    let size = v.size in
    let place : at + i + 1 ≡ length old = omega arith in
    let inside : at < length t = omega arith in
    let x : c.index.result.now ≡ slice_index t at = get_or_read_under t at (length t) c.index.result.now 0 c.index.ensures inside refl in
    minima_more old i c.loop-i.least t at c.min-least.result v lt place (rw (← x) c.min-least.ensures) (c.requires.close at (omega arith))
