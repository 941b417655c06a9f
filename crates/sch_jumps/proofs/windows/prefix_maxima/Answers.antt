use Rattle.std.proofs.Common.{◌≡◌, ◌<◌, length, refl, arith, rules, slice_index}
use Rattle.std.specs.Prelude.{max}
use Rattle.std.proofs.lemmas.List.{get_or_read_under}
use Rattle.sch_jumps.proofs.FirstsAndLasts.{maxima_none, maxima_more}
use Rattle.sch_jumps.proofs.windows.prefix_maxima.Goals as goal

pub loop-i-init : goal.loop-i-init
loop-i-init c = maxima_none c.args.numbers.now.items

pub loop-i-preserved : goal.loop-i-preserved
loop-i-preserved c =
    let v = c.loop-i.invariant in
    let i = c.loop-i.i in
    let old = c.args.numbers.now.items in
    let t = c.loop-i.numbers.items in
    let lt : i < length old = omega arith in
    let size = v.size in
    let inside : i < length t = omega arith in
    let x : c.index.result.now ≡ slice_index t i = get_or_read_under t i (length t) c.index.result.now 0 c.index.ensures inside refl in
    let m : c.max-greatest.result ≡ max c.loop-i.greatest c.index.result.now = search rules in
    maxima_more old i c.loop-i.greatest t c.max-greatest.result v lt (rw (← x) m) (c.requires.close i lt)
