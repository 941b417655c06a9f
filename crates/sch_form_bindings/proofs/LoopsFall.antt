-- The row of `do` leaves less text.
use Rattle.std.proofs.Common.{◌≤◌, ◌<◌, ◌+◌, ℕ, length, arith}
use Rattle.sch_read.specs.Grammar.{Datum, Data, atom, list, none, cons, symbol}
use Rattle.sch_read.specs.Parts.{how_many}
use Rattle.sch_sketch.specs.Measure.{datum_measure, data_measure, sketch_measure, sketches_measure}
use Rattle.sch_sketch.specs.Sketch.{no_sketch}
use Rattle.sch_sketch.specs.Small.{one}
use Rattle.sch_sketch.proofs.SmallMeasures.{choice, texts_measure}
use Rattle.sch_form_bindings.specs.Loops.{stepped, starts, steps, step, again, next_round, result, are_rounds, do_form, row_do}

step_below : (at k : ℕ) (xs : Data) → sketch_measure (step at k xs) ≤ data_measure xs + 1
step_below at k none = omega arith
step_below at k (cons s ss) = omega arith

rounds_measure : (at : ℕ) (bs : Data) → length (stepped bs) + (sketches_measure (starts bs no_sketch) + sketches_measure (steps at bs no_sketch)) ≤ data_measure bs
rounds_measure at (cons (list p (cons (atom q (symbol x)) (cons i xs))) bs) = omega (arith, rounds_measure at bs, step_below at (how_many bs) xs)
rounds_measure at _ = omega arith

result_below : (at : ℕ) (rs : Data) → sketch_measure (result at rs) ≤ data_measure rs + 4
result_below at none = omega arith
result_below at (cons r rs) = omega arith

next_below : (at : ℕ) (bs es : Data) → sketch_measure (next_round at bs es) ≤ 3 + (sketches_measure (steps at bs no_sketch) + data_measure es)
next_below at bs none = omega arith
next_below at bs (cons e es) = omega (arith, texts_measure es (one (again at bs)))

do_falls_form : (at : ℕ) (bs : Data) (a : Datum) (rs es : Data) → sketch_measure (do_form at bs a rs es) < data_measure bs + datum_measure a + data_measure rs + data_measure es + 24
do_falls_form at bs a rs es =
    choice (are_rounds bs) _ _ _ (omega (arith, rounds_measure at bs, result_below at rs, next_below at bs es)) (omega arith)

pub do_falls : (at : ℕ) (xs : Data) → sketch_measure (row_do at xs) < data_measure xs + 4
do_falls at (cons (list p bs) (cons (list q (cons a rs)) es)) = omega (arith, do_falls_form at bs a rs es)
do_falls at _ = omega arith
