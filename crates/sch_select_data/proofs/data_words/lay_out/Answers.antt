use Rattle.std.proofs.Common.{ℕ, ◌+◌, ◌*◌, ◌^◌, ◌≤◌, arith, refl, ap, ◌∙◌, sym}
use Rattle.sch_word.specs.trees.Shape.{max_library}
use Rattle.sch_word.specs.runs.Runs.{max_statics}
use Rattle.sch_word.specs.values.StaticsView.{statics}
use Rattle.sch_select_data.specs.Data.{closures_unit, objects_unit}
use Rattle.sch_select_data.specs.NameWords.{symbols_count}
use Rattle.sch_select_data.proofs.StaticSizes.{AreFew, are_few, fits_count}
use Rattle.sch_select_data.proofs.data_words.lay_out.Goals as goal

-- what is counted
few : (c : goal.After-symbols_count) → AreFew (statics c.args.s.now) c.len.result c.len-2.result c.symbols_count.result
few c = are_few c.args.s.now c.requires.few c.len.result c.len-2.result c.symbols_count.result c.len.ensures c.len-2.ensures
    (c.symbols_count.ensures ∙ ap symbols_count c.as_slice.ensures)

low_by : (count library size : ℕ) → library ≤ max_library → 8 * count + 32 * size ≤ 40 * max_statics
    → 16 * (objects_unit count library) + 32 * size ≤ 2 ^ 31
low_by count library size l h = omega (arith, l, h)

small : (c : goal.After-symbols_count) → c.len.result + c.len-2.result + c.symbols_count.result ≤ 5 * max_statics
small c = fits_count (statics c.args.s.now) c.len.result c.len-2.result c.symbols_count.result 0 (few c)

pub overflow_add-front : goal.overflow_add-front
overflow_add-front c =
    let h = are_few c.args.s.now c.requires.few c.len.result c.len-2.result (symbols_count c.args.s.now.symbols) c.len.ensures
    c.len-2.ensures refl in
    let f = h.few in omega (arith, f)

pub overflow_add-count : goal.overflow_add-count
overflow_add-count c = let h = small c in omega (arith, h)

pub overflow_mul-closures : goal.overflow_mul-closures
overflow_mul-closures c = let h = small c in omega (arith, h)

pub overflow_add-closures : goal.overflow_add-closures
overflow_add-closures c = let h = small c in omega (arith, h)

pub overflow_add-closures-2 : goal.overflow_add-closures-2
overflow_add-closures-2 c = let h = small c in omega (arith, h)

pub overflow_mul-result : goal.overflow_mul-result
overflow_mul-result c = let h = small c in omega (arith, h)

pub overflow_add-result : goal.overflow_add-result
overflow_add-result c = let h = small c in omega (arith, h)

pub overflow_mul-result-2 : goal.overflow_mul-result-2
overflow_mul-result-2 c = let h = small c in omega (arith, h)

pub overflow_add-result-2 : goal.overflow_add-result-2
overflow_add-result-2 c = let h = small c in let l = c.requires.library in omega (arith, h, l)

pub returns-clause-count : goal.returns-clause-count
returns-clause-count c = sym (few c).counted

pub returns-clause-closures : goal.returns-clause-closures
returns-clause-closures c = ap (λ n. 16 * closures_unit n) (sym (few c).counted)

pub returns-clause-unit : goal.returns-clause-unit
returns-clause-unit c = ap (λ n. objects_unit n c.args.library) (sym (few c).counted)

pub returns-clause-low : goal.returns-clause-low
returns-clause-low c = let h = (few c).few in let l = c.requires.library in low_by _ _ _ l h
