-- Parts that stand before others.
use Rattle.std.proofs.Common.{◌≡◌, ◌+◌, Bool, false, refl, ap, arith}
use Rattle.sch_names.specs.Scope.{Scope}
use Rattle.sch_sketch.specs.Sketch.{Kind, Sketch, Sketches, no_sketch, and_sketch, how_many_parts}
use Rattle.sch_sketch.specs.Small.{one}
use Rattle.sch_sketch.specs.Soundness.{IsSound, AreSound, but_last}

abbrev pub join : Sketches → Sketches → Sketches
join no_sketch ys = ys
join (and_sketch k ks) ys = and_sketch k (join ks ys)

pub join_again : (xs ys zs : Sketches) → join xs (join ys zs) ≡ join (join xs ys) zs
join_again no_sketch ys zs = refl
join_again (and_sketch k ks) ys zs = ap (and_sketch k) (join_again ks ys zs)

pub join_none : (xs : Sketches) → join xs no_sketch ≡ xs
join_none no_sketch = refl
join_none (and_sketch k ks) = ap (and_sketch k) (join_none ks)

pub count_join : (xs ys : Sketches) → how_many_parts (join xs ys) ≡ how_many_parts xs + how_many_parts ys
count_join no_sketch ys = omega arith
count_join (and_sketch k ks) ys = omega (arith, count_join ks ys)

pub but_last_join : (xs : Sketches) (e : Sketch) → but_last (join xs (one e)) ≡ xs
but_last_join no_sketch e = refl
but_last_join (and_sketch k no_sketch) e = refl
but_last_join (and_sketch k (and_sketch p ps)) e = ap (and_sketch k) (but_last_join (and_sketch p ps) e)

-- each is sound, wherever it stands
abbrev pub AllSound : Sketches → Type 0
AllSound no_sketch = Unit {0}
AllSound (and_sketch p ps) = ((s : Scope) → IsSound s p) × AllSound ps

pub all_join : (xs ys : Sketches) → AllSound xs → AllSound ys → AllSound (join xs ys)
all_join no_sketch ys h g = g
all_join (and_sketch k ks) ys h g = (h.0, all_join ks ys h.1 g)

pub sound_join : (k : Kind) (first : Bool) (s : Scope) (xs ys : Sketches) → AllSound xs → ((b : Bool) → AreSound k b s ys) → AreSound k first s (join xs ys)
sound_join k first s no_sketch ys h g = g first
sound_join k first s (and_sketch p ps) ys h g = (h.0 _, sound_join k false s ps ys h.1 g)
