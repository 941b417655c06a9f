-- Which limits of a run are admitted (the project's own).
use Rattle.std.specs.Prelude.{ℕ, ◌≡◌, ◌≤◌, ◌%◌}
use Rattle.sch_word.specs.declared.limits.TheConstants.{MIN_HEAP, MAX_HEAP, MIN_DEPTH, MAX_DEPTH}

-- the heap, a multiple of 16 bytes, and the depth are each from the least to the greatest one
pub record AreLimits (heap depth : ℕ) : Type 0 where
  pub heap_low : MIN_HEAP ≤ heap
  pub heap_high : heap ≤ MAX_HEAP
  pub heap_whole : heap % 16 ≡ 0
  pub depth_low : MIN_DEPTH ≤ depth
  pub depth_high : depth ≤ MAX_DEPTH
