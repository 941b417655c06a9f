-- What a walk that counts variables answers.
use Rattle.std.specs.Prelude.{◌≡◌, ℕ, Bool}
use Rattle.sch_variable_counts.specs.declared.counting.Counted.{Counted}
use Rattle.sch_variable_counts.specs.Walked.{capped}

-- the variables that were counted, and whether each procedure has few enough
pub record Counts (c : Counted) (variables : ℕ) (few : Bool) : Type 0 where
  pub variables_are : c.variables ≡ capped variables
  pub few_is : c.few ≡ few
