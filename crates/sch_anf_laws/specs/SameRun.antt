-- A program of the language Control that runs as a flat program does.
use Rattle.std.specs.Prelude.{◌≡◌, ℕ, true, List, Some}
use Rattle.sch_word.specs.declared.answer.Answer.{Answer}
use Rattle.sch_flat.specs.Tree as flat
use Rattle.sch_flat.specs.Run as from
use Rattle.sch_control.specs.Tree as control
use Rattle.sch_control.specs.Run as to
use Rattle.sch_control.specs.Fits.{table_fits}

-- Under every order table that fits the second program, it is never wrong, and nothing is seen of its run but
-- what is seen of the run of the first.
pub record SameRun (p : flat.Source) (q : control.Source) : Type 0 where
  pub same : (table : List (List ℕ)) → table_fits q table ≡ true → (heap depth : ℕ) (answers : List Answer) (entries : ℕ)
      → to.run q heap depth answers entries ≡ Some (from.run p table heap depth answers entries)
