-- What the passes make of a core program, one after the other, and that it runs as the core program does.
use Rattle.std.specs.Prelude.{◌≡◌, ℕ, true, List, Some}
use Rattle.sch_word.specs.declared.answer.Answer.{Answer}
use Rattle.sch_lang.specs.Tree as lang
use Rattle.sch_lang.specs.Run as from
use Rattle.sch_control.specs.Tree as control
use Rattle.sch_control.specs.Run as to
use Rattle.sch_control.specs.Fits.{table_fits}
use Rattle.sch_cells.specs.Tree as cells
use Rattle.sch_rename.specs.Made.{renamed_source}
use Rattle.sch_assign.specs.Celled.{celled_in}
use Rattle.sch_assign.specs.Converted.{converted_source}
use Rattle.sch_closure.specs.Closed.{closed_source}
use Rattle.sch_anf_laws.specs.Normal.{normal_source}

-- each variable that is assigned or belongs to a Rec gets a cell
abbrev pub with_cells : cells.Source → cells.Source
with_cells p = converted_source (celled_in p) p.variables p

unfoldable pub control_of : lang.Source → control.Source
control_of p = normal_source (closed_source (with_cells (renamed_source p)))

-- The two programs have the same sites. Under every order table that fits the control program it is never
-- wrong, and its run is that of the core program.
pub record RunsAs (p : lang.Source) (q : control.Source) : Type 0 where
  pub sites : q.sites ≡ p.sites
  pub same : (table : List (List ℕ)) → table_fits q table ≡ true → (heap depth : ℕ) (answers : List Answer) (entries : ℕ) →
      to.run q heap depth answers entries ≡ Some (from.run p table heap depth answers entries)
