-- The program of a library's definitions and a text (R5RS 5.1), and where a form has too many variables for one.
use Rattle.std.specs.Prelude.{◌≡◌, ℕ, List, Some, None}
use Rattle.sch_lang.specs.Tree.{Source}
use Rattle.sch_read.specs.Grammar.{Data}
use Rattle.sch_sketch.specs.Draft.{Drafts}
use Rattle.sch_link_tables.specs.Programs.{Definition, seen, program_of}
use Rattle.sch_toplevel.specs.Forms.{form_places, own_names}
use Rattle.sch_toplevel.specs.Texts.{TextExpands}
use Rattle.sch_core.specs.declared.error.Kind.{Kind}
use Rattle.sch_core.specs.Excess.{first_excess}

-- the program of a text without a fault, each form of which has few enough variables
pub record IsProgramOf (ds : List Definition) (items : Data) (p : Source) : Type 0 where
  pub assigned : List (List ℕ)
  pub drafts : Drafts
  pub expands : TextExpands (seen ds) items assigned drafts
  pub numbered : p ≡ program_of ds (own_names items assigned) drafts
  pub fits : first_excess (form_places items) p.forms ≡ None

-- a text without a fault, whose form at this place is the first that has too much of something
pub record ExceedsAt (ds : List Definition) (items : Data) (kind : Kind) (at : ℕ) : Type 0 where
  pub assigned : List (List ℕ)
  pub drafts : Drafts
  pub expands : TextExpands (seen ds) items assigned drafts
  pub exceeding : first_excess (form_places items) (program_of ds (own_names items assigned) drafts).forms ≡ Some (kind, at)
