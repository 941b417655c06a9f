-- The definitions that the items of a library stand for, and why they have none.
use Rattle.std.specs.Prelude.{◌≡◌, ◌≤◌, ℕ, List, [], Some, None}
use Rattle.sch_read.specs.Grammar.{Data}
use Rattle.sch_sketch.specs.declared.fault.Fault.{Fault}
use Rattle.sch_sketch.specs.Draft.{Draft}
use Rattle.sch_expansion.specs.FaultOrder.{rank}
use Rattle.sch_link_tables.specs.Programs.{Definition}
use Rattle.sch_toplevel.specs.Items.{item_places, ItemsExpand, ItemHasFault, ItemsRead}
use Rattle.sch_core.specs.declared.error.CoreError.{CoreError}
use Rattle.sch_core.specs.declared.error.Kind.{Kind}
use Rattle.sch_core.specs.Answer.{IsErrorBy}
use Rattle.sch_core.specs.Excess.{first_definition_excess}

-- the definitions of items without a fault, none of which has too much of anything
pub record IsLibraryOf (items : Data) (ds : List Definition) : Type 0 where
  pub expands : ItemsExpand [] items ds
  pub fits : first_definition_excess (item_places items) ds ≡ None

-- items without a fault, of which the one at this place is the first that has too much of something
pub record LibraryExceedsAt (items : Data) (kind : Kind) (at : ℕ) : Type 0 where
  pub definitions : List Definition
  pub expands : ItemsExpand [] items definitions
  pub exceeding : first_definition_excess (item_places items) definitions ≡ Some (kind, at)

-- the fault that is answered: a least one, and of two at one place and of one cause the one that is found first in
-- the order of the text
pub record IsLibraryFault (items : Data) (f : Fault) : Type 0 where
  pub there : ItemHasFault [] items f
  pub least : (g : Fault) → ItemHasFault [] items g → rank f ≤ rank g
  pub drafts : List Draft
  pub first : ItemsRead [] items None (Some f) drafts

-- the error is out of memory, names the fault of the items, or the first item with too many variables
abbrev pub IsLibraryError : Data → CoreError → Type 0
IsLibraryError items e = IsErrorBy (IsLibraryFault items) (LibraryExceedsAt items) e
