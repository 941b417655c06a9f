-- A table of the marks of each address.
use Rattle.std.specs.Prelude.{◌≡◌, ℕ, ◌<◌, ◌^◌, All, List, [], length, Option, unwrap_or, nat_eq}
use Rattle.std.specs.HashMap.{get}
use Rattle.sch_word.specs.declared.mark.MarkKind.{MarkKind}
use Rattle.sch_asm.specs.declared.item.Mark.{Mark}
use Rattle.sch_asm.specs.Stands.{marks_at}
use Rattle.sch_count.specs.Tallied.{IsKnown}
use Rattle.sch_count.specs.declared.mark_table.MarkTable.{MarkTable}

-- what is entered at an address, and nothing where none is
abbrev pub entered_at : Option (List MarkKind) → List MarkKind
entered_at kinds = unwrap_or kinds []

abbrev pub table_marks : MarkTable → ℕ → List MarkKind
table_marks t address = entered_at (get nat_eq t.kinds address)

-- The table has at each address the marks of this address, in their order.
abbrev pub IsTable : List Mark → MarkTable → Type 0
IsTable marks t = (address : ℕ) → table_marks t address ≡ marks_at marks address

-- each entry is that of one of these bodies, and a list of marks is no longer than memory
pub record AreKnown (bodies : ℕ) (t : MarkTable) : Type 0 where
  pub known : (address : ℕ) → All (IsKnown bodies) (table_marks t address)
  pub few : (address : ℕ) → length (table_marks t address) < 2 ^ 64
