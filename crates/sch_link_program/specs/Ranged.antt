-- Programs whose own constants are in range, whatever their literals have.
use Rattle.std.specs.Prelude.{IsTrue, List}
use Rattle.sch_lang.specs.Tree.{Source}
use Rattle.sch_lang.specs.Valid.{trees_in_range, is_valid}
use Rattle.sch_link_tables.specs.Constants.{HaveConstants}
use Rattle.sch_link_tables.specs.Programs.{Definition, procedures_of_each}

-- what is known of a program but for the constants in its trees, which have types
abbrev pub IsValidOnceRanged : Source → Type 0
IsValidOnceRanged p = IsTrue (trees_in_range p) → IsTrue (is_valid p)

-- each constant of the bodies of definitions is one that a program may have
abbrev pub BodiesHaveConstants : List Definition → Type 0
BodiesHaveConstants ds = HaveConstants (procedures_of_each ds)
