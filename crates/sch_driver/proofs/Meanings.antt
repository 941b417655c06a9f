-- A text has one meaning with the text of a library.
use Rattle.std.proofs.Common.{◌≡◌, ℕ, List, sym, subst}
use Rattle.sch_read.specs.Grammar.{Data}
use Rattle.sch_read.specs.Text.{Spells}
use Rattle.sch_read.proofs.texts.TextAnswers.{spells_one}
use Rattle.sch_link_tables.specs.Programs.{Definition}
use Rattle.sch_core.specs.Libraries.{IsLibraryOf}
use Rattle.sch_core.specs.Programs.{IsProgramOf}
use Rattle.sch_core.proofs.DataLaws.{one_program}
use Rattle.sch_core.proofs.items.LibraryLaws.{one_library}
use Rattle.sch_lang.specs.Tree.{Source}
use Rattle.sch_driver.specs.Causes.{IsLibraryText, Means}

-- the text of a library stands for one list of definitions
pub same_library : (library : List ℕ) (ds es : List Definition) → IsLibraryText library ds → IsLibraryText library es → ds ≡ es
same_library library ds es a b =
    one_library a.items ds es a.stands (subst (λ items. IsLibraryOf items es) (sym (spells_one library a.items b.items a.spells b.spells)) b.stands)

-- what means a program spells these data, with these definitions
pub program_in : (library text : List ℕ) (p : Source) (m : Means library text p) (ds : List Definition) (items : Data) → IsLibraryText library ds → Spells text items → IsProgramOf ds items p
program_in library text p m ds items defined spells =
    subst (λ xs. IsProgramOf ds xs p) (spells_one text m.items items m.spells spells)
    (subst (λ es. IsProgramOf es m.items p) (same_library library m.definitions ds m.defined defined) m.program)

pub same_program : (library text : List ℕ) (p q : Source) → Means library text p → Means library text q → p ≡ q
same_program library text p q m n = one_program m.definitions m.items p q m.program (program_in library text q n m.definitions m.items m.defined m.spells)
