-- The text of the library that programs are compiled with.
use Rattle.std.specs.Prelude.{ℕ, List}
use Rattle.sch_prelude.specs.declared.TheConstants.{LIBRARY}

-- its bytes
unfoldable pub library_text : List ℕ
library_text = LIBRARY.now
