-- Why a part is not read, or not expanded: the error of the reader or of the expander, named as one of the part.
use Rattle.std.specs.Prelude.{◌≡◌, ℕ, List}
use Rattle.sch_read.specs.Answer as reading
use Rattle.sch_read.specs.Grammar.{Data}
use Rattle.sch_read.specs.declared.error.ReadError.{ReadError}
use Rattle.sch_link_tables.specs.Programs.{Definition}
use Rattle.sch_core.specs.Answer as expanding
use Rattle.sch_core.specs.Libraries.{IsLibraryError}
use Rattle.sch_core.specs.declared.error.CoreError.{CoreError}
use Rattle.sch_driver.specs.declared.error.Part.{Part}
use Rattle.sch_driver.specs.declared.error.Part.TheVariants.{Library, User}
use Rattle.sch_driver.specs.declared.error.CompileError.{CompileError}
use Rattle.sch_driver.specs.Causes.{of_reading, of_expanding}

abbrev pub FailsToRead : Part → List ℕ → CompileError → Type 0
FailsToRead part text e = (cause : ReadError) × (e ≡ of_reading part cause) × reading.IsErrorIn text cause

abbrev pub FailsToDefine : Data → CompileError → Type 0
FailsToDefine items e = (cause : CoreError) × (e ≡ of_expanding Library cause) × IsLibraryError items cause

abbrev pub FailsToExpand : List Definition → Data → CompileError → Type 0
FailsToExpand ds items e = (cause : CoreError) × (e ≡ of_expanding User cause) × expanding.IsErrorIn ds items cause
