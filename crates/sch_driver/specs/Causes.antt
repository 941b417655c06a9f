-- What a text means with a library's, and why one is not compiled.
use Rattle.std.specs.Prelude.{◌≡◌, ◌≢◌, ◌<◌, ◌≤◌, ℕ, ◌+◌, ◌*◌, ◌^◌, List}
use Rattle.sch_word.specs.runs.ProgramLayout.{max_text_size}
use Rattle.sch_lang.specs.Tree as tree
use Rattle.sch_lang.specs.Bodies.{most_variables}
use Rattle.sch_lang.specs.Measures.{program_size}
use Rattle.sch_read.specs.Answer as reading
use Rattle.sch_read.specs.declared.error.ReadError.{ReadError}
use Rattle.sch_read.specs.declared.error.ReadError.TheVariants as read
use Rattle.sch_read.specs.Grammar.{Data}
use Rattle.sch_read.specs.Text.{Spells}
use Rattle.sch_core.specs.Answer as expanding
use Rattle.sch_core.specs.declared.error.CoreError.{CoreError}
use Rattle.sch_core.specs.declared.error.CoreError.TheVariants as core
use Rattle.sch_core.specs.Libraries.{IsLibraryOf, IsLibraryError}
use Rattle.sch_core.specs.Programs.{IsProgramOf}
use Rattle.sch_link_tables.specs.Programs.{Definition}
use Rattle.sch_control.specs.Tree as control
use Rattle.sch_registers.specs.Registers.{registers_words}
use Rattle.sch_frames.specs.Sizes.{spread_words}
use Rattle.sch_frames.specs.Valid.{max_words}
use Rattle.sch_select.specs.Program.{frames_bytes, max_stack}
use Rattle.sch_passes.specs.Chain.{control_of}
use Rattle.sch_driver.specs.declared.error.Part.{Part}
use Rattle.sch_driver.specs.declared.error.Part.TheVariants.{Library, User}
use Rattle.sch_driver.specs.declared.error.CompileError.{CompileError}
use Rattle.sch_driver.specs.declared.error.CompileError.TheVariants.{Read, Core, TextTooLarge, StackTooLarge, Memory}
use Rattle.sch_driver.specs.FitsProgram.{FitsProgram}
use Rattle.sch_driver.specs.Framed.{framed_size}

-- the most bytes of a source: 1 MiB (the project's own)
abbrev pub max_source_size : ℕ
max_source_size = 2 ^ 20

-- The text of a library is read and expanded: it spells items, and they stand for these definitions.
pub record IsLibraryText (library : List ℕ) (ds : List Definition) : Type 0 where
  pub items : Data
  pub spells : Spells library items
  pub stands : IsLibraryOf items ds

-- The text is read and expanded with the text of a library: it spells data, and with the definitions of the library
-- they have this core program.
pub record Means (library text : List ℕ) (p : tree.Source) : Type 0 where
  pub definitions : List Definition
  pub defined : IsLibraryText library definitions
  pub items : Data
  pub spells : Spells text items
  pub program : IsProgramOf definitions items p

-- the most bytes of the text of an image, by the size of its core program: a part for the routines and the
-- starts of forms, and a part for each unit of the size
abbrev pub text_base : ℕ
text_base = 2 ^ 16

abbrev pub text_bound : tree.Source → ℕ
text_bound p = text_base + 512 * program_size p

-- the most words of a frame, by the variables of a program's bodies (the project's own)
abbrev pub frame_bound : tree.Source → ℕ
frame_bound p = 2 * most_variables p + spread_words

-- how many words the largest frame has of what is compiled of a program, and how many bytes the text
unfoldable pub frame_words_of : tree.Source → ℕ
frame_words_of p = registers_words (control_of p).bodies

unfoldable pub text_bytes_of : tree.Source → ℕ
text_bytes_of p = framed_size (control_of p)

-- Laid out by registers, a control program that fits the core program has a largest frame of this number of words.
pub record HasFrames (program : tree.Source) (words : ℕ) : Type 0 where
  pub control : control.Source
  pub fits_program : FitsProgram program control
  pub largest : words ≡ registers_words control.bodies
  pub few : words ≤ max_words
  pub bound : words ≤ frame_bound program

-- A text that means a program, and the words of its largest frame; at this depth such frames would take more than the
-- 1,073,741,824 bytes of a stack.
pub record IsStackTooLarge (library text : List ℕ) (depth words : ℕ) : Type 0 where
  pub program : tree.Source
  pub means : Means library text program
  pub large : max_stack < frames_bytes words depth
  pub frame : HasFrames program words

-- A text that means a program, and the bytes of the text that its control program has: they are more than the text of
-- an image may have, and no more than what that of its core program has at most. The frames fit the stack at this depth.
pub record IsTextTooLarge (library text : List ℕ) (depth bytes : ℕ) : Type 0 where
  pub program : tree.Source
  pub means : Means library text program
  pub words : ℕ
  pub frame : HasFrames program words
  pub fits : frames_bytes words depth ≤ max_stack
  pub large : max_text_size < bytes
  pub size : bytes ≡ framed_size frame.control
  pub bound : bytes ≤ text_bound program

-- an error of a text that is not read
abbrev pub IsReadErrorOf : List ℕ → ReadError → Type 0
IsReadErrorOf text error = (error ≢ read.Memory) × reading.IsErrorIn text error

-- The text of a library is read: it spells items, and they stand for no definitions, by this error.
pub record IsLibraryErrorOf (library : List ℕ) (error : CoreError) : Type 0 where
  pub known : error ≢ core.Memory
  pub items : Data
  pub spells : Spells library items
  pub wrong : IsLibraryError items error

-- The text of a library is read and expanded, and the text is read: it spells data, and with the definitions of the
-- library they have no core program, by this error.
pub record IsCoreErrorOf (library text : List ℕ) (error : CoreError) : Type 0 where
  pub known : error ≢ core.Memory
  pub definitions : List Definition
  pub defined : IsLibraryText library definitions
  pub items : Data
  pub spells : Spells text items
  pub wrong : expanding.IsErrorIn definitions items error

-- The error is one of the text of a library, or else one of the text, compiled for a depth. Out of memory may come in
-- place of any other, and is named so alone.
abbrev pub IsErrorOf : (library text : List ℕ) → (depth : ℕ) → CompileError → Type 0
IsErrorOf library text depth (Read Library error) = IsReadErrorOf library error
IsErrorOf library text depth (Core Library error) = IsLibraryErrorOf library error
IsErrorOf library text depth (Read User error) = ((ds : List Definition) × IsLibraryText library ds) × IsReadErrorOf text error
IsErrorOf library text depth (Core User error) = IsCoreErrorOf library text error
IsErrorOf library text depth (TextTooLarge bytes) = IsTextTooLarge library text depth bytes
IsErrorOf library text depth (StackTooLarge words) = IsStackTooLarge library text depth words
IsErrorOf library text depth Memory = Unit {0}

-- the error of a text that is not read, and of data that are not expanded
abbrev pub of_reading : Part → ReadError → CompileError
of_reading part read.Memory = Memory
of_reading part error = Read part error

abbrev pub of_expanding : Part → CoreError → CompileError
of_expanding part core.Memory = Memory
of_expanding part error = Core part error
