-- The errors of the parts are errors of the compilation.
use Rattle.std.proofs.Common.{◌≢◌, ℕ, List, sym, subst}
use Rattle.sch_read.specs.Grammar.{Data}
use Rattle.sch_read.specs.Text.{Spells}
use Rattle.sch_read.specs.declared.error.ReadError.{ReadError}
use Rattle.sch_read.specs.declared.error.ReadError.TheVariants as read
use Rattle.sch_link_tables.specs.Programs.{Definition}
use Rattle.sch_core.specs.declared.error.CoreError.{CoreError}
use Rattle.sch_core.specs.declared.error.CoreError.TheVariants as core
use Rattle.sch_driver.specs.declared.error.Part.{Part}
use Rattle.sch_driver.specs.declared.error.Part.TheVariants.{Library, User}
use Rattle.sch_driver.specs.declared.error.CompileError.{CompileError}
use Rattle.sch_driver.specs.declared.error.CompileError.TheVariants as compiling
use Rattle.sch_driver.specs.Causes.{IsErrorOf, IsLibraryText, of_reading, of_expanding}
use Rattle.sch_driver.specs.PartErrors.{FailsToRead, FailsToDefine, FailsToExpand}

-- what holds of being out of memory, and of any other error, named as one of a part
named_read : (part : Part) (cause : ReadError) (P : CompileError → Type 0) → P compiling.Memory → (cause ≢ read.Memory → P (compiling.Read part cause)) → P (of_reading part cause)
named_read part read.Memory P m h = m
named_read part (read.Unclosed at) P m h = h (λ e. cc)
named_read part (read.StrayClose at) P m h = h (λ e. cc)
named_read part (read.BadToken at) P m h = h (λ e. cc)
named_read part (read.BadNumber at) P m h = h (λ e. cc)
named_read part (read.BadString at) P m h = h (λ e. cc)
named_read part (read.DeepNesting at) P m h = h (λ e. cc)
named_read part (read.LiteralRange at) P m h = h (λ e. cc)

named_core : (part : Part) (cause : CoreError) (P : CompileError → Type 0) → P compiling.Memory → (cause ≢ core.Memory → P (compiling.Core part cause)) → P (of_expanding part cause)
named_core part core.Memory P m h = m
named_core part (core.BadForm at) P m h = h (λ e. cc)
named_core part (core.Unbound at name) P m h = h (λ e. cc)
named_core part (core.KeywordDefined at) P m h = h (λ e. cc)
named_core part (core.Limit kind at) P m h = h (λ e. cc)

module _ (library text : List ℕ) (depth : ℕ) (error : CompileError) where
  pub unread_library : FailsToRead Library library error → IsErrorOf library text depth error
  unread_library u = subst (IsErrorOf library text depth) (sym u.1) (named_read Library u.0 (IsErrorOf library text depth) tt (λ known. (known, u.2)))

  pub undefined_library : (items : Data) → Spells library items → FailsToDefine items error → IsErrorOf library text depth error
  undefined_library items spells u =
      subst (IsErrorOf library text depth) (sym u.1)
      (named_core Library u.0 (IsErrorOf library text depth) tt (λ known. record { known = known; items = items; spells = spells; wrong = u.2 }))

  pub unread_text : (ds : List Definition) → IsLibraryText library ds → FailsToRead User text error → IsErrorOf library text depth error
  unread_text ds defined u = subst (IsErrorOf library text depth) (sym u.1) (named_read User u.0 (IsErrorOf library text depth) tt (λ known. ((ds, defined), (known, u.2))))

  pub unexpanded_text : (ds : List Definition) → IsLibraryText library ds → (items : Data) → Spells text items → FailsToExpand ds items error → IsErrorOf library text depth error
  unexpanded_text ds defined items spells u =
      subst (IsErrorOf library text depth) (sym u.1)
      (named_core User u.0 (IsErrorOf library text depth) tt
      (λ known. record { known = known; definitions = ds; defined = defined; items = items; spells = spells; wrong = u.2 }))
