-- A text that means a small program has no error but a lack of memory.
use Rattle.std.proofs.Common.{◌≡◌, ◌≢◌, ◌≤◌, ◌*◌, ℕ, suc, List, refl, sym, subst, arith}
use Rattle.std.specs.Prelude.{IfErr, Result, Ok, Err}
use Rattle.std.proofs.lemmas.Nat.{mul-le}
use Rattle.sch_lang.specs.Tree.{Source}
use Rattle.sch_read.specs.Fault.{Fault, Unclosed, StrayClose, DeepNesting, LiteralRange, Flawed}
use Rattle.sch_read.specs.Grammar.{Data, bad_token, bad_number, bad_string}
use Rattle.sch_read.specs.Text.{Spells, HasFault}
use Rattle.sch_read.specs.declared.error.ReadError.{ReadError}
use Rattle.sch_read.specs.declared.error.ReadError.TheVariants as read
use Rattle.sch_read.proofs.texts.TextAnswers.{spells_faultless, spells_one}
use Rattle.sch_core.specs.Answer as expanding
use Rattle.sch_core.specs.Libraries.{IsLibraryError}
use Rattle.sch_core.specs.Programs.{IsProgramOf}
use Rattle.sch_core.specs.declared.error.CoreError.{CoreError}
use Rattle.sch_core.specs.declared.error.CoreError.TheVariants as core
use Rattle.sch_core.proofs.DataLaws.{never_both}
use Rattle.sch_core.proofs.items.LibraryLaws as definitions
use Rattle.sch_link_tables.specs.Programs.{Definition}
use Rattle.sch_driver.specs.Bounds.{IsSmall}
use Rattle.sch_driver.specs.Causes.{IsErrorOf, IsLibraryErrorOf, IsLibraryText, IsReadErrorOf, IsStackTooLarge, IsTextTooLarge, Means, frame_bound}
use Rattle.sch_driver.specs.declared.error.CompileError.{CompileError}
use Rattle.sch_driver.specs.declared.error.CompileError.TheVariants.{Read, Core, TextTooLarge, StackTooLarge, Memory}
use Rattle.sch_driver.specs.declared.error.Part.TheVariants.{Library, User}
use Rattle.sch_driver.proofs.KeptBounds.{told_bytes, told_words}
use Rattle.sch_driver.proofs.Meanings.{same_library}

-- ---- what is read has no fault, and what is expanded none

-- the error of the reader that names a fault
abbrev pub error_of : Fault → ReadError
error_of (Unclosed at) = read.Unclosed at
error_of (StrayClose at) = read.StrayClose at
error_of (Flawed at bad_token) = read.BadToken at
error_of (Flawed at bad_number) = read.BadNumber at
error_of (Flawed at bad_string) = read.BadString at
error_of (DeepNesting at) = read.DeepNesting at
error_of (LiteralRange at) = read.LiteralRange at

-- the fault of an error that is not out of memory
pub read_fault : (text : List ℕ) (e : ReadError) → IsReadErrorOf text e → (f : Fault) × HasFault text f × (e ≡ error_of f)
read_fault text read.Memory h = absurd (h.0 refl)
read_fault text (read.Unclosed at) h = (Unclosed at, h.1, refl)
read_fault text (read.StrayClose at) h = (StrayClose at, h.1, refl)
read_fault text (read.BadToken at) h = (Flawed at bad_token, h.1, refl)
read_fault text (read.BadNumber at) h = (Flawed at bad_number, h.1, refl)
read_fault text (read.BadString at) h = (Flawed at bad_string, h.1, refl)
read_fault text (read.DeepNesting at) h = (DeepNesting at, h.1, refl)
read_fault text (read.LiteralRange at) h = (LiteralRange at, h.1, refl)

-- a text that spells data has no error of the reader
pub readable : (text : List ℕ) (items : Data) (e : ReadError) → Spells text items → IsReadErrorOf text e → ⊥
readable text items e spells wrong = let f = read_fault text e wrong in spells_faultless text items f.0 spells f.1

-- the text of a library that stands for definitions has no error of the expander
pub definable : (library : List ℕ) (ds : List Definition) (e : CoreError) → IsLibraryText library ds → IsLibraryErrorOf library e → ⊥
definable library ds e l h =
    h.known
    (definitions.never_both l.items ds e l.stands (subst (λ items. IsLibraryError items e) (sym (spells_one library l.items h.items l.spells h.spells)) h.wrong))

-- data with a program have no error
pub expandable : (ds : List Definition) (items xs : Data) (text : List ℕ) (e : CoreError) (p : Source)
    → e ≢ core.Memory → Spells text items → expanding.IsErrorIn ds items e → Spells text xs → IsProgramOf ds xs p → ⊥
expandable ds items xs text e p known a h b is =
    known (never_both ds xs p e is (subst (λ zs. expanding.IsErrorIn ds zs e) (spells_one text items xs a b) h))

-- ---- a small program

stack_fits : (p : Source) (depth words : ℕ) → IsSmall p depth → words ≤ frame_bound p → 8 * (words * suc depth) ≤ 1073741824
stack_fits p depth words small few =
    let within : 8 * (frame_bound p * suc depth) ≤ 1073741824 = small.stack in
    let fewer : words * suc depth ≤ frame_bound p * suc depth = mul-le words (suc depth) (frame_bound p) (suc depth) few (omega arith) in
    scaled (words * suc depth) (frame_bound p * suc depth) fewer within
  where
    scaled : (a b : ℕ) → a ≤ b → 8 * b ≤ 1073741824 → 8 * a ≤ 1073741824
    scaled a b le fits = omega (arith, le, fits)

module _ (library text : List ℕ) (depth : ℕ) (p : Source) (means : Means library text p) (small : IsSmall p depth) where
  no_stack : (words : ℕ) → IsStackTooLarge library text depth words → ⊥
  no_stack words is =
      let fits = stack_fits p depth words small (told_words library text p means depth words is).1 in
      omega (arith, is.large, fits)

  no_text : (bytes : ℕ) → IsTextTooLarge library text depth bytes → ⊥
  no_text bytes is =
      let few = told_bytes library text p means depth bytes is in
      omega (arith, is.large, few, small.text)

  pub only_memory : (e : CompileError) → IsErrorOf library text depth e → e ≡ Memory
  only_memory (Read Library e) h = absurd (readable library means.defined.items e means.defined.spells h)
  only_memory (Core Library e) h = absurd (definable library means.definitions e means.defined h)
  only_memory (Read User e) h = absurd (readable text means.items e means.spells h.1)
  only_memory (Core User e) h =
      absurd
      (expandable h.definitions h.items means.items text e p h.known h.spells h.wrong means.spells
      (subst (λ ds. IsProgramOf ds means.items p) (same_library library means.definitions h.definitions means.defined h.defined) means.program))
  only_memory (StackTooLarge words) h = absurd (no_stack words h)
  only_memory (TextTooLarge bytes) h = absurd (no_text bytes h)
  only_memory Memory h = refl

-- an answer whose error has its cause in the text
pub completed : {A : Type 0} (r : Result A CompileError) (library text : List ℕ) (depth : ℕ) → IfErr r (IsErrorOf library text depth)
    → (p : Source) → Means library text p → IsSmall p depth → IfErr r (λ e. e ≡ Memory)
completed (Ok a) library text depth h p means small = tt
completed (Err e) library text depth h p means small = only_memory library text depth p means small e h
