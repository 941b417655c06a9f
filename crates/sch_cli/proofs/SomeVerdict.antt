-- A text has a verdict.
use Rattle.std.proofs.Common.{◌≢◌, ◌≤◌, ◌<◌, ◌⊎◌, inl, inr, ℕ, List, length, refl, Result, Err}
use Rattle.std.specs.Prelude.{⊤}
use Rattle.std.proofs.lemmas.Bool.{cases_lt}
use Rattle.sch_lang.specs.Tree.{Source}
use Rattle.sch_prelude.specs.LibraryText.{library_text}
use Rattle.sch_read.specs.Fault.{Fault, Unclosed, StrayClose, DeepNesting, LiteralRange, Flawed}
use Rattle.sch_read.specs.Grammar.{Data, bad_token, bad_number, bad_string}
use Rattle.sch_read.specs.Text.{Spells, HasFault}
use Rattle.sch_read.proofs.texts.TextAnswers.{spells_or_faulty}
use Rattle.sch_core.specs.Answer as expanding
use Rattle.sch_core.specs.Libraries.{IsLibraryOf, IsLibraryError}
use Rattle.sch_core.specs.Programs.{IsProgramOf}
use Rattle.sch_core.specs.declared.error.CoreError.{CoreError}
use Rattle.sch_core.specs.declared.error.CoreError.TheVariants as core
use Rattle.sch_core.proofs.DataLaws.{program_or_error}
use Rattle.sch_core.proofs.items.LibraryLaws.{library_or_error}
use Rattle.sch_link_tables.specs.Programs.{Definition}
use Rattle.sch_driver.specs.Causes.{IsErrorOf, IsLibraryText, IsReadErrorOf, max_source_size}
use Rattle.sch_driver.proofs.SmallTexts.{error_of}
use Rattle.sch_driver.specs.declared.error.CompileError.TheVariants as compiling
use Rattle.sch_driver.specs.declared.error.Part.{Part}
use Rattle.sch_driver.specs.declared.error.Part.TheVariants.{Library, User}
use Rattle.sch_cli.specs.declared.failure.Failure.{Failure}
use Rattle.sch_cli.specs.declared.failure.Failure.TheVariants as failure
use Rattle.sch_cli.specs.declared.status.Status.TheVariants.{OutOfMemory}
use Rattle.sch_cli.specs.Failures.{core_status, failure_status}
use Rattle.sch_cli.specs.Laws.{IsVerdict, built, by_size, refused}

abbrev Verdict : List ℕ → (depth : ℕ) → Type 0
Verdict text depth = (verdict : Result ⊤ Failure) × IsVerdict text depth verdict

read_error : (text : List ℕ) (f : Fault) → HasFault text f → IsReadErrorOf text (error_of f)
read_error text (Unclosed at) h = ((λ e. cc), h)
read_error text (StrayClose at) h = ((λ e. cc), h)
read_error text (Flawed at bad_token) h = ((λ e. cc), h)
read_error text (Flawed at bad_number) h = ((λ e. cc), h)
read_error text (Flawed at bad_string) h = ((λ e. cc), h)
read_error text (DeepNesting at) h = ((λ e. cc), h)
read_error text (LiteralRange at) h = ((λ e. cc), h)

read_known : (part : Part) (f : Fault) → failure_status (failure.Compile (compiling.Read part (error_of f))) ≢ OutOfMemory
read_known part (Unclosed at) e = cc
read_known part (StrayClose at) e = cc
read_known part (Flawed at bad_token) e = cc
read_known part (Flawed at bad_number) e = cc
read_known part (Flawed at bad_string) e = cc
read_known part (DeepNesting at) e = cc
read_known part (LiteralRange at) e = cc

core_known : (e : CoreError) → e ≢ core.Memory → core_status e ≢ OutOfMemory
core_known (core.BadForm at) k e = cc
core_known (core.Unbound at name) k e = cc
core_known (core.KeywordDefined at) k e = cc
core_known (core.Limit kind at) k e = cc
core_known core.Memory k e = k refl

too_long : failure_status failure.TooLong ≢ OutOfMemory
too_long e = cc

-- a verdict by an error of the reader's in a part, and by one of the expander's
unread : (text : List ℕ) (depth : ℕ) (part : Part) (f : Fault) → length text ≤ max_source_size → IsErrorOf library_text text depth (compiling.Read part (error_of f)) → Verdict text depth
unread text depth part f short h = (Err (failure.Compile (compiling.Read part (error_of f))), refused (failure.Compile (compiling.Read part (error_of f))) (short, h) (read_known part f))

unexpanded : (text : List ℕ) (depth : ℕ) (part : Part) (e : CoreError) → length text ≤ max_source_size → e ≢ core.Memory → IsErrorOf library_text text depth (compiling.Core part e)
    → Verdict text depth
unexpanded text depth part e short known h = (Err (failure.Compile (compiling.Core part e)), refused (failure.Compile (compiling.Core part e)) (short, h) (core_known e known))

of_data : (text : List ℕ) (depth : ℕ) (ds : List Definition) → IsLibraryText library_text ds → (items : Data) → length text ≤ max_source_size → Spells text items →
    ((p : Source) × IsProgramOf ds items p) ⊎ ((e : CoreError) × (e ≢ core.Memory) × expanding.IsErrorIn ds items e) → Verdict text depth
of_data text depth ds defined items short spells (inl found) = (
  by_size found.0 depth,
  built (by_size found.0 depth) found.0
      (record { short = short; means = record { definitions = ds; defined = defined; items = items; spells = spells; program = found.1 } }) refl,
)
of_data text depth ds defined items short spells (inr wrong) =
    unexpanded text depth User wrong.0 short wrong.1
    (record { known = wrong.1; definitions = ds; defined = defined; items = items; spells = spells; wrong = wrong.2 })

of_text : (text : List ℕ) (depth : ℕ) (ds : List Definition) → IsLibraryText library_text ds → length text ≤ max_source_size →
    ((items : Data) × Spells text items) ⊎ ((f : Fault) × HasFault text f) → Verdict text depth
of_text text depth ds defined short (inl found) = of_data text depth ds defined found.0 short found.1 (program_or_error ds found.0)
of_text text depth ds defined short (inr faulty) = unread text depth User faulty.0 short ((ds, defined), read_error text faulty.0 faulty.1)

of_items : (text : List ℕ) (depth : ℕ) (items : Data) → length text ≤ max_source_size → Spells library_text items →
    ((ds : List Definition) × IsLibraryOf items ds) ⊎ ((e : CoreError) × (e ≢ core.Memory) × IsLibraryError items e) → Verdict text depth
of_items text depth items short spells (inl found) =
    of_text text depth found.0 (record { items = items; spells = spells; stands = found.1 }) short (spells_or_faulty text)
of_items text depth items short spells (inr wrong) =
    unexpanded text depth Library wrong.0 short wrong.1 (record { known = wrong.1; items = items; spells = spells; wrong = wrong.2 })

of_library : (text : List ℕ) (depth : ℕ) → length text ≤ max_source_size → ((items : Data) × Spells library_text items) ⊎ ((f : Fault) × HasFault library_text f) → Verdict text depth
of_library text depth short (inl found) = of_items text depth found.0 short found.1 (library_or_error found.0)
of_library text depth short (inr faulty) = unread text depth Library faulty.0 short (read_error library_text faulty.0 faulty.1)

of_length : (text : List ℕ) (depth : ℕ) → (max_source_size < length text) ⊎ (length text ≤ max_source_size) → Verdict text depth
of_length text depth (inl long) = (Err failure.TooLong, refused failure.TooLong long too_long)
of_length text depth (inr short) = of_library text depth short (spells_or_faulty library_text)

pub some_verdict : (text : List ℕ) (depth : ℕ) → (verdict : Result ⊤ Failure) × IsVerdict text depth verdict
some_verdict text depth = of_length text depth (cases_lt max_source_size (length text))
