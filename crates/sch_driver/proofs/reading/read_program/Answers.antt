use Rattle.std.proofs.Common.{ℕ, sym, subst}
use Rattle.sch_word.proofs.facts.KnownErrors.{kept_error}
use Rattle.sch_read.specs.Text.{Spells}
use Rattle.sch_read.specs.Views.{data_of}
use Rattle.sch_link_program.specs.Definitions.{definitions_of}
use Rattle.sch_core.specs.Programs.{IsProgramOf}
use Rattle.sch_lang.specs.ProgramView.{source}
use Rattle.sch_driver.specs.Causes.{IsErrorOf, IsLibraryText}
use Rattle.sch_driver.proofs.PartErrors.{unread_library, undefined_library, unread_text, unexpanded_text}
use Rattle.sch_driver.proofs.reading.read_program.Goals as goal

pub returns-in_err-definitions-clause-refused : goal.returns-in_err-definitions-clause-refused
returns-in_err-definitions-clause-refused c =
    let library = c.args.library.now in
    let text = c.args.text.now in
    let e = c.in_err-definitions.field-0.0 in
    kept_error c.from_residual.result e (λ e. (depth : ℕ) → IsErrorOf library text depth e) c.from_residual.ensures.1
    (λ depth. unread_library library text depth e c.in_err-definitions.ensures.refused)

pub returns-in_err-known-clause-refused : goal.returns-in_err-known-clause-refused
returns-in_err-known-clause-refused c =
    let library = c.args.library.now in
    let text = c.args.text.now in
    let spelled = subst (λ l. Spells library (data_of l)) (sym c.as_slice.ensures) c.in_ok-definitions.ensures.found in
    let e = c.in_err-known.field-0.0 in
    kept_error c.from_residual-in_err-known.result e (λ e. (depth : ℕ) → IsErrorOf library text depth e) c.from_residual-in_err-known.ensures.1
    (λ depth. undefined_library library text depth e (data_of c.as_slice.result.now) spelled c.in_err-known.ensures.refused)

pub returns-in_err-items-clause-refused : goal.returns-in_err-items-clause-refused
returns-in_err-items-clause-refused c =
    let library = c.args.library.now in
    let text = c.args.text.now in
    let spelled = subst (λ l. Spells library (data_of l)) (sym c.as_slice.ensures) c.in_ok-definitions.ensures.found in
    let ds = definitions_of c.in_ok-known.known.definitions in
    let defined : IsLibraryText library ds = record { items = data_of c.as_slice.result.now; spells = spelled; stands = c.in_ok-known.ensures.found } in
    let e = c.in_err-items.field-0.0 in
    kept_error c.from_residual-in_err-items.result e (λ e. (depth : ℕ) → IsErrorOf library text depth e) c.from_residual-in_err-items.ensures.1
    (λ depth. unread_text library text depth e ds defined c.in_err-items.ensures.refused)

pub returns-in_err-program-clause-refused : goal.returns-in_err-program-clause-refused
returns-in_err-program-clause-refused c =
    let library = c.args.library.now in
    let text = c.args.text.now in
    let spelled = subst (λ l. Spells library (data_of l)) (sym c.as_slice.ensures) c.in_ok-definitions.ensures.found in
    let ds = definitions_of c.in_ok-known.known.definitions in
    let defined : IsLibraryText library ds = record { items = data_of c.as_slice.result.now; spells = spelled; stands = c.in_ok-known.ensures.found } in
    let e = c.in_err-program.field-0.0 in
    kept_error c.from_residual-in_err-program.result e (λ e. (depth : ℕ) → IsErrorOf library text depth e) c.from_residual-in_err-program.ensures.1
    (λ depth. unexpanded_text library text depth e ds defined (data_of c.as_slice-2.result.now)
    (subst (λ l. Spells text (data_of l)) (sym c.as_slice-2.ensures) c.in_ok-items.ensures.found) c.in_err-program.ensures.refused)

pub returns-clause-means : goal.returns-clause-means
returns-clause-means c =
    let library = c.args.library.now in
    let text = c.args.text.now in
    let spelled = subst (λ l. Spells library (data_of l)) (sym c.as_slice.ensures) c.in_ok-definitions.ensures.found in
    let ds = definitions_of c.in_ok-known.known.definitions in
    let defined : IsLibraryText library ds = record { items = data_of c.as_slice.result.now; spells = spelled; stands = c.in_ok-known.ensures.found } in
    let p = source c.in_ok-program.program in
    record {
      definitions = ds;
      defined = defined;
      items = data_of c.in_ok-items.items;
      spells = c.in_ok-items.ensures.found;
      program = subst (λ l. IsProgramOf ds (data_of l) p) c.as_slice-2.ensures c.in_ok-program.ensures.found;
    }
