use Rattle.std.proofs.Common.{◌≤◌, length, arith, ap, sym, subst, ◌∙◌}
use Rattle.std.specs.Prelude.{IsTrue}
use Rattle.std.proofs.lemmas.List.{length-map}
use Rattle.sch_word.specs.runs.Orders.{is_order_table}
use Rattle.sch_word.proofs.facts.KnownErrors.{kept_error}
use Rattle.sch_lang.specs.Bodies.{bodies_of}
use Rattle.sch_lang.specs.ProgramView.{source}
use Rattle.sch_lang.specs.Run.{run}
use Rattle.sch_lang.proofs.BodyCounts.{bodies_within_nodes}
use Rattle.sch_control.specs.ProgramView as control
use Rattle.sch_prelude.specs.LibraryText.{library_text}
use Rattle.sch_driver.specs.Causes.{IsErrorOf, Means, max_source_size}
use Rattle.sch_driver.specs.FitsProgram.{FitsProgram}
use Rattle.sch_driver.proofs.ProgramFits.{program_fits}
use Rattle.sch_driver.proofs.LibraryCount.{library_within}
use Rattle.sch_driver.proofs.Images.{bound_chain, frame_chain, names_of_codes, too_large}
use Rattle.sch_driver.proofs.PrintableListing.{printable}
use Rattle.sch_driver.proofs.RoundSteps.{in_time}
use Rattle.sch_driver.proofs.SmallTexts.{completed}
use Rattle.sch_driver.proofs.labels.FewLabels.{few_labels}
use Rattle.sch_driver.proofs.compile.Goals as goal

pub read_program-requires : goal.read_program-requires
read_program-requires c = record {
  small = subst (λ l. length l ≤ max_source_size) (sym c.library_text.ensures.is) c.library_text.ensures.short;
  short = c.requires.short;
}

pub control_program-requires : goal.control_program-requires
control_program-requires c =
    let p = source c.in_ok-program.program in
    let bytes = ap length c.library_text.ensures.is in
    record {
      small = omega (arith, c.in_ok-program.ensures.size);
      library = omega (arith, library_within _ c.args.text.now p c.in_ok-program.ensures.means, bytes, c.library_text.ensures.short);
    }

pub assemble-requires : goal.assemble-requires
assemble-requires c =
    let made = c.in_ok-control.ensures in
    record {
      covered = made.covered;
      labels = few_labels (source c.in_ok-program.program) (control.source c.in_ok-control.control) c.in_ok-program.ensures.size made.calls made.tests made.names;
    }

pub returns-in_err-program-clause-refused : goal.returns-in_err-program-clause-refused
returns-in_err-program-clause-refused c =
    kept_error c.from_residual.result c.in_err-program.field-0.0 (IsErrorOf library_text c.args.text.now c.args.limits.depth) c.from_residual.ensures.1
    (subst (λ l. IsErrorOf l c.args.text.now c.args.limits.depth c.in_err-program.field-0.0) c.library_text.ensures.is (c.in_err-program.ensures.refused c.args.limits.depth))

pub returns-in_err-assembled-clause-refused : goal.returns-in_err-assembled-clause-refused
returns-in_err-assembled-clause-refused c =
    let text = c.args.text.now in
    let depth = c.args.limits.depth in
    let cause = c.in_err-assembled.field-0.0 in
    let made = c.in_ok-control.ensures in
    let fits : FitsProgram (source c.in_ok-program.program) (control.source c.in_ok-control.control) =
    program_fits (source c.in_ok-program.program) c.in_ok-control.control made.made made.runs made.covered
    made.statics made.library made.names made.each_variables made.calls made.tests made.dropped in
    let means = subst (λ l. Means l text (source c.in_ok-program.program)) c.library_text.ensures.is c.in_ok-program.ensures.means in
    kept_error c.from_residual-in_err-assembled.result cause (IsErrorOf library_text text depth) c.from_residual-in_err-assembled.ensures.1
    (too_large library_text text (source c.in_ok-program.program) (control.source c.in_ok-control.control) depth cause means
    fits made.work made.variables c.in_err-assembled.ensures.refused)

pub returns-clause-compiled : goal.returns-clause-compiled
returns-clause-compiled c =
    let p = source c.in_ok-program.program in
    let control_bodies = (control.source c.in_ok-control.control).bodies in
    let orders = c.in_ok-assembled.assembled.orders in
    let runs = c.in_ok-control.ensures.runs in
    let made = c.in_ok-control.ensures in
    let fits : FitsProgram (source c.in_ok-program.program) (control.source c.in_ok-control.control) =
    program_fits (source c.in_ok-program.program) c.in_ok-control.control made.made made.runs made.covered
    made.statics made.library made.names made.each_variables made.calls made.tests made.dropped in
    let does = c.in_ok-assembled.ensures.does in
    let limits = c.args.limits in
    let same = runs.same orders c.in_ok-assembled.ensures.table limits.heap limits.depth in
    record {
      program = p;
      means = subst (λ l. Means l c.args.text.now p) c.library_text.ensures.is c.in_ok-program.ensures.means;
      is_program = record {
        image = c.in_ok-assembled.assembled.image;
        does = record {
          laid_out = does.laid_out;
          follows = record {
            runs = does.follows (run p orders limits.heap limits.depth) same;
            sites = c.in_ok-program.program.sited;
            orders = subst (λ sites. IsTrue (is_order_table sites orders)) runs.sites c.in_ok-assembled.ensures.permutations;
          };
        };
        bytes = c.in_ok-file.ensures.bytes;
        stands = c.in_ok-file.ensures.stands;
      };
      listed = record {
        program = control.source c.in_ok-control.control;
        fits_program = fits;
        orders = c.in_ok-assembled.ensures.orders;
        cycles = c.in_ok-assembled.ensures.cycles;
        words = does.frame.largest;
        few = omega (arith, ap length fits.names, length-map control_bodies (λ b. b.name), length-map (bodies_of p) (λ b. b.name), bodies_within_nodes p, c.in_ok-program.ensures.size);
        marks = c.in_ok-assembled.ensures.marks;
        stand = c.in_ok-assembled.ensures.stand;
        made = c.in_ok-assembled.ensures.chain;
      };
      size = does.size;
      bound = bound_chain p (control.source c.in_ok-control.control) does.laid_out.code does.bound c.in_ok-control.ensures.work;
      names = c.in_ok-assembled.ensures.names ∙ names_of_codes _ ∙ c.in_ok-control.ensures.names;
      counted = does.counted;
      words_end = does.words_end;
      room = does.room;
      few_words = does.frame.few;
      words_bound = (frame_chain p (control.source c.in_ok-control.control) c.in_ok-assembled.assembled.frame_words fits does.frame c.in_ok-control.ensures.variables).bound;
      fits = does.fits;
      ends = does.ends (run p orders limits.heap limits.depth) same;
      marked = does.marked (run p orders limits.heap limits.depth) same;
      stores = does.stores;
      lazily = does.lazily (run p orders limits.heap limits.depth) same;
    }

pub returns-clause-printable : goal.returns-clause-printable
returns-clause-printable c = printable library_text c.args.text.now c.args.limits.heap c.args.limits.depth c.in_ok-file.file _ (returns-clause-compiled c)

pub returns-in_err-program-clause-complete : goal.returns-in_err-program-clause-complete
returns-in_err-program-clause-complete c = completed c.from_residual.result library_text c.args.text.now c.args.limits.depth (returns-in_err-program-clause-refused c)

pub returns-in_err-assembled-clause-complete : goal.returns-in_err-assembled-clause-complete
returns-in_err-assembled-clause-complete c =
    completed c.from_residual-in_err-assembled.result library_text c.args.text.now c.args.limits.depth (returns-in_err-assembled-clause-refused c)

pub returns-clause-in_time : goal.returns-clause-in_time
returns-clause-in_time c = in_time library_text c.args.text.now c.args.limits.heap c.args.limits.depth c.in_ok-file.file _ (returns-clause-compiled c)
