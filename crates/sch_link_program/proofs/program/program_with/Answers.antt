use Rattle.std.proofs.Common.{◌++◌, ◌∙◌, ap, refl}
use Rattle.sch_names.specs.NamesView.{names_of}
use Rattle.sch_sketch.specs.DraftView.{drafts_of}
use Rattle.sch_link_tables.specs.Named.{globals_in_each, symbols_in_each}
use Rattle.sch_link_tables.specs.Programs.{globals_of_each, symbols_of_each}
use Rattle.sch_link_program.specs.Definitions.{kept_definitions}
use Rattle.sch_lang.specs.Valid.{trees_in_range}
use Rattle.sch_link_program.proofs.FewDefinitions.{few_globals_named, few_symbols_named}
use Rattle.sch_link_program.proofs.ProgramConstants.{program_ranged}
use Rattle.sch_link_program.proofs.ProgramMade.{assembled, also_named}
use Rattle.sch_link_program.proofs.program.program_with.Goals as goal

pub number_program-requires : goal.number_program-requires
number_program-requires c =
    let ds = kept_definitions c.args.definitions.now in
    let own = names_of c.args.own.now.names.now in
    let forms = drafts_of c.args.forms.now in
    let named = c.args.own.now.named.now in
    let tables = c.in_ok-tables.ensures in
    record {
      formals = c.requires.formals;
      globals = few_globals_named ds forms c.requires.small own (also_named (globals_of_each ds) (globals_in_each own forms) named.globals.list refl refl tables.globals c.requires.globals);
      symbols = few_symbols_named (symbols_of_each ds ++ symbols_in_each forms) c.requires.few_symbols (also_named (symbols_of_each ds) (symbols_in_each forms) named.symbols.list refl refl tables.symbols c.requires.symbols);
      small = c.requires.small;
      bodies = c.requires.bodies;
      variables = c.requires.variables;
    }

pub returns-clause-made : goal.returns-clause-made
returns-clause-made c =
    let ds = kept_definitions c.args.definitions.now in
    let own = names_of c.args.own.now.names.now in
    let forms = drafts_of c.args.forms.now in
    let tables = c.in_ok-tables.tables in
    let named = c.args.own.now.named.now in
    let table = c.in_ok-tables.ensures in
    let numbered = c.in_ok-numbered.ensures in
    assembled ds own (names_of c.args.own.now.held.now) forms (names_of tables.globals.names) (names_of tables.symbols.names)
    (also_named (globals_of_each ds) (globals_in_each own forms) named.globals.list refl refl table.globals c.requires.globals)
    (also_named (symbols_of_each ds) (symbols_in_each forms) named.symbols.list refl refl table.symbols c.requires.symbols)
    c.symbol_list.result c.as_slice.result.now _ _ c.in_ok-globals.globals _ _
    (c.symbol_list.ensures ∙ table.listed.1) (c.as_slice.ensures ∙ table.listed.0) numbered.library numbered.forms numbered.sites numbered.literals c.in_ok-globals.ensures

pub returns-clause-ranged : goal.returns-clause-ranged
returns-clause-ranged c =
    let ds = kept_definitions c.args.definitions.now in
    let own = names_of c.args.own.now.names.now in
    let forms = drafts_of c.args.forms.now in
    ap trees_in_range (returns-clause-made c) ∙ program_ranged ds own (names_of c.args.own.now.held.now) forms c.in_ok-numbered.ensures.bodies c.in_ok-numbered.ensures.constants
