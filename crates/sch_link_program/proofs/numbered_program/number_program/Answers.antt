use Rattle.std.proofs.Common.{refl}
use Rattle.sch_names.specs.NamesView.{names_of}
use Rattle.sch_sketch.specs.DraftView.{drafts_of}
use Rattle.sch_link_tables.specs.Quoted.{literal_of}
use Rattle.sch_link_program.specs.Definitions.{kept_definitions}
use Rattle.sch_link_program.proofs.FewDefinitions.{room_for_definitions, room_for_forms}
use Rattle.sch_link_program.proofs.ProgramMade.{library_made, forms_made, sites_made, literals_made}
use Rattle.sch_link_program.proofs.numbered_program.number_program.Goals as goal

pub number_definitions-requires : goal.number_definitions-requires
number_definitions-requires c = record {
  formals = c.requires.formals;
  globals = c.requires.globals;
  symbols = c.requires.symbols;
  room = room_for_definitions (kept_definitions c.args.definitions.now) (drafts_of c.args.forms.now) c.requires.small c.new-out.result c.new-out.ensures.sites c.new-out.ensures.literals;
  variables = c.requires.bodies;
}

pub number_each-requires : goal.number_each-requires
number_each-requires c =
    let made = c.in_ok-library.ensures in
    record {
      names = (c.requires.globals, c.requires.symbols);
      room = room_for_forms (kept_definitions c.args.definitions.now) (drafts_of c.args.forms.now) c.requires.small c.new-out.result c.new-out.ensures.sites c.new-out.ensures.literals
          c.number_definitions.new.out (literal_of (names_of c.args.tables.now.symbols.names)) made.sites made.literals;
      variables = c.requires.variables;
    }

pub returns-clause-library : goal.returns-clause-library
returns-clause-library c =
    let none = c.new-out.result in
    let out = c.number_definitions.new.out in
    library_made (kept_definitions c.args.definitions.now) (names_of c.args.own.now) (drafts_of c.args.forms.now) (names_of c.args.tables.now.globals.names) (names_of c.args.tables.now.symbols.names)
    none.literals out.literals none.sites out.sites c.new-out.ensures.literals c.new-out.ensures.sites c.in_ok-library.library c.in_ok-library.ensures.made

pub returns-clause-forms : goal.returns-clause-forms
returns-clause-forms c =
    let none = c.new-out.result in
    let out = c.number_definitions.new.out in
    let made = c.in_ok-library.ensures in
    forms_made (kept_definitions c.args.definitions.now) (names_of c.args.own.now) (drafts_of c.args.forms.now) (names_of c.args.tables.now.globals.names) (names_of c.args.tables.now.symbols.names)
    none.literals out.literals none.sites out.sites c.new-out.ensures.literals c.new-out.ensures.sites made.literals c.in_ok-forms.forms _ refl made.sites c.in_ok-forms.ensures.made

pub returns-clause-sites : goal.returns-clause-sites
returns-clause-sites c =
    let none = c.new-out.result in
    let out = c.number_definitions.new.out in
    sites_made (kept_definitions c.args.definitions.now) (names_of c.args.own.now) (drafts_of c.args.forms.now) (names_of c.args.tables.now.globals.names) (names_of c.args.tables.now.symbols.names)
    none.literals out.literals none.sites out.sites c.new-out.ensures.literals c.new-out.ensures.sites _ c.in_ok-library.ensures.sites c.in_ok-forms.ensures.sites

pub returns-clause-literals : goal.returns-clause-literals
returns-clause-literals c =
    let none = c.new-out.result in
    let out = c.number_definitions.new.out in
    literals_made (kept_definitions c.args.definitions.now) (names_of c.args.own.now) (drafts_of c.args.forms.now) (names_of c.args.tables.now.globals.names) (names_of c.args.tables.now.symbols.names)
    none.literals out.literals none.sites out.sites c.new-out.ensures.literals c.new-out.ensures.sites c.in_ok-library.ensures.literals _ c.in_ok-forms.ensures.literals
