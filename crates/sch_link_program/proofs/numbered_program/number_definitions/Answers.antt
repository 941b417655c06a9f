use Rattle.std.proofs.Common.{length}
use Rattle.sch_names.specs.NamesView.{names_of}
use Rattle.sch_link_tables.specs.Quoted.{literal_of, quotes_in}
use Rattle.sch_sketch.specs.DraftView.{draft_of}
use Rattle.sch_link_drafts.proofs.NumberSteps.{sites_more, literals_more}
use Rattle.sch_link_program.proofs.DefinitionSteps.{room_here, next_room, next_widths, next_quotes, next_bodies, next_procedures, end_procedures, end_bodies}
use Rattle.sch_link_program.proofs.FewDefinitions.{formals_at, variables_at}
use Rattle.sch_link_program.proofs.numbered_program.number_definitions.Goals as goal

pub number_definition-requires : goal.number_definition-requires
number_definition-requires c = record {
  formals = formals_at c.args.definitions.now c.loop-d.d-index c.d-item.result c.loop-d-test.true c.d-item.is c.requires.formals;
  globals = c.requires.globals;
  symbols = c.requires.symbols;
  room = room_here c.args.definitions.now c.loop-d.d-index c.d-item.result c.loop-d-test.true c.d-item.is c.loop-d.out c.loop-d.invariant.room;
  variables = variables_at c.args.definitions.now c.loop-d.d-index c.d-item.result c.loop-d-test.true c.d-item.is c.requires.variables;
}

pub loop-d-preserved : goal.loop-d-preserved
loop-d-preserved c =
    let ds = c.args.definitions.now in
    let i = c.loop-d.d-index in
    let d = c.d-item.result in
    let g = names_of c.args.tables.now.globals.names in
    let s = names_of c.args.tables.now.symbols.names in
    let made = c.in_ok-l.ensures in
    record {
      made = rw c.in_ok-push.ensures.ok (next_procedures ds i d c.loop-d-test.true c.d-item.is g s c.loop-d.all c.in_ok-l.l (length c.loop-d.out.sites) (length c.loop-d.out.literals) _ _ _ made.head made.made (sites_more c.loop-d.out.sites _ made.sites) (literals_more (literal_of s) c.loop-d.out.literals _ (quotes_in (draft_of d.body.now)) made.literals) c.loop-d.invariant.made);
      sites = next_widths ds i d c.loop-d-test.true c.d-item.is _ _ _ made.sites c.loop-d.invariant.sites;
      literals = next_quotes ds i d c.loop-d-test.true c.d-item.is (literal_of s) _ _ _ made.literals c.loop-d.invariant.literals;
      room = next_room ds i d c.loop-d-test.true c.d-item.is c.loop-d.out c.loop-d.invariant.room _ (sites_more c.loop-d.out.sites _ made.sites) (literals_more (literal_of s) c.loop-d.out.literals _ (quotes_in (draft_of d.body.now)) made.literals);
      bodies = next_bodies ds i d c.loop-d-test.true c.d-item.is made.constants c.loop-d.invariant.bodies;
    }

pub returns-clause-made : goal.returns-clause-made
returns-clause-made c =
    end_procedures c.args.definitions.now c.loop-d.d-index (names_of c.args.tables.now.globals.names) (names_of c.args.tables.now.symbols.names) c.loop-d.all _ _ _ c.loop-d-test.false c.loop-d.invariant.made

pub returns-clause-constants : goal.returns-clause-constants
returns-clause-constants c = end_bodies c.args.definitions.now c.loop-d.d-index c.loop-d-test.false c.loop-d.invariant.bodies
