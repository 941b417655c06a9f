use Rattle.std.proofs.Common.{◌≡◌, ◌++◌, drop, length, map}
use Rattle.sch_word.specs.values.LiteralView.{literal}
use Rattle.sch_lang.specs.View.{function}
use Rattle.sch_names.specs.NamesView.{names_of}
use Rattle.sch_link_tables.specs.Quoted.{literal_of}
use Rattle.sch_link_tables.specs.Programs.{quotes_of_each, widths_of_definitions, procedures}
use Rattle.sch_link_tables.specs.Room.{HasRoom}
use Rattle.sch_link_tables.proofs.ProcedureLists.{onto}
use Rattle.sch_link_program.specs.Definitions.{kept_definitions}
use Rattle.sch_link_program.specs.Ranged.{BodiesHaveConstants}
use Rattle.sch_link_program.specs.Size.{size_of_definitions}
use Rattle.sch_link_program.proofs.numbered_program.number_definitions.Given as goal

abbrev pub invariant-loop-d : goal.invariant-loop-d
invariant-loop-d l = record {
  made :
      onto (map function l.all) (procedures (names_of l.tables.globals.names) (names_of l.tables.symbols.names) (kept_definitions (drop l.d-index l.definitions)) (length l.out.sites) (length l.out.literals))
      ≡ procedures (names_of l.tables.globals.names) (names_of l.tables.symbols.names) (kept_definitions l.definitions) (length l.initial.out.sites) (length l.initial.out.literals);
  sites : l.out.sites ++ widths_of_definitions (kept_definitions (drop l.d-index l.definitions)) ≡ l.initial.out.sites ++ widths_of_definitions (kept_definitions l.definitions);
  literals :
      map literal l.out.literals ++ map (literal_of (names_of l.tables.symbols.names)) (quotes_of_each (kept_definitions (drop l.d-index l.definitions)))
      ≡ map literal l.initial.out.literals ++ map (literal_of (names_of l.tables.symbols.names)) (quotes_of_each (kept_definitions l.definitions));
  room : HasRoom l.out (size_of_definitions (kept_definitions (drop l.d-index l.definitions)));
  bodies : BodiesHaveConstants (kept_definitions (drop l.d-index l.definitions)) → BodiesHaveConstants (kept_definitions l.definitions);
}
