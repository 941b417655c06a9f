use Rattle.std.proofs.Common.{◌≡◌, ◌++◌, true, drop, length, map}
use Rattle.sch_word.specs.values.LiteralView.{literal}
use Rattle.sch_lang.specs.View.{expression}
use Rattle.sch_names.specs.NamesView.{names_of}
use Rattle.sch_names.specs.ScopeView.{given_names}
use Rattle.sch_sketch.specs.DraftMeasures.{size_each}
use Rattle.sch_sketch.specs.DraftView.{drafts_of}
use Rattle.sch_link_tables.specs.Constants.{HaveConstants}
use Rattle.sch_link_tables.specs.Numbered.{numbered_each}
use Rattle.sch_link_tables.specs.Quoted.{literal_of, quotes_in_each}
use Rattle.sch_link_tables.specs.Room.{HasRoom, have_near_variables}
use Rattle.sch_link_tables.specs.Sites.{widths_of_each}
use Rattle.sch_link_drafts.proofs.NumberSteps.{onto}
use Rattle.sch_link_drafts.proofs.expressions.+numbering.Given as goal

abbrev pub invariant-number_each-loop-e : goal.invariant-number_each-loop-e
invariant-number_each-loop-e l = record {
  place : l.at ≡ l.e-index;
  made :
      onto (map expression l.all) (numbered_each (names_of l.tables.own.now) (names_of l.tables.globals.now) (names_of l.tables.symbols.now) (drop l.e-index (given_names l.names)) (drafts_of (drop l.e-index l.es)) (length l.out.sites) (length l.out.literals))
      ≡ numbered_each (names_of l.tables.own.now) (names_of l.tables.globals.now) (names_of l.tables.symbols.now) (given_names l.names) (drafts_of l.es) (length l.initial.out.sites) (length l.initial.out.literals);
  sites : l.out.sites ++ widths_of_each (drafts_of (drop l.e-index l.es)) ≡ l.initial.out.sites ++ widths_of_each (drafts_of l.es);
  literals :
      map literal l.out.literals ++ map (literal_of (names_of l.tables.symbols.now)) (quotes_in_each (drafts_of (drop l.e-index l.es)))
      ≡ map literal l.initial.out.literals ++ map (literal_of (names_of l.tables.symbols.now)) (quotes_in_each (drafts_of l.es));
  room : HasRoom l.out (size_each (drafts_of (drop l.e-index l.es)));
  variables : have_near_variables (drafts_of (drop l.e-index l.es)) ≡ true;
  constants : HaveConstants (drafts_of (drop l.e-index l.es)) → HaveConstants (drafts_of l.es);
}
