use Rattle.std.proofs.Common.{◌≡◌, ◌++◌, [], drop, map, true, None, Option, List}
use Rattle.sch_read.specs.Views.{data_of}
use Rattle.sch_names.specs.NamesView.{names_of}
use Rattle.sch_names.specs.ScopeView.{given_names}
use Rattle.sch_sketch.specs.declared.fault.Fault.{Fault}
use Rattle.sch_sketch.specs.Draft.{Draft}
use Rattle.sch_sketch.specs.DraftView.{draft_of}
use Rattle.sch_toplevel.specs.Items.{item_names, ItemsRead}
use Rattle.sch_toplevel.proofs.items.read_items.Given as goal

abbrev pub invariant-loop-d : goal.invariant-loop-d
invariant-loop-d l = record {
  own : names_of l.globals.own ≡ [];
  internal : l.globals.internal ≡ true;
  names : given_names l.names ++ item_names (data_of (drop l.d-index l.items)) ≡ item_names (data_of l.items);
  reads : (b : Option Fault) (es : List Draft) → ItemsRead (names_of l.globals.bound) (data_of (drop l.d-index l.items)) l.fault b es →
      ItemsRead [] (data_of l.items) None b (map draft_of l.drafts ++ es);
}
