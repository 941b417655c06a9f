use Rattle.std.proofs.Common.{◌≡◌, ◌++◌, drop}
use Rattle.std.specs.List.{list_all}
use Rattle.std.specs.Prelude.{IsTrue}
use Rattle.sch_select_memory.specs.Reach.{is_reached_label}
use Rattle.sch_select_data.specs.Data.{closure_words}
use Rattle.sch_select_data.proofs.data_words.push_closures.Given as goal

abbrev pub invariant-loop-label : goal.invariant-loop-label
invariant-loop-label l = record {
  words : l.words ++ closure_words (drop l.label-index l.library) ≡ l.initial.words ++ closure_words l.library;
  reached : IsTrue (list_all is_reached_label (drop l.label-index l.library));
}
