use Rattle.std.proofs.Common.{◌≡◌, ◌++◌, drop}
use Rattle.sch_select_data.specs.Data.{global_words}
use Rattle.sch_select_data.proofs.data_words.push_globals.Given as goal

abbrev pub invariant-loop-g : goal.invariant-loop-g
invariant-loop-g l = record {
  words : l.words ++ global_words l.closures (drop l.g-index l.globals) ≡ l.initial.words ++ global_words l.closures
      l.globals;
}
