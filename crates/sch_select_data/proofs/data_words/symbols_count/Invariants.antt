use Rattle.std.proofs.Common.{◌≡◌, ◌≤◌, ◌+◌, drop}
use Rattle.sch_word.specs.runs.Runs.{names_size, max_statics}
use Rattle.sch_select_data.specs.NameWords.{names_count, symbols_count}
use Rattle.sch_select_data.proofs.data_words.symbols_count.Given as goal

abbrev pub invariant-loop-name : goal.invariant-loop-name
invariant-loop-name l = record {
  count : l.count + names_count (drop l.name-index l.symbols) ≡ symbols_count l.symbols;
  few : names_size (drop l.name-index l.symbols) ≤ max_statics;
}
