use Rattle.std.proofs.Common.{◌≡◌, ◌≤◌, ◌+◌, ◌*◌, ◌++◌, drop, map}
use Rattle.sch_word.specs.runs.Runs.{names_size}
use Rattle.sch_asm.specs.declared.assembly.Word.TheVariants.{Fixed}
use Rattle.sch_select_data.specs.NameWords.{name_addresses}
use Rattle.sch_select_data.proofs.data_words.push_addresses.Given as goal

abbrev pub invariant-loop-name : goal.invariant-loop-name
invariant-loop-name l = record {
  words : l.words ++ map Fixed (name_addresses l.at (drop l.name-index l.names)) ≡ l.initial.words ++ map Fixed
      (name_addresses l.first l.names);
  low : l.at + 16 * names_size (drop l.name-index l.names) ≤ l.first + 16 * names_size l.names;
}
