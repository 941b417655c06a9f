use Rattle.std.proofs.Common.{◌≡◌, ◌≤◌, ◌++◌, drop, map}
use Rattle.sch_word.specs.runs.Runs.{names_size, max_statics}
use Rattle.sch_asm.specs.declared.assembly.Word.TheVariants.{Fixed}
use Rattle.sch_select_data.specs.NameWords.{each_name}
use Rattle.sch_select_data.proofs.data_words.push_names.Given as goal

abbrev pub invariant-loop-name : goal.invariant-loop-name
invariant-loop-name l = record {
  words : l.words ++ map Fixed (each_name (drop l.name-index l.names)) ≡ l.initial.words ++ map Fixed (each_name l.names);
  few : names_size (drop l.name-index l.names) ≤ max_statics;
}
