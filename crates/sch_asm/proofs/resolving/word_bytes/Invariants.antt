use Rattle.std.proofs.Common.{◌≡◌, ◌++◌, length, drop}
use Rattle.std.specs.List.{flat_map}
use Rattle.sch_asm.specs.Codes.{bytes_of}
use Rattle.std.specs.Prelude.{slice_index}
use Rattle.sch_asm.specs.Layout.{WordsBelow}
use Rattle.sch_asm.proofs.resolving.word_bytes.Given as goal

abbrev pub invariant-loop-word : goal.invariant-loop-word
invariant-loop-word l = record {
  bytes : l.bytes ++ flat_map (bytes_of (slice_index l.layout.places.items)) (drop l.word-index l.words) ≡ flat_map (bytes_of (slice_index l.layout.places.items)) l.words;
  uses : WordsBelow (length l.layout.places.items) (drop l.word-index l.words);
}
