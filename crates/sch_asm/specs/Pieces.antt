-- What of items the size of their text depends on: bytes, labels and jumps. Items that differ only in registers,
-- conditions or numbers of the same width have the same pieces.
use Rattle.std.specs.Prelude.{ℕ, List, map, length}
use Rattle.sch_insn.specs.Spelling.{spelling}
use Rattle.sch_jumps.specs.declared.piece.Piece.{Piece}
use Rattle.sch_jumps.specs.declared.piece.Piece.TheVariants.{Bytes, Label, Jump}
use Rattle.sch_jumps.specs.Least as least
use Rattle.sch_asm.specs.declared.item.Item.{Item}
use Rattle.sch_asm.specs.declared.item.Item.TheVariants as item

-- A long `jmp` has five bytes, a long `jcc` six.
abbrev pub piece_of : Item → Piece
piece_of (item.Label l) = Label l
piece_of (item.Plain i) = Bytes (length (spelling i))
piece_of (item.Jump l) = Jump 5 l
piece_of (item.JumpIf c l) = Jump 6 l
piece_of (item.LoadLabel r l) = Bytes 7
piece_of (item.LoadWord r a) = Bytes 7
piece_of (item.StoreWord a r) = Bytes 7
piece_of (item.Mark m) = Bytes 0

abbrev pub skeleton : List Item → List Piece
skeleton is = map piece_of is

-- How many bytes the text of items has: as few as jumps that reach their labels allow.
abbrev pub shortest_size : List Item → ℕ
shortest_size is = least.text_size (skeleton is)
