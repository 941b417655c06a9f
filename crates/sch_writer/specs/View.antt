-- Moves, as layouts have them.
use Rattle.std.specs.Prelude.{List, map}
use Rattle.sch_layout.specs.Moves as layout
use Rattle.sch_writer.specs.declared.moves.Move.{Move}

abbrev pub move_of : Move → layout.Move
move_of m = record { argument = m.argument; from = m.from; to = m.to; temp = m.is_temporary }

abbrev pub moves_of : List Move → List layout.Move
moves_of = map move_of
