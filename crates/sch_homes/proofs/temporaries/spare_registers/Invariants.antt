use Rattle.std.proofs.Common.{◌≡◌, map, take}
use Rattle.std.specs.Prelude.{filter}
use Rattle.sch_word.specs.declared.place.Place.TheVariants.{Reg}
use Rattle.sch_word.specs.values.Registers.{argument_registers}
use Rattle.sch_shuffle.specs.View.{tree}
use Rattle.sch_homes.specs.CallMoves.{is_spare}
use Rattle.sch_homes.proofs.temporaries.spare_registers.Given as goal

abbrev pub invariant-loop-r : goal.invariant-loop-r
invariant-loop-r l = l.places ≡ filter (is_spare (map tree l.args) l.targets) (map Reg (take l.r-index argument_registers))
