-- The plain data of a program.
use Rattle.sch_control.specs.declared.program.ControlProgram.{ControlProgram}
use Rattle.sch_control.specs.SourceView.{source_of}
use Rattle.sch_control.specs.Tree.{Source}

abbrev pub source : ControlProgram → Source
source p = source_of p.statics p.library p.bodies p.sites p.bound
