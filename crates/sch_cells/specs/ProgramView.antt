-- The plain data of a program.
use Rattle.sch_cells.specs.declared.program.CellProgram.{CellProgram}
use Rattle.sch_cells.specs.SourceView.{source_of}
use Rattle.sch_cells.specs.Tree.{Source}

abbrev pub source : {K : _} {g : _} → CellProgram K g → Source
source p = source_of p.statics p.library p.forms p.sites p.variables
