-- The plain data of a program.
use Rattle.sch_flat.specs.declared.program.FlatProgram.{FlatProgram}
use Rattle.sch_flat.specs.SourceView.{source_of}
use Rattle.sch_flat.specs.Tree.{Source}

abbrev pub source : FlatProgram → Source
source p = source_of p.statics p.library p.bodies p.forms p.starts p.sites
