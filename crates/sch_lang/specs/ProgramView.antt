-- The plain data of a program.
use Rattle.sch_lang.specs.declared.program.Program.{Program}
use Rattle.sch_lang.specs.SourceView.{source_of}
use Rattle.sch_lang.specs.Tree.{Source}

abbrev pub source : Program → Source
source p = source_of p.symbols p.literals p.globals p.library p.forms p.sites
