-- The plain data of the program that parts make.
use Rattle.sch_lang.specs.SourceView.{source_of}
use Rattle.sch_lang.specs.Tree.{Source}
use Rattle.sch_link_program.specs.declared.parts.Parts.{Parts}

abbrev pub parts_of : Parts → Source
parts_of p = source_of p.symbols p.literals p.globals p.library p.forms p.sites
