-- What the definitions of the code stand for, in plain words.
use Rattle.std.specs.Prelude.{List, map}
use Rattle.sch_sketch.specs.DraftView.{draft_of}
use Rattle.sch_link_tables.specs.Programs.{Definition}
use Rattle.sch_link_program.specs.declared.definition.Definition as code
use Rattle.sch_link_program.specs.declared.definition.KeptDefinition.{KeptDefinition}

abbrev pub definition_of : code.Definition → Definition
definition_of d = record { name = d.name.now; formals = d.formals; rest = d.rest; body = draft_of d.body }

abbrev pub definitions_of : List code.Definition → List Definition
definitions_of ds = map definition_of ds

-- what is kept of a library has the bodies that the library has
abbrev pub kept_of : KeptDefinition → Definition
kept_of d = record { name = d.name.now; formals = d.formals; rest = d.rest; body = draft_of d.body.now }

abbrev pub kept_definitions : List KeptDefinition → List Definition
kept_definitions ds = map kept_of ds
