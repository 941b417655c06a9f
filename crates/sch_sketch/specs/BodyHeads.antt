-- The definitions at the head of a body, and which data are a body (R5RS 5.2.2).
use Rattle.std.specs.Prelude.{ℕ, Bool, cond, ◌&&◌, not, [], ◌++◌}
use Rattle.sch_read.specs.Grammar.{Data, none, cons}
use Rattle.sch_names.specs.Scope.{Scope, VariableNames}
use Rattle.sch_sketch.specs.declared.sketch.Row.TheVariants.{Body}
use Rattle.sch_sketch.specs.Sketch.{Sketches, rest}
use Rattle.sch_sketch.specs.Small.{one}
use Rattle.sch_sketch.specs.Distinct.{are_distinct}
use Rattle.sch_sketch.specs.Definitions.{is_definition, are_definitions, names_in, inits_in}

-- the definitions at the head of a body, and what follows them
abbrev pub body_names : Scope → Data → VariableNames
body_names s none = []
body_names s (cons d ds) = cond (is_definition s d) (names_in d ++ body_names s ds) []

abbrev pub body_inits : Scope → Data → Sketches → Sketches
body_inits s none ks = ks
body_inits s (cons d ds) ks = cond (is_definition s d) (inits_in d (body_inits s ds ks)) ks

abbrev pub expressions : Scope → Data → Data
expressions s none = none
expressions s (cons d ds) = cond (is_definition s d) (expressions s ds) (cons d ds)

-- a body of this scope has an expression, and its definitions bind each name once
abbrev pub is_body : Scope → Data → Bool
is_body s es = not (are_definitions s es) && are_distinct (body_names s es)

-- a body, as the last part
abbrev pub body : ℕ → Data → Sketches
body at es = one (rest Body at es none)
