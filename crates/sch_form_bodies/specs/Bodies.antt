-- Bodies (R5RS 5.2.2) and procedures (R5RS 4.1.4).
use Rattle.std.specs.Prelude.{ℕ, cond, ◌&&◌, Option, is_some}
use Rattle.sch_read.specs.Grammar.{Datum, Data, atom, none, cons, symbol}
use Rattle.sch_names.specs.declared.keyword.Keyword.TheVariants.{Begin}
use Rattle.sch_names.specs.Scope.{Scope, onto}
use Rattle.sch_sketch.specs.declared.fault.Fault.TheVariants.{BadForm}
use Rattle.sch_sketch.specs.declared.sketch.Row.TheVariants.{Form}
use Rattle.sch_sketch.specs.Sketch.{Sketch, rest, wrong, node, abstracting}
use Rattle.sch_sketch.specs.Formals.{listed, tail_of, formals, are_formals}
use Rattle.sch_sketch.specs.Definitions.{is_definition}
use Rattle.sch_sketch.specs.BodyHeads.{body_names, body_inits, expressions, is_body, body}
use Rattle.sch_sketch.specs.Groups.{group}

-- a body with definitions is a `letrec` of them
abbrev pub defining_body : Scope → ℕ → Data → Sketch
defining_body s at es = group s (body_names s es) at (body_inits s es) (rest (Form Begin) at (expressions s es) none)

abbrev pub row_body : Scope → ℕ → Data → Sketch
row_body s at none = wrong (BadForm at)
row_body s at (cons e es) = cond (is_definition s e) (defining_body s at (cons e es)) (rest (Form Begin) at (cons e es) none)

-- ## Procedures

-- a procedure with these formals
abbrev pub procedure : Scope → ℕ → Data → Option Datum → Data → Sketch
procedure s at fs f es =
    cond (are_formals fs f && is_body (onto (formals fs f) s) es) (node (abstracting (formals fs f) (is_some f)) at (body at es))
    (wrong (BadForm at))

abbrev pub row_lambda : Scope → ℕ → Data → Sketch
row_lambda s at (cons f es) = procedure s at (listed f) (tail_of f) es
row_lambda s at none = wrong (BadForm at)

abbrev pub method : Scope → ℕ → Data → Option Datum → Data → Sketch
method s at (cons (atom q (symbol v)) fs) f es = procedure s at fs f es
method s at _ f es = wrong (BadForm at)

-- `(v . F) e ..`, which stands after `define`
abbrev pub row_method : Scope → ℕ → Data → Sketch
row_method s at (cons h es) = method s at (listed h) (tail_of h) es
row_method s at none = wrong (BadForm at)
