-- The rows of choices (R5RS 4.1.5 and 4.2.1), of quotations and of sequences (R5RS 4.1.2 and 4.2.3). A
-- chain stands at the form for its first element, and from then on at the element with which the rest
-- begins.
use Rattle.std.specs.Prelude.{ℕ, Bool, true, false, cond, ◌&&◌, not, [], Option, Some, None}
use Rattle.sch_read.specs.Grammar.{Datum, Data, list, none, cons}
use Rattle.sch_read.specs.Parts.{offset}
use Rattle.sch_names.specs.declared.keyword.Keyword.{Keyword}
use Rattle.sch_names.specs.declared.keyword.Keyword.TheVariants.{And, Or, Begin, Else, Arrow}
use Rattle.sch_names.specs.Scope.{Scope}
use Rattle.sch_sketch.specs.declared.fault.Fault.TheVariants.{BadForm}
use Rattle.sch_sketch.specs.declared.sketch.Position.{Position}
use Rattle.sch_sketch.specs.declared.sketch.Row.TheVariants.{Form, Clauses}
use Rattle.sch_sketch.specs.Draft.{local}
use Rattle.sch_sketch.specs.FreeWords.{free_word}
use Rattle.sch_sketch.specs.Sketch.{Sketch, text, rest, wrong, leaf, node, no_sketch, choosing, sequencing, binding, calling, nothing}
use Rattle.sch_sketch.specs.Small.{two, three, truth, texts, fresh, quoted, place_of, either_of}

abbrev pub row_quote : ℕ → Data → Sketch
row_quote at (cons d none) = quoted at d
row_quote at _ = wrong (BadForm at)

abbrev pub row_begin : ℕ → Data → Sketch
row_begin at none = wrong (BadForm at)
row_begin at (cons e none) = text e
row_begin at (cons e (cons e' es)) = node sequencing at (texts (cons e (cons e' es)) no_sketch)

abbrev pub row_if : ℕ → Data → Sketch
row_if at (cons a (cons b (cons c none))) = node choosing at (three (text a) (text b) (text c))
row_if at (cons a (cons b none)) = node choosing at (three (text a) (text b) (leaf at nothing))
row_if at _ = wrong (BadForm at)

abbrev pub row_and : ℕ → Data → Sketch
row_and at none = truth at true
row_and at (cons a none) = text a
row_and at (cons a (cons b bs)) = node choosing at (three (text a) (rest (Form And) (offset b) (cons b bs) none) (truth at false))

abbrev pub row_or : Position → ℕ → Data → Sketch
row_or t at none = truth at false
row_or t at (cons a none) = text a
row_or t at (cons a (cons b bs)) = either_of t at (text a) (rest (Form Or) (offset b) (cons b bs) none)

-- ## Words in clauses

abbrev pub is_else_word : Option Keyword → Bool
is_else_word (Some Else) = true
is_else_word _ = false

abbrev pub is_arrow_word : Option Keyword → Bool
is_arrow_word (Some Arrow) = true
is_arrow_word _ = false

abbrev pub is_else : Scope → Datum → Bool
is_else s d = is_else_word (free_word s d)

abbrev pub is_arrow : Scope → Datum → Bool
is_arrow s d = is_arrow_word (free_word s d)

abbrev pub is_some_data : Data → Bool
is_some_data none = false
is_some_data (cons d ds) = true

-- ## `cond`

-- a clause, and whether it is the last
abbrev pub is_clause : Scope → Datum → (last : Bool) → Bool
is_clause s (list q (cons a es)) last = cond (is_else s a) (is_some_data es && last) true
is_clause s _ last = false

abbrev pub are_clauses : Scope → Data → Bool
are_clauses s none = true
are_clauses s (cons c cs) = is_clause s c (not (is_some_data cs)) && are_clauses s cs

abbrev pub row_cond : Scope → ℕ → Data → Sketch
row_cond s at none = wrong (BadForm at)
row_cond s at (cons c cs) = cond (are_clauses s (cons c cs)) (rest Clauses at (cons c cs) none) (wrong (BadForm at))

abbrev pub remaining : ℕ → Data → Sketch
remaining at cs = rest Clauses (place_of at cs) cs none

abbrev pub plain_clause : ℕ → Datum → Data → Data → Sketch
plain_clause at a es cs = node choosing at (three (text a) (rest (Form Begin) at es none) (remaining at cs))

-- what follows a test as `=> f`
abbrev pub receiver : Scope → Data → Option Datum
receiver s (cons b (cons f none)) = cond (is_arrow s b) (Some f) None
receiver s _ = None

-- `(a => f)`: f is called with the value of a, if that is true
abbrev pub receiving : ℕ → Datum → Datum → Data → Sketch
receiving at a f cs =
    node (binding fresh) at (two (text a)
    (node choosing at (three (leaf at (local 0)) (node (calling []) at (two (text f) (leaf at (local 0)))) (remaining at cs))))

abbrev pub other_clause : Position → ℕ → Datum → Option Datum → Data → Data → Sketch
other_clause t at a (Some f) es cs = receiving at a f cs
other_clause t at a None es cs = cond (is_some_data es) (plain_clause at a es cs) (either_of t at (text a) (remaining at cs))

abbrev pub clause : Scope → Position → ℕ → Datum → Data → Data → Sketch
clause s t at a es cs = cond (is_else s a) (rest (Form Begin) at es none) (other_clause t at a (receiver s es) es cs)

abbrev pub row_clauses : Scope → Position → ℕ → Data → Sketch
row_clauses s t at none = leaf at nothing
row_clauses s t at (cons (list p (cons a es)) cs) = clause s t at a es cs
row_clauses s t at _ = wrong (BadForm at)
