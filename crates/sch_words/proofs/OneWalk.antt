-- The reading by clap is one walk over the words: no default is filled in, and nothing is required.
use Rattle.std.proofs.Common.{ap, ap₂, refl, true, false, Bool, List, [], ◌∷◌, Option, Some, None, ◌≡◌, ◌∙◌, option_map}
use Rattle.std.specs.Prelude.{◌||◌, if◌then◌else◌, fold}
use Rattle.clap.specs.Words.{Kinds, Row, Rule, Shape, Text, built, fault_of}
use Rattle.clap.specs.Kinds.{or_else}
use Rattle.clap.specs.Walk.{Held, Walk, default_rows, finished, has_row, is_empty, nothing_held, reading_by, settled, walk_from, walked, with_default}
use Rattle.clap.specs.Faults.{check_fault, default_fault, defaults_fault, entered_fault, given_default_fault, settle_fault, turn_fault, walk_fault}
use Rattle.sch_words.specs.SimpleCommand.{clap_reading, schc, texts_of_rows, unless_faulty}

abbrev pub top : Shape
top = (built schc).top

-- arguments with no default
abbrev HaveNoDefaults : List Rule → Type 0
HaveNoDefaults [] = Unit {0}
HaveNoDefaults (a ∷ rules) = (a.defaults ≡ []) × HaveNoDefaults rules

top_has_no_defaults : HaveNoDefaults top.rules
top_has_no_defaults = (refl, (refl, (refl, (refl, (refl, (refl, (refl, tt)))))))

default_rows_none : (b : Bool) (id : Text) (how : _) (values : List Text) (rows : List Row) → values ≡ [] → (if b then rows else default_rows id how values rows) ≡ rows
default_rows_none true id how values rows e = refl
default_rows_none false id how values rows e = ap (λ vs. default_rows id how vs rows) e

with_default_none : (rows : List Row) (a : Rule) → a.defaults ≡ [] → with_default rows a ≡ rows
with_default_none rows a e = default_rows_none (has_row a.id rows) a.id (reading_by a) a.defaults rows e

with_defaults_none : (rules : List Rule) → HaveNoDefaults rules → (rows : List Row) → fold with_default rows rules ≡ rows
with_defaults_none [] e rows = refl
with_defaults_none (a ∷ rules) e rows = ap (λ r. fold with_default r rules) (with_default_none rows a e.0) ∙ with_defaults_none rules e.1 rows

finished_settled : (h : Held) → finished top.rules h ≡ (settled top.rules h).rows
finished_settled h = with_defaults_none top.rules top_has_no_defaults (settled top.rules h).rows

or_true : (b : Bool) (ks : Kinds) → (if (b || true) then [] else ks) ≡ []
or_true true ks = refl
or_true false ks = refl

default_fault_none : (rows : List Row) (a : Rule) → a.defaults ≡ [] → default_fault rows a ≡ []
default_fault_none rows a e =
    ap (λ (vs : List Text). if (has_row a.id rows || is_empty vs) then [] else given_default_fault a a.defaults) e
    ∙ or_true (has_row a.id rows) (given_default_fault a a.defaults)

defaults_fault_none : (rules : List Rule) → HaveNoDefaults rules → (rows : List Row) → defaults_fault rows rules ≡ []
unfolding defaults_fault
defaults_fault_none [] e rows = refl
defaults_fault_none (a ∷ rules) e rows = ap₂ or_else (default_fault_none rows a e.0) (defaults_fault_none rules e.1 (with_default rows a))

check_fault_none : (rows : List Row) (has : Bool) → check_fault top rows has ≡ []
check_fault_none rows true = refl
check_fault_none rows false = refl

entered_fault_none : (stop : Option (Text × List Text)) → entered_fault (built schc) stop ≡ []
entered_fault_none None = refl
entered_fault_none (Some p) = refl

or_else-nil : (ks : Kinds) → or_else ks [] ≡ ks
or_else-nil [] = refl
or_else-nil (k ∷ ks) = refl

-- an answer that may be none, unless there are faults
abbrev pub passing : {X : Type 0} → Kinds → Option X → Option X
passing [] o = o
passing (k ∷ ks) o = None

-- the rows after these words, where none of them and not the last use has a fault
unfoldable pub run : Shape → List Text → Walk → Option (List Row)
run s [] w = passing (settle_fault s.rules s.args_override_self w.held) (Some (settled s.rules w.held).rows)
run s (word ∷ rest) w = passing (turn_fault s [] w word) (run s rest (walked s.rules [] w word))

pub passing_or_else : {X : Type 0} (x y z : Kinds) (o : Option X) → passing (or_else (or_else x y) z) o ≡ passing x (passing (or_else y z) o)
passing_or_else [] y z o = refl
passing_or_else (k ∷ ks) y z o = refl

run_walk : (s : Shape) (words : List Text) (w : Walk) → passing (or_else (walk_fault s [] w words) (settle_fault s.rules s.args_override_self (fold (walked s.rules []) w words).held))
    (Some (settled s.rules (fold (walked s.rules []) w words).held).rows) ≡ run s words w
unfolding walk_fault run
run_walk s [] w = refl
run_walk s (word ∷ rest) w =
    passing_or_else (turn_fault s [] w word) (walk_fault s [] (walked s.rules [] w word) rest)
    (settle_fault s.rules s.args_override_self (fold (walked s.rules []) (walked s.rules [] w word) rest).held)
    (Some (settled s.rules (fold (walked s.rules []) (walked s.rules [] w word) rest).held).rows)
    ∙ ap (passing (turn_fault s [] w word)) (run_walk s rest (walked s.rules [] w word))

unless_faulty_rows : (ks : Kinds) (rows : List Row) → unless_faulty ks (texts_of_rows rows) ≡ option_map texts_of_rows (passing ks (Some rows))
unless_faulty_rows [] rows = refl
unless_faulty_rows (k ∷ ks) rows = refl

-- clap's reading of the words is the walk over them
pub clap_reading_run : (words : List Text) → clap_reading words ≡ option_map texts_of_rows (run top words (walk_from nothing_held))
clap_reading_run words =
    let w = fold (walked top.rules []) (walk_from nothing_held) words in
    let kinds : fault_of schc words ≡ or_else (walk_fault top [] (walk_from nothing_held) words) (settle_fault top.rules false w.held) =
    ap (or_else (walk_fault top [] (walk_from nothing_held) words))
    (ap₂ or_else (entered_fault_none w.stopped) (ap (or_else (settle_fault top.rules false w.held))
    (ap₂ or_else (defaults_fault_none top.rules top_has_no_defaults (settled top.rules w.held).rows) (check_fault_none (finished top.rules w.held) _)))
    ∙ or_else-nil (settle_fault top.rules false w.held)) in
    ap₂ (λ (ks : Kinds) (rows : List Row). unless_faulty ks (texts_of_rows rows)) kinds (finished_settled w.held)
    ∙ unless_faulty_rows (or_else (walk_fault top [] (walk_from nothing_held) words) (settle_fault top.rules false w.held)) (settled top.rules w.held).rows
    ∙ ap (option_map texts_of_rows) (run_walk top words (walk_from nothing_held))
