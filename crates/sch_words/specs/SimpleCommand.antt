-- The words as one simple command of the kit's `clap`, by clap's own statement of how it reads them.
use Rattle.std.specs.Prelude.{true, List, [], ◌∷◌, codes, Option, Some, None}
use Rattle.clap.specs.Words.{App, Kinds, Row, Rule, fault_of, first_of, matches_of, new_app, new_rule, with_rule}
use Rattle.clap.specs.Simple.{on_top}
use Rattle.sch_words.specs.GivenTexts.{Text, Texts}

-- a positional: an argument without an option's name, numbered among its like
abbrev pub positional : Text → Rule
positional = new_rule

-- `--name TEXT` or `--name=TEXT`
abbrev pub option : Text → Rule
option name = record (new_rule name) { long = Some name }

-- no argument, no flags for help and version, and no name of the program before the words
abbrev pub no_arguments : App
no_arguments = on_top (λ top. record top {
  no_binary_name = true;
  disable_help_flag = true;
  disable_version_flag = true;
}) (new_app (codes "schc"))

abbrev pub positionals_only : App
positionals_only =
    with_rule (with_rule (with_rule no_arguments (positional (codes "verb"))) (positional (codes "name")))
    (positional (codes "second"))

-- the simple command: three positionals and four options, of one text each, none of them required
abbrev pub schc : App
schc =
    with_rule (with_rule (with_rule (with_rule positionals_only (option (codes "listing"))) (option (codes "heap")))
    (option (codes "depth"))) (option (codes "steps"))

-- the texts in what clap keeps of each argument
abbrev pub texts_of_rows : List Row → Texts
texts_of_rows rows = record {
  verb = first_of (codes "verb") rows;
  name = first_of (codes "name") rows;
  second = first_of (codes "second") rows;
  listing = first_of (codes "listing") rows;
  heap = first_of (codes "heap") rows;
  depth = first_of (codes "depth") rows;
  steps = first_of (codes "steps") rows;
}

-- an answer, unless there are faults
abbrev pub unless_faulty : {X : Type 0} → (faults : Kinds) → X → Option X
unless_faulty [] answer = Some answer
unless_faulty (fault ∷ faults) answer = None

-- the texts that clap reads in the words, exactly where it finds no fault in them
abbrev pub clap_reading : (words : List Text) → Option Texts
clap_reading words = unless_faulty (fault_of schc words) (texts_of_rows (matches_of schc words))
