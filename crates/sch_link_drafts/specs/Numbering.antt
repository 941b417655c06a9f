-- What numbering makes of drafts, by tables of names, where some sites and literals have numbers already.
use Rattle.std.specs.Prelude.{ℕ, List, ◌++◌, ◌<◌, ◌^◌, map, length, Option}
use Rattle.sch_word.specs.values.Literals.{Literal}
use Rattle.sch_word.specs.values.LiteralView.{literal}
use Rattle.sch_lang.specs.Tree.{Expression, Expressions}
use Rattle.sch_read.specs.Grammar.{Datum}
use Rattle.sch_names.specs.NamesView.{names_of}
use Rattle.sch_names.specs.Scope.{VariableNames}
use Rattle.sch_sketch.specs.Draft.{Draft, Drafts}
use Rattle.sch_link_tables.specs.declared.tables.Output.{Output}
use Rattle.sch_link_tables.specs.Quoted.{literal_of}
use Rattle.sch_link_tables.specs.Numbered.{numbered, numbered_each}
use Rattle.sch_link_drafts.specs.declared.expressions.Numbers.{Numbers}

-- the globals and the symbols have numbers of 32 bits
abbrev pub HasFewNames : Numbers → Type 0
HasFewNames tables = (length (names_of tables.globals.now) < 2 ^ 32) × (length (names_of tables.symbols.now) < 2 ^ 32)

-- the expression of a draft that is the init of a variable of this name, or of one without a name
abbrev pub expression_with : Numbers → Output → Option (List ℕ) → Draft → Expression
expression_with tables out v e =
    numbered (names_of tables.own.now) (names_of tables.globals.now) (names_of tables.symbols.now) v e (length out.sites) (length out.literals)

-- the expressions of drafts that are the inits of variables of these names
abbrev pub expressions_with : Numbers → Output → VariableNames → Drafts → Expressions
expressions_with tables out vs es =
    numbered_each (names_of tables.own.now) (names_of tables.globals.now) (names_of tables.symbols.now) vs es (length out.sites) (length out.literals)

-- the literals that have numbers, and behind them those of some data
abbrev pub literals_with : Numbers → Output → List Datum → List Literal
literals_with tables out ds = map literal out.literals ++ map (literal_of (names_of tables.symbols.now)) ds
