-- The program of a library's definitions and a text's forms: which definitions are kept, and what all of it is
-- once it is numbered, the library first.
use Rattle.std.specs.Prelude.{ℕ, zero, suc, ◌+◌, Bool, true, false, cond, nat_eq, List, [], ◌∷◌, ◌++◌, map, length, Option, Some, None}
use Rattle.sch_word.specs.values.Literals.{literals}
use Rattle.sch_lang.specs.Tree.{Lambdas, no_lambdas, and_lambda, Source}
use Rattle.sch_read.specs.Grammar.{Datum}
use Rattle.sch_names.specs.NamesView.{number_of}
use Rattle.sch_names.specs.Scope.{is_among}
use Rattle.sch_sketch.specs.Draft.{Draft, Drafts, lambda, no_drafts, and_draft}
use Rattle.sch_link_tables.specs.Named.{firsts, library_global, globals_in_each, symbols_in_each}
use Rattle.sch_link_tables.specs.Quoted.{literal_of, quotes_in, quotes_in_each}
use Rattle.sch_link_tables.specs.Sites.{widths, widths_of_each}
use Rattle.sch_link_tables.specs.Numbered.{numbered, numbered_each}

-- a definition of a library: the name of the global, and the procedure that it holds from the start
pub record Definition : Type 0 where
  pub name : List ℕ
  pub formals : ℕ
  pub rest : Bool
  pub body : Draft

-- the draft of a definition is that of its procedure
abbrev pub procedure_of : Definition → Draft
procedure_of d = lambda d.formals d.rest d.body

abbrev pub procedures_of_each : List Definition → Drafts
procedures_of_each [] = no_drafts
procedures_of_each (d ∷ ds) = and_draft (procedure_of d) (procedures_of_each ds)

-- ## Which definitions are kept

-- the globals that definitions name
abbrev pub globals_of_each : List Definition → List (List ℕ)
globals_of_each ds = globals_in_each [] (procedures_of_each ds)

abbrev pub with_definition : Bool → Definition → List Definition → List Definition
with_definition true d ds = d ∷ ds
with_definition false d ds = ds

-- A definition is kept exactly where its global is among those named, or where a later kept one names it.
abbrev pub kept : List Definition → (named : List (List ℕ)) → List Definition
kept [] named = []
kept (d ∷ ds) named =
    with_definition (is_among (library_global d.name) (named ++ globals_of_each (kept ds named))) d (kept ds named)

-- a name that begins with % is the library's own
abbrev pub is_hidden : List ℕ → Bool
is_hidden [] = false
is_hidden (b ∷ bs) = nat_eq b 0x25

-- the names that a text sees of a library
abbrev pub seen : List Definition → List (List ℕ)
seen [] = []
seen (d ∷ ds) = cond (is_hidden d.name) (seen ds) (d.name ∷ seen ds)

-- the names among a text's own that the library has too: such a global holds the library's procedure at the
-- start
abbrev pub held : List Definition → (own : List (List ℕ)) → List (List ℕ)
held ds [] = []
held ds (x ∷ own) = cond (is_among x (seen ds)) (x ∷ held ds own) (held ds own)

-- what a text names of a library
abbrev pub named : List Definition → (own : List (List ℕ)) → Drafts → List (List ℕ)
named ds own forms = globals_in_each own forms ++ map library_global (held ds own)

-- ## The program

abbrev pub names_of_each : List Definition → List (List ℕ)
names_of_each [] = []
names_of_each (d ∷ ds) = d.name ∷ names_of_each ds

abbrev pub symbols_of_each : List Definition → List (List ℕ)
symbols_of_each ds = symbols_in_each (procedures_of_each ds)

abbrev pub quotes_of_each : List Definition → List Datum
quotes_of_each ds = quotes_in_each (procedures_of_each ds)

abbrev pub widths_of_definitions : List Definition → List ℕ
widths_of_definitions ds = widths_of_each (procedures_of_each ds)

abbrev pub procedures : (globals symbols : List (List ℕ)) → List Definition → (s l : ℕ) → Lambdas
procedures globals symbols [] s l = no_lambdas
procedures globals symbols (d ∷ ds) s l =
    and_lambda d.name d.formals d.rest (numbered [] globals symbols None d.body s l)
    (procedures globals symbols ds (s + length (widths d.body)) (l + length (quotes_in d.body)))

-- what a global holds at the start: the kept procedure of its name where it is the library's or holds it
abbrev pub starts_with : List Definition → (held : List (List ℕ)) → List ℕ → Option ℕ
starts_with ds held (zero ∷ x) = cond (is_among x held) (Some (number_of x (names_of_each ds))) None
starts_with ds held (suc mark ∷ x) = Some (number_of x (names_of_each ds))
starts_with ds held [] = None

abbrev pub starts : List Definition → (held : List (List ℕ)) → List (List ℕ) → List (Option ℕ)
starts ds held [] = []
starts ds held (g ∷ gs) = starts_with ds held g ∷ starts ds held gs

-- of kept definitions, and of forms of a text with these globals of its own, some of which hold procedures
abbrev pub program_with : List Definition → (own held : List (List ℕ)) → Drafts → Source
program_with ds own held forms =
    let globals = firsts [] (globals_of_each ds ++ globals_in_each own forms) in
    let symbols = firsts [] (symbols_of_each ds ++ symbols_in_each forms) in
    record {
      statics = record {
        symbols = symbols;
        literals = literals (map (literal_of symbols) (quotes_of_each ds ++ quotes_in_each forms));
        globals = starts ds held globals;
      };
      library = procedures globals symbols ds 0 0;
      forms = numbered_each own globals symbols [] forms (length (widths_of_definitions ds)) (length (quotes_of_each ds));
      sites = widths_of_definitions ds ++ widths_of_each forms;
    }

-- of a library and a text
abbrev pub program_of : List Definition → (own : List (List ℕ)) → Drafts → Source
program_of ds own forms = program_with (kept ds (named ds own forms)) own (held ds own) forms
