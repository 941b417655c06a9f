-- Which definitions of a library are kept: the code goes through them from the last to the first.
use Rattle.std.specs.Prelude.{ℕ, Bool, cond, List, [], ◌++◌, map}
use Rattle.sch_names.specs.NamesView.{names_of}
use Rattle.sch_names.specs.Scope.{is_among}
use Rattle.sch_link_tables.specs.Named.{firsts, globals_in, library_global}
use Rattle.sch_link_tables.specs.Programs.{Definition}
use Rattle.sch_link_program.specs.declared.keeping.Asked.{Asked}

-- what a text asks of a library: the globals that it names, and those that its own globals hold
abbrev pub asked_for : Asked → List (List ℕ)
asked_for asked = names_of asked.named.now ++ map library_global (names_of asked.held.now)

-- whether the library's global of this name is named by the text or, as one of those wanted, by a later definition that
-- is kept, or is held by a global of the text
abbrev pub is_wanted : Asked → (wanted : List (List ℕ)) → (name : List ℕ) → Bool
is_wanted asked wanted x =
    is_among (library_global x) ((names_of asked.named.now ++ wanted) ++ map library_global (names_of asked.held.now))

-- what is wanted once a definition was looked at: what it names too, if it is kept
abbrev pub wanted_with : Asked → (wanted : List (List ℕ)) → Definition → List (List ℕ)
wanted_with asked wanted d = cond (is_wanted asked wanted d.name) (firsts wanted (globals_in [] d.body)) wanted
