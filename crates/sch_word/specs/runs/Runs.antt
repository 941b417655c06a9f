-- How a run starts, and what is seen of it at its end.
use Rattle.std.specs.Prelude.{◌≡◌, ℕ, ◌+◌, ◌-◌, Bool, true, ◌&&◌, nat_le, nat_lt, List, [], ◌∷◌, length, Option, Some, None}
use Rattle.std.specs.List.{list_all}
use Rattle.sch_word.specs.declared.answer.Answer.{Answer}
use Rattle.sch_word.specs.runs.Stops.{status_of}
use Rattle.sch_word.specs.values.Values.{Value, procedure, are_bytes}
use Rattle.sch_word.specs.runs.Store.{Store}
use Rattle.sch_word.specs.runs.Computation.{Outcome, gives, stops, spent, State}
use Rattle.sch_word.specs.runs.Orders.{is_order_table}
use Rattle.sch_word.specs.values.Literals.{Literals, literal_values, objects_of_each, literals_size, literals_known, literals_in_range}

-- What stands ready when a program starts: the names of its symbols; its literals; and its globals,
-- each with the library's procedure of that number, or unset.
pub record Statics : Type 0 where
  pub symbols : List (List ℕ)
  pub literals : Literals
  pub globals : List (Option ℕ)

abbrev pub starting_value : Option ℕ → Option Value
starting_value None = None
starting_value (Some n) = Some (procedure n)

abbrev pub starting_values : List (Option ℕ) → List (Option Value)
starting_values [] = []
starting_values (g ∷ gs) = starting_value g ∷ starting_values gs

-- The store at the start: nothing is charged and nothing written, the literals are there. `heap` is
-- the limit in bytes, `entries` how many procedure entries may be taken.
abbrev pub starting_store : Statics → (heap : ℕ) → List Answer → (entries : ℕ) → Store
starting_store p heap answers entries = record {
  constants = record { heap = heap; symbols = p.symbols; literals = literal_values p.literals 0 };
  globals = starting_values p.globals;
  objects = objects_of_each p.literals 0;
  charged = 0;
  output = [];
  answers = answers;
  entries = entries;
}

-- the state at the start; the library's procedures are the first ones
abbrev pub starting_state : {P : Type 0} → Store → List P → State P
starting_state t library = record { cells = []; store = t; procedures = library }

-- ## The end

-- a run has ended with a status, 0 or a stop's, or goes on, where its entries were spent
pub data End : Type 0 where
  ended : (status : ℕ) → End
  going : End

-- what is seen of a run
pub record Run : Type 0 where
  pub output : List ℕ
  pub entries : ℕ  -- procedure entries taken
  pub charged : ℕ  -- bytes charged to the heap
  pub answers : ℕ  -- kernel answers used
  pub end : End

abbrev pub run_with : End → List Answer → ℕ → Store → Run
run_with end answers entries t = record {
  output = t.output;
  entries = entries - t.entries;
  charged = t.charged;
  answers = length answers - length t.answers;
  end = end;
}

-- what is seen of an outcome over states of any kind that have a store, from a start with these
-- answers and n entries
abbrev pub seen_in : {S V : Type 0} → (store : S → Store) → List Answer → (entries : ℕ) → Outcome S V → Run
seen_in store answers entries (gives v s) = run_with (ended 0) answers entries (store s)
seen_in store answers entries (stops why s) = run_with (ended (status_of why)) answers entries (store s)
seen_in store answers entries (spent s) = run_with going answers entries (store s)

abbrev pub seen : {P V : Type 0} → List Answer → (entries : ℕ) → Outcome (State P) V → Run
seen = seen_in (λ s. s.store)

-- what is seen of a program's runs: under an order table, with limits of heap and depth, against the
-- answers of a kernel, with at most n procedure entries
abbrev pub Runs : Type 0
Runs = (table : List (List ℕ)) → (heap depth : ℕ) → (answers : List Answer) → (entries : ℕ) → Run

-- two programs, in whatever languages, of which nothing different is ever seen
pub record SameRuns (a b : Runs) : Type 0 where
  pub same : (table : List (List ℕ)) (heap depth : ℕ) (answers : List Answer) (entries : ℕ) → a table heap depth answers entries ≡ b table heap depth answers entries

-- the same under tables that have an order for each of these sites, as a pass needs that drops or
-- computes what another order would show
pub record SameOrderedRuns (sites : List ℕ) (a b : Runs) : Type 0 where
  pub same : (table : List (List ℕ)) → is_order_table sites table ≡ true
      → (heap depth : ℕ) (answers : List Answer) (entries : ℕ) → a table heap depth answers entries ≡ b table heap depth answers entries

-- ## Which statics are valid

abbrev pub names_size : List (List ℕ) → ℕ
names_size [] = 0
names_size (name ∷ names) = 1 + length name + names_size names

-- symbols, literals and globals in nodes and bytes; a symbol and a global are one node each
abbrev pub statics_size : Statics → ℕ
statics_size p = names_size p.symbols + literals_size p.literals + length p.globals

abbrev pub library_known : ℕ → List (Option ℕ) → Bool
library_known count [] = true
library_known count (None ∷ gs) = library_known count gs
library_known count (Some n ∷ gs) = nat_lt n count && library_known count gs

-- How many nodes and bytes the statics of a program may have: four times what the items of a source
-- weigh at most, which is 7 * 2 ^ 20.
abbrev pub max_statics : ℕ
max_statics = 29360128

-- they are few enough, and name symbols and library procedures that there are
abbrev pub statics_valid : (library : ℕ) → Statics → Bool
statics_valid library p =
    nat_le (statics_size p) max_statics
    && (literals_known (length p.symbols) p.literals && library_known library p.globals)

-- names and texts are bytes, and constants are words
abbrev pub statics_in_range : Statics → Bool
statics_in_range p = list_all are_bytes p.symbols && literals_in_range p.literals
