-- The data of a program: where they lie, and their words.
use Rattle.std.specs.Prelude.{ℕ, suc, ◌+◌, ◌*◌, ◌/◌, ◌%◌, List, [], ◌∷◌, ◌++◌, length, map, replicate, Option, Some}
use Rattle.std.specs.Prelude.{None}
use Rattle.std.specs.Int.{w64, from_le_bytes}
use Rattle.sch_word.specs.values.Literals.{count_literals}
use Rattle.sch_word.specs.runs.Charges.{rounded}
use Rattle.sch_word.specs.runs.Runs.{Statics, max_statics}
use Rattle.sch_word.specs.trees.Shape.{max_library}
use Rattle.sch_asm.specs.declared.routine.TheConstants.{OWN_WORDS}
use Rattle.sch_asm.specs.declared.assembly.Word.{Word}
use Rattle.sch_asm.specs.declared.assembly.Word.TheVariants.{Fixed, Address}
use Rattle.sch_select_memory.specs.Encoded.{unset_word, procedure_tag}
use Rattle.sch_select_data.specs.PlacedWords.{units_in_each, placed_values, placed_each}
use Rattle.sch_frames.specs.Tree.{Source}
use Rattle.sch_select_memory.specs.Addresses.{literals_address, names_address, body_label}
use Rattle.sch_select_memory.specs.StaticBytes.{static_bytes}
use Rattle.sch_select_data.specs.NameWords.{symbol_words, symbols_count}

-- ## Where things lie

-- how many words the literals, the globals and the names of symbols take
abbrev pub static_count : Statics → ℕ
static_count s = count_literals s.literals + (length s.globals + symbols_count s.symbols)

-- Behind this number of words closures begin, those of the library first. They, and all parts behind them, are at multiples
-- of 16.
abbrev pub closures_unit : (count : ℕ) → ℕ
closures_unit count = (literals_address + 8 * count + 15) / 16

-- the objects of literals follow
abbrev pub objects_unit : (count library : ℕ) → ℕ
objects_unit count library = closures_unit count + library

-- and then the heap
abbrev pub heap_address : (count library units : ℕ) → ℕ
heap_address count library units = 16 * (objects_unit count library + units)

abbrev pub names_of : Source → ℕ
names_of p = names_address (count_literals p.statics.literals) (length p.statics.globals)

abbrev pub closures_of : Source → ℕ
closures_of p = 16 * closures_unit (static_count p.statics)

abbrev pub heap_of : Source → ℕ
heap_of p = heap_address (static_count p.statics) (length p.library) (units_in_each p.statics.literals)

-- The last address at which the heap of a program may begin: the words in front of literals take whole units, and one more that is not
-- full is behind the names; what is static takes 32 bytes for each node and byte at most, and the library's procedures take 16 each.
abbrev pub max_heap_address : ℕ
max_heap_address = rounded literals_address + 16 + (32 * max_statics + 16 * max_library)

-- ## Words

-- eight bytes at a time
abbrev pub word_list : List ℕ → List Word
word_list (a ∷ (b ∷ (c ∷ (d ∷ (e ∷ (f ∷ (g ∷ (h ∷ bytes)))))))) =
    Fixed (from_le_bytes w64 (a ∷ b ∷ c ∷ d ∷ e ∷ f ∷ g ∷ h ∷ [])) ∷ word_list bytes
word_list _ = []

-- a global that holds a procedure of the library has its word
abbrev pub global_word : (closures : ℕ) → Option ℕ → Word
global_word closures None = Fixed unset_word
global_word closures (Some n) = Fixed (closures + 16 * n + procedure_tag)

abbrev pub global_words : (closures : ℕ) → List (Option ℕ) → List Word
global_words closures [] = []
global_words closures (g ∷ globals) = global_word closures g ∷ global_words closures globals

-- what makes a number of words, and the 101 in front of them, a multiple of 16 bytes
abbrev pub padding : (count : ℕ) → List Word
padding count = replicate (suc count % 2) (Fixed 0)

-- the records of the library's procedures, which have no fields
abbrev pub closure_words : List ℕ → List Word
closure_words [] = []
closure_words (label ∷ library) = Address (body_label label) ∷ (Fixed 0 ∷ closure_words library)

-- The words of the routines, the static bytes, and the address of the names; literals, globals and names; and closures
-- and objects.
abbrev pub data_words : (names closures unit : ℕ) → Statics → (library : List ℕ) → List Word
data_words names closures unit s library =
    replicate OWN_WORDS (Fixed 0)
    ++ (word_list static_bytes
    ++ (Fixed names
    ∷ (map Fixed (placed_values s.literals unit)
    ++ (global_words closures s.globals
    ++ (map Fixed (symbol_words names s.symbols)
    ++ (padding (static_count s) ++ (closure_words library ++ map Fixed (placed_each s.literals unit))))))))

abbrev pub program_words : Source → List Word
program_words p =
    data_words (names_of p) (closures_of p) (objects_unit (static_count p.statics) (length p.library)) p.statics p.library
