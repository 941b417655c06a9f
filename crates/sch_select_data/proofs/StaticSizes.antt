-- How many words what is static takes at most.
use Rattle.std.proofs.Common.{◌≡◌, ℕ, ◌+◌, ◌*◌, ◌≤◌, List, [], ◌∷◌, length, ap, ◌∙◌, arith}
use Rattle.std.proofs.lemmas.List.{length-map}
use Rattle.sch_word.specs.declared.statics.Statics as declared
use Rattle.sch_word.specs.trees.Shape.{max_library}
use Rattle.sch_word.specs.values.Literals.{Literals, no_literals, and_literal, count_literals, literals_size}
use Rattle.sch_word.specs.values.StaticsView.{statics}
use Rattle.sch_word.specs.runs.Runs.{Statics, names_size, statics_size, max_statics}
use Rattle.sch_word.specs.values.Literals.{objects_of_each}
use Rattle.sch_word.proofs.values.LiteralSteps.{some_size}
use Rattle.sch_word.proofs.values.NameSizes.{names_few}
use Rattle.sch_asm.specs.declared.assembly.Word.{Word}
use Rattle.sch_asm.specs.declared.assembly.Word.TheVariants.{Fixed}
use Rattle.sch_select_data.specs.ObjectParts.{parts_at}
use Rattle.sch_select_data.specs.ObjectWords.{objects_contents, objects_words}
use Rattle.sch_select_data.specs.PlacedWords.{units_in_each}
use Rattle.sch_select_data.proofs.literals.PlacedLiterals.{placed_objects}
use Rattle.sch_select_data.proofs.literals.Rows.{count_rows}
use Rattle.sch_select_data.proofs.literals.Sizes.{each_bound}
use Rattle.sch_select_memory.specs.Addresses.{names_address}
use Rattle.sch_select_data.specs.Data.{static_count, closures_unit, objects_unit, heap_address, max_heap_address}
use Rattle.sch_select_data.specs.NameWords.{names_count, symbols_count}
use Rattle.sch_select_data.proofs.StartData.{objects_count}

-- a symbol takes two words for each of its bytes and itself at most
names_bound : (names : List (List ℕ)) → names_count names ≤ names_size names
names_bound [] = omega arith
names_bound (name ∷ names) = let h = names_bound names in omega (arith, h)

pub symbols_bound : (names : List (List ℕ)) → symbols_count names ≤ 2 * names_size names
symbols_bound names = let h = names_bound names in let n = names_few names in omega (arith, h, n)

pub literals_few : (ls : Literals) → count_literals ls ≤ literals_size ls
literals_few no_literals = omega arith
literals_few (and_literal l ls) = let h = literals_few ls in let w = some_size l in omega (arith, h, w)

-- The words in front of the closures are as many as is counted, and few.
pub record AreFew (s : Statics) (literals globals symbols : ℕ) : Type 0 where
  pub counted : static_count s ≡ literals + globals + symbols
  pub few : 8 * (literals + globals + symbols) + 32 * literals_size s.literals ≤ 40 * max_statics

few_by : (s : Statics) → statics_size s ≤ max_statics → (literals globals symbols : ℕ)
    → literals ≡ count_literals s.literals → globals ≡ length s.globals → symbols ≡ symbols_count s.symbols
    → AreFew s literals globals symbols
few_by s few literals globals symbols a b c =
    let h = symbols_bound s.symbols in
    let l = literals_few s.literals in
    record { counted = omega (arith, a, b, c); few = omega (arith, a, b, c, h, l, few) }

pub are_few : (s : declared.Statics) → statics_size (statics s) ≤ max_statics → (literals globals symbols : ℕ)
    → literals ≡ length s.literals → globals ≡ length s.globals → symbols ≡ symbols_count s.symbols
    → AreFew (statics s) literals globals symbols
are_few s few literals globals symbols a b c =
    let n = count_rows s.literals in few_by (statics s) few literals globals symbols (omega (arith, a, n)) b c

-- ---- from these numbers

module _ (s : Statics) (literals globals symbols size : ℕ) (h : AreFew s literals globals symbols) where
  pub fits_count : literals + globals + symbols ≤ 5 * max_statics
  fits_count = let f = h.few in omega (arith, f)

-- ---- what is made of literals

made_count : (ls : Literals) (unit : ℕ) (words : List Word)
    → words ≡ objects_words (parts_at unit (objects_of_each ls 0)) (objects_of_each ls 0) → length words ≡ 2 * units_in_each ls
made_count ls unit words e =
    ap length e ∙ length-map (objects_contents (parts_at unit (objects_of_each ls 0)) (objects_of_each ls 0)) Fixed
    ∙ ap length (placed_objects unit ls) ∙ objects_count ls unit

pub made_heap : (s : Statics) (library unit : ℕ) (words : List Word) (count : ℕ)
    → words ≡ objects_words (parts_at unit (objects_of_each s.literals 0)) (objects_of_each s.literals 0) → (heap : ℕ)
    → count ≡ length words → unit ≡ objects_unit (static_count s) library → heap ≡ 16 * unit + 8 * count
    → heap ≡ heap_address (static_count s) library (units_in_each s.literals)
made_heap s library unit words count e heap i u h =
    let n = made_count s.literals unit words e in
    ends_at_by (objects_unit (static_count s) library) (units_in_each s.literals) unit (length words) count heap n i u h
  where
    ends_at_by : (at units unit words count heap : ℕ) → words ≡ 2 * units → count ≡ words → unit ≡ at → heap ≡ 16 * unit + 8 * count
        → heap ≡ 16 * (at + units)
    ends_at_by at units unit words count heap a b c d = omega (arith, a, b, c, d)

-- no heap begins later
heap_by : (literals globals symbols size units names library : ℕ) → units + literals ≤ 2 * size → symbols ≤ 2 * names
    → names + size + globals ≤ max_statics → library ≤ max_library
    → heap_address (literals + (globals + symbols)) library units ≤ max_heap_address
heap_by literals globals symbols size units names library u s few lib = omega (arith, u, s, few, lib)

pub heap_low : (s : Statics) (library : ℕ) → statics_size s ≤ max_statics → library ≤ max_library
    → heap_address (static_count s) library (units_in_each s.literals) ≤ max_heap_address
heap_low s library few lib =
    heap_by (count_literals s.literals) (length s.globals) (symbols_count s.symbols) (literals_size s.literals)
    (units_in_each s.literals) (names_size s.symbols) library (each_bound s.literals) (symbols_bound s.symbols) few lib

-- the addresses of names end in front of the closures
pub names_below : (s : declared.Statics) (names closures : ℕ) → names ≡ names_address (length s.literals) (length s.globals)
    → closures ≡ 16 * closures_unit (static_count (statics s)) → names + 8 * length s.symbols ≤ closures
names_below s names closures a b =
    let n = count_rows s.literals in below (length s.literals) _ (length s.globals) (length s.symbols) (names_count s.symbols) names closures n a b
  where
    below : (rows literals globals symbols more names closures : ℕ) → literals ≡ rows → names ≡ names_address rows globals
        → closures ≡ 16 * closures_unit (literals + (globals + (symbols + more))) → names + 8 * symbols ≤ closures
    below rows literals globals symbols more names closures e a b = omega (arith, e, a, b)
