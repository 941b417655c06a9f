-- The words of data of small programs, written out.
use Rattle.std.proofs.Common.{◌≡◌, ℕ, ◌+◌, ◌*◌, List, [], ◌∷◌, length, drop, Option, Some, None, refl}
use Rattle.std.specs.Prelude.{codes, pos}
use Rattle.sch_word.specs.declared.constant.Const.TheVariants.{Fixnum, Nil, Symbol}
use Rattle.sch_word.specs.values.Literals.{Literals, literals, constant, text, list, elements}
use Rattle.sch_frames.specs.Tree.{Source}
use Rattle.sch_asm.specs.declared.assembly.Word.TheVariants.{Fixed, Address}
use Rattle.sch_select_data.specs.Data.{program_words, closures_of, heap_of}
use Rattle.sch_select_data.specs.NameWords.{symbol_words}
use Rattle.sch_select_memory.specs.Addresses.{body_label}

-- a program without bodies
abbrev program : (symbols : List (List ℕ)) → Literals → (globals : List (Option ℕ)) → (library : List ℕ) → Source
program symbols ls globals library = record {
  statics = record { symbols = symbols; literals = ls; globals = globals };
  library = library;
  bodies = [];
  words = 2;
}

-- the string "hi" and the list (1 ab); the first global has a procedure of the library
abbrev some : Source
some = program (codes "ab" ∷ [])
    (literals (text (codes "hi") ∷ list (literals (constant (Fixnum (pos 1)) ∷ constant (Symbol 0) ∷ [])) (constant Nil) ∷ []))
    (Some 0 ∷ None ∷ []) (7 ∷ [])

-- the address of the names; the literals' words; the globals'; the names; the closure; the string, and two pairs
some_words :
    (drop 100 (program_words some) ≡ Fixed 0x10000348
    ∷ Fixed 0x10000373 ∷ Fixed 0x10000381
    ∷ Fixed 0x10000364 ∷ Fixed 38
    ∷ Fixed 0x10000350 ∷ Fixed 16 ∷ Fixed 0x6261
    ∷ Address (body_label 7) ∷ Fixed 0
    ∷ Fixed 16 ∷ Fixed 0x6968 ∷ Fixed 8 ∷ Fixed 0x10000391 ∷ Fixed 5 ∷ Fixed 22 ∷ [])
    × (closures_of some ≡ 0x10000360)
    × (heap_of some ≡ 0x100003A0)
    × (0x10000000 + 8 * length (program_words some) ≡ heap_of some)
some_words = (refl, refl, refl, refl)

-- where nothing is static, a word 0 makes the words a multiple of 16 bytes
abbrev nothing : Source
nothing = program [] (literals []) [] []

nothing_words :
    (drop 100 (program_words nothing) ≡ Fixed 0x10000328 ∷ Fixed 0 ∷ [])
    × (heap_of nothing ≡ 0x10000330)
nothing_words = (refl, refl)

-- a vector takes two units, whose last word is 0; two globals need no word behind them
abbrev with_vector : Source
with_vector = program [] (literals (elements (literals (constant (Fixnum (pos 1)) ∷ constant Nil ∷ [])) ∷ [])) (None ∷ None ∷ []) []

vector_words : drop 101 (program_words with_vector) ≡ Fixed 0x10000342 ∷ Fixed 38 ∷ Fixed 38 ∷ Fixed 16 ∷ Fixed 8 ∷ Fixed 22 ∷ Fixed 0 ∷ []
vector_words = refl

-- names of no bytes, of eight and of nine
names_words : symbol_words 0x10000328 ([] ∷ codes "12345678" ∷ codes "123456789" ∷ []) ≡
    0x10000340 ∷ 0x10000348 ∷ 0x10000358 ∷ 0 ∷ 64 ∷ 0x3837363534333231 ∷ 72 ∷ 0x3837363534333231 ∷ 0x39 ∷ []
names_words = refl
