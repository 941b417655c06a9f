-- Worked values of small definitions.
use Rattle.std.proofs.Common.{◌≡◌, ℕ, suc, true, false, [], ◌∷◌, pos, Some, None, Ok, Err, refl}
use Rattle.std.specs.Prelude.{◌+ℤ◌, ◌-ℤ◌}
use Rattle.sch_word.specs.declared.fix.TheConstants.{FIXNUM_MIN, FIXNUM_MAX}
use Rattle.sch_word.specs.declared.constant.Const.TheVariants.{Fixnum, Character, Nil}
use Rattle.sch_word.specs.declared.stop.Stop.TheVariants.{NotProcedure, DepthLimit, Unset}
use Rattle.sch_word.specs.trees.NumberSets.{without_repeats}
use Rattle.sch_word.specs.trees.Bindings.{pushed, with_cells}
use Rattle.sch_word.specs.values.Options.{when_ok, rest_of}
use Rattle.sch_word.specs.values.Values.{fixnum, procedure, cell, is_constant, are_bytes}
use Rattle.sch_word.specs.values.Checked.{passes, refused, exhausted, unreachable}
use Rattle.sch_word.specs.runs.Handed.{handed}
use Rattle.sch_word.specs.runs.Computation.{gives, stops, when_known, with_cell, callee, depth_left, entry_left}
use Rattle.sch_word.specs.values.Literals.{constant, text, list, elements, literals, literal_in_range}

-- ## Constants

constants_are_words :
    (is_constant (Fixnum FIXNUM_MAX) ≡ true)
    × (is_constant (Fixnum (FIXNUM_MAX +ℤ pos 1)) ≡ false)
    × (is_constant (Fixnum FIXNUM_MIN) ≡ true)
    × (is_constant (Fixnum (FIXNUM_MIN -ℤ pos 1)) ≡ false)
    × (is_constant (Character 255) ≡ true)
    × (is_constant (Character 256) ≡ false)
constants_are_words = (refl, refl, refl, refl, refl, refl)

texts_are_bytes : (are_bytes (0 ∷ 255 ∷ []) ≡ true) × (are_bytes (0 ∷ 256 ∷ []) ≡ false)
texts_are_bytes = (refl, refl)

-- `((300) . "a")` with a character, and `#("a" 300)` with a byte of a text
literals_out_of_range :
    (literal_in_range (list (literals (list (literals (constant (Character 300) ∷ [])) (constant Nil) ∷ [])) (text (97 ∷ []))) ≡ false)
    × (literal_in_range (list (literals (list (literals (constant (Character 97) ∷ [])) (constant Nil) ∷ [])) (text (300 ∷ []))) ≡ false)
    × (literal_in_range (elements (literals (text (97 ∷ []) ∷ constant (Fixnum (pos 300)) ∷ []))) ≡ true)
literals_out_of_range = (refl, refl, refl)

-- ## Calls

arguments_are_the_values : handed (fixnum (pos 1) ∷ fixnum (pos 2) ∷ []) false [] ≡ passes (fixnum (pos 1) ∷ fixnum (pos 2) ∷ [])
arguments_are_the_values = refl

-- among two procedures, which are known by 8 and 9
operators :
    (callee {P = ℕ} (8 ∷ 9 ∷ []) (procedure 1 ∷ fixnum (pos 0) ∷ []) ≡ passes 9)
    × (callee {P = ℕ} (8 ∷ 9 ∷ []) (procedure 2 ∷ []) ≡ unreachable)
    × (callee {P = ℕ} (8 ∷ 9 ∷ []) (fixnum (pos 1) ∷ procedure 0 ∷ []) ≡ refused NotProcedure)
operators = (refl, refl, refl)

depths :
    (depth_left true 0 ≡ passes 0) × (depth_left true 3 ≡ passes 3)
    × (depth_left false 0 ≡ refused DepthLimit) × (depth_left false 3 ≡ passes 2)
depths = (refl, refl, refl, refl)

entries : (entry_left {V = ℕ} 0 8 ≡ exhausted) × (entry_left {V = ℕ} 2 8 ≡ passes 8)
entries = (refl, refl)

-- ## Sets of numbers

-- wherever a number stands again
repeats :
    (without_repeats [] ≡ true)
    × (without_repeats (1 ∷ 2 ∷ 3 ∷ []) ≡ true)
    × (without_repeats (1 ∷ 2 ∷ 2 ∷ []) ≡ false)
    × (without_repeats (1 ∷ 1 ∷ 2 ∷ []) ≡ false)
    × (without_repeats (2 ∷ 1 ∷ 2 ∷ []) ≡ false)
repeats = (refl, refl, refl, refl, refl)

-- ## What may be there

known : (when_known {A = ℕ} {S = ℕ} (Some 3) gives 8 ≡ gives 3 8) × (when_known {A = ℕ} {S = ℕ} {V = ℕ} None gives 8 ≡ stops Unset 8)
known = (refl, refl)

cells : (with_cell {S = ℕ} (cell 3) gives 8 ≡ gives 3 8) × (with_cell {S = ℕ} {V = ℕ} (fixnum (pos 3)) gives 8 ≡ stops Unset 8)
cells = (refl, refl)

variables_of_cells :
    (with_cells (5 ∷ 6 ∷ []) (0 ∷ 1 ∷ []) [] ≡ (6, cell 1) ∷ (5, cell 0) ∷ [])
    × (with_cells (5 ∷ []) [] [] ≡ [])
variables_of_cells = (refl, refl)

answers :
    (when_ok {A = ℕ} {B = ℕ} {E = ℕ} (Ok 1) (λ n. Ok (suc n)) ≡ Ok 2)
    × (when_ok {A = ℕ} {B = ℕ} {E = ℕ} (Err 7) Ok ≡ Err 7)
answers = (refl, refl)

rests : (rest_of {A = ℕ} (1 ∷ 2 ∷ 3 ∷ []) ≡ 2 ∷ 3 ∷ []) × (rest_of {A = ℕ} [] ≡ [])
rests = (refl, refl)

scopes : pushed {A = ℕ} (1 ∷ 2 ∷ []) (3 ∷ []) ≡ 2 ∷ 1 ∷ 3 ∷ []
scopes = refl
