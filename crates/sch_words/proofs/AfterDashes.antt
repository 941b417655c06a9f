-- After the word `--` the walk of clap and the plain reading give the same rows.
use Rattle.std.proofs.Common.{refl, codes, true, Bool, List, ℕ, [], ◌∷◌, Option, Some, None, ◌≡◌, ◌∙◌, map, option_map}
use Rattle.std.specs.Prelude.{option_and_then}
use Rattle.std.specs.Str.{bytes_eq}
use Rattle.clap.specs.Words.{Row}
use Rattle.clap.specs.Walk.{Walk, arg_by_id, idle, walked}
use Rattle.std.proofs.Math.Bool.{and-false}
use Rattle.sch_words.specs.GivenTexts.{Text}
use Rattle.sch_words.specs.PlainReading.{Given, positionals_in}
use Rattle.sch_words.proofs.GivenInTurn.{take_all, take_all_first, take_one}
use Rattle.sch_words.proofs.GivenRows.{pending_takes, row_of, rule_for}
use Rattle.sch_words.proofs.OneWalk.{run, top}

-- where the walk stands with these rows and nothing pending, and with a text that is pending: clap makes it a row
-- at the next word
abbrev pub between : (trailing : Bool) → (position : ℕ) → List Row → Walk
between trailing position rows = record {
  held = record { rows = rows; pending = None; skip = 0 };
  waiting = idle;
  position = position;
  is_trailing = trailing;
  stopped = None;
}

abbrev pub behind : (trailing : Bool) → (position : ℕ) → (name text : Text) → List Row → Walk
behind trailing position name text rows = record (between trailing position rows) {
  held = record { rows = rows; pending = Some (name, text ∷ []); skip = 0 };
}

-- the positionals that are free, by the number of the next one
pub data Free : ℕ → List Text → Type 0 where
  three : Free 1 (codes "verb" ∷ codes "name" ∷ codes "second" ∷ [])
  two : Free 2 (codes "name" ∷ codes "second" ∷ [])
  one : Free 3 (codes "second" ∷ [])
  none : Free 4 []

pub never : {X Y : Type 0} (o : Option X) (nothing : Option Y) → nothing ≡ None → nothing ≡ option_and_then (λ x. nothing) o
never None nothing e = e
never (Some x) nothing e = refl

-- a pending text becomes a row, unless its name was taken
pub trailing_settles : (position : ℕ) (free : List Text) → Free position free → (words : List Text) (taken : List Given) (name text : Text) (long : Option Text) (index : Option ℕ)
    → arg_by_id top.rules name ≡ Some (rule_for name long index)
    → run top words (behind true position name text (map row_of taken)) ≡ option_and_then (λ all. run top words (between true position (map row_of all))) (take_one name text taken)
unfolding run walked
trailing_settles position free left [] taken name text long index found = pending_takes top.rules name text long index taken (λ rows. Some rows) found
trailing_settles _ _ three (word ∷ rest) taken name text long index found = rw (and-false (bytes_eq name (codes "verb")))
    (pending_takes top.rules name text long index taken (λ rows. run top rest (behind true 2 (codes "verb") word rows)) found)
trailing_settles _ _ two (word ∷ rest) taken name text long index found = rw (and-false (bytes_eq name (codes "name")))
    (pending_takes top.rules name text long index taken (λ rows. run top rest (behind true 3 (codes "name") word rows)) found)
trailing_settles _ _ one (word ∷ rest) taken name text long index found = rw (and-false (bytes_eq name (codes "second")))
    (pending_takes top.rules name text long index taken (λ rows. run top rest (behind true 4 (codes "second") word rows)) found)
trailing_settles _ _ none (word ∷ rest) taken name text long index found = never (take_one name text taken) None refl

pub trailing_agrees : (words : List Text) (position : ℕ) (free : List Text) → Free position free → (taken : List Given)
    → run top words (between true position (map row_of taken)) ≡ option_map (map row_of) (take_all (positionals_in words free) taken)
unfolding run walked positionals_in
trailing_agrees [] position free left taken = refl
trailing_agrees (word ∷ rest) _ _ three taken = trailing_settles _ _ two rest taken (codes "verb") word None (Some 1) refl
    ∙ take_all_first (map row_of) _ (codes "verb") word (positionals_in rest (codes "name" ∷ codes "second" ∷ [])) taken (trailing_agrees rest _ _ two)
trailing_agrees (word ∷ rest) _ _ two taken = trailing_settles _ _ one rest taken (codes "name") word None (Some 2) refl
    ∙ take_all_first (map row_of) _ (codes "name") word (positionals_in rest (codes "second" ∷ [])) taken (trailing_agrees rest _ _ one)
trailing_agrees (word ∷ rest) _ _ one taken = trailing_settles _ _ none rest taken (codes "second") word None (Some 3) refl
    ∙ take_all_first (map row_of) _ (codes "second") word (positionals_in rest []) taken (trailing_agrees rest _ _ none)
trailing_agrees (word ∷ rest) _ _ none taken = refl
