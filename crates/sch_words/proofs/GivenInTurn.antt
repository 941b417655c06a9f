-- Texts that are taken one after the other, each unless its name was taken before, are those with no name twice.
use Rattle.std.proofs.Common.{ap, refl, sym, true, false, Bool, List, [], ◌∷◌, ◌++◌, Option, Some, None, ◌≡◌, ◌∙◌, option_map}
use Rattle.std.specs.Prelude.{option_and_then, if◌then◌else◌, not, ◌&&◌, ◌||◌}
use Rattle.std.specs.List.{list_any}
use Rattle.std.proofs.lemmas.List.{append-nil, append_assoc}
use Rattle.std.proofs.lemmas.List.Folds.{list_any-append}
use Rattle.std.specs.Str.{bytes_eq}
use Rattle.sch_words.specs.GivenTexts.{Text}
use Rattle.sch_words.specs.PlainReading.{Given, are_once}

abbrev pub is_taken : Text → List Given → Bool
is_taken name taken = list_any (λ given. bytes_eq given.name name) taken

-- one more text, unless its name was taken
abbrev pub take_one : (name text : Text) → (taken : List Given) → Option (List Given)
take_one name text taken = if is_taken name taken then None else Some (taken ++ record { name = name; text = text } ∷ [])

-- these texts, one after the other
abbrev pub take_each : List Given → (taken : List Given) → Option (List Given)
take_each [] taken = Some taken
take_each (given ∷ more) taken = option_and_then (take_each more) (take_one given.name given.text taken)

abbrev pub take_all : Option (List Given) → (taken : List Given) → Option (List Given)
take_all all taken = option_and_then (λ given. take_each given taken) all

-- none of the names was taken
abbrev are_new : List Given → (taken : List Given) → Bool
are_new [] taken = true
are_new (given ∷ more) taken = not (is_taken given.name taken) && are_new more taken

four_tests : (a b c d : Bool) → (not (a || (b || false)) && (c && not d)) ≡ ((not a && c) && not (b || d))
four_tests true b c d = refl
four_tests false true true d = refl
four_tests false true false d = refl
four_tests false false true d = refl
four_tests false false false d = refl

are_new_append : (all : List Given) (one : Given) (taken : List Given)
    → are_new all (taken ++ one ∷ []) ≡ (are_new all taken && not (list_any (λ other. bytes_eq one.name other.name) all))
are_new_append [] one taken = refl
are_new_append (given ∷ more) one taken =
    ap (λ b. not b && are_new more (taken ++ one ∷ [])) (list_any-append (λ other. bytes_eq other.name given.name) taken (one ∷ []))
    ∙ ap (λ b. not (is_taken given.name taken || (bytes_eq one.name given.name || false)) && b) (are_new_append more one taken)
    ∙ four_tests (is_taken given.name taken) (bytes_eq one.name given.name) (are_new more taken) (list_any (λ other. bytes_eq one.name other.name) more)

three_tests : {X : Type 0} (a b c d : Bool) (o : Option X) → (if a then None else (if (b && c) && d then o else None)) ≡ (if (not a && b) && (c && d) then o else None)
three_tests true b c d o = refl
three_tests false true true d o = refl
three_tests false true false d o = refl
three_tests false false c d o = refl

take_one_then : {X : Type 0} (b : Bool) (all : List Given) (f : List Given → Option X) → option_and_then f (if b then None else Some all) ≡ (if b then None else f all)
take_one_then true all f = refl
take_one_then false all f = refl

take_each_once : (all taken : List Given) → take_each all taken ≡ (if are_new all taken && are_once all then Some (taken ++ all) else None)
take_each_once [] taken = ap (λ all. Some all) (sym (append-nil taken))
take_each_once (given ∷ more) taken =
    take_one_then (is_taken given.name taken) (taken ++ given ∷ []) (take_each more)
    ∙ ap (λ o. if is_taken given.name taken then None else o) (take_each_once more (taken ++ given ∷ [])
    ∙ ap (λ b. if b && are_once more then Some ((taken ++ given ∷ []) ++ more) else None) (are_new_append more given taken)
    ∙ ap (λ all. if (are_new more taken && not (list_any (λ other. bytes_eq given.name other.name) more)) && are_once more then Some all else None) (append_assoc taken (given ∷ []) more))
    ∙ three_tests (is_taken given.name taken) (are_new more taken) (not (list_any (λ other. bytes_eq given.name other.name) more)) (are_once more) (Some (taken ++ given ∷ more))

are_new_to_none : (all : List Given) → are_new all [] ≡ true
are_new_to_none [] = refl
are_new_to_none (given ∷ more) = are_new_to_none more

-- from nothing taken: all of them, where no name is given twice
pub take_each_from_none : (all : List Given) → take_each all [] ≡ (if are_once all then Some all else None)
take_each_from_none all = take_each_once all [] ∙ ap (λ b. if b && are_once all then Some all else None) (are_new_to_none all)

mapped : {X : Type 0} (f : List Given → X) (run_on : List Given → Option X) (more : List Given → Option (List Given)) → ((all : List Given) → run_on all ≡ option_map f (more all))
    → (o : Option (List Given)) → option_and_then run_on o ≡ option_map f (option_and_then more o)
mapped f run_on more same None = refl
mapped f run_on more same (Some all) = same all

none_then : {X : Type 0} (f : List Given → X) (o : Option (List Given)) → option_map f (option_and_then (λ (all : List Given). None) o) ≡ None
none_then f None = refl
none_then f (Some all) = refl

-- the first of the texts may be taken before it is known whether the others are there
pub take_all_first : {X : Type 0} (f : List Given → X) (run_on : List Given → Option X) (name text : Text) (more : Option (List Given)) (taken : List Given)
    → ((all : List Given) → run_on all ≡ option_map f (take_all more all))
    → option_and_then run_on (take_one name text taken) ≡ option_map f (take_all (option_map (λ rest. record { name = name; text = text } ∷ rest) more) taken)
take_all_first f run_on name text None taken same = mapped f run_on (λ all. None) same (take_one name text taken) ∙ none_then f (take_one name text taken)
take_all_first f run_on name text (Some all) taken same = mapped f run_on (take_each all) same (take_one name text taken)
