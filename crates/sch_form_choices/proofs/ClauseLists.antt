-- Lists of clauses, step by step.
use Rattle.std.proofs.Common.{◌≡◌, ◌<◌, ◌+◌, ℕ, zero, suc, nat_eq, arith, Bool, true, false, ◌&&◌, not, List, [], ◌∷◌, length, drop, get_or, refl, sym, ◌∙◌, add-one}
use Rattle.std.proofs.lemmas.Bool.{false≢true}
use Rattle.std.proofs.lemmas.Bool.Decides.{nat_tests}
use Rattle.sch_word.proofs.facts.Lists.{next_left}
use Rattle.sch_word.proofs.facts.NumberTests.{same_test}
use Rattle.sch_read.specs.declared.datum.Datum as code
use Rattle.sch_read.specs.Views.{tree_of, data_of}
use Rattle.sch_names.specs.Scope.{Scope}
use Rattle.sch_form_choices.specs.Choices.{is_some_data, is_clause, are_clauses}
use Rattle.sch_form_choices.specs.Cases.{is_case, are_cases}

no_more : (items : List code.Datum) → not (is_some_data (data_of items)) ≡ nat_eq (length items) 0
no_more [] = refl
no_more (d ∷ items) = grind (arith, nat_tests)

-- whether a datum is the last
pub is_last_datum : (items : List code.Datum) (i : ℕ) → i < length items → not (is_some_data (data_of (drop (suc i) items))) ≡ nat_eq (i + 1) (length items)
is_last_datum [] i l = absurd (omega (arith, l))
is_last_datum (d ∷ items) zero l = no_more items ∙ same_test (length items) 0 _ _ (omega arith) (omega arith)
is_last_datum (d ∷ items) (suc i) l = is_last_datum items i (omega (arith, l)) ∙ same_test _ _ _ _ (omega arith) (omega arith)

true_and : (a b c : Bool) → a ≡ true → (a && b) ≡ c → b ≡ c
true_and true b c e h = h
true_and false b c e h = absurd (false≢true e)

false_and : (a b c : Bool) → a ≡ false → (a && b) ≡ c → c ≡ false
false_and false b c e h = sym h
false_and true b c e h = absurd (false≢true (sym e))

pub clauses_next : (s : Scope) (items : List code.Datum) (i : ℕ) (d : code.Datum) (b r : Bool) → i < length items → d ≡ get_or items i d → b ≡ is_clause s (tree_of d) (nat_eq (i + 1) (length items)) → b ≡ true →
    are_clauses s (data_of (drop i items)) ≡ r → are_clauses s (data_of (drop (i + 1) items)) ≡ r
clauses_next s items i d b r l e h g k =
    let n = next_left items i d l e in
    let k' = rw n at k in
    let m = is_last_datum items i l in
    let v : is_clause s (tree_of d) (not (is_some_data (data_of (drop (suc i) items)))) ≡ true = rw m (sym h ∙ g) in
    rw add-one (true_and _ _ r v k')

pub clauses_stop : (s : Scope) (items : List code.Datum) (i : ℕ) (d : code.Datum) (b r : Bool) → i < length items → d ≡ get_or items i d → b ≡ is_clause s (tree_of d) (nat_eq (i + 1) (length items)) → b ≡ false →
    are_clauses s (data_of (drop i items)) ≡ r → r ≡ false
clauses_stop s items i d b r l e h g k =
    let n = next_left items i d l e in
    let k' = rw n at k in
    let m = is_last_datum items i l in
    let v : is_clause s (tree_of d) (not (is_some_data (data_of (drop (suc i) items)))) ≡ false = rw m (sym h ∙ g) in
    false_and _ _ r v k'

pub cases_next : (s : Scope) (items : List code.Datum) (i : ℕ) (d : code.Datum) (b r : Bool) → i < length items → d ≡ get_or items i d → b ≡ is_case s (tree_of d) (nat_eq (i + 1) (length items)) → b ≡ true →
    are_cases s (data_of (drop i items)) ≡ r → are_cases s (data_of (drop (i + 1) items)) ≡ r
cases_next s items i d b r l e h g k =
    let n = next_left items i d l e in
    let k' = rw n at k in
    let m = is_last_datum items i l in
    let v : is_case s (tree_of d) (not (is_some_data (data_of (drop (suc i) items)))) ≡ true = rw m (sym h ∙ g) in
    rw add-one (true_and _ _ r v k')

pub cases_stop : (s : Scope) (items : List code.Datum) (i : ℕ) (d : code.Datum) (b r : Bool) → i < length items → d ≡ get_or items i d → b ≡ is_case s (tree_of d) (nat_eq (i + 1) (length items)) → b ≡ false →
    are_cases s (data_of (drop i items)) ≡ r → r ≡ false
cases_stop s items i d b r l e h g k =
    let n = next_left items i d l e in
    let k' = rw n at k in
    let m = is_last_datum items i l in
    let v : is_case s (tree_of d) (not (is_some_data (data_of (drop (suc i) items)))) ≡ false = rw m (sym h ∙ g) in
    false_and _ _ r v k'
