-- What the machine answers for a text, in the grammar's words.
use Rattle.std.proofs.Common.{◌≡◌, ◌⊎◌, inl, inr, Ok, Err, Some, None, List, [], ℕ, ◌≤◌, ◌*◌, length, refl, subst}
use Rattle.std.specs.Prelude.{Option, Result, IfSome, IfOk, IfErr, MatchResult, IsErrAnd}
use Rattle.sch_read.specs.Grammar.{Token, Data, Reads, none}
use Rattle.sch_read.specs.Fault.{Fault, IsFirstFault}
use Rattle.sch_read.specs.Parser.Stack.{run}
use Rattle.sch_read.specs.ErrorFault.{named}
use Rattle.sch_read.specs.Lexer.Scan.{scan}
use Rattle.sch_read.specs.Text.{max_nesting, Spells, HasFault}
use Rattle.sch_read.specs.Views.{data_of}
use Rattle.sch_read.specs.Parser.StackView.{Gives}
use Rattle.sch_read.specs.Answer.{IsErrorFor, IsErrorIn}
use Rattle.sch_read.specs.declared.datum.Datum.{Datum}
use Rattle.sch_read.specs.declared.error.ReadError.{ReadError}
use Rattle.sch_read.specs.declared.error.ReadError.TheVariants as errors
use Rattle.sch_read.proofs.Runs.{accepts-back, accepts-forth}
use Rattle.sch_read.proofs.FirstFault.{first_fault, fault-one, fault-none}
use Rattle.sch_read.specs.Valid.{AreValid, max_byte_weight, weights}
use Rattle.sch_read.proofs.Weights.{spelled_weighs}
use Rattle.sch_read.proofs.Validity.{spelled_valid}
use Rattle.sch_read.proofs.Longest.{text-cuts, cuts-one}

abbrev pub Answers : List ℕ → Result (List Datum) ReadError → Type 0
Answers text r = Gives data_of r (run max_nesting [] none (scan 0 [] text))

pub found_of : (text : List ℕ) (r : Result (List Datum) ReadError) → Answers text r → IfOk r (λ ds. Spells text (data_of ds))
found_of text (Ok ds) h = (scan 0 [] text, text-cuts text, accepts-back max_nesting (scan 0 [] text) (data_of ds) h)
found_of text (Err e) h = tt

pub fault-has : (text : List ℕ) (f : Fault) → run max_nesting [] none (scan 0 [] text) ≡ Err f → HasFault text f
fault-has text f h = (scan 0 [] text, text-cuts text, first_fault max_nesting (scan 0 [] text) f h)

-- what follows where the machine answers with a fault holds of the fault that the error names
of_named : {X : Type 0} (o : Option Fault) (r : Result X Fault) (P : Fault → Type 0) → IfSome o (λ f. r ≡ Err f) → ((f : Fault) → r ≡ Err f → P f) → IfSome o P
of_named None r P h follows = tt
of_named (Some f) r P h follows = follows f h

-- an error that names no fault is out of memory
unnamed : (e : ReadError) → IfSome (named e) (λ f. ⊥) → e ≡ errors.Memory
unnamed errors.Memory h = refl
unnamed e h = absurd h

pub fault_of : (text : List ℕ) (r : Result (List Datum) ReadError) → Answers text r → IfErr r (IsErrorIn text)
fault_of text (Ok ds) h = tt
fault_of text (Err e) h = of_named (named e) (run max_nesting [] none (scan 0 [] text)) (HasFault text) h (fault-has text)

spells-run : (text : List ℕ) (xs : Data) → Spells text xs → run max_nesting [] none (scan 0 [] text) ≡ Ok xs
spells-run text xs (us, cut, reads) =
    let same = cuts-one 0 text us (scan 0 [] text) cut (text-cuts text) in
    let P : List Token → Type 0 = λ v. Reads max_nesting v xs in
    accepts-forth max_nesting (scan 0 [] text) xs (subst P same reads)

pub only_of : (text : List ℕ) (r : Result (List Datum) ReadError) → Answers text r → (xs : Data) → Spells text xs →
    MatchResult r (λ ds. data_of ds ≡ xs) (λ e. e ≡ errors.Memory)
only_of text (Ok ds) h xs s = let e = spells-run text xs s in cc
only_of text (Err e) h xs s = let ok = spells-run text xs s in unnamed e (of_named (named e) (run max_nesting [] none (scan 0 [] text)) (λ f. ⊥) h (λ f failed. cc))

fault-tokens : (text : List ℕ) (f : Fault) → HasFault text f → IsFirstFault max_nesting (scan 0 [] text) f
fault-tokens text f (us, cut, first) =
    let same = cuts-one 0 text us (scan 0 [] text) cut (text-cuts text) in
    let P : List Token → Type 0 = λ v. IsFirstFault max_nesting v f in
    subst P same first

fault-same : (text : List ℕ) (f g : Fault) → HasFault text f → run max_nesting [] none (scan 0 [] text) ≡ Err g → f ≡ g
fault-same text f g has h = fault-one max_nesting (scan 0 [] text) f g (fault-tokens text f has) (first_fault max_nesting (scan 0 [] text) g h)

pub only_fault_of : (text : List ℕ) (r : Result (List Datum) ReadError) → Answers text r → (f : Fault) → HasFault text f → IsErrAnd r (λ e. IsErrorFor e f)
only_fault_of text (Ok ds) h f has = fault-none max_nesting (scan 0 [] text) f (data_of ds, accepts-back max_nesting (scan 0 [] text) (data_of ds) h) (fault-tokens text f has)
only_fault_of text (Err e) h f has = of_named (named e) (run max_nesting [] none (scan 0 [] text)) (λ g. f ≡ g) h (λ g. fault-same text f g has)

pub valid_of : (text : List ℕ) (r : Result (List Datum) ReadError) → Answers text r → IfOk r (λ ds. AreValid (data_of ds))
valid_of text (Ok ds) h = spelled_valid text (data_of ds) (found_of text (Ok ds) h)
valid_of text (Err e) h = tt

pub light_of : (text : List ℕ) (r : Result (List Datum) ReadError) → Answers text r → IfOk r (λ ds. weights (data_of ds) ≤ max_byte_weight * length text)
light_of text (Ok ds) h = spelled_weighs text (data_of ds) (found_of text (Ok ds) h)
light_of text (Err e) h = tt

-- ## Laws of texts

-- what the code's stack answers for a text is data or a fault
answered : (text : List ℕ) (r : Result Data Fault) → run max_nesting [] none (scan 0 [] text) ≡ r → ((xs : Data) × Spells text xs) ⊎ ((f : Fault) × HasFault text f)
answered text (Ok xs) h = inl (xs, (scan 0 [] text, text-cuts text, accepts-back max_nesting (scan 0 [] text) xs h))
answered text (Err f) h = inr (f, fault-has text f h)

-- a text spells data or has a fault
pub spells_or_faulty : (text : List ℕ) → ((xs : Data) × Spells text xs) ⊎ ((f : Fault) × HasFault text f)
spells_or_faulty text = answered text (run max_nesting [] none (scan 0 [] text)) refl

-- what spells data has no fault
pub spells_faultless : (text : List ℕ) (xs : Data) (f : Fault) → Spells text xs → HasFault text f → ⊥
spells_faultless text xs f spells has =
    fault-none max_nesting (scan 0 [] text) f (xs, accepts-back max_nesting (scan 0 [] text) xs (spells-run text xs spells)) (fault-tokens text f has)

-- a text spells one list of data at most
pub spells_one : (text : List ℕ) (xs ys : Data) → Spells text xs → Spells text ys → xs ≡ ys
spells_one text xs ys a b = let here = spells-run text xs a in let there = spells-run text ys b in cc

-- a text has one fault at most
pub fault_one : (text : List ℕ) (f g : Fault) → HasFault text f → HasFault text g → f ≡ g
fault_one text f g a b = fault-one max_nesting (scan 0 [] text) f g (fault-tokens text f a) (fault-tokens text g b)
