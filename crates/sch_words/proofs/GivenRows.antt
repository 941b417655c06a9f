-- The rows that clap keeps of the texts that are given.
use Rattle.std.proofs.Common.{ap, refl, sym, codes, true, false, Bool, List, ℕ, [], ◌∷◌, ◌++◌, Option, Some, None, ◌≡◌, ◌∙◌, map, option_map}
use Rattle.std.specs.Prelude.{find, option_and_then, slice_get, if◌then◌else◌, ◌||◌, ◌&&◌}
use Rattle.std.proofs.lemmas.List.{append-nil, map-append}
use Rattle.std.specs.Option.{option_map_or}
use Rattle.std.specs.Str.{bytes_eq}
use Rattle.std.proofs.lemmas.Bool.{true≢false}
use Rattle.clap.specs.Words.{Row, Rule, first_of}
use Rattle.clap.specs.Kinds.{or_else}
use Rattle.clap.specs.Values.{reading_of}
use Rattle.clap.specs.Walk.{arg_by_id, at_row, has_row, more_values, used, used_by_id, with_values, without}
use Rattle.clap.specs.Faults.{use_fault}
use Rattle.clap.specs.declared.builder.action.ArgAction.TheVariants.{Set}
use Rattle.clap.specs.declared.builder.value_parser.ValueParser.TheVariants as parser
use Rattle.clap.specs.declared.error.kind.ErrorKind.TheVariants as kind
use Rattle.clap.specs.declared.parser.matches.ValueSource.TheVariants.{CommandLine}
use Rattle.sch_words.specs.GivenTexts.{Text}
use Rattle.sch_words.specs.PlainReading.{Given, text_for, texts_given}
use Rattle.sch_words.specs.SimpleCommand.{texts_of_rows}
use Rattle.sch_words.proofs.GivenInTurn.{is_taken, take_one}
use Rattle.sch_words.proofs.OneWalk.{passing}

abbrev pub row_of : Given → Row
row_of given = record {
  id = given.name;
  values = given.text ∷ [];
  count = None;
  source = Some CommandLine;
  reading = reading_of parser.String;
}

first_of_rows : (all : List Given) (name : Text) → first_of name (map row_of all) ≡ text_for name all
first_of_rows [] name = refl
first_of_rows (given ∷ more) name = go (first_of_rows more name) (bytes_eq given.name name)
  where
    go : (first_of name (map row_of more) ≡ text_for name more) → (b : Bool)
        → option_and_then (λ (r : Row). slice_get r.values 0) (if b then Some (row_of given) else find (λ r. bytes_eq r.id name) (map row_of more))
        ≡ option_map (λ (g : Given). g.text) (if b then Some given else find (λ g. bytes_eq g.name name) more)
    go rest true = refl
    go rest false = rest

-- the texts are those in the rows
pub texts_in_rows : (all : List Given) → texts_of_rows (map row_of all) ≡ texts_given all
texts_in_rows all =
    let found = first_of_rows all in
    rw (found (codes "verb"), found (codes "name"), found (codes "second"), found (codes "listing"), found (codes "heap"), found (codes "depth"), found (codes "steps")) refl

has_row_taken : (taken : List Given) (name : Text) → has_row name (map row_of taken) ≡ is_taken name taken
has_row_taken [] name = refl
has_row_taken (given ∷ more) name = ap (λ b. bytes_eq given.name name || b) (has_row_taken more name)

-- the rule of an argument that takes one text, once
abbrev pub rule_for : (name : Text) → (long : Option Text) → (index : Option ℕ) → Rule
rule_for name long index = record {
  id = name;
  long = long;
  aliases = [];
  short = None;
  short_aliases = [];
  index = index;
  action = Some Set;
  range = Some (record { start_inclusive = 1; end_inclusive = 1 });
  value_names = 0;
  defaults = [];
  missing = [];
  trailing_var_arg = false;
  parser = Some parser.String;
  ignore_case = false;
  required = false;
  is_simple = true;
  is_free = true;
}

use_fault_rule : {X : Type 0} (name text : Text) (long : Option Text) (index : Option ℕ) (rows : List Row) (o : Option X)
    → passing (use_fault false (rule_for name long index) (text ∷ []) rows) o ≡ (if has_row name rows then None else o)
use_fault_rule {X} name text long index rows o = go (has_row name rows)
  where
    go : (b : Bool) → passing (or_else (if b && true then kind.ArgumentConflict ∷ [] else []) []) o ≡ (if b then None else o)
    go true = refl
    go false = refl

at_row_other : (b any : Bool) (x : List Row) (r : Row) (rest wanted : List Row) → (b || any) ≡ false → (any ≡ false → rest ≡ wanted) → (if b then x else r ∷ rest) ≡ r ∷ wanted
at_row_other true any x r rest wanted e ih = absurd (true≢false e)
at_row_other false any x r rest wanted e ih = ap (λ rs. r ∷ rs) (ih e)

-- where no row has the name, what is missing goes to the end
at_row_new : (taken : List Given) (name : Text) (change : Row → List Row) (missing : List Row) → is_taken name taken ≡ false
    → at_row name change missing (map row_of taken) ≡ map row_of taken ++ missing
at_row_new [] name change missing e = refl
at_row_new (given ∷ more) name change missing e =
    at_row_other (bytes_eq given.name name) (is_taken name more) _ (row_of given) _ _ e (at_row_new more name change missing)

with_values_new : (taken : List Given) (name text : Text) → is_taken name taken ≡ false
    → with_values name (reading_of parser.String) CommandLine (text ∷ []) (without name (map row_of taken)) ≡ map row_of (taken ++ record { name = name; text = text } ∷ [])
with_values_new taken name text e =
    ap (with_values name (reading_of parser.String) CommandLine (text ∷ [])) (at_row_new taken name (λ _. []) [] e ∙ append-nil (map row_of taken))
    ∙ at_row_new taken name (more_values CommandLine (text ∷ [])) (row_of (record { name = name; text = text }) ∷ []) e
    ∙ sym (map-append row_of taken (record { name = name; text = text } ∷ []))

-- a use of an argument is one more text
pub used_takes : {X : Type 0} (name text : Text) (long : Option Text) (index : Option ℕ) (taken : List Given) (k : List Row → Option X)
    → passing (use_fault false (rule_for name long index) (text ∷ []) (map row_of taken)) (k (used (rule_for name long index) (text ∷ []) (map row_of taken)))
    ≡ option_and_then (λ all. k (map row_of all)) (take_one name text taken)
used_takes {X} name text long index taken k =
    use_fault_rule name text long index (map row_of taken) _
    ∙ ap (λ b. if b then None else k (used (rule_for name long index) (text ∷ []) (map row_of taken))) (has_row_taken taken name)
    ∙ go (is_taken name taken) refl
  where
    go : (b : Bool) → is_taken name taken ≡ b → (if b then None else k (used (rule_for name long index) (text ∷ []) (map row_of taken)))
        ≡ option_and_then (λ all. k (map row_of all)) (if b then None else Some (taken ++ record { name = name; text = text } ∷ []))
    go true e = refl
    go false e = ap k (with_values_new taken name text e)

-- the same of a use that is pending
pub pending_takes : {X : Type 0} (rules : List Rule) (name text : Text) (long : Option Text) (index : Option ℕ) (taken : List Given) (k : List Row → Option X)
    → arg_by_id rules name ≡ Some (rule_for name long index)
    → passing (option_map_or (λ a. use_fault false a (text ∷ []) (map row_of taken)) (arg_by_id rules name) []) (k (used_by_id (arg_by_id rules name) (text ∷ []) (map row_of taken)))
    ≡ option_and_then (λ all. k (map row_of all)) (take_one name text taken)
pending_takes rules name text long index taken k found =
    ap (λ o. passing (option_map_or (λ a. use_fault false a (text ∷ []) (map row_of taken)) o []) (k (used_by_id o (text ∷ []) (map row_of taken)))) found
    ∙ used_takes name text long index taken k
