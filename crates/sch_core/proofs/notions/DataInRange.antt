-- What stands for data in range has the constants, the quotations and the symbols that a program may have.
use Rattle.std.proofs.Common.{◌≡◌, true, refl}
use Rattle.std.proofs.lemmas.Bool.{and_from}
use Rattle.sch_word.proofs.facts.Booleans.{and_parts}
use Rattle.sch_word.specs.values.Values.{is_constant, are_bytes}
use Rattle.sch_word.specs.declared.primitive.Primitive.{Primitive}
use Rattle.sch_word.specs.declared.primitive.Primitive.TheVariants.{Multiply}
use Rattle.sch_word.specs.values.Fixnum.{is_fixnum}
use Rattle.sch_read.specs.Grammar.{Datum, Data, atom, list, dotted, vector, none, cons, boolean, integer, character, symbol as symbol_atom}
use Rattle.sch_read.specs.Grammar as grammar
use Rattle.sch_names.specs.Operations.{unit_of}
use Rattle.sch_names.specs.Scope.{Globals}
use Rattle.sch_sketch.specs.Draft.{Draft, Drafts, constant, symbol, literal, local, global, set_local, set_global, define, branch, sequence, bind, letrec, lambda, call, operation, no_drafts, and_draft}
use Rattle.sch_link_tables.specs.Constants.{HasConstants, HaveConstants}
use Rattle.sch_link_tables.specs.Named.{symbols_in, symbols_in_each, symbols_of_datum, symbols_of_data}
use Rattle.sch_link_tables.specs.Quoted.{quotes_in, quotes_in_each}
use Rattle.sch_core.specs.Quotable.{datum_in_range, data_in_range, IsQuotable, AllQuotable, AreQuotable, AreBytes, HasWords, HaveWords}
use Rattle.sch_core.proofs.sizes.StaticsOfPrograms.{quotable_append, bytes_append}
use Rattle.sch_core.proofs.notions.Notions.{Notion, AllGood, IsKept}
use Rattle.sch_core.proofs.notions.FitDrafts.{FitsDraft, FitsDrafts}

abbrev pub in_range : Notion
in_range = record {
  Good = IsQuotable;
  Global = λ x. Unit {0};
  Constant = λ k. is_constant k ≡ true;
  Symbol = λ x. are_bytes x ≡ true;
}

pub all_good : (xs : Data) → AllQuotable xs → AllGood in_range xs
all_good none h = tt
all_good (cons x xs) h = (h.0, all_good xs h.1)

data_parts : (xs : Data) → data_in_range xs ≡ true → AllGood in_range xs
data_parts none h = tt
data_parts (cons x xs) h = let k = and_parts (datum_in_range x) _ h in (k.0, data_parts xs k.1)

unit_in_range : (p : Primitive) → is_fixnum (unit_of p) ≡ true
unit_in_range Multiply = refl
unit_in_range _ = refl

pub in_range_kept : (globals : Globals) → IsKept globals in_range
in_range_kept globals = record {
  parts = λ at xs h. data_parts xs h;
  truth = λ b. refl;
  integer_is = λ at z h. h;
  character_is = λ at k h. h;
  symbol_is = λ at x h. h;
  empty = refl;
  nothing = refl;
  unit = unit_in_range;
  space = refl;
  bound = λ x h. tt;
}

-- ## Constants and quotations

mutual
  pub has_constants : (e : Draft) → FitsDraft in_range e → HasConstants e
  has_constants (constant c) h = h
  has_constants (symbol x) h = refl
  has_constants (literal d) h = refl
  has_constants (local k) h = refl
  has_constants (global x) h = refl
  has_constants (set_local k e) h = has_constants e h
  has_constants (set_global x e) h = has_constants e h.1
  has_constants (define x e) h = has_constants e h.1
  has_constants (branch a b c) h = and_from _ _ (has_constants a h.0) (and_from _ _ (has_constants b h.1) (has_constants c h.2))
  has_constants (sequence es) h = have_constants es h
  has_constants (bind vs es e) h = and_from _ _ (have_constants es h.0) (has_constants e h.1)
  has_constants (letrec vs p es e) h = and_from _ _ (have_constants es h.0) (has_constants e h.1)
  has_constants (lambda n r e) h = has_constants e h
  has_constants (call vs f es) h = and_from _ _ (has_constants f h.0) (have_constants es h.1)
  has_constants (operation p es) h = have_constants es h

  pub have_constants : (es : Drafts) → FitsDrafts in_range es → HaveConstants es
  have_constants no_drafts h = refl
  have_constants (and_draft e es) h = and_from _ _ (has_constants e h.0) (have_constants es h.1)

mutual
  quotable : (e : Draft) → FitsDraft in_range e → AreQuotable (quotes_in e)
  quotable (constant c) h = tt
  quotable (symbol x) h = tt
  quotable (literal d) h = (h, tt)
  quotable (local k) h = tt
  quotable (global x) h = tt
  quotable (set_local k e) h = quotable e h
  quotable (set_global x e) h = quotable e h.1
  quotable (define x e) h = quotable e h.1
  quotable (branch a b c) h = quotable_append (quotes_in a) _ (quotable a h.0) (quotable_append (quotes_in b) _ (quotable b h.1) (quotable c h.2))
  quotable (sequence es) h = all_quotable es h
  quotable (bind vs es e) h = quotable_append (quotes_in_each es) _ (all_quotable es h.0) (quotable e h.1)
  quotable (letrec vs p es e) h = quotable_append (quotes_in_each es) _ (all_quotable es h.0) (quotable e h.1)
  quotable (lambda n r e) h = quotable e h
  quotable (call vs f es) h = quotable_append (quotes_in f) _ (quotable f h.0) (all_quotable es h.1)
  quotable (operation p es) h = all_quotable es h

  all_quotable : (es : Drafts) → FitsDrafts in_range es → AreQuotable (quotes_in_each es)
  all_quotable no_drafts h = tt
  all_quotable (and_draft e es) h = quotable_append (quotes_in e) _ (quotable e h.0) (all_quotable es h.1)

mutual
  datum_bytes : (d : Datum) → datum_in_range d ≡ true → AreBytes (symbols_of_datum d)
  datum_bytes (atom at (boolean b)) h = tt
  datum_bytes (atom at (integer z)) h = tt
  datum_bytes (atom at (character c)) h = tt
  datum_bytes (atom at (grammar.text bs)) h = tt
  datum_bytes (atom at (symbol_atom x)) h = (h, tt)
  datum_bytes (list at xs) h = data_bytes xs h
  datum_bytes (dotted at xs x) h =
      let k = and_parts (data_in_range xs) _ h in bytes_append (symbols_of_data xs) _ (data_bytes xs k.0) (datum_bytes x k.1)
  datum_bytes (vector at xs) h = data_bytes xs h

  data_bytes : (xs : Data) → data_in_range xs ≡ true → AreBytes (symbols_of_data xs)
  data_bytes none h = tt
  data_bytes (cons x xs) h =
      let k = and_parts (datum_in_range x) _ h in bytes_append (symbols_of_datum x) _ (datum_bytes x k.0) (data_bytes xs k.1)

mutual
  bytes : (e : Draft) → FitsDraft in_range e → AreBytes (symbols_in e)
  bytes (constant c) h = tt
  bytes (symbol x) h = (h, tt)
  bytes (literal d) h = datum_bytes d h
  bytes (local k) h = tt
  bytes (global x) h = tt
  bytes (set_local k e) h = bytes e h
  bytes (set_global x e) h = bytes e h.1
  bytes (define x e) h = bytes e h.1
  bytes (branch a b c) h = bytes_append (symbols_in a) _ (bytes a h.0) (bytes_append (symbols_in b) _ (bytes b h.1) (bytes c h.2))
  bytes (sequence es) h = all_bytes es h
  bytes (bind vs es e) h = bytes_append (symbols_in_each es) _ (all_bytes es h.0) (bytes e h.1)
  bytes (letrec vs p es e) h = bytes_append (symbols_in_each es) _ (all_bytes es h.0) (bytes e h.1)
  bytes (lambda n r e) h = bytes e h
  bytes (call vs f es) h = bytes_append (symbols_in f) _ (bytes f h.0) (all_bytes es h.1)
  bytes (operation p es) h = all_bytes es h

  all_bytes : (es : Drafts) → FitsDrafts in_range es → AreBytes (symbols_in_each es)
  all_bytes no_drafts h = tt
  all_bytes (and_draft e es) h = bytes_append (symbols_in e) _ (bytes e h.0) (all_bytes es h.1)

pub has_words : (e : Draft) → FitsDraft in_range e → HasWords e
has_words e h = (quotable e h, bytes e h)

pub have_words : (es : Drafts) → FitsDrafts in_range es → HaveWords es
have_words es h = (all_quotable es h, all_bytes es h)
