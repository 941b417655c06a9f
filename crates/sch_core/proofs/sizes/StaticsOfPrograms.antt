-- What the symbols, the literals and the globals of a program take, and that they are in range.
use Rattle.std.proofs.Common.{◌≡◌, ◌≤◌, ℕ, suc, ◌+◌, Bool, true, false, cond, List, [], ◌∷◌, ◌++◌, map, length, refl, ap, arith, length-append, lt-ltb}
use Rattle.std.specs.List.{list_all}
use Rattle.std.proofs.lemmas.Bool.{and_from}
use Rattle.sch_word.proofs.facts.Booleans.{and_parts}
use Rattle.sch_word.specs.runs.Runs.{names_size}
use Rattle.sch_word.specs.values.Literals as words
use Rattle.sch_word.specs.values.Literals.{Literals, no_literals, and_literal, literals, count_literals, literals_size, literals_known, literal_known, literal_in_range, literals_in_range}
use Rattle.sch_word.specs.values.Values.{are_bytes}
use Rattle.sch_read.specs.Grammar.{Datum, Data, atom, list, dotted, vector, none, cons, boolean, integer, character, symbol as symbol_atom}
use Rattle.sch_read.specs.Grammar as grammar
use Rattle.sch_word.proofs.values.NameSizes.{names_few}
use Rattle.sch_names.specs.Scope.{is_among}
use Rattle.sch_names.specs.NamesView.{with_name}
use Rattle.sch_sketch.specs.Draft.{Draft, Drafts, constant, symbol, literal, local, global, set_local, set_global, define, branch, sequence, bind, letrec, lambda, call, operation, no_drafts, and_draft}
use Rattle.sch_sketch.specs.Measure as measure
use Rattle.sch_link_tables.specs.Named.{firsts, globals_in, globals_in_each, symbols_in, symbols_in_each, symbols_of_datum, symbols_of_data}
use Rattle.sch_link_tables.specs.Quoted.{list_of, literal_of, literals_of_data, quotes_in, quotes_in_each}
use Rattle.sch_core.specs.LibraryDefinitions.{AreAmong}
use Rattle.sch_core.specs.SizesOfStatics.{statics_in, statics_in_each}
use Rattle.sch_core.specs.Quotable.{datum_in_range, data_in_range, AreQuotable, AreBytes}
use Rattle.sch_core.proofs.numbered.Names.{number_below, left, right}

-- ## Names

pub names_append : (a b : List (List ℕ)) → names_size (a ++ b) ≡ names_size a + names_size b
names_append [] b = omega arith
names_append (x ∷ a) b = omega (arith, names_append a b)

with_size : (x : List ℕ) (seen : List (List ℕ)) → names_size (with_name x seen) ≤ names_size seen + (1 + length x)
with_size x seen = go (is_among x seen)
  where
    go : (b : Bool) → names_size (cond b seen (seen ++ x ∷ [])) ≤ names_size seen + (1 + length x)
    go true = omega arith
    go false = omega (arith, names_append seen (x ∷ []))

pub firsts_size : (names seen : List (List ℕ)) → names_size (firsts seen names) ≤ names_size seen + names_size names
firsts_size [] seen = omega arith
firsts_size (x ∷ names) seen = omega (arith, firsts_size names (with_name x seen), with_size x seen)

pub bytes_append : (a b : List (List ℕ)) → AreBytes a → AreBytes b → AreBytes (a ++ b)
bytes_append [] b h k = k
bytes_append (x ∷ a) b h k = (h.0, bytes_append a b h.1 k)

pub firsts_bytes : (names seen : List (List ℕ)) → AreBytes seen → AreBytes names → AreBytes (firsts seen names)
firsts_bytes [] seen h k = h
firsts_bytes (x ∷ names) seen h k = firsts_bytes names (with_name x seen) (go (is_among x seen)) k.1
  where
    go : (b : Bool) → AreBytes (cond b seen (seen ++ x ∷ []))
    go true = h
    go false = bytes_append seen (x ∷ []) h (k.0, tt)

pub all_bytes : (xs : List (List ℕ)) → AreBytes xs → list_all are_bytes xs ≡ true
all_bytes [] h = refl
all_bytes (x ∷ xs) h = and_from _ _ h.0 (all_bytes xs h.1)

-- ## Literals

pub quotable_append : (a b : List Datum) → AreQuotable a → AreQuotable b → AreQuotable (a ++ b)
quotable_append [] b h k = k
quotable_append (d ∷ a) b h k = (h.0, quotable_append a b h.1 k)

module _ (symbols : List (List ℕ)) where
  abbrev pub all_literals : List Datum → Literals
  all_literals qs = literals (map (literal_of symbols) qs)

  pub count_quotes : (qs : List Datum) → count_literals (all_literals qs) ≡ length qs
  count_quotes [] = refl
  count_quotes (d ∷ qs) = ap suc (count_quotes qs)

  pub quotes_append : (a b : List Datum) → literals_size (all_literals (a ++ b)) ≡ literals_size (all_literals a) + literals_size (all_literals b)
  quotes_append [] b = omega arith
  quotes_append (d ∷ a) b = omega (arith, quotes_append a b)

  list_size : (ls : Literals) → words.literal_size (list_of ls) ≤ 2 + literals_size ls
  list_size no_literals = omega arith
  list_size (and_literal l ls) = omega arith

  mutual
    datum_size : (d : Datum) → names_size (symbols_of_datum d) + words.literal_size (literal_of symbols d) ≤ measure.literal_size d
    datum_size (atom at (boolean b)) = omega arith
    datum_size (atom at (integer z)) = omega arith
    datum_size (atom at (character c)) = omega arith
    datum_size (atom at (grammar.text bs)) = omega arith
    datum_size (atom at (symbol_atom x)) = omega arith
    datum_size (list at xs) = omega (arith, list_size (literals_of_data symbols xs), data_size xs)
    datum_size (dotted at xs x) = omega (arith, names_append (symbols_of_data xs) (symbols_of_datum x), data_size xs, datum_size x)
    datum_size (vector at xs) = omega (arith, data_size xs)

    data_size : (xs : Data) → names_size (symbols_of_data xs) + literals_size (literals_of_data symbols xs) ≤ measure.literal_sizes xs
    data_size none = omega arith
    data_size (cons x xs) = omega (arith, names_append (symbols_of_datum x) (symbols_of_data xs), datum_size x, data_size xs)

  -- the symbols of literals are in a table that has them all

  list_known : (n : ℕ) (ls : Literals) → literals_known n ls ≡ true → literal_known n (list_of ls) ≡ true
  list_known n no_literals h = refl
  list_known n (and_literal l ls) h = and_from _ _ h refl

  mutual
    datum_known : (d : Datum) → AreAmong symbols (symbols_of_datum d) → literal_known (length symbols) (literal_of symbols d) ≡ true
    datum_known (atom at (boolean b)) h = refl
    datum_known (atom at (integer z)) h = refl
    datum_known (atom at (character c)) h = refl
    datum_known (atom at (grammar.text bs)) h = refl
    datum_known (atom at (symbol_atom x)) h = lt-ltb _ _ (number_below x symbols h.0)
    datum_known (list at xs) h = list_known (length symbols) (literals_of_data symbols xs) (data_known xs h)
    datum_known (dotted at xs x) h =
        and_from _ _ (data_known xs (left symbols (symbols_of_data xs) _ h)) (datum_known x (right symbols (symbols_of_data xs) _ h))
    datum_known (vector at xs) h = data_known xs h

    data_known : (xs : Data) → AreAmong symbols (symbols_of_data xs) → literals_known (length symbols) (literals_of_data symbols xs) ≡ true
    data_known none h = refl
    data_known (cons x xs) h = and_from _ _ (datum_known x (left symbols (symbols_of_datum x) _ h)) (data_known xs (right symbols (symbols_of_datum x) _ h))

  abbrev pub AreNamed : List Datum → Type 0
  AreNamed [] = Unit {0}
  AreNamed (d ∷ qs) = AreAmong symbols (symbols_of_datum d) × AreNamed qs

  pub named_append : (a b : List Datum) → AreNamed a → AreNamed b → AreNamed (a ++ b)
  named_append [] b h k = k
  named_append (d ∷ a) b h k = (h.0, named_append a b h.1 k)

  pub quotes_known : (qs : List Datum) → AreNamed qs → literals_known (length symbols) (all_literals qs) ≡ true
  quotes_known [] h = refl
  quotes_known (d ∷ qs) h = and_from _ _ (datum_known d h.0) (quotes_known qs h.1)

  mutual
    quotes_named : (e : Draft) → AreAmong symbols (symbols_in e) → AreNamed (quotes_in e)
    quotes_named (constant c) h = tt
    quotes_named (symbol x) h = tt
    quotes_named (literal d) h = (h, tt)
    quotes_named (local k) h = tt
    quotes_named (global x) h = tt
    quotes_named (set_local k e) h = quotes_named e h
    quotes_named (set_global x e) h = quotes_named e h
    quotes_named (define x e) h = quotes_named e h
    quotes_named (branch a b c) h =
        let h' = right symbols (symbols_in a) _ h in
        named_append (quotes_in a) _ (quotes_named a (left symbols (symbols_in a) _ h))
        (named_append (quotes_in b) _ (quotes_named b (left symbols (symbols_in b) _ h')) (quotes_named c (right symbols (symbols_in b) _ h')))
    quotes_named (sequence es) h = quotes_each_named es h
    quotes_named (bind vs es e) h =
        named_append (quotes_in_each es) _ (quotes_each_named es (left symbols (symbols_in_each es) _ h)) (quotes_named e (right symbols (symbols_in_each es) _ h))
    quotes_named (letrec vs p es e) h =
        named_append (quotes_in_each es) _ (quotes_each_named es (left symbols (symbols_in_each es) _ h)) (quotes_named e (right symbols (symbols_in_each es) _ h))
    quotes_named (lambda n r e) h = quotes_named e h
    quotes_named (call vs f es) h =
        named_append (quotes_in f) _ (quotes_named f (left symbols (symbols_in f) _ h)) (quotes_each_named es (right symbols (symbols_in f) _ h))
    quotes_named (operation p es) h = quotes_each_named es h

    pub quotes_each_named : (es : Drafts) → AreAmong symbols (symbols_in_each es) → AreNamed (quotes_in_each es)
    quotes_each_named no_drafts h = tt
    quotes_each_named (and_draft e es) h =
        named_append (quotes_in e) _ (quotes_named e (left symbols (symbols_in e) _ h)) (quotes_each_named es (right symbols (symbols_in e) _ h))

  -- literals are in range

  list_in_range : (ls : Literals) → literals_in_range ls ≡ true → literal_in_range (list_of ls) ≡ true
  list_in_range no_literals h = refl
  list_in_range (and_literal l ls) h = and_from _ _ h refl

  mutual
    datum_ranges : (d : Datum) → datum_in_range d ≡ true → literal_in_range (literal_of symbols d) ≡ true
    datum_ranges (atom at (boolean b)) h = refl
    datum_ranges (atom at (integer z)) h = h
    datum_ranges (atom at (character c)) h = h
    datum_ranges (atom at (grammar.text bs)) h = h
    datum_ranges (atom at (symbol_atom x)) h = refl
    datum_ranges (list at xs) h = list_in_range (literals_of_data symbols xs) (data_ranges xs h)
    datum_ranges (dotted at xs x) h = let k = and_parts (data_in_range xs) _ h in and_from _ _ (data_ranges xs k.0) (datum_ranges x k.1)
    datum_ranges (vector at xs) h = data_ranges xs h

    data_ranges : (xs : Data) → data_in_range xs ≡ true → literals_in_range (literals_of_data symbols xs) ≡ true
    data_ranges none h = refl
    data_ranges (cons x xs) h = let k = and_parts (datum_in_range x) _ h in and_from _ _ (datum_ranges x k.0) (data_ranges xs k.1)

  pub quotes_range : (qs : List Datum) → AreQuotable qs → literals_in_range (all_literals qs) ≡ true
  quotes_range [] h = refl
  quotes_range (d ∷ qs) h = and_from _ _ (datum_ranges d h.0) (quotes_range qs h.1)

-- ## Drafts

-- names of symbols, literals and globals of parts
abbrev pub sizes : (symbols : List (List ℕ)) → List (List ℕ) → List Datum → List (List ℕ) → ℕ
sizes symbols ys qs gs = names_size ys + (literals_size (all_literals symbols qs) + length gs)

pub sizes_append : (symbols ys ys' : List (List ℕ)) (qs qs' : List Datum) (gs gs' : List (List ℕ)) →
    sizes symbols (ys ++ ys') (qs ++ qs') (gs ++ gs') ≡ sizes symbols ys qs gs + sizes symbols ys' qs' gs'
sizes_append symbols ys ys' qs qs' gs gs' = omega (arith, names_append ys ys', quotes_append symbols qs qs', length-append gs gs')

module _ (own symbols : List (List ℕ)) where
  abbrev size : Draft → ℕ
  size e = sizes symbols (symbols_in e) (quotes_in e) (globals_in own e)

  abbrev size_each : Drafts → ℕ
  size_each es = sizes symbols (symbols_in_each es) (quotes_in_each es) (globals_in_each own es)

  mutual
    statics_below : (e : Draft) → size e ≤ statics_in e
    statics_below (constant c) = omega arith
    statics_below (symbol x) = omega arith
    statics_below (literal d) = omega (arith, datum_size symbols d)
    statics_below (local k) = omega arith
    statics_below (global x) = omega arith
    statics_below (set_local k e) = omega (arith, statics_below e)
    statics_below (set_global x e) = omega (arith, statics_below e)
    statics_below (define x e) = omega (arith, statics_below e)
    statics_below (branch a b c) = omega (
      arith,
      sizes_append symbols (symbols_in a) (symbols_in b ++ symbols_in c) (quotes_in a) (quotes_in b ++ quotes_in c) (globals_in own a) (globals_in own b ++ globals_in own c),
      sizes_append symbols (symbols_in b) (symbols_in c) (quotes_in b) (quotes_in c) (globals_in own b) (globals_in own c),
      statics_below a,
      statics_below b,
      statics_below c,
    )
    statics_below (sequence es) = omega (arith, all_statics_below es)
    statics_below (bind vs es e) =
        omega (arith, sizes_append symbols (symbols_in_each es) (symbols_in e) (quotes_in_each es) (quotes_in e) (globals_in_each own es) (globals_in own e), all_statics_below es, statics_below e)
    statics_below (letrec vs p es e) =
        omega (arith, sizes_append symbols (symbols_in_each es) (symbols_in e) (quotes_in_each es) (quotes_in e) (globals_in_each own es) (globals_in own e), all_statics_below es, statics_below e)
    statics_below (lambda n r e) = omega (arith, statics_below e)
    statics_below (call vs f es) =
        omega (arith, sizes_append symbols (symbols_in f) (symbols_in_each es) (quotes_in f) (quotes_in_each es) (globals_in own f) (globals_in_each own es), statics_below f, all_statics_below es)
    statics_below (operation p es) = omega (arith, all_statics_below es)

    pub all_statics_below : (es : Drafts) → size_each es ≤ statics_in_each es
    all_statics_below no_drafts = omega arith
    all_statics_below (and_draft e es) =
        omega (arith, sizes_append symbols (symbols_in e) (symbols_in_each es) (quotes_in e) (quotes_in_each es) (globals_in own e) (globals_in_each own es), statics_below e, all_statics_below es)

pub symbols_counted : (es : Drafts) → length (symbols_in_each es) ≤ statics_in_each es
symbols_counted es = omega (arith, names_few (symbols_in_each es), all_statics_below [] [] es)
