-- What is numbered is few: a draft has no more sites, quoted data and globals than nodes.
use Rattle.std.proofs.Common.{◌≡◌, ◌≤◌, ℕ, zero, suc, ◌+◌, Bool, true, false, cond, List, [], ◌∷◌, ◌++◌, length, ap, arith, length-append}
use Rattle.std.specs.Str.{bytes_eq}
use Rattle.sch_names.specs.NamesView.{with_name, number_of}
use Rattle.sch_names.specs.Scope.{is_among}
use Rattle.sch_sketch.specs.Draft.{Draft, Drafts, constant, symbol, literal, local, global, set_local, set_global, define, branch, sequence, bind, letrec, lambda, call, operation, no_drafts, and_draft, count}
use Rattle.sch_sketch.specs.DraftMeasures.{over, over_each, size, size_each}
use Rattle.sch_link_tables.specs.Assigned.{is_group}
use Rattle.sch_link_tables.specs.Named.{firsts, global_here, globals_in, globals_in_each}
use Rattle.sch_link_tables.specs.Quoted.{quote_here, quotes_in, quotes_in_each}
use Rattle.sch_link_tables.specs.Room.{HasRoom}
use Rattle.sch_link_tables.specs.Sites.{unless_group, width_here, widths, widths_of_each}
use Rattle.sch_link_tables.specs.declared.tables.Output.{Output}

-- ## Names

pub number_within : (x : List ℕ) (names : List (List ℕ)) → number_of x names ≤ length names
number_within x [] = omega arith
number_within x (y ∷ ys) = go (bytes_eq x y) (number_within x ys)
  where
    go : (b : Bool) → number_of x ys ≤ length ys → cond b zero (suc (number_of x ys)) ≤ suc (length ys)
    go true h = omega arith
    go false h = omega (arith, h)

with_length : (x : List ℕ) (seen : List (List ℕ)) → length (with_name x seen) ≤ length seen + 1
with_length x seen = go (is_among x seen)
  where
    go : (b : Bool) → length (cond b seen (seen ++ x ∷ [])) ≤ length seen + 1
    go true = omega arith
    go false = omega (arith, length-append seen (x ∷ []))

pub firsts_length : (names seen : List (List ℕ)) → length (firsts seen names) ≤ length seen + length names
firsts_length [] seen = omega arith
firsts_length (x ∷ names) seen = omega (arith, firsts_length names (with_name x seen), with_length x seen)

-- ## What is gathered of a draft, where each node has one at most

module _ {A : Type 0} (here : Draft → List A) (one : (e : Draft) → length (here e) ≤ 1) where
  abbrev all : Draft → List A
  all = over [] (λ a b. a ++ b) here

  abbrev all_of_each : Drafts → List A
  all_of_each = over_each [] (λ a b. a ++ b) here

  mutual
    gathered : (e : Draft) → length (over [] (λ a b. a ++ b) here e) ≤ size e
    gathered (constant c) = omega (arith, one (constant c))
    gathered (symbol x) = omega (arith, one (symbol x))
    gathered (literal d) = omega (arith, one (literal d))
    gathered (local k) = omega (arith, one (local k))
    gathered (global x) = omega (arith, one (global x))
    gathered (set_local k e) = omega (arith, one (set_local k e), length-append (here (set_local k e)) (all e), gathered e)
    gathered (set_global x e) = omega (arith, one (set_global x e), length-append (here (set_global x e)) (all e), gathered e)
    gathered (define x e) = omega (arith, one (define x e), length-append (here (define x e)) (all e), gathered e)
    gathered (branch a b c) =
        omega (
          arith,
          one (branch a b c),
          length-append (here (branch a b c)) (all a ++ (all b ++ all c)),
          length-append (all a) (all b ++ all c),
          length-append (all b) (all c),
          gathered a,
          gathered b,
          gathered c,
        )
    gathered (sequence es) = omega (arith, one (sequence es), length-append (here (sequence es)) (all_of_each es), gathered_each es)
    gathered (bind vs es e) =
        let n = bind vs es e in
        omega (arith, one n, length-append (here n) (all_of_each es ++ all e), length-append (all_of_each es) (all e), gathered_each es, gathered e)
    gathered (letrec vs p es e) =
        let n = letrec vs p es e in
        omega (arith, one n, length-append (here n) (all_of_each es ++ all e), length-append (all_of_each es) (all e), gathered_each es, gathered e)
    gathered (lambda n r e) = omega (arith, one (lambda n r e), length-append (here (lambda n r e)) (all e), gathered e)
    gathered (call vs f es) =
        let n = call vs f es in
        omega (arith, one n, length-append (here n) (all f ++ all_of_each es), length-append (all f) (all_of_each es), gathered f, gathered_each es)
    gathered (operation p es) = omega (arith, one (operation p es), length-append (here (operation p es)) (all_of_each es), gathered_each es)

    gathered_each : (es : Drafts) → length (over_each [] (λ a b. a ++ b) here es) ≤ size_each es
    gathered_each no_drafts = omega arith
    gathered_each (and_draft e es) = omega (arith, length-append (all e) (all_of_each es), gathered e, gathered_each es)

-- ## Sites

one_width : (e : Draft) → length (width_here e) ≤ 1
one_width (constant c) = omega arith
one_width (symbol x) = omega arith
one_width (literal d) = omega arith
one_width (local k) = omega arith
one_width (global x) = omega arith
one_width (set_local k e) = omega arith
one_width (set_global x e) = omega arith
one_width (define x e) = omega arith
one_width (branch a b c) = omega arith
one_width (sequence es) = omega arith
one_width (bind vs es e) = omega arith
one_width (letrec vs p es e) = go (is_group p es e)
  where
    go : (b : Bool) → length (unless_group b (count es)) ≤ 1
    go true = omega arith
    go false = omega arith
one_width (lambda n r e) = omega arith
one_width (call vs f es) = omega arith
one_width (operation p es) = omega arith

pub few_widths : (e : Draft) → length (widths e) ≤ size e
few_widths e = gathered width_here one_width e

pub few_widths_of_each : (es : Drafts) → length (widths_of_each es) ≤ size_each es
few_widths_of_each es = gathered_each width_here one_width es

-- an init is a node, and so is an operand
pub few_parts : (es : Drafts) → count es ≤ size_each es
few_parts no_drafts = omega arith
few_parts (and_draft e es) = omega (arith, some_node e, few_parts es)
  where
    some_node : (e : Draft) → 1 ≤ size e
    some_node (constant c) = omega arith
    some_node (symbol x) = omega arith
    some_node (literal d) = omega arith
    some_node (local k) = omega arith
    some_node (global x) = omega arith
    some_node (set_local k e) = omega arith
    some_node (set_global x e) = omega arith
    some_node (define x e) = omega arith
    some_node (branch a b c) = omega arith
    some_node (sequence es) = omega arith
    some_node (bind vs es e) = omega arith
    some_node (letrec vs p es e) = omega arith
    some_node (lambda n r e) = omega arith
    some_node (call vs f es) = omega arith
    some_node (operation p es) = omega arith

-- ## Quoted data

one_quote : (e : Draft) → length (quote_here e) ≤ 1
one_quote (literal d) = omega arith
one_quote _ = omega arith

pub few_quotes : (e : Draft) → length (quotes_in e) ≤ size e
few_quotes e = gathered quote_here one_quote e

pub few_quotes_of_each : (es : Drafts) → length (quotes_in_each es) ≤ size_each es
few_quotes_of_each es = gathered_each quote_here one_quote es

-- ## Globals

module _ (own : List (List ℕ)) where
  one_global : (e : Draft) → length (global_here own e) ≤ 1
  one_global (global x) = omega arith
  one_global (set_global x e) = omega arith
  one_global (define x e) = omega arith
  one_global _ = omega arith

  pub few_globals : (e : Draft) → length (globals_in own e) ≤ size e
  few_globals e = gathered (global_here own) one_global e

  pub few_globals_of_each : (es : Drafts) → length (globals_in_each own es) ≤ size_each es
  few_globals_of_each es = gathered_each (global_here own) one_global es

-- ## Room

-- for fewer nodes
pub room_within : (out : Output) {m : ℕ} (n : ℕ) → HasRoom out m → n ≤ m → HasRoom out n
room_within out n r l = record { sites = omega (arith, r.sites, l); literals = omega (arith, r.literals, l) }

module _ (out out' : Output) {m : ℕ} (n : ℕ) (r : HasRoom out m) where
  -- where nothing was added
  pub room_same : out'.sites ≡ out.sites → out'.literals ≡ out.literals → n ≤ m → HasRoom out' n
  room_same s l h =
      let i : length out'.sites ≡ length out.sites = ap length s in
      let j : length out'.literals ≡ length out.literals = ap length l in
      record { sites = omega (arith, r.sites, h, i); literals = omega (arith, r.literals, h, j) }

  -- behind a site
  pub room_after_site : (w : ℕ) → out'.sites ≡ out.sites ++ w ∷ [] → out'.literals ≡ out.literals → 1 + n ≤ m → HasRoom out' n
  room_after_site w s l h =
      let i : length out'.sites ≡ length (out.sites ++ w ∷ []) = ap length s in
      let j : length out'.literals ≡ length out.literals = ap length l in
      record { sites = omega (arith, r.sites, h, i, length-append out.sites (w ∷ [])); literals = omega (arith, r.literals, h, j) }

  -- behind the site of a `letrec`, if that is one
  pub room_after_letrec : (w : ℕ) (group : Bool) → out'.sites ≡ out.sites ++ unless_group group w → out'.literals ≡ out.literals → 1 + n ≤ m → HasRoom out' n
  room_after_letrec w group s l h =
      let i : length out'.sites ≡ length (out.sites ++ unless_group group w) = ap length s in
      let j : length out'.literals ≡ length out.literals = ap length l in
      record { sites = omega (arith, r.sites, h, i, length-append out.sites (unless_group group w), one_site group); literals = omega (arith, r.literals, h, j) }
    where
      one_site : (b : Bool) → length (unless_group b w) ≤ 1
      one_site true = omega arith
      one_site false = omega arith

  -- behind a draft, and behind some
  pub room_after : (e : Draft) → length out'.sites ≡ length out.sites + length (widths e) → length out'.literals ≡ length out.literals + length (quotes_in e) → size e + n ≤ m → HasRoom out' n
  room_after e s l h = record { sites = omega (arith, r.sites, h, s, few_widths e); literals = omega (arith, r.literals, h, l, few_quotes e) }

  pub room_after_each : (es : Drafts) → length out'.sites ≡ length out.sites + length (widths_of_each es) → length out'.literals ≡ length out.literals + length (quotes_in_each es) →
      size_each es + n ≤ m → HasRoom out' n
  room_after_each es s l h = record { sites = omega (arith, r.sites, h, s, few_widths_of_each es); literals = omega (arith, r.literals, h, l, few_quotes_of_each es) }
