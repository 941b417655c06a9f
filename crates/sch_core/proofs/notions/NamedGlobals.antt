-- Each global that a draft names is among some names, where those that there are for it are.
use Rattle.std.proofs.Common.{◌≡◌, ℕ, true, List}
use Rattle.sch_read.specs.Grammar.{Data, none, cons}
use Rattle.sch_names.specs.Scope.{Globals, is_among}
use Rattle.sch_sketch.specs.Draft.{Draft, Drafts, constant, symbol, literal, local, global, set_local, set_global, define, branch, sequence, bind, letrec, lambda, call, operation, no_drafts, and_draft}
use Rattle.sch_link_tables.specs.Named.{global_of, globals_in, globals_in_each}
use Rattle.sch_core.specs.LibraryDefinitions.{AreAmong}
use Rattle.sch_core.proofs.notions.Notions.{Notion, AllGood, IsKept}
use Rattle.sch_core.proofs.notions.FitDrafts.{FitsDraft, FitsDrafts}
use Rattle.sch_core.proofs.programs.Starts.{both_among}

module _ (own all : List (List ℕ)) where
  abbrev pub naming : Notion
  naming = record {
    Good = λ d. Unit {0};
    Global = λ x. is_among (global_of own x) all ≡ true;
    Constant = λ k. Unit {0};
    Symbol = λ x. Unit {0};
  }

  pub any_data : (xs : Data) → AllGood naming xs
  any_data none = tt
  any_data (cons x xs) = (tt, any_data xs)

  pub naming_kept : (globals : Globals) → ((x : List ℕ) → is_among x globals.bound ≡ true → is_among (global_of own x) all ≡ true) → IsKept globals naming
  naming_kept globals h = record {
    parts = λ at xs g. any_data xs;
    truth = λ b. tt;
    integer_is = λ at z g. tt;
    character_is = λ at k g. tt;
    symbol_is = λ at x g. tt;
    empty = tt;
    nothing = tt;
    unit = λ p. tt;
    space = tt;
    bound = h;
  }

  mutual
    pub named : (e : Draft) → FitsDraft naming e → AreAmong all (globals_in own e)
    named (constant c) h = tt
    named (symbol x) h = tt
    named (literal d) h = tt
    named (local k) h = tt
    named (global x) h = (h, tt)
    named (set_local k e) h = named e h
    named (set_global x e) h = (h.0, named e h.1)
    named (define x e) h = (h.0, named e h.1)
    named (branch a b c) h = both_among all (globals_in own a) _ (named a h.0) (both_among all (globals_in own b) _ (named b h.1) (named c h.2))
    named (sequence es) h = named_each es h
    named (bind vs es e) h = both_among all (globals_in_each own es) _ (named_each es h.0) (named e h.1)
    named (letrec vs p es e) h = both_among all (globals_in_each own es) _ (named_each es h.0) (named e h.1)
    named (lambda n r e) h = named e h
    named (call vs f es) h = both_among all (globals_in own f) _ (named f h.0) (named_each es h.1)
    named (operation p es) h = named_each es h

    pub named_each : (es : Drafts) → FitsDrafts naming es → AreAmong all (globals_in_each own es)
    named_each no_drafts h = tt
    named_each (and_draft e es) h = both_among all (globals_in own e) _ (named e h.0) (named_each es h.1)
