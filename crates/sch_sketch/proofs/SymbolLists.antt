-- Lists of symbols, step by step.
use Rattle.std.proofs.Common.{◌≡◌, ◌<◌, ◌+◌, ℕ, suc, Bool, false, List, [], ◌∷◌, ◌++◌, length, drop, get_or, Option, Some, refl, sym, ◌∙◌, add-one}
use Rattle.std.proofs.lemmas.List.{map-append, append_assoc}
use Rattle.std.specs.Borrow.{Bor}
use Rattle.sch_word.proofs.facts.Lists.{next_left}
use Rattle.sch_read.specs.declared.datum.Datum.{Datum}
use Rattle.sch_read.specs.Grammar.{Data, cons, atom, symbol}
use Rattle.sch_read.specs.Grammar as grammar
use Rattle.sch_read.specs.Parts.{IsNoSymbol}
use Rattle.sch_read.specs.Views.{tree_of, data_of}
use Rattle.sch_names.specs.ScopeView.{given_names}
use Rattle.sch_names.specs.Scope.{VariableNames}
use Rattle.sch_sketch.specs.Formals.{are_symbols, symbols}

no_symbols : (d : grammar.Datum) (rest : Data) → IsNoSymbol d → are_symbols (cons d rest) ≡ false
no_symbols (atom q (symbol b)) rest h = absurd h
no_symbols _ rest h = refl

pub symbols_next : (items : List Datum) (i : ℕ) (d : Datum) (vs vs' : List (Option (Bor (List ℕ)))) (x : Bor (List ℕ)) (r : VariableNames) {p : ℕ} → i < length items → d ≡ get_or items i d →
    tree_of d ≡ atom p (symbol x.now) → vs' ≡ vs ++ Some x ∷ [] → given_names vs ++ symbols (data_of (drop i items)) ≡ r → given_names vs' ++ symbols (data_of (drop (i + 1) items)) ≡ r
symbols_next items i d vs vs' x r l e b p k =
    let k' = rw (next_left items i d l e, b) at k in rw (add-one, p, map-append, append_assoc) k'

pub are_symbols_next : (items : List Datum) (i : ℕ) (d : Datum) (r : Bool) {x : List ℕ} {p : ℕ} → i < length items → d ≡ get_or items i d →
    tree_of d ≡ atom p (symbol x) → are_symbols (data_of (drop i items)) ≡ r → are_symbols (data_of (drop (i + 1) items)) ≡ r
are_symbols_next items i d r l e b k = let k' = rw (next_left items i d l e, b) at k in rw add-one k'

pub symbols_stop : (items : List Datum) (i : ℕ) (d : Datum) (r : Bool) → i < length items → d ≡ get_or items i d → IsNoSymbol (tree_of d) → are_symbols (data_of (drop i items)) ≡ r → r ≡ false
symbols_stop items i d r l e b k = sym k ∙ rw (next_left items i d l e) (no_symbols (tree_of d) (data_of (drop (suc i) items)) b)
