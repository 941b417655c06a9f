-- The steps of the walks that name globals and symbols, over plain values.
use Rattle.std.proofs.Common.{◌≡◌, ℕ, Bool, suc, ◌+◌, ◌<◌, List, [], ◌∷◌, ◌++◌, length, drop, get_or, refl, sym, ap, ◌∙◌, add-one}
use Rattle.sch_names.specs.NamesView.{with_name}
use Rattle.sch_sketch.specs.declared.draft.Draft as code
use Rattle.sch_names.specs.Scope.{VariableNames}
use Rattle.sch_sketch.specs.Draft.{Draft, Drafts, set_global, define, branch, bind, letrec, call}
use Rattle.sch_sketch.specs.DraftView.{draft_of, drafts_of}
use Rattle.sch_link_tables.specs.Named.{firsts, global_of, globals_in, globals_in_each, symbols_in, symbols_in_each}

pub firsts_append : (seen xs ys : List (List ℕ)) → firsts seen (xs ++ ys) ≡ firsts (firsts seen xs) ys
firsts_append seen [] ys = refl
firsts_append seen (x ∷ xs) ys = firsts_append (with_name x seen) xs ys

-- two walks, and three, one after the other
pub then_named : (a b n0 : List (List ℕ)) {n1 n2 : List (List ℕ)} → n1 ≡ firsts n0 a → n2 ≡ firsts n1 b → n2 ≡ firsts n0 (a ++ b)
then_named a b n0 p q = q ∙ ap (λ n. firsts n b) p ∙ sym (firsts_append n0 a b)

pub three_named : (a b c n0 : List (List ℕ)) {n1 n2 n3 : List (List ℕ)} → n1 ≡ firsts n0 a → n2 ≡ firsts n1 b → n3 ≡ firsts n2 c → n3 ≡ firsts n0 (a ++ (b ++ c))
three_named a b c n0 p q r = then_named a (b ++ c) n0 p (then_named b c _ q r)

-- ## One after another

module _ (F : Draft → List (List ℕ)) (G : Drafts → List (List ℕ)) (seen seen' r : List (List ℕ)) where
  pub next_named : (es : List code.Draft) (i : ℕ) (e : code.Draft) → i < length es → e ≡ get_or es i e → G (drafts_of (drop i es)) ≡ F (draft_of e) ++ G (drafts_of (drop (suc i) es)) →
      seen' ≡ firsts seen (F (draft_of e)) → firsts seen (G (drafts_of (drop i es))) ≡ r → firsts seen' (G (drafts_of (drop (i + 1) es))) ≡ r
  next_named es i e l is g h k =
      rw (add-one, h) (sym (firsts_append seen (F (draft_of e)) (G (drafts_of (drop (suc i) es)))) ∙ ap (firsts seen) (sym g) ∙ k)

-- ## Each kind of draft

module _ (own n0 : List (List ℕ)) {d : Draft} {n1 n2 : List (List ℕ)} where
  pub set_globals : {x : List ℕ} {e : Draft} → d ≡ set_global x e → n1 ≡ with_name (global_of own x) n0 → n2 ≡ firsts n1 (globals_in own e) → n2 ≡ firsts n0 (globals_in own d)
  set_globals {x} {e} h p q = rw h (q ∙ ap (λ n. firsts n (globals_in own e)) p)

  pub define_globals : {x : List ℕ} {e : Draft} → d ≡ define x e → n1 ≡ with_name (global_of own x) n0 → n2 ≡ firsts n1 (globals_in own e) → n2 ≡ firsts n0 (globals_in own d)
  define_globals {x} {e} h p q = rw h (q ∙ ap (λ n. firsts n (globals_in own e)) p)

  pub bind_globals : {vs : VariableNames} {es : Drafts} {e : Draft} → d ≡ bind vs es e → n1 ≡ firsts n0 (globals_in_each own es) → n2 ≡ firsts n1 (globals_in own e) → n2 ≡ firsts n0 (globals_in own d)
  bind_globals {es = es} {e} h p q = rw h (then_named (globals_in_each own es) (globals_in own e) n0 p q)

  pub letrec_globals : {vs : VariableNames} {g : Bool} {es : Drafts} {e : Draft} → d ≡ letrec vs g es e → n1 ≡ firsts n0 (globals_in_each own es) → n2 ≡ firsts n1 (globals_in own e) → n2 ≡ firsts n0 (globals_in own d)
  letrec_globals {es = es} {e} h p q = rw h (then_named (globals_in_each own es) (globals_in own e) n0 p q)

  pub call_globals : {vs : VariableNames} {f : Draft} {es : Drafts} → d ≡ call vs f es → n1 ≡ firsts n0 (globals_in own f) → n2 ≡ firsts n1 (globals_in_each own es) → n2 ≡ firsts n0 (globals_in own d)
  call_globals {f = f} {es} h p q = rw h (then_named (globals_in own f) (globals_in_each own es) n0 p q)

  pub branch_globals : {a b c : Draft} {n3 : List (List ℕ)} → d ≡ branch a b c → n1 ≡ firsts n0 (globals_in own a) → n2 ≡ firsts n1 (globals_in own b) → n3 ≡ firsts n2 (globals_in own c) → n3 ≡ firsts n0 (globals_in own d)
  branch_globals {a} {b} {c} h p q r = rw h (three_named (globals_in own a) (globals_in own b) (globals_in own c) n0 p q r)

module _ (n0 : List (List ℕ)) {d : Draft} {n1 n2 : List (List ℕ)} where
  pub bind_symbols : {vs : VariableNames} {es : Drafts} {e : Draft} → d ≡ bind vs es e → n1 ≡ firsts n0 (symbols_in_each es) → n2 ≡ firsts n1 (symbols_in e) → n2 ≡ firsts n0 (symbols_in d)
  bind_symbols {es = es} {e} h p q = rw h (then_named (symbols_in_each es) (symbols_in e) n0 p q)

  pub letrec_symbols : {vs : VariableNames} {g : Bool} {es : Drafts} {e : Draft} → d ≡ letrec vs g es e → n1 ≡ firsts n0 (symbols_in_each es) → n2 ≡ firsts n1 (symbols_in e) → n2 ≡ firsts n0 (symbols_in d)
  letrec_symbols {es = es} {e} h p q = rw h (then_named (symbols_in_each es) (symbols_in e) n0 p q)

  pub call_symbols : {vs : VariableNames} {f : Draft} {es : Drafts} → d ≡ call vs f es → n1 ≡ firsts n0 (symbols_in f) → n2 ≡ firsts n1 (symbols_in_each es) → n2 ≡ firsts n0 (symbols_in d)
  call_symbols {f = f} {es} h p q = rw h (then_named (symbols_in f) (symbols_in_each es) n0 p q)

  pub branch_symbols : {a b c : Draft} {n3 : List (List ℕ)} → d ≡ branch a b c → n1 ≡ firsts n0 (symbols_in a) → n2 ≡ firsts n1 (symbols_in b) → n3 ≡ firsts n2 (symbols_in c) → n3 ≡ firsts n0 (symbols_in d)
  branch_symbols {a} {b} {c} h p q r = rw h (three_named (symbols_in a) (symbols_in b) (symbols_in c) n0 p q r)
