-- The text of a valid datum spells the datum, apart from places.
pub mod AtomTexts
pub mod NameTexts
pub mod IntegerTexts
use Rattle.std.proofs.Common.{◌≡◌, ◌≢◌, ◌+◌, ◌≤◌, ℕ, zero, suc, List, [], ◌∷◌, ◌++◌, length, refl, sym, ◌∙◌, ap, subst, arith, append_assoc, length-append}
use Rattle.std.specs.Prelude.{codes}
use Rattle.std.proofs.lemmas.List.{append-nil}
use Rattle.sch_read.specs.Lexer.Lexeme.{is_empty, is_lexeme, IsLongest}
use Rattle.sch_read.specs.Grammar.{Token, Open, Close, Dot, Plain, parenthesis, hash_parenthesis, Atom, boolean, integer, character, text, symbol, Datum, Data, atom, list, dotted, vector, none, cons, one, with_tail, ReadsOne, ReadsMany, plain, listed, with_dot, elements, end, more}
use Rattle.sch_read.specs.Lexer.Cut.{Cuts, nothing, lexeme}
use Rattle.sch_read.specs.Text.{max_nesting, Spells}
use Rattle.sch_read.specs.Valid.{IsValidAtom, IsNoList, IsValid, AreValid}
use Rattle.sch_read.specs.Levels.{depth, depths}
use Rattle.sch_print.specs.FixnumData.{IsFixnumAtom, HasFixnums, HaveFixnums}
use Rattle.sch_print.specs.Printed.{atom_text, datum_text, items_text, more_text, without_places, all_without_places}
use Rattle.sch_read.proofs.Longest.{byte-longest}
use Rattle.sch_print.proofs.RoundTrip.AtomTexts.{IsBroken, IsAtomText}
use Rattle.sch_print.proofs.RoundTrip.NameTexts.{boolean-text, character-text, symbol-text, string-text}
use Rattle.sch_print.proofs.RoundTrip.IntegerTexts.{integer-text}

-- Where the bytes stand before a rest that begins with a delimiter, they spell the datum, and the
-- tokens of the rest are left.
abbrev Spelled : ℕ → ℕ → List ℕ → Datum → Type 0
Spelled n at bytes d = (rest : List ℕ) (ts : List Token) → IsBroken rest → Cuts (at + length bytes) rest ts →
    (us : List Token) × (x : Datum) × Cuts at (bytes ++ rest) us × ReadsOne n us x ts × (without_places x ≡ without_places d)

abbrev AllSpelled : ℕ → ℕ → List ℕ → Data → Type 0
AllSpelled n at bytes xs = (rest : List ℕ) (ts : List Token) → IsBroken rest → Cuts (at + length bytes) rest ts →
    (us : List Token) × (ys : Data) × Cuts at (bytes ++ rest) us × ReadsMany n us ys ts × (all_without_places ys ≡ all_without_places xs)

cut-at : (p q : ℕ) (rest : List ℕ) (ts : List Token) → p ≡ q → Cuts p rest ts → Cuts q rest ts
cut-at p q rest ts e c = let P : ℕ → Type 0 = λ v. Cuts v rest ts in subst P e c

cut-of : (at : ℕ) (xs ys : List ℕ) (ts : List Token) → xs ≡ ys → Cuts at xs ts → Cuts at ys ts
cut-of at xs ys ts e c = let P : List ℕ → Type 0 = λ v. Cuts at v ts in subst P e c

-- a lexeme that nothing can follow
done-longest : (first rest : List ℕ) → ((v : List ℕ) → is_lexeme (first ++ v) ≡ is_empty v) → IsLongest first rest
done-longest first rest done [] others e h = refl
done-longest first rest done (m ∷ ms) others e h = let fails = done (m ∷ ms) in cc

cut-open : (at : ℕ) (rest : List ℕ) (ts : List Token) → Cuts (at + 1) rest ts → Cuts at (40 ∷ rest) (Open at parenthesis ∷ ts)
cut-open at rest ts c = lexeme at (40 ∷ rest) (40 ∷ []) rest ts (Open at parenthesis ∷ ts) refl refl (done-longest (40 ∷ []) rest (λ v. refl)) c refl

cut-vector : (at : ℕ) (rest : List ℕ) (ts : List Token) → Cuts (at + 2) rest ts → Cuts at (35 ∷ 40 ∷ rest) (Open at hash_parenthesis ∷ ts)
cut-vector at rest ts c = lexeme at (35 ∷ 40 ∷ rest) (35 ∷ 40 ∷ []) rest ts (Open at hash_parenthesis ∷ ts) refl refl (done-longest (35 ∷ 40 ∷ []) rest (λ v. refl)) c refl

cut-close : (at : ℕ) (rest : List ℕ) (ts : List Token) → Cuts (at + 1) rest ts → Cuts at (41 ∷ rest) (Close at ∷ ts)
cut-close at rest ts c = lexeme at (41 ∷ rest) (41 ∷ []) rest ts (Close at ∷ ts) refl refl (done-longest (41 ∷ []) rest (λ v. refl)) c refl

cut-space : (at : ℕ) (rest : List ℕ) (ts : List Token) → Cuts (at + 1) rest ts → Cuts at (32 ∷ rest) ts
cut-space at rest ts c = lexeme at (32 ∷ rest) (32 ∷ []) rest ts ts refl refl (done-longest (32 ∷ []) rest (λ v. refl)) c refl

cut-dot : (at : ℕ) (rest : List ℕ) (ts : List Token) → Cuts (at + 3) rest ts → Cuts at (32 ∷ 46 ∷ 32 ∷ rest) (Dot (at + 1) ∷ ts)
cut-dot at rest ts c =
    let last = cut-space (at + 1 + 1) rest ts (cut-at (at + 3) (at + 1 + 1 + 1) rest ts (omega arith) c) in
    cut-space at (46 ∷ 32 ∷ rest) (Dot (at + 1) ∷ ts)
    (lexeme (at + 1) (46 ∷ 32 ∷ rest) (46 ∷ []) (32 ∷ rest) ts (Dot (at + 1) ∷ ts) refl refl (byte-longest (46 ∷ []) 32 rest refl) last refl)

atom-read : (a : Atom) → IsValidAtom a → IsFixnumAtom a → IsAtomText a (atom_text a)
atom-read (boolean b) v f = boolean-text b
atom-read (integer z) v f = integer-text z f
atom-read (character c) v f = character-text c
atom-read (text bs) v f = string-text bs
atom-read (symbol bs) v f = symbol-text bs v.0 v.1

spell-atom : (n at p : ℕ) (a : Atom) → IsAtomText a (atom_text a) → Spelled n at (atom_text a) (atom p a)
spell-atom n at p a t rest ts broken c = (
  Plain at a ∷ ts,
  atom at a,
  lexeme at (atom_text a ++ rest) (atom_text a) rest ts (Plain at a ∷ ts) refl t.lexeme (t.longest rest broken) c
      (sym (ap (λ v. v ++ ts) (t.token at))),
  plain n at a ts,
  refl,
)

spell-list : (n at p : ℕ) (xs : Data) → AllSpelled n (at + 1) (items_text xs) xs → Spelled (suc n) at (datum_text (list p xs)) (list p xs)
spell-list n at p xs items rest ts broken c =
    let I = items_text xs in
    let long = length-append I (41 ∷ []) in
    let place : at + length (datum_text (list p xs)) ≡ at + 1 + length I + 1 = omega arith in
    let shut = cut-close (at + 1 + length I) rest ts (cut-at _ _ rest ts place c) in
    let i = items (41 ∷ rest) (Close (at + 1 + length I) ∷ ts) refl shut in
    let whole : 40 ∷ (I ++ 41 ∷ rest) ≡ datum_text (list p xs) ++ rest = ap (λ v. 40 ∷ v) (sym (append_assoc I (41 ∷ []) rest)) in (
      Open at parenthesis ∷ i.0,
      list at i.1,
      cut-of at _ _ (Open at parenthesis ∷ i.0) whole (cut-open at (I ++ 41 ∷ rest) i.0 i.2),
      listed n at (at + 1 + length I) i.0 i.1 ts i.3,
      ap (list 0) i.4,
    )

spell-vector : (n at p : ℕ) (xs : Data) → AllSpelled n (at + 2) (items_text xs) xs → Spelled (suc n) at (datum_text (vector p xs)) (vector p xs)
spell-vector n at p xs items rest ts broken c =
    let I = items_text xs in
    let long = length-append I (41 ∷ []) in
    let place : at + length (datum_text (vector p xs)) ≡ at + 2 + length I + 1 = omega arith in
    let shut = cut-close (at + 2 + length I) rest ts (cut-at _ _ rest ts place c) in
    let i = items (41 ∷ rest) (Close (at + 2 + length I) ∷ ts) refl shut in
    let whole : 35 ∷ 40 ∷ (I ++ 41 ∷ rest) ≡ datum_text (vector p xs) ++ rest = ap (λ v. 35 ∷ 40 ∷ v) (sym (append_assoc I (41 ∷ []) rest)) in (
      Open at hash_parenthesis ∷ i.0,
      vector at i.1,
      cut-of at _ _ (Open at hash_parenthesis ∷ i.0) whole (cut-vector at (I ++ 41 ∷ rest) i.0 i.2),
      elements n at (at + 2 + length I) i.0 i.1 ts i.3,
      ap (vector 0) i.4,
    )

-- a tail that is no list stays one
tail-same : (at : ℕ) (ys : Data) (z last : Datum) → IsNoList last → without_places z ≡ without_places last → with_tail at ys z ≡ dotted at ys z
tail-same at ys (atom p a) last h e = refl
tail-same at ys (vector p zs) last h e = refl
tail-same at ys (list p zs) (atom q b) h e = cc
tail-same at ys (list p zs) (list q bs) h e = absurd h
tail-same at ys (list p zs) (dotted q bs c) h e = absurd h
tail-same at ys (list p zs) (vector q bs) h e = cc
tail-same at ys (dotted p zs z) (atom q b) h e = cc
tail-same at ys (dotted p zs z) (list q bs) h e = absurd h
tail-same at ys (dotted p zs z) (dotted q bs c) h e = absurd h
tail-same at ys (dotted p zs z) (vector q bs) h e = cc

dotted-read : (n at dot shut : ℕ) (us vs : List Token) (ys xs : Data) (z last : Datum) (ts : List Token) → xs ≢ none → IsNoList last →
    ReadsMany n us ys (Dot dot ∷ vs) → ReadsOne n vs z (Close shut ∷ ts) → all_without_places ys ≡ all_without_places xs → without_places z ≡ without_places last →
    (x : Datum) × ReadsOne (suc n) (Open at parenthesis ∷ us) x ts × (without_places x ≡ dotted 0 (all_without_places xs) (without_places last))
dotted-read n at dot shut us vs none none z last ts some h r q e k = absurd (some refl)
dotted-read n at dot shut us vs none (cons x xs) z last ts some h r q e k = cc
dotted-read n at dot shut us vs (cons y ys) xs z last ts some h r q e k = (
  with_tail at (cons y ys) z,
  with_dot n at dot shut us vs y ys z ts r q,
  ap without_places (tail-same at (cons y ys) z last h k) ∙ ap (λ v. dotted 0 v (without_places z)) e ∙ ap (dotted 0 (all_without_places xs)) k,
)

spell-dotted : (n at p : ℕ) (xs : Data) (last : Datum) → xs ≢ none → IsNoList last → AllSpelled n (at + 1) (items_text xs) xs →
    ((q : ℕ) → Spelled n q (datum_text last) last) → Spelled (suc n) at (datum_text (dotted p xs last)) (dotted p xs last)
spell-dotted n at p xs last some h items tail rest ts broken c =
    let I = items_text xs in
    let L = datum_text last in
    let q = at + 1 + length I in
    let whole : 40 ∷ (I ++ 32 ∷ 46 ∷ 32 ∷ (L ++ 41 ∷ rest)) ≡ datum_text (dotted p xs last) ++ rest =
    ap (λ v. 40 ∷ v) (sym (append_assoc ((I ++ codes " . ") ++ L) (41 ∷ []) rest ∙ append_assoc (I ++ codes " . ") L (41 ∷ rest) ∙ append_assoc I (codes " . ") (L ++ 41 ∷ rest))) in
    let long = length-append ((I ++ codes " . ") ++ L) (41 ∷ []) in
    let middle = length-append (I ++ codes " . ") L in
    let front = length-append I (codes " . ") in
    let place : at + length (datum_text (dotted p xs last)) ≡ q + 3 + length L + 1 = omega arith in
    let shut = cut-close (q + 3 + length L) rest ts (cut-at _ _ rest ts place c) in
    let l = tail (q + 3) (41 ∷ rest) (Close (q + 3 + length L) ∷ ts) refl shut in
    let dot = cut-dot q (L ++ 41 ∷ rest) l.0 l.2 in
    let i = items (32 ∷ 46 ∷ 32 ∷ (L ++ 41 ∷ rest)) (Dot (q + 1) ∷ l.0) refl dot in
    let r = dotted-read n at (q + 1) (q + 3 + length L) i.0 l.0 i.1 xs l.1 last ts some h i.3 l.3 i.4 l.4 in
    (Open at parenthesis ∷ i.0, r.0, cut-of at _ _ (Open at parenthesis ∷ i.0) whole (cut-open at (I ++ 32 ∷ 46 ∷ 32 ∷ (L ++ 41 ∷ rest)) i.0 i.2), r.1, r.2)

more-broken : (xs : Data) (rest : List ℕ) → IsBroken rest → IsBroken (more_text xs ++ rest)
more-broken none rest h = h
more-broken (cons x xs) rest h = refl

spell-none : (n at : ℕ) → AllSpelled n at [] none
spell-none n at rest ts broken c = (ts, none, cut-at _ _ rest ts (omega arith) c, end n ts, refl)

spell-cons : (n at : ℕ) (x : Datum) (xs : Data) → Spelled n at (datum_text x) x → ((q : ℕ) → AllSpelled n q (more_text xs) xs) → AllSpelled n at (items_text (cons x xs)) (cons x xs)
spell-cons n at x xs head rests rest ts broken c =
    let T = datum_text x in
    let M = more_text xs in
    let long = length-append T M in
    let place : at + length (T ++ M) ≡ at + length T + length M = omega arith in
    let m = rests (at + length T) rest ts broken (cut-at _ _ rest ts place c) in
    let h = head (M ++ rest) m.0 (more-broken xs rest broken) m.2 in (
      h.0,
      cons h.1 m.1,
      cut-of at _ _ h.0 (sym (append_assoc T M rest)) h.2,
      more n h.0 m.0 h.1 m.1 ts h.3 m.3,
      ap (λ v. cons v (all_without_places m.1)) h.4 ∙ ap (cons (without_places x)) m.4,
    )

spell-space : (n at : ℕ) (x : Datum) (xs : Data) → AllSpelled n (at + 1) (items_text (cons x xs)) (cons x xs) → AllSpelled n at (more_text (cons x xs)) (cons x xs)
spell-space n at x xs items rest ts broken c =
    let place : at + length (more_text (cons x xs)) ≡ at + 1 + length (items_text (cons x xs)) = omega arith in
    let i = items rest ts broken (cut-at _ _ rest ts place c) in
    (i.0, i.1, cut-space at (items_text (cons x xs) ++ rest) i.0 i.2, i.3, i.4)

mutual
  spell-one : (d : Datum) (n at : ℕ) → depth d ≤ n → IsValid d → HasFixnums d → Spelled n at (datum_text d) d
  spell-one (atom p a) n at h v f = spell-atom n at p a (atom-read a v f)
  spell-one (list p xs) zero at h v f = absurd (omega arith)
  spell-one (list p xs) (suc n) at h v f = spell-list n at p xs (spell-items xs n (at + 1) (omega arith) v f)
  spell-one (dotted p xs last) zero at h v f = absurd (omega arith)
  spell-one (dotted p xs last) (suc n) at h v f =
      spell-dotted n at p xs last v.0 v.2 (spell-items xs n (at + 1) (omega arith) v.1 f.0) (λ q. spell-one last n q (omega arith) v.3 f.1)
  spell-one (vector p xs) zero at h v f = absurd (omega arith)
  spell-one (vector p xs) (suc n) at h v f = spell-vector n at p xs (spell-items xs n (at + 2) (omega arith) v f)

  spell-items : (xs : Data) (n at : ℕ) → depths xs ≤ n → AreValid xs → HaveFixnums xs → AllSpelled n at (items_text xs) xs
  spell-items none n at h v f = spell-none n at
  spell-items (cons x xs) n at h v f = spell-cons n at x xs (spell-one x n at (omega arith) v.0 f.0) (λ q. spell-more xs n q (omega arith) v.1 f.1)

  spell-more : (xs : Data) (n at : ℕ) → depths xs ≤ n → AreValid xs → HaveFixnums xs → AllSpelled n at (more_text xs) xs
  spell-more none n at h v f = spell-none n at
  spell-more (cons x xs) n at h v f =
      spell-space n at x xs (spell-cons n (at + 1) x xs (spell-one x n (at + 1) (omega arith) v.0 f.0) (λ q. spell-more xs n q (omega arith) v.1 f.1))

-- the text of a valid datum spells it
pub printed_spells : (d : Datum) → depth d ≤ max_nesting → IsValid d → HasFixnums d → (x : Datum) × Spells (datum_text d) (one x) × (without_places x ≡ without_places d)
printed_spells d h v f =
    let s = spell-one d max_nesting 0 h v f [] [] tt (nothing (0 + length (datum_text d))) in
    (s.1, (s.0, cut-of 0 (datum_text d ++ []) (datum_text d) s.0 (append-nil (datum_text d)) s.2, more max_nesting s.0 [] s.1 none [] s.3 (end max_nesting [])), s.4)
