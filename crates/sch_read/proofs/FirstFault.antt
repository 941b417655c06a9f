-- The machine's fault is the first fault, and there is one first fault.
use Rattle.std.proofs.Common.{◌≡◌, ◌⊎◌, ℕ, zero, suc, List, [], ◌∷◌, ◌++◌, refl, sym, ◌∙◌, ap, subst, inl, inr, Ok, Err, append_assoc, true}
use Rattle.std.specs.Prelude.{Result, IsOkAnd, IfOk}
use Rattle.std.proofs.lemmas.List.{append-nil}
use Rattle.sch_read.specs.Grammar.{Token, Open, Close, Dot, Plain, Huge, Bad, parenthesis, hash_parenthesis, quote_mark, Atom, boolean, Datum, Data, atom, list, vector, none, cons, join, one, quoted, with_tail, Reads, plain, end}
use Rattle.sch_read.specs.Fault.{Fault, Unclosed, Mark, open_list, open_quote, settled, opened, open_after, IsInnermost, Begins, AreAccepted, TakesAtom, IsFaultOf, CannotFollow, IsFirstFault}
use Rattle.sch_word.specs.values.Options.{when_ok}
use Rattle.sch_read.specs.Parser.Stack.{Frame, Items, AfterDot, Tail, Elements, Waiting, State, put, shut, start, step, run, finish, place_of}
use Rattle.sch_read.proofs.Completions.{Gets, Completes, Goes, HeadTakes, IsSound, put-sound, step-forth, step-back, join-none}
use Rattle.sch_read.proofs.Runs.{step-sound, done-forth}

-- what is got may be completed
some-get : (fs : List Frame) (n : ℕ) (top : Data) (d : Datum) → HeadTakes fs → IsSound fs → (ts : List Token) × (out : Data) × Gets n fs top d ts out
some-get [] n top d h s = ([], join top (one d), record { ds = none; reads = end n []; is = sym (join-none (join top (one d))) })
some-get (Items at xs ∷ fs) n top d h s =
    let e : Datum = list at (join xs (one d)) in
    let i = some-get fs (suc n) top e s.0 s.1 in
    (Close 0 ∷ i.0, i.1, (e, i.0, inl (record { ds = none; end_ = 0; reads = end n (Close 0 ∷ i.0); is = ap (list at) (sym (join-none (join xs (one d)))) }), i.2))
some-get (AfterDot at xs ∷ fs) n top d h s =
    let i = some-get fs (suc n) top (with_tail at xs d) s.0 s.1 in
    (Close 0 ∷ i.0, i.1, (with_tail at xs d, i.0, record { end_ = 0; next = refl; is = refl }, i.2))
some-get (Tail at xs last ∷ fs) n top d h s = absurd h
some-get (Elements at xs ∷ fs) n top d h s =
    let e : Datum = vector at (join xs (one d)) in
    let i = some-get fs (suc n) top e s.0 s.1 in
    (Close 0 ∷ i.0, i.1, (e, i.0, record { ds = none; end_ = 0; reads = end n (Close 0 ∷ i.0); is = ap (vector at) (sym (join-none (join xs (one d)))) }, i.2))
some-get (Waiting at ∷ fs) n top d h s = some-get fs (suc n) top (quoted at d) s.0 s.1

-- each state may be completed
pub some-end : (fs : List Frame) (n : ℕ) (top : Data) → IsSound fs → (ts : List Token) × (out : Data) × Completes n fs top ts out
some-end [] n top s = ([], top, record { ds = none; reads = end n []; is = sym (join-none top) })
some-end (Items at xs ∷ fs) n top s =
    let i = some-get fs (suc n) top (list at xs) s.0 s.1 in
    (Close 0 ∷ i.0, i.1, (list at xs, i.0, inl (record { ds = none; end_ = 0; reads = end n (Close 0 ∷ i.0); is = ap (list at) (sym (join-none xs)) }), i.2))
some-end (AfterDot at xs ∷ fs) n top s =
    let i = some-get fs (suc n) top (with_tail at xs (atom 0 (boolean true))) s.0 s.1 in (
      Plain 0 (boolean true) ∷ Close 0 ∷ i.0,
      i.1,
      (
        with_tail at xs
            (atom 0 (boolean true)),
        i.0,
        record { last = atom 0 (boolean true); end_ = 0; reads = plain n 0 (boolean true) (Close 0 ∷ i.0); is = refl },
        i.2,
      ),
    )
some-end (Tail at xs last ∷ fs) n top s =
    let i = some-get fs (suc n) top (with_tail at xs last) s.0 s.1 in
    (Close 0 ∷ i.0, i.1, (with_tail at xs last, i.0, record { end_ = 0; next = refl; is = refl }, i.2))
some-end (Elements at xs ∷ fs) n top s =
    let i = some-get fs (suc n) top (vector at xs) s.0 s.1 in
    (Close 0 ∷ i.0, i.1, (vector at xs, i.0, record { ds = none; end_ = 0; reads = end n (Close 0 ∷ i.0); is = ap (vector at) (sym (join-none xs)) }, i.2))
some-end (Waiting at ∷ fs) n top s =
    let i = some-get fs (suc n) top (quoted at (atom 0 (boolean true))) s.0 s.1 in
    (Plain 0 (boolean true) ∷ i.0, i.1, (quoted at (atom 0 (boolean true)), i.0, record { x = atom 0 (boolean true); reads = plain n 0 (boolean true) i.0; is = refl }, i.2))

-- Whole and Takes of whatever completes what is open, after some tokens.
abbrev pub WholeBy : (List Token → Data → Type 0) → List Token → Type 0
WholeBy C front = (o : Data) × C front o

abbrev pub TakesBy : (List Token → Data → Type 0) → List Token → Type 0
TakesBy C front = (at : ℕ) × (a : Atom) × (r : List Token) × (o : Data) × C (front ++ Plain at a ∷ r) o

-- where a datum can stand, an atom can
takes-some : (fs : List Frame) (n : ℕ) (top : Data) → HeadTakes fs → IsSound fs → TakesBy (Completes n fs top) []
takes-some [] n top h s =
    let e = some-end [] n (join top (one (atom 0 (boolean true)))) tt in
    (0, boolean true, e.0, e.1, step-back n [] top (Plain 0 (boolean true)) e.0 e.1 s e.2)
takes-some (Items at xs ∷ fs) n top h s =
    let p = put n (atom 0 (boolean true)) (Items at xs ∷ fs) top in
    let e = some-end p.open_ p.spare p.top (put-sound (Items at xs ∷ fs) n top (atom 0 (boolean true)) h s) in
    (0, boolean true, e.0, e.1, step-back n (Items at xs ∷ fs) top (Plain 0 (boolean true)) e.0 e.1 s e.2)
takes-some (AfterDot at xs ∷ fs) n top h s =
    let p = put n (atom 0 (boolean true)) (AfterDot at xs ∷ fs) top in
    let e = some-end p.open_ p.spare p.top (put-sound (AfterDot at xs ∷ fs) n top (atom 0 (boolean true)) h s) in
    (0, boolean true, e.0, e.1, step-back n (AfterDot at xs ∷ fs) top (Plain 0 (boolean true)) e.0 e.1 s e.2)
takes-some (Tail at xs last ∷ fs) n top h s = absurd h
takes-some (Elements at xs ∷ fs) n top h s =
    let p = put n (atom 0 (boolean true)) (Elements at xs ∷ fs) top in
    let e = some-end p.open_ p.spare p.top (put-sound (Elements at xs ∷ fs) n top (atom 0 (boolean true)) h s) in
    (0, boolean true, e.0, e.1, step-back n (Elements at xs ∷ fs) top (Plain 0 (boolean true)) e.0 e.1 s e.2)
takes-some (Waiting at ∷ fs) n top h s =
    let p = put n (atom 0 (boolean true)) (Waiting at ∷ fs) top in
    let e = some-end p.open_ p.spare p.top (put-sound (Waiting at ∷ fs) n top (atom 0 (boolean true)) h s) in
    (0, boolean true, e.0, e.1, step-back n (Waiting at ∷ fs) top (Plain 0 (boolean true)) e.0 e.1 s e.2)

tail-takes-none : (n at : ℕ) (xs : Data) (last : Datum) (fs : List Frame) (top : Data) → TakesBy (Completes n (Tail at xs last ∷ fs) top) [] → ⊥
tail-takes-none n at xs last fs top (p, a, r, o, c) = step-forth n (Tail at xs last ∷ fs) top (Plain p a) r o c

pub record Stops (C : List Token → Data → Type 0) (ts : List Token) (f : Fault) : Type 0 where
  pub front : List Token
  pub token : Token
  pub rest : List Token
  pub whole : ts ≡ front ++ token ∷ rest
  pub begins : (r : List Token) × (o : Data) × C (front ++ r) o
  pub stuck : (r : List Token) (o : Data) → C (front ++ token ∷ r) o → ⊥
  pub kind : IsFaultOf (WholeBy C front) (TakesBy C front) token f

abbrev pub marks : List Frame → List Mark
marks [] = []
marks (Items at xs ∷ fs) = open_list at ∷ marks fs
marks (AfterDot at xs ∷ fs) = open_list at ∷ marks fs
marks (Tail at xs last ∷ fs) = open_list at ∷ marks fs
marks (Elements at xs ∷ fs) = open_list at ∷ marks fs
marks (Waiting at ∷ fs) = open_quote at ∷ marks fs

put-marks : (fs : List Frame) (n : ℕ) (top : Data) (d : Datum) → marks (put n d fs top).open_ ≡ settled (marks fs)
put-marks [] n top d = refl
put-marks (Items at xs ∷ fs) n top d = refl
put-marks (AfterDot at xs ∷ fs) n top d = refl
put-marks (Tail at xs last ∷ fs) n top d = refl
put-marks (Elements at xs ∷ fs) n top d = refl
put-marks (Waiting at ∷ fs) n top d = put-marks fs (suc n) top (quoted at d)

shut-marks : (fs : List Frame) (n at : ℕ) (xs : Data) (last : Datum) (top : Data) → marks (shut n at xs last fs top).open_ ≡ settled (marks fs)
shut-marks [] n at xs last top = refl
shut-marks (Items p ys ∷ fs) n at xs last top = refl
shut-marks (AfterDot p ys ∷ fs) n at xs last top = refl
shut-marks (Tail p ys d ∷ fs) n at xs last top = refl
shut-marks (Elements p ys ∷ fs) n at xs last top = refl
shut-marks (Waiting p ∷ fs) n at xs last top = put-marks (Waiting p ∷ fs) (suc n) top (with_tail at xs last)

start-marks : (n : ℕ) (fs : List Frame) (top : Data) (t : Token) → IfOk (start n fs top t) (λ s. marks s.open_ ≡ opened (marks fs) t)
start-marks n fs top (Plain at a) = put-marks fs n top (atom at a)
start-marks zero fs top (Open at o) = tt
start-marks (suc n) fs top (Open at parenthesis) = refl
start-marks (suc n) fs top (Open at hash_parenthesis) = refl
start-marks (suc n) fs top (Open at quote_mark) = refl
start-marks n fs top (Close at) = tt
start-marks n fs top (Dot at) = tt
start-marks n fs top (Huge at) = tt
start-marks n fs top (Bad at f) = tt

step-marks : (n : ℕ) (fs : List Frame) (top : Data) (t : Token) → IfOk (step n fs top t) (λ s. marks s.open_ ≡ opened (marks fs) t)
step-marks n [] top (Close p) = tt
step-marks n [] top (Open p o) = start-marks n [] top (Open p o)
step-marks n [] top (Dot p) = tt
step-marks n [] top (Plain p a) = start-marks n [] top (Plain p a)
step-marks n [] top (Huge p) = tt
step-marks n [] top (Bad p f) = tt
step-marks n (Items at xs ∷ fs) top (Close p) = put-marks fs (suc n) top (list at xs)
step-marks n (Items at xs ∷ fs) top (Open p o) = start-marks n (Items at xs ∷ fs) top (Open p o)
step-marks n (Items at none ∷ fs) top (Dot p) = tt
step-marks n (Items at (cons y ys) ∷ fs) top (Dot p) = refl
step-marks n (Items at xs ∷ fs) top (Plain p a) = start-marks n (Items at xs ∷ fs) top (Plain p a)
step-marks n (Items at xs ∷ fs) top (Huge p) = tt
step-marks n (Items at xs ∷ fs) top (Bad p f) = tt
step-marks n (AfterDot at xs ∷ fs) top t = start-marks n (AfterDot at xs ∷ fs) top t
step-marks n (Tail at xs last ∷ fs) top (Close p) = shut-marks fs n at xs last top
step-marks n (Tail at xs last ∷ fs) top (Open p o) = tt
step-marks n (Tail at xs last ∷ fs) top (Dot p) = tt
step-marks n (Tail at xs last ∷ fs) top (Plain p a) = tt
step-marks n (Tail at xs last ∷ fs) top (Huge p) = tt
step-marks n (Tail at xs last ∷ fs) top (Bad p f) = tt
step-marks n (Elements at xs ∷ fs) top (Close p) = put-marks fs (suc n) top (vector at xs)
step-marks n (Elements at xs ∷ fs) top (Open p o) = start-marks n (Elements at xs ∷ fs) top (Open p o)
step-marks n (Elements at xs ∷ fs) top (Dot p) = tt
step-marks n (Elements at xs ∷ fs) top (Plain p a) = start-marks n (Elements at xs ∷ fs) top (Plain p a)
step-marks n (Elements at xs ∷ fs) top (Huge p) = tt
step-marks n (Elements at xs ∷ fs) top (Bad p f) = tt
step-marks n (Waiting at ∷ fs) top t = start-marks n (Waiting at ∷ fs) top t

place-marks : (f : Frame) (fs : List Frame) → IsInnermost (marks (f ∷ fs)) (place_of f)
place-marks (Items at xs) fs = refl
place-marks (AfterDot at xs) fs = refl
place-marks (Tail at xs last) fs = refl
place-marks (Elements at xs) fs = refl
place-marks (Waiting at) fs = refl

pub record Short (ms : List Mark) (C : List Token → Data → Type 0) (ts : List Token) (f : Fault) : Type 0 where
  pub begins : (r : List Token) × (o : Data) × C (ts ++ r) o
  pub refused : (o : Data) → C ts o → ⊥
  pub at : ℕ
  pub kind : f ≡ Unclosed at
  pub inner : IsInnermost (open_after ms ts) at

pub not-whole : (n : ℕ) (f : Frame) (fs : List Frame) (top : Data) → WholeBy (Completes n (f ∷ fs) top) [] → ⊥
not-whole n f fs top (o, c) = let e = done-forth n (f ∷ fs) top o c in cc

abbrev KindAt : ℕ → List Frame → Data → Token → Fault → Type 0
KindAt n fs top t x = IsFaultOf (WholeBy (Completes n fs top) []) (TakesBy (Completes n fs top) []) t x

start-kind : (n : ℕ) (f : Frame) (fs : List Frame) (top : Data) (t : Token) (x : Fault) → HeadTakes (f ∷ fs) → IsSound (f ∷ fs) → start n (f ∷ fs) top t ≡ Err x → KindAt n (f ∷ fs) top t x
start-kind n f fs top (Plain p a) x h s e = cc
start-kind zero f fs top (Open p o) x h s e = inl (takes-some (f ∷ fs) zero top h s, cc)
start-kind (suc n) f fs top (Open p o) x h s e = cc
start-kind n f fs top (Close p) x h s e = inr (not-whole n f fs top, cc)
start-kind n f fs top (Dot p) x h s e = cc
start-kind n f fs top (Huge p) x h s e = inl (takes-some (f ∷ fs) n top h s, cc)
start-kind n f fs top (Bad p flaw) x h s e = cc

step-kind : (n : ℕ) (fs : List Frame) (top : Data) (t : Token) (x : Fault) → IsSound fs → step n fs top t ≡ Err x → KindAt n fs top t x
step-kind n [] top (Close p) x s e = inl ((top, record { ds = none; reads = end n []; is = sym (join-none top) }), cc)
step-kind n [] top (Plain p a) x s e = cc
step-kind zero [] top (Open p o) x s e = inl (takes-some [] zero top tt tt, cc)
step-kind (suc n) [] top (Open p o) x s e = cc
step-kind n [] top (Dot p) x s e = cc
step-kind n [] top (Huge p) x s e = inl (takes-some [] n top tt tt, cc)
step-kind n [] top (Bad p flaw) x s e = cc
step-kind n (Items at xs ∷ fs) top (Close p) x s e = cc
step-kind n (Items at none ∷ fs) top (Dot p) x s e = cc
step-kind n (Items at (cons y ys) ∷ fs) top (Dot p) x s e = cc
step-kind n (Items at xs ∷ fs) top (Open p o) x s e = start-kind n (Items at xs) fs top (Open p o) x tt s e
step-kind n (Items at xs ∷ fs) top (Plain p a) x s e = start-kind n (Items at xs) fs top (Plain p a) x tt s e
step-kind n (Items at xs ∷ fs) top (Huge p) x s e = start-kind n (Items at xs) fs top (Huge p) x tt s e
step-kind n (Items at xs ∷ fs) top (Bad p flaw) x s e = start-kind n (Items at xs) fs top (Bad p flaw) x tt s e
step-kind n (AfterDot at xs ∷ fs) top t x s e = start-kind n (AfterDot at xs) fs top t x tt s e
step-kind n (Tail at xs last ∷ fs) top (Close p) x s e = cc
step-kind n (Tail at xs last ∷ fs) top (Open p o) x s e = inr (tail-takes-none n at xs last fs top, cc)
step-kind n (Tail at xs last ∷ fs) top (Dot p) x s e = cc
step-kind n (Tail at xs last ∷ fs) top (Plain p a) x s e = cc
step-kind n (Tail at xs last ∷ fs) top (Huge p) x s e = inr (tail-takes-none n at xs last fs top, cc)
step-kind n (Tail at xs last ∷ fs) top (Bad p flaw) x s e = cc
step-kind n (Elements at xs ∷ fs) top (Close p) x s e = cc
step-kind n (Elements at xs ∷ fs) top (Dot p) x s e = start-kind n (Elements at xs) fs top (Dot p) x tt s e
step-kind n (Elements at xs ∷ fs) top (Open p o) x s e = start-kind n (Elements at xs) fs top (Open p o) x tt s e
step-kind n (Elements at xs ∷ fs) top (Plain p a) x s e = start-kind n (Elements at xs) fs top (Plain p a) x tt s e
step-kind n (Elements at xs ∷ fs) top (Huge p) x s e = start-kind n (Elements at xs) fs top (Huge p) x tt s e
step-kind n (Elements at xs ∷ fs) top (Bad p flaw) x s e = start-kind n (Elements at xs) fs top (Bad p flaw) x tt s e
step-kind n (Waiting at ∷ fs) top t x s e = start-kind n (Waiting at) fs top t x tt s e

done-first : (n : ℕ) (fs : List Frame) (top : Data) (f : Fault) → IsSound fs → finish fs top ≡ Err f → Short (marks fs) (Completes n fs top) [] f
done-first n [] top f s e = cc
done-first n (g ∷ fs) top f s e = record { begins = some-end (g ∷ fs) n top s; refused = λ o c. not-whole n g fs top (o, c); at = place_of g; kind = cc; inner = place-marks g fs }

pub kind-same : (W V T S : Type 0) (t : Token) (f : Fault) → (W → V) → (V → W) → (T → S) → (S → T) → IsFaultOf W T t f → IsFaultOf V S t f
kind-same W V T S (Bad p flaw) f to from tos froms k = k
kind-same W V T S (Close p) f to from tos froms (inl k) = inl (to k.0, k.1)
kind-same W V T S (Close p) f to from tos froms (inr k) = inr ((λ v. k.0 (from v)), k.1)
kind-same W V T S (Dot p) f to from tos froms k = k
kind-same W V T S (Plain p a) f to from tos froms k = k
kind-same W V T S (Huge p) f to from tos froms (inl k) = inl (tos k.0, k.1)
kind-same W V T S (Huge p) f to from tos froms (inr k) = inr ((λ v. k.0 (froms v)), k.1)
kind-same W V T S (Open p o) f to from tos froms (inl k) = inl (tos k.0, k.1)
kind-same W V T S (Open p o) f to from tos froms (inr k) = inr ((λ v. k.0 (froms v)), k.1)

-- one more token in front
later : (ms ns : List Mark) (C D : List Token → Data → Type 0) (t : Token) (ts : List Token) (f : Fault) → ((us : List Token) (o : Data) → C (t ∷ us) o → D us o)
    → ((us : List Token) (o : Data) → D us o → C (t ∷ us) o) → ns ≡ opened ms t →
    Stops D ts f ⊎ Short ns D ts f → Stops C (t ∷ ts) f ⊎ Short ms C (t ∷ ts) f
later ms ns C D t ts f to from same (inl h) = inl (record {
  front = t ∷ h.front;
  token = h.token;
  rest = h.rest;
  whole = ap (λ v. t ∷ v) h.whole;
  begins = (h.begins.0, h.begins.1, from (h.front ++ h.begins.0) h.begins.1 h.begins.2);
  stuck = λ r o c. h.stuck r o (to (h.front ++ h.token ∷ r) o c);
  kind = kind-same (WholeBy D h.front) (WholeBy C (t ∷ h.front)) (TakesBy D h.front) (TakesBy C (t ∷ h.front)) h.token f
      (λ w. (w.0, from h.front w.0 w.1)) (λ w. (w.0, to h.front w.0 w.1))
      (λ w. (w.0, w.1, w.2, w.3, from (h.front ++ Plain w.0 w.1 ∷ w.2) w.3 w.4)) (λ w. (w.0, w.1, w.2, w.3, to (h.front ++ Plain w.0 w.1 ∷ w.2) w.3 w.4)) h.kind;
})
later ms ns C D t ts f to from same (inr h) = inr (record {
  begins = (h.begins.0, h.begins.1, from (ts ++ h.begins.0) h.begins.1 h.begins.2);
  refused = λ o c. h.refused o (to ts o c);
  at = h.at;
  kind = h.kind;
  inner = (let P : List Mark → Type 0 = λ v. IsInnermost (open_after v ts) h.at in subst P same h.inner);
})

goes-first : (r : Result State Fault) (ms : List Mark) (C : List Token → Data → Type 0) (t : Token) (ts : List Token) (f : Fault) →
    ((us : List Token) (o : Data) → C (t ∷ us) o → IsOkAnd r (Goes us o)) → ((us : List Token) (o : Data) → IsOkAnd r (Goes us o) → C (t ∷ us) o) →
    ((x : Fault) → r ≡ Err x → IsFaultOf (WholeBy C []) (TakesBy C []) t x) →
    ((us : List Token) × (o : Data) × C us o) →
    IfOk r (λ v. IsSound v.open_) → IfOk r (λ v. marks v.open_ ≡ opened ms t) →
    ((s : State) → IsSound s.open_ → run s.spare s.open_ s.top ts ≡ Err f → Stops (Completes s.spare s.open_ s.top) ts f ⊎ Short (marks s.open_) (Completes s.spare s.open_ s.top) ts f) →
    when_ok r (λ v. run v.spare v.open_ v.top ts) ≡ Err f → Stops C (t ∷ ts) f ⊎ Short ms C (t ∷ ts) f
goes-first (Ok s) ms C t ts f to from kind some sound same next e = later ms (marks s.open_) C (Completes s.spare s.open_ s.top) t ts f to from same (next s sound e)
goes-first (Err x) ms C t ts f to from kind some sound same next e = inl (record {
  front = [];
  token = t;
  rest = ts;
  whole = refl;
  begins = some;
  stuck = λ r o c. to r o c;
  kind = kind f (let same : x ≡ f = cc in ap Err same);
})

pub first : (ts : List Token) (n : ℕ) (fs : List Frame) (top : Data) (f : Fault) → IsSound fs → run n fs top ts ≡ Err f → Stops (Completes n fs top) ts f ⊎ Short (marks fs) (Completes n fs top) ts f
first [] n fs top f s e = inr (done-first n fs top f s e)
first (t ∷ ts) n fs top f s e =
    goes-first (step n fs top t) (marks fs) (Completes n fs top) t ts f (λ us o c. step-forth n fs top t us o c) (λ us o c. step-back n fs top t us o s c)
    (λ x e. step-kind n fs top t x s e) (some-end fs n top s) (step-sound n fs top t s) (step-marks n fs top t) (λ v h i. first ts v.spare v.open_ v.top f h i) e

-- with nothing open, what completes the text is what reads
to-reads : (n : ℕ) (ts : List Token) (o : Data) → Completes n [] none ts o → Reads n ts o
to-reads n ts o c = let P : Data → Type 0 = λ v. Reads n ts v in subst P (sym c.is) c.reads

from-reads : (n : ℕ) (ts : List Token) (o : Data) → Reads n ts o → Completes n [] none ts o
from-reads n ts o c = record { ds = o; reads = c; is = refl }

pub front-more : (front : List Token) (t : Token) (r : List Token) → (front ++ t ∷ []) ++ r ≡ front ++ t ∷ r
front-more front t r = append_assoc front (t ∷ []) r

to-takes : (n : ℕ) (front : List Token) → TakesBy (Completes n [] none) front → TakesAtom n front
to-takes n front (at, a, r, o, c) =
    let P : List Token → Type 0 = λ v. Reads n v o in
    (at, a, (r, (o, subst P (sym (front-more front (Plain at a) r)) (to-reads n (front ++ Plain at a ∷ r) o c))))

from-takes : (n : ℕ) (front : List Token) → TakesAtom n front → TakesBy (Completes n [] none) front
from-takes n front (at, a, (r, (o, c))) =
    let P : List Token → Type 0 = λ v. Reads n v o in
    (at, a, r, o, from-reads n (front ++ Plain at a ∷ r) o (subst P (front-more front (Plain at a) r) c))

-- The fault that the machine answers is the first fault.
pub first_fault : (n : ℕ) (ts : List Token) (f : Fault) → run n [] none ts ≡ Err f → IsFirstFault n ts f
first_fault n ts f e = go (first ts n [] none f tt e)
  where
    go : Stops (Completes n [] none) ts f ⊎ Short [] (Completes n [] none) ts f → IsFirstFault n ts f
    go (inl h) = inl (record {
      front = h.front;
      token = h.token;
      rest = h.rest;
      whole = h.whole;
      begins = (h.begins.0, (h.begins.1, to-reads n (h.front ++ h.begins.0) h.begins.1 h.begins.2));
      stuck = λ b. h.stuck b.0 b.1.0 (from-reads n (h.front ++ h.token ∷ b.0) b.1.0 (let P : List Token → Type 0 = λ v. Reads n v b.1.0 in subst P (front-more h.front h.token b.0) b.1.1));
      kind = kind-same (WholeBy (Completes n [] none) h.front) (AreAccepted n h.front) (TakesBy (Completes n [] none) h.front) (TakesAtom n h.front) h.token f
          (λ w. (w.0, to-reads n h.front w.0 w.1)) (λ w. (w.0, from-reads n h.front w.0 w.1)) (to-takes n h.front) (from-takes n h.front) h.kind;
    })
    go (inr h) = inr (record {
      begins = (h.begins.0, (h.begins.1, to-reads n (ts ++ h.begins.0) h.begins.1 h.begins.2));
      refused = λ w. h.refused w.0 (from-reads n ts w.0 w.1);
      at = h.at;
      kind = h.kind;
      innermost = h.inner;
    })

-- Two ways to part a list: one front begins the other.
pub parted : {A : Type 0} (xs ys us vs : List A) → xs ++ ys ≡ us ++ vs →
    ((m : List A) × (us ≡ xs ++ m) × (ys ≡ m ++ vs)) ⊎ ((m : List A) × (xs ≡ us ++ m) × (vs ≡ m ++ ys))
parted [] ys us vs h = inl (us, refl, h)
parted (x ∷ xs) ys [] vs h = inr (x ∷ xs, refl, sym h)
parted {A} (x ∷ xs) ys (u ∷ us) vs h = go (parted xs ys us vs (cc))
  where
    same : x ≡ u
    same = cc

    go : ((m : List A) × (us ≡ xs ++ m) × (ys ≡ m ++ vs)) ⊎ ((m : List A) × (xs ≡ us ++ m) × (vs ≡ m ++ ys)) →
        ((m : List A) × (u ∷ us ≡ (x ∷ xs) ++ m) × (ys ≡ m ++ vs)) ⊎ ((m : List A) × (x ∷ xs ≡ (u ∷ us) ++ m) × (vs ≡ m ++ ys))
    go (inl (m, p, q)) = inl (m, (let s = same in cc), q)
    go (inr (m, p, q)) = inr (m, (let s = same in cc), q)

begins-by : (n : ℕ) (xs ys : List Token) → xs ≡ ys → Begins n xs → Begins n ys
begins-by n xs ys e b = let P : List Token → Type 0 = λ v. Begins n v in subst P e b

-- what begins with a token begins with it alone
begins-less : (n : ℕ) (front : List Token) (t : Token) (us : List Token) → Begins n (front ++ t ∷ us) → Begins n (front ++ t ∷ [])
begins-less n front t us (rest, (o, c)) =
    let P : List Token → Type 0 = λ v. Reads n v o in
    let e : (front ++ t ∷ us) ++ rest ≡ (front ++ t ∷ []) ++ (us ++ rest) = append_assoc front (t ∷ us) rest ∙ sym (front-more front t (us ++ rest)) in
    (us ++ rest, (o, subst P e c))

pub accepted-begins : (n : ℕ) (ts : List Token) → AreAccepted n ts → Begins n ts
accepted-begins n ts (o, c) = let P : List Token → Type 0 = λ v. Reads n v o in ([], (o, subst P (sym (append-nil ts)) c))

kind-one : (W T : Type 0) (t : Token) (f g : Fault) → IsFaultOf W T t f → IsFaultOf W T t g → f ≡ g
kind-one W T (Bad p flaw) f g k l = k ∙ sym l
kind-one W T (Close p) f g (inl k) (inl l) = k.1 ∙ sym l.1
kind-one W T (Close p) f g (inl k) (inr l) = absurd (l.0 k.0)
kind-one W T (Close p) f g (inr k) (inl l) = absurd (k.0 l.0)
kind-one W T (Close p) f g (inr k) (inr l) = k.1 ∙ sym l.1
kind-one W T (Dot p) f g k l = k ∙ sym l
kind-one W T (Plain p a) f g k l = k ∙ sym l
kind-one W T (Huge p) f g (inl k) (inl l) = k.1 ∙ sym l.1
kind-one W T (Huge p) f g (inl k) (inr l) = absurd (l.0 k.0)
kind-one W T (Huge p) f g (inr k) (inl l) = absurd (k.0 l.0)
kind-one W T (Huge p) f g (inr k) (inr l) = k.1 ∙ sym l.1
kind-one W T (Open p o) f g (inl k) (inl l) = k.1 ∙ sym l.1
kind-one W T (Open p o) f g (inl k) (inr l) = absurd (l.0 k.0)
kind-one W T (Open p o) f g (inr k) (inl l) = absurd (k.0 l.0)
kind-one W T (Open p o) f g (inr k) (inr l) = k.1 ∙ sym l.1

innermost-one : (ms : List Mark) (a b : ℕ) → IsInnermost ms a → IsInnermost ms b → a ≡ b
innermost-one [] a b h k = absurd h
innermost-one (m ∷ ms) a b h k = sym h ∙ k

-- two tokens that cannot follow are the same
stops-one : (n : ℕ) (ts : List Token) (f g : Fault) (a : CannotFollow n ts f) (b : CannotFollow n ts g) →
    (m : List Token) → b.front ≡ a.front ++ m → a.token ∷ a.rest ≡ m ++ b.token ∷ b.rest → f ≡ g
stops-one n ts f g a b [] p q =
    let fronts : b.front ≡ a.front = p ∙ append-nil a.front in
    let tokens : b.token ≡ a.token = cc in
    let P : List Token → Type 0 = λ v. IsFaultOf (AreAccepted n v) (TakesAtom n v) b.token g in
    let Q : Token → Type 0 = λ v. IsFaultOf (AreAccepted n a.front) (TakesAtom n a.front) v g in
    kind-one (AreAccepted n a.front) (TakesAtom n a.front) a.token f g a.kind (subst Q tokens (subst P fronts b.kind))
stops-one n ts f g a b (x ∷ m) p q =
    let token : x ≡ a.token = cc in
    let front : b.front ≡ a.front ++ a.token ∷ m = p ∙ ap (λ v. a.front ++ v ∷ m) token in
    absurd (a.stuck (begins-less n a.front a.token m (begins-by n b.front (a.front ++ a.token ∷ m) front b.begins)))

stop-begins : (n : ℕ) (ts : List Token) (f : Fault) → CannotFollow n ts f → Begins n ts → ⊥
stop-begins n ts f a b = a.stuck (begins-less n a.front a.token a.rest (begins-by n ts (a.front ++ a.token ∷ a.rest) a.whole b))

-- there is one first fault
pub fault-one : (n : ℕ) (ts : List Token) (f g : Fault) → IsFirstFault n ts f → IsFirstFault n ts g → f ≡ g
fault-one n ts f g (inl a) (inl b) = go (parted a.front (a.token ∷ a.rest) b.front (b.token ∷ b.rest) (sym a.whole ∙ b.whole))
  where
    go : ((m : List Token) × (b.front ≡ a.front ++ m) × (a.token ∷ a.rest ≡ m ++ b.token ∷ b.rest)) ⊎ ((m : List Token) × (a.front ≡ b.front ++ m) × (b.token ∷ b.rest ≡ m ++ a.token ∷ a.rest)) → f ≡ g
    go (inl (m, p, q)) = stops-one n ts f g a b m p q
    go (inr (m, p, q)) = sym (stops-one n ts g f b a m p q)
fault-one n ts f g (inl a) (inr b) = absurd (stop-begins n ts f a b.begins)
fault-one n ts f g (inr a) (inl b) = absurd (stop-begins n ts g b a.begins)
fault-one n ts f g (inr a) (inr b) = a.kind ∙ ap Unclosed (innermost-one (open_after [] ts) a.at b.at a.innermost b.innermost) ∙ sym b.kind

-- accepted tokens have none
pub fault-none : (n : ℕ) (ts : List Token) (f : Fault) → AreAccepted n ts → IsFirstFault n ts f → ⊥
fault-none n ts f a (inl b) = stop-begins n ts f b (accepted-begins n ts a)
fault-none n ts f a (inr b) = b.refused a
