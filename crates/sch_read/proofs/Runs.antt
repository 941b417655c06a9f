-- What the machine answers with Ok is what the grammar says.
use Rattle.std.proofs.Common.{◌≡◌, ℕ, zero, suc, List, [], ◌∷◌, refl, sym, ◌∙◌, ap, subst, inl, inr, Ok, Err}
use Rattle.std.specs.Prelude.{Result, IsOkAnd, IfOk}
use Rattle.sch_read.specs.Grammar.{Token, Open, Close, Dot, Plain, Huge, Bad, parenthesis, hash_parenthesis, quote_mark, Datum, Data, atom, list, vector, none, cons, ReadsOne, ReadsMany, Reads, end, more}
use Rattle.sch_read.specs.Fault.{Fault}
use Rattle.sch_word.specs.values.Options.{when_ok}
use Rattle.sch_read.specs.Parser.Stack.{Frame, Items, AfterDot, Tail, Elements, Waiting, State, start, step, run, read_dot, finish}
use Rattle.sch_read.specs.Grammar.{join}
use Rattle.sch_read.proofs.Completions.{Completes, Goes, HeadTakes, IsSound, put-sound, shut-sound, step-forth, step-back, join-none}

nothing-many : (n : ℕ) (ds : Data) (t : Token) (rest : List Token) → ReadsMany n [] ds (t ∷ rest) → ⊥
nothing-many n ds t rest (more _ _ us x xs _ r q) = elim r [ ]

nothing-one : (n : ℕ) (d : Datum) (rest : List Token) → ReadsOne n [] d rest → ⊥
nothing-one n d rest r = elim r [ ]

nothing-left : (n : ℕ) (ds : Data) → ReadsMany n [] ds [] → ds ≡ none
nothing-left n ds (end _ _) = refl
nothing-left n ds (more _ _ us x xs _ r q) = elim r [ ]

pub done-forth : (n : ℕ) (fs : List Frame) (top out : Data) → Completes n fs top [] out → finish fs top ≡ Ok out
done-forth n [] top out h = ap Ok (sym (h.is ∙ ap (join top) (nothing-left n h.ds h.reads) ∙ join-none top))
done-forth n (Items at xs ∷ fs) top out (d, rest, inl c, g) = absurd (nothing-many n c.ds _ rest c.reads)
done-forth n (Items at xs ∷ fs) top out (d, rest, inr c, g) = absurd (nothing-many n c.ds _ c.us c.reads)
done-forth n (AfterDot at xs ∷ fs) top out (d, rest, c, g) = absurd (nothing-one n c.last _ c.reads)
done-forth n (Tail at xs last ∷ fs) top out (d, rest, c, g) = cc c.next
done-forth n (Elements at xs ∷ fs) top out (d, rest, c, g) = absurd (nothing-many n c.ds _ rest c.reads)
done-forth n (Waiting at ∷ fs) top out (d, rest, c, g) = absurd (nothing-one n c.x rest c.reads)

goes-forth : (r : Result State Fault) (ts : List Token) (out : Data) → ((s : State) → Goes ts out s → run s.spare s.open_ s.top ts ≡ Ok out) →
    IsOkAnd r (Goes ts out) → when_ok r (λ s. run s.spare s.open_ s.top ts) ≡ Ok out
goes-forth (Ok s) ts out f g = f s g
goes-forth (Err e) ts out f g = absurd g

pub run-forth : (ts : List Token) (n : ℕ) (fs : List Frame) (top out : Data) → Completes n fs top ts out → run n fs top ts ≡ Ok out
run-forth [] n fs top out h = done-forth n fs top out h
run-forth (t ∷ ts) n fs top out h =
    goes-forth (step n fs top t) ts out (λ s g. run-forth ts s.spare s.open_ s.top out g) (step-forth n fs top t ts out h)

start-sound : (n : ℕ) (fs : List Frame) (top : Data) (t : Token) → HeadTakes fs → IsSound fs → IfOk (start n fs top t) (λ s. IsSound s.open_)
start-sound n fs top (Plain at a) h s = put-sound fs n top (atom at a) h s
start-sound zero fs top (Open at o) h s = tt
start-sound (suc n) fs top (Open at parenthesis) h s = (h, s)
start-sound (suc n) fs top (Open at hash_parenthesis) h s = (h, s)
start-sound (suc n) fs top (Open at quote_mark) h s = (h, s)
start-sound n fs top (Close at) h s = tt
start-sound n fs top (Dot at) h s = tt
start-sound n fs top (Huge at) h s = tt
start-sound n fs top (Bad at f) h s = tt

read_dot-sound : (n at : ℕ) (xs : Data) (fs : List Frame) (top : Data) (p : ℕ) → IsSound (Items at xs ∷ fs) → IfOk (read_dot n at xs fs top p) (λ s. IsSound s.open_)
read_dot-sound n at none fs top p s = tt
read_dot-sound n at (cons y ys) fs top p s = s

pub step-sound : (n : ℕ) (fs : List Frame) (top : Data) (t : Token) → IsSound fs → IfOk (step n fs top t) (λ s. IsSound s.open_)
step-sound n [] top (Close p) s = tt
step-sound n [] top (Open p o) s = start-sound n [] top (Open p o) tt s
step-sound n [] top (Dot p) s = tt
step-sound n [] top (Plain p a) s = start-sound n [] top (Plain p a) tt s
step-sound n [] top (Huge p) s = tt
step-sound n [] top (Bad p f) s = tt
step-sound n (Items at xs ∷ fs) top (Close p) s = put-sound fs (suc n) top (list at xs) s.0 s.1
step-sound n (Items at xs ∷ fs) top (Open p o) s = start-sound n (Items at xs ∷ fs) top (Open p o) tt s
step-sound n (Items at xs ∷ fs) top (Dot p) s = read_dot-sound n at xs fs top p s
step-sound n (Items at xs ∷ fs) top (Plain p a) s = start-sound n (Items at xs ∷ fs) top (Plain p a) tt s
step-sound n (Items at xs ∷ fs) top (Huge p) s = tt
step-sound n (Items at xs ∷ fs) top (Bad p f) s = tt
step-sound n (AfterDot at xs ∷ fs) top t s = start-sound n (AfterDot at xs ∷ fs) top t tt s
step-sound n (Tail at xs last ∷ fs) top (Close p) s = shut-sound fs n at xs last top s.0 s.1
step-sound n (Tail at xs last ∷ fs) top (Open p o) s = tt
step-sound n (Tail at xs last ∷ fs) top (Dot p) s = tt
step-sound n (Tail at xs last ∷ fs) top (Plain p a) s = tt
step-sound n (Tail at xs last ∷ fs) top (Huge p) s = tt
step-sound n (Tail at xs last ∷ fs) top (Bad p f) s = tt
step-sound n (Elements at xs ∷ fs) top (Close p) s = put-sound fs (suc n) top (vector at xs) s.0 s.1
step-sound n (Elements at xs ∷ fs) top (Open p o) s = start-sound n (Elements at xs ∷ fs) top (Open p o) tt s
step-sound n (Elements at xs ∷ fs) top (Dot p) s = tt
step-sound n (Elements at xs ∷ fs) top (Plain p a) s = start-sound n (Elements at xs ∷ fs) top (Plain p a) tt s
step-sound n (Elements at xs ∷ fs) top (Huge p) s = tt
step-sound n (Elements at xs ∷ fs) top (Bad p f) s = tt
step-sound n (Waiting at ∷ fs) top t s = start-sound n (Waiting at ∷ fs) top t tt s

done-back : (n : ℕ) (fs : List Frame) (top out : Data) → finish fs top ≡ Ok out → Completes n fs top [] out
done-back n [] top out e = record { ds = none; reads = end n []; is = (let k : out ≡ top = cc in k) ∙ sym (join-none top) }
done-back n (f ∷ fs) top out e = cc

goes-back : (r : Result State Fault) (ts : List Token) (out : Data) → ((s : State) → IsSound s.open_ → run s.spare s.open_ s.top ts ≡ Ok out → Goes ts out s) →
    IfOk r (λ v. IsSound v.open_) → when_ok r (λ v. run v.spare v.open_ v.top ts) ≡ Ok out → IsOkAnd r (Goes ts out)
goes-back (Ok v) ts out f h e = f v h e
goes-back (Err x) ts out f h e = cc

pub run-back : (ts : List Token) (n : ℕ) (fs : List Frame) (top out : Data) → IsSound fs → run n fs top ts ≡ Ok out → Completes n fs top ts out
run-back [] n fs top out s e = done-back n fs top out e
run-back (t ∷ ts) n fs top out s e = step-back n fs top t ts out s
    (goes-back (step n fs top t) ts out (λ v h i. run-back ts v.spare v.open_ v.top out h i) (step-sound n fs top t s) e)

pub accepts-forth : (n : ℕ) (ts : List Token) (xs : Data) → Reads n ts xs → run n [] none ts ≡ Ok xs
accepts-forth n ts xs h = run-forth ts n [] none xs (record { ds = xs; reads = h; is = refl })

pub accepts-back : (n : ℕ) (ts : List Token) (xs : Data) → run n [] none ts ≡ Ok xs → Reads n ts xs
accepts-back n ts xs e =
    let c = run-back ts n [] none xs tt e in
    let P : Data → Type 0 = λ v. Reads n ts v in
    subst P (sym c.is) c.reads
