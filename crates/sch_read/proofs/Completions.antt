-- What completes a state of the machine, in the grammar's words, and that a step keeps it.
use Rattle.std.proofs.Common.{◌≡◌, ◌⊎◌, ℕ, zero, suc, List, [], ◌∷◌, refl, sym, ◌∙◌, ap, subst, inl, inr}
use Rattle.std.specs.Prelude.{IsOkAnd}
use Rattle.sch_read.specs.Grammar.{Token, Open, Close, Dot, Plain, Huge, Bad, parenthesis, hash_parenthesis, quote_mark, Datum, Data, atom, list, dotted, vector, none, cons, join, one, quoted, with_tail, ReadsOne, ReadsMany, Reads, plain, listed, with_dot, elements, quotes, end, more}
use Rattle.sch_read.specs.Parser.Stack.{Frame, Items, AfterDot, Tail, Elements, Waiting, State, put, shut, start, step, at_top, in_list, in_tail, in_vector, read_dot}

pub join-none : (xs : Data) → join xs none ≡ xs
join-none none = refl
join-none (cons x xs) = ap (cons x) (join-none xs)

pub join-assoc : (xs ys zs : Data) → join (join xs ys) zs ≡ join xs (join ys zs)
join-assoc none ys zs = refl
join-assoc (cons x xs) ys zs = ap (cons x) (join-assoc xs ys zs)

-- The rest of a list or vector that is open closes it; a list's may have its dot first.
pub record Closes (n : ℕ) (make : Data → Datum) (xs : Data) (ts : List Token) (d : Datum) (rest : List Token) : Type 0 where
  pub ds : Data
  pub end_ : ℕ
  pub reads : ReadsMany n ts ds (Close end_ ∷ rest)
  pub is : d ≡ make (join xs ds)

pub record Points (n at : ℕ) (xs : Data) (ts : List Token) (d : Datum) (rest : List Token) : Type 0 where
  pub ds : Data
  pub dot : ℕ
  pub us : List Token
  pub last : Datum
  pub end_ : ℕ
  pub x : Datum
  pub all : Data
  pub reads : ReadsMany n ts ds (Dot dot ∷ us)
  pub some : join xs ds ≡ cons x all
  pub reads_last : ReadsOne n us last (Close end_ ∷ rest)
  pub is : d ≡ with_tail at (cons x all) last

pub record Ends (n at : ℕ) (xs : Data) (ts : List Token) (d : Datum) (rest : List Token) : Type 0 where
  pub last : Datum
  pub end_ : ℕ
  pub reads : ReadsOne n ts last (Close end_ ∷ rest)
  pub is : d ≡ with_tail at xs last

pub record Shuts (at : ℕ) (xs : Data) (last : Datum) (ts : List Token) (d : Datum) (rest : List Token) : Type 0 where
  pub end_ : ℕ
  pub next : ts ≡ Close end_ ∷ rest
  pub is : d ≡ with_tail at xs last

pub record Quotes (n at : ℕ) (ts : List Token) (d : Datum) (rest : List Token) : Type 0 where
  pub x : Datum
  pub reads : ReadsOne n ts x rest
  pub is : d ≡ quoted at x

-- the first tokens complete what is open to a datum
abbrev pub Fills : ℕ → Frame → List Token → Datum → List Token → Type 0
Fills n (Items at xs) ts d rest = Closes n (list at) xs ts d rest ⊎ Points n at xs ts d rest
Fills n (AfterDot at xs) ts d rest = Ends n at xs ts d rest
Fills n (Tail at xs last) ts d rest = Shuts at xs last ts d rest
Fills n (Elements at xs) ts d rest = Closes n (vector at) xs ts d rest
Fills n (Waiting at) ts d rest = Quotes n at ts d rest

pub record TopGets (n : ℕ) (top : Data) (ts : List Token) (out : Data) : Type 0 where
  pub ds : Data
  pub reads : Reads n ts ds
  pub is : out ≡ join top ds

-- A datum is whole, and the rest completes the text.
abbrev pub Gets : ℕ → List Frame → Data → Datum → List Token → Data → Type 0
Gets n [] top d rest out = TopGets n (join top (one d)) rest out
Gets n (Items at xs ∷ fs) top d rest out = (e : Datum) × (us : List Token) × Fills n (Items at (join xs (one d))) rest e us × Gets (suc n) fs top e us out
Gets n (AfterDot at xs ∷ fs) top d rest out = (e : Datum) × (us : List Token) × Fills n (Tail at xs d) rest e us × Gets (suc n) fs top e us out
Gets n (Tail at xs last ∷ fs) top d rest out = ⊥
Gets n (Elements at xs ∷ fs) top d rest out = (e : Datum) × (us : List Token) × Fills n (Elements at (join xs (one d))) rest e us × Gets (suc n) fs top e us out
Gets n (Waiting at ∷ fs) top d rest out = Gets (suc n) fs top (quoted at d) rest out

-- The tokens complete what is open to the whole text's data.
abbrev pub Completes : ℕ → List Frame → Data → List Token → Data → Type 0
Completes n [] top ts out = TopGets n top ts out
Completes n (f ∷ fs) top ts out = (d : Datum) × (rest : List Token) × Fills n f ts d rest × Gets (suc n) fs top d rest out

abbrev pub Goes : List Token → Data → State → Type 0
Goes ts out s = Completes s.spare s.open_ s.top ts out

put-goes : (fs : List Frame) (n : ℕ) (top : Data) (d : Datum) (ts : List Token) (out : Data) → Gets n fs top d ts out → Goes ts out (put n d fs top)
put-goes [] n top d ts out g = g
put-goes (Items at xs ∷ fs) n top d ts out g = g
put-goes (AfterDot at xs ∷ fs) n top d ts out g = g
put-goes (Tail at xs last ∷ fs) n top d ts out g = absurd g
put-goes (Elements at xs ∷ fs) n top d ts out g = g
put-goes (Waiting at ∷ fs) n top d ts out g = put-goes fs (suc n) top (quoted at d) ts out g

pub start-forth : (n : ℕ) (fs : List Frame) (top : Data) (t : Token) (ts : List Token) (d : Datum) (us : List Token) (out : Data) →
    ReadsOne n (t ∷ ts) d us → Gets n fs top d us out → IsOkAnd (start n fs top t) (Goes ts out)
start-forth n fs top (Plain at a) ts d us out (plain _ _ _ _) g = put-goes fs n top (atom at a) ts out g
start-forth (suc n) fs top (Open at parenthesis) ts d us out (listed _ _ e _ xs _ r) g = (list at xs, us, inl (record { ds = xs; end_ = e; reads = r; is = refl }), g)
start-forth (suc n) fs top (Open at parenthesis) ts d us out (with_dot _ _ p e _ vs x xs last _ r q) g =
    (with_tail at (cons x xs) last, us, inr (record { ds = cons x xs; dot = p; us = vs; last = last; end_ = e; x = x; all = xs; reads = r; some = refl; reads_last = q; is = refl }), g)
start-forth (suc n) fs top (Open at hash_parenthesis) ts d us out (elements _ _ e _ xs _ r) g = (vector at xs, us, record { ds = xs; end_ = e; reads = r; is = refl }, g)
start-forth (suc n) fs top (Open at quote_mark) ts d us out (quotes _ _ _ x _ r) g = (quoted at x, us, record { x = x; reads = r; is = refl }, g)
start-forth zero fs top (Open at parenthesis) ts d us out r g = elim r [ ]
start-forth zero fs top (Open at hash_parenthesis) ts d us out r g = elim r [ ]
start-forth zero fs top (Open at quote_mark) ts d us out r g = elim r [ ]
start-forth n fs top (Close _) ts d us out r g = elim r [ ]
start-forth n fs top (Dot _) ts d us out r g = elim r [ ]
start-forth n fs top (Huge _) ts d us out r g = elim r [ ]
start-forth n fs top (Bad _ _) ts d us out r g = elim r [ ]

-- the machine goes on where the text may be completed
starts-top : (n : ℕ) (top : Data) (t : Token) (P : State → Type 0) → IsOkAnd (start n [] top t) P → IsOkAnd (at_top n top t) P
starts-top n top (Close p) P h = h
starts-top n top (Open p o) P h = h
starts-top n top (Dot p) P h = h
starts-top n top (Plain p a) P h = h
starts-top n top (Huge p) P h = h
starts-top n top (Bad p f) P h = h

starts-list : (n at : ℕ) (xs : Data) (fs : List Frame) (top : Data) (t : Token) (P : State → Type 0) → IsOkAnd (start n (Items at xs ∷ fs) top t) P → IsOkAnd (in_list n at xs fs top t) P
starts-list n at xs fs top (Close p) P h = absurd h
starts-list n at xs fs top (Open p o) P h = h
starts-list n at xs fs top (Dot p) P h = absurd h
starts-list n at xs fs top (Plain p a) P h = h
starts-list n at xs fs top (Huge p) P h = h
starts-list n at xs fs top (Bad p f) P h = h

starts-vector : (n at : ℕ) (xs : Data) (fs : List Frame) (top : Data) (t : Token) (P : State → Type 0) → IsOkAnd (start n (Elements at xs ∷ fs) top t) P → IsOkAnd (in_vector n at xs fs top t) P
starts-vector n at xs fs top (Close p) P h = absurd h
starts-vector n at xs fs top (Open p o) P h = h
starts-vector n at xs fs top (Dot p) P h = h
starts-vector n at xs fs top (Plain p a) P h = h
starts-vector n at xs fs top (Huge p) P h = h
starts-vector n at xs fs top (Bad p f) P h = h

top-forth : (n : ℕ) (top : Data) (t : Token) (ts : List Token) (out ds : Data) → ReadsMany n (t ∷ ts) ds [] → out ≡ join top ds → IsOkAnd (at_top n top t) (Goes ts out)
top-forth n top t ts out ds (more _ _ us x xs _ r q) e =
    starts-top n top t (Goes ts out) (start-forth n [] top t ts x us out r (record { ds = xs; reads = q; is = e ∙ sym (join-assoc top (one x) xs) }))

read_dot-forth : (n at : ℕ) (xs : Data) (fs : List Frame) (top : Data) (p : ℕ) (ts us : List Token) (d last : Datum) (e : ℕ) (rest : List Token) (x : Datum) (all : Data) (out : Data) →
    xs ≡ cons x all → ReadsOne n ts last (Close e ∷ rest) → d ≡ with_tail at (cons x all) last → Gets (suc n) fs top d rest out →
    IsOkAnd (read_dot n at xs fs top p) (Goes ts out)
read_dot-forth n at none fs top p ts us d last e rest x all out h r i g = cc
read_dot-forth n at (cons y ys) fs top p ts us d last e rest x all out h r i g =
    (d, rest, record { last = last; end_ = e; reads = r; is = i ∙ ap (λ v. with_tail at v last) (sym h) }, g)

closes-forth : (n at : ℕ) (xs : Data) (fs : List Frame) (top : Data) (t : Token) (ts : List Token) (d : Datum) (rest : List Token) (out : Data) (ds : Data) (e : ℕ) →
    ReadsMany n (t ∷ ts) ds (Close e ∷ rest) → d ≡ list at (join xs ds) → Gets (suc n) fs top d rest out → IsOkAnd (in_list n at xs fs top t) (Goes ts out)
closes-forth n at xs fs top (Close p) ts d rest out none e (end _ _) i g =
    let j : d ≡ list at xs = i ∙ ap (list at) (join-none xs) in
    let P : Datum → Type 0 = λ v. Gets (suc n) fs top v ts out in
    put-goes fs (suc n) top (list at xs) ts out (subst P j g)
closes-forth n at xs fs top t ts d rest out (cons x ds) e (more _ _ us _ _ _ r q) i g =
    starts-list n at xs fs top t (Goes ts out) (start-forth n (Items at xs ∷ fs) top t ts x us out r
    (d, rest, inl (record { ds = ds; end_ = e; reads = q; is = i ∙ ap (list at) (sym (join-assoc xs (one x) ds)) }), g))
closes-forth n at xs fs top (Open _ _) ts d rest out none e r i g = elim r [ ]
closes-forth n at xs fs top (Dot _) ts d rest out none e r i g = elim r [ ]
closes-forth n at xs fs top (Plain _ _) ts d rest out none e r i g = elim r [ ]
closes-forth n at xs fs top (Huge _) ts d rest out none e r i g = elim r [ ]
closes-forth n at xs fs top (Bad _ _) ts d rest out none e r i g = elim r [ ]

vector-forth : (n at : ℕ) (xs : Data) (fs : List Frame) (top : Data) (t : Token) (ts : List Token) (d : Datum) (rest : List Token) (out : Data) (ds : Data) (e : ℕ) →
    ReadsMany n (t ∷ ts) ds (Close e ∷ rest) → d ≡ vector at (join xs ds) → Gets (suc n) fs top d rest out → IsOkAnd (in_vector n at xs fs top t) (Goes ts out)
vector-forth n at xs fs top (Close p) ts d rest out none e (end _ _) i g =
    let j : d ≡ vector at xs = i ∙ ap (vector at) (join-none xs) in
    let P : Datum → Type 0 = λ v. Gets (suc n) fs top v ts out in
    put-goes fs (suc n) top (vector at xs) ts out (subst P j g)
vector-forth n at xs fs top t ts d rest out (cons x ds) e (more _ _ us _ _ _ r q) i g =
    starts-vector n at xs fs top t (Goes ts out) (start-forth n (Elements at xs ∷ fs) top t ts x us out r
    (d, rest, record { ds = ds; end_ = e; reads = q; is = i ∙ ap (vector at) (sym (join-assoc xs (one x) ds)) }, g))
vector-forth n at xs fs top (Open _ _) ts d rest out none e r i g = elim r [ ]
vector-forth n at xs fs top (Dot _) ts d rest out none e r i g = elim r [ ]
vector-forth n at xs fs top (Plain _ _) ts d rest out none e r i g = elim r [ ]
vector-forth n at xs fs top (Huge _) ts d rest out none e r i g = elim r [ ]
vector-forth n at xs fs top (Bad _ _) ts d rest out none e r i g = elim r [ ]

read_dots-forth : (n at : ℕ) (xs : Data) (fs : List Frame) (top : Data) (t : Token) (ts : List Token) (d : Datum) (rest : List Token) (out : Data)
    (ds : Data) (dot : ℕ) (vs : List Token) (last : Datum) (e : ℕ) (x : Datum) (all : Data) →
    ReadsMany n (t ∷ ts) ds (Dot dot ∷ vs) → join xs ds ≡ cons x all → ReadsOne n vs last (Close e ∷ rest) → d ≡ with_tail at (cons x all) last →
    Gets (suc n) fs top d rest out → IsOkAnd (in_list n at xs fs top t) (Goes ts out)
read_dots-forth n at xs fs top (Dot p) ts d rest out none dot vs last e x all (end _ _) s q i g =
    read_dot-forth n at xs fs top p ts ts d last e rest x all out (sym (join-none xs) ∙ s) q i g
read_dots-forth n at xs fs top t ts d rest out (cons y ds) dot vs last e x all (more _ _ us _ _ _ r m) s q i g =
    starts-list n at xs fs top t (Goes ts out) (start-forth n (Items at xs ∷ fs) top t ts y us out r
    (d, rest, inr (record { ds = ds; dot = dot; us = vs; last = last; end_ = e; x = x; all = all; reads = m; some = join-assoc xs (one y) ds ∙ s; reads_last = q; is = i }), g))
read_dots-forth n at xs fs top (Open _ _) ts d rest out none dot vs last e x all r s q i g = elim r [ ]
read_dots-forth n at xs fs top (Close _) ts d rest out none dot vs last e x all r s q i g = elim r [ ]
read_dots-forth n at xs fs top (Plain _ _) ts d rest out none dot vs last e x all r s q i g = elim r [ ]
read_dots-forth n at xs fs top (Huge _) ts d rest out none dot vs last e x all r s q i g = elim r [ ]
read_dots-forth n at xs fs top (Bad _ _) ts d rest out none dot vs last e x all r s q i g = elim r [ ]

-- a list in the tail of a list is more of that list
tail-in-tail : (p : ℕ) (ys : Data) (at : ℕ) (xs : Data) (last : Datum) → with_tail p ys (with_tail at xs last) ≡ with_tail p (join ys xs) last
tail-in-tail p ys at xs (atom q a) = refl
tail-in-tail p ys at xs (list q zs) = ap (list p) (sym (join-assoc ys xs zs))
tail-in-tail p ys at xs (dotted q zs z) = ap (λ v. dotted p v z) (sym (join-assoc ys xs zs))
tail-in-tail p ys at xs (vector q zs) = refl

shut-goes : (fs : List Frame) (n at : ℕ) (xs : Data) (last : Datum) (top : Data) (ts : List Token) (out : Data) →
    Gets (suc n) fs top (with_tail at xs last) ts out → Goes ts out (shut n at xs last fs top)
shut-goes [] n at xs last top ts out g = put-goes [] (suc n) top (with_tail at xs last) ts out g
shut-goes (Items p ys ∷ fs) n at xs last top ts out g = put-goes (Items p ys ∷ fs) (suc n) top (with_tail at xs last) ts out g
shut-goes (AfterDot p ys ∷ fs) n at xs last top ts out (e, us, s, g) =
    (e, us, record { end_ = s.end_; next = s.next; is = s.is ∙ tail-in-tail p ys at xs last }, g)
shut-goes (Tail p ys d ∷ fs) n at xs last top ts out g = put-goes (Tail p ys d ∷ fs) (suc n) top (with_tail at xs last) ts out g
shut-goes (Elements p ys ∷ fs) n at xs last top ts out g = put-goes (Elements p ys ∷ fs) (suc n) top (with_tail at xs last) ts out g
shut-goes (Waiting p ∷ fs) n at xs last top ts out g = put-goes (Waiting p ∷ fs) (suc n) top (with_tail at xs last) ts out g

shuts-forth : (n at : ℕ) (xs : Data) (last : Datum) (fs : List Frame) (top : Data) (t : Token) (ts : List Token) (d : Datum) (rest : List Token) (out : Data) (e : ℕ) →
    t ∷ ts ≡ Close e ∷ rest → d ≡ with_tail at xs last → Gets (suc n) fs top d rest out → IsOkAnd (in_tail n at xs last fs top t) (Goes ts out)
shuts-forth n at xs last fs top (Close p) ts d rest out e h i g =
    let same : rest ≡ ts = cc in
    let P : Datum → Type 0 = λ v. Gets (suc n) fs top v rest out in
    let Q : List Token → Type 0 = λ v. Gets (suc n) fs top (with_tail at xs last) v out in
    shut-goes fs n at xs last top ts out (subst Q same (subst P i g))
shuts-forth n at xs last fs top (Open p o) ts d rest out e h i g = cc
shuts-forth n at xs last fs top (Dot p) ts d rest out e h i g = cc
shuts-forth n at xs last fs top (Plain p a) ts d rest out e h i g = cc
shuts-forth n at xs last fs top (Huge p) ts d rest out e h i g = cc
shuts-forth n at xs last fs top (Bad p f) ts d rest out e h i g = cc

-- What completes the text with one more token: the machine takes the token, and the rest completes it.
pub step-forth : (n : ℕ) (fs : List Frame) (top : Data) (t : Token) (ts : List Token) (out : Data) →
    Completes n fs top (t ∷ ts) out → IsOkAnd (step n fs top t) (Goes ts out)
step-forth n [] top t ts out h = top-forth n top t ts out h.ds h.reads h.is
step-forth n (Items at xs ∷ fs) top t ts out (d, rest, inl c, g) = closes-forth n at xs fs top t ts d rest out c.ds c.end_ c.reads c.is g
step-forth n (Items at xs ∷ fs) top t ts out (d, rest, inr c, g) = read_dots-forth n at xs fs top t ts d rest out c.ds c.dot c.us c.last c.end_ c.x c.all c.reads c.some c.reads_last c.is g
step-forth n (AfterDot at xs ∷ fs) top t ts out (d, rest, c, g) =
    start-forth n (AfterDot at xs ∷ fs) top t ts c.last (Close c.end_ ∷ rest) out c.reads (d, rest, record { end_ = c.end_; next = refl; is = c.is }, g)
step-forth n (Tail at xs last ∷ fs) top t ts out (d, rest, c, g) = shuts-forth n at xs last fs top t ts d rest out c.end_ c.next c.is g
step-forth n (Elements at xs ∷ fs) top t ts out (d, rest, c, g) = vector-forth n at xs fs top t ts d rest out c.ds c.end_ c.reads c.is g
step-forth n (Waiting at ∷ fs) top t ts out (d, rest, c, g) =
    let P : Datum → Type 0 = λ v. Gets (suc n) fs top v rest out in
    start-forth n (Waiting at ∷ fs) top t ts c.x rest out c.reads (subst P c.is g)

-- the innermost frame, where there is one, takes a datum
abbrev pub HeadTakes : List Frame → Type 0
HeadTakes [] = Unit {0}
HeadTakes (Items at xs ∷ fs) = Unit {0}
HeadTakes (AfterDot at xs ∷ fs) = Unit {0}
HeadTakes (Tail at xs last ∷ fs) = ⊥
HeadTakes (Elements at xs ∷ fs) = Unit {0}
HeadTakes (Waiting at ∷ fs) = Unit {0}

-- each frame below another takes a datum
abbrev pub IsSound : List Frame → Type 0
IsSound [] = Unit {0}
IsSound (f ∷ fs) = HeadTakes fs × IsSound fs

pub put-back : (fs : List Frame) (n : ℕ) (top : Data) (d : Datum) (ts : List Token) (out : Data) → HeadTakes fs → IsSound fs → Goes ts out (put n d fs top) → Gets n fs top d ts out
put-back [] n top d ts out t s g = g
put-back (Items at xs ∷ fs) n top d ts out t s g = g
put-back (AfterDot at xs ∷ fs) n top d ts out t s g = g
put-back (Tail at xs last ∷ fs) n top d ts out t s g = absurd t
put-back (Elements at xs ∷ fs) n top d ts out t s g = g
put-back (Waiting at ∷ fs) n top d ts out t s g = put-back fs (suc n) top (quoted at d) ts out s.0 s.1 g

pub shut-back : (fs : List Frame) (n at : ℕ) (xs : Data) (last : Datum) (top : Data) (ts : List Token) (out : Data) → HeadTakes fs → IsSound fs →
    Goes ts out (shut n at xs last fs top) → Gets (suc n) fs top (with_tail at xs last) ts out
shut-back [] n at xs last top ts out t s g = put-back [] (suc n) top (with_tail at xs last) ts out t s g
shut-back (Items p ys ∷ fs) n at xs last top ts out t s g = put-back (Items p ys ∷ fs) (suc n) top (with_tail at xs last) ts out t s g
shut-back (AfterDot p ys ∷ fs) n at xs last top ts out t s (e, us, c, g) =
    (e, us, record { end_ = c.end_; next = c.next; is = c.is ∙ sym (tail-in-tail p ys at xs last) }, g)
shut-back (Tail p ys d ∷ fs) n at xs last top ts out t s g = absurd t
shut-back (Elements p ys ∷ fs) n at xs last top ts out t s g = put-back (Elements p ys ∷ fs) (suc n) top (with_tail at xs last) ts out t s g
shut-back (Waiting p ∷ fs) n at xs last top ts out t s g = put-back (Waiting p ∷ fs) (suc n) top (with_tail at xs last) ts out t s g

pub put-sound : (fs : List Frame) (n : ℕ) (top : Data) (d : Datum) → HeadTakes fs → IsSound fs → IsSound (put n d fs top).open_
put-sound [] n top d t s = tt
put-sound (Items at xs ∷ fs) n top d t s = s
put-sound (AfterDot at xs ∷ fs) n top d t s = s
put-sound (Tail at xs last ∷ fs) n top d t s = s
put-sound (Elements at xs ∷ fs) n top d t s = s
put-sound (Waiting at ∷ fs) n top d t s = put-sound fs (suc n) top (quoted at d) s.0 s.1

pub shut-sound : (fs : List Frame) (n at : ℕ) (xs : Data) (last : Datum) (top : Data) → HeadTakes fs → IsSound fs → IsSound (shut n at xs last fs top).open_
shut-sound [] n at xs last top t s = put-sound [] (suc n) top (with_tail at xs last) t s
shut-sound (Items p ys ∷ fs) n at xs last top t s = put-sound (Items p ys ∷ fs) (suc n) top (with_tail at xs last) t s
shut-sound (AfterDot p ys ∷ fs) n at xs last top t s = s
shut-sound (Tail p ys d ∷ fs) n at xs last top t s = absurd t
shut-sound (Elements p ys ∷ fs) n at xs last top t s = put-sound (Elements p ys ∷ fs) (suc n) top (with_tail at xs last) t s
shut-sound (Waiting p ∷ fs) n at xs last top t s = put-sound (Waiting p ∷ fs) (suc n) top (with_tail at xs last) t s

pub start-back : (n : ℕ) (fs : List Frame) (top : Data) (t : Token) (ts : List Token) (out : Data) → HeadTakes fs → IsSound fs →
    IsOkAnd (start n fs top t) (Goes ts out) → (d : Datum) × (us : List Token) × ReadsOne n (t ∷ ts) d us × Gets n fs top d us out
start-back n fs top (Plain at a) ts out h s g = (atom at a, ts, plain n at a ts, put-back fs n top (atom at a) ts out h s g)
start-back zero fs top (Open at o) ts out h s g = absurd g
start-back (suc n) fs top (Open at parenthesis) ts out h s (d, us, inl c, g) =
    let P : Datum → Type 0 = λ v. Gets (suc n) fs top v us out in
    (list at c.ds, us, listed n at c.end_ ts c.ds us c.reads, subst P c.is g)
start-back (suc n) fs top (Open at parenthesis) ts out h s (d, us, inr c, g) =
    let P : Datum → Type 0 = λ v. Gets (suc n) fs top v us out in
    let Q : Data → Type 0 = λ v. ReadsMany n ts v (Dot c.dot ∷ c.us) in
    (with_tail at (cons c.x c.all) c.last, us, with_dot n at c.dot c.end_ ts c.us c.x c.all c.last us (subst Q c.some c.reads) c.reads_last, subst P c.is g)
start-back (suc n) fs top (Open at hash_parenthesis) ts out h s (d, us, c, g) =
    let P : Datum → Type 0 = λ v. Gets (suc n) fs top v us out in
    (vector at c.ds, us, elements n at c.end_ ts c.ds us c.reads, subst P c.is g)
start-back (suc n) fs top (Open at quote_mark) ts out h s (d, us, c, g) =
    let P : Datum → Type 0 = λ v. Gets (suc n) fs top v us out in
    (quoted at c.x, us, quotes n at ts c.x us c.reads, subst P c.is g)
start-back n fs top (Close at) ts out h s g = absurd g
start-back n fs top (Dot at) ts out h s g = absurd g
start-back n fs top (Huge at) ts out h s g = absurd g
start-back n fs top (Bad at f) ts out h s g = absurd g

top-back : (n : ℕ) (top : Data) (t : Token) (ts : List Token) (out : Data) → IsOkAnd (start n [] top t) (Goes ts out) → TopGets n top (t ∷ ts) out
top-back n top t ts out g =
    let b = start-back n [] top t ts out tt tt g in
    record { ds = cons b.0 b.3.ds; reads = more n (t ∷ ts) b.1 b.0 b.3.ds [] b.2 b.3.reads; is = b.3.is ∙ join-assoc top (one b.0) b.3.ds }

list-back : (n at : ℕ) (xs : Data) (fs : List Frame) (top : Data) (t : Token) (ts : List Token) (out : Data) → IsSound (Items at xs ∷ fs) →
    IsOkAnd (start n (Items at xs ∷ fs) top t) (Goes ts out) → Completes n (Items at xs ∷ fs) top (t ∷ ts) out
list-back n at xs fs top t ts out s g = go (start-back n (Items at xs ∷ fs) top t ts out tt s g)
  where
    go : (d : Datum) × (us : List Token) × ReadsOne n (t ∷ ts) d us × Gets n (Items at xs ∷ fs) top d us out → Completes n (Items at xs ∷ fs) top (t ∷ ts) out
    go (x, us, r, (d, rest, inl c, g')) = (
      d,
      rest,
      inl
          (record { ds = cons x c.ds; end_ = c.end_; reads = more n (t ∷ ts) us x c.ds (Close c.end_ ∷ rest) r c.reads; is = c.is ∙ ap (list at) (join-assoc xs (one x) c.ds) }),
      g',
    )
    go (x, us, r, (d, rest, inr c, g')) = (
      d,
      rest,
      inr
          (record {
            ds = cons x c.ds;
            dot = c.dot;
            us = c.us;
            last = c.last;
            end_ = c.end_;
            x = c.x;
            all = c.all;
            reads = more n (t ∷ ts) us x c.ds (Dot c.dot ∷ c.us) r c.reads;
            some = sym (join-assoc xs (one x) c.ds) ∙ c.some;
            reads_last = c.reads_last;
            is = c.is;
          }),
      g',
    )

vector-back : (n at : ℕ) (xs : Data) (fs : List Frame) (top : Data) (t : Token) (ts : List Token) (out : Data) → IsSound (Elements at xs ∷ fs) →
    IsOkAnd (start n (Elements at xs ∷ fs) top t) (Goes ts out) → Completes n (Elements at xs ∷ fs) top (t ∷ ts) out
vector-back n at xs fs top t ts out s g = go (start-back n (Elements at xs ∷ fs) top t ts out tt s g)
  where
    go : (d : Datum) × (us : List Token) × ReadsOne n (t ∷ ts) d us × Gets n (Elements at xs ∷ fs) top d us out → Completes n (Elements at xs ∷ fs) top (t ∷ ts) out
    go (x, us, r, (d, rest, c, g')) = (
      d,
      rest,
      record {
        ds = cons x c.ds;
        end_ = c.end_;
        reads = more n (t ∷ ts) us x c.ds (Close c.end_ ∷ rest) r c.reads;
        is = c.is ∙ ap (vector at) (join-assoc xs (one x) c.ds);
      },
      g',
    )

read_dot-back : (n at : ℕ) (xs : Data) (fs : List Frame) (top : Data) (p : ℕ) (ts : List Token) (out : Data) →
    IsOkAnd (read_dot n at xs fs top p) (Goes ts out) → Completes n (Items at xs ∷ fs) top (Dot p ∷ ts) out
read_dot-back n at none fs top p ts out g = absurd g
read_dot-back n at (cons y ys) fs top p ts out (d, rest, c, g) =
    (d, rest, inr (record { ds = none; dot = p; us = ts; last = c.last; end_ = c.end_; x = y; all = ys; reads = end n (Dot p ∷ ts); some = join-none (cons y ys); reads_last = c.reads; is = c.is }), g)

-- Where the machine takes a token and the rest completes the text, the token and the rest complete it.
pub step-back : (n : ℕ) (fs : List Frame) (top : Data) (t : Token) (ts : List Token) (out : Data) → IsSound fs →
    IsOkAnd (step n fs top t) (Goes ts out) → Completes n fs top (t ∷ ts) out
step-back n [] top (Close p) ts out s g = absurd g
step-back n [] top (Open p o) ts out s g = top-back n top (Open p o) ts out g
step-back n [] top (Dot p) ts out s g = absurd g
step-back n [] top (Plain p a) ts out s g = top-back n top (Plain p a) ts out g
step-back n [] top (Huge p) ts out s g = absurd g
step-back n [] top (Bad p f) ts out s g = absurd g
step-back n (Items at xs ∷ fs) top (Close p) ts out s g =
    (list at xs, ts, inl (record { ds = none; end_ = p; reads = end n (Close p ∷ ts); is = ap (list at) (sym (join-none xs)) }), put-back fs (suc n) top (list at xs) ts out s.0 s.1 g)
step-back n (Items at xs ∷ fs) top (Open p o) ts out s g = list-back n at xs fs top (Open p o) ts out s g
step-back n (Items at xs ∷ fs) top (Dot p) ts out s g = read_dot-back n at xs fs top p ts out g
step-back n (Items at xs ∷ fs) top (Plain p a) ts out s g = list-back n at xs fs top (Plain p a) ts out s g
step-back n (Items at xs ∷ fs) top (Huge p) ts out s g = absurd g
step-back n (Items at xs ∷ fs) top (Bad p f) ts out s g = absurd g
step-back n (AfterDot at xs ∷ fs) top t ts out s g = go (start-back n (AfterDot at xs ∷ fs) top t ts out tt s g)
  where
    go : (d : Datum) × (us : List Token) × ReadsOne n (t ∷ ts) d us × Gets n (AfterDot at xs ∷ fs) top d us out → Completes n (AfterDot at xs ∷ fs) top (t ∷ ts) out
    go (x, us, r, (d, rest, c, g')) =
        let Q : List Token → Type 0 = λ v. ReadsOne n (t ∷ ts) x v in
        (d, rest, record { last = x; end_ = c.end_; reads = subst Q c.next r; is = c.is }, g')
step-back n (Tail at xs last ∷ fs) top (Close p) ts out s g =
    (with_tail at xs last, ts, record { end_ = p; next = refl; is = refl }, shut-back fs n at xs last top ts out s.0 s.1 g)
step-back n (Tail at xs last ∷ fs) top (Open p o) ts out s g = absurd g
step-back n (Tail at xs last ∷ fs) top (Dot p) ts out s g = absurd g
step-back n (Tail at xs last ∷ fs) top (Plain p a) ts out s g = absurd g
step-back n (Tail at xs last ∷ fs) top (Huge p) ts out s g = absurd g
step-back n (Tail at xs last ∷ fs) top (Bad p f) ts out s g = absurd g
step-back n (Elements at xs ∷ fs) top (Close p) ts out s g =
    (vector at xs, ts, record { ds = none; end_ = p; reads = end n (Close p ∷ ts); is = ap (vector at) (sym (join-none xs)) }, put-back fs (suc n) top (vector at xs) ts out s.0 s.1 g)
step-back n (Elements at xs ∷ fs) top (Open p o) ts out s g = vector-back n at xs fs top (Open p o) ts out s g
step-back n (Elements at xs ∷ fs) top (Dot p) ts out s g = absurd g
step-back n (Elements at xs ∷ fs) top (Plain p a) ts out s g = vector-back n at xs fs top (Plain p a) ts out s g
step-back n (Elements at xs ∷ fs) top (Huge p) ts out s g = absurd g
step-back n (Elements at xs ∷ fs) top (Bad p f) ts out s g = absurd g
step-back n (Waiting at ∷ fs) top t ts out s g = go (start-back n (Waiting at ∷ fs) top t ts out tt s g)
  where
    go : (d : Datum) × (us : List Token) × ReadsOne n (t ∷ ts) d us × Gets n (Waiting at ∷ fs) top d us out → Completes n (Waiting at ∷ fs) top (t ∷ ts) out
    go (x, us, r, g') = (quoted at x, us, record { x = x; reads = r; is = refl }, g')
