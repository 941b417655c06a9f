-- A put, write by write.
use Rattle.std.proofs.Common.{◌≡◌, ℕ, zero, suc, ◌+◌, ◌<◌, List, [], ◌∷◌, ◌++◌, length, refl, ap, arith, sym, ◌∙◌, subst, Bool, true, false, take, drop, append_assoc, take-append-drop, take-add, Some, None}
use Rattle.std.specs.Prelude.{Option, min, IsTrue}
use Rattle.std.proofs.lemmas.List.{append-nil, take_min, drop_min}
use Rattle.std.proofs.Math.Seq.{take-length, drop-length}
use Rattle.sch_word.specs.values.Put.{Put, put, after}
use Rattle.sch_word.specs.declared.answer.Answer.{Answer}
use Rattle.sch_word.specs.declared.answer.Answer.TheVariants.{Took, Failed}
use Rattle.sch_io.specs.Answers.{AnswersNext, IsRefusal, taken}
use Rattle.sch_io.specs.Puts.{HasPut}
use Rattle.sch_io.specs.Told.{Tells}

-- two calls after each other
pub tells_then : {A : Type 0} (a b c : Option A) (P Q R : A → A → Type 0) → Tells a b P → Tells b c Q →
    ((x y z : A) → P x y → Q y z → R x z) → Tells a c R
tells_then a b None P Q R p q f = tt
tells_then a None (Some z) P Q R p q f = absurd q
tells_then None (Some y) (Some z) P Q R p q f = absurd p
tells_then (Some x) (Some y) (Some z) P Q R p q f = f x y z p q

pub tells_same : {A : Type 0} (a : Option A) (P : A → A → Type 0) → ((x : A) → P x x) → Tells a a P
tells_same None P f = tt
tells_same (Some x) P f = f x

pub tells_map : {A : Type 0} (a b : Option A) (P Q : A → A → Type 0) → Tells a b P → ((x y : A) → P x y → Q x y) → Tells a b Q
tells_map a None P Q p f = tt
tells_map None (Some y) P Q p f = absurd p
tells_map (Some x) (Some y) P Q p f = f x y p

pub bytes_then : (a b c : Option (List ℕ)) (front more : List ℕ) →
    Tells a b (λ x y. y ≡ x ++ front) → Tells b c (λ x y. y ≡ x ++ more) → Tells a c (λ x y. y ≡ x ++ (front ++ more))
bytes_then a b c front more p q =
    tells_then a b c (λ x y. y ≡ x ++ front) (λ x y. y ≡ x ++ more) (λ x y. y ≡ x ++ (front ++ more)) p q
    (λ x y z s t. t ∙ ap (λ v. v ++ more) s ∙ append_assoc x front more)

after-after : (a b : List ℕ) (p : Put) → after a (after b p) ≡ after (a ++ b) p
after-after a b p = rw (append_assoc a b p.taken) refl

-- a write that takes something, whatever comes after it
took : (rest : List ℕ) (k : ℕ) (more : List Answer) → 0 < length rest → 0 < k →
    put rest (Took k ∷ more) ≡ after (take k rest) (put (drop k rest) more)
took [] k more some positive = absurd (omega arith)
took (b ∷ bs) zero more some positive = absurd (omega arith)
took (b ∷ bs) (suc k) more some positive = refl

-- the same by the answers that were held ready
next : (rest : List ℕ) (k : ℕ) (before after' : List Answer) → 0 < length rest → 0 < k → AnswersNext (length rest) (Took k) before after' →
    put rest before ≡ after (take k rest) (put (drop k rest) after')
next [] k before after' some positive h = absurd (omega arith)
next (b ∷ bs) k [] after' some positive h =
    let e : k ≡ length (b ∷ bs) = cc in
    rw (h.1, e, take-length bs, drop-length bs) (rw (append-nil bs) refl)
next (b ∷ bs) k (Failed ∷ before) after' some positive h = cc
next (b ∷ bs) k (Took zero ∷ before) after' some positive h =
    let e : k ≡ min 0 (length (b ∷ bs)) = cc in absurd (omega arith)
next (b ∷ bs) k (Took (suc j) ∷ before) after' some positive h =
    let e : k ≡ min (suc j) (length (b ∷ bs)) = cc in
    rw (h.1, e, take_min (suc j) (b ∷ bs), drop_min (suc j) (b ∷ bs)) refl

-- a write that ends the put
refused : (rest : List ℕ) (a : Answer) (before after' : List Answer) → 0 < length rest → IsRefusal a (length rest) → AnswersNext (length rest) a before after' →
    put rest before ≡ record { taken = []; left = after'; whole = false }
refused [] a before after' some r h = absurd (omega arith)
refused (b ∷ bs) Failed [] after' some r h = cc
refused (b ∷ bs) (Took k) [] after' some r h =
    let e : k ≡ length (b ∷ bs) = cc in absurd (omega (arith, r.0))
refused (b ∷ bs) a (Failed ∷ before) after' some r h = rw h.1 refl
refused (b ∷ bs) Failed (Took j ∷ before) after' some r h = cc
refused (b ∷ bs) (Took k) (Took zero ∷ before) after' some r h = rw h.1 refl
refused (b ∷ bs) (Took k) (Took (suc j) ∷ before) after' some r h =
    let e : k ≡ min (suc j) (length (b ∷ bs)) = cc in absurd (omega (arith, r.0))

-- and against any answers
ended : (rest : List ℕ) (a : Answer) → 0 < length rest → IsRefusal a (length rest) → put rest (a ∷ []) ≡ record { taken = []; left = []; whole = false }
ended [] a some r = absurd (omega arith)
ended (b ∷ bs) Failed some r = refl
ended (b ∷ bs) (Took zero) some r = refl
ended (b ∷ bs) (Took (suc k)) some r = absurd (omega (arith, r.0))

nothing : (a : Answer) (rest : List ℕ) → IsRefusal a (length rest) → taken a rest ≡ []
nothing Failed rest r = refl
nothing (Took k) rest r = ap (λ n. take n rest) r.0

-- The put has come to `rest`: the bytes before it were taken.
pub record Along (piece rest : List ℕ) (bytes bytes' : Option (List ℕ)) (left left' : Option (List Answer)) : Type 0 where
  pub front : List ℕ
  pub met : List Answer
  pub goes_on : (more : List Answer) → put piece (met ++ more) ≡ after front (put rest more)
  pub uses : Tells left left' (λ before after'. put piece before ≡ after front (put rest after'))
  pub adds : Tells bytes bytes' (λ before after'. after' ≡ before ++ front)

pub starts : (piece : List ℕ) (bytes : Option (List ℕ)) (left : Option (List Answer)) → Along piece piece bytes bytes left left
starts piece bytes left = record {
  front = [];
  met = [];
  goes_on = λ more. refl;
  uses = tells_same left _ (λ x. refl);
  adds = tells_same bytes _ (λ x. sym (append-nil x));
}

pub takes_more : (piece rest : List ℕ) (k : ℕ) (b0 b1 b2 : Option (List ℕ)) (l0 l1 l2 : Option (List Answer)) → 0 < length rest → 0 < k →
    Along piece rest b0 b1 l0 l1 → Tells b1 b2 (λ before after'. after' ≡ before ++ take k rest) → Tells l1 l2 (AnswersNext (length rest) (Took k)) →
    Along piece (drop k rest) b0 b2 l0 l2
takes_more piece rest k b0 b1 b2 l0 l1 l2 some positive h b l = record {
  front = h.front ++ take k rest;
  met = h.met ++ Took k ∷ [];
  goes_on = λ more. ap (put piece) (append_assoc h.met (Took k ∷ []) more) ∙ h.goes_on (Took k ∷ more)
      ∙ ap (after h.front) (took rest k more some positive) ∙ after-after h.front (take k rest) (put (drop k rest) more);
  uses = tells_then l0 l1 l2 (λ x y. put piece x ≡ after h.front (put rest y)) (AnswersNext (length rest) (Took k)) (λ x z. put piece x ≡ after (h.front ++ take k rest) (put (drop k rest) z)) h.uses l
      (λ x y z p q. p ∙ ap (after h.front) (next rest k y z some positive q) ∙ after-after h.front (take k rest) (put (drop k rest) z));
  adds = bytes_then b0 b1 b2 h.front (take k rest) h.adds b;
}

pub comes_to_end : (piece : List ℕ) (b0 b1 : Option (List ℕ)) (l0 l1 : Option (List Answer)) → Along piece [] b0 b1 l0 l1 → HasPut piece b0 b1 l0 l1 true
comes_to_end piece b0 b1 l0 None h =
    let e : put piece h.met ≡ after h.front (put [] []) = ap (put piece) (sym (append-nil h.met)) ∙ h.goes_on [] in (
      h.met,
      record {
        adds = tells_map b0 b1 _ _ h.adds (λ x y p. p ∙ ap (λ t. x ++ t) (sym (ap (λ q. q.taken) e ∙ append-nil h.front)));
        uses = tt;
        ends = sym (ap (λ q. q.whole) e);
      },
    )
comes_to_end piece b0 b1 None (Some z) h = absurd h.uses
comes_to_end piece b0 b1 (Some x) (Some z) h = (
  x,
  record {
    adds = tells_map b0 b1 _ _ h.adds (λ u v p. p ∙ ap (λ t. u ++ t) (sym (ap (λ q. q.taken) h.uses ∙ append-nil h.front)));
    uses = (refl, sym (ap (λ q. q.left) h.uses));
    ends = sym (ap (λ q. q.whole) h.uses);
  },
)

pub stops_here : (piece rest : List ℕ) (a : Answer) (b0 b1 b2 : Option (List ℕ)) (l0 l1 l2 : Option (List Answer)) → 0 < length rest → IsRefusal a (length rest) →
    Along piece rest b0 b1 l0 l1 → Tells b1 b2 (λ before after'. after' ≡ before ++ taken a rest) → Tells l1 l2 (AnswersNext (length rest) a) →
    HasPut piece b0 b2 l0 l2 false
stops_here piece rest a b0 b1 b2 l0 l1 None some r h b l =
    let e : put piece (h.met ++ a ∷ []) ≡ after h.front (record { taken = []; left = []; whole = false }) = h.goes_on (a ∷ []) ∙ ap (after h.front) (ended rest a some r) in (
      h.met ++ a ∷ [],
      record {
        adds = tells_map b0 b2 _ _ (bytes_then b0 b1 b2 h.front (taken a rest) h.adds b) (λ x y p. p ∙ ap (λ t. x ++ t) (ap (λ t. h.front ++ t) (nothing a rest r) ∙ sym (ap (λ q. q.taken) e)));
        uses = tt;
        ends = sym (ap (λ q. q.whole) e);
      },
    )
stops_here piece rest a b0 b1 b2 l0 None (Some z) some r h b l = absurd l
stops_here piece rest a b0 b1 b2 None (Some y) (Some z) some r h b l = absurd h.uses
stops_here piece rest a b0 b1 b2 (Some x) (Some y) (Some z) some r h b l =
    let e : put piece x ≡ after h.front (record { taken = []; left = z; whole = false }) = h.uses ∙ ap (after h.front) (refused rest a y z some r l) in (
      x,
      record {
        adds = tells_map b0 b2 _ _ (bytes_then b0 b1 b2 h.front (taken a rest) h.adds b) (λ u v p. p ∙ ap (λ t. u ++ t) (ap (λ t. h.front ++ t) (nothing a rest r) ∙ sym (ap (λ q. q.taken) e)));
        uses = (refl, sym (ap (λ q. q.left) e));
        ends = sym (ap (λ q. q.whole) e);
      },
    )

-- a put takes a front of its piece, and the whole of it where it says so
pub record TakesFront (piece : List ℕ) (p : Put) : Type 0 where
  pub count : ℕ
  pub front : p.taken ≡ take count piece
  pub whole : IsTrue p.whole → p.taken ≡ piece

takes_front : (piece : List ℕ) (answers : List Answer) → TakesFront piece (put piece answers)
takes_front [] answers = record { count = 0; front = refl; whole = λ t. refl }
takes_front (b ∷ bs) [] = record { count = length (b ∷ bs); front = sym (take-length (b ∷ bs)); whole = λ t. refl }
takes_front (b ∷ bs) (Failed ∷ answers) = record { count = 0; front = refl; whole = λ t. cc }
takes_front (b ∷ bs) (Took zero ∷ answers) = record { count = 0; front = refl; whole = λ t. cc }
takes_front (b ∷ bs) (Took (suc k) ∷ answers) =
    let more = takes_front (drop (suc k) (b ∷ bs)) answers in
    record {
      count = suc k + more.count;
      front = ap (λ t. take (suc k) (b ∷ bs) ++ t) more.front ∙ sym (take-add (suc k) more.count (b ∷ bs));
      whole = λ t. ap (λ u. take (suc k) (b ∷ bs) ++ u) (more.whole t) ∙ take-append-drop (suc k) (b ∷ bs);
    }

pub front_of : (piece : List ℕ) (b0 b1 : Option (List ℕ)) (l0 l1 : Option (List Answer)) (w : Bool) → HasPut piece b0 b1 l0 l1 w →
    Tells b0 b1 (λ before after'. (k : ℕ) × (after' ≡ before ++ take k piece))
front_of piece b0 b1 l0 l1 w h =
    let t = takes_front piece h.0 in
    tells_map b0 b1 _ _ h.1.adds (λ x y p. (t.count, p ∙ ap (λ u. x ++ u) t.front))

pub whole_of : (piece : List ℕ) (b0 b1 : Option (List ℕ)) (l0 l1 : Option (List Answer)) (w : Bool) → HasPut piece b0 b1 l0 l1 w →
    IsTrue w → Tells b0 b1 (λ before after'. after' ≡ before ++ piece)
whole_of piece b0 b1 l0 l1 w h is =
    let t = takes_front piece h.0 in
    tells_map b0 b1 _ _ h.1.adds (λ x y p. p ∙ ap (λ u. x ++ u) (t.whole (subst IsTrue h.1.ends is)))
