-- Between which jumps those stand that have a jump in their spans: entries for each short jump, and then the least from each
-- jump on and the greatest up to each.
use Rattle.std.proofs.Common.{◌≡◌, ◌≢◌, ℕ, ◌+◌, ◌-◌, ◌<◌, ◌≤◌, List, length, Bool, true, false, refl, sym, ap, ◌∙◌, arith, ⊎_elim, slice_index, slice_index_or, slice_set}
use Rattle.std.specs.Prelude.{min, max, replicate}
use Rattle.std.proofs.Math.ListN.{length-set, length-replicate}
use Rattle.std.proofs.lemmas.Bool.{cases_lt, false≢true}
use Rattle.std.proofs.lemmas.List.{get_or-replicate}
use Rattle.sch_jumps.specs.Spans.{reach}
use Rattle.sch_jumps.proofs.Pressing.{set_number}

-- an index is the one that was written, or another
written_or_not : {P : Type 0} → (i e : ℕ) → (i ≡ e → P) → ((i ≢ e) → P) → P
written_or_not i e same other =
    ⊎_elim
    (λ (d : i < e). other (λ q. omega arith))
    (λ (d : e ≤ i). ⊎_elim (λ (f : e < i). other (λ q. omega arith)) (λ (f : i ≤ e). same (omega arith)) (cases_lt e i))
    (cases_lt i e)

-- ---- entries

-- For each of the first k jumps that is short there is an entry of at most its number where its span ends.
pub record FirstsUpTo (highs : List ℕ) (longs : List Bool) (k : ℕ) (t : List ℕ) : Type 0 where
  pub size : length t ≡ length longs
  pub entered : (i : ℕ) → i < k → slice_index_or longs i false ≡ false → slice_index t (slice_index highs i - 1) ≤ i
  pub close : (j : ℕ) → j < length longs → j ≤ slice_index t j + reach

-- For each of the first k jumps that is short there is an entry of more than its number where its span begins.
pub record LastsUpTo (lows : List ℕ) (longs : List Bool) (k : ℕ) (t : List ℕ) : Type 0 where
  pub size : length t ≡ length longs
  pub entered : (i : ℕ) → i < k → slice_index_or longs i false ≡ false → slice_index lows i < length longs → i < slice_index t (slice_index lows i)
  pub close : (j : ℕ) → j < length longs → slice_index t j ≤ j + reach

pub firsts_none : (highs : List ℕ) (longs : List Bool) (t : List ℕ) → t ≡ replicate (length longs) (length longs) → FirstsUpTo highs longs 0 t
firsts_none highs longs t e = record {
  size = ap length e ∙ length-replicate (length longs) (length longs);
  entered = λ i lt. absurd (omega arith);
  close = λ j lt. let a = get_or-replicate (length longs) j (length longs) 0 lt in let b = ap (λ l. slice_index l j) e in omega (arith, a, b);
}

module _ (highs : List ℕ) (longs : List Bool) (k : ℕ) (t : List ℕ) (h : FirstsUpTo highs longs k t) where
  pub firsts_long : slice_index_or longs k false ≡ true → FirstsUpTo highs longs (k + 1) t
  firsts_long long = record {
    size = h.size;
    entered = λ i lt short. written_or_not i k (λ q. absurd (false≢true (sym short ∙ (rw q long)))) (λ q. h.entered i (omega arith) short);
    close = h.close;
  }

  pub firsts_short : (e v : ℕ) → e ≡ slice_index highs k - 1 → v ≡ min (slice_index t e) k → k < length longs → k + 1 ≤ slice_index highs k → slice_index highs k ≤ length longs → slice_index highs k ≤ k + 1 + reach
      → FirstsUpTo highs longs (k + 1) (slice_set t e v)
  firsts_short e v p m lt high top narrow =
      let size = h.size in
      let inside : e < length t = omega arith in
      let here = (set_number t e e v inside).0 refl in
      let lower : (i : ℕ) → slice_index (slice_set t e v) i ≤ slice_index t i = λ i. written_or_not i e (λ q. rw q (omega (arith, here))) (λ q. let a = (set_number t e i v inside).1 q in omega (arith, a)) in
      record {
        size = length-set t e v ∙ size;
        entered = λ i lt short. written_or_not i k (λ q. rw (q, ← p, here) (omega arith)) (λ q. let a = h.entered i (omega arith) short in let b = lower (slice_index highs i - 1) in omega (arith, a, b));
        close = λ j lt. let s = set_number t e j v inside in written_or_not j e (λ q. let a = s.0 q in let b = h.close e (omega arith) in omega (arith, a, b)) (λ q. let a = s.1 q in let b = h.close j lt in omega (arith, a, b));
      }

pub lasts_none : (lows : List ℕ) (longs : List Bool) (t : List ℕ) → t ≡ replicate (length longs) 0 → LastsUpTo lows longs 0 t
lasts_none lows longs t e = record {
  size = ap length e ∙ length-replicate (length longs) 0;
  entered = λ i lt. absurd (omega arith);
  close = λ j lt. let a = get_or-replicate {A = ℕ} (length longs) j 0 0 lt in let b = ap (λ l. slice_index l j) e in omega (arith, a, b);
}

module _ (lows : List ℕ) (longs : List Bool) (k : ℕ) (t : List ℕ) (h : LastsUpTo lows longs k t) where
  pub lasts_other : ((slice_index_or longs k false ≡ false) → length longs ≤ slice_index lows k) → LastsUpTo lows longs (k + 1) t
  lasts_other other = record {
    size = h.size;
    entered = λ i lt short within. written_or_not i k (λ q. let a = other (rw q at short) in absurd (let b : slice_index lows k < length longs = rw q at within in omega (arith, a, b))) (λ q. h.entered i (omega arith) short within);
    close = h.close;
  }

  pub lasts_short : (v : ℕ) → v ≡ max (slice_index t (slice_index lows k)) (k + 1) → slice_index lows k < length longs → k + 1 ≤ slice_index lows k + reach → LastsUpTo lows longs (k + 1) (slice_set t (slice_index lows k) v)
  lasts_short v m within narrow =
      let e = slice_index lows k in
      let size = h.size in
      let inside : slice_index lows k < length t = omega arith in
      let here = (set_number t e e v inside).0 refl in
      let higher : (i : ℕ) → slice_index t i ≤ slice_index (slice_set t (slice_index lows k) v) i = λ i. written_or_not i e (λ q. rw q (omega (arith, here))) (λ q. let a = (set_number t e i v inside).1 q in omega (arith, a)) in
      record {
        size = length-set t e v ∙ size;
        entered = λ i lt short w. written_or_not i k (λ q. rw (q, here) (omega arith)) (λ q. let a = h.entered i (omega arith) short w in let b = higher (slice_index lows i) in omega (arith, a, b));
        close = λ j lt. let s = set_number t e j v inside in written_or_not j e (λ q. let a = s.0 q in let b = h.close e (omega arith) in omega (arith, a, b)) (λ q. let a = s.1 q in let b = h.close j lt in omega (arith, a, b));
      }

-- ---- minima and maxima

-- The last i numbers of a list are the least from each on, and `least` is that of all of them.
pub record MinimaFrom (old : List ℕ) (i least : ℕ) (t : List ℕ) : Type 0 where
  pub size : length t ≡ length old
  pub below : (j : ℕ) → length old ≤ j + i → j < length old → least ≤ slice_index old j
  pub low : length old ≤ least + reach + i
  pub done : (p j : ℕ) → length old ≤ p + i → p ≤ j → j < length old → slice_index t p ≤ slice_index old j
  pub close : (p : ℕ) → length old ≤ p + i → p < length old → p ≤ slice_index t p + reach
  pub same : (p : ℕ) → p + i < length old → slice_index t p ≡ slice_index old p

pub minima_none : (old : List ℕ) (least : ℕ) → least ≡ length old → MinimaFrom old 0 least old
minima_none old least e = record {
  size = refl;
  below = λ j from lt. absurd (omega arith);
  low = omega arith;
  done = λ p j from le lt. absurd (omega arith);
  close = λ p from lt. absurd (omega arith);
  same = λ p lt. refl;
}

pub minima_more : (old : List ℕ) (i least : ℕ) (t : List ℕ) (at v : ℕ) → MinimaFrom old i least t → i < length old → at + i + 1 ≡ length old → v ≡ min least (slice_index t at) → at ≤ slice_index old at + reach → MinimaFrom old (i + 1) v (slice_set t at v)
minima_more old i least t at v h lt place m close =
    let size = h.size in
    let low = h.low in
    let inside : at < length t = omega arith in
    let was = h.same at (omega arith) in
    let here = (set_number t at at v inside).0 refl in
    let below' : (j : ℕ) → length old ≤ j + (i + 1) → j < length old → v ≤ slice_index old j = λ j from within. written_or_not j at (λ q. rw q (omega (arith, was))) (λ q. let a = h.below j (omega arith) within in omega (arith, a)) in
    record {
      size = length-set t at v ∙ size;
      below = below';
      low = omega (arith, was);
      done = λ p j from le within. written_or_not p at (λ q. let a = below' j (omega arith) within in rw (q, here) a) (λ q. let s = (set_number t at p v inside).1 q in let a = h.done p j (omega arith) le within in omega (arith, s, a));
      close = λ p from within. written_or_not p at (λ q. let s = (set_number t at p v inside).0 q in omega (arith, was, s)) (λ q. let s = (set_number t at p v inside).1 q in let a = h.close p (omega arith) within in omega (arith, s, a));
      same = λ p lt'. (set_number t at p v inside).1 (λ q. omega arith) ∙ h.same p (omega arith);
    }

-- The first i numbers of a list are the greatest up to each, and `greatest` is that of all of them.
pub record MaximaUpTo (old : List ℕ) (i greatest : ℕ) (t : List ℕ) : Type 0 where
  pub size : length t ≡ length old
  pub above : (j : ℕ) → j < i → slice_index old j ≤ greatest
  pub high : greatest ≤ i + reach
  pub done : (j p : ℕ) → j ≤ p → p < i → slice_index old j ≤ slice_index t p
  pub close : (p : ℕ) → p < i → slice_index t p ≤ p + reach
  pub same : (p : ℕ) → i ≤ p → slice_index t p ≡ slice_index old p

pub maxima_none : (old : List ℕ) → MaximaUpTo old 0 0 old
maxima_none old = record {
  size = refl;
  above = λ j lt. absurd (omega arith);
  high = omega arith;
  done = λ j p le lt. absurd (omega arith);
  close = λ p lt. absurd (omega arith);
  same = λ p le. refl;
}

pub maxima_more : (old : List ℕ) (i greatest : ℕ) (t : List ℕ) (v : ℕ) → MaximaUpTo old i greatest t → i < length old → v ≡ max greatest (slice_index t i) → slice_index old i ≤ i + reach → MaximaUpTo old (i + 1) v (slice_set t i v)
maxima_more old i greatest t v h lt m close =
    let size = h.size in
    let high = h.high in
    let inside : i < length t = omega arith in
    let was = h.same i (omega arith) in
    let here = (set_number t i i v inside).0 refl in
    let above' : (j : ℕ) → j < i + 1 → slice_index old j ≤ v = λ j lt'. written_or_not j i (λ q. rw q (omega (arith, was))) (λ q. let a = h.above j (omega arith) in omega (arith, a)) in
    record {
      size = length-set t i v ∙ size;
      above = above';
      high = omega (arith, was);
      done = λ j p le lt'. written_or_not p i (λ q. let a = above' j (omega arith) in rw (q, here) a) (λ q. let s = (set_number t i p v inside).1 q in let a = h.done j p le (omega arith) in omega (arith, s, a));
      close = λ p lt'. written_or_not p i (λ q. let s = (set_number t i p v inside).0 q in omega (arith, was, s)) (λ q. let s = (set_number t i p v inside).1 q in let a = h.close p (omega arith) in omega (arith, s, a));
      same = λ p le. (set_number t i p v inside).1 (λ q. omega arith) ∙ h.same p (omega arith);
    }
