-- How the code joins tokens to data: one after another, with a stack of what is open. No public clause
-- cites this; it is proved to give the grammar's data and the first fault.
use Rattle.std.specs.Prelude.{ℕ, zero, suc, Bool, true, false, List, [], ◌∷◌, Result, Ok, Err}
use Rattle.sch_word.specs.values.Options.{when_ok}
use Rattle.sch_read.specs.Grammar.{Token, Open, Close, Dot, Plain, Huge, Bad, Opener, parenthesis, hash_parenthesis, quote_mark, bad_token, Datum, Data, atom, list, vector, none}
use Rattle.sch_read.specs.Grammar.{cons, join, one, quoted, with_tail}
use Rattle.sch_read.specs.Fault.{Fault, Unclosed, StrayClose, DeepNesting, LiteralRange, Flawed}

pub data Frame : Type 0 where
  -- a list with its items so far
  Items : ℕ → Data → Frame
  -- a list after its dot
  AfterDot : ℕ → Data → Frame
  -- a list with the datum after its dot
  Tail : ℕ → Data → Datum → Frame
  -- a vector with its elements so far
  Elements : ℕ → Data → Frame
  -- a quote that waits for its datum
  Waiting : ℕ → Frame

-- whether it is a list with the datum after its dot
abbrev pub is_tail : Frame → Bool
is_tail (Tail at xs d) = true
is_tail _ = false

-- whether it takes one datum after another, and it with one datum more
abbrev pub is_row : Frame → Bool
is_row (Items at xs) = true
is_row (Elements at xs) = true
is_row _ = false

abbrev pub with_item : Frame → Datum → Frame
with_item (Items at xs) d = Items at (join xs (one d))
with_item (Elements at xs) d = Elements at (join xs (one d))
with_item f d = f

-- whether it is a quote that waits
abbrev pub is_waiting : Frame → Bool
is_waiting (Waiting at) = true
is_waiting _ = false

-- it after a datum was put into it; a quote has other rules
abbrev pub with_datum : Frame → Datum → Frame
with_datum (AfterDot at xs) d = Tail at xs d
with_datum f d = with_item f d

-- whether the innermost is a list with the datum after its dot
abbrev pub is_behind_tail : List Frame → Bool
is_behind_tail [] = false
is_behind_tail (f ∷ fs) = is_tail f

-- whether a datum may begin with a token
abbrev pub begins : Token → Bool
begins (Open at o) = true
begins (Plain at a) = true
begins _ = false

-- what is open, the innermost first; the data before; and how many levels may still be opened
pub record State : Type 0 where
  pub spare : ℕ
  pub open_ : List Frame
  pub top : Data

-- a datum is whole
abbrev pub put : ℕ → Datum → List Frame → Data → State
put n d [] top = record { spare = n; open_ = []; top = join top (one d) }
put n d (Items at xs ∷ fs) top = record { spare = n; open_ = Items at (join xs (one d)) ∷ fs; top = top }
put n d (AfterDot at xs ∷ fs) top = record { spare = n; open_ = Tail at xs d ∷ fs; top = top }
put n d (Tail at xs last ∷ fs) top = record { spare = n; open_ = Tail at xs last ∷ fs; top = top }
put n d (Elements at xs ∷ fs) top = record { spare = n; open_ = Elements at (join xs (one d)) ∷ fs; top = top }
put n d (Waiting at ∷ fs) top = put (suc n) (quoted at d) fs top

abbrev pub opened_frame : ℕ → Opener → Frame
opened_frame at parenthesis = Items at none
opened_frame at hash_parenthesis = Elements at none
opened_frame at quote_mark = Waiting at

-- a token where a datum may begin
abbrev pub start : ℕ → List Frame → Data → Token → Result State Fault
start n fs top (Plain at a) = Ok (put n (atom at a) fs top)
start zero fs top (Open at o) = Err (DeepNesting at)
start (suc n) fs top (Open at o) = Ok (record { spare = n; open_ = opened_frame at o ∷ fs; top = top })
start n fs top (Close at) = Err (Flawed at bad_token)
start n fs top (Dot at) = Err (Flawed at bad_token)
start n fs top (Huge at) = Err (LiteralRange at)
start n fs top (Bad at flaw) = Err (Flawed at flaw)

abbrev pub at_top : ℕ → Data → Token → Result State Fault
at_top n top (Close p) = Err (StrayClose p)
at_top n top t = start n [] top t

abbrev pub read_dot : ℕ → ℕ → Data → List Frame → Data → ℕ → Result State Fault
read_dot n at none fs top p = Err (Flawed p bad_token)
read_dot n at (cons x xs) fs top p = Ok (record { spare = n; open_ = AfterDot at (cons x xs) ∷ fs; top = top })

abbrev pub in_list : ℕ → ℕ → Data → List Frame → Data → Token → Result State Fault
in_list n at xs fs top (Close p) = Ok (put (suc n) (list at xs) fs top)
in_list n at xs fs top (Dot p) = read_dot n at xs fs top p
in_list n at xs fs top t = start n (Items at xs ∷ fs) top t

-- a list with its datum after the dot closes; behind the dot of another list it is more of that list
abbrev pub shut : ℕ → ℕ → Data → Datum → List Frame → Data → State
shut n at xs last [] top = put (suc n) (with_tail at xs last) [] top
shut n at xs last (Items p ys ∷ fs) top = put (suc n) (with_tail at xs last) (Items p ys ∷ fs) top
shut n at xs last (AfterDot p ys ∷ fs) top = record { spare = suc n; open_ = Tail p (join ys xs) last ∷ fs; top = top }
shut n at xs last (Tail p ys d ∷ fs) top = put (suc n) (with_tail at xs last) (Tail p ys d ∷ fs) top
shut n at xs last (Elements p ys ∷ fs) top = put (suc n) (with_tail at xs last) (Elements p ys ∷ fs) top
shut n at xs last (Waiting p ∷ fs) top = put (suc n) (with_tail at xs last) (Waiting p ∷ fs) top

abbrev pub in_tail : ℕ → ℕ → Data → Datum → List Frame → Data → Token → Result State Fault
in_tail n at xs last fs top (Close p) = Ok (shut n at xs last fs top)
in_tail n at xs last fs top (Open p o) = Err (Flawed p bad_token)
in_tail n at xs last fs top (Dot p) = Err (Flawed p bad_token)
in_tail n at xs last fs top (Plain p a) = Err (Flawed p bad_token)
in_tail n at xs last fs top (Huge p) = Err (Flawed p bad_token)
in_tail n at xs last fs top (Bad p flaw) = Err (Flawed p flaw)

abbrev pub in_vector : ℕ → ℕ → Data → List Frame → Data → Token → Result State Fault
in_vector n at xs fs top (Close p) = Ok (put (suc n) (vector at xs) fs top)
in_vector n at xs fs top t = start n (Elements at xs ∷ fs) top t

abbrev pub step : ℕ → List Frame → Data → Token → Result State Fault
step n [] top t = at_top n top t
step n (Items at xs ∷ fs) top t = in_list n at xs fs top t
step n (AfterDot at xs ∷ fs) top t = start n (AfterDot at xs ∷ fs) top t
step n (Tail at xs last ∷ fs) top t = in_tail n at xs last fs top t
step n (Elements at xs ∷ fs) top t = in_vector n at xs fs top t
step n (Waiting at ∷ fs) top t = start n (Waiting at ∷ fs) top t

abbrev pub place_of : Frame → ℕ
place_of (Items at xs) = at
place_of (AfterDot at xs) = at
place_of (Tail at xs last) = at
place_of (Elements at xs) = at
place_of (Waiting at) = at

abbrev pub finish : List Frame → Data → Result Data Fault
finish [] top = Ok top
finish (f ∷ fs) top = Err (Unclosed (place_of f))

-- what the tokens give
abbrev pub run : ℕ → List Frame → Data → List Token → Result Data Fault
run n fs top [] = finish fs top
run n fs top (t ∷ ts) = when_ok (step n fs top t) (λ s. run s.spare s.open_ s.top ts)

abbrev pub runs : State → List Token → Result Data Fault
runs s ts = run s.spare s.open_ s.top ts
