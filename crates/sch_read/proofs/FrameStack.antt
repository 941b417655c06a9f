-- The stack, whose innermost frame is the last.
use Rattle.std.proofs.Common.{◌≡◌, zero, suc, true, false, length, get_or, set, sym, arith, List, [], ◌∷◌, ◌++◌, refl, ap, ◌∙◌, ℕ, Ok}
use Rattle.std.specs.Prelude.{map, reverse}
use Rattle.std.proofs.lemmas.List.{map-append, reverse-append, reverse-reverse}
use Rattle.sch_read.specs.Grammar.{Data, Datum, Token, Open, Close, Dot, Plain, Huge, Bad, join}
use Rattle.sch_read.specs.Parser.Stack as machine
use Rattle.sch_read.specs.Parser.Stack.{State, begins, is_behind_tail, is_row, is_waiting, put, read_dot, start, step, with_datum, with_item}
use Rattle.sch_read.specs.Views.{data_of}
use Rattle.sch_read.specs.Parser.StackView.{stack_of, frame_of}
use Rattle.sch_read.proofs.DataLists.{data_of_append}
use Rattle.sch_read.specs.declared.datum.Datum as code
use Rattle.sch_read.specs.declared.parser.Frame.{Frame}

pub stack_of_push : (fs : List Frame) (f : Frame) → stack_of (fs ++ f ∷ []) ≡ frame_of f ∷ stack_of fs
stack_of_push fs f = ap reverse (map-append frame_of fs (f ∷ [])) ∙ reverse-append (map frame_of fs) (frame_of f ∷ [])

-- a dot after at least one item
pub read_dot_some : (items : List code.Datum) (n at : ℕ) (fs : List machine.Frame) (top : Data) (p : ℕ) → (items ≡ [] → ⊥) →
    read_dot n at (data_of items) fs top p ≡ Ok (record { spare = n; open_ = machine.AfterDot at (data_of items) ∷ fs; top = top })
read_dot_some [] n at fs top p h = absurd (h refl)
read_dot_some (x ∷ xs) n at fs top p h = refl

-- data in reverse behind data in reverse
pub reversed_data : (before items : List code.Datum) → data_of (reverse (items ++ reverse before)) ≡ join (data_of before) (data_of (reverse items))
reversed_data before items = ap data_of (reverse-append items (reverse before) ∙ ap (λ v. v ++ reverse items) (reverse-reverse before)) ∙ data_of_append before (reverse items)

-- a token with which a datum may begin starts one, but behind the datum after a dot
pub step_begins : (n : ℕ) (fs : List machine.Frame) (top : Data) (t : Token) → begins t ≡ true → is_behind_tail fs ≡ false → step n fs top t ≡ start n fs top t
step_begins n fs top (Close p) b h = cc
step_begins n fs top (Dot p) b h = cc
step_begins n fs top (Huge p) b h = cc
step_begins n fs top (Bad p flaw) b h = cc
step_begins n [] top (Open p o) b h = refl
step_begins n (machine.Items at xs ∷ fs) top (Open p o) b h = refl
step_begins n (machine.AfterDot at xs ∷ fs) top (Open p o) b h = refl
step_begins n (machine.Elements at xs ∷ fs) top (Open p o) b h = refl
step_begins n (machine.Waiting at ∷ fs) top (Open p o) b h = refl
step_begins n (machine.Tail at xs d ∷ fs) top (Open p o) b h = cc
step_begins n [] top (Plain p a) b h = refl
step_begins n (machine.Items at xs ∷ fs) top (Plain p a) b h = refl
step_begins n (machine.AfterDot at xs ∷ fs) top (Plain p a) b h = refl
step_begins n (machine.Elements at xs ∷ fs) top (Plain p a) b h = refl
step_begins n (machine.Waiting at ∷ fs) top (Plain p a) b h = refl
step_begins n (machine.Tail at xs d ∷ fs) top (Plain p a) b h = cc

-- a datum goes into the innermost row
pub put_row : (n : ℕ) (d : Datum) (f : machine.Frame) (fs : List machine.Frame) (top : Data) → is_row f ≡ true →
    put n d (f ∷ fs) top ≡ record { spare = n; open_ = with_item f d ∷ fs; top = top }
put_row n d (machine.Items at xs) fs top h = refl
put_row n d (machine.Elements at xs) fs top h = refl
put_row n d (machine.AfterDot at xs) fs top h = cc
put_row n d (machine.Waiting at) fs top h = cc
put_row n d (machine.Tail at xs last) fs top h = cc

-- a datum goes into a frame that is no quote
pub put_into : (n : ℕ) (d : Datum) (f : machine.Frame) (fs : List machine.Frame) (top : Data) → is_waiting f ≡ false →
    put n d (f ∷ fs) top ≡ record { spare = n; open_ = with_datum f d ∷ fs; top = top }
put_into n d (machine.Items at xs) fs top h = refl
put_into n d (machine.Elements at xs) fs top h = refl
put_into n d (machine.AfterDot at xs) fs top h = refl
put_into n d (machine.Tail at xs last) fs top h = refl
put_into n d (machine.Waiting at) fs top h = cc

-- the innermost frame apart, and with another in its place
last_apart : (fs : List Frame) (i : ℕ) (x : Frame) → suc i ≡ length fs → (front : List Frame) × ((fs ≡ front ++ get_or fs i x ∷ []) × ((f : Frame) → set fs i f ≡ front ++ f ∷ []))
last_apart [] i x e = absurd (omega (arith, e))
last_apart (f ∷ []) zero x e = ([], (refl, λ g. refl))
last_apart (f ∷ []) (suc i) x e = absurd (omega (arith, e))
last_apart (f ∷ g ∷ fs) zero x e = absurd (omega (arith, e))
last_apart (f ∷ g ∷ fs) (suc i) x e =
    let r = last_apart (g ∷ fs) i x (omega (arith, e)) in
    (f ∷ r.0, (ap (λ l. f ∷ l) r.1.0, λ h. ap (λ l. f ∷ l) (r.1.1 h)))

-- a datum goes into the innermost frame where it lies
pub put_innermost : (n : ℕ) (d : Datum) (fs : List Frame) (i : ℕ) (old new : Frame) (top : Data) → suc i ≡ length fs → old ≡ get_or fs i old →
    is_row (frame_of old) ≡ true → frame_of new ≡ with_item (frame_of old) d →
    record { spare = n; open_ = stack_of (set fs i new); top = top } ≡ put n d (stack_of fs) top
put_innermost n d fs i old new top e o h w =
    let r = last_apart fs i old e in
    let whole : stack_of fs ≡ frame_of old ∷ stack_of r.0 = ap stack_of (r.1.0 ∙ ap (λ f. r.0 ++ f ∷ []) (sym o)) ∙ stack_of_push r.0 old in
    let after : stack_of (set fs i new) ≡ with_item (frame_of old) d ∷ stack_of r.0 = ap stack_of (r.1.1 new) ∙ stack_of_push r.0 new ∙ ap (λ f. f ∷ stack_of r.0) w in
    ap (λ s. record { spare = n; open_ = s; top = top }) after ∙ sym (put_row n d (frame_of old) (stack_of r.0) top h) ∙ ap (λ s. put n d s top) (sym whole)
