-- Places from noted sets: for each variable that is bound, what is live directly after its binding. A group is noted under its
-- first member.
use Rattle.std.specs.Prelude.{◌≡◌, ℕ, Bool, true, false, not, nat_eq, ◌&&◌, cond, List, [], ◌∷◌}
use Rattle.sch_word.specs.trees.NumberSets.{has}
use Rattle.sch_word.specs.values.Options.{first_or_0}
use Rattle.sch_control.specs.Tree.{Expression, perform, bind, sequence, branch, fix, call, tail_call, return, end, save}
use Rattle.sch_control.specs.Valid.{member_variables}
use Rattle.sch_control.specs.flow.LiveTests.{is_live, Behind}
use Rattle.sch_regs.specs.PlaceChoice.{Table, choose, choose_each, live_first, around}

-- a set for each variable
abbrev pub Noted : Type 0
Noted = (under : ℕ) → ℕ → Bool

-- the places of what an expression binds
abbrev pub assign_noted : Noted → Expression → Table → Table
assign_noted noted (perform o) t = t
assign_noted noted (bind y a b) t = assign_noted noted b (choose (noted y) y (assign_noted noted a t))
assign_noted noted (sequence a b) t = assign_noted noted b (assign_noted noted a t)
assign_noted noted (branch a b c) t = assign_noted noted c (assign_noted noted b (assign_noted noted a t))
assign_noted noted (fix members e) t =
    let ys : List ℕ = member_variables members in
    assign_noted noted e (choose_each (noted (first_or_0 ys)) (live_first (noted (first_or_0 ys)) ys) t)
assign_noted noted (call a restores) t = t
assign_noted noted (tail_call a) t = t
assign_noted noted (return e) t = assign_noted noted e t
assign_noted noted (end e) t = assign_noted noted e t
assign_noted noted (save saves e) t = assign_noted noted e t

-- what is noted is what is live there
abbrev pub IsNoted : Noted → Expression → Behind → Type 0
IsNoted noted (perform o) l = Unit {0}
IsNoted noted (bind y a b) l =
    ((x : ℕ) → noted y x ≡ is_live x b (l x))
    × (IsNoted noted a (λ x r. not (nat_eq x y) && is_live x b (l x)) × IsNoted noted b l)
IsNoted noted (sequence a b) l = IsNoted noted a (λ x r. is_live x b (l x)) × IsNoted noted b l
IsNoted noted (branch a b c) l =
    IsNoted noted a (λ x r. cond r (is_live x b (l x)) (is_live x c (l x))) × (IsNoted noted b l × IsNoted noted c l)
IsNoted noted (fix members e) l =
    ((y : ℕ) → has y (member_variables members) ≡ true
    → (x : ℕ) → noted (first_or_0 (member_variables members)) x ≡ around members (λ x. is_live x e (l x)) x) × IsNoted noted e l
IsNoted noted (call a restores) l = Unit {0}
IsNoted noted (tail_call a) l = Unit {0}
IsNoted noted (return e) l = IsNoted noted e (λ x r. nat_eq x 0)
IsNoted noted (end e) l = IsNoted noted e (λ x r. false)
IsNoted noted (save saves e) l = IsNoted noted e l

-- ## One walk from the end: what is live behind is handed in, and each set is noted as it is found

abbrev pub put : ℕ → (ℕ → Bool) → Noted → Noted
put y live n z = cond (nat_eq z y) live (n z)

abbrev pub put_group : List ℕ → (ℕ → Bool) → Noted → Noted
put_group [] live n = n
put_group (y ∷ ys) live n = put y live n

abbrev pub note : Expression → Behind → Noted → Noted
note (perform o) l n = n
note (bind y a b) l n = note a (λ x r. not (nat_eq x y) && is_live x b (l x)) (put y (λ x. is_live x b (l x)) (note b l n))
note (sequence a b) l n = note a (λ x r. is_live x b (l x)) (note b l n)
note (branch a b c) l n = note a (λ x r. cond r (is_live x b (l x)) (is_live x c (l x))) (note b l (note c l n))
note (fix members e) l n = put_group (member_variables members) (around members (λ x. is_live x e (l x))) (note e l n)
note (call a restores) l n = n
note (tail_call a) l n = n
note (return e) l n = note e (λ x r. nat_eq x 0) n
note (end e) l n = note e (λ x r. false) n
note (save saves e) l n = note e l n
