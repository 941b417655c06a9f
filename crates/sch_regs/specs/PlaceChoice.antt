-- Where each variable of a body lives: the first of six registers that holds nothing live, or else a slot of its own.
use Rattle.std.specs.Prelude.{ℕ, zero, suc, Bool, false, ◌||◌, ◌&&◌, not, cond, nat_eq, List, [], ◌∷◌, ◌++◌, map, filter, Option}
use Rattle.sch_word.specs.trees.Bindings.{numbers}
use Rattle.sch_word.specs.trees.NumberSets.{has}
use Rattle.sch_word.specs.declared.place.Place.{Place}
use Rattle.sch_word.specs.declared.place.Place.TheVariants.{Reg, Slot}
use Rattle.sch_word.specs.values.Registers.{argument_registers}
use Rattle.sch_control.specs.declared.body.Entry.{Entry}
use Rattle.sch_control.specs.declared.operation.Member.{Member}
use Rattle.sch_control.specs.AtomsAndSites.{member_atoms}
use Rattle.sch_control.specs.Tree.{Expression, perform, bind, sequence, branch, fix, call, tail_call, return, end, save}
use Rattle.sch_control.specs.Valid.{member_variables}
use Rattle.sch_control.specs.flow.Live.{named}
use Rattle.sch_word.specs.values.Places.{is_slot, link_place, closure_place, same_place}
use Rattle.sch_control.specs.flow.Places.{arrival, formals_of}
use Rattle.sch_control.specs.flow.LiveTests.{is_live, Behind}

-- ## Tables

-- the variables that have a place, the newest first
abbrev pub Table : Type 0
Table = List (ℕ × Place)

abbrev pub placed : Table → List ℕ
placed [] = []
placed (w ∷ t) = w.0 ∷ placed t

-- the place of a variable; a number that is bound nowhere counts as being in the first register, which takes no slot
abbrev pub place_in : Table → ℕ → Place
place_in [] x = arrival 0
place_in (w ∷ t) x = cond (nat_eq x w.0) w.1 (place_in t x)

-- how many of them have a slot
abbrev pub slots : Table → ℕ
slots [] = 0
slots (w ∷ t) = cond (is_slot w.1) (suc (slots t)) (slots t)

-- the places of the first `count` variables, in the order of their numbers
abbrev pub in_order : (count : ℕ) → Table → List Place
in_order count t = map (place_in t) (numbers 0 count)

-- ## The choice

-- A variable that is live is in that register, by some entry. The table of a body has one entry for each variable.
abbrev pub held : (live : ℕ → Bool) → Table → (register : ℕ) → Bool
held live [] r = false
held live (w ∷ t) r = (live w.0 && same_place w.1 (Reg r)) || held live t r

-- the first register that holds no live variable, or else the next slot
abbrev pub first_free : (live : ℕ → Bool) → Table → (registers : List ℕ) → Place
first_free live t [] = Slot (slots t)
first_free live t (r ∷ registers) = cond (held live t r) (first_free live t registers) (Reg r)

abbrev pub choose : (live : ℕ → Bool) → ℕ → Table → Table
choose live y t = (y, first_free live t argument_registers) ∷ t

abbrev pub choose_each : (live : ℕ → Bool) → List ℕ → Table → Table
choose_each live [] t = t
choose_each live (y ∷ ys) t = choose_each live ys (choose live y t)

-- of a group those come first that are live, so that none of them shares a register with one that is not
abbrev pub live_first : (live : ℕ → Bool) → List ℕ → List ℕ
live_first live ys = filter live ys ++ filter (λ y. not (live y)) ys

-- what is live as the members of a group are in their places: what their fields are, and what is live behind the group
abbrev pub around : List (Member ℕ) → (live : ℕ → Bool) → ℕ → Bool
around members live x = has x (named (member_atoms members)) || live x

-- ## Bodies

-- a table with the places of the variables that an expression binds, in the order of the tree, by what is live directly after each binding
abbrev pub assign : Expression → Behind → Table → Table
assign (perform o) l t = t
assign (bind y a b) l t = assign b l (choose (λ x. is_live x b (l x)) y (assign a (λ x r. not (nat_eq x y) && is_live x b (l x)) t))
assign (sequence a b) l t = assign b l (assign a (λ x r. is_live x b (l x)) t)
assign (branch a b c) l t = assign c l (assign b l (assign a (λ x r. cond r (is_live x b (l x)) (is_live x c (l x))) t))
assign (fix members e) l t =
    let live : ℕ → Bool = around members (λ x. is_live x e (l x)) in
    assign e l (choose_each live (live_first live (member_variables members)) t)
assign (call a restores) l t = t
assign (tail_call a) l t = t
assign (return e) l t = assign e (λ x r. nat_eq x 0) t
assign (end e) l t = assign e (λ x r. false) t
assign (save saves e) l t = assign e l t

-- a number of formals, the closure and the return address where they arrive
abbrev pub arrived : (formals : ℕ) → Table
arrived zero = (1, closure_place) ∷ (0, link_place) ∷ []
arrived (suc n) = (suc (suc n), arrival n) ∷ arrived n

-- nothing is live behind a body
abbrev pub nothing_behind : Behind
nothing_behind x r = false

-- where each variable of a body lives
abbrev pub table_of : Option Entry → Expression → Table
table_of entry e = assign e nothing_behind (arrived (formals_of entry))

-- the places of a body's variables, in the order of their numbers
abbrev pub places : Option Entry → (variables : ℕ) → Expression → List Place
places entry variables e = in_order variables (table_of entry e)
