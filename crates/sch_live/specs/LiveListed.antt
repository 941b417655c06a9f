-- What is live after each call, as a function of the tree. There is no other answer, as a set is its members.
use Rattle.std.specs.Prelude.{ℕ, Bool, true, false, not, cond, nat_eq, ◌&&◌, ◌||◌, List, filter}
use Rattle.sch_word.specs.trees.Bindings.{numbers}
use Rattle.sch_word.specs.trees.NumberSets.{has}
use Rattle.sch_control.specs.Tree.{Expression, perform, bind, sequence, branch, fix, call, tail_call, return, end, save}
use Rattle.sch_control.specs.flow.LiveTests.{is_live, Behind}
use Rattle.sch_live.specs.Reached.{gives}

-- the first variables that are live behind an expression, whatever its value, where a path comes to it
abbrev pub live_behind : (variables : ℕ) → (reached : Bool) → Behind → List ℕ
live_behind variables reached l = filter (λ x. reached && (l x true || l x false)) (numbers 0 variables)

-- Each call has what is live after it, and nothing where no path comes. `l` has what is live behind the expression.
abbrev pub listing_live : (variables : ℕ) → (reached : Bool) → Expression → Behind → Expression
listing_live n reached (perform o) l = perform o
listing_live n reached (bind y a b) l =
    bind y (listing_live n reached a (λ x r. not (nat_eq x y) && is_live x b (l x))) (listing_live n reached b l)
listing_live n reached (sequence a b) l = sequence (listing_live n reached a (λ x r. is_live x b (l x))) (listing_live n reached b l)
listing_live n reached (branch a b c) l =
    branch (listing_live n reached a (λ x r. cond r (is_live x b (l x)) (is_live x c (l x))))
    (listing_live n (reached && gives a true) b l) (listing_live n (reached && gives a false) c l)
listing_live n reached (fix members e) l = fix members (listing_live n reached e l)
listing_live n reached (call a listed) l = call a (live_behind n reached l)
listing_live n reached (tail_call a) l = tail_call a
listing_live n reached (return e) l = return (listing_live n reached e (λ x r. nat_eq x 0))
listing_live n reached (end e) l = end (listing_live n reached e (λ x r. false))
listing_live n reached (save saves e) l = save saves (listing_live n reached e l)

-- a whole body, behind which nothing is live
abbrev pub live_listed : (variables : ℕ) → Expression → Expression
live_listed variables e = listing_live variables true e (λ x r. false)

-- ## Sets as lists

-- those of the first variables that are listed, in the order of their numbers
abbrev pub in_order : (variables : ℕ) → List ℕ → List ℕ
in_order variables listed = filter (λ x. has x listed) (numbers 0 variables)

-- so it is at each call
abbrev pub lists_in_order : (variables : ℕ) → Expression → Expression
lists_in_order n (perform o) = perform o
lists_in_order n (bind y a b) = bind y (lists_in_order n a) (lists_in_order n b)
lists_in_order n (sequence a b) = sequence (lists_in_order n a) (lists_in_order n b)
lists_in_order n (branch a b c) = branch (lists_in_order n a) (lists_in_order n b) (lists_in_order n c)
lists_in_order n (fix members e) = fix members (lists_in_order n e)
lists_in_order n (call a listed) = call a (in_order n listed)
lists_in_order n (tail_call a) = tail_call a
lists_in_order n (return e) = return (lists_in_order n e)
lists_in_order n (end e) = end (lists_in_order n e)
lists_in_order n (save saves e) = save saves (lists_in_order n e)
