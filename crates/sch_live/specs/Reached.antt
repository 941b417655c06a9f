-- Calls to which some path comes.
use Rattle.std.specs.Prelude.{Bool, true, false, cond, not, ◌&&◌, ◌||◌, [], Option, Some, None}
use Rattle.sch_control.specs.Tree.{Expression, perform, bind, sequence, branch, fix, call, tail_call, return, end, save}
use Rattle.sch_control.specs.flow.Live.{known}

-- a result is possible, by what is known of it
abbrev pub may_be : Option Bool → Bool → Bool
may_be None r = true
may_be (Some true) r = r
may_be (Some false) r = not r

-- whether some way through an expression gives a value of that result
abbrev pub gives : Expression → (result : Bool) → Bool
gives (perform o) r = may_be (known o) r
gives (bind y a b) r = gives b r
gives (sequence a b) r = gives b r
gives (branch a b c) r = (gives a true && gives b r) || (gives a false && gives c r)
gives (fix members e) r = gives e r
gives (call a listed) r = true
gives (tail_call a) r = true
gives (return e) r = true
gives (end e) r = true
gives (save saves e) r = gives e r

-- nothing is listed at calls to which no path comes; `reached` says whether one comes to the expression
abbrev pub where_reached : (reached : Bool) → Expression → Expression
where_reached reached (perform o) = perform o
where_reached reached (bind x a b) = bind x (where_reached reached a) (where_reached reached b)
where_reached reached (sequence a b) = sequence (where_reached reached a) (where_reached reached b)
where_reached reached (branch a b c) =
    branch (where_reached reached a) (where_reached (reached && gives a true) b) (where_reached (reached && gives a false) c)
where_reached reached (fix members e) = fix members (where_reached reached e)
where_reached reached (call a listed) = call a (cond reached listed [])
where_reached reached (tail_call a) = tail_call a
where_reached reached (return e) = return (where_reached reached e)
where_reached reached (end e) = end (where_reached reached e)
where_reached reached (save saves e) = save saves (where_reached reached e)
