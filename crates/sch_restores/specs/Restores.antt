-- Which variables each call restores: of those that a region round it saves and that are live after it, those that are wanted
-- before the next call.
use Rattle.std.specs.Prelude.{◌≡◌, ℕ, Bool, true, false, not, nat_eq, ◌&&◌, ◌||◌, cond, List, filter}
use Rattle.sch_word.specs.trees.NumberSets.{has}
use Rattle.sch_word.specs.trees.Bindings.{numbers}
use Rattle.sch_control.specs.Meaning.{World, Environment, Callee, plain, do_body, no_region, with_region}
use Rattle.sch_control.specs.Tree.{Expression, perform, bind, sequence, branch, fix, call, tail_call, return, end, save}
use Rattle.sch_control.specs.flow.LiveTests.{is_soon, Behind}
use Rattle.sch_control.specs.flow.Middle.{restoring}

-- those of the first variables that are live and saved, and wanted soon where the value is true or where it is `#f`
abbrev pub wanted : (variables : ℕ) → (live inside : ℕ → Bool) → (soon : Behind) → List ℕ
wanted variables live inside soon = filter (λ x. live x && (inside x && (soon x true || soon x false))) (numbers 0 variables)

-- Each call has, in place of what is live after it, those of that that it restores. `inside` has the variables of the regions
-- round the expression, and `soon` those that are wanted behind it before the next call.
abbrev pub eager : (variables : ℕ) → (inside : ℕ → Bool) → Expression → (soon : Behind) → Expression
eager n inside (perform o) soon = perform o
eager n inside (bind y a b) soon =
    bind y (eager n inside a (λ x t. not (nat_eq x y) && is_soon x b (soon x))) (eager n inside b soon)
eager n inside (sequence a b) soon = sequence (eager n inside a (λ x t. is_soon x b (soon x))) (eager n inside b soon)
eager n inside (branch a b c) soon =
    branch (eager n inside a (λ x t. cond t (is_soon x b (soon x)) (is_soon x c (soon x)))) (eager n inside b soon) (eager n inside c soon)
eager n inside (fix members e) soon = fix members (eager n inside e soon)
eager n inside (call a live) soon = call a (wanted n (λ x. has x live) inside soon)
eager n inside (tail_call a) soon = tail_call a
eager n inside (return e) soon = return (eager n inside e (λ x t. nat_eq x 0))
eager n inside (end e) soon = end (eager n inside e (λ x t. false))
eager n inside (save saves e) soon = save saves (eager n (with_region saves inside) e soon)

-- a whole body, behind which nothing is wanted
abbrev pub eagerly_restored : (variables : ℕ) → Expression → Expression
eagerly_restored variables e = eager variables no_region e (λ x t. false)

-- Where a call leaves no value in a variable but in what it restores, the second body does what the first does where a call
-- leaves all of them; with any callees.
abbrev pub RestoresSuffice : Expression → Expression → Type 0
RestoresSuffice e e' =
    (callee : Callee) (depth : ℕ) (environment : Environment) (w : World)
    → do_body plain callee depth e environment w ≡ do_body restoring callee depth e' environment w
