-- Read plainly, a body does the same with its regions and its lists as without them.
use Rattle.std.proofs.Common.{◌≡◌, ℕ, Bool, true, subst}
use Rattle.sch_control.specs.Meaning.{plain, do_body, no_region, with_region}
use Rattle.sch_control.specs.Tree.{Expression, perform, bind, sequence, branch, fix, call, tail_call, return, end, save, Code}
use Rattle.sch_control.specs.Valid.{in_scope_whole, numbered}
use Rattle.sch_control.specs.flow.Bare.{erased}
use Rattle.sch_control.specs.flow.Live.{Later, nothing_later}
use Rattle.sch_control.specs.flow.Middle.{silent}
use Rattle.sch_paths.specs.Conditions.{Saved, Restored}
use Rattle.sch_paths.specs.PlainlySame.{PlainlySame}
use Rattle.sch_paths.proofs.runs.RestoresAreEnough.{valid_fresh}
use Rattle.sch_paths.proofs.runs.SameWithoutMarks.{silently}

kept_saved : (e : Expression) (Met : Type 0) (inside : ℕ → Bool) (L : Later) → Saved (λ x. true) e Met inside L
kept_saved (perform o) Met inside L = tt
kept_saved (bind y a b) Met inside L = (kept_saved a Met inside _, kept_saved b Met inside L)
kept_saved (sequence a b) Met inside L = (kept_saved a Met inside _, kept_saved b Met inside L)
kept_saved (branch a b c) Met inside L = (kept_saved a Met inside _, (kept_saved b _ inside L, kept_saved c _ inside L))
kept_saved (fix members e) Met inside L = kept_saved e Met inside L
kept_saved (call a listed) Met inside L = λ x met l k. absurd (cc)
kept_saved (tail_call a) Met inside L = tt
kept_saved (return e) Met inside L = kept_saved e Met inside _
kept_saved (end e) Met inside L = kept_saved e Met inside _
kept_saved (save saves e) Met inside L = kept_saved e Met (with_region saves inside) L

kept_restored : (e : Expression) (Met : Type 0) (L S : Later) → Restored (λ x. true) e Met L S
kept_restored (perform o) Met L S = tt
kept_restored (bind y a b) Met L S = (kept_restored a Met _ _, kept_restored b Met L S)
kept_restored (sequence a b) Met L S = (kept_restored a Met _ _, kept_restored b Met L S)
kept_restored (branch a b c) Met L S = (kept_restored a Met _ _, (kept_restored b _ L S, kept_restored c _ L S))
kept_restored (fix members e) Met L S = kept_restored e Met L S
kept_restored (call a listed) Met L S = λ x met l s k. absurd (cc)
kept_restored (tail_call a) Met L S = tt
kept_restored (return e) Met L S = kept_restored e Met _ _
kept_restored (end e) Met L S = kept_restored e Met _ _
kept_restored (save saves e) Met L S = kept_restored e Met L S

-- read plainly, a body does the same with its regions and its lists
pub plainly : (c : Code) (e : Expression) → erased e ≡ c.expression → in_scope_whole c ≡ true → numbered c ≡ true → PlainlySame c.expression e
plainly c e is i n callee depth environment w =
    subst (λ z. do_body plain callee depth z environment w ≡ do_body (silent (λ x. true)) callee depth e environment w) is
    (silently (λ x. true) callee depth no_region e (kept_saved e (Unit {0}) no_region nothing_later) (kept_restored e (Unit {0}) nothing_later nothing_later)
    (valid_fresh c e is i n) environment w)
