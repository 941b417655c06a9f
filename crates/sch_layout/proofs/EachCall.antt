-- What is so of each call and tail call of an expression.
use Rattle.std.proofs.Common.{◌≡◌, ℕ, ◌≤◌, length, Bool, true, false}
use Rattle.std.proofs.lemmas.Bool.{and_parts, leb-true}
use Rattle.sch_word.specs.trees.Shape.{max_operands}
use Rattle.sch_control.specs.declared.operation.Application.{Application}
use Rattle.sch_control.specs.EachCall.{EachCall}
use Rattle.sch_control.specs.AtomsAndSites.{application_atoms}
use Rattle.sch_control.specs.Tree.{Expression, perform, bind, sequence, branch, fix, call, tail_call, return, end, save}
use Rattle.sch_control.specs.Valid.{shaped}
use Rattle.sch_control.specs.flow.Bare.{erased}
use Rattle.sch_layout.specs.Laws.{AtomsHave, Uses}

-- from what its variables have, and from one property another
pub each_call : (V : ℕ → Type 0) (P Q : (tail : Bool) → Application ℕ → Type 0) → ((tail : Bool) (a : Application ℕ) → AtomsHave V (application_atoms a) → P tail a → Q tail a)
    → (e : Expression) → Uses V e → EachCall P e → EachCall Q e
each_call V P Q f (perform o) u h = tt
each_call V P Q f (bind x a b) u h = (each_call V P Q f a u.1.0 h.0, each_call V P Q f b u.1.1 h.1)
each_call V P Q f (sequence a b) u h = (each_call V P Q f a u.0 h.0, each_call V P Q f b u.1 h.1)
each_call V P Q f (branch a b c) u h = (each_call V P Q f a u.0 h.0, (each_call V P Q f b u.1.0 h.1.0, each_call V P Q f c u.1.1 h.1.1))
each_call V P Q f (fix members e) u h = each_call V P Q f e u.1.1 h
each_call V P Q f (call a restores) u h = f false a u h
each_call V P Q f (tail_call a) u h = f true a u h
each_call V P Q f (return e) u h = each_call V P Q f e u h
each_call V P Q f (end e) u h = each_call V P Q f e u h
each_call V P Q f (save saves e) u h = each_call V P Q f e u h

-- two properties at once
pub both_calls : (P Q : (tail : Bool) → Application ℕ → Type 0) → (e : Expression) → EachCall P e → EachCall Q e → EachCall (λ tail a. P tail a × Q tail a) e
both_calls P Q (perform o) h k = tt
both_calls P Q (bind x a b) h k = (both_calls P Q a h.0 k.0, both_calls P Q b h.1 k.1)
both_calls P Q (sequence a b) h k = (both_calls P Q a h.0 k.0, both_calls P Q b h.1 k.1)
both_calls P Q (branch a b c) h k = (both_calls P Q a h.0 k.0, (both_calls P Q b h.1.0 k.1.0, both_calls P Q c h.1.1 k.1.1))
both_calls P Q (fix members e) h k = both_calls P Q e h k
both_calls P Q (call a restores) h k = (h, k)
both_calls P Q (tail_call a) h k = (h, k)
both_calls P Q (return e) h k = both_calls P Q e h k
both_calls P Q (end e) h k = both_calls P Q e h k
both_calls P Q (save saves e) h k = both_calls P Q e h k

-- regions and restores do not matter
pub call_erased : (P : (tail : Bool) → Application ℕ → Type 0) → (e : Expression) → EachCall P (erased e) → EachCall P e
call_erased P (perform o) h = tt
call_erased P (bind x a b) h = (call_erased P a h.0, call_erased P b h.1)
call_erased P (sequence a b) h = (call_erased P a h.0, call_erased P b h.1)
call_erased P (branch a b c) h = (call_erased P a h.0, (call_erased P b h.1.0, call_erased P c h.1.1))
call_erased P (fix members e) h = call_erased P e h
call_erased P (call a restores) h = h
call_erased P (tail_call a) h = h
call_erased P (return e) h = call_erased P e h
call_erased P (end e) h = call_erased P e h
call_erased P (save saves e) h = call_erased P e h

-- no call has more operands than it may have
pub operands_few : (e : Expression) → shaped e ≡ true → EachCall (λ tail a. length a.operands ≤ max_operands) e
operands_few (perform o) h = tt
operands_few (bind x a b) h = let parts = and_parts _ _ h in (operands_few a parts.0, operands_few b parts.1)
operands_few (sequence a b) h = let parts = and_parts _ _ h in (operands_few a parts.0, operands_few b parts.1)
operands_few (branch a b c) h =
    let parts = and_parts _ _ h in
    let arms = and_parts _ _ parts.1 in
    (operands_few a parts.0, (operands_few b arms.0, operands_few c arms.1))
operands_few (fix members e) h = operands_few e (and_parts _ _ h).1
operands_few (call a restores) h = leb-true _ _ (and_parts _ _ h).0
operands_few (tail_call a) h = leb-true _ _ (and_parts _ _ h).0
operands_few (return e) h = operands_few e h
operands_few (end e) h = operands_few e h
operands_few (save saves e) h = operands_few e h
