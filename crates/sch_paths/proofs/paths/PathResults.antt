-- Which results the paths through an expression have.
use Rattle.std.proofs.Common.{ℕ, Bool, true, false, List, refl, inl, inr}
use Rattle.std.specs.Prelude.{◌↔◌}
use Rattle.std.specs.Bool.{MatchBool}
use Rattle.sch_control.specs.Meaning.{with_region}
use Rattle.sch_control.specs.Tree.{Expression, perform, bind, sequence, branch, fix, call, tail_call, return, end, save}
use Rattle.sch_control.specs.flow.Live.{MayGive}
use Rattle.sch_control.specs.flow.Paths.{Event, IsPath}
use Rattle.sch_paths.proofs.paths.MeetsByCases.{has_path}

-- a path with that result
abbrev pub PathWith : (inside : ℕ → Bool) → Expression → Bool → Type 0
PathWith inside e r = (es : List Event) × IsPath inside e es r

pub path_gives : (inside : ℕ → Bool) (e : Expression) (r : Bool) (es : List Event) → IsPath inside e es r → MayGive e r
path_gives inside (perform o) r es path = path.1
path_gives inside (bind y a b) r es path = path_gives inside b r path.1 path.4
path_gives inside (sequence a b) r es path = path_gives inside b r path.1 path.4
path_gives inside (branch a b c) r es path =
    elim path.2 as (λ t. IsPath inside a path.0 t → MatchBool t (IsPath inside b path.1 r) (IsPath inside c path.1 r) → MayGive (branch a b c) r) [
      | true ↦ λ first second. inl (path_gives inside a true path.0 first, path_gives inside b r path.1 second)
      | false ↦ λ first second. inr (path_gives inside a false path.0 first, path_gives inside c r path.1 second)
    ] path.3 path.4
path_gives inside (fix members e) r es path = path_gives inside e r path.0 path.1
path_gives inside (call a listed) r es path = tt
path_gives inside (tail_call a) r es path = tt
path_gives inside (return e) r es path = tt
path_gives inside (end e) r es path = tt
path_gives inside (save saves e) r es path = path_gives (with_region saves inside) e r path.0 path.1

pub may_give_path : (inside : ℕ → Bool) (e : Expression) (r : Bool) → MayGive e r → PathWith inside e r
may_give_path inside (perform o) r h = (_, (refl, h))
may_give_path inside (bind y a b) r h =
    let first = has_path inside a in
    let rest = may_give_path inside b r h in
    (_, (first.1, rest.0, first.0, first.2, rest.1, refl))
may_give_path inside (sequence a b) r h =
    let first = has_path inside a in
    let rest = may_give_path inside b r h in
    (_, (first.1, rest.0, first.0, first.2, rest.1, refl))
may_give_path inside (branch a b c) r (inl h) =
    let first = may_give_path inside a true h.0 in
    let rest = may_give_path inside b r h.1 in
    (_, (first.0, rest.0, true, first.1, rest.1, refl))
may_give_path inside (branch a b c) r (inr h) =
    let first = may_give_path inside a false h.0 in
    let rest = may_give_path inside c r h.1 in
    (_, (first.0, rest.0, false, first.1, rest.1, refl))
may_give_path inside (fix members e) r h = let rest = may_give_path inside e r h in (_, (rest.0, rest.1, refl))
may_give_path inside (call a listed) r h = (_, refl)
may_give_path inside (tail_call a) r h = (_, refl)
may_give_path inside (return e) r h = let first = has_path inside e in (_, (first.1, first.0, first.2, refl))
may_give_path inside (end e) r h = let first = has_path inside e in (_, (first.1, first.0, first.2, refl))
may_give_path inside (save saves e) r h = let rest = may_give_path (with_region saves inside) e r h in (_, (rest.0, rest.1, refl))

pub may_give_is : (inside : ℕ → Bool) (e : Expression) (r : Bool) → MayGive e r ↔ PathWith inside e r
may_give_is inside e r = (may_give_path inside e r, λ path. path_gives inside e r path.0 path.1)
