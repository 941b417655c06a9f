-- Bodies with lazy saves and eager restores do what they did.
use Rattle.std.proofs.Common.{◌≡◌, ℕ, ◌+◌, Bool, true, [], Option, Some, None, refl, ap, sym, ◌∙◌, subst, inl, inr, arith}
use Rattle.std.specs.Prelude.{nat_le, nat_lt}
use Rattle.std.proofs.lemmas.Bool.Decides.{nat_tests}
use Rattle.sch_word.specs.trees.NumberSets.{has, without_repeats}
use Rattle.sch_word.proofs.facts.Booleans.{and_left, and_right}
use Rattle.sch_control.specs.declared.body.Entry.{Entry}
use Rattle.sch_control.specs.Meaning.{World, Environment, Callee, Reading, plain, no_region, do_body}
use Rattle.sch_control.specs.Tree.{Expression, perform, bind, sequence, branch, fix, call, tail_call, return, end, save, Code}
use Rattle.sch_control.specs.Valid.{first_scope, first_bound, bound_in, in_scope, in_scope_whole, numbered, with_variable, with_members}
use Rattle.sch_control.specs.flow.Live.{nothing_later}
use Rattle.sch_control.specs.flow.Bare.{erased, unlisted}
use Rattle.sch_control.specs.flow.Middle.{silent}
use Rattle.sch_paths.specs.Conditions.{Saved, Fresh, Alike, CalleesAlike}
use Rattle.sch_control.specs.flow.LiveSets.{LiveSets}
use Rattle.sch_word.proofs.facts.NumberSets.{each_passes}
use Rattle.sch_paths.specs.Exact.{LazySaves, RestoresBetween}
use Rattle.sch_paths.proofs.runs.AlikeWithMarks.{enough}
use Rattle.sch_paths.proofs.saves.SavedAndRestored.{lazy_saved, all_restored}
use Rattle.sch_paths.proofs.runs.SameWithoutMarks.{silently}
use Rattle.sch_paths.proofs.saves.LiveInScope.{Unbound, fresh_body}
use Rattle.sch_paths.specs.Laws.{Readable}
use Rattle.sch_paths.proofs.paths.UnlistedTrees.{saved_alike}

-- ## Valid bodies

past_first : (entry : Option Entry) (x : ℕ) → nat_le (first_bound entry) x ≡ true → Readable (first_scope entry) x → ⊥
past_first None x h (inl z) = grind (arith, nat_tests, h, z)
past_first None x h (inr s) = absurd (cc)
past_first (Some e) x h (inl z) = grind (arith, nat_tests, h, z)
past_first (Some e) x h (inr s) =
    let below : nat_lt x (2 + e.formals) ≡ true = and_right (nat_lt 0 x) _ s in
    grind (arith, nat_tests, h, below)

pub valid_unbound : (c : Code) → numbered c ≡ true → Unbound (first_scope c.entry) c.expression
valid_unbound c n x m r =
    let inner = and_right (nat_le (first_bound c.entry) c.variables) _ (and_right _ _ n) in
    past_first c.entry x (and_left (nat_le (first_bound c.entry) x) _ (each_passes _ (bound_in c.expression) (and_left _ _ inner) x m)) r

pub valid_once : (c : Code) → numbered c ≡ true → without_repeats (bound_in c.expression) ≡ true
valid_once c n = and_right _ _ (and_right (nat_le (first_bound c.entry) c.variables) _ (and_right _ _ n))

-- saves and restores change neither scopes nor what is bound
pub scope_erased : (e : Expression) (scope : ℕ → Bool) → in_scope (erased e) scope ≡ in_scope e scope
scope_erased (perform o) scope = refl
scope_erased (bind y a b) scope = rw (scope_erased a scope, scope_erased b (with_variable y scope)) refl
scope_erased (sequence a b) scope = rw (scope_erased a scope, scope_erased b scope) refl
scope_erased (branch a b c) scope = rw (scope_erased a scope, scope_erased b scope, scope_erased c scope) refl
scope_erased (fix members e) scope = rw (scope_erased e (with_members members scope)) refl
scope_erased (call a listed) scope = refl
scope_erased (tail_call a) scope = refl
scope_erased (return e) scope = scope_erased e scope
scope_erased (end e) scope = scope_erased e scope
scope_erased (save saves e) scope = scope_erased e scope

pub bound_erased : (e : Expression) → bound_in (erased e) ≡ bound_in e
bound_erased (perform o) = refl
bound_erased (bind y a b) = rw (bound_erased a, bound_erased b) refl
bound_erased (sequence a b) = rw (bound_erased a, bound_erased b) refl
bound_erased (branch a b c) = rw (bound_erased a, bound_erased b, bound_erased c) refl
bound_erased (fix members e) = rw (bound_erased e) refl
bound_erased (call a listed) = refl
bound_erased (tail_call a) = refl
bound_erased (return e) = bound_erased e
bound_erased (end e) = bound_erased e
bound_erased (save saves e) = bound_erased e

pub valid_fresh : (c : Code) (e : Expression) → erased e ≡ c.expression → in_scope_whole c ≡ true → numbered c ≡ true → Fresh e nothing_later
valid_fresh c e is i n =
    let bound : bound_in e ≡ bound_in c.expression = sym (bound_erased e) ∙ ap bound_in is in
    fresh_body e (first_scope c.entry) (sym (scope_erased e (first_scope c.entry)) ∙ (ap (λ z. in_scope z (first_scope c.entry)) is ∙ i))
    (ap without_repeats bound ∙ valid_once c n) (λ x m. valid_unbound c n x (ap (has x) (sym bound) ∙ m))

-- ## Bodies with saves and restores

-- Whatever a call keeps, the body does what it does without saves and restores, but for marks, where what is live after each
-- call is saved there and the restores are between the bounds.
pub enough_with_marks : (c : Code) (e : Expression) → erased e ≡ c.expression → in_scope_whole c ≡ true → numbered c ≡ true
    → (reading : Reading) → Saved reading.keeps e (Unit {0}) no_region nothing_later → RestoresBetween e (Unit {0}) no_region nothing_later nothing_later
    → (callee callee' : Callee) → CalleesAlike callee callee' → (depth : ℕ) (environment : Environment) (w w' : World) → w'.state ≡ w.state
    → Alike (do_body plain callee depth c.expression environment w) (do_body reading callee' depth e environment w')
enough_with_marks c e is i n reading saves between callee callee' alike depth environment w w' q =
    subst (λ z. Alike (do_body plain callee depth z environment w) (do_body reading callee' depth e environment w')) is
    (enough reading callee callee' alike depth no_region e saves
    (all_restored reading.keeps e (Unit {0}) no_region nothing_later nothing_later saves between)
    (valid_fresh c e is i n) environment w w' q)

-- Read without marks it is the very same, with whatever callees.
pub enough_without_marks : (c : Code) (e : Expression) → erased e ≡ c.expression → in_scope_whole c ≡ true → numbered c ≡ true
    → (keeps : ℕ → Bool) → Saved keeps e (Unit {0}) no_region nothing_later → RestoresBetween e (Unit {0}) no_region nothing_later nothing_later
    → (callee : Callee) (depth : ℕ) (environment : Environment) (w : World)
    → do_body plain callee depth c.expression environment w ≡ do_body (silent keeps) callee depth e environment w
enough_without_marks c e is i n keeps saves between callee depth environment w =
    subst (λ z. do_body plain callee depth z environment w ≡ do_body (silent keeps) callee depth e environment w) is
    (silently keeps callee depth no_region e saves
    (all_restored keeps e (Unit {0}) no_region nothing_later nothing_later saves between)
    (valid_fresh c e is i n) environment w)

-- `listed` is a body's tree with lazy saves and with what is live at its calls, and `restored` the same with what is restored
-- in its place: what is live after each call is saved there.
pub lazily_saved : (keeps : ℕ → Bool) (listed restored : Expression) → unlisted listed ≡ unlisted restored
    → LiveSets listed (Unit {0}) nothing_later → LazySaves listed → Saved keeps restored (Unit {0}) no_region nothing_later
lazily_saved keeps listed restored same sets lazy =
    saved_alike keeps listed restored same (Unit {0}) no_region nothing_later (lazy_saved keeps listed sets lazy)
