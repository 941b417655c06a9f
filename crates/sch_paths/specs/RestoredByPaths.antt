-- What each call restores, by the paths that go on from it.
use Rattle.std.specs.Prelude.{◌≡◌, ◌↔◌, ℕ, Bool, true, false, List, [], ◌∷◌, ◌++◌}
use Rattle.std.specs.Bool.{MatchBool}
use Rattle.sch_word.specs.trees.NumberSets.{has}
use Rattle.sch_control.specs.Meaning.{no_region, with_region}
use Rattle.sch_control.specs.Tree.{Expression, perform, bind, sequence, branch, fix, call, tail_call, return, end, save}
use Rattle.sch_control.specs.flow.Live.{MayGive, Perhaps}
use Rattle.sch_control.specs.flow.Paths.{Act, Event, References, Returns, Ends, IsPath, Meets, binding, live, soon}

-- the events of the paths that go on behind an expression to the end of the body, by the expression's result
abbrev pub Onward : Type 1
Onward = Bool → List Event → Type 0

-- some of these paths says yes
abbrev pub SomeSays : (Event → Act) → (List Event → Type 0) → Type 0
SomeSays act Goes = (es : List Event) × Goes es × Meets act es ⊥

-- paths through an expression, and on
abbrev pub Through : (inside : ℕ → Bool) → Expression → Onward → List Event → Type 0
Through inside e K es = (first rest : List Event) × (r : Bool) × IsPath inside e first r × K r rest × (es ≡ first ++ rest)

-- Each call to which some path comes, as `Met` says of the expression, restores exactly what a region round it saves, what some
-- path from there references before it binds it, and what some path from there references or saves before it binds it and before
-- the next call. Any other call restores nothing.
abbrev pub RestoredOn : Expression → (Met : Type 0) → (inside : ℕ → Bool) → Onward → Type 0
RestoredOn (perform o) Met inside K = Unit {0}
RestoredOn (bind y a b) Met inside K =
    RestoredOn a Met inside (λ t es. (rest : List Event) × Through inside b K rest × (es ≡ binding inside y ++ rest)) × RestoredOn b Met inside K
RestoredOn (sequence a b) Met inside K = RestoredOn a Met inside (λ t. Through inside b K) × RestoredOn b Met inside K
RestoredOn (branch a b c) Met inside K =
    RestoredOn a Met inside (λ t es. MatchBool t (Through inside b K es) (Through inside c K es))
    × (RestoredOn b (Met × MayGive a true) inside K × RestoredOn c (Met × MayGive a false) inside K)
RestoredOn (fix members e) Met inside K = RestoredOn e Met inside K
RestoredOn (call a restores) Met inside K =
    (x : ℕ) → (has x restores ≡ true)
    ↔ ((inside x ≡ true) × (Met × (Perhaps (λ t. SomeSays (live x) (K t)) × Perhaps (λ t. SomeSays (soon x) (K t)))))
RestoredOn (tail_call a) Met inside K = Unit {0}
RestoredOn (return e) Met inside K = RestoredOn e Met inside (λ t es. es ≡ References 0 ∷ Returns ∷ [])
RestoredOn (end e) Met inside K = RestoredOn e Met inside (λ t es. es ≡ Ends ∷ [])
RestoredOn (save saves e) Met inside K = RestoredOn e Met (with_region saves inside) K

-- so it is in a whole body, behind which nothing follows
abbrev pub RestoredByPaths : Expression → Type 0
RestoredByPaths e = RestoredOn e (Unit {0}) no_region (λ t es. es ≡ [])
