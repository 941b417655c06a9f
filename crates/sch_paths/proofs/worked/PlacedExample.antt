-- Of `(define (k x) (g 1) (g 2) (+ x 1))` the return address and x are saved round the body, and restored after the second call alone.
use Rattle.std.proofs.Common.{◌≡◌, ◌≢◌, ℕ, Bool, true, false, List, [], ◌∷◌, ◌++◌, refl, sym, ◌∙◌, inl, inr, ◌⊎◌, arith}
use Rattle.std.specs.Prelude.{◌↔◌, nat_eq, ◌||◌, ◌&&◌}
use Rattle.std.proofs.lemmas.Bool.{eqb-true, eq-eqb, or_cases}
use Rattle.sch_word.specs.trees.NumberSets.{has}
use Rattle.sch_word.proofs.facts.Booleans.{or_left, or_right}
use Rattle.sch_control.specs.declared.operation.Atom.TheVariants.{Literal, Variable}
use Rattle.sch_control.specs.declared.operation.Operand.TheVariants as operand
use Rattle.sch_control.specs.declared.operation.Operation.TheVariants as operation
use Rattle.sch_control.specs.declared.operation.Application.{Application}
use Rattle.sch_control.specs.Meaning.{no_region, with_region}
use Rattle.sch_control.specs.Tree.{Expression, perform, bind, call, return, save}
use Rattle.sch_control.specs.flow.Live.{Perhaps, Across, nothing_later}
use Rattle.sch_control.specs.flow.LiveSets.{LiveSets}
use Rattle.sch_control.specs.flow.Paths.{Binds, Event, References, Returns, binding, live}
use Rattle.sch_paths.specs.EachSoonRestored.{EachSoonRestored}
use Rattle.sch_paths.specs.Exact.{LazySaves, EagerRestores}
use Rattle.sch_paths.specs.RestoredByPaths.{RestoredByPaths, SomeSays, Through}
use Rattle.sch_paths.proofs.paths.EagerByPaths.{by_paths}
use Rattle.sch_paths.proofs.saves.TwoSets.{needs_is}

abbrev calling : ℕ → Application ℕ
calling operator = record { site = 0; spread = false; operator = operand.Atom (Variable operator); operands = operand.Atom (Literal 0) ∷ [] }

-- x is variable 2
abbrev body : (first second : List ℕ) → Expression
body first second =
    bind 3 (perform (operation.Global 0)) (bind 4 (call (calling 3) first)
    (bind 5 (perform (operation.Global 0)) (bind 6 (call (calling 5) second)
    (return (perform (operation.Operand (operand.Atom (Variable 2))))))))

abbrev both : List ℕ
both = 0 ∷ 2 ∷ []

in_both : (x : ℕ) → (has x both ≡ true) ↔ ((x ≡ 0) ⊎ (x ≡ 2))
in_both x = (
  λ h. elim (or_cases (nat_eq x 0) (nat_eq x 2 || false) h) [
    | inl e ↦ inl (eqb-true x 0 e)
    | inr f ↦ elim (or_cases (nat_eq x 2) false f) [ inl e ↦ inr (eqb-true x 2 e) | inr g ↦ absurd (cc) ]
  ],
  λ w. elim w [ inl e ↦ or_left (nat_eq x 0) _ (eq-eqb x 0 e) | inr e ↦ or_right (nat_eq x 0) _ (or_left (nat_eq x 2) false (eq-eqb x 2 e)) ],
)

one : (x y : ℕ) → (nat_eq x y || false) ≡ true → x ≡ y
one x y h = elim (or_cases (nat_eq x y) false h) [ inl e ↦ eqb-true x y e | inr g ↦ absurd (cc) ]

-- what is read behind the second call: x and the return address
abbrev Behind : ℕ → Type 0
Behind x = Across 6 x ((has x (2 ∷ []) ≡ true) ⊎ Perhaps (λ t. x ≡ 0))

behind : (x : ℕ) → has x both ≡ true → Behind x
behind x h = elim ((in_both x).0 h) [
  | inl e ↦ (λ f. omega (arith, e, f), inr (inl e))
  | inr e ↦ (λ f. omega (arith, e, f), inl (or_left (nat_eq x 2) false (eq-eqb x 2 e)))
]

from_behind : (x : ℕ) → Behind x → has x both ≡ true
from_behind x w = elim w.1 [
  | inl m ↦ (in_both x).1 (inr (one x 2 m))
  | inr p ↦ elim p [ inl e ↦ (in_both x).1 (inl e) | inr e ↦ (in_both x).1 (inl e) ]
]

-- and behind the first
abbrev Before : ℕ → Type 0
Before x = Across 4 x ((false ≡ true) ⊎ Perhaps (λ t. Across 5 x ((has x (5 ∷ []) ≡ true) ⊎ Perhaps (λ t. Behind x))))

before : (x : ℕ) → has x both ≡ true → Before x
before x h =
    let other : (y : ℕ) → y ≢ 0 → y ≢ 2 → x ≢ y = λ y n m e. elim ((in_both x).0 h) [ inl z ↦ n (sym e ∙ z) | inr z ↦ m (sym e ∙ z) ] in (
      other 4 (λ e. omega (arith, e)) (λ e. omega (arith, e)),
      inr (inl (other 5 (λ e. omega (arith, e)) (λ e. omega (arith, e)), inr (inl (behind x h)))),
    )

from_before : (x : ℕ) → Before x → has x both ≡ true
from_before x w = elim w.1 [
  | inl f ↦ absurd (cc)
  | inr p ↦ elim p [ inl a ↦ inner a | inr a ↦ inner a ]
] where
  inner : Across 5 x ((has x (5 ∷ []) ≡ true) ⊎ Perhaps (λ t. Behind x)) → has x both ≡ true
  inner a = elim a.1 [
    | inl m ↦ absurd (a.0 (one x 5 m))
    | inr q ↦ elim q [ inl b ↦ from_behind x b | inr b ↦ from_behind x b ]
  ]

sets : LiveSets (save both (body both both)) (Unit {0}) nothing_later
sets = (
  tt,
  (
    (λ x. (λ h. (tt, inl (before x h)), λ w. elim w.1 [ inl a ↦ from_before x a | inr a ↦ from_before x a ])),
    (tt, ((λ x. (λ h. (tt, inl (behind x h)), λ w. elim w.1 [ inl a ↦ from_behind x a | inr a ↦ from_behind x a ])), tt)),
  ),
)

lazy : LazySaves (save both (body both both))
lazy = (
  (λ x. (
    λ h. ((needs_is x no_region (save both (body both both))).0 (twice (has x both) h), refl),
    λ w. once (has x both) ((needs_is x no_region (save both (body both both))).1 w.0),
  )),
  (tt, (tt, (tt, (tt, tt)))),
) where
  twice : (t : Bool) → t ≡ true → (((t && t) || ((t && t) || false)) && ((t && t) || ((t && t) || false))) ≡ true
  twice true e = refl
  twice false e = absurd (cc)

  once : (t : Bool) → (((t && t) || ((t && t) || false)) && ((t && t) || ((t && t) || false))) ≡ true → t ≡ true
  once true e = refl
  once false e = absurd (cc)

-- nothing of what is live behind the first call is wanted before the second one
never : (x : ℕ) → Across 4 x ((false ≡ true) ⊎ Perhaps (λ t. Across 5 x (has x (5 ∷ []) ≡ true))) → ⊥
never x w = elim w.1 [
  | inl f ↦ absurd (cc)
  | inr p ↦ elim p [ inl a ↦ a.0 (one x 5 a.1) | inr a ↦ a.0 (one x 5 a.1) ]
]

restores : EagerRestores (save both (body [] both))
restores = (
  tt,
  (
    (λ x. (λ h. absurd (cc), λ w. elim w.1.1.1 [ inl a ↦ absurd (never x a) | inr a ↦ absurd (never x a) ])),
    (
      tt,
      (
        (λ x. (
          λ h. (or_left (has x both) false h, (tt, (inl (behind x h), inl (behind x h)))),
          λ w. elim w.1.1.0 [ inl a ↦ from_behind x a | inr a ↦ from_behind x a ],
        )),
        tt,
      ),
    ),
  ),
)

-- that is enough, and without the restores of the second call it is not
enough : EachSoonRestored (save both (body [] both))
enough = (
  tt,
  (
    (λ x met l s k. elim s [ inl a ↦ absurd (never x a) | inr a ↦ absurd (never x a) ]),
    (tt, ((λ x met l s k. elim l [ inl a ↦ from_behind x a | inr a ↦ from_behind x a ]), tt)),
  ),
)

too_few : EachSoonRestored (save both (body [] [])) → ⊥
too_few h =
    let e : false ≡ true = h.1.1.1.0 2 tt (inl (behind 2 refl)) (inl (behind 2 refl)) refl in
    absurd (cc)

-- were both restored behind the first call too, that would be more than is wanted
too_many : EagerRestores (save both (body both both)) → ⊥
too_many h = elim (((h.1.0 2).0 refl).1.1.1) [ inl a ↦ never 2 a | inr a ↦ never 2 a ]

-- ## By paths

restored_by_paths : RestoredByPaths (save both (body [] both))
restored_by_paths = by_paths (save both (body [] both)) restores

-- the one path that goes on from the second call reads x
reads_x : SomeSays (live 2) (λ es. (rest : List Event) × Through (with_region both no_region) (return (perform (operation.Operand (operand.Atom (Variable 2))))) (λ t es. es ≡ []) rest
    × (es ≡ binding (with_region both no_region) 6 ++ rest))
reads_x = (
  Binds 6 ∷ References 2 ∷ References 0 ∷ Returns ∷ [],
  (
    References 2 ∷ References 0 ∷ Returns ∷ [],
    (References 2 ∷ References 0 ∷ Returns ∷ [], [], true, (References 2 ∷ [], true, (refl, inl refl), refl), refl, refl),
    refl,
  ),
  tt,
)

-- so a call that does not restore it restores too little
nothing_restored : RestoredByPaths (save both (body [] [])) → ⊥
unfolding reads_x
nothing_restored h =
    let e : false ≡ true = (h.1.1.1.0 2).1 (refl, (tt, (inl reads_x, inl (reads_x.0, reads_x.1, tt)))) in
    absurd (cc)
