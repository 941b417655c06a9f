-- Look-ups in tables of names.
use Rattle.std.proofs.Common.{◌≡◌, ℕ, Bool, cond, true, false, List, [], ◌∷◌, refl, ap, ◌∙◌, map, ◌++◌, ◌||◌, Vec, if◌then◌else◌, length, arith}
use Rattle.std.proofs.lemmas.List.{map-append}
use Rattle.std.specs.List.{list_any}
use Rattle.std.specs.Str.{bytes_eq}
use Rattle.std.specs.declared.alloc.Global.{Global}
use Rattle.sch_names.specs.Scope.{is_among}
use Rattle.sch_names.specs.NamesView.{with_name}

or_cond : (a b c : Bool) → b ≡ c → (a || b) ≡ cond a true c
or_cond true b c e = refl
or_cond false b c e = e

pub among : (x : List ℕ) (ks : List (Vec ℕ Global)) → list_any (λ k. bytes_eq x k.items) ks ≡ is_among x (map (λ v. v.items) ks)
among x [] = refl
among x (k ∷ ks) = or_cond (bytes_eq x k.items) _ _ (among x ks)

pub none_among : (x : List ℕ) (ns : List (List ℕ)) → length ns ≡ 0 → false ≡ is_among x ns
none_among x [] e = refl
none_among x (n ∷ ns) e =
    let f : ⊥ = omega (arith, e) in
    absurd f

chosen : (b c : Bool) (ks : List (Vec ℕ Global)) (v : Vec ℕ Global) → b ≡ c →
    map (λ k. k.items) (if b then ks else ks ++ v ∷ []) ≡ cond c (map (λ k. k.items) ks) (map (λ k. k.items) ks ++ v.items ∷ [])
chosen true true ks v e = refl
chosen false false ks v e = simp map-append
chosen true false ks v e = cc
chosen false true ks v e = cc

pub inserted : (x : List ℕ) (v : Vec ℕ Global) (ks : List (Vec ℕ Global)) → v.items ≡ x →
    map (λ k. k.items) (if list_any (λ k. bytes_eq v.items k.items) ks then ks else ks ++ v ∷ []) ≡ with_name x (map (λ k. k.items) ks)
inserted x v ks e = chosen _ _ ks v (among v.items ks) ∙ ap (λ y. with_name y (map (λ k. k.items) ks)) e
