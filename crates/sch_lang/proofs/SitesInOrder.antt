-- Sites that are numbered in the order of the text stand each once.
use Rattle.std.proofs.Common.{◌≡◌, ℕ, suc, ◌+◌, ◌<◌, ◌≤◌, ◌≢◌, Bool, true, false, ◌&&◌, List, [], ◌∷◌, ◌++◌, length, Option, Some, refl, sym, ap, subst, ◌∙◌, cond, arith, length-append, append_assoc, eq-eqb}
use Rattle.std.specs.Prelude.{slice_get, nat_eq}
use Rattle.std.specs.List.{list_all, count_by, fold}
use Rattle.std.proofs.lemmas.Bool.{eqb-true, eqb-false}
use Rattle.sch_word.specs.runs.Computation.{numbers_from}
use Rattle.sch_word.proofs.facts.Booleans.{and_of, never_true}
use Rattle.sch_word.proofs.facts.Lists.{get_seam}
use Rattle.sch_lang.specs.Tree.{Source}
use Rattle.sch_lang.specs.Measures.{sites_of}
use Rattle.sch_word.specs.trees.Shape.{is_width}
use Rattle.sch_lang.specs.Valid.{sites_once}

-- these widths with the numbers from n on
abbrev pub numbered : ℕ → List ℕ → List (ℕ × ℕ)
numbered n [] = []
numbered n (width ∷ widths) = (n, width) ∷ numbered (suc n) widths

-- how often a site is counted, behind what was counted before
abbrev counted : (s : ℕ) → ℕ → List (ℕ × ℕ) → ℕ
counted s before sites = fold (λ a at. a + cond (nat_eq at.0 s) 1 0) before sites

-- a site below the first number is never counted
counted_never : (s n : ℕ) (widths : List ℕ) (before : ℕ) → s < n → counted s before (numbered n widths) ≡ before
counted_never s n [] before h = refl
counted_never s n (width ∷ widths) before h =
    let differs : nat_eq n s ≡ false = never_true (nat_eq n s) (λ e. omega (arith, h, eqb-true n s e)) in
    let same : before + cond (nat_eq n s) 1 0 ≡ before = ap (λ b. before + cond b 1 0) differs ∙ omega arith in
    counted_never s (suc n) widths (before + cond (nat_eq n s) 1 0) (omega arith) ∙ same

-- one of the numbers is counted once
counted_once : (s n : ℕ) (widths : List ℕ) (before : ℕ) → n ≤ s → s < n + length widths → counted s before (numbered n widths) ≡ before + 1
counted_once s n [] before g h = absurd (omega (arith, g, h))
counted_once s n (width ∷ widths) before g h =
    here (nat_eq n s) refl (λ differs. counted_once s (suc n) widths (before + cond (nat_eq n s) 1 0) (omega (arith, g, differs)) (omega (arith, h)))
  where
    here : (b : Bool) → nat_eq n s ≡ b → (n ≢ s → counted s (before + cond (nat_eq n s) 1 0) (numbered (suc n) widths) ≡ before + cond (nat_eq n s) 1 0 + 1)
        → counted s (before + cond (nat_eq n s) 1 0) (numbered (suc n) widths) ≡ before + 1
    here true e later =
        counted_never s (suc n) widths (before + cond (nat_eq n s) 1 0) (omega (arith, eqb-true n s e)) ∙ ap (λ b. before + cond b 1 0) e
    here false e later = later (eqb-false n s e) ∙ (ap (λ b. before + cond b 1 0 + 1) e ∙ omega arith)

all_once : (k : ℕ) (widths : List ℕ) (n : ℕ) (more : List ℕ) → k ≤ n → n + length more ≤ k + length widths
    → list_all (λ s. nat_eq (count_by (λ at. nat_eq at.0 s) (numbered k widths)) 1) (numbers_from n more) ≡ true
all_once k widths n [] g h = refl
all_once k widths n (width ∷ more) g h =
    and_of _ _ (ap (λ c. nat_eq c 1) (counted_once n k widths 0 g (omega (arith, h)))) (all_once k widths (suc n) more (omega arith) (omega (arith, h)))

width_here : (o : Option ℕ) (width : ℕ) → o ≡ Some width → is_width o width ≡ true
width_here o width e = ap (λ x. is_width x width) e ∙ eq-eqb width width refl

widths_listed : (done widths all : List ℕ) → all ≡ done ++ widths → list_all (λ at. is_width (slice_get all at.0) at.1) (numbered (length done) widths) ≡ true
widths_listed done [] all e = refl
widths_listed done (width ∷ widths) all e =
    let longer : length (done ++ (width ∷ [])) ≡ suc (length done) = omega (arith, length-append done (width ∷ [])) in
    and_of _ _ (width_here (slice_get all (length done)) width (ap (λ l. slice_get l (length done)) e ∙ get_seam done widths width))
    (subst (λ n. list_all (λ at. is_width (slice_get all at.0) at.1) (numbered n widths) ≡ true) longer
    (widths_listed (done ++ (width ∷ [])) widths all (e ∙ sym (append_assoc done (width ∷ []) widths))))

pub sites_in_order : (p : Source) → sites_of p ≡ numbered 0 p.sites → sites_once p ≡ true
sites_in_order p e =
    subst (λ l. (list_all (λ s. nat_eq (count_by (λ at. nat_eq at.0 s) l) 1) (numbers_from 0 p.sites) && list_all (λ at. is_width (slice_get p.sites at.0) at.1) l) ≡ true) (sym e)
    (and_of _ _ (all_once 0 p.sites 0 p.sites (omega arith) (omega arith)) (widths_listed [] p.sites p.sites refl))
