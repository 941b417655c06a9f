-- Variables that an expression mentions, or that are live in it, have what all that it uses have.
use Rattle.std.proofs.Common.{◌≡◌, ℕ, ◌<◌, List, [], ◌∷◌, Option, Some, None, Bool, true, false, refl, sym, subst, arith, ◌⊎◌, inl, inr}
use Rattle.std.specs.Prelude.{nat_eq, ◌||◌}
use Rattle.std.specs.Bool.{MatchBool}
use Rattle.std.proofs.lemmas.Bool.{eqb-true}
use Rattle.sch_word.specs.trees.NumberSets.{has}
use Rattle.sch_control.specs.declared.operation.Atom.{Atom}
use Rattle.sch_control.specs.declared.operation.Atom.TheVariants.{Constant, Literal, Variable}
use Rattle.sch_control.specs.declared.operation.Operation.{Operation}
use Rattle.sch_control.specs.AtomsAndSites.{operation_atoms, application_atoms, member_atoms}
use Rattle.sch_control.specs.Tree.{Expression, perform, bind, sequence, branch, fix, call, tail_call, return, end, save}
use Rattle.sch_control.specs.flow.Live.{named, known, ByResult, AfterValue, Across, Live, Mentions, Perhaps}
use Rattle.sch_layout.specs.Laws.{AtomsHave, Uses}

pub mentioned : (P : ℕ → Type 0) (atoms : List (Atom ℕ)) → AtomsHave P atoms → (x : ℕ) → Mentions x atoms → P x
mentioned P [] h x m = absurd (cc)
mentioned P (Constant c ∷ atoms) h x m = mentioned P atoms h.1 x m
mentioned P (Literal n ∷ atoms) h x m = mentioned P atoms h.1 x m
mentioned P (Variable y ∷ atoms) h x m = by (nat_eq x y) refl m (mentioned P atoms h.1 x) where
  by : (t : Bool) → nat_eq x y ≡ t → (t || has x (named atoms)) ≡ true → (has x (named atoms) ≡ true → P x) → P x
  by true i m more = subst P (sym (eqb-true x y i)) h.0
  by false i m more = more m

after_perhaps : (o : Operation ℕ) (L : Bool → Type 0) → AfterValue o L → Perhaps L
after_perhaps o L l = by (known o) l where
  by : (k : Option Bool) → ByResult k L → Perhaps L
  by (Some true) l = inl l
  by (Some false) l = inr l
  by None l = l

module _ (n : ℕ) (some : 0 < n) (x : ℕ) where
  abbrev Low : ℕ → Type 0
  Low y = y < n

  pub perhaps_low : (L : Bool → Type 0) → ((t : Bool) → L t → x < n) → Perhaps L → x < n
  perhaps_low L h (inl l) = h true l
  perhaps_low L h (inr l) = h false l

  pub live_low : (e : Expression) (L : Bool → Type 0) → Uses Low e → ((t : Bool) → L t → x < n) → Live x e L → x < n
  live_low (perform o) L u h (inl m) = mentioned Low (operation_atoms o) u x m
  live_low (perform o) L u h (inr l) = perhaps_low L h (after_perhaps o L l)
  live_low (bind y a b) L u h l = live_low a (λ t. Across y x (Live x b L)) u.1.0 (λ t k. live_low b L u.1.1 h k.1) l
  live_low (sequence a b) L u h l = live_low a (λ t. Live x b L) u.0 (λ t k. live_low b L u.1 h k) l
  live_low (branch a b c) L u h l = live_low a (λ t. MatchBool t (Live x b L) (Live x c L)) u.0 (λ t k. by t (live_low b L u.1.0 h) (live_low c L u.1.1 h) k) l where
    by : (t : Bool) → (Live x b L → x < n) → (Live x c L → x < n) → MatchBool t (Live x b L) (Live x c L) → x < n
    by true f g k = f k
    by false f g k = g k
  live_low (fix members e) L u h l = by l.1 (live_low e L u.1.1 h) where
    by : Mentions x (member_atoms members) ⊎ Live x e L → (Live x e L → x < n) → x < n
    by (inl m) more = mentioned Low (member_atoms members) u.1.0 x m
    by (inr k) more = more k
  live_low (call a restores) L u h (inl m) = mentioned Low (application_atoms a) u x m
  live_low (call a restores) L u h (inr l) = perhaps_low L h l
  live_low (tail_call a) L u h (inl e) = omega (arith, e, some)
  live_low (tail_call a) L u h (inr m) = mentioned Low (application_atoms a) u x m
  live_low (return e) L u h l = live_low e (λ t. x ≡ 0) u (λ t i. omega (arith, i, some)) l
  live_low (end e) L u h l = live_low e (λ t. ⊥) u (λ t i. absurd i) l
  live_low (save saves e) L u h l = live_low e L u h l
