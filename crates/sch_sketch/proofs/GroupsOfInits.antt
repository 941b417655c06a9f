-- Inits that stand before others, and the groups that are made of them.
use Rattle.std.proofs.Common.{◌≡◌, ℕ, suc, Bool, true, false, length, sym, ap, subst, ◌∙◌, arith}
use Rattle.sch_names.specs.Scope.{Scope, onto, VariableNames}
use Rattle.sch_sketch.specs.Sketch.{Kind, Sketch, Sketches, no_sketch, how_many_parts, recurring}
use Rattle.sch_sketch.specs.Small.{one}
use Rattle.sch_sketch.specs.Soundness.{IsSound, AreSound, IsSoundKind, are_procedures, but_last}
use Rattle.sch_sketch.specs.Groups.{group}
use Rattle.sch_sketch.proofs.PartJoins.{join, count_join, but_last_join, AllSound, sound_join}

-- inits that stand before others, one for each variable, and are sound wherever they stand
pub record AreInits (vs : VariableNames) (is : Sketches → Sketches) : Type 0 where
  pub ahead : (ks : Sketches) → is ks ≡ join (is no_sketch) ks
  pub count : how_many_parts (is no_sketch) ≡ length vs
  pub all : AllSound (is no_sketch)

flagged : (vs : VariableNames) (s : Scope) (ks : Sketches) (b : Bool) → are_procedures (onto vs s) (but_last ks) ≡ b → IsSoundKind (recurring vs b) s ks
flagged vs s ks true e = e
flagged vs s ks false e = tt

pub last_count : (vs : VariableNames) (is : Sketches → Sketches) (e : Sketch) → AreInits vs is → how_many_parts (is (one e)) ≡ suc (length vs)
last_count vs is e i = ap how_many_parts (i.ahead (one e)) ∙ (count_join (is no_sketch) (one e) ∙ omega (arith, i.count))

pub parts_sound : (k : Kind) (s : Scope) (vs : VariableNames) (is : Sketches → Sketches) (e : Sketch) → AreInits vs is → ((s' : Scope) → IsSound s' e) → AreSound k true s (is (one e))
parts_sound k s vs is e i h = subst (AreSound k true s) (sym (i.ahead (one e))) (sound_join k true s (is no_sketch) (one e) i.all (λ b. (h _, tt)))

pub group_sound : (s : Scope) (vs : VariableNames) (at : ℕ) (is : Sketches → Sketches) (e : Sketch) → AreInits vs is → ((s' : Scope) → IsSound s' e) → IsSound s (group s vs at is e)
group_sound s vs at is e i h = (
  last_count vs is e i,
  (flagged vs s (is (one e)) _ (ap (are_procedures (onto vs s)) (ap but_last (i.ahead (one e)) ∙ but_last_join (is no_sketch) e)), parts_sound _ s vs is e i h),
)
