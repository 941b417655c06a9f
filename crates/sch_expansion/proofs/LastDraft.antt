-- The last of a list of drafts and those before it, and the draft of a procedure.
use Rattle.std.proofs.Common.{◌≡◌, ℕ, suc, Bool, Option, List, [], ◌∷◌, ◌++◌, length, refl, sym, ap}
use Rattle.std.specs.Borrow.{Bor}
use Rattle.sch_names.specs.ScopeView.{given_names}
use Rattle.sch_sketch.specs.declared.sketch.Kind as code
use Rattle.sch_sketch.specs.declared.sketch.Kind.TheVariants as of
use Rattle.sch_sketch.specs.Draft as plain
use Rattle.sch_sketch.specs.Draft.{Drafts, and_draft, lambda}
use Rattle.sch_sketch.specs.Sketch.{last, front, assemble}
use Rattle.sch_sketch.specs.SketchView.{kind_of}
use Rattle.sch_sketch.specs.declared.draft.Draft.{Draft}
use Rattle.sch_sketch.specs.DraftView.{draft_of, drafts_of}

pub last_of : (es : List Draft) (e : Draft) → last (drafts_of (es ++ e ∷ [])) ≡ draft_of e
last_of [] e = refl
last_of (a ∷ []) e = refl
last_of (a ∷ b ∷ es) e = last_of (b ∷ es) e

pub front_of : (es : List Draft) (e : Draft) → front (drafts_of (es ++ e ∷ [])) ≡ drafts_of es
front_of [] e = refl
front_of (a ∷ []) e = refl
front_of (a ∷ b ∷ es) e = ap (and_draft (draft_of a)) (front_of (b ∷ es) e)

given_count : (vs : List (Option (Bor (List ℕ)))) → length (given_names vs) ≡ length vs
given_count [] = refl
given_count (v ∷ vs) = ap suc (given_count vs)

pub lambda_made : (k : code.Kind) (vs : List (Option (Bor (List ℕ)))) (r : Bool) (n : ℕ) (e : plain.Draft) (es : Drafts) → k ≡ of.Lambda vs r → n ≡ length vs → e ≡ last es →
    lambda n r e ≡ assemble (kind_of k) es
lambda_made k vs r n e es h i j = rw (h, i, j) (ap (λ m. lambda m r (last es)) (sym (given_count vs)))
