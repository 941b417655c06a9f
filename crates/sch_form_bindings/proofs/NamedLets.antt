-- The sketch of a `let` with a name, and its procedure.
use Rattle.std.proofs.Common.{◌≡◌, ℕ, true, false, List, [], ◌∷◌, ◌++◌, Option, Some, refl, ap, ◌∙◌}
use Rattle.std.specs.Borrow.{Bor}
use Rattle.sch_read.specs.Grammar.{Datum, Data, list, none, cons}
use Rattle.sch_names.specs.Scope.{Scope, VariableNames}
use Rattle.sch_names.specs.ScopeView.{given_names}
use Rattle.sch_sketch.specs.declared.sketch.Row.TheVariants.{Body}
use Rattle.sch_sketch.specs.Draft.{local}
use Rattle.sch_sketch.specs.Sketch.{Sketch, rest, leaf, node, no_sketch, and_sketch, recurring, abstracting, calling}
use Rattle.sch_sketch.specs.Small.{one, two}
use Rattle.sch_form_bindings.specs.Bindings.{bound, inits}
use Rattle.sch_form_bindings.specs.Binders.{is_binding_form, looping, row_named}

pub looping_made : (at : ℕ) (f : Bor (List ℕ)) (vs : VariableNames) (es : Data) (own own0 : List (Option (Bor (List ℕ)))) (k p q r : Sketch) → own0 ≡ [] → own ≡ own0 ++ Some f ∷ [] →
    r ≡ rest Body at es none → p ≡ node (abstracting vs false) at (one r) → q ≡ leaf at (local 0) → k ≡ node (recurring (given_names own) true) at (two p q) → k ≡ looping at f.now vs es
looping_made at f vs es own own0 k p q r z o e g h m = m ∙ rw (o, z, g, e, h) refl

pub named_made : (s : Scope) (at : ℕ) (f : List ℕ) {xs es bs : Data} {b : Datum} {q : ℕ} {vs ws : VariableNames} {k p : Sketch} → xs ≡ cons b es → b ≡ list q bs →
    is_binding_form (Some f ∷ s) bs es ≡ true → vs ≡ bound bs → ws ≡ vs → p ≡ looping at f vs es → k ≡ node (calling ws) at (and_sketch p (inits bs no_sketch)) → k ≡ row_named s at f xs
named_made s at f {xs} {es} {bs} {b} {q} e h t v w o m = m ∙ rw (o, w, v, e ∙ ap (λ d. cons d es) h, t) refl
