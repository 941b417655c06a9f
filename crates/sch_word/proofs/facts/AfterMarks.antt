-- The activations behind marks that follow others.
use Rattle.std.proofs.Common.{◌≡◌, List, [], ◌∷◌, ◌++◌, refl}
use Rattle.sch_word.specs.declared.mark.MarkKind.{MarkKind}
use Rattle.sch_word.specs.runs.Activations.{Activations, after, pass, settled}

pub after_both : (a : Activations) (first more : List MarkKind) → after a (first ++ more) ≡ after (after a first) more
after_both a [] more = refl
after_both a (m ∷ first) more = after_both (pass m (settled m a)) first more
