use Rattle.std.proofs.Common.{◌≡◌, List, [], ◌∷◌, ◌++◌, ap, ◌∙◌}
use Rattle.std.proofs.lemmas.Result.{on_ok_weaker}
use Rattle.sch_frames.specs.SourceView.{codes_of}
use Rattle.sch_asm.specs.declared.item.Item.{Item}
use Rattle.sch_asm.specs.declared.item.Item.TheVariants as item
use Rattle.sch_select.specs.Program.{forms_code}
use Rattle.sch_select.proofs.selecting.put_bodies.Goals as goal

-- the bodies, and the jump behind them
joined : (start f p : List Item) (j k : Item) (forms : List Item → List Item) → ((rest : List Item) → f ++ rest ≡ start ++ forms rest) → p ≡ f ++ j ∷ []
    → j ≡ k → p ≡ start ++ forms (k ∷ [])
joined start f p j k forms at_f at_p same = at_p ∙ at_f (j ∷ []) ∙ ap (λ i. start ++ forms (i ∷ [])) same

pub returns : goal.returns
returns c =
    let a = c.args in
    let forms = forms_code a.frames.words a.frames.heap_end a.frames.literals 0 a.n (codes_of a.bodies.now) in
    on_ok_weaker c.push.result
    (λ h. joined a.items.now _ _ _ _ forms c.in_ok-forms.ensures h (ap item.Jump c.label.ensures)) c.push.ensures.ok
