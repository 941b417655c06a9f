-- Places from sets that are noted rightly are the places of the body.
use Rattle.std.proofs.Common.{◌≡◌, [], ◌∷◌, refl, ap, ◌∙◌}
use Rattle.std.specs.Prelude.{not, nat_eq, ◌&&◌}
use Rattle.std.proofs.Math.Path.{fun_ext}
use Rattle.std.proofs.lemmas.Bool.{eq-eqb}
use Rattle.sch_word.proofs.facts.Booleans.{or_left}
use Rattle.sch_control.specs.Tree.{Expression, perform, bind, sequence, branch, fix, call, tail_call, return, end, save}
use Rattle.sch_control.specs.Valid.{member_variables}
use Rattle.sch_control.specs.flow.LiveTests.{is_live, Behind}
use Rattle.sch_regs.specs.PlaceChoice.{Table, choose, choose_each, live_first, assign}
use Rattle.sch_regs.specs.NotedSets.{Noted, IsNoted, assign_noted}

module _ (noted : Noted) where
  pub noted_places : (e : Expression) (l : Behind) → IsNoted noted e l → (t : Table) → assign_noted noted e t ≡ assign e l t
  noted_places (perform o) l n t = refl
  noted_places (bind y a b) l n t =
      noted_places b l n.1.1 _ ∙ (ap (λ s. assign b l (choose (noted y) y s)) (noted_places a _ n.1.0 t)
      ∙ ap (λ f. assign b l (choose f y (assign a (λ x r. not (nat_eq x y) && is_live x b (l x)) t))) (fun_ext n.0))
  noted_places (sequence a b) l n t = noted_places b l n.1 _ ∙ ap (λ s. assign b l s) (noted_places a _ n.0 t)
  noted_places (branch a b c) l n t =
      noted_places c l n.1.1 _ ∙ (ap (λ s. assign c l s) (noted_places b l n.1.0 _) ∙ ap (λ s. assign c l (assign b l s)) (noted_places a _ n.0 t))
  noted_places (fix [] e) l n t = noted_places e l n.1 t
  noted_places (fix (m ∷ members) e) l n t =
      noted_places e l n.1 _
      ∙ ap (λ f. assign e l (choose_each f (live_first f (m.at ∷ member_variables members)) t)) (fun_ext (n.0 m.at (or_left (nat_eq m.at m.at) _ (eq-eqb m.at m.at refl))))
  noted_places (call a restores) l n t = refl
  noted_places (tail_call a) l n t = refl
  noted_places (return e) l n t = noted_places e _ n t
  noted_places (end e) l n t = noted_places e _ n t
  noted_places (save saves e) l n t = noted_places e l n t
