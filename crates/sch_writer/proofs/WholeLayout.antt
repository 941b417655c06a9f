-- What is written in parts, one after the other, is laid out whole.
use Rattle.std.proofs.Common.{◌≡◌, ℕ, Bool, List, [], ◌∷◌, ◌++◌, None, Option, refl, sym, ap, ◌∙◌, append-nil}
use Rattle.std.specs.Prelude.{filter}
use Rattle.sch_control.specs.declared.body.Entry.{Entry}
use Rattle.sch_control.specs.declared.operation.Member.{Member}
use Rattle.sch_control.specs.declared.tree.Exp.{Exp}
use Rattle.sch_control.specs.Meaning.{no_region}
use Rattle.sch_control.specs.Tree.{Expression, fix}
use Rattle.sch_control.specs.Valid.{member_variables}
use Rattle.sch_control.specs.View.{expression_with}
use Rattle.sch_frames.specs.declared.instruction.Instruction.{Instruction}
use Rattle.sch_frames.specs.declared.instruction.Instruction.TheVariants.{Fix}
use Rattle.sch_word.specs.values.Places.{is_slot}
use Rattle.sch_layout.specs.BodyLayout.{Plan, entering, labels, lay, members_at, stored}

pub whole_written : (plan : Plan) (entry : Option Entry) (e : Expression) (n : ℕ) (start first second : List Instruction) → start ≡ [] → n ≡ 0
    → ((rest : List Instruction) → first ++ rest ≡ start ++ entering plan entry rest)
    → ((rest : List Instruction) → second ++ rest ≡ first ++ lay plan e no_region n None rest)
    → second ≡ entering plan entry (lay plan e no_region 0 None [])
whole_written plan entry e n start first second s z h h' = sym (append-nil second) ∙ (h' [] ∙ (h _ ∙ rw (s, z) refl))

-- a group, and then the expression round which it stands
pub group_written : {C : Type 0} (plan : Plan) (restores : C → List ℕ) (inside : ℕ → Bool) (members members' : List (Member ℕ)) (e e' : Exp C) (n n' : ℕ) (test : Option ℕ) (before first second rest : List Instruction)
    → members' ≡ members → e' ≡ e → n' ≡ n
    → ((rest : List Instruction) → first ++ rest
    ≡ before ++ (Fix (members_at plan.place members') (filter (λ x. is_slot (plan.place x)) (member_variables members')) ∷ stored plan (filter inside (member_variables members')) rest))
    → second ++ rest ≡ first ++ lay plan (expression_with restores e') inside n' test rest
    → second ++ rest ≡ before ++ lay plan (fix members (expression_with restores e)) inside n test rest
group_written plan restores inside members members' e e' n n' test before first second rest m i l h h' = h' ∙ (h _ ∙ rw (m, i, l) refl)

-- an expression that is read through a pointer has as many labels as itself
pub labels_same : {C : Type 0} (restores : C → List ℕ) (e e' : Exp C) → e ≡ e' → labels (expression_with restores e) ≡ labels (expression_with restores e')
labels_same restores e e' is = ap (λ e. labels (expression_with restores e)) is
