-- Where the bodies of a program stand.
use Rattle.std.proofs.Common.{◌≡◌, ℕ, zero, suc, ◌+◌, ◌-◌, Bool, true, false, List, [], ◌∷◌, Option, Some, None, sym, ap, ◌∙◌, subst, arith}
use Rattle.std.specs.Prelude.{nat_lt, slice_get}
use Rattle.sch_control.specs.declared.body.Entry.{Entry}
use Rattle.sch_frames.specs.Tree.{Code}
use Rattle.sch_asm.specs.declared.item.Item.{Item}
use Rattle.sch_asm.specs.declared.item.Item.TheVariants as item
use Rattle.sch_word.specs.declared.mark.MarkKind.TheVariants.{Enter}
use Rattle.sch_asm.specs.Stands.{Setting, Stands}
use Rattle.sch_select_memory.specs.RestCode.{list_code}
use Rattle.sch_select_memory.specs.Addresses.{body_label}
use Rattle.sch_select.specs.Select.{body_code}
use Rattle.sch_select.specs.Program.{passed_code, count_code, entry_code, forms_code, labels_end}
use Rattle.sch_select.proofs.items.AppendedItems.{body_appends, behind}
use Rattle.sch_select_memory.proofs.Places.{Plan, code_of}
use Rattle.sch_select.proofs.programs.Procedures.{BodyAt}

-- what stands behind the check of a procedure's operands
list_past : (setting : Setting) (b : Bool) (required n a : ℕ) (rest : List Item)
    → Stands setting [] a (list_code b required n rest) → (behind : ℕ) × Stands setting [] behind rest
list_past setting true required n a rest h = (_, h.4.4.2)
list_past setting false required n a rest h = (_, h.2.4.4.2)

pub count_past : (setting : Setting) (b : Bool) (formals n a : ℕ) (rest : List Item)
    → Stands setting [] a (count_code b formals n rest) → (behind : ℕ) × Stands setting [] behind rest
count_past setting false formals n a rest h = (_, h.2.4)
count_past setting true formals n a rest h = list_past setting (nat_lt (formals - 1) 6) (formals - 1) n _ rest h.2.4.2

module _ (plan : Plan) where
  open plan use {setting, words, literals, stack}

  -- what stands from the mark of a body on
  abbrev pub entered_code : (label n : ℕ) → Code → List Item → List Item
  entered_code label n c following = item.Mark (Enter label) ∷ body_code n (n + c.labels) words stack literals
      (n + c.labels + 2) c.instructions (item.Label (n + c.labels) ∷ following)

  -- what stands behind a body
  pub after_body : (label n a : ℕ) (c : Code) (following : List Item)
      → Stands setting [] a (entered_code label n c following)
      → Stands setting [] (setting.place_of (n + c.labels)) following
  after_body label n a c following h =
      let out = n + c.labels in
      let b = behind setting (body_code n out words stack literals (n + c.labels + 2) c.instructions [])
      (item.Label out ∷ following) (Enter label ∷ []) a (subst (Stands setting (Enter label ∷ []) a)
      (body_appends n out words stack literals (n + c.labels + 2) c.instructions (item.Label out ∷ following)) h) in
      subst (λ a. Stands setting [] a following) (sym b.stands.1) b.stands.2

  -- what stands behind one body, be it a form's or a procedure's
  after_form : (o : Option Entry) (label n a : ℕ) (c : Code) (following : List Item)
      → Stands setting [] a (passed_code o (n + c.labels)
      (item.Label (body_label label) ∷ entry_code o (n + c.labels + 1) (entered_code label n c following)))
      → Stands setting [] (setting.place_of (n + c.labels)) following
  after_form None label n a c following h = after_body label n a c following h.2
  after_form (Some e) label n a c following h =
      let b = count_past setting e.rest e.formals (n + c.labels + 1) _ (entered_code label n c following) h.4.2 in
      after_body label n b.0 c following b.1

  procedure_at : (o : Option Entry) (e : Entry) (label n a : ℕ) (c : Code) (following : List Item) → o ≡ Some e
      → Stands setting [] a (passed_code o (n + c.labels)
      (item.Label (body_label label) ∷ entry_code o (n + c.labels + 1) (entered_code label n c following))) → BodyAt plan label c e
  procedure_at None e label n a c following i h = absurd (let bad : None ≡ Some e = i in cc)
  procedure_at (Some q) e label n a c following i h =
      let same : q ≡ e = cc in
      record {
        n = n;
        following = following;
        stands = subst (λ e. Stands setting [] (code_of plan label)
            (count_code e.rest e.formals (n + c.labels + 1) (entered_code label n c following))) same
            (subst (λ a. Stands setting [] a (count_code q.rest q.formals (n + c.labels + 1) (entered_code label n c following))) (sym h.4.1)
            h.4.2);
      }

  pub bodies_stand : (cs : List Code) (label n a : ℕ) (rest : List Item)
      → Stands setting [] a (forms_code words stack literals label n cs rest) → (i : ℕ) (c : Code) (e : Entry)
      → slice_get cs i ≡ Some c → c.entry ≡ Some e → BodyAt plan (label + i) c e
  bodies_stand [] label n a rest h i c e is o = absurd (let bad : None ≡ Some c = is in cc)
  bodies_stand (k ∷ cs) label n a rest h zero c e is o =
      let j : Some k ≡ Some c = is in
      let same : k ≡ c = cc in
      let z : label ≡ label + 0 = omega arith in
      subst (λ l. BodyAt plan l c e) z
      (subst (λ c. BodyAt plan label c e) same (procedure_at k.entry e label n a k
      (forms_code words stack literals (suc label) (labels_end n k) cs rest) (ap (λ c. c.entry) same ∙ o) h))
  bodies_stand (k ∷ cs) label n a rest h (suc i) c e is o =
      let z : suc label + i ≡ label + suc i = omega arith in
      subst (λ l. BodyAt plan l c e) z
      (bodies_stand cs (suc label) (labels_end n k) (setting.place_of (n + k.labels)) rest
      (after_form k.entry label n a k (forms_code words stack literals (suc label) (labels_end n k) cs rest) h) i c e is o)
