-- What stands behind bodies is appended to their items.
use Rattle.std.proofs.Common.{ℕ, suc, ◌+◌, List, [], ◌∷◌, refl, ap}
use Rattle.sch_frames.specs.Tree.{Code}
use Rattle.sch_asm.specs.declared.item.Item.TheVariants as item
use Rattle.sch_word.specs.declared.mark.MarkKind.TheVariants.{Enter}
use Rattle.sch_select_memory.specs.Addresses.{body_label}
use Rattle.sch_select.specs.Program.{entry_code, form_code, forms_code, labels_end, passed_code}
use Rattle.sch_select.specs.Select.{body_code}
use Rattle.sch_select.proofs.items.AppendedItems.{Appends, then_appends, body_appends}
use Rattle.sch_select.proofs.items.RestItems.{entry_appends, passed_appends}

module _ (words heap_end literals : ℕ) where
  form_appends : (label n : ℕ) (c : Code) → Appends (form_code words heap_end literals label n c)
  form_appends label n c rest =
      then_appends (passed_code c.entry (n + c.labels)) (λ rest. item.Label (body_label label) ∷ entry_code c.entry (n + c.labels + 1)
      (item.Mark (Enter label) ∷ body_code n (n + c.labels) words heap_end literals (n + c.labels + 2) c.instructions
      (item.Label (n + c.labels) ∷ rest))) (passed_appends c.entry (n + c.labels))
      (λ rest. ap (λ l. item.Label (body_label label) ∷ l)
      (then_appends (entry_code c.entry (n + c.labels + 1)) (λ rest. item.Mark (Enter label) ∷ body_code n (n + c.labels) words
      heap_end literals (n + c.labels + 2) c.instructions (item.Label (n + c.labels) ∷ rest)) (entry_appends c.entry (n + c.labels + 1))
      (λ rest. ap (λ l. item.Mark (Enter label) ∷ l) (then_appends
      (body_code n (n + c.labels) words heap_end literals (n + c.labels + 2) c.instructions)
      (λ rest. item.Label (n + c.labels) ∷ rest) (body_appends n (n + c.labels) words heap_end literals
      (n + c.labels + 2) c.instructions) (λ rest. refl) rest)) rest)) rest

  pub forms_appends : (label n : ℕ) (cs : List Code) → Appends (forms_code words heap_end literals label n cs)
  forms_appends label n [] rest = refl
  forms_appends label n (c ∷ cs) rest = then_appends (form_code words heap_end literals label n c)
      (forms_code words heap_end literals (suc label) (labels_end n c) cs) (form_appends label n c)
      (forms_appends (suc label) (labels_end n c) cs) rest
