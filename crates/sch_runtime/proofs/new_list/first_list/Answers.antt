use Rattle.std.proofs.Common.{◌≡◌, List, [], ◌∷◌, ◌++◌, ap, ◌∙◌, append_assoc}
use Rattle.std.proofs.lemmas.Result.{on_ok_weaker}
use Rattle.sch_asm.specs.declared.item.Item.{Item}
use Rattle.sch_asm.specs.declared.item.Item.TheVariants as item
use Rattle.sch_select_memory.specs.RestCode.{check_pairs, first_code, list_label}
use Rattle.sch_runtime.proofs.new_list.first_list.Goals as goal

-- a label, the check behind it, and what is behind that
one_behind : (a b c d : List Item) (i j : Item) (check code : List Item → List Item) → b ≡ a ++ i ∷ [] → i ≡ j
    → ((rest : List Item) → c ++ rest ≡ b ++ check rest) → ((rest : List Item) → d ++ rest ≡ c ++ code rest)
    → (rest : List Item) → d ++ rest ≡ a ++ j ∷ check (code rest)
one_behind a b c d i j check code at_b same at_c at_d rest =
    at_d rest ∙ at_c (code rest) ∙ ap (λ l. l ++ check (code rest)) at_b ∙ append_assoc a (i ∷ []) (check (code rest))
    ∙ ap (λ k. a ++ k ∷ check (code rest)) same

pub returns : goal.returns
returns c = on_ok_weaker c.first_register.result
    (one_behind c.args.out.now _ _ _ _ (item.Label (list_label c.args.m)) (check_pairs c.args.heap_end) (first_code c.args.m c.args.r)
    c.in_ok-push.ensures.ok (ap item.Label c.list_label.ensures) c.in_ok-check_list.ensures) c.first_register.ensures
