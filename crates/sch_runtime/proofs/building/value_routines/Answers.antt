use Rattle.std.proofs.Common.{◌≡◌, List, [], ◌∷◌, ◌++◌, sym, ap, ◌∙◌, append_assoc, append-nil}
use Rattle.std.proofs.lemmas.Result.{on_ok_weaker}
use Rattle.sch_asm.specs.declared.item.Item.{Item}
use Rattle.sch_asm.specs.declared.item.Item.TheVariants as item
use Rattle.sch_select_memory.specs.MakeCode.{make_string_code, make_vector_code}
use Rattle.sch_select_memory.specs.PutCode.{put_value_code}
use Rattle.sch_select_memory.specs.RestCode.{rest_routine}
use Rattle.sch_select_memory.specs.Addresses.{put_label, string_label, vector_label}
use Rattle.sch_runtime.proofs.building.value_routines.Goals as goal

-- routines that stand one behind the other
one_behind : (a b c d e put lists : List Item) (vector string : List Item → List Item) → b ≡ a ++ put
    → ((rest : List Item) → c ++ rest ≡ b ++ vector rest) → ((rest : List Item) → d ++ rest ≡ c ++ string rest)
    → e ++ [] ≡ d ++ lists → e ≡ a ++ (put ++ vector (string lists))
one_behind a b c d e put lists vector string at_b at_c at_d at_e =
    sym (append-nil e) ∙ at_e ∙ at_d lists ∙ at_c (string lists) ∙ ap (λ l. l ++ vector (string lists)) at_b
    ∙ append_assoc a put (vector (string lists))

pub returns : goal.returns
returns c =
    let end = c.args.heap_end in
    on_ok_weaker c.rest_routine.result
    (λ h. one_behind c.args.items.now _ _ _ _ (item.Label put_label ∷ put_value_code) (rest_routine end [])
    (λ rest. item.Label vector_label ∷ make_vector_code end rest) (λ rest. item.Label string_label ∷ make_string_code end rest)
    c.in_ok-put_routine.ensures c.in_ok-vector_routine.ensures c.in_ok-string_routine.ensures (h [])) c.rest_routine.ensures
