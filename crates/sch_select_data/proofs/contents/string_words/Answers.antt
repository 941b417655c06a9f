use Rattle.std.proofs.Common.{◌*◌, ◌++◌, ◌∷◌, [], length, sym, ap, ◌∙◌}
use Rattle.sch_select_data.specs.ObjectWords.{text_words}
use Rattle.sch_select_data.proofs.literals.ReversedWords.{text_more}
use Rattle.sch_select_data.proofs.contents.string_words.Goals as goal

pub loop-k-preserved : goal.loop-k-preserved
loop-k-preserved c =
    let text = c.args.text.now in
    let before = 8 * length text ∷ text_words c.loop-k.k text in
    c.in_ok-push-2.ensures.ok
    ∙ ap (λ l. l ++ c.word_at.result ∷ []) c.loop-k.invariant
    ∙ ap (λ w. before ++ w ∷ []) c.word_at.ensures
    ∙ ap (λ l. 8 * length text ∷ l) (sym (text_more c.loop-k.k text))
