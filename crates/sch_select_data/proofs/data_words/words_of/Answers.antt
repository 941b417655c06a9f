use Rattle.std.proofs.Common.{◌≡◌, ◌-◌, ◌%◌, ℕ, List, [], ◌∷◌, ◌++◌, map, replicate, ap, ◌∙◌, suc, arith}
use Rattle.sch_asm.specs.declared.assembly.Word.{Word}
use Rattle.sch_asm.specs.declared.assembly.Word.TheVariants.{Fixed}
use Rattle.sch_asm.specs.declared.routine.TheConstants.{OWN_WORDS}
use Rattle.sch_word.specs.values.StaticsView.{statics}
use Rattle.sch_word.proofs.facts.Lists.{append_behind}
use Rattle.sch_select_data.specs.Data.{closure_words, global_words, padding, static_count, word_list}
use Rattle.sch_select_memory.specs.StaticBytes.{static_bytes}
use Rattle.sch_select_data.specs.NameWords.{symbol_words}
use Rattle.sch_select_data.proofs.data_words.words_of.Goals as goal

-- lists that are put behind one another
joined : (x y v g s p c o a1 a2 a3 a4 a5 a6 a7 a8 : List Word) (n : Word) → a1 ≡ x ++ y → a2 ≡ a1 ++ n ∷ [] → a3 ≡ a2 ++ v
    → a4 ≡ a3 ++ g → a5 ≡ a4 ++ s → a6 ≡ a5 ++ p → a7 ≡ a6 ++ c → a8 ≡ a7 ++ o
    → a8 ≡ x ++ (y ++ (n ∷ (v ++ (g ++ (s ++ (p ++ (c ++ o)))))))
joined x y v g s p c o a1 a2 a3 a4 a5 a6 a7 a8 n e1 e2 e3 e4 e5 e6 e7 e8 =
    e8 ∙ append_behind a7 a6 c o e7 ∙ append_behind a6 a5 p (c ++ o) e6 ∙ append_behind a5 a4 s (p ++ (c ++ o)) e5
    ∙ append_behind a4 a3 g (s ++ (p ++ (c ++ o))) e4 ∙ append_behind a3 a2 v (g ++ (s ++ (p ++ (c ++ o)))) e3
    ∙ append_behind a2 a1 (n ∷ []) (v ++ (g ++ (s ++ (p ++ (c ++ o))))) e2
    ∙ append_behind a1 x y (n ∷ (v ++ (g ++ (s ++ (p ++ (c ++ o)))))) e1

odd : (count total : ℕ) → count ≡ total → 1 - count % 2 ≡ suc total % 2
odd count total e = omega (arith, e)

pub returns : goal.returns
returns c =
    let a = c.args in
    joined (replicate OWN_WORDS (Fixed 0)) (word_list static_bytes) _ (global_words a.places.closures a.p.now.statics.globals)
    (map Fixed (symbol_words a.places.names a.p.now.statics.symbols)) (padding (static_count (statics a.p.now.statics)))
    (closure_words a.p.now.library) _ _ _ _ _ _ _ _ _ (Fixed a.places.names) c.in_ok-words.ensures c.in_ok-push.ensures.ok
    (c.in_ok-append.ensures.ok ∙ ap (λ l. c.push.new.self ++ l) c.requires.values)
    (c.in_ok-push_globals.ensures ∙ ap (λ l. c.append.new.self ++ global_words a.places.closures l) c.as_slice.ensures)
    (c.in_ok-push_symbols.ensures ∙ ap (λ l. c.push_globals.new.words ++ map Fixed (symbol_words a.places.names l)) c.as_slice-2.ensures)
    (c.in_ok-append-2.ensures.ok ∙ ap (λ l. c.push_symbols.new.words ++ l) (c.in_ok-same_words.ensures
    ∙ ap (λ n. replicate n (Fixed 0)) (odd a.places.count (static_count (statics a.p.now.statics)) c.requires.count)))
    (c.in_ok-push_closures.ensures ∙ ap (λ l. c.append-2.new.self ++ closure_words l) c.as_slice-3.ensures)
    (c.in_ok-append-3.ensures.ok ∙ ap (λ l. c.push_closures.new.words ++ l) c.requires.objects)
