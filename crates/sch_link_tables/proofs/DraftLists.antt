-- Lists of drafts in loops.
use Rattle.std.proofs.Common.{◌≡◌, ℕ, suc, ◌<◌, ◌≤◌, List, [], ◌∷◌, length, drop, get_or, refl, sym, ap, ◌∙◌}
use Rattle.std.proofs.lemmas.List.{drop_all}
use Rattle.sch_word.proofs.facts.Lists.{next_left}
use Rattle.sch_sketch.specs.declared.draft.Draft as code
use Rattle.sch_sketch.specs.Draft.{count, and_draft, no_drafts}
use Rattle.sch_sketch.specs.DraftView.{draft_of, drafts_of}

pub next_draft : (es : List code.Draft) (i : ℕ) (e : code.Draft) → i < length es → e ≡ get_or es i e → drafts_of (drop i es) ≡ and_draft (draft_of e) (drafts_of (drop (suc i) es))
next_draft es i e l h = ap drafts_of (next_left es i e l h)

pub no_draft : (es : List code.Draft) (i : ℕ) → length es ≤ i → drafts_of (drop i es) ≡ no_drafts
no_draft es i l = ap drafts_of (drop_all i es l)

count_is : (es : List code.Draft) → count (drafts_of es) ≡ length es
count_is [] = refl
count_is (e ∷ es) = ap suc (count_is es)

pub width_is : {n : ℕ} {es : List code.Draft} (xs : List code.Draft) → n ≡ length es → xs ≡ es → n ≡ count (drafts_of xs)
width_is xs h e = h ∙ ap length (sym e) ∙ sym (count_is xs)
