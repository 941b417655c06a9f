-- Words that are put with the last one first, and words that fill whole units.
use Rattle.std.proofs.Common.{◌≡◌, ℕ, zero, suc, ◌+◌, ◌*◌, ◌%◌, ◌<◌, List, [], ◌∷◌, ◌++◌, length, take, drop, get_or, reverse, refl, sym, ap, ◌∙◌, arith, append_assoc}
use Rattle.std.specs.Int.{w64, from_le_bytes}
use Rattle.std.proofs.lemmas.Grind.{reverse_onto}
use Rattle.std.proofs.lemmas.List.{drop-drop, reverse-append, take_more}
use Rattle.sch_select_data.specs.ObjectWords.{text_words, in_units}
use Rattle.sch_select_data.specs.PlacedWords.{list_word, linked_words}

-- ---- whole units

pub filled_even : (ws : List ℕ) → length ws % 2 ≡ 0 → in_units ws ≡ ws
filled_even [] e = refl
filled_even (a ∷ []) e = absurd (let bad : 1 ≡ 0 = e in omega (arith, bad))
filled_even (a ∷ (b ∷ ws)) e = ap (λ l. a ∷ (b ∷ l)) (filled_even ws (omega (arith, e)))

pub filled_odd : (ws : List ℕ) → length ws % 2 ≡ 1 → in_units ws ≡ ws ++ 0 ∷ []
filled_odd [] e = absurd (let bad : 0 ≡ 1 = e in omega (arith, bad))
filled_odd (a ∷ []) e = refl
filled_odd (a ∷ (b ∷ ws)) e = ap (λ l. a ∷ (b ∷ l)) (filled_odd ws (omega (arith, e)))

-- ---- one word more of a text

pub text_more : (k : ℕ) (bytes : List ℕ) → text_words (k + 1) bytes ≡ text_words k bytes ++ from_le_bytes w64 (drop (8 * k) bytes) ∷ []
text_more zero bytes = refl
text_more (suc k) bytes =
    let n : suc k + 1 ≡ suc (k + 1) = omega arith in
    let m : 8 + 8 * k ≡ 8 * suc k = omega arith in
    ap (λ n. text_words n bytes) n
    ∙ ap (λ l. from_le_bytes w64 bytes ∷ l) (text_more k (drop 8 bytes))
    ∙ ap (λ d. text_words (suc k) bytes ++ from_le_bytes w64 d ∷ []) (drop-drop (8 * k) 8 bytes ∙ ap (λ m. drop m bytes) m)

-- ---- one pair more

-- the elements so far, the last one first
pub taken_more : (vs : List ℕ) (k v : ℕ) → k < length vs → v ≡ get_or vs k v → reverse (take (k + 1) vs) ≡ v ∷ reverse (take k vs)
taken_more vs k v lt e =
    ap reverse (take_more vs k v lt) ∙ ap (λ x. reverse (take k vs ++ x ∷ [])) (sym e) ∙ reverse-append (take k vs) (v ∷ [])

pub pairs_more : (before words vs : List ℕ) (v unit last rest : ℕ) → words ≡ before ++ reverse (linked_words (suc unit) vs last) → rest ≡ list_word (suc unit) vs last
    → (words ++ rest ∷ []) ++ v ∷ [] ≡ before ++ reverse (linked_words unit (v ∷ vs) last)
pairs_more before words vs v unit last rest e r =
    let old = reverse (linked_words (suc unit) vs last) in
    append_assoc words (rest ∷ []) (v ∷ [])
    ∙ ap (λ w. w ++ rest ∷ (v ∷ [])) e
    ∙ ap (λ x. (before ++ old) ++ x ∷ (v ∷ [])) r
    ∙ append_assoc before old (list_word (suc unit) vs last ∷ (v ∷ []))
    ∙ ap (λ l. before ++ l) (sym (reverse_onto (linked_words (suc unit) vs last) (list_word (suc unit) vs last) (v ∷ [])))
