-- The words of a text, one after the other.
use Rattle.std.proofs.Common.{◌≡◌, ℕ, suc, ◌+◌, ◌-◌, ◌*◌, ◌<◌, ◌≤◌, List, [], ◌∷◌, ◌++◌, map, drop, sym, ap, ◌∙◌, arith, append-nil, append_assoc}
use Rattle.std.specs.Int.{w64, from_le_bytes}
use Rattle.std.proofs.lemmas.List.{drop-drop}
use Rattle.sch_asm.specs.declared.assembly.Word.{Word}
use Rattle.sch_asm.specs.declared.assembly.Word.TheVariants.{Fixed}
use Rattle.sch_select_data.specs.ObjectWords.{text_words}

-- those from one on, of n
abbrev pub words_from : (n k : ℕ) → List ℕ → List Word
words_from n k text = map Fixed (text_words (n - k) (drop (8 * k) text))

first_of : (m n : ℕ) (text : List ℕ) → n ≡ suc m → map Fixed (text_words n text) ≡ Fixed (from_le_bytes w64 text) ∷ map Fixed (text_words m (drop 8 text))
first_of m n text e = ap (λ n. map Fixed (text_words n text)) e

words_step : (n k : ℕ) (text : List ℕ) → k < n → words_from n k text ≡ Fixed (from_le_bytes w64 (drop (8 * k) text)) ∷ words_from n (k + 1) text
words_step n k text lt =
    let z : 8 * k + 8 ≡ 8 * (k + 1) = omega arith in
    first_of (n - (k + 1)) (n - k) (drop (8 * k) text) (omega (arith, lt))
    ∙ ap (λ l. Fixed (from_le_bytes w64 (drop (8 * k) text)) ∷ map Fixed (text_words (n - (k + 1)) l)) (drop-drop 8 (8 * k) text ∙ ap (λ m. drop m text) z)

pub text_begins : (n : ℕ) (text : List ℕ) (ws : List Word) → ws ++ map Fixed (text_words (n - 0) text) ≡ ws ++ map Fixed (text_words n text)
text_begins n text ws = let z : n - 0 ≡ n = omega arith in ap (λ n. ws ++ map Fixed (text_words n text)) z

pub text_goes_on : (n k w : ℕ) (text : List ℕ) (ws new all : List Word) → k < n → w ≡ from_le_bytes w64 (drop (8 * k) text)
    → new ≡ ws ++ Fixed w ∷ [] → ws ++ words_from n k text ≡ all → new ++ words_from n (k + 1) text ≡ all
text_goes_on n k w text ws new all lt e is h =
    ap (λ l. l ++ words_from n (k + 1) text) (is ∙ ap (λ w. ws ++ Fixed w ∷ []) e)
    ∙ append_assoc ws (Fixed (from_le_bytes w64 (drop (8 * k) text)) ∷ []) (words_from n (k + 1) text)
    ∙ ap (λ l. ws ++ l) (sym (words_step n k text lt)) ∙ h

pub text_ends : (n k : ℕ) (text : List ℕ) (ws all : List Word) → n ≤ k → ws ++ words_from n k text ≡ all → ws ≡ all
text_ends n k text ws all le h =
    let z : n - k ≡ 0 = omega (arith, le) in
    sym (append-nil ws) ∙ ap (λ n. ws ++ map Fixed (text_words n (drop (8 * k) text))) (sym z) ∙ h
