-- One more byte of a text.
use Rattle.std.proofs.Common.{◌≡◌, ℕ, ◌+◌, ◌-◌, ◌<◌, ◌≤◌, List, [], ◌∷◌, ◌++◌, length, take, drop, get_or, refl, ap, sym, ◌∙◌, subst, arith, add-one, drop-cons, Bool, true, false, length-drop, append_assoc}
use Rattle.std.specs.Prelude.{slice_range, Some, None, if◌then◌else◌}
use Rattle.std.proofs.lemmas.Grind.{common_steps}
use Rattle.std.proofs.lemmas.List.{take_more, append-nil}
use Rattle.sch_read.specs.Grammar.{Token}
use Rattle.sch_read.specs.Lexer.Lexeme.{is_lexeme}
use Rattle.sch_read.specs.Lexer.Token.{token_at}
use Rattle.sch_read.specs.Lexer.Scan.{scan}
use Rattle.sch_read.specs.Lexer.Stages.{can_follow, GoesOn, IsAtStage}
use Rattle.sch_read.specs.Lexer.PartialLexeme.{IsMet, left}
use Rattle.sch_read.specs.declared.reader.Lexeme.{Lexeme}
use Rattle.sch_read.specs.declared.lexeme.Stage.{Stage}

drop_next : (s : List ℕ) (i : ℕ) → i < length s → drop i s ≡ get_or s i 0 ∷ drop (i + 1) s
drop_next s i h = rw (add-one, drop-cons s i 0) refl

range_one : (s : List ℕ) (i : ℕ) → i < length s → slice_range s i (i + 1) ≡ get_or s i 0 ∷ []
range_one s i h = grind (arith, common_steps, drop_next)

range_more : (s : List ℕ) (p i : ℕ) → p ≤ i → i < length s → slice_range s p (i + 1) ≡ slice_range s p i ++ get_or s i 0 ∷ []
range_more s p i l h =
    let a : i + 1 - p ≡ (i - p) + 1 = omega arith in
    let b : i - p < length (drop p s) = simp length-drop (omega arith) in
    let d : get_or (drop p s) (i - p) 0 ≡ get_or s i 0 = grind (arith, common_steps) in
    ap (λ n. take n (drop p s)) a ∙ take_more (drop p s) (i - p) 0 b ∙ ap (λ v. take (i - p) (drop p s) ++ v ∷ []) d

range_length : (s : List ℕ) (p i : ℕ) → p ≤ i → i < length s → p + length (slice_range s p i) ≡ i
range_length s p i l h = grind (arith, common_steps)

-- a byte goes on with the part that was met
part-more : (part : List ℕ) (b : ℕ) (before after : Stage) → IsAtStage before part → GoesOn before b (Some after) → IsAtStage after (part ++ b ∷ [])
part-more part b before after met on bs = ap is_lexeme (append_assoc part (b ∷ []) bs) ∙ met (b ∷ bs) ∙ on.0 bs

pub met_more : (text : List ℕ) (i : ℕ) (lexeme : Lexeme) (stage : Stage) → i < length text → IsMet text i lexeme →
    GoesOn lexeme.stage (get_or text i 0) (Some stage) → IsMet text (i + 1) (record { start = lexeme.start; stage = stage })
met_more text i lexeme stage h met on = record {
  before = omega arith;
  at_stage = (let P : List ℕ → Type 0 = λ v. IsAtStage stage v in
      subst P (sym (range_more text lexeme.start i met.before h)) (part-more (slice_range text lexeme.start i) (get_or text i 0) lexeme.stage stage met.at_stage on));
}

abbrev ScanStep : ℕ → List ℕ → ℕ → List ℕ → Bool → List Token
ScanStep start part b bs t = if t then scan start (part ++ b ∷ []) bs else token_at start part ++ scan (start + length part) (b ∷ []) bs

left-step : (text : List ℕ) (i : ℕ) (lexeme : Lexeme) → i < length text → IsMet text i lexeme → (t : Bool) → can_follow lexeme.stage (get_or text i 0 ∷ []) ≡ t →
    left text i lexeme ≡ ScanStep lexeme.start (slice_range text lexeme.start i) (get_or text i 0) (drop (i + 1) text) t
left-step text i lexeme h met t e =
    let part = slice_range text lexeme.start i in
    ap (scan lexeme.start part) (drop_next text i h)
    ∙ ap (ScanStep lexeme.start part (get_or text i 0) (drop (i + 1) text)) (met.at_stage (get_or text i 0 ∷ []) ∙ e)

pub left_more : (text : List ℕ) (i : ℕ) (lexeme : Lexeme) (stage : Stage) → i < length text → IsMet text i lexeme →
    GoesOn lexeme.stage (get_or text i 0) (Some stage) → left text i lexeme ≡ left text (i + 1) (record { start = lexeme.start; stage = stage })
left_more text i lexeme stage h met on =
    left-step text i lexeme h met true (on.0 [] ∙ on.1)
    ∙ ap (λ v. scan lexeme.start v (drop (i + 1) text)) (sym (range_more text lexeme.start i met.before h))

-- a byte begins the next lexeme
pub met_next : (text : List ℕ) (i : ℕ) (stage : Stage) → i < length text → ((bs : List ℕ) → is_lexeme (get_or text i 0 ∷ bs) ≡ can_follow stage bs) →
    IsMet text (i + 1) (record { start = i; stage = stage })
met_next text i stage h first = record {
  before = omega arith;
  at_stage = λ bs. ap (λ v. is_lexeme (v ++ bs)) (range_one text i h) ∙ first bs;
}

pub left_next : (text : List ℕ) (i : ℕ) (lexeme : Lexeme) (stage : Stage) → i < length text → IsMet text i lexeme →
    GoesOn lexeme.stage (get_or text i 0) None → left text i lexeme ≡ token_at lexeme.start (slice_range text lexeme.start i) ++ left text (i + 1) (record { start = i; stage = stage })
left_next text i lexeme stage h met on =
    let part = slice_range text lexeme.start i in
    left-step text i lexeme h met false (on [])
    ∙ ap (λ n. token_at lexeme.start part ++ scan n (get_or text i 0 ∷ []) (drop (i + 1) text)) (range_length text lexeme.start i met.before h)
    ∙ ap (λ v. token_at lexeme.start part ++ scan i v (drop (i + 1) text)) (sym (range_one text i h))

-- at the end of the text
pub left_last : (text : List ℕ) (lexeme : Lexeme) → left text (length text) lexeme ≡ token_at lexeme.start (slice_range text lexeme.start (length text)) ++ []
left_last text lexeme =
    let none : drop (length text) text ≡ [] = grind (arith, common_steps) in
    let part = slice_range text lexeme.start (length text) in
    ap (scan lexeme.start part) none ∙ sym (append-nil (token_at lexeme.start part))
