-- Fields that are written one after another.
use Rattle.std.proofs.Common.{◌≡◌, ℕ, List, [], ◌++◌, ap, ◌∙◌, append_assoc, append-nil}

pub four_fields : (file one two three four a b c d : List ℕ) → one ≡ file ++ a → two ≡ one ++ b → three ≡ two ++ c → four ≡ three ++ d
    → four ≡ file ++ (a ++ (b ++ (c ++ (d ++ []))))
four_fields file one two three four a b c d e1 e2 e3 e4 =
    let all : four ≡ (((file ++ a) ++ b) ++ c) ++ d = e4 ∙ ap (λ f. f ++ d) (e3 ∙ ap (λ f. f ++ c) (e2 ∙ ap (λ f. f ++ b) e1)) in
    rw all (simp (append_assoc, append-nil))
