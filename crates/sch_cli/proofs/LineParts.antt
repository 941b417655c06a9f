-- A line in two parts.
use Rattle.std.proofs.Common.{◌≡◌, ℕ, ◌+◌, ◌≤◌, ◌<◌, List, [], ◌∷◌, ◌++◌, length, get_or, take, drop, Bool, true, false, Option, Some, None, refl, sym, ap, ◌∙◌, arith, append_assoc, take-append-drop, IsTrue, ⊎_elim}
use Rattle.std.proofs.lemmas.Bool.{cases_lt}
use Rattle.std.proofs.lemmas.List.{append-nil, take-append-le, take_all, take_more}
use Rattle.std.proofs.Math.Seq.{take-append_seam, take-append-add}
use Rattle.sch_io.specs.Told.{Tells}
use Rattle.sch_io.specs.Counters.{Rose}
use Rattle.std.specs.Borrow.{Bor}
use Rattle.sch_cli.specs.Messages.{Said, joined}

-- the line was taken between these bytes told and these counts of faults
abbrev pub Says : List ℕ → Option (List ℕ) → Option (List ℕ) → ℕ → ℕ → Type 0
Says line bytes bytes' faults faults' = Tells bytes bytes' (λ before after. Said line before after (Rose faults faults'))

-- any number of bytes of the first part
taken_first : (subject text : List ℕ) (k : ℕ) → (n : ℕ) × (take n (subject ++ text) ≡ take k subject)
taken_first subject text k =
    ⊎_elim
    (λ lt. (k, take-append-le k subject text (omega arith)))
    (λ le. (length subject, take-append_seam subject text ∙ sym (take_all k subject le)))
    (cases_lt k (length subject))

pub says_both : (subject text : List ℕ) (b0 b1 b2 : Option (List ℕ)) (f0 f1 f2 : ℕ) (done : Bool) → Tells b0 b1 (λ before after. after ≡ before ++ subject) →
    (IsTrue done → Tells b1 b2 (λ before after. after ≡ before ++ text)) → Tells b1 b2 (λ before after. (k : ℕ) × (after ≡ before ++ take k text)) → (done ≡ false → Rose f1 f2) → f0 ≤ f1 →
    Says (subject ++ text) b0 b2 f0 f2
says_both subject text b0 b1 None f0 f1 f2 done first whole front rose low = tt
says_both subject text b0 None (Some c) f0 f1 f2 done first whole front rose low = absurd front
says_both subject text None (Some b) (Some c) f0 f1 f2 done first whole front rose low = absurd first
says_both subject text (Some a) (Some b) (Some c) f0 f1 f2 true first whole front rose low = record {
  prefix = (length subject + front.0, front.1 ∙ ap (λ l. l ++ take front.0 text) first ∙ append_assoc a subject (take front.0 text) ∙ ap (λ l. a ++ l) (sym (take-append-add subject text front.0)));
  whole = λ calm. whole refl ∙ ap (λ l. l ++ text) first ∙ append_assoc a subject text;
}
says_both subject text (Some a) (Some b) (Some c) f0 f1 f2 false first whole front rose low = record {
  prefix = (length subject + front.0, front.1 ∙ ap (λ l. l ++ take front.0 text) first ∙ append_assoc a subject (take front.0 text) ∙ ap (λ l. a ++ l) (sym (take-append-add subject text front.0)));
  whole = λ calm. absurd (calm (let r = rose refl in omega arith));
}

pub says_first : (subject text : List ℕ) (b0 b1 : Option (List ℕ)) (f0 f1 : ℕ) → Tells b0 b1 (λ before after. (k : ℕ) × (after ≡ before ++ take k subject)) → Rose f0 f1
    → Says (subject ++ text) b0 b1 f0 f1
says_first subject text b0 None f0 f1 front rose = tt
says_first subject text None (Some b) f0 f1 front rose = absurd front
says_first subject text (Some a) (Some b) f0 f1 front rose = record {
  prefix = let t = taken_first subject text front.0 in (t.0, front.1 ∙ ap (λ l. a ++ l) (sym t.1));
  whole = λ calm. absurd (calm rose);
}

-- the pieces one after another, with nothing after the last
flat : List (Bor (List ℕ)) → List ℕ
flat [] = []
flat (piece ∷ more) = piece.now ++ flat more

flat-append : (xs ys : List (Bor (List ℕ))) → flat (xs ++ ys) ≡ flat xs ++ flat ys
unfolding flat
flat-append [] ys = refl
flat-append (x ∷ xs) ys = ap (λ t. x.now ++ t) (flat-append xs ys) ∙ sym (append_assoc x.now (flat xs) (flat ys))

joined-flat : (xs : List (Bor (List ℕ))) → joined xs ≡ flat xs
unfolding flat
joined-flat [] = refl
joined-flat (x ∷ []) = sym (append-nil x.now)
joined-flat (x ∷ y ∷ xs) = ap (λ t. x.now ++ t) (joined-flat (y ∷ xs))

-- the first pieces, and one more
pub joined_more : (xs : List (Bor (List ℕ))) (i : ℕ) (d : Bor (List ℕ)) → i < length xs → joined (take (i + 1) xs) ≡ joined (take i xs) ++ (get_or xs i d).now
unfolding flat
joined_more xs i d lt =
    joined-flat (take (i + 1) xs) ∙ ap flat (take_more xs i d lt) ∙ flat-append (take i xs) (get_or xs i d ∷ [])
    ∙ ap (λ t. t ++ ((get_or xs i d).now ++ [])) (sym (joined-flat (take i xs))) ∙ ap (λ t. joined (take i xs) ++ t) (append-nil (get_or xs i d).now)

-- all pieces, in front of and from a number on
pub joined_split : (xs : List (Bor (List ℕ))) (i : ℕ) (d : Bor (List ℕ)) → i < length xs → (rest : List ℕ) × (joined xs ≡ joined (take i xs) ++ ((get_or xs i d).now ++ rest))
unfolding flat
joined_split xs i d lt =
    let cut : take (i + 1) xs ++ drop (i + 1) xs ≡ xs = take-append-drop (i + 1) xs in
    let rest : List ℕ = flat (drop (i + 1) xs) in (
      rest,
      joined-flat xs ∙ ap flat (sym cut) ∙ flat-append (take (i + 1) xs) (drop (i + 1) xs)
          ∙ ap (λ t. t ++ rest) (sym (joined-flat (take (i + 1) xs)) ∙ joined_more xs i d lt) ∙ append_assoc (joined (take i xs)) (get_or xs i d).now rest,
    )

pub says_whole : (line : List ℕ) (b0 b1 : Option (List ℕ)) (f0 f1 : ℕ) → Tells b0 b1 (λ before after. after ≡ before ++ line) → Says line b0 b1 f0 f1
says_whole line b0 None f0 f1 all = tt
says_whole line None (Some b) f0 f1 all = absurd all
says_whole line (Some a) (Some b) f0 f1 all = record {
  prefix = (length line, all ∙ ap (λ l. a ++ l) (sym (take_all (length line) line (omega arith))));
  whole = λ calm. all;
}

pub says_part : (line done piece rest : List ℕ) (b0 b1 b2 : Option (List ℕ)) (f0 f1 f2 : ℕ) → line ≡ done ++ (piece ++ rest) →
    Tells b0 b1 (λ before after. after ≡ before ++ done) → Tells b1 b2 (λ before after. (k : ℕ) × (after ≡ before ++ take k piece)) → Rose f1 f2 → f0 ≤ f1 →
    Says line b0 b2 f0 f2
says_part line done piece rest b0 b1 None f0 f1 f2 e first front rose low = tt
says_part line done piece rest b0 None (Some c) f0 f1 f2 e first front rose low = absurd front
says_part line done piece rest None (Some b) (Some c) f0 f1 f2 e first front rose low = absurd first
says_part line done piece rest (Some a) (Some b) (Some c) f0 f1 f2 e first front rose low =
    let t = taken_first piece rest front.0 in
    record {
      prefix = (
        length done + t.0,
        front.1 ∙ ap (λ l. l ++ take front.0 piece) first ∙ append_assoc a done (take front.0 piece)
            ∙ ap (λ l. a ++ (done ++ l)) (sym t.1) ∙ ap (λ l. a ++ l) (sym (take-append-add done (piece ++ rest) t.0)) ∙ ap (λ l. a ++ take (length done + t.0) l) (sym e),
      );
      whole = λ calm. absurd (calm (omega arith));
    }
