-- What is done over an outlet, put together.
use Rattle.std.proofs.Common.{◌≡◌, ℕ, zero, suc, ◌<◌, ◌≤◌, List, [], ◌∷◌, ◌++◌, length, min, get_or, Option, refl, sym, ap, ◌∙◌, subst, arith, append_assoc, append-nil}
use Rattle.std.specs.Prelude.{All}
use Rattle.sch_word.specs.declared.answer.Answer.{Answer}
use Rattle.sch_word.specs.declared.answer.Answer.TheVariants.{Took, Failed}
use Rattle.sch_io.specs.Told.{Tells}
use Rattle.sch_io.proofs.PutSteps.{tells_map, tells_same, tells_then}
use Rattle.sch_io.specs.Counters.{Rose}
use Rattle.sch_io.specs.Answers.{AnswersNext, IsWithin, IsRefusal, taken}
use Rattle.sch_word.specs.runs.Answers.{TakesNothing}
use Rattle.sch_step.specs.Run.{Does}

-- Nothing goes out.
pub quiet : (P : List ℕ → List Answer → List ℕ → List Answer → Type 0) (bytes : Option (List ℕ)) (left : Option (List Answer)) (faults : ℕ) → ((b : List ℕ) (k : List Answer) → P b k b k)
    → Does P bytes bytes left left faults faults
quiet P bytes left faults h = record {
  took = [];
  given = [];
  untold = λ b more. subst (λ b'. P b more b' more) (sym (append-nil b)) (h b more);
  told = tells_same left (λ x y. (b : List ℕ) → P b x (b ++ []) y) (λ x b. subst (λ b'. P b x b' x) (sym (append-nil b)) (h b x));
  bytes_told = tells_same bytes (λ x y. y ≡ x ++ []) (λ x. sym (append-nil x));
  faults = omega arith;
  refused = λ k d l. absurd (omega (arith, l));
}

first_answer : (a : Answer) (n : ℕ) (more : List Answer) → IsWithin a n → AnswersNext n a (a ∷ more) more
first_answer (Took k) n more h = let e : k ≡ min k n = omega (arith, h) in (ap Took e, refl)
first_answer Failed n more h = (refl, refl)

refusal : (a : Answer) (n : ℕ) → 0 < n → TakesNothing a → IsRefusal a n
refusal (Took zero) n some h = (refl, some)
refusal (Took (suc k)) n some h = absurd h
refusal Failed n some h = tt

-- One piece goes out and is answered.
pub loud : (P : List ℕ → List Answer → List ℕ → List Answer → Type 0) (piece : List ℕ) (a : Answer) (ob nb : Option (List ℕ)) (ol nl : Option (List Answer)) (of nf : ℕ) → 0 < length piece
    → ((b : List ℕ) (x y : List Answer) → AnswersNext (length piece) a x y → P b x (b ++ taken a piece) y) → IsWithin a (length piece) → Tells ob nb (λ x y. y ≡ x ++ taken a piece)
    → Tells ol nl (AnswersNext (length piece) a) → of ≤ nf → (IsRefusal a (length piece) → Rose of nf) → Does P ob nb ol nl of nf
loud P piece a ob nb ol nl of nf some h within bytes left faults refused = record {
  took = taken a piece;
  given = a ∷ [];
  untold = λ b more. h b (a ∷ more) more (first_answer a (length piece) more within);
  told = tells_map ol nl (AnswersNext (length piece) a) (λ x y. (b : List ℕ) → P b x (b ++ taken a piece) y) left (λ x y n b. h b x y n);
  bytes_told = bytes;
  faults = faults;
  refused = λ k d l. one k d l;
}
  where
    one : (k : ℕ) (d : Answer) → k < 1 → TakesNothing (get_or (a ∷ []) k d) → Rose of nf
    one zero d l t = refused (refusal a (length piece) some t)
    one (suc k) d l t = absurd (omega (arith, l))

rose_later : (a b c : ℕ) → Rose a b → b ≤ c → Rose a c
rose_later a b c r l = omega (arith, r, l)

rose_earlier : (a b c : ℕ) → a ≤ b → Rose b c → Rose a c
rose_earlier a b c l r = omega (arith, r, l)

-- One thing was done, and then another.
pub then : (P Q R : List ℕ → List Answer → List ℕ → List Answer → Type 0) (ob mb nb : Option (List ℕ)) (ol ml nl : Option (List Answer)) (of mf nf : ℕ)
    → ((b : List ℕ) (k : List Answer) (b' : List ℕ) (k' : List Answer) (b'' : List ℕ) (k'' : List Answer) → P b k b' k' → Q b' k' b'' k'' → R b k b'' k'') → Does P ob mb ol ml of mf
    → Does Q mb nb ml nl mf nf → Does R ob nb ol nl of nf
then P Q R ob mb nb ol ml nl of mf nf f p q = record {
  took = p.took ++ q.took;
  given = p.given ++ q.given;
  untold = λ b more.
      subst (λ k. R b k (b ++ (p.took ++ q.took)) more) (sym (append_assoc p.given q.given more))
      (subst (λ b'. R b (p.given ++ (q.given ++ more)) b' more) (append_assoc b p.took q.took)
      (f b (p.given ++ (q.given ++ more)) (b ++ p.took) (q.given ++ more) ((b ++ p.took) ++ q.took) more (p.untold b (q.given ++ more)) (q.untold (b ++ p.took) more)));
  told = tells_then ol ml nl (λ x y. (b : List ℕ) → P b x (b ++ p.took) y) (λ x y. (b : List ℕ) → Q b x (b ++ q.took) y) (λ x y. (b : List ℕ) → R b x (b ++ (p.took ++ q.took)) y)
      p.told q.told (λ x y z g h b. subst (λ b'. R b x b' z) (append_assoc b p.took q.took) (f b x (b ++ p.took) y ((b ++ p.took) ++ q.took) z (g b) (h (b ++ p.took))));
  bytes_told = tells_then ob mb nb (λ x y. y ≡ x ++ p.took) (λ x y. y ≡ x ++ q.took) (λ x y. y ≡ x ++ (p.took ++ q.took)) p.bytes_told q.bytes_told
      (λ x y z e g. g ∙ ap (λ l. l ++ q.took) e ∙ append_assoc x p.took q.took);
  faults = let a = p.faults in let b = q.faults in omega arith;
  refused = both p.given q.given (λ k d l t. rose_later of mf nf (p.refused k d l t) q.faults) (λ k d l t. rose_earlier of mf nf p.faults (q.refused k d l t));
}
  where
    both : (xs ys : List Answer) → All (λ a. TakesNothing a → Rose of nf) xs → All (λ a. TakesNothing a → Rose of nf) ys → All (λ a. TakesNothing a → Rose of nf) (xs ++ ys)
    both [] ys h g k d l = g k d l
    both (x ∷ xs) ys h g zero d l = h zero d (omega arith)
    both (x ∷ xs) ys h g (suc k) d l = both xs ys (λ j d m. h (suc j) d (omega (arith, m))) g k d (omega (arith, l))

pub weaker : (P Q : List ℕ → List Answer → List ℕ → List Answer → Type 0) (ob nb : Option (List ℕ)) (ol nl : Option (List Answer)) (of nf : ℕ)
    → ((b : List ℕ) (k : List Answer) (b' : List ℕ) (k' : List Answer) → P b k b' k' → Q b k b' k') → Does P ob nb ol nl of nf → Does Q ob nb ol nl of nf
weaker P Q ob nb ol nl of nf f p = record {
  took = p.took;
  given = p.given;
  untold = λ b more. f b (p.given ++ more) (b ++ p.took) more (p.untold b more);
  told = tells_map ol nl (λ x y. (b : List ℕ) → P b x (b ++ p.took) y) (λ x y. (b : List ℕ) → Q b x (b ++ p.took) y) p.told (λ x y g b. f b x (b ++ p.took) y (g b));
  bytes_told = p.bytes_told;
  faults = p.faults;
  refused = p.refused;
}
