-- The marks of an address: one mark more, and what holds of all.
use Rattle.std.proofs.Common.{◌≡◌, ℕ, zero, suc, ◌<◌, ◌≤◌, Bool, true, false, cond, ◌⊎◌, inl, inr, List, [], ◌∷◌, ◌++◌, length, get_or, Option, Some, None, refl, sym, ap, ◌∙◌, subst, arith, append-nil}
use Rattle.std.specs.Prelude.{nat_eq, All}
use Rattle.std.specs.List.{flat_map}
use Rattle.std.specs.Option.{unwrap_or}
use Rattle.std.proofs.lemmas.Bool.{cases_eq}
use Rattle.sch_word.specs.declared.mark.MarkKind.{MarkKind}
use Rattle.sch_word.proofs.facts.NumberTests.{same, differ}
use Rattle.sch_asm.specs.declared.item.Mark.{Mark}
use Rattle.sch_asm.specs.Stands.{marks_at}
use Rattle.sch_count.specs.MarkTables.{entered_at}

marks_more : (marks : List Mark) (m : Mark) (a : ℕ) → marks_at (marks ++ m ∷ []) a ≡ marks_at marks a ++ cond (nat_eq m.address a) (m.kind ∷ []) []
marks_more [] m a = refl
marks_more (x ∷ xs) m a = by (nat_eq x.address a) (marks_more xs m a)
  where
    by : (q : Bool) → marks_at (xs ++ m ∷ []) a ≡ marks_at xs a ++ cond (nat_eq m.address a) (m.kind ∷ []) [] → cond q (x.kind ∷ marks_at (xs ++ m ∷ []) a) (marks_at (xs ++ m ∷ []) a) ≡ cond q (x.kind ∷ marks_at xs a) (marks_at xs a) ++ cond (nat_eq m.address a) (m.kind ∷ []) []
    by true h = ap (λ l. x.kind ∷ l) h
    by false h = h

-- what is taken out of a table, and nothing where there is none
pub taken_out : (o : Option (List MarkKind)) (r d : List MarkKind) → d ≡ [] → r ≡ unwrap_or o d → r ≡ entered_at o
taken_out None r d e h = h ∙ e
taken_out (Some kinds) r d e h = h

-- one mark more in a table, whose list is taken out and put back
pub put_more : (f g h : ℕ → Option (List MarkKind)) (marks : List Mark) (m : Mark) (here : List MarkKind) → ((a : ℕ) → entered_at (f a) ≡ marks_at marks a)
    → ((a : ℕ) → g a ≡ cond (nat_eq m.address a) None (f a)) → here ≡ entered_at (f m.address) ++ m.kind ∷ [] → ((a : ℕ) → h a ≡ cond (nat_eq m.address a) (Some here) (g a))
    → (a : ℕ) → entered_at (h a) ≡ marks_at (marks ++ m ∷ []) a
put_more f g h marks m here are out is put a = by (cases_eq m.address a)
  where
    by : (m.address ≡ a) ⊎ (m.address ≡ a → ⊥) → entered_at (h a) ≡ marks_at (marks ++ m ∷ []) a
    by (inl e) = subst (λ x. entered_at (h x) ≡ marks_at (marks ++ m ∷ []) x) e
        (ap entered_at (put m.address ∙ ap (λ q. cond q (Some here) (g m.address)) (same m.address))
        ∙ is
        ∙ ap (λ l. l ++ m.kind ∷ []) (are m.address)
        ∙ ap (λ q. marks_at marks m.address ++ cond q (m.kind ∷ []) []) (sym (same m.address))
        ∙ sym (marks_more marks m m.address))
    by (inr ne) =
        let no = differ m.address a ne in
        ap entered_at (put a ∙ ap (λ q. cond q (Some here) (g a)) no ∙ out a ∙ ap (λ q. cond q None (f a)) no)
        ∙ are a
        ∙ sym (marks_more marks m a ∙ ap (λ q. marks_at marks a ++ cond q (m.kind ∷ []) []) no ∙ append-nil (marks_at marks a))

pub length-marks_at : (marks : List Mark) (a : ℕ) → length (marks_at marks a) ≤ length marks
length-marks_at [] a = omega arith
length-marks_at (x ∷ xs) a = by (nat_eq x.address a) (length-marks_at xs a)
  where
    by : (q : Bool) → length (marks_at xs a) ≤ length xs → length (cond q (x.kind ∷ marks_at xs a) (marks_at xs a)) ≤ length (x ∷ xs)
    by true h = omega (arith, h)
    by false h = omega (arith, h)

-- what holds of all marks holds of those of an address
pub all_at : (P : MarkKind → Type 0) (marks : List Mark) (a : ℕ) → All (λ m. P m.kind) marks → All P (marks_at marks a)
all_at P [] a h k d l = absurd (omega (arith, l))
all_at P (x ∷ xs) a h k d l = by (all_at P xs a (λ j e m. h (suc j) e (omega (arith, m)))) (nat_eq x.address a) k l
  where
    by : All P (marks_at xs a) → (q : Bool) (k : ℕ) → k < length (cond q (x.kind ∷ marks_at xs a) (marks_at xs a)) → P (get_or (cond q (x.kind ∷ marks_at xs a) (marks_at xs a)) k d)
    by more true zero l = h zero x (omega arith)
    by more true (suc k) l = more k d (omega (arith, l))
    by more false k l = more k d l

pub flat_same : (f g : ℕ → List MarkKind) → ((a : ℕ) → f a ≡ g a) → (xs : List ℕ) → flat_map f xs ≡ flat_map g xs
flat_same f g h [] = refl
flat_same f g h (x ∷ xs) = ap (λ l. l ++ flat_map f xs) (h x) ∙ ap (λ l. g x ++ l) (flat_same f g h xs)
