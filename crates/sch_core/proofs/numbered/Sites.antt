-- The sites of a numbered draft stand in the order of the text, from the first number on.
use Rattle.std.proofs.Common.{◌≡◌, ℕ, suc, ◌+◌, Bool, true, false, List, [], ◌∷◌, ◌++◌, length, Option, refl, sym, ap, ◌∙◌, arith}
use Rattle.sch_link_program.proofs.ProgramSize.{count_numbered}
use Rattle.sch_lang.specs.Tree as tree
use Rattle.sch_lang.specs.Tree.{Expression, Expressions}
use Rattle.sch_lang.specs.Measures.{over, over_each, site_here}
use Rattle.sch_lang.proofs.SitesInOrder as order
use Rattle.sch_names.specs.Scope.{VariableNames}
use Rattle.sch_sketch.specs.Draft.{Draft, Drafts, constant, symbol, literal, local, global, set_local, set_global, define, branch, sequence, bind, letrec, lambda, call, operation, no_drafts, and_draft, count}
use Rattle.sch_link_tables.specs.Assigned.{is_group}
use Rattle.sch_link_tables.specs.Sites.{unless_group, widths, widths_of_each}
use Rattle.sch_word.specs.values.Options.{rest_of}
use Rattle.sch_link_tables.specs.Numbered.{grouped, numbered, numbered_each}
use Rattle.sch_core.specs.SoundDrafts.{IsSound, AreSound}
use Rattle.sch_core.proofs.numbered.Groups.{AreLambdas, sites_group, group_lambdas}

pub listed_split : (n : ℕ) (a b : List ℕ) → order.numbered n (a ++ b) ≡ order.numbered n a ++ order.numbered (n + length a) b
listed_split n [] b = ap (λ m. order.numbered m b) (omega arith)
listed_split n (x ∷ a) b =
    ap (λ l. (n, x) ∷ l) (listed_split (suc n) a b ∙ ap (λ m. order.numbered (suc n) a ++ order.numbered m b) (omega arith))

-- joined lists that stand for parts, one behind the other
pub joined : (n : ℕ) (a b : List ℕ) (p q : List (ℕ × ℕ)) → p ≡ order.numbered n a → q ≡ order.numbered (n + length a) b → p ++ q ≡ order.numbered n (a ++ b)
joined n a b p q e f = ap (λ l. l ++ q) e ∙ (ap (λ l. order.numbered n a ++ l) f ∙ sym (listed_split n a b))

headed : (n w m : ℕ) (a : List ℕ) (p : List (ℕ × ℕ)) → w ≡ m → p ≡ order.numbered (n + 1) a → (n, w) ∷ p ≡ order.numbered n (m ∷ a)
headed n w m a p e f = rw (e, f) (ap (λ k. (n, m) ∷ order.numbered k a) (omega arith))

sites_grouped : (g : Bool) (c s : ℕ) (xs : Expressions) (x : Expression) (a b : List ℕ) → (g ≡ true → AreLambdas xs) → tree.count xs ≡ c →
    over_each [] (λ a b. a ++ b) site_here xs ≡ order.numbered (s + length (unless_group g c)) a →
    over [] (λ a b. a ++ b) site_here x ≡ order.numbered (s + length (unless_group g c) + length a) b →
    over [] (λ a b. a ++ b) site_here (grouped g s xs x) ≡ order.numbered s (unless_group g c ++ (a ++ b))
sites_grouped true c s xs x a b h e p q =
    let z : s + 0 ≡ s = omega arith in
    joined s a b _ _ (sites_group xs (h refl) ∙ (p ∙ ap (λ n. order.numbered n a) z)) (q ∙ ap (λ n. order.numbered (n + length a) b) z)
sites_grouped false c s xs x a b h e p q = headed s _ c (a ++ b) _ e (joined (s + 1) a b _ _ p q)

module _ (own globals symbols : List (List ℕ)) where
  mutual
    sites : (e : Draft) (v : Option (List ℕ)) (m s l : ℕ) → IsSound m e → over [] (λ a b. a ++ b) site_here (numbered own globals symbols v e s l) ≡ order.numbered s (widths e)
    sites (constant c) v m s l h = refl
    sites (symbol x) v m s l h = refl
    sites (literal d) v m s l h = refl
    sites (local k) v m s l h = refl
    sites (global x) v m s l h = refl
    sites (set_local k e) v m s l h = sites e _ m s l h.1
    sites (set_global x e) v m s l h = sites e _ m s l h
    sites (define x e) v m s l h = sites e _ m s l h
    sites (branch a b c) v m s l h =
        joined s (widths a) (widths b ++ widths c) _ _ (sites a _ m s l h.0)
        (joined (s + length (widths a)) (widths b) (widths c) _ _ (sites b _ m _ _ h.1) (sites c _ m _ _ h.2))
    sites (sequence es) v m s l h = sites_each es [] m s l h.1
    sites (bind vs es e) v m s l h =
        headed s _ _ (widths_of_each es ++ widths e) _ (count_numbered own globals symbols es vs (s + 1) l)
        (joined (s + 1) (widths_of_each es) (widths e) _ _ (sites_each es vs m (s + 1) l h.1) (sites e _ (m + count es) _ _ h.2))
    sites (letrec vs p es e) v m s l h =
        sites_grouped (is_group p es e) (count es) s _ _ (widths_of_each es) (widths e) (group_lambdas own globals symbols p es e vs _ l h.1) (count_numbered own globals symbols es vs _ l)
        (sites_each es vs (m + count es) _ l h.2) (sites e _ (m + count es) _ _ h.3)
    sites (lambda n r e) v m s l h = sites e _ (m + n) s l h.2
    sites (call vs f es) v m s l h =
        headed s _ _ (widths f ++ widths_of_each es) _ (ap suc (count_numbered own globals symbols es vs (s + 1 + length (widths f)) _))
        (joined (s + 1) (widths f) (widths_of_each es) _ _ (sites f _ m (s + 1) l h.1) (sites_each es vs m _ _ h.2))
    sites (operation p es) v m s l h = headed s _ _ (widths_of_each es) _ (count_numbered own globals symbols es [] (s + 1) l) (sites_each es [] m (s + 1) l h.1)

    pub sites_each : (es : Drafts) (vs : VariableNames) (m s l : ℕ) → AreSound m es → over_each [] (λ a b. a ++ b) site_here (numbered_each own globals symbols vs es s l) ≡ order.numbered s (widths_of_each es)
    sites_each no_drafts vs m s l h = refl
    sites_each (and_draft e es) vs m s l h = joined s (widths e) (widths_of_each es) _ _ (sites e _ m s l h.0) (sites_each es (rest_of vs) m _ _ h.1)
