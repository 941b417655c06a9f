-- The steps of the walk that marks assigned variables, over plain values.
use Rattle.std.proofs.Common.{◌≡◌, ℕ, zero, suc, ◌+◌, ◌<◌, ◌≤◌, Bool, true, false, not, List, [], ◌∷◌, ◌++◌, replicate, length, drop, get_or, refl, sym, ap, ◌∙◌, map, arith, add-one}
use Rattle.std.specs.Prelude.{◌||◌, ◌&&◌, nat_eq}
use Rattle.std.proofs.Math.Nat.{zero-add}
use Rattle.sch_word.specs.trees.Bindings.{numbers}
use Rattle.sch_word.specs.trees.Assigned.{marked}
use Rattle.sch_word.proofs.facts.AssignedMarks.{all_marked, marked_none, marked_twice, then_marked, inside_marked}
use Rattle.sch_sketch.specs.declared.draft.Draft as code
use Rattle.sch_names.specs.Scope.{VariableNames}
use Rattle.sch_sketch.specs.Draft.{Draft, Drafts, set_local, branch, bind, letrec, lambda, call, count}
use Rattle.sch_sketch.specs.DraftView.{draft_of, drafts_of}
use Rattle.sch_link_tables.specs.Assigned.{assigns, assigns_each}
use Rattle.sch_link_tables.specs.Assigned as assigned
use Rattle.sch_link_tables.proofs.DraftLists.{next_draft, no_draft}

module _ {d : Draft} (from : ℕ) (bs : List Bool) {cs ds : List Bool} where
  pub set_marked : {v : Draft} (k : ℕ) → d ≡ set_local k v → cs ≡ marked (λ j. nat_eq k j) from bs → ds ≡ marked (assigns v) from cs → ds ≡ marked (assigns d) from bs
  set_marked {v} k h p q = rw h (then_marked (λ j. nat_eq k j) (assigns v) from bs p q)

  pub branch_marked : {a b c : Draft} {xs : List Bool} → d ≡ branch a b c → cs ≡ marked (assigns a) from bs → ds ≡ marked (assigns b) from cs → xs ≡ marked (assigns c) from ds → xs ≡ marked (assigns d) from bs
  branch_marked {a} {b} {c} h p q r =
      rw h (then_marked (assigns a) (λ i. assigns b i || assigns c i) from bs p (then_marked (assigns b) (assigns c) from cs q r))

  pub bind_marked : {vs : VariableNames} {es : Drafts} {b : Draft} (m n : ℕ) → d ≡ bind vs es b → cs ≡ marked (assigns_each es) from bs → n ≡ count es → m ≡ from + n → ds ≡ marked (assigns b) m cs → ds ≡ marked (assigns d) from bs
  bind_marked {es = es} {b} m n h p w i q =
      rw h (then_marked (assigns_each es) (λ j. assigns b (j + count es)) from bs p (inside_marked (assigns b) (count es) from m cs (i ∙ ap (λ k. from + k) w) q))

  pub letrec_marked : {vs : VariableNames} {g : Bool} {es : Drafts} {b : Draft} (m n : ℕ) → d ≡ letrec vs g es b → n ≡ count es → m ≡ from + n → cs ≡ marked (assigns_each es) m bs → ds ≡ marked (assigns b) m cs → ds ≡ marked (assigns d) from bs
  letrec_marked {es = es} {b} m n h w i p q =
      let k : m ≡ from + count es = i ∙ ap (λ k. from + k) w in
      rw h (then_marked (λ j. assigns_each es (j + count es)) (λ j. assigns b (j + count es)) from bs
      (inside_marked (assigns_each es) (count es) from m bs k p) (inside_marked (assigns b) (count es) from m cs k q))

  pub call_marked : {vs : VariableNames} {f : Draft} {es : Drafts} → d ≡ call vs f es → cs ≡ marked (assigns f) from bs → ds ≡ marked (assigns_each es) from cs → ds ≡ marked (assigns d) from bs
  call_marked {f = f} {es} h p q = rw h (then_marked (assigns f) (assigns_each es) from bs p q)

module _ {d : Draft} (from : ℕ) (bs : List Bool) {cs : List Bool} where
  pub lambda_marked : {n : ℕ} {r : Bool} {b : Draft} (m : ℕ) → d ≡ lambda n r b → m ≡ from + n → cs ≡ marked (assigns b) m bs → cs ≡ marked (assigns d) from bs
  lambda_marked {n} {r} {b} m h i p = rw h (inside_marked (assigns b) n from m bs i p)

module _ (from : ℕ) (bs bs' whole : List Bool) where
  pub next_marked : (es : List code.Draft) (i : ℕ) (e : code.Draft) → i < length es → e ≡ get_or es i e → bs' ≡ marked (assigns (draft_of e)) from bs →
      marked (assigns_each (drafts_of (drop i es))) from bs ≡ whole → marked (assigns_each (drafts_of (drop (i + 1) es))) from bs' ≡ whole
  next_marked es i e l is h k =
      let k' = rw (next_draft es i e l is) at k in
      rw (add-one, h) (marked_twice (assigns (draft_of e)) (assigns_each (drafts_of (drop (suc i) es))) from bs ∙ k')

pub end_marked : (from : ℕ) (bs whole : List Bool) (es : List code.Draft) (i : ℕ) → length es ≤ i → marked (assigns_each (drafts_of (drop i es))) from bs ≡ whole → bs ≡ whole
end_marked from bs whole es i l k =
    let k' = rw (no_draft es i l) at k in
    sym (marked_none from bs) ∙ k'

-- ## Groups

-- the marks of the variables from j on
none_is : (es : Drafts) (e : Draft) (n : ℕ) → assigned.none_marked (map (λ i. assigns_each es i || assigns e i) (numbers 0 n)) ≡ assigned.none_assigned n es e
none_is es e zero = refl
none_is es e (suc n) =
    ap assigned.none_marked (more_numbers (λ i. assigns_each es i || assigns e i) n 0) ∙ last_mark (map (λ i. assigns_each es i || assigns e i) (numbers 0 n)) (assigns_each es (0 + n) || assigns e (0 + n))
    ∙ ap (λ b. not (assigns_each es (0 + n) || assigns e (0 + n)) && b) (none_is es e n) ∙ ap (λ k. not (assigns_each es k || assigns e k) && assigned.none_assigned n es e) (zero-add n)
  where
    more_numbers : (f : ℕ → Bool) (n j : ℕ) → map f (numbers j (suc n)) ≡ map f (numbers j n) ++ f (j + n) ∷ []
    more_numbers f zero j = ap (λ k. f k ∷ []) (omega arith)
    more_numbers f (suc n) j =
        let p : suc j + n ≡ j + suc n = omega arith in
        ap (λ l. f j ∷ l) (more_numbers f n (suc j)) ∙ ap (λ k. f j ∷ (map f (numbers (suc j) n) ++ f k ∷ [])) p

    last_mark : (bs : List Bool) (b : Bool) → assigned.none_marked (bs ++ b ∷ []) ≡ (not b && assigned.none_marked bs)
    last_mark [] b = refl
    last_mark (a ∷ bs) b = ap (λ x. not a && x) (last_mark bs b) ∙ swap (not a) (not b) (assigned.none_marked bs)
      where
        swap : (a b c : Bool) → (a && (b && c)) ≡ (b && (a && c))
        swap true true c = refl
        swap true false c = refl
        swap false true c = refl
        swap false false c = refl

-- whether no variable is assigned is told by the marks
pub none_for : (es : Drafts) (e : Draft) (n : ℕ) (marks : List Bool) → n ≡ count es → marks ≡ map (λ i. assigns_each es i || assigns e i) (numbers 0 n) → assigned.none_marked marks ≡ assigned.none_assigned (count es) es e
none_for es e n marks w h = ap assigned.none_marked h ∙ none_is es e n ∙ ap (λ k. assigned.none_assigned k es e) w

-- the marks after two walks over a new list of n
pub two_walks : (f g : ℕ → Bool) (n : ℕ) (bs cs ds : List Bool) → bs ≡ replicate n false → cs ≡ marked f 0 bs → ds ≡ marked g 0 cs → ds ≡ map (λ i. f i || g i) (numbers 0 n)
two_walks f g n bs cs ds a p q = then_marked f g 0 bs p q ∙ ap (marked (λ i. f i || g i) 0) a ∙ all_marked (λ i. f i || g i) n 0
