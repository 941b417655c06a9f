-- The steps of the walk that numbers drafts, over plain values.
use Rattle.std.proofs.Common.{◌≡◌, ◌<◌, ◌≤◌, ℕ, zero, suc, ◌+◌, Bool, List, [], ◌∷◌, ◌++◌, length, drop, get_or, map, Option, None, refl, sym, ap, subst, ◌∙◌, add-one, arith, append_assoc, length-append, ◌^◌, true}
use Rattle.std.proofs.lemmas.Bool.{and_from, and_parts, ltb-true}
use Rattle.std.proofs.lemmas.List.{map-append, length-map}
use Rattle.std.specs.Prelude.{◌&&◌, nat_lt}
use Rattle.std.specs.Borrow.{Bor}
use Rattle.sch_names.specs.ScopeView.{one_name, given_names}
use Rattle.sch_word.specs.declared.primitive.Primitive.{Primitive}
use Rattle.sch_word.specs.declared.literal.Lit.{Lit}
use Rattle.sch_word.specs.values.Literals.{Literal}
use Rattle.sch_word.specs.values.LiteralView.{literal}
use Rattle.sch_lang.specs.Tree as tree
use Rattle.sch_lang.specs.Tree.{Expression, Expressions, no_expressions, and_expression, expressions}
use Rattle.sch_lang.specs.declared.tree.Exp.{Exp}
use Rattle.sch_lang.specs.View.{expression, expressions_of}
use Rattle.sch_lang.proofs.ListViews.{expressions_of_list}
use Rattle.sch_read.specs.Grammar.{Datum}
use Rattle.sch_sketch.specs.declared.draft.Draft as code
use Rattle.sch_names.specs.Scope.{VariableNames}
use Rattle.sch_sketch.specs.Draft.{Draft, Drafts, local, set_local, set_global, define, branch, sequence, bind, letrec, lambda, call, operation, and_draft, count}
use Rattle.sch_sketch.specs.DraftMeasures.{size, size_each}
use Rattle.sch_sketch.specs.DraftView.{draft_of, drafts_of}
use Rattle.sch_link_tables.specs.Assigned.{is_group}
use Rattle.sch_link_tables.specs.Constants.{draft_in_range, drafts_in_range, HasConstants, HaveConstants}
use Rattle.sch_link_tables.specs.Quoted.{quotes_in, quotes_in_each}
use Rattle.sch_link_tables.specs.Room.{HasRoom, has_near_variables, have_near_variables}
use Rattle.sch_link_tables.specs.Sites.{unless_group, widths, widths_of_each}
use Rattle.sch_link_tables.specs.declared.tables.Output.{Output}
use Rattle.sch_word.specs.values.Options.{rest_of}
use Rattle.sch_link_tables.specs.Numbered.{numbered, numbered_each, grouped, first_of}
use Rattle.sch_link_tables.proofs.DraftLists.{next_draft, no_draft}
use Rattle.sch_link_tables.proofs.FewNumbers.{room_after}

-- ## How many there are

pub sites_more : (s w : List ℕ) {s' : List ℕ} → s' ≡ s ++ w → length s' ≡ length s + length w
sites_more s w h = ap length h ∙ length-append s w

pub literals_more : (f : Datum → Literal) (l : List Lit) (l' : List Lit) (qs : List Datum) → map literal l' ≡ map literal l ++ map f qs → length l' ≡ length l + length qs
literals_more f l l' qs h =
    omega (arith, length-map l literal, length-map l' literal, length-map qs f, ap length h, length-append (map literal l) (map f qs))

-- ## Two and three parts

pub then_sites : (s v w : List ℕ) {s1 s2 : List ℕ} → s1 ≡ s ++ v → s2 ≡ s1 ++ w → s2 ≡ s ++ (v ++ w)
then_sites s v w p q = q ∙ ap (λ l. l ++ w) p ∙ append_assoc s v w

pub then_literals : (f : Datum → Literal) (xs bs : List Datum) (s : List Literal) {s1 s2 : List Literal} → s1 ≡ s ++ map f xs → s2 ≡ s1 ++ map f bs → s2 ≡ s ++ map f (xs ++ bs)
then_literals f xs bs s p q = q ∙ ap (λ l. l ++ map f bs) p ∙ append_assoc s (map f xs) (map f bs) ∙ ap (λ l. s ++ l) (sym (map-append f xs bs))

-- ## Expressions: from a site and a literal on

module _ (own globals symbols : List (List ℕ)) (v : Option (List ℕ)) {d : Draft} {q : Expression} (s l : ℕ) where
  pub branch_made : {a b c : Draft} {x y z : Expression} (s1 l1 s2 l2 : ℕ) → d ≡ branch a b c → q ≡ tree.branch x y z → x ≡ numbered own globals symbols None a s l →
      s1 ≡ s + length (widths a) → l1 ≡ l + length (quotes_in a) → y ≡ numbered own globals symbols None b s1 l1 → s2 ≡ s1 + length (widths b) → l2 ≡ l1 + length (quotes_in b) →
      z ≡ numbered own globals symbols None c s2 l2 → q ≡ numbered own globals symbols v d s l
  branch_made s1 l1 s2 l2 h m p i j q k n r = rw (h, m, p, q, r, k, n, i, j) refl

  pub bind_made : {vs : VariableNames} {es : Drafts} {e : Draft} {x : Expression} {xs : Expressions} (site s1 l1 s2 l2 : ℕ) → d ≡ bind vs es e → q ≡ tree.bind site xs x → site ≡ s → s1 ≡ s + 1 → l1 ≡ l →
      xs ≡ numbered_each own globals symbols vs es s1 l1 → s2 ≡ s1 + length (widths_of_each es) → l2 ≡ l1 + length (quotes_in_each es) → x ≡ numbered own globals symbols None e s2 l2 → q ≡ numbered own globals symbols v d s l
  bind_made site s1 l1 s2 l2 h m t i j p k n r = rw (h, m, t, p, r, k, n, i, j) refl

  pub letrec_made : {vs : VariableNames} {g group : Bool} {es : Drafts} {e : Draft} {x : Expression} {xs : Expressions} (site s1 l1 s2 l2 : ℕ) → d ≡ letrec vs g es e → q ≡ grouped group site xs x → group ≡ is_group g es e →
      site ≡ s → s1 ≡ s + length (unless_group group (count es)) → l1 ≡ l → xs ≡ numbered_each own globals symbols vs es s1 l1 → s2 ≡ s1 + length (widths_of_each es) → l2 ≡ l1 + length (quotes_in_each es) →
      x ≡ numbered own globals symbols None e s2 l2 → q ≡ numbered own globals symbols v d s l
  letrec_made site s1 l1 s2 l2 h m w t i j p k n r = rw (h, m, t, p, r, k, n, i, j, w) refl

  pub call_made : {vs : VariableNames} {f : Draft} {es : Drafts} {x : Expression} {xs : Expressions} (site s1 l1 s2 l2 : ℕ) → d ≡ call vs f es → q ≡ tree.call site x xs → site ≡ s → s1 ≡ s + 1 → l1 ≡ l →
      x ≡ numbered own globals symbols None f s1 l1 → s2 ≡ s1 + length (widths f) → l2 ≡ l1 + length (quotes_in f) → xs ≡ numbered_each own globals symbols vs es s2 l2 → q ≡ numbered own globals symbols v d s l
  call_made site s1 l1 s2 l2 h m t i j p k n r = rw (h, m, t, p, r, k, n, i, j) refl

  pub operation_made : {p : Primitive} {es : Drafts} {xs : Expressions} (site s1 l1 : ℕ) → d ≡ operation p es → q ≡ tree.operation site p xs → site ≡ s → s1 ≡ s + 1 → l1 ≡ l →
      xs ≡ numbered_each own globals symbols [] es s1 l1 → q ≡ numbered own globals symbols v d s l
  operation_made site s1 l1 h m t i j p = rw (h, m, t, p, i, j) refl

-- ## Sites

module _ {d : Draft} (s : List ℕ) {s1 s2 s3 : List ℕ} where
  pub branch_sites : {a b c : Draft} → d ≡ branch a b c → s1 ≡ s ++ widths a → s2 ≡ s1 ++ widths b → s3 ≡ s2 ++ widths c → s3 ≡ s ++ widths d
  branch_sites {a} {b} {c} h p q r = rw h (then_sites s (widths a) (widths b ++ widths c) p (then_sites s1 (widths b) (widths c) q r))

  pub bind_sites : {vs : VariableNames} {es : Drafts} {e : Draft} {n : ℕ} → d ≡ bind vs es e → n ≡ count es → s1 ≡ s ++ n ∷ [] → s2 ≡ s1 ++ widths_of_each es → s3 ≡ s2 ++ widths e → s3 ≡ s ++ widths d
  bind_sites {es = es} {e} {n} h w p q r =
      rw h (subst (λ n. s3 ≡ s ++ n ∷ (widths_of_each es ++ widths e)) w (then_sites s (n ∷ []) (widths_of_each es ++ widths e) p (then_sites s1 (widths_of_each es) (widths e) q r)))

  pub letrec_sites : {vs : VariableNames} {g group : Bool} {es : Drafts} {e : Draft} {n : ℕ} → d ≡ letrec vs g es e → group ≡ is_group g es e → n ≡ count es → s1 ≡ s ++ unless_group group n → s2 ≡ s1 ++ widths_of_each es →
      s3 ≡ s2 ++ widths e → s3 ≡ s ++ widths d
  letrec_sites {group = group} {es} {e} {n} h w k p q r =
      rw (h, sym w, sym k) (then_sites s (unless_group group n) (widths_of_each es ++ widths e) p (then_sites s1 (widths_of_each es) (widths e) q r))

  pub call_sites : {vs : VariableNames} {f : Draft} {es : Drafts} {n : ℕ} → d ≡ call vs f es → n ≡ count es → s1 ≡ s ++ suc n ∷ [] → s2 ≡ s1 ++ widths f → s3 ≡ s2 ++ widths_of_each es → s3 ≡ s ++ widths d
  call_sites {f = f} {es} {n} h w p q r =
      rw h (subst (λ n. s3 ≡ s ++ suc n ∷ (widths f ++ widths_of_each es)) w (then_sites s (suc n ∷ []) (widths f ++ widths_of_each es) p (then_sites s1 (widths f) (widths_of_each es) q r)))

pub operation_sites : {d : Draft} (s : List ℕ) {s1 s2 : List ℕ} {p : Primitive} {es : Drafts} {n : ℕ} → d ≡ operation p es → n ≡ count es → s1 ≡ s ++ n ∷ [] → s2 ≡ s1 ++ widths_of_each es → s2 ≡ s ++ widths d
operation_sites s {s2 = s2} {es = es} {n} h w p q = rw h (subst (λ n. s2 ≡ s ++ n ∷ widths_of_each es) w (then_sites s (n ∷ []) (widths_of_each es) p q))

-- ## Literals

module _ (f : Datum → Literal) {d : Draft} (s : List Literal) {s1 s2 s3 : List Literal} where
  pub branch_literals : {a b c : Draft} → d ≡ branch a b c → s1 ≡ s ++ map f (quotes_in a) → s2 ≡ s1 ++ map f (quotes_in b) → s3 ≡ s2 ++ map f (quotes_in c) → s3 ≡ s ++ map f (quotes_in d)
  branch_literals {a} {b} {c} h p q r = rw h (then_literals f (quotes_in a) (quotes_in b ++ quotes_in c) s p (then_literals f (quotes_in b) (quotes_in c) s1 q r))

  pub bind_literals : {vs : VariableNames} {es : Drafts} {e : Draft} → d ≡ bind vs es e → s1 ≡ s → s2 ≡ s1 ++ map f (quotes_in_each es) → s3 ≡ s2 ++ map f (quotes_in e) → s3 ≡ s ++ map f (quotes_in d)
  bind_literals {es = es} {e} h z p q = rw (h, sym z) (then_literals f (quotes_in_each es) (quotes_in e) s1 p q)

  pub letrec_literals : {vs : VariableNames} {g : Bool} {es : Drafts} {e : Draft} → d ≡ letrec vs g es e → s1 ≡ s → s2 ≡ s1 ++ map f (quotes_in_each es) → s3 ≡ s2 ++ map f (quotes_in e) → s3 ≡ s ++ map f (quotes_in d)
  letrec_literals {es = es} {e} h z p q = rw (h, sym z) (then_literals f (quotes_in_each es) (quotes_in e) s1 p q)

  pub call_literals : {vs : VariableNames} {g : Draft} {es : Drafts} → d ≡ call vs g es → s1 ≡ s → s2 ≡ s1 ++ map f (quotes_in g) → s3 ≡ s2 ++ map f (quotes_in_each es) → s3 ≡ s ++ map f (quotes_in d)
  call_literals {g = g} {es} h z p q = rw (h, sym z) (then_literals f (quotes_in g) (quotes_in_each es) s1 p q)

-- ## Names

pub found_name : (names : List (Option (Bor (List ℕ)))) (at : ℕ) (v : Option (Bor (List ℕ))) → at < length names → v ≡ get_or names at v → one_name v ≡ first_of (drop at (given_names names))
found_name [] at v l h = absurd (omega (arith, l))
found_name (w ∷ ws) zero v l h = ap one_name h
found_name (w ∷ ws) (suc n) v l h = found_name ws n v (omega (arith, l)) h

pub name_is : (names : List (Option (Bor (List ℕ)))) {v : Option (List ℕ)} {at i : ℕ} → v ≡ first_of (drop at (given_names names)) → at ≡ i → v ≡ first_of (drop i (given_names names))
name_is names h e = h ∙ ap (λ n. first_of (drop n (given_names names))) e

-- ## Groups

pub group_is : (p : Bool) {group : Bool} {xs ys es : List code.Draft} {x y e : code.Draft} → group ≡ is_group p (drafts_of xs) (draft_of x) → xs ≡ es → ys ≡ es → x ≡ e → y ≡ e → group ≡ is_group p (drafts_of ys) (draft_of y)
group_is p h k l m n = rw (l, n, sym k, sym m) h

pub unless_is : (group : Bool) (s : List ℕ) {n m : ℕ} {s' : List ℕ} → n ≡ m → s' ≡ s ++ unless_group group n → s' ≡ s ++ unless_group group m
unless_is group s h k = rw (sym h) k

-- ## One draft after another

-- expressions that were made, and then others
abbrev pub onto : List Expression → Expressions → Expressions
onto [] rest = rest
onto (e ∷ es) rest = and_expression e (onto es rest)

onto_none : (es : List Expression) → onto es no_expressions ≡ expressions es
onto_none [] = refl
onto_none (e ∷ es) = ap (and_expression e) (onto_none es)

onto_more : (es : List Expression) (e : Expression) (rest : Expressions) → onto (es ++ e ∷ []) rest ≡ onto es (and_expression e rest)
onto_more [] e rest = refl
onto_more (a ∷ es) e rest = ap (and_expression a) (onto_more es e rest)

others_at : (n : ℕ) (vs : VariableNames) → rest_of (drop n vs) ≡ drop (suc n) vs
others_at zero [] = refl
others_at zero (v ∷ vs) = refl
others_at (suc n) [] = refl
others_at (suc n) (v ∷ vs) = others_at n vs

module _ (own globals symbols : List (List ℕ)) where
  pub next_numbered : (vs : VariableNames) (es : List code.Draft) (i : ℕ) (v : Option (List ℕ)) (e : code.Draft) (all : List Exp) (q : Exp) (s l s' l' : ℕ) (r : Expressions) → i < length es → e ≡ get_or es i e → v ≡ first_of (drop i vs) →
      expression q ≡ numbered own globals symbols v (draft_of e) s l → s' ≡ s + length (widths (draft_of e)) → l' ≡ l + length (quotes_in (draft_of e)) →
      onto (map expression all) (numbered_each own globals symbols (drop i vs) (drafts_of (drop i es)) s l) ≡ r →
      onto (map expression (all ++ q ∷ [])) (numbered_each own globals symbols (drop (i + 1) vs) (drafts_of (drop (i + 1) es)) s' l') ≡ r
  next_numbered vs es i v e all q s l s' l' r here is w m p n k =
      let k' = rw (next_draft es i e here is, others_at i vs, sym w) at k in
      rw (add-one, map-append, onto_more, m, p, n) k'

  pub end_numbered : (vs : VariableNames) (es : List code.Draft) (i : ℕ) (all : List Exp) (s l : ℕ) (r : Expressions) → length es ≤ i →
      onto (map expression all) (numbered_each own globals symbols vs (drafts_of (drop i es)) s l) ≡ r → expressions_of all ≡ r
  end_numbered vs es i all s l r here k =
      let k' = rw (no_draft es i here) at k in
      expressions_of_list all ∙ sym (onto_none (map expression all)) ∙ k'

pub next_sites : (es : List code.Draft) (i : ℕ) (e : code.Draft) (s s' r : List ℕ) → i < length es → e ≡ get_or es i e → s' ≡ s ++ widths (draft_of e) →
    s ++ widths_of_each (drafts_of (drop i es)) ≡ r → s' ++ widths_of_each (drafts_of (drop (i + 1) es)) ≡ r
next_sites es i e s s' r l is h k =
    let k' = rw (next_draft es i e l is) at k in
    rw (add-one, h) (append_assoc s (widths (draft_of e)) (widths_of_each (drafts_of (drop (suc i) es))) ∙ k')

pub next_literals : (f : Datum → Literal) (es : List code.Draft) (i : ℕ) (e : code.Draft) (s s' r : List Literal) → i < length es → e ≡ get_or es i e → s' ≡ s ++ map f (quotes_in (draft_of e)) →
    s ++ map f (quotes_in_each (drafts_of (drop i es))) ≡ r → s' ++ map f (quotes_in_each (drafts_of (drop (i + 1) es))) ≡ r
next_literals f es i e s s' r l is h k =
    let k' = rw (next_draft es i e l is) at k in
    rw add-one (then_literals f (quotes_in (draft_of e)) (quotes_in_each (drafts_of (drop (suc i) es))) s h refl ∙ k')

pub branch_constants : {d a b c : Draft} → d ≡ branch a b c → HasConstants a → HasConstants b → HasConstants c → HasConstants d
branch_constants {a = a} {b} h p q r = subst HasConstants (sym h) (and_from (draft_in_range a) _ p (and_from (draft_in_range b) _ q r))

pub bind_constants : {d e : Draft} {vs : VariableNames} {es : Drafts} → d ≡ bind vs es e → HaveConstants es → HasConstants e → HasConstants d
bind_constants {es = es} h p q = subst HasConstants (sym h) (and_from (drafts_in_range es) _ p q)

pub letrec_constants : {d e : Draft} {vs : VariableNames} {g : Bool} {es : Drafts} → d ≡ letrec vs g es e → HaveConstants es → HasConstants e → HasConstants d
letrec_constants {es = es} h p q = subst HasConstants (sym h) (and_from (drafts_in_range es) _ p q)

pub call_constants : {d f : Draft} {vs : VariableNames} {es : Drafts} → d ≡ call vs f es → HasConstants f → HaveConstants es → HasConstants d
call_constants {f = f} h p q = subst HasConstants (sym h) (and_from (draft_in_range f) _ p q)

pub next_constants : (es : List code.Draft) (i : ℕ) (e : code.Draft) → i < length es → e ≡ get_or es i e → HasConstants (draft_of e) →
    (HaveConstants (drafts_of (drop i es)) → HaveConstants (drafts_of es)) → HaveConstants (drafts_of (drop (i + 1) es)) → HaveConstants (drafts_of es)
next_constants es i e l is here before rest =
    let rest' : HaveConstants (drafts_of (drop (suc i) es)) = subst (λ k. HaveConstants (drafts_of (drop k es))) (add-one i) rest in
    before (subst HaveConstants (sym (next_draft es i e l is)) (and_from (draft_in_range (draft_of e)) _ here rest'))

pub end_constants : (es : List code.Draft) (i : ℕ) → length es ≤ i → (HaveConstants (drafts_of (drop i es)) → HaveConstants (drafts_of es)) → HaveConstants (drafts_of es)
end_constants es i l before = before (subst HaveConstants (sym (no_draft es i l)) refl)

-- ## Room

pub next_room : (es : List code.Draft) (i : ℕ) (e : code.Draft) (out out' : Output) → i < length es → e ≡ get_or es i e → HasRoom out (size_each (drafts_of (drop i es))) →
    length out'.sites ≡ length out.sites + length (widths (draft_of e)) → length out'.literals ≡ length out.literals + length (quotes_in (draft_of e)) → HasRoom out' (size_each (drafts_of (drop (i + 1) es)))
next_room es i e out out' here is r s l =
    let n : size_each (drafts_of (drop i es)) ≡ size (draft_of e) + size_each (drafts_of (drop (suc i) es)) = ap size_each (next_draft es i e here is) in
    rw add-one (room_after out out' (size_each (drafts_of (drop (suc i) es))) r (draft_of e) s l (omega (arith, n)))

-- ## Variables

abbrev IsNear : Draft → Type 0
IsNear d = has_near_variables d ≡ true

abbrev AreNear : Drafts → Type 0
AreNear es = have_near_variables es ≡ true

module _ {d : Draft} (near : has_near_variables d ≡ true) where
  pub local_near : {k : ℕ} → d ≡ local k → k < 2 ^ 32
  local_near {k} h = ltb-true k (2 ^ 32) (subst IsNear h near)

  pub set_local_near : {k : ℕ} {e : Draft} → d ≡ set_local k e → (k < 2 ^ 32) × IsNear e
  set_local_near {k} {e} h =
      let p = and_parts (nat_lt k (2 ^ 32)) (has_near_variables e) (subst IsNear h near) in
      (ltb-true k (2 ^ 32) p.0, p.1)

  pub set_global_near : {x : List ℕ} {e : Draft} → d ≡ set_global x e → IsNear e
  set_global_near h = subst IsNear h near

  pub define_near : {x : List ℕ} {e : Draft} → d ≡ define x e → IsNear e
  define_near h = subst IsNear h near

  pub branch_near : {a b c : Draft} → d ≡ branch a b c → IsNear a × IsNear b × IsNear c
  branch_near {a} {b} {c} h =
      let p = and_parts (has_near_variables a) (has_near_variables b && has_near_variables c) (subst IsNear h near) in
      let q = and_parts (has_near_variables b) (has_near_variables c) p.1 in
      (p.0, q.0, q.1)

  pub sequence_near : {es : Drafts} → d ≡ sequence es → AreNear es
  sequence_near h = subst IsNear h near

  pub bind_near : {vs : VariableNames} {es : Drafts} {e : Draft} → d ≡ bind vs es e → AreNear es × IsNear e
  bind_near {es = es} {e} h = and_parts (have_near_variables es) (has_near_variables e) (subst IsNear h near)

  pub letrec_near : {vs : VariableNames} {g : Bool} {es : Drafts} {e : Draft} → d ≡ letrec vs g es e → AreNear es × IsNear e
  letrec_near {es = es} {e} h = and_parts (have_near_variables es) (has_near_variables e) (subst IsNear h near)

  pub lambda_near : {n : ℕ} {r : Bool} {e : Draft} → d ≡ lambda n r e → IsNear e
  lambda_near h = subst IsNear h near

  pub call_near : {vs : VariableNames} {f : Draft} {es : Drafts} → d ≡ call vs f es → IsNear f × AreNear es
  call_near {f = f} {es} h = and_parts (has_near_variables f) (have_near_variables es) (subst IsNear h near)

  pub operation_near : {p : Primitive} {es : Drafts} → d ≡ operation p es → AreNear es
  operation_near h = subst IsNear h near

pub each_near : {ds : Drafts} {e : Draft} {es : Drafts} → have_near_variables ds ≡ true → ds ≡ and_draft e es → IsNear e × AreNear es
each_near {e = e} {es} near h = and_parts (has_near_variables e) (have_near_variables es) (subst AreNear h near)

pub next_variables : (es : List code.Draft) (i : ℕ) (e : code.Draft) → i < length es → e ≡ get_or es i e → have_near_variables (drafts_of (drop i es)) ≡ true → have_near_variables (drafts_of (drop (i + 1) es)) ≡ true
next_variables es i e here is near = rw add-one (each_near near (next_draft es i e here is)).1
