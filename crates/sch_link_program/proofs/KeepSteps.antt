-- The steps of the loops that choose what is kept of a library, over plain values.
use Rattle.std.proofs.Common.{◌≡◌, ◌<◌, ◌≤◌, ◌+◌, ◌-◌, ℕ, zero, suc, Bool, true, false, cond, not, ◌||◌, ◌&&◌, List, [], ◌∷◌, ◌++◌, length, take, drop, get_or, map, reverse, refl, sym, ap, subst, ◌∙◌, arith, add-one, append_assoc, append-nil, Option}
use Rattle.std.proofs.Math.Bool.{and-false, or-false, or_assoc}
use Rattle.std.proofs.lemmas.List.{reverse-append, take-append-drop, drop_all}
use Rattle.std.proofs.lemmas.Slice.Eq.{bytes_eq-Decides}
use Rattle.std.specs.Str.{bytes_eq}
use Rattle.std.proofs.Math.Seq.{drop-length, drop-append_seam}
use Rattle.sch_names.specs.Scope.{is_among}
use Rattle.sch_names.specs.NamesView.{with_name, number_of}
use Rattle.sch_link_tables.specs.Named.{firsts, library_global, globals_in}
use Rattle.sch_word.proofs.facts.Lists.{next_left, map_reverse}
use Rattle.sch_link_tables.specs.Programs.{Definition, kept, with_definition, globals_of_each, seen, is_hidden, held, names_of_each, starts, starts_with}
use Rattle.sch_sketch.specs.DraftView.{draft_of}
use Rattle.sch_link_program.specs.declared.definition.Definition as code
use Rattle.sch_link_program.specs.declared.definition.KeptDefinition.{KeptDefinition}
use Rattle.sch_link_program.specs.Definitions.{definition_of, definitions_of, kept_of, kept_definitions}
use Rattle.sch_link_program.proofs.NameSets.{or_three, or_four, among_append, among_with, among_firsts, among_held}

-- ## Names that are held

pub next_held : (own names names' : List (List ℕ)) (d : Definition) (ds : List Definition) → names' ≡ cond (not (is_hidden d.name) && is_among d.name own) (with_name d.name names) names →
    (x : List ℕ) → (is_among x names' || (is_among x own && is_among x (seen ds))) ≡ (is_among x names || (is_among x own && is_among x (seen (d ∷ ds))))
next_held own names names' d ds e x = rw e (go (is_hidden d.name) (is_among d.name own) (bytes_eq x d.name) refl refl)
  where
    hit : (a b : Bool) → ((a || true) || b) ≡ (a || true)
    hit true b = refl
    hit false b = refl

    go : (h o c : Bool) → is_among d.name own ≡ o → bytes_eq x d.name ≡ c →
        (is_among x (cond (not h && o) (with_name d.name names) names) || (is_among x own && is_among x (seen ds)))
        ≡ (is_among x names || (is_among x own && is_among x (cond h (seen ds) (d.name ∷ seen ds))))
    go true o c p q = refl
    go false true true p q =
        let i = subst (λ z. is_among z own ≡ true) (sym ((bytes_eq-Decides x d.name).0 q)) p in
        rw (among_with x d.name names, q, i) (hit (is_among x names) (is_among x (seen ds)))
    go false true false p q = rw (among_with x d.name names, q, or-false (is_among x names)) refl
    go false false true p q = let i = subst (λ z. is_among z own ≡ false) (sym ((bytes_eq-Decides x d.name).0 q)) p in rw (q, i) refl
    go false false false p q = rw q refl

module _ (own names names' : List (List ℕ)) (ds : List code.Definition) (i : ℕ) where
  pub next_hold : (d : code.Definition) → i < length ds → d ≡ get_or ds i d → names' ≡ cond (not (is_hidden d.name.now) && is_among d.name.now own) (with_name d.name.now names) names →
      ((x : List ℕ) → (is_among x names || (is_among x own && is_among x (seen (definitions_of (drop i ds))))) ≡ (is_among x own && is_among x (seen (definitions_of ds)))) →
      (x : List ℕ) → (is_among x names' || (is_among x own && is_among x (seen (definitions_of (drop (i + 1) ds))))) ≡ (is_among x own && is_among x (seen (definitions_of ds)))
  next_hold d l h e k x =
      let n : definitions_of (drop i ds) ≡ definition_of d ∷ definitions_of (drop (suc i) ds) = ap definitions_of (next_left ds i d l h) in
      rw add-one (next_held own names names' (definition_of d) (definitions_of (drop (suc i) ds)) e x ∙ ap (λ a. is_among x names || (is_among x own && is_among x (seen a))) (sym n) ∙ k x)

  pub end_hold : length ds ≤ i → ((x : List ℕ) → (is_among x names || (is_among x own && is_among x (seen (definitions_of (drop i ds))))) ≡ (is_among x own && is_among x (seen (definitions_of ds)))) →
      (x : List ℕ) → is_among x names ≡ is_among x (held (definitions_of ds) own)
  end_hold l k x =
      let k' = rw (drop_all i ds l) at k x in
      let nothing_more = ap (λ b. is_among x names || b) (and-false (is_among x own)) ∙ or-false (is_among x names) in
      sym nothing_more ∙ k' ∙ sym (among_held x (definitions_of ds) own)

-- ## Definitions that are kept

module _ (first hs : List (List ℕ)) (ds : List Definition) (d : Definition) (t : List (List ℕ)) where
  abbrev all : List (List ℕ)
  all = first ++ map library_global hs

  module _ (inv : (x : List ℕ) → is_among x t ≡ (is_among x first || is_among x (globals_of_each (kept ds (first ++ map library_global hs))))) where
    pub kept_more : (b : Bool) → b ≡ is_among (library_global d.name) (t ++ map library_global hs) → kept (d ∷ ds) (first ++ map library_global hs) ≡ with_definition b d (kept ds (first ++ map library_global hs))
    kept_more b e =
        let x = library_global d.name in
        let k = kept ds all in
        let p : is_among x (t ++ map library_global hs) ≡ is_among x (all ++ globals_of_each k) =
        among_append x t (map library_global hs) ∙ ap (λ a. a || is_among x (map library_global hs)) (inv x)
        ∙ or_three (is_among x first) (is_among x (globals_of_each k)) (is_among x (map library_global hs))
        ∙ ap (λ a. a || is_among x (globals_of_each k)) (sym (among_append x first (map library_global hs))) ∙ sym (among_append x all (globals_of_each k)) in
        ap (λ b. with_definition b d k) (sym (e ∙ p))

    pub named_more : (t' : List (List ℕ)) (x : List ℕ) → is_among x t' ≡ (is_among x t || is_among x (globals_in [] d.body)) → is_among x t' ≡ (is_among x first || is_among x (globals_of_each (d ∷ kept ds (first ++ map library_global hs))))
    named_more t' x e =
        let g = globals_of_each (kept ds all) in
        e ∙ (
        ap (λ a. a || is_among x (globals_in [] d.body)) (inv x) ∙ or_four (is_among x first) (is_among x g) (is_among x (globals_in [] d.body))
        ∙ ap (λ a. is_among x first || a) (sym (among_append x (globals_in [] d.body) g))
        )

-- a list is what stands before its last, and that
pub last_apart : {A : Type 0} (xs : List A) (x : A) → 1 ≤ length xs → x ≡ get_or xs (length xs - 1) x → xs ≡ take (length xs - 1) xs ++ x ∷ []
last_apart xs x l e =
    let i = length xs - 1 in
    let n : suc i ≡ length xs = omega (arith, l) in
    sym (take-append-drop i xs) ∙ ap (λ r. take i xs ++ r) (next_left xs i x (omega (arith, n)) e ∙ ap (λ r. x ∷ r) (drop_all (suc i) xs (omega (arith, n))))

-- the last of those that are left, and those that have been looked at
pub definition_before : (ds left others : List code.Definition) (d : code.Definition) → left ++ drop (length left) ds ≡ ds → left ≡ others ++ d ∷ [] → drop (length others) ds ≡ d ∷ drop (length left) ds
definition_before ds left others d whole is =
    let p : others ++ (d ∷ drop (length left) ds) ≡ ds = sym (append_assoc others (d ∷ []) (drop (length left) ds)) ∙ ap (λ l. l ++ drop (length left) ds) (sym is) ∙ whole in
    ap (drop (length others)) (sym p) ∙ drop-append_seam others (d ∷ drop (length left) ds)

pub still_whole : (ds left others : List code.Definition) (d : code.Definition) → left ++ drop (length left) ds ≡ ds → left ≡ others ++ d ∷ [] → others ++ drop (length others) ds ≡ ds
still_whole ds left others d whole is =
    ap (λ l. others ++ l) (definition_before ds left others d whole is) ∙ sym (append_assoc others (d ∷ []) (drop (length left) ds)) ∙ ap (λ l. l ++ drop (length left) ds) (sym is) ∙ whole

-- what is kept is listed from its last definition on
abbrev from_last : List KeptDefinition → List Definition
from_last all = reverse (kept_definitions all)

-- names behind others, and some more of them
more_among : (x : List ℕ) (first w g : List (List ℕ)) → is_among x (first ++ firsts w g) ≡ (is_among x (first ++ w) || is_among x g)
more_among x first w g =
    among_append x first (firsts w g) ∙ ap (λ b. is_among x first || b) (among_firsts x w g) ∙ sym (or_assoc (is_among x first) (is_among x w) (is_among x g))
    ∙ ap (λ b. b || is_among x g) (sym (among_append x first w))

module _ (first hs w : List (List ℕ)) (ds left others : List code.Definition) (d : code.Definition) (whole : left ++ drop (length left) ds ≡ ds) (is : left ≡ others ++ d ∷ []) where
  abbrev t : List (List ℕ)
  t = first ++ w

  module _ (b : Bool) (inv : (x : List ℕ) → is_among x (first ++ w) ≡ (is_among x first || is_among x (globals_of_each (kept (definitions_of (drop (length left) ds)) (first ++ map library_global hs))))) where
    kept_now : b ≡ is_among (library_global d.name.now) (t ++ map library_global hs) →
        kept (definitions_of (drop (length others) ds)) (first ++ map library_global hs) ≡ with_definition b (definition_of d) (kept (definitions_of (drop (length left) ds)) (first ++ map library_global hs))
    kept_now e =
        ap (λ l. kept (definitions_of l) (first ++ map library_global hs)) (definition_before ds left others d whole is) ∙ kept_more first hs (definitions_of (drop (length left) ds)) (definition_of d) t inv b e

    module _ (e : b ≡ is_among (library_global d.name.now) (t ++ map library_global hs)) where
      skipped : b ≡ false → kept (definitions_of (drop (length left) ds)) (first ++ map library_global hs) ≡ kept (definitions_of (drop (length others) ds)) (first ++ map library_global hs)
      skipped n = sym (kept_now e ∙ ap (λ b. with_definition b (definition_of d) (kept (definitions_of (drop (length left) ds)) (first ++ map library_global hs))) n)

      added : b ≡ true → definition_of d ∷ kept (definitions_of (drop (length left) ds)) (first ++ map library_global hs) ≡ kept (definitions_of (drop (length others) ds)) (first ++ map library_global hs)
      added n = sym (kept_now e ∙ ap (λ b. with_definition b (definition_of d) (kept (definitions_of (drop (length left) ds)) (first ++ map library_global hs))) n)

      pub step_list : (all all' : List KeptDefinition) → kept_definitions all' ≡ cond b (kept_definitions all ++ definition_of d ∷ []) (kept_definitions all) →
          from_last all ≡ kept (definitions_of (drop (length left) ds)) (first ++ map library_global hs) → from_last all' ≡ kept (definitions_of (drop (length others) ds)) (first ++ map library_global hs)
      step_list all all' h k = rw h (go b refl)
        where
          go : (c : Bool) → b ≡ c → reverse (cond c (kept_definitions all ++ definition_of d ∷ []) (kept_definitions all)) ≡ kept (definitions_of (drop (length others) ds)) (first ++ map library_global hs)
          go true n = reverse-append (kept_definitions all) (definition_of d ∷ []) ∙ ap (λ l. definition_of d ∷ l) k ∙ added n
          go false n = k ∙ skipped n

      pub step_names : (w' : List (List ℕ)) → w' ≡ cond b (firsts w (globals_in [] (draft_of d.body))) w →
          (x : List ℕ) → is_among x (first ++ w') ≡ (is_among x first || is_among x (globals_of_each (kept (definitions_of (drop (length others) ds)) (first ++ map library_global hs))))
      step_names w' h x = rw h (go b refl)
        where
          go : (c : Bool) → b ≡ c → is_among x (first ++ cond c (firsts w (globals_in [] (draft_of d.body))) w) ≡ (is_among x first || is_among x (globals_of_each (kept (definitions_of (drop (length others) ds)) (first ++ map library_global hs))))
          go true n =
              named_more first hs (definitions_of (drop (length left) ds)) (definition_of d) t inv (first ++ firsts w (globals_in [] (draft_of d.body))) x (more_among x first w (globals_in [] (draft_of d.body))) ∙ ap (λ l. is_among x first || is_among x (globals_of_each l)) (added n)
          go false n = inv x ∙ ap (λ l. is_among x first || is_among x (globals_of_each l)) (skipped n)

-- at the start no definition has been looked at, and in the end each of them
pub begin_whole : (ds : List code.Definition) → ds ++ drop (length ds) ds ≡ ds
begin_whole ds = ap (λ l. ds ++ l) (drop-length ds) ∙ append-nil ds

pub begin_names : (first hs w : List (List ℕ)) (ds : List code.Definition) → w ≡ [] →
    (x : List ℕ) → is_among x (first ++ w) ≡ (is_among x first || is_among x (globals_of_each (kept (definitions_of (drop (length ds) ds)) (first ++ map library_global hs))))
begin_names first hs w ds z x = rw (drop-length ds, z) (among_append x first [])

pub begin_list : (first hs : List (List ℕ)) (ds : List code.Definition) (all : List KeptDefinition) → all ≡ [] → from_last all ≡ kept (definitions_of (drop (length ds) ds)) (first ++ map library_global hs)
begin_list first hs ds all h = rw (drop-length ds, h) refl

pub all_looked : (first hs : List (List ℕ)) (ds left : List code.Definition) (all result : List KeptDefinition) → left ≡ [] → from_last all ≡ kept (definitions_of (drop (length left) ds)) (first ++ map library_global hs) → result ≡ reverse all →
    kept_definitions result ≡ kept (definitions_of ds) (first ++ map library_global hs)
all_looked first hs ds left all result z k h = ap kept_definitions h ∙ map_reverse kept_of all ∙ k ∙ rw z refl

-- ## The number of a procedure

pub next_number : (x : List ℕ) (ds : List KeptDefinition) (i : ℕ) (d : KeptDefinition) → i < length ds → d ≡ get_or ds i d →
    number_of x (names_of_each (kept_definitions (drop i ds))) ≡ cond (bytes_eq x d.name.now) zero (suc (number_of x (names_of_each (kept_definitions (drop (suc i) ds)))))
next_number x ds i d l h =
    ap (λ a. number_of x (names_of_each (kept_definitions a))) (next_left ds i d l h)

module _ (x : List ℕ) (ds : List KeptDefinition) (i n r : ℕ) (before : n + number_of x (names_of_each (kept_definitions (drop i ds))) ≡ r) where
  module _ (d : KeptDefinition) (here : i < length ds) (is : d ≡ get_or ds i d) where
    pub found_place : bytes_eq x d.name.now ≡ true → n ≡ r
    found_place h = let k = rw (next_number x ds i d here is, h) at before in omega (arith, k)

    pub next_place : bytes_eq x d.name.now ≡ false → (n' : ℕ) → n' ≡ n + 1 → n' + number_of x (names_of_each (kept_definitions (drop (i + 1) ds))) ≡ r
    next_place h n' e = let k = rw (next_number x ds i d here is, h) at before in rw (add-one, e) (one_further n (number_of x (names_of_each (kept_definitions (drop (suc i) ds)))) ∙ k)
      where
        one_further : (n m : ℕ) → n + 1 + m ≡ n + suc m
        one_further n m = omega arith

  pub end_place : length ds ≤ i → n ≡ r
  end_place l = let k = rw (drop_all i ds l) at before in omega (arith, k)

-- ## What globals hold at the start

module _ (ds : List Definition) (hs : List (List ℕ)) (gs : List (List ℕ)) (i : ℕ) (all r : List (Option ℕ)) (before : all ++ starts ds hs (drop i gs) ≡ r) where
  pub next_start : (g : List ℕ) (o : Option ℕ) → i < length gs → g ≡ get_or gs i g → o ≡ starts_with ds hs g → (all ++ o ∷ []) ++ starts ds hs (drop (i + 1) gs) ≡ r
  next_start g o here is h =
      let n : drop i gs ≡ g ∷ drop (suc i) gs = next_left gs i g here is in
      let k = rw n at before in
      rw (add-one, h) (append_assoc all (starts_with ds hs g ∷ []) (starts ds hs (drop (suc i) gs)) ∙ k)

  pub end_start : length gs ≤ i → all ≡ r
  end_start l = let k = rw (drop_all i gs l) at before in sym (append-nil all) ∙ k
