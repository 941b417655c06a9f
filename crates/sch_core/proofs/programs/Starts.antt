-- What a global holds at the start is a procedure of the library that is kept.
use Rattle.std.proofs.Common.{◌≡◌, ℕ, zero, suc, ◌||◌, Bool, true, false, cond, List, [], ◌∷◌, ◌++◌, map, length, Some, None, refl, ap, sym, subst, ◌∙◌, lt-ltb}
use Rattle.std.specs.Str.{bytes_eq}
use Rattle.std.proofs.lemmas.Bool.{and_from}
use Rattle.std.proofs.lemmas.List.{map-append}
use Rattle.std.proofs.lemmas.Slice.Eq.{bytes_eq-Decides}
use Rattle.sch_word.specs.runs.Runs.{library_known}
use Rattle.sch_word.proofs.facts.Booleans.{or_left, or_right, not_right}
use Rattle.sch_names.specs.Scope.{is_among}
use Rattle.sch_names.specs.NamesView.{with_name, number_of}
use Rattle.sch_sketch.specs.Draft.{Drafts}
use Rattle.sch_link_tables.specs.Named.{firsts, own_global, library_global, globals_in, globals_in_each}
use Rattle.sch_link_tables.specs.Programs.{Definition, with_definition, kept, globals_of_each, names_of_each, seen, is_hidden, held, named, starts}
use Rattle.sch_link_program.proofs.NameSets.{among_append}
use Rattle.sch_core.specs.LibraryDefinitions.{AreAmong, AreOrdered, AreKnown}
use Rattle.sch_core.proofs.numbered.Names.{same, number_below}

-- ## Membership

pub equal : (x y : List ℕ) → bytes_eq x y ≡ true → x ≡ y
equal x y h = (bytes_eq-Decides x y).0 h

other_way : (x y : List ℕ) → bytes_eq x y ≡ false → bytes_eq y x ≡ false
other_way x y h = go (bytes_eq y x) refl
  where
    go : (b : Bool) → bytes_eq y x ≡ b → b ≡ false
    go true e = let f : bytes_eq x y ≡ true = ap (bytes_eq x) (equal y x e) ∙ same x in cc
    go false e = refl

pub among_cons : (x y : List ℕ) (ys : List (List ℕ)) → is_among x ys ≡ true → is_among x (y ∷ ys) ≡ true
among_cons x y ys h = go (bytes_eq x y)
  where
    go : (b : Bool) → cond b true (is_among x ys) ≡ true
    go true = refl
    go false = h

pub among_here : (x : List ℕ) (ys : List (List ℕ)) → is_among x (x ∷ ys) ≡ true
among_here x ys = ap (λ b. cond b true (is_among x ys)) (same x)

pub among_left : (x : List ℕ) (a b : List (List ℕ)) → is_among x a ≡ true → is_among x (a ++ b) ≡ true
among_left x a b h = among_append x a b ∙ or_left _ _ h

pub among_right : (x : List ℕ) (a b : List (List ℕ)) → is_among x b ≡ true → is_among x (a ++ b) ≡ true
among_right x a b h = among_append x a b ∙ or_right (is_among x a) _ h

pub among_map : (f : List ℕ → List ℕ) (x : List ℕ) (ys : List (List ℕ)) → is_among x ys ≡ true → is_among (f x) (map f ys) ≡ true
among_map f x [] h = cc
among_map f x (y ∷ ys) h = go (bytes_eq x y) refl h (among_map f x ys)
  where
    go : (b : Bool) → bytes_eq x y ≡ b → cond b true (is_among x ys) ≡ true → (is_among x ys ≡ true → is_among (f x) (map f ys) ≡ true) →
        is_among (f x) (map f (y ∷ ys)) ≡ true
    go true e k r = subst (λ z. is_among (f x) (f z ∷ map f ys) ≡ true) (equal x y e) (among_here (f x) _)
    go false e k r = among_cons (f x) (f y) _ (r k)

weaker : (all all' xs : List (List ℕ)) → ((g : List ℕ) → is_among g all ≡ true → is_among g all' ≡ true) → AreAmong all xs → AreAmong all' xs
weaker all all' [] f h = tt
weaker all all' (x ∷ xs) f h = (f x h.0, weaker all all' xs f h.1)

pub both_among : (all a b : List (List ℕ)) → AreAmong all a → AreAmong all b → AreAmong all (a ++ b)
both_among all [] b h k = k
both_among all (x ∷ a) b h k = (h.0, both_among all a b h.1 k)

self_among : (all xs : List (List ℕ)) → ((g : List ℕ) → is_among g xs ≡ true → is_among g all ≡ true) → AreAmong all xs
self_among all [] f = tt
self_among all (x ∷ xs) f = (f x (among_here x xs), self_among all xs (λ g h. f g (among_cons g x xs h)))

-- ## Definitions that are kept

with_more : (x : List ℕ) (b : Bool) (d : Definition) (ds : List Definition) → is_among x (names_of_each ds) ≡ true → is_among x (names_of_each (with_definition b d ds)) ≡ true
with_more x true d ds h = among_cons x d.name _ h
with_more x false d ds h = h

named_kept : (ds : List Definition) (names : List (List ℕ)) (x : List ℕ) → is_among x (names_of_each ds) ≡ true → is_among (library_global x) names ≡ true →
    is_among x (names_of_each (kept ds names)) ≡ true
named_kept [] names x h k = cc
named_kept (d ∷ ds) names x h k = go (bytes_eq x d.name) refl h (λ j. named_kept ds names x j k)
  where
    go : (b : Bool) → bytes_eq x d.name ≡ b → cond b true (is_among x (names_of_each ds)) ≡ true →
        (is_among x (names_of_each ds) ≡ true → is_among x (names_of_each (kept ds names)) ≡ true) → is_among x (names_of_each (kept (d ∷ ds) names)) ≡ true
    go true e j r =
        let i : is_among (library_global d.name) (names ++ globals_of_each (kept ds names)) ≡ true =
        among_left (library_global d.name) names _ (subst (λ z. is_among (library_global z) names ≡ true) (equal x d.name e) k) in
        rw i (ap (λ b. cond b true (is_among x (names_of_each (kept ds names)))) e)
    go false e j r = with_more x (is_among (library_global d.name) (names ++ globals_of_each (kept ds names))) d (kept ds names) (r j)

-- names that a table has but for one that none of them is
dropped : (all all' xs : List (List ℕ)) (y : List ℕ) → is_among y xs ≡ false → ((g : List ℕ) → bytes_eq g y ≡ false → is_among g all ≡ true → is_among g all' ≡ true) →
    AreAmong all xs → AreAmong all' xs
dropped all all' [] y n f h = tt
dropped all all' (x ∷ xs) y n f h = go (bytes_eq y x) refl n (λ k. dropped all all' xs y k f h.1)
  where
    go : (b : Bool) → bytes_eq y x ≡ b → cond b true (is_among y xs) ≡ false → (is_among y xs ≡ false → AreAmong all' xs) → AreAmong all' (x ∷ xs)
    go true e k r = absurd cc
    go false e k r = (f x (other_way y x e) h.0, r k)

not_among_right : (x : List ℕ) (a b : List (List ℕ)) → is_among x (a ++ b) ≡ false → is_among x b ≡ false
not_among_right x a b h = not_right (is_among x a) (is_among x b) (sym (among_append x a b) ∙ h)

between : (g y : List ℕ) (a b : List (List ℕ)) → is_among g (map library_global (a ++ y ∷ b)) ≡ true →
    is_among g (library_global y ∷ map library_global (a ++ b)) ≡ true
between g y a b h =
    go (bytes_eq g (library_global y)) (is_among g (map library_global a)) (is_among g (map library_global b))
    (sym (ap (is_among g) (map-append library_global a (y ∷ b)) ∙ among_append g (map library_global a) (map library_global (y ∷ b))) ∙ h)
    (ap (is_among g) (map-append library_global a b) ∙ among_append g (map library_global a) (map library_global b))
  where
    go : (p q r : Bool) → (q || cond p true r) ≡ true → is_among g (map library_global (a ++ b)) ≡ (q || r) → cond p true (is_among g (map library_global (a ++ b))) ≡ true
    go true q r e f = refl
    go false q r e f = f ∙ e

behind : (g y : List ℕ) (a b : List (List ℕ)) → is_among g (map library_global (y ∷ b)) ≡ true → is_among g (library_global y ∷ map library_global (a ++ b)) ≡ true
behind g y a b h = between g y a b (ap (is_among g) (map-append library_global a (y ∷ b)) ∙ among_right g (map library_global a) (map library_global (y ∷ b)) h)

among_others : (g y : List ℕ) (a b : List (List ℕ)) → bytes_eq g (library_global y) ≡ false → is_among g (map library_global (a ++ y ∷ b)) ≡ true →
    is_among g (map library_global (a ++ b)) ≡ true
among_others g y a b n h = sym (ap (λ c. cond c true (is_among g (map library_global (a ++ b)))) n) ∙ between g y a b h

kept_closed : (ds : List Definition) (names before : List (List ℕ)) → AreOrdered before ds →
    AreAmong (map library_global (names_of_each (kept ds names) ++ before)) (globals_of_each (kept ds names))
kept_closed [] names before h = tt
kept_closed (d ∷ ds) names before h =
    go (is_among (library_global d.name) (names ++ globals_of_each (kept ds names))) refl (kept_closed ds names (d.name ∷ before) h.1)
  where
    go : (b : Bool) → is_among (library_global d.name) (names ++ globals_of_each (kept ds names)) ≡ b →
        AreAmong (map library_global (names_of_each (kept ds names) ++ (d.name ∷ before))) (globals_of_each (kept ds names)) →
        AreAmong (map library_global (names_of_each (with_definition b d (kept ds names)) ++ before)) (globals_of_each (with_definition b d (kept ds names)))
    go true e k =
        let all = library_global d.name ∷ map library_global (names_of_each (kept ds names) ++ before) in
        both_among all (globals_in [] d.body) (globals_of_each (kept ds names))
        (weaker (map library_global (d.name ∷ before)) all (globals_in [] d.body) (λ g i. behind g d.name (names_of_each (kept ds names)) before i) h.0)
        (weaker (map library_global (names_of_each (kept ds names) ++ (d.name ∷ before))) all (globals_of_each (kept ds names)) (λ g i. between g d.name (names_of_each (kept ds names)) before i) k)
    go false e k =
        dropped (map library_global (names_of_each (kept ds names) ++ (d.name ∷ before))) (map library_global (names_of_each (kept ds names) ++ before))
        (globals_of_each (kept ds names)) (library_global d.name) (not_among_right (library_global d.name) names (globals_of_each (kept ds names)) e)
        (λ g n i. among_others g d.name (names_of_each (kept ds names)) before n i) k

-- ## What a text sees of a library

pub seen_named : (x : List ℕ) (ds : List Definition) → is_among x (seen ds) ≡ true → is_among x (names_of_each ds) ≡ true
seen_named x [] h = cc
seen_named x (d ∷ ds) h = go (is_hidden d.name) h (seen_named x ds)
  where
    more : (b : Bool) → cond b true (is_among x (seen ds)) ≡ true → (is_among x (seen ds) ≡ true → is_among x (names_of_each ds) ≡ true) →
        cond b true (is_among x (names_of_each ds)) ≡ true
    more true k r = refl
    more false k r = r k

    go : (b : Bool) → is_among x (cond b (seen ds) (d.name ∷ seen ds)) ≡ true → (is_among x (seen ds) ≡ true → is_among x (names_of_each ds) ≡ true) →
        is_among x (names_of_each (d ∷ ds)) ≡ true
    go true k r = among_cons x d.name _ (r k)
    go false k r = more (bytes_eq x d.name) k r

held_named : (y : List ℕ) (ds : List Definition) (own : List (List ℕ)) → is_among y (held ds own) ≡ true → is_among y (names_of_each ds) ≡ true
held_named y ds [] h = cc
held_named y ds (x ∷ own) h = go (is_among x (seen ds)) refl h (held_named y ds own)
  where
    here : (b : Bool) → bytes_eq y x ≡ b → is_among x (seen ds) ≡ true → cond b true (is_among y (held ds own)) ≡ true →
        (is_among y (held ds own) ≡ true → is_among y (names_of_each ds) ≡ true) → is_among y (names_of_each ds) ≡ true
    here true e s k r = subst (λ z. is_among z (names_of_each ds) ≡ true) (sym (equal y x e)) (seen_named x ds s)
    here false e s k r = r k

    go : (b : Bool) → is_among x (seen ds) ≡ b → is_among y (cond b (x ∷ held ds own) (held ds own)) ≡ true →
        (is_among y (held ds own) ≡ true → is_among y (names_of_each ds) ≡ true) → is_among y (names_of_each ds) ≡ true
    go true e k r = here (bytes_eq y x) refl e k r
    go false e k r = r k

-- ## Globals that are ready

abbrev pub IsReady : List Definition → (held : List (List ℕ)) → List ℕ → Type 0
IsReady ds hs [] = Unit {0}
IsReady ds hs (zero ∷ x) = is_among x hs ≡ true → is_among x (names_of_each ds) ≡ true
IsReady ds hs (suc mark ∷ x) = is_among x (names_of_each ds) ≡ true

abbrev pub AreReady : List Definition → (held : List (List ℕ)) → List (List ℕ) → Type 0
AreReady ds hs [] = Unit {0}
AreReady ds hs (g ∷ gs) = IsReady ds hs g × AreReady ds hs gs

module _ (ds : List Definition) (hs : List (List ℕ)) where
  pub ready_append : (a b : List (List ℕ)) → AreReady ds hs a → AreReady ds hs b → AreReady ds hs (a ++ b)
  ready_append [] b h k = k
  ready_append (x ∷ a) b h k = (h.0, ready_append a b h.1 k)

  pub ready_firsts : (names before : List (List ℕ)) → AreReady ds hs before → AreReady ds hs names → AreReady ds hs (firsts before names)
  ready_firsts [] before h k = h
  ready_firsts (x ∷ names) before h k = ready_firsts names (with_name x before) (go (is_among x before)) k.1
    where
      go : (b : Bool) → AreReady ds hs (cond b before (before ++ x ∷ []))
      go true = h
      go false = ready_append before (x ∷ []) h (k.0, tt)

  library_ready : (g : List ℕ) (ys : List (List ℕ)) → is_among g (map library_global ys) ≡ true → ((y : List ℕ) → is_among y ys ≡ true → g ≡ library_global y → is_among y (names_of_each ds) ≡ true) → IsReady ds hs g
  library_ready g [] h f = cc
  library_ready g (y ∷ ys) h f = go (bytes_eq g (library_global y)) refl h (λ k. library_ready g ys k (λ z l. f z (among_cons z y ys l)))
    where
      go : (b : Bool) → bytes_eq g (library_global y) ≡ b → cond b true (is_among g (map library_global ys)) ≡ true →
          (is_among g (map library_global ys) ≡ true → IsReady ds hs g) → IsReady ds hs g
      go true e k r = let i = equal g (library_global y) e in subst (IsReady ds hs) (sym i) (f y (among_here y ys) i)
      go false e k r = r k

  own_ready : (g : List ℕ) (ys : List (List ℕ)) → is_among g (map own_global ys) ≡ true → ((y : List ℕ) → is_among y hs ≡ true → is_among y (names_of_each ds) ≡ true) → IsReady ds hs g
  own_ready g [] h f = cc
  own_ready g (y ∷ ys) h f = go (bytes_eq g (own_global y)) refl h (λ k. own_ready g ys k f)
    where
      go : (b : Bool) → bytes_eq g (own_global y) ≡ b → cond b true (is_among g (map own_global ys)) ≡ true →
          (is_among g (map own_global ys) ≡ true → IsReady ds hs g) → IsReady ds hs g
      go true e k r = subst (IsReady ds hs) (sym (equal g (own_global y) e)) (f y)
      go false e k r = r k

  all_ready : (gs names : List (List ℕ)) → ((y : List ℕ) → is_among y names ≡ true → is_among y (names_of_each ds) ≡ true) → AreAmong (map library_global names) gs → AreReady ds hs gs
  all_ready [] names f h = tt
  all_ready (g ∷ gs) names f h = (library_ready g names h.0 (λ y i e. f y i), all_ready gs names f h.1)

  pub known_starts : (gs : List (List ℕ)) → AreReady ds hs gs → library_known (length (names_of_each ds)) (starts ds hs gs) ≡ true
  known_starts [] h = refl
  known_starts ([] ∷ gs) h = known_starts gs h.1
  known_starts ((suc mark ∷ x) ∷ gs) h = and_from _ _ (lt-ltb _ _ (number_below x (names_of_each ds) h.0)) (known_starts gs h.1)
  known_starts ((zero ∷ x) ∷ gs) h = go (is_among x hs) h.0 (known_starts gs h.1)
    where
      go : (b : Bool) → (b ≡ true → is_among x (names_of_each ds) ≡ true) → library_known (length (names_of_each ds)) (starts ds hs gs) ≡ true →
          library_known (length (names_of_each ds)) (cond b (Some (number_of x (names_of_each ds))) None ∷ starts ds hs gs) ≡ true
      go true f r = and_from _ _ (lt-ltb _ _ (number_below x (names_of_each ds) (f refl))) r
      go false f r = r

pub starts_length : (ds : List Definition) (hs gs : List (List ℕ)) → length (starts ds hs gs) ≡ length gs
starts_length ds hs [] = refl
starts_length ds hs (g ∷ gs) = ap suc (starts_length ds hs gs)

-- ## The globals of a program

module _ (ds : List Definition) (own : List (List ℕ)) (forms : Drafts) where
  abbrev ks : List Definition
  ks = kept ds (named ds own forms)

  held_kept : (y : List ℕ) → is_among y (held ds own) ≡ true → is_among y (names_of_each ks) ≡ true
  held_kept y h =
      named_kept ds (named ds own forms) y (held_named y ds own h)
      (among_right (library_global y) (globals_in_each own forms) _ (among_map library_global y (held ds own) h))

  form_ready : (g : List ℕ) → is_among g (map own_global own ++ map library_global (names_of_each ds)) ≡ true → is_among g (named ds own forms) ≡ true → IsReady ks (held ds own) g
  form_ready g h n = go (is_among g (map own_global own)) refl (sym (among_append g (map own_global own) _) ∙ h)
    where
      go : (b : Bool) → is_among g (map own_global own) ≡ b → (b || is_among g (map library_global (names_of_each ds))) ≡ true → IsReady ks (held ds own) g
      go true e k = own_ready ks (held ds own) g own e held_kept
      go false e k =
          library_ready ks (held ds own) g (names_of_each ds) k
          (λ y i j. named_kept ds (named ds own forms) y i (subst (λ z. is_among z (named ds own forms) ≡ true) j n))

  forms_ready : (gs : List (List ℕ)) → AreAmong (map own_global own ++ map library_global (names_of_each ds)) gs → AreAmong (named ds own forms) gs → AreReady ks (held ds own) gs
  forms_ready [] h n = tt
  forms_ready (g ∷ gs) h n = (form_ready g h.0 n.0, forms_ready gs h.1 n.1)

  no_more : (names : List (List ℕ)) (y : List ℕ) → is_among y (names ++ []) ≡ true → is_among y names ≡ true
  no_more names y h = go (is_among y names) (sym (among_append y names []) ∙ h)
    where
      go : (b : Bool) → (b || false) ≡ true → b ≡ true
      go true e = refl
      go false e = cc

  pub globals_ready : AreOrdered [] ds → AreKnown ds own forms → AreReady ks (held ds own) (firsts [] (globals_of_each ks ++ globals_in_each own forms))
  globals_ready o k =
      ready_firsts ks (held ds own) _ [] tt
      (ready_append ks (held ds own) (globals_of_each ks) _
      (all_ready ks (held ds own) (globals_of_each ks) (names_of_each ks ++ []) (no_more (names_of_each ks)) (kept_closed ds (named ds own forms) [] o))
      (forms_ready (globals_in_each own forms) k (self_among (named ds own forms) (globals_in_each own forms) (λ g h. among_left g (globals_in_each own forms) _ h))))
