-- Items that are resolved stand in a text that has the spellings of their instructions.
use Rattle.std.proofs.Common.{◌≡◌, ℕ, ◌+◌, ◌<◌, ◌≤◌, List, [], ◌∷◌, ◌++◌, length, Bool, true, false, cond, ◌&&◌, ◌==◌, refl, sym, ap, ◌∙◌, subst, arith, append_assoc, append-nil, eq-eqb}
use Rattle.std.proofs.lemmas.Bool.{eqb-true, eqb-false, ne_eqb}
use Rattle.std.specs.List.{flat_map}
use Rattle.std.specs.Prelude.{IsTrue, not}
use Rattle.sch_word.specs.values.Memory.{Segment}
use Rattle.sch_insn.specs.declared.insn.Insn.{Insn}
use Rattle.sch_insn.specs.Spelling.{AllValid, spelling}
use Rattle.sch_insn.specs.Stands.{HasAt}
use Rattle.sch_insn.proofs.SegmentContents.{has_all, spelling_some}
use Rattle.sch_asm.specs.declared.item.Item.{Item}
use Rattle.sch_asm.specs.declared.item.Item.TheVariants.{Label, Plain, Jump, JumpIf, LoadLabel, LoadWord, StoreWord, Mark}
use Rattle.sch_asm.specs.declared.item.Mark as mark
use Rattle.sch_word.specs.declared.mark.MarkKind.{MarkKind}
use Rattle.sch_word.specs.runs.ProgramLayout.{data_address}
use Rattle.sch_asm.specs.Items.{marks_arrive}
use Rattle.sch_asm.specs.Codes.{Codes}
use Rattle.sch_asm.specs.Stands.{Setting, Stands, marks_at}

-- whether marks wait
abbrev pub some : List MarkKind → Bool
some [] = false
some (m ∷ ms) = true

some_more : (waiting : List MarkKind) (m : MarkKind) → some (waiting ++ m ∷ []) ≡ true
some_more [] m = refl
some_more (w ∷ waiting) m = refl

-- none waits where none may
none : (waiting : List MarkKind) (b : Bool) → IsTrue (not (some waiting) && b) → (waiting ≡ []) × IsTrue b
none [] b h = (refl, h)
none (w ∷ waiting) b h = absurd cc

module _ (all : List mark.Mark) where
  -- from an address on, the marks are those that wait there and those that come
  abbrev pub Look : List MarkKind → ℕ → List mark.Mark → Type 0
  Look waiting a marks = (b : ℕ) → a ≤ b → marks_at all b ≡ cond (b == a) waiting [] ++ marks_at marks b

  pub nothing : (t : Bool) (l : List MarkKind) → cond t [] [] ++ l ≡ l
  nothing true l = refl
  nothing false l = refl

  module _ (place_of : ℕ → ℕ) where
    none_before : (is : List Item) (b c : ℕ) (code : List Insn) (marks : List mark.Mark) → Codes place_of b is code marks → c < b → marks_at marks c ≡ []
    none_before [] b c code marks h lt = ap (λ l. marks_at l c) h.1
    none_before (Label l ∷ is) b c code marks h lt = none_before is b c code marks h.1 lt
    none_before (Mark m ∷ is) b c code marks h lt =
        ap (λ l. marks_at l c) h.1 ∙ ap (λ t. cond t (m ∷ marks_at h.0 c) (marks_at h.0 c)) (ne_eqb b c (λ e. omega arith)) ∙ none_before is b c code h.0 h.2 lt
    none_before (Plain i ∷ is) b c code marks h lt = none_before is (b + length (spelling i)) c h.0 marks h.2 (omega arith)
    none_before (Jump l ∷ is) b c code marks h lt = none_before is (b + length (spelling h.0)) c h.1 marks h.4 (omega arith)
    none_before (JumpIf n l ∷ is) b c code marks h lt = none_before is (b + length (spelling h.0)) c h.1 marks h.4 (omega arith)
    none_before (LoadLabel r l ∷ is) b c code marks h lt = none_before is (b + 7) c h.1 marks h.4 (omega arith)
    none_before (LoadWord r l ∷ is) b c code marks h lt = none_before is (b + 7) c h.1 marks h.4 (omega arith)
    none_before (StoreWord l r ∷ is) b c code marks h lt = none_before is (b + 7) c h.1 marks h.4 (omega arith)

    -- the marks of an instruction, where those that come stand behind it
    pub here : (waiting : List MarkKind) (a n : ℕ) (is : List Item) (code : List Insn) (marks : List mark.Mark) → Look waiting a marks → 0 < n → Codes place_of (a + n) is code marks → marks_at all a ≡ waiting
    here waiting a n is code marks look long h =
        look a (omega arith) ∙ ap (λ t. cond t waiting [] ++ marks_at marks a) (eq-eqb a a refl) ∙ ap (λ l. waiting ++ l) (none_before is (a + n) a code marks h (omega arith)) ∙ append-nil waiting

  pub ahead : (waiting : List MarkKind) (a n : ℕ) (marks : List mark.Mark) → Look waiting a marks → 0 < n → Look [] (a + n) marks
  ahead waiting a n marks look long b le =
      look b (omega arith) ∙ ap (λ t. cond t waiting [] ++ marks_at marks b) (ne_eqb b a (λ e. omega arith)) ∙ sym (nothing (b == a + n) (marks_at marks b))

  pub one_more : (waiting : List MarkKind) (a : ℕ) (m : MarkKind) (marks rest : List mark.Mark) → Look waiting a marks → marks ≡ record { address = a; kind = m } ∷ rest → Look (waiting ++ m ∷ []) a rest
  one_more waiting a m marks rest look e b le = look b le ∙ ap (λ l. cond (b == a) waiting [] ++ marks_at l b) e ∙ by (b == a) refl
    where
      by : (t : Bool) → (b == a) ≡ t → cond t waiting [] ++ cond (a == b) (m ∷ marks_at rest b) (marks_at rest b) ≡ cond t (waiting ++ m ∷ []) [] ++ marks_at rest b
      by true t =
          let same : b ≡ a = eqb-true b a t in
          ap (λ t. waiting ++ cond t (m ∷ marks_at rest b) (marks_at rest b)) (eq-eqb a b (sym same)) ∙ sym (append_assoc waiting (m ∷ []) (marks_at rest b))
      by false t = ap (λ t. cond t (m ∷ marks_at rest b) (marks_at rest b)) (ne_eqb a b (λ e. eqb-false b a t (sym e)))

-- Items stand in a text whose instructions they are resolved to.
module _ (text : Segment) (place_of : ℕ → ℕ) (all : List mark.Mark) (apart : text.address + length text.bytes ≤ data_address) where
  abbrev pub setting_of : Setting
  setting_of = record { text = text; marks = marks_at all; place_of = place_of; apart = apart }

  stands : (is : List Item) (a : ℕ) (waiting : List MarkKind) (code : List Insn) (marks : List mark.Mark) → IsTrue (marks_arrive (some waiting) is) → Look all waiting a marks → Codes place_of a is code marks → HasAt (text ∷ []) a code → Stands setting_of waiting a is
  stands [] a waiting code marks w look h at = tt
  stands (Label l ∷ is) a waiting code marks w look h at =
      let n = none waiting (marks_arrive false is) w in
      (n.0, h.0, stands is a [] code marks n.1 (subst (λ v. Look all v a marks) n.0 look) h.1 at)
  stands (Mark m ∷ is) a waiting code marks w look h at =
      stands is a (waiting ++ m ∷ []) code h.0 (subst (λ b. IsTrue (marks_arrive b is)) (sym (some_more waiting m)) w) (one_more all waiting a m marks h.0 look h.1) h.2 at
  stands (Plain i ∷ is) a waiting code marks w look h at =
      let has = subst (HasAt (text ∷ []) a) h.1 at in
      let long = spelling_some i in
      (_, (i, has.0, refl, here all place_of waiting a (length (spelling i)) is h.0 marks look long h.2), stands is (a + length (spelling i)) [] h.0 marks w (ahead all waiting a (length (spelling i)) marks look long) h.2 has.1)
  stands (Jump l ∷ is) a waiting code marks w look h at =
      let has = subst (HasAt (text ∷ []) a) h.2 at in
      let long = spelling_some h.0 in
      (_, h.0, (h.0, has.0, refl, here all place_of waiting a (length (spelling h.0)) is h.1 marks look long h.4), h.3, stands is (a + length (spelling h.0)) [] h.1 marks w (ahead all waiting a (length (spelling h.0)) marks look long) h.4 has.1)
  stands (JumpIf c l ∷ is) a waiting code marks w look h at =
      let has = subst (HasAt (text ∷ []) a) h.2 at in
      let long = spelling_some h.0 in
      (_, h.0, (h.0, has.0, refl, here all place_of waiting a (length (spelling h.0)) is h.1 marks look long h.4), h.3, stands is (a + length (spelling h.0)) [] h.1 marks w (ahead all waiting a (length (spelling h.0)) marks look long) h.4 has.1)
  stands (LoadLabel r l ∷ is) a waiting code marks w look h at =
      let has = subst (HasAt (text ∷ []) a) h.2 at in
      (_, h.0, (_, has.0, refl, here all place_of waiting a 7 is h.1 marks look (omega arith) h.4), h.3, stands is (a + 7) [] h.1 marks w (ahead all waiting a 7 marks look (omega arith)) h.4 has.1)
  stands (LoadWord r l ∷ is) a waiting code marks w look h at =
      let has = subst (HasAt (text ∷ []) a) h.2 at in
      (_, h.0, (_, has.0, refl, here all place_of waiting a 7 is h.1 marks look (omega arith) h.4), h.3, stands is (a + 7) [] h.1 marks w (ahead all waiting a 7 marks look (omega arith)) h.4 has.1)
  stands (StoreWord l r ∷ is) a waiting code marks w look h at =
      let has = subst (HasAt (text ∷ []) a) h.2 at in
      (_, h.0, (_, has.0, refl, here all place_of waiting a 7 is h.1 marks look (omega arith) h.4), h.3, stands is (a + 7) [] h.1 marks w (ahead all waiting a 7 marks look (omega arith)) h.4 has.1)

  -- From the answer of `resolve`: the text begins with the spellings of the instructions.
  pub resolved_stands : (is : List Item) (code : List Insn) (rest : List ℕ) → text.executable ≡ true → text.bytes ≡ flat_map spelling code ++ rest → AllValid code → IsTrue (marks_arrive false is) → Codes place_of text.address is code all → Stands setting_of [] text.address is
  resolved_stands is code rest x e v w h =
      let at : HasAt (text ∷ []) (text.address + 0) code = has_all [] [] text code [] rest tt x e v in
      let same : text.address + 0 ≡ text.address = omega arith in
      stands is text.address [] code all w (λ b le. sym (nothing all (b == text.address) (marks_at all b))) h (subst (λ a. HasAt (text ∷ []) a code) same at)

-- ---- two lists of items

module _ (setting : Setting) where
  -- items before others
  pub stands_front : (xs ys : List Item) (waiting : List MarkKind) (a : ℕ) → Stands setting waiting a (xs ++ ys) → Stands setting waiting a xs
  stands_front [] ys waiting a h = tt
  stands_front (Label l ∷ xs) ys waiting a h = (h.0, h.1, stands_front xs ys [] a h.2)
  stands_front (Mark m ∷ xs) ys waiting a h = stands_front xs ys (waiting ++ m ∷ []) a h
  stands_front (Plain i ∷ xs) ys waiting a h = (h.0, h.1, stands_front xs ys [] (a + h.0) h.2)
  stands_front (Jump l ∷ xs) ys waiting a h = (h.0, h.1, h.2, h.3, stands_front xs ys [] (a + h.0) h.4)
  stands_front (JumpIf c l ∷ xs) ys waiting a h = (h.0, h.1, h.2, h.3, stands_front xs ys [] (a + h.0) h.4)
  stands_front (LoadLabel r l ∷ xs) ys waiting a h = (h.0, h.1, h.2, h.3, stands_front xs ys [] (a + h.0) h.4)
  stands_front (LoadWord r l ∷ xs) ys waiting a h = (h.0, h.1, h.2, h.3, stands_front xs ys [] (a + h.0) h.4)
  stands_front (StoreWord l r ∷ xs) ys waiting a h = (h.0, h.1, h.2, h.3, stands_front xs ys [] (a + h.0) h.4)

  -- Items behind others, whose marks have all arrived.
  pub stands_back : (xs ys : List Item) (waiting : List MarkKind) (a : ℕ) → IsTrue (marks_arrive (some waiting) xs) → Stands setting waiting a (xs ++ ys) → (b : ℕ) × Stands setting [] b ys
  stands_back [] ys [] a w h = (a, h)
  stands_back [] ys (m ∷ waiting) a w h = absurd cc
  stands_back (Label l ∷ xs) ys waiting a w h = stands_back xs ys [] a (none waiting (marks_arrive false xs) w).1 h.2
  stands_back (Mark m ∷ xs) ys waiting a w h = stands_back xs ys (waiting ++ m ∷ []) a (subst (λ b. IsTrue (marks_arrive b xs)) (sym (some_more waiting m)) w) h
  stands_back (Plain i ∷ xs) ys waiting a w h = stands_back xs ys [] (a + h.0) w h.2
  stands_back (Jump l ∷ xs) ys waiting a w h = stands_back xs ys [] (a + h.0) w h.4
  stands_back (JumpIf c l ∷ xs) ys waiting a w h = stands_back xs ys [] (a + h.0) w h.4
  stands_back (LoadLabel r l ∷ xs) ys waiting a w h = stands_back xs ys [] (a + h.0) w h.4
  stands_back (LoadWord r l ∷ xs) ys waiting a w h = stands_back xs ys [] (a + h.0) w h.4
  stands_back (StoreWord l r ∷ xs) ys waiting a w h = stands_back xs ys [] (a + h.0) w h.4

  -- A part behind a label stands where the label does.
  pub stands_part : (l : ℕ) (xs rest : List Item) (waiting : List MarkKind) (a : ℕ) → Stands setting waiting a (Label l ∷ (xs ++ rest)) → Stands setting [] (setting.place_of l) xs
  stands_part l xs rest waiting a h = subst (λ p. Stands setting [] p xs) (sym h.1) (stands_front xs rest [] a h.2)

-- ---- marks of two lists

pub arrive_append : (xs ys : List Item) (b : Bool) → IsTrue (marks_arrive b xs) → IsTrue (marks_arrive false ys) → IsTrue (marks_arrive b (xs ++ ys))
arrive_append [] ys false w v = v
arrive_append [] ys true w v = absurd cc
arrive_append (Label l ∷ xs) ys false w v = arrive_append xs ys false w v
arrive_append (Label l ∷ xs) ys true w v = absurd cc
arrive_append (Mark m ∷ xs) ys b w v = arrive_append xs ys true w v
arrive_append (Plain i ∷ xs) ys b w v = arrive_append xs ys false w v
arrive_append (Jump l ∷ xs) ys b w v = arrive_append xs ys false w v
arrive_append (JumpIf c l ∷ xs) ys b w v = arrive_append xs ys false w v
arrive_append (LoadLabel r l ∷ xs) ys b w v = arrive_append xs ys false w v
arrive_append (LoadWord r l ∷ xs) ys b w v = arrive_append xs ys false w v
arrive_append (StoreWord l r ∷ xs) ys b w v = arrive_append xs ys false w v
