-- Trees that are made from the last one to the first, each when its parts are made.
use Rattle.std.proofs.Common.{◌≡◌, List, [], ◌∷◌, ◌++◌, refl, sym, ap, ◌∙◌, subst}
use Rattle.std.proofs.lemmas.List.{append_assoc, append_cancel_left, append-nil}
use Rattle.sch_word.specs.trees.InOrder.{AreInOrder, none, next}
use Rattle.sch_word.proofs.facts.Lists.{head_same, tail_same}

module _ {A : Type 0} (parts : A → List A) where
  -- A walk takes these nodes one after the other where it has these trees to visit.
  abbrev pub Walk : (nodes trees : List A) → Type 0
  Walk [] trees = trees ≡ []
  Walk (n ∷ nodes) trees = (others : List A) × (trees ≡ n ∷ others) × Walk nodes (parts n ++ others)

  -- ## Walks come to trees in order

  parted : (xs ys nodes us : List A) → us ≡ xs ++ ys → AreInOrder parts nodes us
      → (front : List A) × (back : List A) × (nodes ≡ front ++ back) × AreInOrder parts front xs × AreInOrder parts back ys
  parted [] ys nodes us e w = ([], nodes, refl, none, subst (λ l. AreInOrder parts nodes l) e w)
  parted (x ∷ xs) ys _ _ e none = absurd (cc)
  parted (x ∷ xs) ys _ _ e (next tree below behind others p q) =
      let r = parted xs ys behind others (tail_same e) q in
      let front = tree ∷ below ++ r.0 in (
        front,
        r.1,
        ap (λ l. tree ∷ below ++ l) r.2 ∙ ap (λ l. tree ∷ l) (sym (append_assoc below r.0 r.1)),
        subst (λ t. AreInOrder parts front (t ∷ xs)) (head_same e) (next tree below r.0 xs p r.3),
        r.4,
      )

  walked : (nodes trees : List A) → Walk nodes trees → AreInOrder parts nodes trees
  walked [] trees h = subst (λ l. AreInOrder parts [] l) (sym h) none
  walked (n ∷ nodes) trees h =
      let r = parted (parts n) h.0 nodes (parts n ++ h.0) refl (walked nodes (parts n ++ h.0) h.2) in
      let same : n ∷ r.0 ++ r.1 ≡ n ∷ nodes = ap (λ l. n ∷ l) (sym r.2) in
      subst (λ l. AreInOrder parts l trees) same (subst (λ l. AreInOrder parts (n ∷ r.0 ++ r.1) l) (sym h.1) (next n r.0 r.1 h.0 r.3 r.4))

  walks_on : (nodes trees more others : List A) → AreInOrder parts nodes trees → Walk more others → Walk (nodes ++ more) (trees ++ others)
  walks_on _ _ more others none h = h
  walks_on _ _ more others (next tree below behind rest p q) h =
      let k = walks_on below (parts tree) (behind ++ more) (rest ++ others) p (walks_on behind rest more others q h) in
      (rest ++ others, refl, subst (λ l. Walk l (parts tree ++ (rest ++ others))) (sym (append_assoc below behind more)) k)

  pub walks : (nodes trees : List A) → AreInOrder parts nodes trees → Walk nodes trees
  walks nodes trees w =
      subst (λ l. Walk l trees) (append-nil nodes) (subst (λ l. Walk (nodes ++ []) l) (append-nil trees) (walks_on nodes trees [] [] w refl))

  -- nodes in order are those of one list of trees
  one_list : (nodes trees others : List A) → Walk nodes trees → Walk nodes others → trees ≡ others
  one_list [] trees others h k = h ∙ sym k
  one_list (n ∷ nodes) trees others h k =
      let same = append_cancel_left (parts n) h.0 k.0 (one_list nodes (parts n ++ h.0) (parts n ++ k.0) h.2 k.2) in
      h.1 ∙ ap (λ l. n ∷ l) same ∙ sym k.1

  -- a node is followed by those of its parts
  parts_follow : (before : List A) (n : A) (nodes trees : List A) → Walk (before ++ n ∷ nodes) trees → (others : List A) × Walk nodes (parts n ++ others)
  parts_follow [] n nodes trees h = (h.0, h.2)
  parts_follow (b ∷ before) n nodes trees h = parts_follow before n nodes (parts b ++ h.0) h.2

  -- ## On the way to the last node

  pub order_taken : (before : List A) (n : A) (others trees : List A) → ((nodes : List A) → Walk nodes (n ∷ others) → Walk (before ++ nodes) trees)
      → (nodes : List A) → Walk nodes (parts n ++ others) → Walk ((before ++ n ∷ []) ++ nodes) trees
  order_taken before n others trees h nodes k = subst (λ l. Walk l trees) (sym (append_assoc before (n ∷ []) nodes)) (h (n ∷ nodes) (others, refl, k))

  pub order_ended : (nodes trees : List A) → ((more : List A) → Walk more [] → Walk (nodes ++ more) trees) → AreInOrder parts nodes trees
  order_ended nodes trees h = walked nodes trees (subst (λ l. Walk l trees) (append-nil nodes) (h [] refl))

  -- ## On the way back

  -- what comes after these nodes of some trees are the nodes of others
  abbrev pub ComeBefore : (nodes others trees : List A) → Type 0
  ComeBefore nodes others trees = (behind : List A) × Walk (nodes ++ behind) trees × Walk behind others

  pub back_begun : (nodes trees : List A) → AreInOrder parts nodes trees → ComeBefore nodes [] trees
  back_begun nodes trees w = ([], subst (λ l. Walk l trees) (sym (append-nil nodes)) (walks nodes trees w), refl)

  -- the parts of the last node are there, and then the node is
  pub parts_there : (before : List A) (n : A) (there trees : List A) → ComeBefore (before ++ n ∷ []) there trees
      → (others : List A) × (there ≡ parts n ++ others) × ComeBefore before (n ∷ others) trees
  parts_there before n there trees h =
      let whole = subst (λ l. Walk l trees) (append_assoc before (n ∷ []) h.0) h.1 in
      let p = parts_follow before n h.0 trees whole in
      (p.0, one_list h.0 there (parts n ++ p.0) h.2 p.1, (n ∷ h.0, whole, (p.0, refl, p.1)))

  pub back_ended : (there trees : List A) → ComeBefore [] there trees → there ≡ trees
  back_ended there trees h = one_list h.0 there trees h.2 h.1
