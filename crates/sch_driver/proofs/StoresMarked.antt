-- Items whose stores are marked are resolved to instructions whose stores are.
use Rattle.std.proofs.Common.{◌≡◌, ℕ, ◌+◌, List, [], ◌∷◌, ◌++◌, length, Bool, true, false, cond, ◌&&◌, ◌==◌, refl, sym, ap, ◌∙◌, subst, arith, Option, Some, None, inl, inr}
use Rattle.std.specs.Prelude.{IsTrue, not, filter, ◌⊎◌}
use Rattle.std.proofs.lemmas.Bool.{and_from, and_parts, not-true}
use Rattle.std.proofs.lemmas.List.Elements.{filter-append}
use Rattle.sch_insn.specs.declared.insn.Arg.TheVariants as arg
use Rattle.sch_insn.specs.declared.insn.Insn.{Insn}
use Rattle.sch_insn.specs.declared.insn.Insn.TheVariants as insn
use Rattle.sch_insn.specs.Spelling.{spelling}
use Rattle.sch_insn.proofs.SegmentContents.{spelling_some}
use Rattle.sch_asm.specs.declared.item.Item.{Item}
use Rattle.sch_asm.specs.declared.item.Item.TheVariants.{Label, Plain, Jump, JumpIf, LoadLabel, LoadWord, StoreWord, Mark}
use Rattle.sch_asm.specs.declared.item.Mark as mark
use Rattle.sch_word.specs.declared.mark.MarkKind.{MarkKind}
use Rattle.sch_word.specs.declared.mark.MarkKind.TheVariants as kind
use Rattle.sch_word.specs.declared.registers.TheConstants.{FRAME_REGISTER}
use Rattle.sch_asm.specs.Codes.{Codes}
use Rattle.sch_asm.specs.Stands.{GoesTo, BranchesTo, marks_at}
use Rattle.sch_asm.proofs.Standing.{Look, ahead, here, nothing, one_more}
use Rattle.sch_select.specs.MarkedStores.{checks_operator, loads_frame, moves_word, returns, stands_before, stores_marked, waiting_mark, writes_at, writes_frame}
use Rattle.sch_driver.specs.StoreMarks.{HasStoreMark, StoresMarked, is_store}

-- ---- instructions

-- what writes no frame, or else is no load of one, no check of an operator, no return, and no jump
abbrev IsQuiet : Insn → Type 0
IsQuiet i =
    (loads_frame (Plain i) ≡ false) × (checks_operator (Plain i) ≡ false) × (returns (Plain i) ≡ false)
    × ((n t : ℕ) → GoesTo i n t → ⊥) × ((c n t : ℕ) → BranchesTo c i n t → ⊥)

quiet : (i : Insn) → (writes_at FRAME_REGISTER i ≡ false) ⊎ IsQuiet i
quiet (insn.MovTo (arg.Reg d) r) = inl refl
quiet (insn.MovTo (arg.Base b) r) = inr (refl, refl, refl, (λ n t h. absurd h), (λ c n t h. absurd h))
quiet (insn.MovTo (arg.Base8 b d) r) = inr (refl, refl, refl, (λ n t h. absurd h), (λ c n t h. absurd h))
quiet (insn.MovTo (arg.Base32 b d) r) = inr (refl, refl, refl, (λ n t h. absurd h), (λ c n t h. absurd h))
quiet (insn.MovTo (arg.Rip d) r) = inl refl
quiet (insn.MovNumber m n) = inr (refl, refl, refl, (λ n t h. absurd h), (λ c n t h. absurd h))
quiet (insn.StoreByte m n) = inr (refl, refl, refl, (λ n t h. absurd h), (λ c n t h. absurd h))
quiet (insn.AddTo m n) = inr (refl, refl, refl, (λ n t h. absurd h), (λ c n t h. absurd h))
quiet (insn.OrTo m n) = inr (refl, refl, refl, (λ n t h. absurd h), (λ c n t h. absurd h))
quiet (insn.AndTo m n) = inr (refl, refl, refl, (λ n t h. absurd h), (λ c n t h. absurd h))
quiet (insn.SubTo m n) = inr (refl, refl, refl, (λ n t h. absurd h), (λ c n t h. absurd h))
quiet (insn.XorTo m n) = inr (refl, refl, refl, (λ n t h. absurd h), (λ c n t h. absurd h))
quiet (insn.AddNumber m n) = inr (refl, refl, refl, (λ n t h. absurd h), (λ c n t h. absurd h))
quiet (insn.OrNumber m n) = inr (refl, refl, refl, (λ n t h. absurd h), (λ c n t h. absurd h))
quiet (insn.AndNumber m n) = inr (refl, refl, refl, (λ n t h. absurd h), (λ c n t h. absurd h))
quiet (insn.SubNumber m n) = inr (refl, refl, refl, (λ n t h. absurd h), (λ c n t h. absurd h))
quiet (insn.XorNumber m n) = inr (refl, refl, refl, (λ n t h. absurd h), (λ c n t h. absurd h))
quiet (insn.AddNumber8 m n) = inr (refl, refl, refl, (λ n t h. absurd h), (λ c n t h. absurd h))
quiet (insn.OrNumber8 m n) = inr (refl, refl, refl, (λ n t h. absurd h), (λ c n t h. absurd h))
quiet (insn.AndNumber8 m n) = inr (refl, refl, refl, (λ n t h. absurd h), (λ c n t h. absurd h))
quiet (insn.SubNumber8 m n) = inr (refl, refl, refl, (λ n t h. absurd h), (λ c n t h. absurd h))
quiet (insn.XorNumber8 m n) = inr (refl, refl, refl, (λ n t h. absurd h), (λ c n t h. absurd h))
quiet (insn.Neg m) = inr (refl, refl, refl, (λ n t h. absurd h), (λ c n t h. absurd h))
quiet (insn.Shl m n) = inr (refl, refl, refl, (λ n t h. absurd h), (λ c n t h. absurd h))
quiet (insn.Shr m n) = inr (refl, refl, refl, (λ n t h. absurd h), (λ c n t h. absurd h))
quiet (insn.Sar m n) = inr (refl, refl, refl, (λ n t h. absurd h), (λ c n t h. absurd h))
quiet _ = inl refl

-- ---- marks that wait

-- the marks before an item, where one of them waits for it or none does
abbrev Wait : List MarkKind → Option MarkKind → Type 0
Wait w None = filter is_store w ≡ []
Wait w (Some (kind.Enter label)) = ⊥
Wait w (Some m) = filter is_store w ≡ cond (is_store m) (m ∷ []) []

added : (w : List MarkKind) (m : MarkKind) → Wait w None → filter is_store (w ++ m ∷ []) ≡ cond (is_store m) (m ∷ []) []
added w m none = filter-append is_store w (m ∷ []) ∙ ap (λ l. l ++ filter is_store (m ∷ [])) none

one_waits : (w : List MarkKind) (m : MarkKind) → Wait w None → Wait (w ++ m ∷ []) (waiting_mark m)
one_waits w (kind.Enter label) none = added w (kind.Enter label) none
one_waits w (kind.Save x) none = added w (kind.Save x) none
one_waits w (kind.Restore x) none = added w (kind.Restore x) none
one_waits w (kind.Spill x) none = added w (kind.Spill x) none
one_waits w kind.Temp none = added w kind.Temp none
one_waits w kind.Argument none = added w kind.Argument none
one_waits w (kind.Call site) none = added w (kind.Call site) none
one_waits w kind.Return none = added w kind.Return none
one_waits w (kind.Tail site) none = added w (kind.Tail site) none

-- nothing waits for an item that is no instruction with operands of its own
none_waits : (i : Item) → writes_frame i ≡ false → moves_word i ≡ false → loads_frame i ≡ false → checks_operator i ≡ false → returns i ≡ false
    → (w : List MarkKind) (m : MarkKind) (b : Bool) → Wait w (Some m) → IsTrue (stands_before m i && b) → ⊥
none_waits i writes moves loads checks leaves w (kind.Enter label) b wait h = wait
none_waits i writes moves loads checks leaves w (kind.Save x) b wait h = let s = (and_parts (stands_before (kind.Save x) i) b h).0 in absurd cc
none_waits i writes moves loads checks leaves w (kind.Restore x) b wait h = let s = (and_parts (stands_before (kind.Restore x) i) b h).0 in absurd cc
none_waits i writes moves loads checks leaves w (kind.Spill x) b wait h = let s = (and_parts (stands_before (kind.Spill x) i) b h).0 in absurd cc
none_waits i writes moves loads checks leaves w kind.Temp b wait h = let s = (and_parts (stands_before kind.Temp i) b h).0 in absurd cc
none_waits i writes moves loads checks leaves w kind.Argument b wait h = let s = (and_parts (stands_before kind.Argument i) b h).0 in absurd cc
none_waits i writes moves loads checks leaves w (kind.Call site) b wait h = let s = (and_parts (stands_before (kind.Call site) i) b h).0 in absurd cc
none_waits i writes moves loads checks leaves w kind.Return b wait h = let s = (and_parts (stands_before kind.Return i) b h).0 in absurd cc
none_waits i writes moves loads checks leaves w (kind.Tail site) b wait h = let s = (and_parts (stands_before (kind.Tail site) i) b h).0 in absurd cc

-- ---- one instruction

-- an instruction that writes no frame, before which no store is marked
unmarked : (i : Insn) (w : List MarkKind) → writes_at FRAME_REGISTER i ≡ false → Wait w None → HasStoreMark i w
unmarked i w silent none = record { written = λ t. absurd cc; unwritten = λ f. inl none }

-- an instruction that is a load, a check or a return
stays_quiet : (i : Insn) (w : List MarkKind) → filter is_store w ≡ [] → (IsQuiet i → ⊥) → HasStoreMark i w
stays_quiet i w none loud = by (quiet i)
  where
    by : (writes_at FRAME_REGISTER i ≡ false) ⊎ IsQuiet i → HasStoreMark i w
    by (inl silent) = unmarked i w silent none
    by (inr q) = absurd (loud q)

-- an instruction that writes a frame under a mark of a store
stores : (i : Insn) (w : List MarkKind) (m : MarkKind) → writes_at FRAME_REGISTER i ≡ true → filter is_store w ≡ m ∷ [] → HasStoreMark i w
stores i w m writes one = record { written = λ t. (m, one); unwritten = λ f. absurd cc }

marked : (i : Insn) (w : List MarkKind) (m : MarkKind) → Wait w (Some m) → IsTrue (stands_before m (Plain i)) → HasStoreMark i w
marked i w (kind.Enter label) wait h = absurd wait
marked i w (kind.Save x) wait h = stores i w (kind.Save x) h wait
marked i w (kind.Spill x) wait h = stores i w (kind.Spill x) h wait
marked i w kind.Argument wait h = stores i w kind.Argument h wait
marked i w kind.Temp wait h = record { written = λ t. (kind.Temp, wait); unwritten = λ f. inr wait }
marked i w (kind.Restore x) wait h = stays_quiet i w wait (λ q. let no = q.0 in absurd cc)
marked i w (kind.Call site) wait h = stays_quiet i w wait (λ q. let no = q.1 in absurd cc)
marked i w (kind.Tail site) wait h = stays_quiet i w wait (λ q. let no = q.1 in absurd cc)
marked i w kind.Return wait h = stays_quiet i w wait (λ q. let no = q.2 in absurd cc)

-- ---- all of them

module _ (all : List mark.Mark) (place_of : ℕ → ℕ) where
  abbrev Goal : ℕ → List Insn → Type 0
  Goal a code = StoresMarked (marks_at all) a code

  -- an instruction and those behind it
  next : (i : Insn) (a : ℕ) (w : List MarkKind) (is : List Item) (code rest : List Insn) (marks : List mark.Mark) → HasStoreMark i w → Look all w a marks
      → code ≡ i ∷ rest → Codes place_of (a + length (spelling i)) is rest marks → Goal (a + length (spelling i)) rest → Goal a code
  next i a w is code rest marks has look e codes behind =
      subst (Goal a) (sym e) (subst (HasStoreMark i) (sym (here all place_of w a (length (spelling i)) is rest marks look (spelling_some i) codes)) has, behind)

  each : (is : List Item) (a : ℕ) (w : List MarkKind) (waits : Option MarkKind) (code : List Insn) (marks : List mark.Mark)
      → Wait w waits → IsTrue (stores_marked waits is) → Look all w a marks → Codes place_of a is code marks → Goal a code
  each [] a w waits code marks wait s look h = subst (Goal a) (sym h.0) tt
  each (Label l ∷ is) a w None code marks wait s look h = each is a w None code marks wait s look h.1
  each (Label l ∷ is) a w (Some m) code marks wait s look h = absurd (none_waits (Label l) refl refl refl refl refl w m (stores_marked None is) wait s)
  each (Mark m ∷ is) a w None code marks wait s look h =
      each is a (w ++ m ∷ []) (waiting_mark m) code h.0 (one_waits w m wait) s (one_more all w a m marks h.0 look h.1) h.2
  each (Mark n ∷ is) a w (Some m) code marks wait s look h = absurd (none_waits (Mark n) refl refl refl refl refl w m (stores_marked None is) wait s)
  each (Plain i ∷ is) a w None code marks wait s look h =
      let parts = and_parts (not (writes_at FRAME_REGISTER i)) (stores_marked None is) s in
      next i a w is code h.0 marks (unmarked i w (not-true (writes_at FRAME_REGISTER i) parts.0) wait) look h.1 h.2
      (each is (a + length (spelling i)) [] None h.0 marks refl parts.1 (ahead all w a (length (spelling i)) marks look (spelling_some i)) h.2)
  each (Plain i ∷ is) a w (Some m) code marks wait s look h =
      let parts = and_parts (stands_before m (Plain i)) (stores_marked None is) s in
      next i a w is code h.0 marks (marked i w m wait parts.0) look h.1 h.2
      (each is (a + length (spelling i)) [] None h.0 marks refl parts.1 (ahead all w a (length (spelling i)) marks look (spelling_some i)) h.2)
  each (Jump l ∷ is) a w None code marks wait s look h =
      next h.0 a w is code h.1 marks (stays_quiet h.0 w wait (λ q. q.3 (a + length (spelling h.0)) (place_of l) h.3)) look h.2 h.4
      (each is (a + length (spelling h.0)) [] None h.1 marks refl s (ahead all w a (length (spelling h.0)) marks look (spelling_some h.0)) h.4)
  each (Jump l ∷ is) a w (Some m) code marks wait s look h = absurd (none_waits (Jump l) refl refl refl refl refl w m (stores_marked None is) wait s)
  each (JumpIf c l ∷ is) a w None code marks wait s look h =
      next h.0 a w is code h.1 marks (stays_quiet h.0 w wait (λ q. q.4 c (a + length (spelling h.0)) (place_of l) h.3)) look h.2 h.4
      (each is (a + length (spelling h.0)) [] None h.1 marks refl s (ahead all w a (length (spelling h.0)) marks look (spelling_some h.0)) h.4)
  each (JumpIf c l ∷ is) a w (Some m) code marks wait s look h = absurd (none_waits (JumpIf c l) refl refl refl refl refl w m (stores_marked None is) wait s)
  each (LoadLabel r l ∷ is) a w None code marks wait s look h =
      let i = insn.Lea r (arg.Rip h.0) in
      next i a w is code h.1 marks (unmarked i w refl wait) look h.2 h.4 (each is (a + 7) [] None h.1 marks refl s (ahead all w a 7 marks look (omega arith)) h.4)
  each (LoadLabel r l ∷ is) a w (Some m) code marks wait s look h = absurd (none_waits (LoadLabel r l) refl refl refl refl refl w m (stores_marked None is) wait s)
  each (LoadWord r l ∷ is) a w None code marks wait s look h =
      let i = insn.MovFrom r (arg.Rip h.0) in
      next i a w is code h.1 marks (unmarked i w refl wait) look h.2 h.4 (each is (a + 7) [] None h.1 marks refl s (ahead all w a 7 marks look (omega arith)) h.4)
  each (LoadWord r l ∷ is) a w (Some m) code marks wait s look h = absurd (none_waits (LoadWord r l) refl refl refl refl refl w m (stores_marked None is) wait s)
  each (StoreWord l r ∷ is) a w None code marks wait s look h =
      let i = insn.MovTo (arg.Rip h.0) r in
      next i a w is code h.1 marks (unmarked i w refl wait) look h.2 h.4 (each is (a + 7) [] None h.1 marks refl s (ahead all w a 7 marks look (omega arith)) h.4)
  each (StoreWord l r ∷ is) a w (Some m) code marks wait s look h = absurd (none_waits (StoreWord l r) refl refl refl refl refl w m (stores_marked None is) wait s)

-- from the address of the text on
pub stores_resolved : (is : List Item) (place_of : ℕ → ℕ) (a : ℕ) (code : List Insn) (marks : List mark.Mark) → IsTrue (stores_marked None is) → Codes place_of a is code marks
    → StoresMarked (marks_at marks) a code
stores_resolved is place_of a code marks s h = each marks place_of is a [] None code marks refl s (λ b le. sym (nothing marks (b == a) (marks_at marks b))) h

-- what stands behind marked items may be marked too
pub both_marked : (waits : Option MarkKind) (xs ys : List Item) → IsTrue (stores_marked waits xs) → IsTrue (stores_marked None ys) → IsTrue (stores_marked waits (xs ++ ys))
both_marked None [] ys s t = t
both_marked (Some m) [] ys s t = absurd cc
both_marked None (Mark m ∷ xs) ys s t = both_marked (waiting_mark m) xs ys s t
both_marked None (Label l ∷ xs) ys s t = both_marked None xs ys s t
both_marked None (Plain i ∷ xs) ys s t =
    let parts = and_parts (not (writes_at FRAME_REGISTER i)) (stores_marked None xs) s in
    and_from (not (writes_at FRAME_REGISTER i)) (stores_marked None (xs ++ ys)) parts.0 (both_marked None xs ys parts.1 t)
both_marked None (Jump l ∷ xs) ys s t = both_marked None xs ys s t
both_marked None (JumpIf c l ∷ xs) ys s t = both_marked None xs ys s t
both_marked None (LoadLabel r l ∷ xs) ys s t = both_marked None xs ys s t
both_marked None (LoadWord r l ∷ xs) ys s t = both_marked None xs ys s t
both_marked None (StoreWord l r ∷ xs) ys s t = both_marked None xs ys s t
both_marked (Some m) (i ∷ xs) ys s t =
    let parts = and_parts (stands_before m i) (stores_marked None xs) s in
    and_from (stands_before m i) (stores_marked None (xs ++ ys)) parts.0 (both_marked None xs ys parts.1 t)
