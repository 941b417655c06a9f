-- Bytes of the heap that are free are written, and become parts.
use Rattle.std.proofs.Common.{◌≡◌, ℕ, ◌+◌, ◌*◌, ◌<◌, ◌≤◌, List, [], ◌∷◌, ◌++◌, length, false, Option, Some, refl}
use Rattle.std.proofs.Common.{sym, ◌∙◌, subst, arith, ◌⊎◌, inl, inr, ◌==◌, length-append}
use Rattle.std.specs.Prelude.{slice_get, slice_set, nat_le}
use Rattle.std.proofs.lemmas.Bool.Decides.{nat_tests}
use Rattle.std.proofs.lemmas.List.{length-set}
use Rattle.sch_word.specs.declared.answer.Answer.{Answer}
use Rattle.sch_word.specs.declared.place.Place.{Place}
use Rattle.sch_word.specs.declared.place.Place.TheVariants.{Reg, Slot}
use Rattle.sch_word.specs.values.Values.{Value}
use Rattle.sch_word.specs.runs.Computation.{State}
use Rattle.sch_word.specs.runs.Procedures.{Procedure}
use Rattle.sch_word.specs.runs.ProgramLayout.{data_address}
use Rattle.sch_frames.specs.Meaning.{Cell}
use Rattle.sch_asm.specs.Data.{Inside, word_in, with_word}
use Rattle.sch_asm.proofs.Words.{size_kept}
use Rattle.sch_select_memory.specs.Parts.{a_cell, a_procedure, Part, Parts, units, Spot, spot, grown}
use Rattle.sch_select_memory.specs.Encoded.{IsWord, Words}
use Rattle.sch_select_memory.specs.Heap.{CellAt, RecordAt, AreNew}
use Rattle.sch_select_memory.proofs.heap.Spots.{spot_within, end_grown}
use Rattle.sch_select_memory.proofs.heap.Ranges.{piece_in, word_stays, piece_beside}
use Rattle.sch_select_memory.proofs.heap.Contents.{NoObjects, heap_kept, heap_grows, words_stay, cells_added, procedures_added, cell_set}
use Rattle.sch_select_memory.proofs.Places.{Plan, code_of, heap_above, Activation, StoreAt, store_changed}
use Rattle.sch_select_memory.proofs.Places.{PlacesAt, Holds, holds_words, not_register}

-- Bytes from an address to another may have changed, and none else.
pub record Wrote (from to : ℕ) (before after : List ℕ) : Type 0 where
  pub size : length after ≡ length before
  pub pieces : (a n : ℕ) → data_address ≤ a → (a + n ≤ from) ⊎ (to ≤ a) → piece_in after a n ≡ piece_in before a n

pub other_word : (from to : ℕ) (before after : List ℕ) → Wrote from to before after → (a : ℕ) → data_address ≤ a
    → (a + 8 ≤ from) ⊎ (to ≤ a) → word_in after a ≡ word_in before a
other_word from to before after p a low far = word_stays before after a (p.pieces a 8 low far)

pub wrote_none : (from to : ℕ) (bytes : List ℕ) → Wrote from to bytes bytes
wrote_none from to bytes = record { size = refl; pieces = λ a n low far. refl }

pub wrote_one : (from to a v : ℕ) (bytes : List ℕ) → Inside (length bytes) a → from ≤ a → a + 8 ≤ to
    → Wrote from to bytes (with_word bytes a v)
wrote_one from to a v bytes within lo hi = record {
  size = size_kept bytes a v within;
  pieces = λ b n l far. piece_beside bytes a v b n within l (by b n far);
}
  where
    by : (b n : ℕ) → (b + n ≤ from) ⊎ (to ≤ b) → (b + n ≤ a) ⊎ (a + 8 ≤ b)
    by b n (inl le) = inl (omega (arith, le, lo))
    by b n (inr le) = inr (omega (arith, le, hi))

pub wrote_then : (from to : ℕ) (a b c : List ℕ) → Wrote from to a b → Wrote from to b c → Wrote from to a c
wrote_then from to a b c p q = record {
  size = q.size ∙ p.size;
  pieces = λ k n low far. q.pieces k n low far ∙ p.pieces k n low far;
}

pub wrote_within : (from to from' to' : ℕ) (before after : List ℕ) → from ≤ from' → to' ≤ to
    → Wrote from' to' before after → Wrote from to before after
wrote_within from to from' to' before after lo hi p = record
    { size = p.size; pieces = λ k n low far. p.pieces k n low (by k n far) }
  where
    by : (b n : ℕ) → (b + n ≤ from) ⊎ (to ≤ b) → (b + n ≤ from') ⊎ (to' ≤ b)
    by b n (inl le) = inl (omega (arith, le, lo))
    by b n (inr le) = inr (omega (arith, le, hi))

-- the part of a cell, or of a procedure
pub one_cell : (n more : ℕ) → NoObjects (record { owner = a_cell n; more = more } ∷ [])
one_cell n more = record { pairs = λ k. refl; vectors = λ k. refl; strings = λ k. refl }

pub one_procedure : (n more : ℕ) → NoObjects (record { owner = a_procedure n; more = more } ∷ [])
one_procedure n more = record { pairs = λ k. refl; vectors = λ k. refl; strings = λ k. refl }

module _ (plan : Plan) where
  open plan use {
    setting,
    size,
    words,
    literals,
    globals,
    symbols,
    names,
    closures,
    heap,
    stack,
    closures_low,
    heap_low,
    stack_low,
    small,
    near,
  }

  -- ---- the state and the frame stay

  pub store_wrote : (parts : Parts) (s : State Procedure) (bytes bytes' : List ℕ) (output : List ℕ)
      (answers : List Answer) (from to : ℕ) → heap + s.store.charged ≤ from → to ≤ stack → Wrote from to bytes bytes'
      → StoreAt plan parts s bytes output answers → StoreAt plan parts s bytes' output answers
  store_wrote parts s bytes bytes' output answers from to lo hi p g =
      let b = g.begins in let e = g.ends in let cl = closures_low in let hl = heap_low in
      store_changed plan parts parts s s.cells s.procedures s.store.objects s.store.charged bytes bytes' output answers
      (λ v x h. h) g.begins g.known p.size
      (λ a n l h. p.pieces a n (omega (arith, l)) (inl (omega (arith, h, lo, hl)))) g.within g.ends
      (heap_kept (code_of plan) parts s.cells s.procedures s.store.objects bytes bytes'
      (λ a n l h. p.pieces a n (omega (arith, l, b, cl)) (inl (omega (arith, h, e, lo)))) g.contents) g.new g

  module _ (act : Activation plan) where
    pub heap_inside : (a : ℕ) (bytes : List ℕ) → length bytes ≡ size → closures ≤ a → a + 8 ≤ stack
        → Inside (length bytes) a
    heap_inside a bytes e lo hi = let l = act.room.low in let h = act.room.high in let cl = closures_low in record
        { low = omega (arith, lo, cl); high = omega (arith, hi, l, h, e) }

    pub places_wrote : (parts : Parts) (charged : ℕ) (places : Place → Cell) (outgoing : ℕ → Cell) (registers : ℕ → ℕ)
        (bytes bytes' : List ℕ) (from to : ℕ) → to ≤ stack → Wrote from to bytes bytes'
        → PlacesAt plan act parts charged places outgoing registers bytes
        → PlacesAt plan act parts charged places outgoing registers bytes'
    places_wrote parts charged places outgoing registers bytes bytes' from to hi p f =
        let low = act.room.low in let hl = heap_above plan in let sl = stack_low in
        record {
          frame = f.frame;
          depth = f.depth;
          free = f.free;
          register = f.register;
          slot = λ j lj. subst (Holds act.back parts (places (Slot j)))
              (sym (other_word from to bytes bytes' p (act.frame + 8 * j) (omega (arith, low, hl, sl))
              (inr (omega (arith, hi, low))))) (f.slot j lj);
          next = λ j lj. subst (Holds act.back parts (outgoing j))
              (sym (other_word from to bytes bytes' p (act.frame + 8 * (words + j)) (omega (arith, low, hl, sl))
              (inr (omega (arith, hi, low))))) (f.next j lj);
        }

    -- other parts, and another address of the next one
    pub places_grown : (parts parts' : Parts) → Words parts parts'
        → (charged charged' : ℕ) (places : Place → Cell) (outgoing : ℕ → Cell) (registers registers' : ℕ → ℕ)
        (bytes : List ℕ) → ((k : ℕ) → (k == 12) ≡ false → registers' k ≡ registers k)
        → registers' 12 ≡ heap + charged' → PlacesAt plan act parts charged places outgoing registers bytes
        → PlacesAt plan act parts' charged' places outgoing registers' bytes
    places_grown parts parts' w charged charged' places outgoing registers registers' bytes kept at f = record {
      frame = kept 5 refl ∙ f.frame;
      depth = kept 13 refl ∙ f.depth;
      free = at;
      register = λ r e. subst (Holds act.back parts' (places (Reg r))) (sym (kept r (not_register r 12 e refl)))
          (holds_words act.back parts parts' w (places (Reg r)) (registers r) (f.register r e));
      slot = λ j lt. holds_words act.back parts parts' w (places (Slot j)) _ (f.slot j lt);
      next = λ j lt. holds_words act.back parts parts' w (outgoing j) _ (f.next j lt);
    }

  -- ---- the state with more parts

  module _ (parts : Parts) (others : List Part) (s : State Procedure) (bytes : List ℕ) (output : List ℕ)
      (answers : List Answer) (total : ℕ) (taken : 16 * units others ≡ total)
      (room : heap + (s.store.charged + total) ≤ stack) (none : NoObjects others)
      (g : StoreAt plan parts s bytes output answers) where
    -- the same with cells and procedures that have the new parts
    pub store_grown : (cells : List (Option Value)) (made : List Procedure)
        → ((i : ℕ) (c : Option Value) → slice_get cells i ≡ Some c
        → CellAt (grown parts others) bytes (length s.cells + i) c)
        → ((i : ℕ) (p : Procedure) → slice_get made i ≡ Some p
        → RecordAt (code_of plan) (grown parts others) bytes (length s.procedures + i) p)
        → AreNew (grown parts others) (length s.cells + length cells) (length s.procedures + length made)
        → StoreAt plan (grown parts others)
        (record {
          cells = s.cells ++ cells;
          store = record s.store { charged = s.store.charged + total };
          procedures = s.procedures ++ made;
        }) bytes output answers
    store_grown cells made c p new =
        let e = g.ends in let n = end_grown parts others in
        store_changed plan parts (grown parts others) s (s.cells ++ cells) (s.procedures ++ made) s.store.objects
        (s.store.charged + total) bytes bytes output answers (words_stay parts others) g.begins g.known refl
        (λ a n lo hi. refl) room (omega (arith, e, n, taken))
        (procedures_added (code_of plan) (grown parts others) (s.cells ++ cells) s.procedures made s.store.objects
        bytes p (cells_added (code_of plan) (grown parts others) s.cells cells s.procedures s.store.objects bytes c
        (heap_grows (code_of plan) parts others s.cells s.procedures s.store.objects bytes none g.contents)))
        (subst (λ n. AreNew (grown parts others) n (length (s.procedures ++ made)))
        (sym (length-append s.cells cells)) (subst (AreNew (grown parts others) (length s.cells + length cells))
        (sym (length-append s.procedures made)) new)) g

  -- ---- a cell is set

  pub cell_written : (parts : Parts) (s : State Procedure) (bytes : List ℕ) (output : List ℕ) (answers : List Answer)
      (n : ℕ) (v : Value) (at : Spot) (x : ℕ) → n < length s.cells → spot parts (a_cell n) ≡ Some at
      → IsWord parts v x → stack ≤ data_address + size
      → StoreAt plan parts s bytes output answers → StoreAt plan parts
      (record s { cells = slice_set s.cells n (Some v) }) (with_word bytes (16 * at.unit) x) output answers
  cell_written parts s bytes output answers n v at x lt there h top g =
      let w = spot_within parts (a_cell n) at there in
      let lo = w.0 in let hi = w.1 in
      let b = g.begins in let e = g.ends in let i = g.within in let cl = closures_low in let z = g.size_is in
      let within : Inside (length bytes) (16 * at.unit) = record
      { low = omega (arith, lo, b, cl); high = omega (arith, hi, e, i, top, z) } in
      store_changed plan parts parts s (slice_set s.cells n (Some v)) s.procedures s.store.objects s.store.charged
      bytes (with_word bytes (16 * at.unit) x) output answers (λ v x h. h) g.begins g.known
      (size_kept bytes (16 * at.unit) x within)
      (λ a n l h. piece_beside bytes (16 * at.unit) x a n within (omega (arith, l)) (inl (omega (arith, h, lo, b))))
      g.within g.ends
      (cell_set (code_of plan) parts s.cells s.procedures s.store.objects bytes n (Some v) at x lt there h within
      (omega (arith, b, cl)) g.contents)
      (subst (λ n. AreNew parts n (length s.procedures)) (sym (length-set s.cells n (Some v))) g.new) g

  -- ---- whether the heap has room

  pub room_tested : (parts : Parts) (s : State Procedure) (bytes : List ℕ) (output : List ℕ) (answers : List Answer)
      (n : ℕ) → StoreAt plan parts s bytes output answers
      → nat_le (heap + s.store.charged + n) stack ≡ nat_le (s.store.charged + n) s.store.constants.heap
  room_tested parts s bytes output answers n g = subst
      (λ e. nat_le (heap + s.store.charged + n) e ≡ nat_le (s.store.charged + n) s.store.constants.heap) g.limit
      (go heap s.store.charged s.store.constants.heap)
    where
      go : (h c l : ℕ) → nat_le (h + c + n) (h + l) ≡ nat_le (c + n) l
      go h c l = grind (arith, nat_tests)
