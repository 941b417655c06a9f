-- A tally stays one of the activations as each mark is passed.
use Rattle.std.proofs.Common.{◌≡◌, ℕ, ◌+◌, ◌-◌, ◌<◌, ◌≤◌, ◌^◌, Bool, true, false, not, ◌&&◌, cond, ◌⊎◌, inl, inr, List, [], ◌∷◌, ◌++◌, length, reverse, Option, Some, None, refl, sym, ap, ◌∙◌, subst, arith, add-zero, append-nil, length-set}
use Rattle.std.specs.Prelude.{nat_eq, slice_get, slice_set}
use Rattle.std.proofs.Common.{get_or}
use Rattle.std.specs.List.{cons_option}
use Rattle.std.specs.Vec.{with_item}
use Rattle.std.proofs.lemmas.Bool.{cases_eq}
use Rattle.std.proofs.lemmas.Option.{slice_get_read}
use Rattle.sch_word.specs.declared.mark.MarkKind.{MarkKind}
use Rattle.sch_word.specs.declared.mark.MarkKind.TheVariants.{Enter, Save, Call, Return, Tail}
use Rattle.sch_word.specs.runs.Activations.{Activations, is_enter, pass, recorded, resumed, settled, with_mark, is_call}
use Rattle.sch_word.proofs.facts.Lists.{set_here, set_elsewhere}
use Rattle.sch_word.proofs.facts.NumberTests.{same, differ}
use Rattle.sch_count.specs.declared.row.Row.{Row}
use Rattle.sch_count.specs.declared.tally.Open.{Open}
use Rattle.sch_count.specs.declared.tally.Tally.{Tally}
use Rattle.sch_count.specs.ActivationCounts.{is_of, is_save, has_no_call, saves_of, replaced_by, row_over, unended}
use Rattle.sch_count.specs.Tallied.{IsOpen, IsTop, IsHandedOver, AreSuspended, Tallies, HasRoom, marks_in}
use Rattle.sch_count.proofs.RowSums.{row_from, nothing_more, row_entered, row_changed, row_closed, is_of_more, saves_more, calls_more, activations-le, saves-le, leaves-le, leaf_saves-le, open_saves-le}

-- a number that is no larger than one below a limit
below : {a b c : ℕ} → a ≤ b → b < c → a < c
below p q = omega (arith, p, q)

-- ---- rows of which one is written

-- rows that are these numbers for each body, with another at one of them
pub updated : (rows : List Row) (i : ℕ) (v : Row) (old new : ℕ → Row) → ((b : ℕ) → b < length rows → slice_get rows b ≡ Some (old b)) → i < length rows → new i ≡ v
    → ((b : ℕ) → nat_eq i b ≡ false → new b ≡ old b) → (b : ℕ) → b < length (slice_set rows i v) → slice_get (slice_set rows i v) b ≡ Some (new b)
updated rows i v old new are within here elsewhere b l = by (cases_eq i b)
  where
    by : (i ≡ b) ⊎ (i ≡ b → ⊥) → slice_get (slice_set rows i v) b ≡ Some (new b)
    by (inl e) = subst (λ k. slice_get (slice_set rows i v) k ≡ Some (new k)) e (set_here rows i v within ∙ ap Some (sym here))
    by (inr ne) =
        let size = length-set rows i v in
        set_elsewhere rows i b v (λ e. ne (sym e)) ∙ are b (omega (arith, l, size)) ∙ ap Some (sym (elsewhere b (differ i b ne)))

-- the row that is read is that of its body
read : (rows : List Row) (i : ℕ) (row : Row) (old : ℕ → Row) → ((b : ℕ) → b < length rows → slice_get rows b ≡ Some (old b)) → i < length rows → row ≡ get_or rows i row → old i ≡ row
read rows i row old are within e =
    let found : slice_get rows i ≡ Some row = slice_get_read rows (length rows) i row refl within e in
    let both : Some (old i) ≡ Some row = sym (are i within) ∙ found in
    cc

-- ---- what is on top

-- the activation of a tally that has one on top
pub record OnTop (bodies : ℕ) (top : Option (List MarkKind)) (o : Open) : Type 0 where
  pub own : List MarkKind
  pub is : top ≡ Some own
  pub «open» : IsOpen bodies own o

pub on_top : (bodies : ℕ) (top : Option (List MarkKind)) (current : Option Open) (o : Open) → IsTop bodies top current → current ≡ Some o → OnTop bodies top o
on_top bodies None None o h e = absurd (let bad : None ≡ Some o = e in cc)
on_top bodies (Some own) (Some p) o h e = let same : p ≡ o = cc in record { own = own; is = refl; «open» = subst (IsOpen bodies own) same h }
on_top bodies None (Some p) o h e = absurd h
on_top bodies (Some own) None o h e = absurd h

none_on_top : (bodies : ℕ) (top : Option (List MarkKind)) (current : Option Open) → IsTop bodies top current → current ≡ None → top ≡ None
none_on_top bodies None current h e = refl
none_on_top bodies (Some own) None h e = absurd h
none_on_top bodies (Some own) (Some p) h e = absurd (let bad : Some p ≡ None = e in cc)

resized : (m n : ℕ) (own : List MarkKind) (o : Open) → m ≡ n → IsOpen m own o → IsOpen n own o
resized m n own o e h = subst (λ k. IsOpen k own o) e h

-- a mark that is no entry and no call
pub marked : (bodies : ℕ) (own : List MarkKind) (o : Open) (m : MarkKind) → is_enter m ≡ false → is_call m ≡ false → IsOpen bodies own o
    → IsOpen bodies (own ++ m ∷ []) (record { body = o.body; saves = o.saves + cond (is_save m) 1 0; called = o.called })
marked bodies own o m enter call h = record {
  known = h.known;
  is_body = λ b. is_of_more b own m enter ∙ h.is_body b;
  saves = saves_more own m ∙ ap (λ n. n + cond (is_save m) 1 0) h.saves;
  called = calls_more own m call ∙ h.called;
}

-- ---- the tally behind each mark

-- what is suspended stays suspended where a row is set
suspended_still : (t : Tally) (a : Activations) → AreSuspended (length t.rows.items) a.suspended (reverse t.suspended) → (i : ℕ) (v : Row)
    → AreSuspended (length (slice_set t.rows.items i v)) a.suspended (reverse t.suspended)
suspended_still t a h i v = subst (λ n. AreSuspended n a.suspended (reverse t.suspended)) (sym (length-set t.rows.items i v)) h

module _ (t : Tally) (a : Activations) (over : List (List MarkKind)) (h : Tallies t a over) where
  abbrev old_row : ℕ → Row
  old_row b = row_over a.ended (over ++ unended a) b

  pub entered : (label : ℕ) (row : Row) → label < length t.rows.items → row ≡ get_or t.rows.items label row → a.handed_over ≡ false
      → Tallies (record {
        rows = with_item t.rows label (row_from (row.activations + 1) row.leaves row.saves row.leaf_saves);
        current = Some (record { body = label; saves = 0; called = false });
        suspended = t.suspended;
        handed_over = t.handed_over;
      }) (record { current = Some (Enter label ∷ []); suspended = a.suspended; handed_over = a.handed_over; ended = a.ended }) (over ++ cons_option a.current [])
  entered label row within is free = record {
    top = record { known = omega (arith, within, length-set t.rows.items label v); is_body = λ b. refl; saves = refl; called = refl };
    suspended = suspended_still t a h.suspended label v;
    handed_over = h.handed_over;
    handing_over = subst (λ q. IsHandedOver q (Some (Enter label ∷ []))) (sym free) tt;
    rows = updated t.rows.items label v old_row new h.rows within here elsewhere;
  }
    where
      v : Row
      v = row_from (row.activations + 1) row.leaves row.saves row.leaf_saves

      new : ℕ → Row
      new b = row_over a.ended ((over ++ cons_option a.current []) ++ ((Enter label ∷ []) ∷ a.suspended)) b

      changed : (b : ℕ) → new b ≡ row_from ((old_row b).activations + cond (nat_eq label b) 1 0) (old_row b).leaves (old_row b).saves (old_row b).leaf_saves
      changed b = row_entered a.ended over a.suspended a.current label b

      here : new label ≡ v
      here = changed label ∙ ap (λ q. row_from ((old_row label).activations + cond q 1 0) (old_row label).leaves (old_row label).saves (old_row label).leaf_saves) (same label)
          ∙ ap (λ r. row_from (r.activations + 1) r.leaves r.saves r.leaf_saves) (read t.rows.items label row old_row h.rows within is)

      elsewhere : (b : ℕ) → nat_eq label b ≡ false → new b ≡ old_row b
      elsewhere b ne = changed b ∙ ap (λ q. row_from ((old_row b).activations + cond q 1 0) (old_row b).leaves (old_row b).saves (old_row b).leaf_saves) ne
          ∙ ap (λ n. row_from n (old_row b).leaves (old_row b).saves (old_row b).leaf_saves) (add-zero (old_row b).activations)

-- the same activations, with this one on top
abbrev with_top : Activations → List MarkKind → Activations
with_top a own = record { current = Some own; suspended = a.suspended; handed_over = a.handed_over; ended = a.ended }

module _ (t : Tally) (a : Activations) (over : List (List MarkKind)) (own : List MarkKind) (o : Open) (h : Tallies t (with_top a own) over) (is : IsOpen (length t.rows.items) own o) where
  abbrev open_row : ℕ → Row
  open_row b = row_over a.ended (over ++ (own ∷ a.suspended)) b

  -- a save
  saved_top : (row : Row) (x : ℕ) → row ≡ get_or t.rows.items o.body row
      → Tallies (record {
        rows = with_item t.rows o.body (row_from row.activations row.leaves (row.saves + 1) row.leaf_saves);
        current = Some (record { body = o.body; saves = o.saves + 1; called = o.called });
        suspended = t.suspended;
        handed_over = t.handed_over;
      }) (pass (Save x) (with_top a own)) over
  saved_top row x there = record {
    top = resized (length t.rows.items) (length (slice_set t.rows.items o.body v)) (own ++ Save x ∷ []) (record { body = o.body; saves = o.saves + 1; called = o.called }) (sym (length-set t.rows.items o.body v))
        (marked (length t.rows.items) own o (Save x) refl refl is);
    suspended = suspended_still t a h.suspended o.body v;
    handed_over = h.handed_over;
    handing_over = handing a.handed_over h.handing_over;
    rows = updated t.rows.items o.body v open_row new h.rows is.known here elsewhere;
  }
    where
      handing : (q : Bool) → IsHandedOver q (Some own) → IsHandedOver q (Some (own ++ Save x ∷ []))
      handing false g = g
      handing true g = g

      v : Row
      v = row_from row.activations row.leaves (row.saves + 1) row.leaf_saves

      new : ℕ → Row
      new b = row_over a.ended (over ++ ((own ++ Save x ∷ []) ∷ a.suspended)) b

      changed : (b : ℕ) → new b ≡ row_from (open_row b).activations (open_row b).leaves ((open_row b).saves + cond (nat_eq o.body b) 1 0) (open_row b).leaf_saves
      changed b = row_changed a.ended over a.suspended own (Save x) b refl
          ∙ ap (λ q. row_from (open_row b).activations (open_row b).leaves ((open_row b).saves + cond q 1 0) (open_row b).leaf_saves) (is.is_body b)

      here : new o.body ≡ v
      here = changed o.body
          ∙ ap (λ q. row_from (open_row o.body).activations (open_row o.body).leaves ((open_row o.body).saves + cond q 1 0) (open_row o.body).leaf_saves) (same o.body)
          ∙ ap (λ r. row_from r.activations r.leaves (r.saves + 1) r.leaf_saves) (read t.rows.items o.body row open_row h.rows is.known there)

      elsewhere : (b : ℕ) → nat_eq o.body b ≡ false → new b ≡ open_row b
      elsewhere b ne = changed b ∙ ap (λ q. row_from (open_row b).activations (open_row b).leaves ((open_row b).saves + cond q 1 0) (open_row b).leaf_saves) ne
          ∙ ap (λ n. row_from (open_row b).activations (open_row b).leaves n (open_row b).leaf_saves) (add-zero (open_row b).saves)

  -- an end, by a return or a tail call
  module _ (m : MarkKind) (enter : is_enter m ≡ false) (call : is_call m ≡ false) (save : is_save m ≡ false) where
    abbrev closed_row : ℕ → Row
    closed_row b = row_over (a.ended ++ (own ++ m ∷ []) ∷ []) (over ++ a.suspended) b

    quiet : has_no_call own ≡ not o.called
    quiet = ap not is.called

    closing : (b : ℕ) → closed_row b
        ≡ row_from (open_row b).activations ((open_row b).leaves + cond (nat_eq o.body b) (cond (not o.called) 1 0) 0) (open_row b).saves
        ((open_row b).leaf_saves + cond (nat_eq o.body b) (cond (not o.called) o.saves 0) 0)
    closing b = row_closed a.ended over a.suspended own m b enter call save
        ∙ ap (λ q. row_from (open_row b).activations ((open_row b).leaves + cond q (cond (has_no_call own) 1 0) 0) (open_row b).saves
        ((open_row b).leaf_saves + cond q (cond (has_no_call own) (saves_of own) 0) 0)) (is.is_body b)
        ∙ ap (λ q. row_from (open_row b).activations ((open_row b).leaves + cond (nat_eq o.body b) (cond q 1 0) 0) (open_row b).saves
        ((open_row b).leaf_saves + cond (nat_eq o.body b) (cond q (saves_of own) 0) 0)) quiet
        ∙ ap (λ n. row_from (open_row b).activations ((open_row b).leaves + cond (nat_eq o.body b) (cond (not o.called) 1 0) 0) (open_row b).saves
        ((open_row b).leaf_saves + cond (nat_eq o.body b) (cond (not o.called) n 0) 0)) is.saves

    as_it_was : (b : ℕ) → row_from (open_row b).activations ((open_row b).leaves + 0) (open_row b).saves ((open_row b).leaf_saves + 0) ≡ open_row b
    as_it_was b = ap (λ n. row_from (open_row b).activations n (open_row b).saves ((open_row b).leaf_saves + 0)) (add-zero (open_row b).leaves)
        ∙ ap (λ n. row_from (open_row b).activations (open_row b).leaves (open_row b).saves n) (add-zero (open_row b).leaf_saves)

    closed_elsewhere : (b : ℕ) → nat_eq o.body b ≡ false → closed_row b ≡ open_row b
    closed_elsewhere b ne = closing b
        ∙ ap (λ q. row_from (open_row b).activations ((open_row b).leaves + cond q (cond (not o.called) 1 0) 0) (open_row b).saves ((open_row b).leaf_saves + cond q (cond (not o.called) o.saves 0) 0)) ne
        ∙ as_it_was b

    handing_none : (q : Bool) → IsHandedOver q None
    handing_none false = tt
    handing_none true = tt

    -- a leaf
    closed_leaf : (row : Row) → not o.called ≡ true → row ≡ get_or t.rows.items o.body row
        → Tallies (record {
          rows = with_item t.rows o.body (row_from row.activations (row.leaves + 1) row.saves (row.leaf_saves + o.saves));
          current = None;
          suspended = t.suspended;
          handed_over = t.handed_over;
        }) (record { current = None; suspended = a.suspended; handed_over = a.handed_over; ended = a.ended ++ with_mark m (Some own) }) over
    closed_leaf row uncalled there = record {
      top = tt;
      suspended = suspended_still t a h.suspended o.body v;
      handed_over = h.handed_over;
      handing_over = handing_none a.handed_over;
      rows = updated t.rows.items o.body v open_row closed_row h.rows is.known here closed_elsewhere;
    }
      where
        v : Row
        v = row_from row.activations (row.leaves + 1) row.saves (row.leaf_saves + o.saves)

        here : closed_row o.body ≡ v
        here = closing o.body
            ∙ ap (λ q. row_from (open_row o.body).activations ((open_row o.body).leaves + cond q (cond (not o.called) 1 0) 0) (open_row o.body).saves
            ((open_row o.body).leaf_saves + cond q (cond (not o.called) o.saves 0) 0)) (same o.body)
            ∙ ap (λ q. row_from (open_row o.body).activations ((open_row o.body).leaves + cond q 1 0) (open_row o.body).saves ((open_row o.body).leaf_saves + cond q o.saves 0)) uncalled
            ∙ ap (λ r. row_from r.activations (r.leaves + 1) r.saves (r.leaf_saves + o.saves)) (read t.rows.items o.body row open_row h.rows is.known there)

    -- one that has called
    closed_caller : not o.called ≡ false
        → Tallies (record { rows = t.rows; current = None; suspended = t.suspended; handed_over = t.handed_over })
        (record { current = None; suspended = a.suspended; handed_over = a.handed_over; ended = a.ended ++ with_mark m (Some own) }) over
    closed_caller called = record {
      top = tt;
      suspended = h.suspended;
      handed_over = h.handed_over;
      handing_over = handing_none a.handed_over;
      rows = λ b l. h.rows b l ∙ ap Some (sym (unchanged b));
    }
      where
        nothing : (b : ℕ) (q : Bool) → row_from (open_row b).activations ((open_row b).leaves + cond q 0 0) (open_row b).saves ((open_row b).leaf_saves + cond q 0 0) ≡ open_row b
        nothing b true = as_it_was b
        nothing b false = as_it_was b

        unchanged : (b : ℕ) → closed_row b ≡ open_row b
        unchanged b = closing b
            ∙ ap (λ q. row_from (open_row b).activations ((open_row b).leaves + cond (nat_eq o.body b) (cond q 1 0) 0) (open_row b).saves
            ((open_row b).leaf_saves + cond (nat_eq o.body b) (cond q o.saves 0) 0)) called
            ∙ nothing b (nat_eq o.body b)

-- ---- as the code has it: which activation is open is told by the tally

module _ (t : Tally) (a : Activations) (over : List (List MarkKind)) (o : Open) (e : t.current ≡ Some o) (h : Tallies t a over) where
  its_top : OnTop (length t.rows.items) a.current o
  its_top = on_top (length t.rows.items) a.current t.current o h.top e

  its_tally : Tallies t (with_top a its_top.own) over
  its_tally = subst (λ c. Tallies t (record { current = c; suspended = a.suspended; handed_over = a.handed_over; ended = a.ended }) over) its_top.is h

  pub saves : (row : Row) (x : ℕ) → row ≡ get_or t.rows.items o.body row
      → Tallies (record {
        rows = with_item t.rows o.body (row_from row.activations row.leaves (row.saves + 1) row.leaf_saves);
        current = Some (record { body = o.body; saves = o.saves + 1; called = o.called });
        suspended = t.suspended;
        handed_over = t.handed_over;
      }) (pass (Save x) a) over
  saves row x there = subst (λ c. Tallies (record {
    rows = with_item t.rows o.body (row_from row.activations row.leaves (row.saves + 1) row.leaf_saves);
    current = Some (record { body = o.body; saves = o.saves + 1; called = o.called });
    suspended = t.suspended;
    handed_over = t.handed_over;
  }) (pass (Save x) (record { current = c; suspended = a.suspended; handed_over = a.handed_over; ended = a.ended })) over) (sym its_top.is)
      (saved_top t a over its_top.own o its_tally its_top.«open» row x there)

  module _ (m : MarkKind) (enter : is_enter m ≡ false) (call : is_call m ≡ false) (save : is_save m ≡ false) where
    pub closes_leaf : (row : Row) → not o.called ≡ true → row ≡ get_or t.rows.items o.body row
        → Tallies (record {
          rows = with_item t.rows o.body (row_from row.activations (row.leaves + 1) row.saves (row.leaf_saves + o.saves));
          current = None;
          suspended = t.suspended;
          handed_over = t.handed_over;
        }) (record { current = None; suspended = a.suspended; handed_over = a.handed_over; ended = a.ended ++ with_mark m a.current }) over
    closes_leaf row uncalled there = subst (λ c. Tallies (record {
      rows = with_item t.rows o.body (row_from row.activations (row.leaves + 1) row.saves (row.leaf_saves + o.saves));
      current = None;
      suspended = t.suspended;
      handed_over = t.handed_over;
    }) (record { current = None; suspended = a.suspended; handed_over = a.handed_over; ended = a.ended ++ with_mark m c }) over) (sym its_top.is)
        (closed_leaf t a over its_top.own o its_tally its_top.«open» m enter call save row uncalled there)

    pub closes_caller : not o.called ≡ false
        → Tallies (record { rows = t.rows; current = None; suspended = t.suspended; handed_over = t.handed_over })
        (record { current = None; suspended = a.suspended; handed_over = a.handed_over; ended = a.ended ++ with_mark m a.current }) over
    closes_caller called = subst (λ c. Tallies (record { rows = t.rows; current = None; suspended = t.suspended; handed_over = t.handed_over })
        (record { current = None; suspended = a.suspended; handed_over = a.handed_over; ended = a.ended ++ with_mark m c }) over) (sym its_top.is)
        (closed_caller t a over its_top.own o its_tally its_top.«open» m enter call save called)

-- ---- the numbers fit

module _ (t : Tally) (room : HasRoom t) where
  fits_row : (i : ℕ) (row : Row) → i < length t.rows.items → row ≡ get_or t.rows.items i row → row_over room.a.ended (room.over ++ unended room.a) i ≡ row
  fits_row i row within is = read t.rows.items i row (λ b. row_over room.a.ended (room.over ++ unended room.a) b) room.tallies.rows within is

  pub activations_fit : (i : ℕ) (row : Row) → i < length t.rows.items → row ≡ get_or t.rows.items i row → row.activations < 2 ^ 128 - 1
  activations_fit i row within is =
      subst (λ r. r.activations < 2 ^ 128 - 1) (fits_row i row within is) (below (activations-le room.a.ended (room.over ++ unended room.a) i) room.few)

  pub saves_fit : (i : ℕ) (row : Row) → i < length t.rows.items → row ≡ get_or t.rows.items i row → row.saves < 2 ^ 128 - 1
  saves_fit i row within is =
      subst (λ r. r.saves < 2 ^ 128 - 1) (fits_row i row within is) (below (saves-le room.a.ended (room.over ++ unended room.a) i) room.few)

  pub leaves_fit : (i : ℕ) (row : Row) → i < length t.rows.items → row ≡ get_or t.rows.items i row → row.leaves < 2 ^ 128 - 1
  leaves_fit i row within is =
      subst (λ r. r.leaves < 2 ^ 128 - 1) (fits_row i row within is) (below (leaves-le room.a.ended (room.over ++ unended room.a) i) room.few)

  room_top : (o : Open) → t.current ≡ Some o → OnTop (length t.rows.items) room.a.current o
  room_top o e = on_top (length t.rows.items) room.a.current t.current o room.tallies.top e

  few_with_top : (o : Open) (e : t.current ≡ Some o) → marks_in (room.a.ended ++ (room.over ++ ((room_top o e).own ∷ room.a.suspended))) < 2 ^ 128 - 1
  few_with_top o e = subst (λ c. marks_in (room.a.ended ++ (room.over ++ cons_option c room.a.suspended)) < 2 ^ 128 - 1) (room_top o e).is room.few

  pub open_fits : (o : Open) → t.current ≡ Some o → o.saves < 2 ^ 128 - 1
  open_fits o e =
      let k = room_top o e in
      subst (λ n. n < 2 ^ 128 - 1) k.«open».saves (below (open_saves-le room.a.ended room.over room.a.suspended k.own) (few_with_top o e))

  pub open_known : (o : Open) → t.current ≡ Some o → o.body < length t.rows.items
  open_known o e = (room_top o e).«open».known

  pub leaf_saves_fit : (o : Open) (row : Row) → t.current ≡ Some o → row ≡ get_or t.rows.items o.body row → row.leaf_saves + o.saves < 2 ^ 128 - 1
  leaf_saves_fit o row e is =
      let k = room_top o e in
      let le = leaf_saves-le room.a.ended room.over room.a.suspended k.own o.body in
      let top : row_over room.a.ended (room.over ++ (k.own ∷ room.a.suspended)) o.body ≡ row =
      ap (λ c. row_over room.a.ended (room.over ++ cons_option c room.a.suspended) o.body) (sym k.is) ∙ fits_row o.body row k.«open».known is in
      subst (λ r. r.leaf_saves + o.saves < 2 ^ 128 - 1) top
      (subst (λ n. (row_over room.a.ended (room.over ++ (k.own ∷ room.a.suspended)) o.body).leaf_saves + n < 2 ^ 128 - 1) k.«open».saves (below le (few_with_top o e)))

-- ---- behind a tail call

not_entry : (m : MarkKind) → ((x : ℕ) → m ≡ Enter x → ⊥) → is_enter m ≡ false
not_entry (Enter label) h = absurd (h label refl)
not_entry _ h = refl

handed : (q : Bool) (top : Option (List MarkKind)) → IsHandedOver q top → q ≡ true → top ≡ None
handed false top h e = absurd (let bad : false ≡ true = e in cc)
handed true None h e = refl
handed true (Some own) h e = absurd h

-- where a tail call is just over, and what comes is no entry, the activation that was suspended last goes on
pub resumes : (m : MarkKind) (t : Tally) (a : Activations) (over : List (List MarkKind)) → ((x : ℕ) → m ≡ Enter x → ⊥) → t.handed_over ≡ true → Tallies t a over
    → (settled m a ≡ resumed a.suspended a.ended) × (a.current ≡ None)
resumes m t a over no_entry e h =
    let over_now : a.handed_over ≡ true = sym h.handed_over ∙ e in (
      ap (λ q. cond (q && not (is_enter m)) (resumed a.suspended a.ended) (record { current = a.current; suspended = a.suspended; handed_over = false; ended = a.ended })) over_now
          ∙ ap (λ q. cond (true && not q) (resumed a.suspended a.ended) (record { current = a.current; suspended = a.suspended; handed_over = false; ended = a.ended })) (not_entry m no_entry),
      handed a.handed_over a.current h.handing_over over_now,
    )

resumed_free : (suspended ended : List (List MarkKind)) → (resumed suspended ended).handed_over ≡ false
resumed_free [] ended = refl
resumed_free (own ∷ suspended) ended = refl

-- a tail call is not just over any more
pub settled_free : (m : MarkKind) (a : Activations) → (settled m a).handed_over ≡ false
settled_free m a = by (a.handed_over && not (is_enter m))
  where
    by : (q : Bool) → (cond q (resumed a.suspended a.ended) (record { current = a.current; suspended = a.suspended; handed_over = false; ended = a.ended })).handed_over ≡ false
    by true = resumed_free a.suspended a.ended
    by false = refl

-- ---- marks that change no number

pub noted : (t : Tally) (a : Activations) (over : List (List MarkKind)) (m : MarkKind) → is_enter m ≡ false → is_call m ≡ false → is_save m ≡ false → Tallies t a over
    → Tallies t (record { current = recorded m a.current; suspended = a.suspended; handed_over = a.handed_over; ended = a.ended }) over
noted t a over m enter call save h = by a.current t.current h.top h.handing_over h.rows
  where
    nothing : (r : Row) (q : Bool) → row_from r.activations r.leaves (r.saves + cond q 0 0) r.leaf_saves ≡ r
    nothing r q = ap (λ n. row_from r.activations r.leaves n r.leaf_saves) (nothing_more q r.saves)

    still : (own : List MarkKind) (o : Open) → IsOpen (length t.rows.items) own o → IsOpen (length t.rows.items) (own ++ m ∷ []) o
    still own o is = record {
      known = is.known;
      is_body = λ b. is_of_more b own m enter ∙ is.is_body b;
      saves = saves_more own m ∙ ap (λ q. saves_of own + cond q 1 0) save ∙ add-zero (saves_of own) ∙ is.saves;
      called = calls_more own m call ∙ is.called;
    }

    handing : (q : Bool) (own own' : List MarkKind) → IsHandedOver q (Some own) → IsHandedOver q (Some own')
    handing false own own' g = g
    handing true own own' g = g

    top : (own : List MarkKind) (current : Option Open) → IsTop (length t.rows.items) (Some own) current → IsTop (length t.rows.items) (Some (own ++ m ∷ [])) current
    top own None g = g
    top own (Some o) g = still own o g

    by : (c : Option (List MarkKind)) (current : Option Open) → IsTop (length t.rows.items) c t.current → IsHandedOver a.handed_over c
        → ((b : ℕ) → b < length t.rows.items → slice_get t.rows.items b ≡ Some (row_over a.ended (over ++ cons_option c a.suspended) b))
        → Tallies t (record { current = recorded m c; suspended = a.suspended; handed_over = a.handed_over; ended = a.ended }) over
    by None current g hand rows = record { top = g; suspended = h.suspended; handed_over = h.handed_over; handing_over = hand; rows = rows }
    by (Some own) current g hand rows = record {
      top = top own t.current g;
      suspended = h.suspended;
      handed_over = h.handed_over;
      handing_over = handing a.handed_over own (own ++ m ∷ []) hand;
      rows = λ b l. rows b l ∙ ap Some (sym (row_changed a.ended over a.suspended own m b enter
          ∙ ap (λ q. row_from (row_over a.ended (over ++ (own ∷ a.suspended)) b).activations (row_over a.ended (over ++ (own ∷ a.suspended)) b).leaves
          ((row_over a.ended (over ++ (own ∷ a.suspended)) b).saves + cond (is_of b own) (cond q 1 0) 0) (row_over a.ended (over ++ (own ∷ a.suspended)) b).leaf_saves) save
          ∙ nothing (row_over a.ended (over ++ (own ∷ a.suspended)) b) (is_of b own)));
    }

-- ---- one mark, behind what it settles

nothing_over : (t : Tally) (a : Activations) (over : List (List MarkKind)) → Tallies t a over → Tallies t a (over ++ [])
nothing_over t a over h = subst (Tallies t a) (sym (append-nil over)) h

abbrev pub Passed : Tally → MarkKind → Activations → List (List MarkKind) → Type 0
Passed t m a over = Tallies t (pass m (settled m a)) (over ++ replaced_by m (settled m a))

module _ (t : Tally) (a : Activations) (over : List (List MarkKind)) where
  pub settled_at : (m k : MarkKind) → m ≡ k → Tallies t (settled m a) over → Tallies t (settled k a) over
  settled_at m k e h = subst (λ x. Tallies t (settled x a) over) e h

  pub passed_enter : (m : MarkKind) (label : ℕ) → m ≡ Enter label → Tallies t (pass (Enter label) (settled (Enter label) a)) (over ++ replaced_by (Enter label) (settled (Enter label) a)) → Passed t m a over
  passed_enter m label e h = subst (λ x. Passed t x a over) (sym e) h

  pub passed_call : (m : MarkKind) (site : ℕ) → m ≡ Call site → Tallies t (pass (Call site) (settled (Call site) a)) over → Passed t m a over
  passed_call m site e h = subst (λ x. Passed t x a over) (sym e) (nothing_over t (pass (Call site) (settled (Call site) a)) over h)

  pub passed_return : (m : MarkKind) → m ≡ Return → Tallies t (pass Return (settled Return a)) over → Passed t m a over
  passed_return m e h = subst (λ x. Passed t x a over) (sym e) (nothing_over t (pass Return (settled Return a)) over h)

  pub passed_tail : (m : MarkKind) (site : ℕ) → m ≡ Tail site → Tallies t (pass (Tail site) (settled (Tail site) a)) over → Passed t m a over
  passed_tail m site e h = subst (λ x. Passed t x a over) (sym e) (nothing_over t (pass (Tail site) (settled (Tail site) a)) over h)

  pub passed_save : (m : MarkKind) (x : ℕ) → m ≡ Save x → Tallies t (pass (Save x) (settled (Save x) a)) over → Passed t m a over
  passed_save m x e h = subst (λ y. Passed t y a over) (sym e) (nothing_over t (pass (Save x) (settled (Save x) a)) over h)

  -- any other mark
  pub passed_other : (m : MarkKind) → ((x : ℕ) → m ≡ Enter x → ⊥) → ((x : ℕ) → m ≡ Call x → ⊥) → (m ≡ Return → ⊥) → ((x : ℕ) → m ≡ Tail x → ⊥) → ((x : ℕ) → m ≡ Save x → ⊥)
      → Tallies t (settled m a) over → Passed t m a over
  passed_other (Enter x) e c r l s h = absurd (e x refl)
  passed_other (Call x) e c r l s h = absurd (c x refl)
  passed_other Return e c r l s h = absurd (r refl)
  passed_other (Tail x) e c r l s h = absurd (l x refl)
  passed_other (Save x) e c r l s h = absurd (s x refl)
  passed_other m e c r l s h = nothing_over t (pass m (settled m a)) over (noted t (settled m a) over m refl refl refl h)

-- a tail call is just over
pub tail_over : (t : Tally) (suspended ended over : List (List MarkKind)) (q : Bool) → Tallies t (record { current = None; suspended = suspended; handed_over = q; ended = ended }) over
    → Tallies (record { rows = t.rows; current = t.current; suspended = t.suspended; handed_over = true }) (record { current = None; suspended = suspended; handed_over = true; ended = ended }) over
tail_over t suspended ended over q h = record { top = h.top; suspended = h.suspended; handed_over = refl; handing_over = tt; rows = h.rows }

-- an entry behind a tail call
pub enters_next : (t : Tally) (a : Activations) (over : List (List MarkKind)) (m : MarkKind) (label : ℕ) → m ≡ Enter label → Tallies t a over
    → Tallies (record { rows = t.rows; current = t.current; suspended = t.suspended; handed_over = false }) (settled m a) over
enters_next t a over m label e h =
    let u : Tally = record { rows = t.rows; current = t.current; suspended = t.suspended; handed_over = false } in
    let b : Activations = record { current = a.current; suspended = a.suspended; handed_over = false; ended = a.ended } in
    subst (λ x. Tallies u (settled x a) over) (sym e) (subst (λ x. Tallies u x over) (sym (free a.handed_over)) (record { top = h.top; suspended = h.suspended; handed_over = refl; handing_over = tt; rows = h.rows }))
  where
    free : (q : Bool) → cond (q && not (is_enter (Enter label))) (resumed a.suspended a.ended) (record { current = a.current; suspended = a.suspended; handed_over = false; ended = a.ended })
        ≡ record { current = a.current; suspended = a.suspended; handed_over = false; ended = a.ended }
    free true = refl
    free false = refl
