-- The numbers of a body, from the marks that a run passes: how many activations it has and what these save; and the same
-- of its leaves, which have ended by a return or a tail call and made no call.
use Rattle.std.specs.Prelude.{◌≡◌, ℕ, ◌<◌, Bool, true, false, not, nat_eq, List, [], ◌∷◌, ◌++◌, length, Some, slice_get}
use Rattle.std.specs.List.{cons_option, count_by, filter, list_any, sum_by}
use Rattle.sch_word.specs.declared.mark.MarkKind.{MarkKind}
use Rattle.sch_word.specs.declared.mark.MarkKind.TheVariants.{Enter, Save}
use Rattle.sch_word.specs.runs.Activations.{Activations, activations, none_yet, pass, settled, is_call}
use Rattle.sch_count.specs.declared.row.Row.{Row}

-- ## One activation, by its own marks

-- whether it is one of this body: its first mark is the entry
abbrev pub is_of : (body : ℕ) → List MarkKind → Bool
is_of body (Enter label ∷ own) = nat_eq label body
is_of body _ = false

abbrev pub is_save : MarkKind → Bool
is_save (Save x) = true
is_save _ = false

abbrev pub has_no_call : List MarkKind → Bool
has_no_call own = not (list_any is_call own)

abbrev pub saves_of : List MarkKind → ℕ
saves_of own = count_by is_save own

-- ## All activations of a run

-- the one that an entry ends, where one is open
abbrev pub replaced_by : MarkKind → Activations → List (List MarkKind)
replaced_by (Enter label) a = cons_option a.current []
replaced_by _ a = []

-- those that the entries among these marks end
abbrev pub replaced : Activations → List MarkKind → List (List MarkKind)
replaced a [] = []
replaced a (m ∷ marks) = replaced_by m (settled m a) ++ replaced (pass m (settled m a)) marks

-- those that have not ended: the one on top, and those that wait for a call to return
abbrev pub unended : Activations → List (List MarkKind)
unended a = cons_option a.current a.suspended

-- ## The numbers of a body

-- from the activations that have ended by a return or a tail call, and all others
abbrev pub row_over : (ended others : List (List MarkKind)) → (body : ℕ) → Row
row_over ended others body =
    let all = filter (is_of body) (ended ++ others) in
    let leaves = filter has_no_call (filter (is_of body) ended) in
    record { activations = length all; leaves = length leaves; saves = sum_by saves_of all; leaf_saves = sum_by saves_of leaves }

-- from the marks of a run
abbrev pub row_of : List MarkKind → (body : ℕ) → Row
row_of marks body = row_over (activations marks).ended (replaced none_yet marks ++ unended (activations marks)) body

-- Rows are the numbers of this many bodies, in their order.
pub record AreRows (bodies : ℕ) (marks : List MarkKind) (rows : List Row) : Type 0 where
  pub many : length rows ≡ bodies
  pub each : (body : ℕ) → body < bodies → slice_get rows body ≡ Some (row_of marks body)
