-- What covered bodies keep to of marks and ends, as one condition along their instructions.
use Rattle.std.proofs.Common.{◌≡◌, ℕ, List, [], ◌∷◌, Bool, true, false, Option, Some, None, refl, subst}
use Rattle.std.specs.Prelude.{◌&&◌, not}
use Rattle.std.specs.List.{list_all}
use Rattle.std.proofs.lemmas.Bool.{and_from, and_parts}
use Rattle.sch_word.specs.declared.mark.MarkKind.{MarkKind}
use Rattle.sch_word.specs.declared.mark.MarkKind.TheVariants as mark
use Rattle.sch_control.specs.Covered.{has_covered_formals}
use Rattle.sch_control.specs.CoveredOperands.{is_form}
use Rattle.sch_frames.specs.declared.instruction.Instruction.{Instruction}
use Rattle.sch_frames.specs.declared.instruction.Instruction.TheVariants.{Store, Copy, Pass, Call, Tail, Return, Mark}
use Rattle.sch_frames.specs.Covered.{instruction_low, is_covered_code, is_covered_instruction, marks_settled, may_stand, plain_instruction}
use Rattle.sch_frames.specs.Standing as standing
use Rattle.sch_frames.specs.Standing.{Before, Marked, Called, Other, before_next, code_marks_stand, is_restore, is_unmarked, marked_before_next}
use Rattle.sch_frames.specs.Tree.{Code}

-- ## The marks of calls, tail calls and returns

-- a mark that ends a stretch of events with the instruction behind it
abbrev pub waiting : Instruction → Option MarkKind
waiting (Mark (mark.Call site)) = Some (mark.Call site)
waiting (Mark (mark.Tail site)) = Some (mark.Tail site)
waiting (Mark mark.Return) = Some mark.Return
waiting _ = None

abbrev pub belongs : MarkKind → Instruction → Bool
belongs (mark.Call site) (Call spread count) = true
belongs (mark.Tail site) (Tail spread count) = true
belongs mark.Return Return = true
belongs _ _ = false

abbrev is_left_alone : Instruction → Bool
is_left_alone (Call spread count) = false
is_left_alone (Tail spread count) = false
is_left_alone Return = false
is_left_alone _ = true

-- none is a mark of an entry, and a form ends in the body of a form alone
abbrev pub stands_alone : (form : Bool) → Instruction → Bool
stands_alone form i = is_left_alone i && (plain_instruction i && may_stand form i)

abbrev pub marks_stand : (form : Bool) → Option MarkKind → List Instruction → Bool
marks_stand form None [] = true
marks_stand form (Some m) [] = false
marks_stand form None (i ∷ instructions) = stands_alone form i && marks_stand form (waiting i) instructions
marks_stand form (Some m) (i ∷ instructions) = belongs m i && marks_stand form None instructions

abbrev pub marks_stand_in : Code → Bool
marks_stand_in c = marks_stand (is_form c.entry) None c.instructions

-- ## They stand so where all marks stand

-- what stands before an instruction, if it is a mark of these
abbrev awaited : Before → Option MarkKind
awaited (Marked m) = waiting (Mark m)
awaited Called = None
awaited Other = None

left_alone : (i : Instruction) → is_unmarked i ≡ true → is_left_alone i ≡ true
left_alone (Call spread count) h = absurd (cc)
left_alone (Tail spread count) h = absurd (cc)
left_alone Return h = absurd (cc)
left_alone _ h = refl

awaited_next : (i : Instruction) → awaited (before_next i) ≡ waiting i
awaited_next (Mark m) = refl
awaited_next _ = refl

none_awaited : (m : MarkKind) → awaited (marked_before_next m) ≡ None
none_awaited (mark.Call site) = refl
none_awaited (mark.Restore x) = refl
none_awaited _ = refl

module _ (form : Bool) where
  -- what stands behind a mark of another kind, or of one of these
  behind_mark : (m : MarkKind) (i : Instruction) (is : List Instruction) → standing.belongs m i ≡ true → marks_stand form None is ≡ true → marks_stand form (waiting (Mark m)) (i ∷ is) ≡ true
  behind_mark m i is = by m i where
    stored : (i : Instruction) → standing.stores i ≡ true → marks_stand form None is ≡ true → marks_stand form None (i ∷ is) ≡ true
    stored (Store p) b more = more
    stored (Copy to from) b more = more
    stored (Pass k) b more = more
    stored _ b more = absurd (cc)

    written : (i : Instruction) → standing.writes i ≡ true → marks_stand form None is ≡ true → marks_stand form None (i ∷ is) ≡ true
    written (Store p) b more = more
    written (Copy to from) b more = more
    written (Pass k) b more = more
    written _ b more = absurd (cc)

    loaded : (i : Instruction) → standing.loads i ≡ true → marks_stand form None is ≡ true → marks_stand form None (i ∷ is) ≡ true
    loaded (Copy to from) b more = more
    loaded _ b more = absurd (cc)

    called : (site : ℕ) (i : Instruction) → standing.belongs (mark.Call site) i ≡ true → marks_stand form None is ≡ true → marks_stand form (Some (mark.Call site)) (i ∷ is) ≡ true
    called site (Call spread count) b more = more
    called site _ b more = absurd (cc)

    tail_called : (site : ℕ) (i : Instruction) → standing.belongs (mark.Tail site) i ≡ true → marks_stand form None is ≡ true → marks_stand form (Some (mark.Tail site)) (i ∷ is) ≡ true
    tail_called site (Tail spread count) b more = more
    tail_called site _ b more = absurd (cc)

    returned : (i : Instruction) → standing.belongs mark.Return i ≡ true → marks_stand form None is ≡ true → marks_stand form (Some mark.Return) (i ∷ is) ≡ true
    returned Return b more = more
    returned _ b more = absurd (cc)

    by : (m : MarkKind) (i : Instruction) → standing.belongs m i ≡ true → marks_stand form None is ≡ true → marks_stand form (waiting (Mark m)) (i ∷ is) ≡ true
    by (mark.Save x) i b more = stored i b more
    by (mark.Spill x) i b more = stored i b more
    by mark.Argument i b more = stored i b more
    by mark.Temp i b more = written i b more
    by (mark.Restore x) i b more = loaded i b more
    by (mark.Call site) i b more = called site i b more
    by (mark.Tail site) i b more = tail_called site i b more
    by mark.Return i b more = returned i b more
    by (mark.Enter l) i b more = absurd (cc)

  stands : (before : Before) (is : List Instruction) → standing.marks_stand before is ≡ true → list_all (may_stand form) is ≡ true → list_all plain_instruction is ≡ true
      → marks_stand form (awaited before) is ≡ true
  stands (Marked m) [] a b c = absurd (cc)
  stands Called [] a b c = refl
  stands Other [] a b c = refl
  stands (Marked m) (i ∷ is) a b c =
      let p = and_parts (standing.belongs m i) _ a in let q = and_parts (may_stand form i) _ b in let r = and_parts (plain_instruction i) _ c in
      behind_mark m i is p.0 (subst (λ w. marks_stand form w is ≡ true) (none_awaited m) (stands (marked_before_next m) is p.1 q.1 r.1))
  stands Called (i ∷ is) a b c =
      let p = and_parts (is_unmarked i) _ a in let q = and_parts (may_stand form i) _ b in let r = and_parts (plain_instruction i) _ c in
      and_from _ _ (and_from _ _ (left_alone i p.0) (and_from _ _ r.0 q.0)) (subst (λ w. marks_stand form w is ≡ true) (awaited_next i) (stands (before_next i) is p.1 q.1 r.1))
  stands Other (i ∷ is) a b c =
      let p = and_parts (is_unmarked i && not (is_restore i)) _ a in let u = and_parts (is_unmarked i) _ p.0 in
      let q = and_parts (may_stand form i) _ b in let r = and_parts (plain_instruction i) _ c in
      and_from _ _ (and_from _ _ (left_alone i u.0) (and_from _ _ r.0 q.0)) (subst (λ w. marks_stand form w is ≡ true) (awaited_next i) (stands (before_next i) is p.1 q.1 r.1))

pub code_stands : (c : Code) → is_covered_code c ≡ true → code_marks_stand c ≡ true → marks_stand_in c ≡ true
code_stands c covered stand =
    let a = and_parts (has_covered_formals c.entry) _ covered in
    let b = and_parts (list_all is_covered_instruction c.instructions) _ a.1 in
    let d = and_parts (list_all instruction_low c.instructions) _ b.1 in
    let e = and_parts (list_all (may_stand (is_form c.entry)) c.instructions) _ d.1 in
    let f = and_parts (list_all plain_instruction c.instructions) (marks_settled true c.instructions) e.1 in
    stands (is_form c.entry) Other c.instructions stand e.0 f.0
