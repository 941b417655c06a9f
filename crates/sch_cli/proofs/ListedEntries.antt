-- The entries that are listed of a compiled program are those of its bodies.
use Rattle.std.proofs.Common.{◌≡◌, ℕ, suc, ◌+◌, ◌≤◌, List, [], ◌∷◌, ◌++◌, length, map, true, refl, sym, ap, ◌∙◌, subst, arith}
use Rattle.std.specs.Prelude.{All, not, ◌&&◌}
use Rattle.std.proofs.lemmas.Bool.{and_parts}
use Rattle.std.proofs.lemmas.List.{length-map}
use Rattle.std.proofs.lemmas.List.Elements.{All-append, All-cons, All-head, All-nil, All-tail}
use Rattle.sch_word.specs.declared.mark.MarkKind.{MarkKind}
use Rattle.sch_word.specs.declared.mark.MarkKind.TheVariants as mark
use Rattle.sch_asm.specs.declared.item.Mark as marked
use Rattle.sch_frames.specs.declared.instruction.Instruction.{Instruction}
use Rattle.sch_frames.specs.declared.instruction.Instruction.TheVariants.{Fix, Mark}
use Rattle.sch_frames.specs.Standing.{Before, Marked, Called, Other, all_marks_stand, before_next, belongs, code_marks_stand, is_restore, is_unmarked, marked_before_next, marks_stand}
use Rattle.sch_frames.specs.Tree.{Code}
use Rattle.sch_registers.specs.Registers.{registers_code}
use Rattle.sch_select.specs.Sizes.{kinds_among, kinds_of}
use Rattle.sch_driver.specs.Compiled.{IsCompiled}
use Rattle.sch_listing.specs.declared.listing.Listing.{Listing}
use Rattle.sch_count.specs.Tallied.{IsKnown}
use Rattle.sch_cli.specs.Counts.{EntersListed}

-- ---- marks among instructions

-- no mark stands at a mark
none_at_mark : (m other : MarkKind) → belongs m (Mark other) ≡ true → ⊥
none_at_mark (mark.Enter label) other h = cc
none_at_mark (mark.Save x) other h = cc
none_at_mark (mark.Restore x) other h = cc
none_at_mark (mark.Spill x) other h = cc
none_at_mark mark.Temp other h = cc
none_at_mark mark.Argument other h = cc
none_at_mark (mark.Call site) other h = cc
none_at_mark (mark.Tail site) other h = cc
none_at_mark mark.Return other h = cc

module _ (bodies : ℕ) where
  -- a mark that stands at an instruction is none of an entry
  stands_at : (m : MarkKind) (i : Instruction) → belongs m i ≡ true → IsKnown bodies m
  stands_at (mark.Enter label) i h = absurd (cc)
  stands_at (mark.Save x) i h = tt
  stands_at (mark.Restore x) i h = tt
  stands_at (mark.Spill x) i h = tt
  stands_at mark.Temp i h = tt
  stands_at mark.Argument i h = tt
  stands_at (mark.Call site) i h = tt
  stands_at (mark.Tail site) i h = tt
  stands_at mark.Return i h = tt

  stands_before : (m : MarkKind) (is : List Instruction) → marks_stand (Marked m) is ≡ true → IsKnown bodies m
  stands_before m [] h = absurd (cc)
  stands_before m (i ∷ is) h = stands_at m i (and_parts (belongs m i) _ h).0

  spills_known : (spills : List ℕ) → All (IsKnown bodies) (map mark.Spill spills)
  spills_known [] = All-nil (IsKnown bodies)
  spills_known (x ∷ xs) = All-cons (IsKnown bodies) (mark.Spill x) (map mark.Spill xs) tt (spills_known xs)

  with_one : (i : Instruction) (is : List Instruction) → ((m : MarkKind) → i ≡ Mark m → IsKnown bodies m) → All (IsKnown bodies) (kinds_among is)
      → All (IsKnown bodies) (kinds_among (i ∷ is))
  with_one (Fix members spills) is own more = All-append (IsKnown bodies) (map mark.Spill spills) (kinds_among is) (spills_known spills) more
  with_one (Mark m) is own more = All-cons (IsKnown bodies) m (kinds_among is) (own m refl) more
  with_one _ is own more = more

  next_known : (i : Instruction) (is : List Instruction) → marks_stand (before_next i) is ≡ true → (m : MarkKind) → i ≡ Mark m → IsKnown bodies m
  next_known i is h m e = stands_before m is (subst (λ i. marks_stand (before_next i) is ≡ true) e h)

  among_known : (before : Before) (is : List Instruction) → marks_stand before is ≡ true → All (IsKnown bodies) (kinds_among is)
  among_known before [] h = All-nil (IsKnown bodies)
  among_known (Marked m) (i ∷ is) h =
      let p = and_parts (belongs m i) _ h in
      with_one i is (λ other e. absurd (none_at_mark m other (subst (λ i. belongs m i ≡ true) e p.0))) (among_known (marked_before_next m) is p.1)
  among_known Called (i ∷ is) h =
      let p = and_parts (is_unmarked i) _ h in
      with_one i is (next_known i is p.1) (among_known (before_next i) is p.1)
  among_known Other (i ∷ is) h =
      let p = and_parts (is_unmarked i && not (is_restore i)) _ h in
      with_one i is (next_known i is p.1) (among_known (before_next i) is p.1)

  -- ---- marks of bodies

  kinds_known : (label : ℕ) (codes : List Code) → label + length codes ≤ bodies → all_marks_stand codes ≡ true → All (IsKnown bodies) (kinds_of label codes)
  kinds_known label [] few h = All-nil (IsKnown bodies)
  kinds_known label (c ∷ codes) few h =
      let p = and_parts (code_marks_stand c) _ h in
      All-cons (IsKnown bodies) (mark.Enter label) (kinds_among c.instructions ++ kinds_of (suc label) codes) (omega arith)
      (All-append (IsKnown bodies) (kinds_among c.instructions) (kinds_of (suc label) codes) (among_known Other c.instructions p.0) (kinds_known (suc label) codes (omega arith) p.1))

  -- what holds of the kinds of marks holds of the marks
  of_kinds : (marks : List marked.Mark) → All (IsKnown bodies) (map (λ m. m.kind) marks) → All (λ m. IsKnown bodies m.kind) marks
  of_kinds [] h = All-nil (λ m. IsKnown bodies m.kind)
  of_kinds (m ∷ ms) h =
      All-cons (λ m. IsKnown bodies m.kind) m ms (All-head (IsKnown bodies) m.kind (map (λ m. m.kind) ms) h)
      (of_kinds ms (All-tail (IsKnown bodies) m.kind (map (λ m. m.kind) ms) h))

-- ---- what is listed of a compiled program

pub enters_listed : (library text : List ℕ) (heap depth : ℕ) (file : List ℕ) (listing : Listing) → IsCompiled library text heap depth file listing → EntersListed listing
enters_listed library text heap depth file listing c =
    let listed = c.listed in
    let codes = map registers_code listed.program.bodies in
    let names : map (λ b. b.name) listed.program.bodies ≡ listing.bodies = listed.fits_program.names ∙ sym c.names in
    let many : length listed.program.bodies ≡ length listing.bodies = sym (length-map listed.program.bodies (λ b. b.name)) ∙ ap length names in
    let framed : length codes ≡ length listed.program.bodies = length-map listed.program.bodies registers_code in
    record {
      few = omega (arith, listed.few, many);
      known = of_kinds (length listing.bodies) listing.marks
          (subst (All (IsKnown (length listing.bodies))) (sym listed.marks) (kinds_known (length listing.bodies) 0 codes (omega (arith, many, framed)) listed.stand));
    }
