-- The moves of a call, done one after the other, leave in each target what its argument gave before.
use Rattle.std.proofs.Common.{◌≡◌, ℕ, ◌≤◌, List, [], ◌∷◌, ◌++◌, Option, Some, None, Bool, true, false, cond, refl, sym, ap, ◌∙◌, subst, arith}
use Rattle.std.specs.Prelude.{nat_eq, nat_lt, ◌-◌, slice_get}
use Rattle.std.specs.List.{list_all}
use Rattle.std.proofs.lemmas.Bool.{eqb-true, eqb-false, eq-eqb, ne_eqb, ltb-false, and_parts}
use Rattle.sch_word.specs.declared.place.Place.{Place}
use Rattle.sch_word.specs.declared.place.Place.TheVariants.{Reg, Slot}
use Rattle.sch_word.specs.values.Values.{Value}
use Rattle.sch_word.specs.runs.Computation.{gives, State}
use Rattle.sch_word.specs.runs.Store.{Store}
use Rattle.sch_word.specs.declared.mark.MarkKind.{MarkKind}
use Rattle.sch_control.specs.declared.operation.Atom.{Atom}
use Rattle.sch_control.specs.declared.operation.Atom.TheVariants.{Constant, Literal, Variable}
use Rattle.sch_control.specs.declared.operation.Operand.{Operand}
use Rattle.sch_control.specs.declared.operation.Operand.TheVariants as operand
use Rattle.sch_control.specs.declared.operation.Operation.TheVariants as operation
use Rattle.sch_control.specs.Meaning.{Result, Callee, on_ending}
use Rattle.sch_control.specs.Operations.{and_value, atom_value, atom_values, operand_value, read}
use Rattle.sch_word.specs.runs.Procedures.{Procedure}
use Rattle.sch_word.specs.values.Options.{when_some}
use Rattle.sch_control.specs.AtomsAndSites.{operand_atoms}
use Rattle.sch_frames.specs.declared.instruction.Instruction.{Instruction}
use Rattle.sch_frames.specs.declared.instruction.Instruction.TheVariants.{Do, Store as Put, Copy, Pass}
use Rattle.sch_frames.specs.Does.{EndsAs, world}
use Rattle.sch_frames.specs.Meaning.{Cell, Is, Link, Junk, Frame, held, value_in, with_outgoing, with_place, execute_each}
use Rattle.sch_word.specs.values.Places.{same_place}
use Rattle.sch_word.proofs.facts.Places.{places_same}
use Rattle.sch_frames.proofs.EndsAlike.{onto_end}
use Rattle.sch_frames.proofs.FramePlaces.{set_other}
use Rattle.sch_layout.specs.BodyLayout.{under, move_mark, writing, is_direct, move_into, move_all}
use Rattle.sch_layout.specs.Moves.{Move, Contents, EachMove, moved_one, moved, Carries, is_own, reads_own_atom, reads_own}

pub is_value : (c : Cell) (v : Value) → value_in c ≡ Some v → c ≡ Is v
is_value (Is u) v e = ap (λ o. cell_by o) e where
  cell_by : Option Value → Cell
  cell_by None = Junk
  cell_by (Some v) = Is v
is_value Link v e = absurd (cc)
is_value Junk v e = absurd (cc)

-- ## Operands, by what places hold

-- two ways of reading places that are the same at each place that is read
abbrev Same : Contents → Contents → List (Atom Place) → Type 0
Same c d [] = Unit {0}
Same c d (Variable p ∷ atoms) = (c p ≡ d p) × Same c d atoms
Same c d (Constant k ∷ atoms) = Same c d atoms
Same c d (Literal n ∷ atoms) = Same c d atoms

atoms_same : (c d : Contents) (t : Store) (atoms : List (Atom Place)) → Same c d atoms → atom_values c t atoms ≡ atom_values d t atoms
atoms_same c d t [] h = refl
atoms_same c d t (Variable p ∷ atoms) h = ap (λ o. and_value o (atom_values c t atoms)) h.0 ∙ ap (λ os. and_value (d p) os) (atoms_same c d t atoms h.1)
atoms_same c d t (Constant k ∷ atoms) h = ap (λ os. and_value (atom_value d t (Constant k)) os) (atoms_same c d t atoms h)
atoms_same c d t (Literal n ∷ atoms) h = ap (λ os. and_value (atom_value d t (Literal n)) os) (atoms_same c d t atoms h)

operand_same : (c d : Contents) (t : Store) (o : Operand Place) → (Same c d (operand_atoms o)) → operand_value c t o ≡ operand_value d t o
operand_same c d t (operand.Atom (Variable p)) h = h.0
operand_same c d t (operand.Atom (Constant k)) h = refl
operand_same c d t (operand.Atom (Literal n)) h = refl
operand_same c d t (operand.Read site which atoms) h = ap (λ os. read which t os) (atoms_same c d t atoms h)

-- ## Frames

module _ (words : ℕ) where
  -- the places of a frame, and behind its slots those of the frame that the next call opens
  abbrev pub seen : Frame → Place → Cell
  seen f (Reg r) = f.places (Reg r)
  seen f (Slot j) = cond (nat_lt j words) (f.places (Slot j)) (f.outgoing (j - words))

  abbrev pub Sees : Frame → Contents → Type 0
  Sees f c = (p : Place) → value_in (seen f p) ≡ c p

  pub own_seen : (f : Frame) (p : Place) → is_own words p ≡ true → seen f p ≡ f.places p
  own_seen f (Reg r) e = refl
  own_seen f (Slot j) e = ap (λ t. cond t (f.places (Slot j)) (f.outgoing (j - words))) e

  held_seen : (f : Frame) (c : Contents) → Sees f c → (atoms : List (Atom Place)) → list_all (reads_own_atom words) atoms ≡ true → Same (held f) c atoms
  held_seen f c s [] h = tt
  held_seen f c s (Variable p ∷ atoms) h = let i = and_parts (is_own words p) _ h in (ap value_in (sym (own_seen f p i.0)) ∙ s p, held_seen f c s atoms i.1)
  held_seen f c s (Constant k ∷ atoms) h = held_seen f c s atoms h
  held_seen f c s (Literal n ∷ atoms) h = held_seen f c s atoms h

  -- an operand that reads the own frame has the value that is seen
  pub operand_seen : (f : Frame) (c : Contents) → Sees f c → (t : Store) (o : Operand Place) → reads_own words o ≡ true → operand_value (held f) t o ≡ operand_value c t o
  operand_seen f c s t o h = operand_same (held f) c t o (held_seen f c s (operand_atoms o) h)

  -- ## One move

  -- what a frame is once a value has been written: it is where it was written, and all else is as it was
  pub record Written (f g : Frame) (to : Place) (v : Value) : Type 0 where
    pub here : (q : Place) → value_in (seen g q) ≡ cond (same_place q to) (Some v) (value_in (seen f q))
    pub others : (p : Place) → same_place p to ≡ false → g.places p ≡ f.places p

  -- into a place of the own frame
  placed_written : (f : Frame) (a c : Cell) (v : Value) (to : Place) → is_own words to ≡ true → value_in c ≡ Some v → Written f (with_place (record f { accumulator = a }) to c) to v
  placed_written f a c v to own e = record { here = λ q. by to own q; others = λ p n. set_other f.places to p c n } where
    pick : (b : Bool) (x : Cell) → value_in (cond b c x) ≡ cond b (Some v) (value_in x)
    pick true x = e
    pick false x = refl

    by : (to : Place) → is_own words to ≡ true → (q : Place) → value_in (seen (with_place (record f { accumulator = a }) to c) q) ≡ cond (same_place q to) (Some v) (value_in (seen f q))
    by (Reg r) own (Reg q) = pick (nat_eq q r) (f.places (Reg q))
    by (Reg r) own (Slot i) = refl
    by (Slot j) own (Reg q) = refl
    by (Slot j) own (Slot i) = one (nat_eq i j) refl where
      one : (b : Bool) → nat_eq i j ≡ b → value_in (cond (nat_lt i words) (cond b c (f.places (Slot i))) (f.outgoing (i - words))) ≡ cond b (Some v) (value_in (cond (nat_lt i words) (f.places (Slot i)) (f.outgoing (i - words))))
      one true i' = ap (λ t. value_in (cond t c (f.outgoing (i - words)))) (subst (λ n. nat_lt n words ≡ true) (sym (eqb-true i j i')) own) ∙ e
      one false i' = refl

  -- or into a slot of the next one
  passed_written : (f : Frame) (v : Value) (j : ℕ) → nat_lt j words ≡ false → Written f (with_outgoing (record f { accumulator = Is v }) (j - words) (Is v)) (Slot j) v
  passed_written f v j next = record { here = λ q. by q; others = λ p n. refl } where
    by : (q : Place) → value_in (seen (with_outgoing (record f { accumulator = Is v }) (j - words) (Is v)) q) ≡ cond (same_place q (Slot j)) (Some v) (value_in (seen f q))
    by (Reg q) = refl
    by (Slot i) = one (nat_lt i words) refl (nat_eq i j) refl where
      one : (t : Bool) → nat_lt i words ≡ t → (b : Bool) → nat_eq i j ≡ b
          → value_in (cond t (f.places (Slot i)) (cond (nat_eq (i - words) (j - words)) (Is v) (f.outgoing (i - words)))) ≡ cond b (Some v) (value_in (cond t (f.places (Slot i)) (f.outgoing (i - words))))
      one true t true b = absurd (let u = sym t ∙ (ap (λ n. nat_lt n words) (eqb-true i j b) ∙ next) in cc)
      one true t false b = refl
      one false t true b =
          ap (λ z. value_in (cond z (Is v) (f.outgoing (i - words)))) (ap (λ n. nat_eq (n - words) (j - words)) (eqb-true i j b) ∙ eq-eqb (j - words) (j - words) refl)
      one false t false b =
          ap (λ z. value_in (cond z (Is v) (f.outgoing (i - words)))) (ne_eqb (i - words) (j - words) (λ e. eqb-false i j b
          (let a : words ≤ i = ltb-false i words t in let c : words ≤ j = ltb-false j words next in omega (arith, a, c, e))))

  module _ (callee : Callee) (depth : ℕ) (s : State Procedure) where
    abbrev pub run : List Instruction → Frame → List MarkKind → Result
    run is f marks = execute_each callee depth is None f (world s marks)

    -- behind a mark or not
    pub under_does : (m : Option MarkKind) (i : Instruction) (rest : List Instruction) (f : Frame) (r : Result) → ((marks : List MarkKind) → EndsAs r (run (i ∷ rest) f marks))
        → (marks : List MarkKind) → EndsAs r (run (under m i rest) f marks)
    under_does None i rest f r go marks = go marks
    under_does (Some k) i rest f r go marks = go (marks ++ k ∷ [])

    -- through the accumulator
    aside_does : (to : Place) (m : Option MarkKind) (o : Operand Place) (v : Value) (f : Frame) → operand_value (held f) s.store o ≡ Some v → (rest : List Instruction) (r : Result)
        → ((g : Frame) (marks : List MarkKind) → Written f g to v → EndsAs r (run rest g marks)) → (marks : List MarkKind)
        → EndsAs r (run (Do (operation.Operand o) ∷ under m (writing words to) rest) f marks)
    aside_does to m o v f e rest r go marks =
        onto_end r _ _ (ap (λ x. on_ending marks (when_some x (λ v. Some (gives v s))) (λ v w. execute_each callee depth (under m (writing words to) rest) None (record f { accumulator = Is v }) w)) e)
        (under_does m (writing words to) rest (record f { accumulator = Is v }) r (writes to go) marks) where
          writes : (to : Place) → ((g : Frame) (marks : List MarkKind) → Written f g to v → EndsAs r (run rest g marks))
              → (marks : List MarkKind) → EndsAs r (run (writing words to ∷ rest) (record f { accumulator = Is v }) marks)
          writes (Reg r) go marks = go _ marks (placed_written f (Is v) (Is v) v (Reg r) refl refl)
          writes (Slot j) go marks = by (nat_lt j words) refl where
            by : (t : Bool) → nat_lt j words ≡ t → EndsAs r (run (cond t (Put (Slot j)) (Pass (j - words)) ∷ rest) (record f { accumulator = Is v }) marks)
            by true i = go _ marks (placed_written f (Is v) (Is v) v (Slot j) i refl)
            by false i = go _ marks (passed_written f v j i)

    one_does : (to : Place) (m : Option MarkKind) (o : Operand Place) (v : Value) (f : Frame) → reads_own words o ≡ true → operand_value (held f) s.store o ≡ Some v → (rest : List Instruction) (r : Result)
        → ((g : Frame) (marks : List MarkKind) → Written f g to v → EndsAs r (run rest g marks)) → (marks : List MarkKind) → EndsAs r (run (move_into words to m o rest) f marks)
    one_does to m (operand.Atom (Variable p)) v f own e rest r go marks = by (same_place to p) refl (is_direct words to p) refl where
      there : f.places p ≡ Is v
      there = is_value (f.places p) v e

      stands : to ≡ p → Written f f to v
      stands i = record { here = λ q. by q (same_place q to) refl; others = λ q n. refl } where
        by : (q : Place) (t : Bool) → same_place q to ≡ t → value_in (seen f q) ≡ cond t (Some v) (value_in (seen f q))
        by q true j =
            ap (λ z. value_in (seen f z)) (places_same q to j ∙ i) ∙ (ap value_in (own_seen f p (and_parts (is_own words p) true own).0) ∙ e)
        by q false j = refl

      inside : (to p : Place) → is_direct words to p ≡ true → is_own words to ≡ true
      inside (Reg r) p d = refl
      inside (Slot j) (Reg r) d = d
      inside (Slot j) (Slot i) d = absurd (cc)

      by : (t : Bool) → same_place to p ≡ t → (d : Bool) → is_direct words to p ≡ d
          → EndsAs r (run (cond t rest (cond d (under m (Copy to p) rest) (Do (operation.Operand (operand.Atom (Variable p))) ∷ under m (writing words to) rest))) f marks)
      by true i d j = go f marks (stands (places_same to p i))
      by false i true j = under_does m (Copy to p) rest f r (λ marks. go _ marks (placed_written f f.accumulator (f.places p) v to (inside to p j) e)) marks
      by false i false j = aside_does to m (operand.Atom (Variable p)) v f e rest r go marks
    one_does to m (operand.Atom (Constant c)) v f own e rest r go marks = aside_does to m (operand.Atom (Constant c)) v f e rest r go marks
    one_does to m (operand.Atom (Literal n)) v f own e rest r go marks = aside_does to m (operand.Atom (Literal n)) v f e rest r go marks
    one_does to m (operand.Read site which atoms) v f own e rest r go marks = aside_does to m (operand.Read site which atoms) v f e rest r go marks

    -- ## Moves one after the other

    -- what a move leaves is seen then
    sees_moved : (m : Move) (v : Value) (f g : Frame) (c : Contents) → Sees f c → operand_value c s.store m.from ≡ Some v → Written f g m.to v → Sees g (moved_one s.store m c)
    sees_moved m v f g c sees e w q = w.here q ∙ (ap (λ x. cond (same_place q m.to) (Some v) x) (sees q) ∙ ap (λ x. cond (same_place q m.to) x (c q)) (sym e))

    -- no move writes a place
    abbrev pub Unwritten : List Move → Place → Type 0
    Unwritten moves p = EachMove (λ m. same_place p m.to ≡ false) moves

    -- From values that are there, moves that take what arguments gave at the start are done: what is seen then is what they
    -- leave, and what they do not write is as it was.
    pub moves_do : (arguments : List (Operand Place)) (start : Contents) → ((k : ℕ) (o : Operand Place) → slice_get arguments k ≡ Some o → (v : Value) × (operand_value start s.store o ≡ Some v))
        → (moves : List Move) (c : Contents) → Carries s.store arguments start c moves → EachMove (λ m. reads_own words m.from ≡ true) moves → (f : Frame) → Sees f c → (rest : List Instruction) (r : Result)
        → ((g : Frame) (marks : List MarkKind) → Sees g (moved s.store moves c) → ((p : Place) → Unwritten moves p → g.places p ≡ f.places p) → EndsAs r (run rest g marks))
        → (marks : List MarkKind) → EndsAs r (run (move_all words moves rest) f marks)
    moves_do arguments start all [] c carries reads f sees rest r go marks = go f marks sees (λ p n. refl)
    moves_do arguments start all (m ∷ moves) c carries reads f sees rest r go marks =
        let taken = carries.0 in
        let given = all m.argument taken.0 taken.1.0 in
        let there : operand_value c s.store m.from ≡ Some given.0 = taken.1.1 ∙ given.1 in
        one_does m.to (move_mark m) m.from given.0 f reads.0 (operand_seen f c sees s.store m.from reads.0 ∙ there) (move_all words moves rest) r
        (λ g marks w. moves_do arguments start all moves (moved_one s.store m c) carries.1 reads.1 g (sees_moved m given.0 f g c sees there w) rest r
        (λ g' marks sees' kept. go g' marks sees' (λ p n. kept p n.1 ∙ w.others p n.0)) marks) marks
