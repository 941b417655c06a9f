-- What a closure captures is read, and the heap is tested for room.
use Rattle.std.proofs.Common.{◌≡◌, ℕ, ◌+◌, ◌*◌, ◌%◌, ◌^◌, ◌≤◌, List, [], ◌∷◌, length, true, Option}
use Rattle.std.proofs.Common.{Some, None, refl, sym, ap, ◌∙◌, subst, arith, eq-eqb}
use Rattle.std.specs.Prelude.{pos, nat_lt, slice_get}
use Rattle.std.proofs.lemmas.Bool.{and_parts}
use Rattle.std.proofs.lemmas.Option.{slice_get_within}
use Rattle.sch_word.specs.declared.place.Place.{Place}
use Rattle.sch_word.specs.values.Values.{Value, fixnum, character, boolean, nil, unspecified, symbol, object, procedure, cell}
use Rattle.sch_word.specs.runs.Computation.{State}
use Rattle.sch_control.specs.declared.operation.Source.{Source}
use Rattle.sch_control.specs.declared.operation.Source.TheVariants as source
use Rattle.sch_control.specs.Operations.{field, field_of, atom_value, source_value}
use Rattle.sch_word.specs.runs.Procedures.{Procedure}
use Rattle.sch_frames.specs.Meaning.{Cell, Is, Link, Junk, Frame, value_in, held}
use Rattle.sch_frames.specs.Valid.{is_place}
use Rattle.sch_insn.specs.declared.insn.Arg.TheVariants.{Base32}
use Rattle.sch_insn.specs.declared.insn.Insn.TheVariants.{MovFrom}
use Rattle.sch_insn.specs.Machine.{set_register, add64, word}
use Rattle.sch_insn.proofs.Paths.{leads_on}
use Rattle.sch_asm.specs.declared.item.Item.{Item}
use Rattle.sch_asm.specs.declared.item.Item.TheVariants as item
use Rattle.sch_word.specs.declared.mark.MarkKind.{MarkKind}
use Rattle.sch_asm.specs.Stands.{Stands}
use Rattle.sch_asm.specs.Data.{word_in}
use Rattle.sch_asm.specs.Views.{View, Leads}
use Rattle.sch_asm.proofs.EachItem.{loads_word}
use Rattle.sch_select_memory.specs.Parts.{Parts, a_procedure}
use Rattle.sch_select_memory.specs.Encoded.{IsWord, Names}
use Rattle.sch_select_memory.specs.Heap.{field_address}
use Rattle.sch_select_memory.proofs.heap.Spots.{spot_within}
use Rattle.sch_select_memory.proofs.heap.Contents.{Stay, words_by}
use Rattle.sch_select_operations.specs.CellCode.{source_code}
use Rattle.sch_select_memory.proofs.Straight.{is_one, set_one, Kept, kept_set, kept_then, moved_to}
use Rattle.sch_select_memory.proofs.Places.{Plan, Activation, StoreAt, PlacesAt, Holds, loaded}
use Rattle.sch_select_operations.proofs.simulation.Operands.{Atomic, atomic}
use Rattle.sch_select_memory.proofs.HeapWrites.{heap_inside}
use Rattle.sch_select_operations.proofs.simulation.SelectedPrograms.{source_selected}

-- the procedure whose field is read
record Reads (o : Option Value) (k : ℕ) (procedures : List Procedure) (v : Value) : Type 0 where
  n : ℕ
  p : Procedure
  is : o ≡ Some (procedure n)
  there : slice_get procedures n ≡ Some p
  value : slice_get p.fields k ≡ Some v

field_reads : (o : Option Value) (k : ℕ) (procedures : List Procedure) (v : Value) → field o k procedures ≡ Some v
    → Reads o k procedures v
field_reads (Some (procedure n)) k procedures v e = by (slice_get procedures n) refl e
  where
    by : (q : Option Procedure) → slice_get procedures n ≡ q → field_of q k ≡ Some v
        → Reads (Some (procedure n)) k procedures v
    by None s e = absurd (let bad : None ≡ Some v = e in cc)
    by (Some p) s e = record { n = n; p = p; is = refl; there = s; value = e }
field_reads None k procedures v e = absurd (let bad : None ≡ Some v = e in cc)
field_reads (Some (fixnum m)) k procedures v e = absurd (let bad : None ≡ Some v = e in cc)
field_reads (Some (character m)) k procedures v e = absurd (let bad : None ≡ Some v = e in cc)
field_reads (Some (boolean m)) k procedures v e = absurd (let bad : None ≡ Some v = e in cc)
field_reads (Some nil) k procedures v e = absurd (let bad : None ≡ Some v = e in cc)
field_reads (Some unspecified) k procedures v e = absurd (let bad : None ≡ Some v = e in cc)
field_reads (Some (symbol m)) k procedures v e = absurd (let bad : None ≡ Some v = e in cc)
field_reads (Some (object m)) k procedures v e = absurd (let bad : None ≡ Some v = e in cc)
field_reads (Some (cell m)) k procedures v e = absurd (let bad : None ≡ Some v = e in cc)

-- The places may hold words of parts that the state has not yet.
module _ (plan : Plan) (act : Activation plan) (old parts : Parts) (stay : Stay old parts) where
  open plan use {setting, size, words, literals, globals, symbols, closures, heap, stack, near}

  abbrev Std : List MarkKind → ℕ → List Item → Type 0
  Std waiting a is = Stands setting waiting a is

  -- a register has a word of the value, and the others keep theirs
  pub record Sourced (r : ℕ) (x : View) (waiting : List MarkKind) (v : Value) (rest : List Item) : Type 0 where
    pub registers : ℕ → ℕ
    pub place : ℕ
    pub least : ℕ
    pub steps : ℕ
    pub leads : Leads setting least steps waiting x (moved_to x registers x.flags place)
    pub few : steps ≤ 2
    pub kept : Kept (is_one r) x.registers registers
    pub value : IsWord parts v (registers r)
    pub ahead : Std [] place rest

  abbrev pub Sources : ℕ → View → List MarkKind → List Item → Option Value → Type 0
  Sources r x waiting rest None = Unit {0}
  Sources r x waiting rest (Some v) = Sourced r x waiting v rest

  -- a field of the record that a word names
  field_word : (s : State Procedure) (x : View) (n k : ℕ) (p : Procedure) (v : Value) (w : ℕ)
      → old.symbols ≤ parts.symbols → StoreAt plan old s x.bytes x.output x.answers
      → slice_get s.procedures n ≡ Some p → slice_get p.fields k ≡ Some v → Names parts (a_procedure n) 4 w
      → (unit : ℕ) × (w ≡ 16 * unit + 4) × (closures ≤ field_address unit k) × (field_address unit k + 8 ≤ stack)
      × IsWord parts v (word_in x.bytes (field_address unit k))
  field_word s x n k p v w more g e f name =
      let r = g.contents.procedure n p e in
      let inside = spot_within old (a_procedure n) r.at r.there in
      let low = inside.0 in let high = inside.1 in let room = r.room in
      let lt = slice_get_within p.fields k v f in
      let same : Some name.at ≡ Some r.at = sym name.there ∙ stay (a_procedure n) r.at r.there in
      let at : name.at ≡ r.at = cc in
      let b = g.begins in let z = g.ends in let i = g.within in (
        r.at.unit,
        name.is ∙ ap (λ s. 16 * s.unit + 4) at,
        omega (arith, low, b),
        omega (arith, high, room, lt, z, i),
        words_by old parts stay more v _ (r.field k v f),
      )

  pub source_here : (r : ℕ) (q : Source Place) (charged : ℕ) (f : Frame) (s : State Procedure) (x : View)
      (waiting : List MarkKind) (rest : List Item) → old.symbols ≤ parts.symbols
      → source_selected words globals (length symbols) literals q ≡ true
      → PlacesAt plan act parts charged f.places f.outgoing x.registers x.bytes
      → StoreAt plan old s x.bytes x.output x.answers → Std waiting x.place (source_code r q rest)
      → Sources r x waiting rest (source_value (held f) s q)
  source_here r (source.Atom a) charged f s x waiting rest more e p g h = by (atom_value (held f) s.store a) refl
    where
      l : Atomic plan act parts r x waiting rest (atom_value (held f) s.store a)
      l = atomic plan act parts old stay more r a charged f s x waiting rest e p g h

      by : (o : Option Value) → atom_value (held f) s.store a ≡ o → Sources r x waiting rest o
      by None i = tt
      by (Some v) i = record {
        registers = set_register x.registers r l.value;
        place = l.place;
        least = 1;
        steps = 1;
        leads = l.leads;
        few = omega arith;
        kept = kept_set (is_one r) x.registers r l.value (eq-eqb r r refl);
        value = subst (IsWord parts v) (sym (set_one x.registers r l.value)) (l.word v i);
        ahead = l.ahead;
      }
  source_here r (source.Field q k) charged f s x waiting rest more e p g h = by (field (held f q) k s.procedures) refl
    where
      behind : List Item
      behind = item.Plain (MovFrom r (Base32 r (pos (4 + 8 * k)))) ∷ rest

      by : (o : Option Value) → field (held f q) k s.procedures ≡ o → Sources r x waiting rest o
      by None i = tt
      by (Some v) i =
          let l = loaded plan act parts charged f.places f.outgoing q r x waiting behind
          (and_parts (is_place words q) (nat_lt k 1000) e).0 p g.size_is h in
          let reads = field_reads (held f q) k s.procedures v i in
          let hv = by_cell (f.places q) l.value (procedure reads.n) l.holds reads.is in
          let w = field_word s x reads.n k reads.p v l.value more g reads.there reads.value hv in
          let y = moved_to x (set_register x.registers r l.value) x.flags l.place in
          let a = field_address w.0 k in
          let v0 : set_register x.registers r l.value r ≡ 16 * w.0 + 4 = set_one x.registers r l.value ∙ w.1 in
          let top = plan.near in let w3 = w.3 in
          let named : add64 (y.registers r) (word (pos (4 + 8 * k))) ≡ a = ap (λ n. add64 n (word (pos (4 + 8 * k))))
          v0 ∙ (let m : (16 * w.0 + 4 + (4 + 8 * k)) % 2 ^ 64 ≡ field_address w.0 k = omega (arith, w3, top) in m)
          in
          let n = word_in x.bytes a in
          record {
            registers = set_register y.registers r n;
            place = l.place + l.ahead.0;
            least = 2;
            steps = 2;
            leads = leads_on setting.marks l.leads (loads_word setting y r l.ahead.0 a (Base32 r (pos (4 + 8 * k))) []
                l.ahead.1 named (heap_inside plan act a x.bytes g.size_is w.2 w.3));
            few = omega arith;
            kept = kept_then (is_one r) x.registers y.registers (set_register y.registers r n)
                (kept_set (is_one r) x.registers r l.value (eq-eqb r r refl))
                (kept_set (is_one r) y.registers r n (eq-eqb r r refl));
            value = subst (IsWord parts v) (sym (set_one y.registers r n)) w.4;
            ahead = l.ahead.2;
          }
        where
          by_cell : (c : Cell) (n : ℕ) (v : Value) → Holds act.back parts c n → value_in c ≡ Some v → IsWord parts v n
          by_cell (Is u) n v h e = let same : u ≡ v = cc in subst (λ v. IsWord parts v n) same h
          by_cell Link n v h e = absurd (let bad : None ≡ Some v = e in cc)
          by_cell Junk n v h e = absurd (let bad : None ≡ Some v = e in cc)
