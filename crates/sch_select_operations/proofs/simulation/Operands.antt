-- Operands are read into RAX and RCX.
use Rattle.std.proofs.Common.{◌≡◌, ℕ, ◌+◌, ◌<◌, ◌≤◌, List, [], ◌∷◌, length, true, false, Option, Some, None, refl}
use Rattle.std.proofs.Common.{sym, ap, ◌∙◌, subst, arith, ◌==◌, ◌&&◌}
use Rattle.std.proofs.lemmas.Bool.{and_parts, ltb-true, ne_eqb}
use Rattle.sch_word.specs.declared.place.Place.{Place}
use Rattle.sch_word.specs.declared.primitive.Primitive.{Primitive}
use Rattle.sch_word.specs.declared.primitive.Primitive.TheVariants.{Eq, Eqv, IsBoolean, IsPair, IsNull, IsSymbol}
use Rattle.sch_word.specs.declared.primitive.Primitive.TheVariants.{IsInteger, IsChar, IsString, IsVector}
use Rattle.sch_word.specs.declared.primitive.Primitive.TheVariants.{IsProcedure}
use Rattle.sch_word.specs.values.Values.{Value, is_constant, constant_value}
use Rattle.sch_word.specs.runs.Store.{Store}
use Rattle.sch_word.specs.runs.Computation.{Outcome, State, gives, stops, spent}
use Rattle.sch_control.specs.declared.operation.Atom.{Atom}
use Rattle.sch_control.specs.declared.operation.Atom.TheVariants.{Constant, Literal, Variable}
use Rattle.sch_control.specs.declared.operation.Operand.{Operand}
use Rattle.sch_control.specs.declared.operation.Operand.TheVariants as operand
use Rattle.sch_control.specs.Operations.{given, read, and_value, atom_value, atom_values, operand_value}
use Rattle.sch_word.specs.runs.Procedures.{Procedure}
use Rattle.sch_frames.specs.Meaning.{Frame, held}
use Rattle.sch_insn.specs.declared.insn.Arg.TheVariants.{Reg}
use Rattle.sch_insn.specs.declared.insn.Insn.TheVariants.{MovTo, MovWord}
use Rattle.sch_insn.specs.declared.state.Flags.{Flags}
use Rattle.sch_insn.specs.Machine.{set_register, word}
use Rattle.sch_insn.proofs.Paths.{leads_on}
use Rattle.sch_asm.specs.declared.item.Item.{Item}
use Rattle.sch_asm.specs.declared.item.Item.TheVariants.{Plain}
use Rattle.sch_word.specs.declared.mark.MarkKind.{MarkKind}
use Rattle.sch_asm.specs.Stands.{Stands}
use Rattle.sch_asm.specs.Effects.{is_scratch}
use Rattle.sch_asm.specs.Views.{View, Leads}
use Rattle.sch_asm.specs.Data.{Inside, word_in}
use Rattle.sch_asm.proofs.EachItem.{goes, loads_data}
use Rattle.sch_select_memory.specs.Parts.{Parts}
use Rattle.sch_select_memory.specs.Encoded.{IsWord, constant_number}
use Rattle.sch_select_memory.proofs.heap.Contents.{Stay, words_by}
use Rattle.sch_select_memory.specs.Addresses.{literal_address}
use Rattle.sch_select_operations.specs.OperandCode.{atom_code, unary_code, binary_code, read_code, operand_code, second_code}
use Rattle.sch_select_memory.proofs.heap.Encodings.{constant_word}
use Rattle.sch_select_memory.proofs.Straight.{is_free, Kept, kept_set, kept_then, moved_to, Yields, Comes}
use Rattle.sch_select_memory.proofs.Straight.{yields_after}
use Rattle.sch_select_operations.proofs.simulation.Primitives.{unary_here, binary_here}
use Rattle.sch_select_memory.proofs.Places.{Plan, heap_above, few_symbols, Activation, StoreAt, PlacesAt}
use Rattle.sch_select_memory.proofs.Places.{places_kept, loaded, held_value}
use Rattle.sch_select_operations.proofs.simulation.SelectedPrograms.{atom_selected, read_selected, operand_selected, takes}
use Rattle.sch_select_operations.proofs.simulation.SelectedPrograms.{is_computed}
use Rattle.sch_control.specs.Valid.{only_reads}
use Rattle.sch_word.specs.values.Literals.{constant_known}

-- the free registers are scratch registers
pub free_scratch : (registers registers' : ℕ → ℕ) → Kept is_free registers registers'
    → Kept is_scratch registers registers'
free_scratch registers registers' k r e = k r (rw (other 0 refl, other 1 refl, other 2 refl) refl)
  where
    other : (s : ℕ) → is_scratch s ≡ true → (r == s) ≡ false
    other s g = ne_eqb r s (λ same. let bad : true ≡ false = sym g ∙ ap is_scratch (sym same) ∙ e in absurd cc)

module _ (plan : Plan) (act : Activation plan) (parts : Parts) where
  open plan use {setting, size, words, literals, globals, symbols}

  abbrev Std : List MarkKind → ℕ → List Item → Type 0
  Std waiting a is = Stands setting waiting a is

  abbrev At : ℕ → Frame → View → Type 0
  At charged f x = PlacesAt plan act parts charged f.places f.outgoing x.registers x.bytes

  -- ---- atoms

  -- a register has a word of the value, if there is one
  pub record Atomic (r : ℕ) (x : View) (waiting : List MarkKind) (rest : List Item) (o : Option Value) : Type 0 where
    pub value : ℕ
    pub place : ℕ
    pub leads : Leads setting 1 1 waiting x (moved_to x (set_register x.registers r value) x.flags place)
    pub word : (v : Value) → o ≡ Some v → IsWord parts v value
    pub ahead : Std [] place rest

  -- where a literal's word is
  pub literal_inside : (n : ℕ) (bytes : List ℕ) → n < literals → length bytes ≡ size
      → Inside (length bytes) (literal_address n)
  literal_inside n bytes lt e =
      let h = heap_above plan in let sl = plan.stack_low in let a = act.room.low in let b = act.room.high in
      record { low = omega arith; high = omega (arith, h, lt, e, sl, a, b) }

  -- The places may hold words of parts that the state has not yet.
  module _ (old : Parts) (stay : Stay old parts) (more : old.symbols ≤ parts.symbols) where
    pub atomic : (r : ℕ) (a : Atom Place) (charged : ℕ) (f : Frame) (s : State Procedure) (x : View)
        (waiting : List MarkKind) (rest : List Item)
        → atom_selected words globals (length symbols) literals a ≡ true → At charged f x
        → StoreAt plan old s x.bytes x.output x.answers → Std waiting x.place (atom_code r a rest)
        → Atomic r x waiting rest (atom_value (held f) s.store a)
    atomic r (Constant c) charged f s x waiting rest e p g' h =
        let both = and_parts (constant_known (length symbols) c) (is_constant c) e in
        let n = word (constant_number c) in
        record {
          value = n;
          place = x.place + h.0;
          leads = goes setting x _ (MovWord r (constant_number c)) h.0 waiting h.1 refl;
          word = λ v g. let same : constant_value c ≡ v = cc in subst (λ v. IsWord parts v n) same
              (constant_word parts (length symbols) c both.1 both.0 (few_symbols plan)
              (let k = g'.known in omega (arith, k, more)));
          ahead = h.2;
        }
    atomic r (Variable q) charged f s x waiting rest e p g h =
        let l = loaded plan act parts charged f.places f.outgoing q r x waiting rest e p g.size_is h in
        record {
          value = l.value;
          place = l.place;
          leads = l.leads;
          word = λ v g. held_value act.back parts (f.places q) l.value v l.holds g;
          ahead = l.ahead;
        }
    atomic r (Literal n) charged f s x waiting rest e p g h = record {
      value = word_in x.bytes (literal_address n);
      place = x.place + h.0;
      leads = loads_data setting x r (literal_address n) rest waiting h
          (literal_inside n x.bytes (ltb-true n literals e) g.size_is);
      word = λ v i. words_by old parts stay more v _ (g.literal n v i);
      ahead = h.4;
    }

  -- ---- one operand, in RAX

  abbrev Here : State Procedure → View → Type 0
  Here s x = StoreAt plan parts s x.bytes x.output x.answers

  same : Stay parts parts
  same o at e = e

  abbrev pub Reads : View → List MarkKind → ℕ → List Item → Option Value → Type 0
  Reads x waiting most rest None = Unit {0}
  Reads x waiting most rest (Some v) = Yields setting parts is_free x waiting most v rest

  given_yields : (x : View) (waiting : List MarkKind) (c : ℕ) (t : Store) (rest : List Item) (o : Outcome Store Value)
      → Comes setting parts is_free x waiting c t rest o → Reads x waiting c rest (given o)
  given_yields x waiting c t rest (gives v u) s = s.1
  given_yields x waiting c t rest (stops why u) s = tt
  given_yields x waiting c t rest (spent u) s = absurd s

  reads_after : (x : View) (registers : ℕ → ℕ) (flags : Flags) (place : ℕ) (waiting : List MarkKind) (a b c most : ℕ)
      (rest : List Item) (o : Option Value) → Leads setting a b waiting x (moved_to x registers flags place)
      → Kept is_free x.registers registers → b + c ≤ most → Reads (moved_to x registers flags place) [] c rest o
      → Reads x waiting most rest o
  reads_after x registers flags place waiting a b c most rest None p k le s = tt
  reads_after x registers flags place waiting a b c most rest (Some v) p k le s = yields_after setting parts is_free x
      registers flags place waiting a b c most v rest p k le s

  reads_computed : (which : Primitive) → only_reads which ≡ true → is_computed which ≡ true
  reads_computed Eq e = refl
  reads_computed Eqv e = refl
  reads_computed IsBoolean e = refl
  reads_computed IsPair e = refl
  reads_computed IsNull e = refl
  reads_computed IsSymbol e = refl
  reads_computed IsInteger e = refl
  reads_computed IsChar e = refl
  reads_computed IsString e = refl
  reads_computed IsVector e = refl
  reads_computed IsProcedure e = refl
  reads_computed _ e = absurd (let bad : false ≡ true = e in cc)

  read_here : (n : ℕ) (which : Primitive) (atoms : List (Atom Place)) (charged : ℕ) (f : Frame) (s : State Procedure) (x : View)
      (waiting : List MarkKind) (rest : List Item) → read_selected words globals (length symbols) literals which atoms ≡ true → At charged f x
      → Here s x → Std waiting x.place (read_code n which atoms rest)
      → Reads x waiting 32 rest (read which s.store (atom_values (held f) s.store atoms))
  read_here n which (a ∷ []) charged f s x waiting rest e p g h = by (atom_value (held f) s.store a) refl
    where
      checks : ((only_reads which && takes 1 which) ≡ true) × (atom_selected words globals (length symbols) literals a ≡ true)
      checks = and_parts (only_reads which && takes 1 which) (atom_selected words globals (length symbols) literals a) e

      reads : (only_reads which ≡ true) × (takes 1 which ≡ true)
      reads = and_parts (only_reads which) (takes 1 which) checks.0

      l : Atomic 0 x waiting (unary_code n which rest) (atom_value (held f) s.store a)
      l = atomic parts same (omega arith) 0 a charged f s x waiting (unary_code n which rest) checks.1 p g h

      by : (o : Option Value) → atom_value (held f) s.store a ≡ o
          → Reads x waiting 32 rest (read which s.store (and_value o (Some [])))
      by None i = tt
      by (Some v) i =
          let y = moved_to x (set_register x.registers 0 l.value) x.flags l.place in
          reads_after x y.registers y.flags y.place waiting 1 1 20 32 rest _ l.leads
          (kept_set is_free x.registers 0 l.value refl) (omega arith)
          (given_yields y [] 20 s.store rest _ (unary_here plan parts n which v y [] s rest reads.1
          (reads_computed which reads.0) g (l.word v i) l.ahead))
  read_here n which (a ∷ (b ∷ [])) charged f s x waiting rest e p g h = by (atom_value (held f) s.store a)
      (atom_value (held f) s.store b) refl refl
    where
      checks : ((only_reads which && takes 2 which) ≡ true) × ((atom_selected words globals (length symbols) literals a && atom_selected words globals (length symbols) literals b) ≡ true)
      checks = and_parts (only_reads which && takes 2 which) (atom_selected words globals (length symbols) literals a && atom_selected words globals (length symbols) literals b) e

      reads : (only_reads which ≡ true) × (takes 2 which ≡ true)
      reads = and_parts (only_reads which) (takes 2 which) checks.0

      both : (atom_selected words globals (length symbols) literals a ≡ true) × (atom_selected words globals (length symbols) literals b ≡ true)
      both = and_parts (atom_selected words globals (length symbols) literals a) (atom_selected words globals (length symbols) literals b) checks.1

      l : Atomic 0 x waiting (atom_code 1 b (binary_code n which rest)) (atom_value (held f) s.store a)
      l = atomic parts same (omega arith) 0 a charged f s x waiting (atom_code 1 b (binary_code n which rest)) both.0 p g h

      y : View
      y = moved_to x (set_register x.registers 0 l.value) x.flags l.place

      m : Atomic 1 y [] (binary_code n which rest) (atom_value (held f) s.store b)
      m = atomic parts same (omega arith) 1 b charged f s y [] (binary_code n which rest) both.1
          (places_kept plan act parts charged f.places f.outgoing x.registers y.registers x.bytes
          (kept_set is_scratch x.registers 0 l.value refl) p) g l.ahead

      by : (o q : Option Value) → atom_value (held f) s.store a ≡ o → atom_value (held f) s.store b ≡ q
          → Reads x waiting 32 rest (read which s.store (and_value o (and_value q (Some []))))
      by None None i j = tt
      by None (Some u) i j = tt
      by (Some v) None i j = tt
      by (Some v) (Some u) i j =
          let z = moved_to x (set_register y.registers 1 m.value) x.flags m.place in
          reads_after x z.registers z.flags z.place waiting 2 2 30 32 rest _ (leads_on setting.marks l.leads m.leads)
          (kept_then is_free x.registers y.registers z.registers (kept_set is_free x.registers 0 l.value refl)
          (kept_set is_free y.registers 1 m.value refl)) (omega arith)
          (given_yields z [] 30 s.store rest _ (binary_here plan parts n which v u z [] s rest reads.1 (reads_computed which reads.0) g (l.word v i)
          (m.word u j) m.ahead))
  read_here n which [] charged f s x waiting rest e p g h = absurd (let bad : false ≡ true = e in cc)
  read_here n which (a ∷ (b ∷ (c ∷ atoms))) charged f s x waiting rest e p g h = absurd
      (let bad : false ≡ true = e in cc)

  pub operand_here : (n : ℕ) (o : Operand Place) (charged : ℕ) (f : Frame) (s : State Procedure) (x : View)
      (waiting : List MarkKind) (rest : List Item) → operand_selected words globals (length symbols) literals o ≡ true → At charged f x
      → Here s x → Std waiting x.place (operand_code n o rest)
      → Reads x waiting 32 rest (operand_value (held f) s.store o)
  operand_here n (operand.Read site which atoms) charged f s x waiting rest e p g h = read_here n which atoms charged
      f s x waiting rest e p g h
  operand_here n (operand.Atom a) charged f s x waiting rest e p g h = by (atom_value (held f) s.store a) refl
    where
      l : Atomic 0 x waiting rest (atom_value (held f) s.store a)
      l = atomic parts same (omega arith) 0 a charged f s x waiting rest e p g h

      by : (o : Option Value) → atom_value (held f) s.store a ≡ o → Reads x waiting 32 rest o
      by None i = tt
      by (Some v) i = record {
        registers = set_register x.registers 0 l.value;
        flags = x.flags;
        place = l.place;
        least = 1;
        steps = 1;
        leads = l.leads;
        few = omega arith;
        kept = kept_set is_free x.registers 0 l.value refl;
        value = l.word v i;
        ahead = l.ahead;
      }

  -- ---- a second operand, in RCX, while RAX keeps a word

  pub record Second (x : View) (waiting : List MarkKind) (most : ℕ) (v : Value) (rest : List Item) : Type 0 where
    pub registers : ℕ → ℕ
    pub flags : Flags
    pub place : ℕ
    pub least : ℕ
    pub steps : ℕ
    pub leads : Leads setting least steps waiting x (moved_to x registers flags place)
    pub few : steps ≤ most
    pub kept : Kept is_scratch x.registers registers
    pub first : registers 0 ≡ x.registers 0
    pub second : IsWord parts v (registers 1)
    pub ahead : Std [] place rest

  abbrev pub ReadsSecond : View → List MarkKind → ℕ → List Item → Option Value → Type 0
  ReadsSecond x waiting most rest None = Unit {0}
  ReadsSecond x waiting most rest (Some v) = Second x waiting most v rest

  pub second_here : (n : ℕ) (o : Operand Place) (charged : ℕ) (f : Frame) (s : State Procedure) (x : View)
      (waiting : List MarkKind) (rest : List Item) → operand_selected words globals (length symbols) literals o ≡ true → At charged f x
      → Here s x → Std waiting x.place (second_code n o rest)
      → ReadsSecond x waiting 35 rest (operand_value (held f) s.store o)
  second_here n (operand.Atom a) charged f s x waiting rest e p g h = by (atom_value (held f) s.store a) refl
    where
      l : Atomic 1 x waiting rest (atom_value (held f) s.store a)
      l = atomic parts same (omega arith) 1 a charged f s x waiting rest e p g h

      by : (o : Option Value) → atom_value (held f) s.store a ≡ o → ReadsSecond x waiting 35 rest o
      by None i = tt
      by (Some v) i = record {
        registers = set_register x.registers 1 l.value;
        flags = x.flags;
        place = l.place;
        least = 1;
        steps = 1;
        leads = l.leads;
        few = omega arith;
        kept = kept_set is_scratch x.registers 1 l.value refl;
        first = refl;
        second = l.word v i;
        ahead = l.ahead;
      }
  second_here n (operand.Read site which atoms) charged f s x waiting rest e p g h = by
      (read which s.store (atom_values (held f) s.store atoms)) r
    where
      behind : List Item
      behind = Plain (MovTo (Reg 1) 0) ∷ (Plain (MovTo (Reg 0) 11) ∷ rest)

      y : View
      y = moved_to x (set_register x.registers 11 (x.registers 0)) x.flags (x.place + h.0)

      r : Reads y [] 32 behind (read which s.store (atom_values (held f) s.store atoms))
      r = read_here n which atoms charged f s y [] behind e
          (places_kept plan act parts charged f.places f.outgoing x.registers y.registers x.bytes
          (kept_set is_scratch x.registers 11 (x.registers 0) refl) p) g h.2

      by : (o : Option Value) → Reads y [] 32 behind o → ReadsSecond x waiting 35 rest o
      by None r = tt
      by (Some v) r =
          let z = moved_to x r.registers r.flags r.place in
          let u = moved_to x (set_register r.registers 1 (r.registers 0)) r.flags (r.place + r.ahead.0) in
          let w = moved_to x (set_register u.registers 0 (r.registers 11)) r.flags (u.place + r.ahead.2.0) in
          record {
            registers = w.registers;
            flags = w.flags;
            place = w.place;
            least = 1 + r.least + 1 + 1;
            steps = 1 + r.steps + 1 + 1;
            leads = leads_on setting.marks (leads_on setting.marks
                (leads_on setting.marks (goes setting x y (MovTo (Reg 11) 0) h.0 waiting h.1 refl) r.leads)
                (goes setting z u (MovTo (Reg 1) 0) r.ahead.0 [] r.ahead.1 refl))
                (goes setting u w (MovTo (Reg 0) 11) r.ahead.2.0 [] r.ahead.2.1 refl);
            few = (let q = r.few in omega (arith, q));
            kept = kept_then is_scratch x.registers y.registers w.registers
                (kept_set is_scratch x.registers 11 (x.registers 0) refl)
                (kept_then is_scratch y.registers r.registers w.registers (free_scratch y.registers r.registers r.kept)
                (kept_then is_scratch r.registers u.registers w.registers
                (kept_set is_scratch r.registers 1 (r.registers 0) refl)
                (kept_set is_scratch u.registers 0 (r.registers 11) refl)));
            first = r.kept 11 refl;
            second = r.value;
            ahead = r.ahead.2.2;
          }
