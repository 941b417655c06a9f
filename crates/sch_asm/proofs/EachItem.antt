-- One lemma for each item: what the machine does where it stands.
use Rattle.std.proofs.Common.{◌≡◌, ℕ, ◌+◌, ◌-◌, ◌%◌, ◌<◌, ◌≤◌, List, [], ◌∷◌, length, drop, Bool, true, false, cond, Option, Some, None, sym, ap, ◌∙◌}
use Rattle.std.specs.Prelude.{Result, Ok, ℤ}
use Rattle.std.specs.Int.{w64, to_le_bytes}
use Rattle.sch_word.specs.values.Memory.{Segment}
use Rattle.sch_insn.specs.declared.insn.Arg.{Arg}
use Rattle.sch_insn.specs.declared.insn.Arg.TheVariants.{Reg, Base, Base8, Base32, Rip}
use Rattle.sch_insn.specs.declared.insn.Insn.{Insn}
use Rattle.sch_insn.specs.declared.insn.Insn.TheVariants as insn
use Rattle.sch_insn.specs.declared.state.StuckCause.{StuckCause}
use Rattle.sch_insn.specs.Decode.{decode}
use Rattle.sch_word.specs.values.Options.{when_some, first_or_0, when_ok}
use Rattle.sch_insn.specs.Machine.{holds, bytes_from, add64, word, condition, set_register, word_at, byte_at, stored, or_access, with_segments, with_register, with_place}
use Rattle.sch_insn.specs.Step.{Progress, Runs, done, fetch, fetched, perform, moved, step, jump_if}
use Rattle.sch_insn.proofs.Paths.{leads_step}
use Rattle.sch_asm.specs.declared.item.Item.{Item}
use Rattle.sch_asm.specs.declared.item.Item.TheVariants.{Jump, JumpIf, LoadLabel, LoadWord, StoreWord}
use Rattle.sch_word.specs.declared.mark.MarkKind.{MarkKind}
use Rattle.sch_word.specs.runs.ProgramLayout.{data_address}
use Rattle.sch_asm.specs.Stands.{Setting, Found, Stands, GoesTo, BranchesTo}
use Rattle.sch_asm.specs.Data.{data_at, word_in, with_word, Inside}
use Rattle.sch_asm.specs.Views.{View, full, Leads}
use Rattle.sch_asm.proofs.Words.{memory, loads, stores}
use Rattle.sch_asm.proofs.Bytes.{with_byte, loads_byte, stores_byte}

-- ---- a text before other segments

by_holds : (b : Bool) (right : Bool) (l : List ℕ) (other : Option (List ℕ)) (x : Insn × ℕ) → when_some (cond b (cond right (Some l) None) None) decode ≡ Some x → when_some (cond b (cond right (Some l) None) other) decode ≡ Some x
by_holds true right l other x e = e
by_holds false right l other x e = absurd cc

-- What is fetched from a text is fetched whatever lies behind it.
pub fetched_first : (text : Segment) (gs : List Segment) (a : ℕ) (x : Insn × ℕ) → fetch (text ∷ []) a ≡ Some x → fetch (text ∷ gs) a ≡ Some x
fetched_first text gs a x e = by_holds (holds text a 1) text.executable (drop (a - text.address) text.bytes) (bytes_from (λ g. g.executable) gs a 1) x e

module _ (setting : Setting) where
  open setting use {text, place_of}

  pub stepped : (x : View) (i : Insn) (n : ℕ) (waiting : List MarkKind) (p : Progress) → Found setting x.place i n waiting → perform i (x.place + n) (full setting x) ≡ p → step (full setting x) ≡ p
  stepped x i n waiting p f e =
      ap (fetched (full setting x)) (fetched_first text (data_at x.bytes ∷ []) x.place (f.0, n) f.1) ∙ ap (λ r. done r (x.place + n) (full setting x)) f.2 ∙ e

  -- Any instruction, by what it performs: a computation, where it touches no memory.
  pub goes : (x y : View) (i : Insn) (n : ℕ) (waiting : List MarkKind) → Found setting x.place i n waiting → perform i (x.place + n) (full setting x) ≡ Runs (full setting y) → Leads setting 1 1 waiting x y
  goes x y i n waiting f e = leads_step setting.marks (full setting x) (full setting y) waiting (stepped x i n waiting (Runs (full setting y)) f e) f.3

  -- ---- memory

  -- An operand names an address.
  abbrev pub Names : View → ℕ → Arg → ℕ → Type 0
  Names x next (Reg r) a = ⊥
  Names x next (Base b) a = x.registers b ≡ a
  Names x next (Base8 b d) a = add64 (x.registers b) (word d) ≡ a
  Names x next (Base32 b d) a = add64 (x.registers b) (word d) ≡ a
  Names x next (Rip d) a = add64 next (word d) ≡ a

  abbrev loaded_to : View → ℕ → ℕ → Result ℕ StuckCause → Progress
  loaded_to x r next o = moved (full setting x) (when_ok o (λ v. Ok (with_register r v (with_place next (full setting x).core))))

  abbrev word_loaded : View → ℕ → ℕ → ℕ → View
  word_loaded x r next a = record x { registers = set_register x.registers r (word_in x.bytes a); place = next }

  read_by : (x : View) (r next a b : ℕ) → b ≡ a → Inside (length x.bytes) a → loaded_to x r next (word_at (memory setting x.bytes) b) ≡ Runs (full setting (word_loaded x r next a))
  read_by x r next a b e h = ap (loaded_to x r next) (ap (word_at (memory setting x.bytes)) e ∙ loads setting x.bytes a h)

  load_performs : (x : View) (r next a : ℕ) (m : Arg) → Names x next m a → Inside (length x.bytes) a → perform (insn.MovFrom r m) next (full setting x) ≡ Runs (full setting (word_loaded x r next a))
  load_performs x r next a (Reg b) e h = absurd e
  load_performs x r next a (Base b) e h = read_by x r next a _ e h
  load_performs x r next a (Base8 b d) e h = read_by x r next a _ e h
  load_performs x r next a (Base32 b d) e h = read_by x r next a _ e h
  load_performs x r next a (Rip d) e h = read_by x r next a _ e h

  pub loads_word : (x : View) (r n a : ℕ) (m : Arg) (waiting : List MarkKind) → Found setting x.place (insn.MovFrom r m) n waiting → Names x (x.place + n) m a → Inside (length x.bytes) a → Leads setting 1 1 waiting x (word_loaded x r (x.place + n) a)
  loads_word x r n a m waiting f e h = goes x _ (insn.MovFrom r m) n waiting f (load_performs x r (x.place + n) a m e h)

  abbrev stored_to : View → ℕ → ℕ → Option (List Segment) → Progress
  stored_to x next a o = moved (full setting x) (when_ok (or_access a o) (λ gs. Ok (with_segments gs (with_place next (full setting x).core))))

  abbrev word_stored : View → ℕ → ℕ → ℕ → View
  word_stored x v next a = record x { bytes = with_word x.bytes a v; place = next }

  write_by : (x : View) (v next a b : ℕ) → b ≡ a → Inside (length x.bytes) a → stored_to x next b (stored (memory setting x.bytes) b (to_le_bytes w64 v)) ≡ Runs (full setting (word_stored x v next a))
  write_by x v next a b e h = ap (λ b. stored_to x next b (stored (memory setting x.bytes) b (to_le_bytes w64 v))) e ∙ ap (stored_to x next a) (stores setting x.bytes a v h)

  store_performs : (x : View) (r next a : ℕ) (m : Arg) → Names x next m a → Inside (length x.bytes) a → perform (insn.MovTo m r) next (full setting x) ≡ Runs (full setting (word_stored x (x.registers r) next a))
  store_performs x r next a (Reg b) e h = absurd e
  store_performs x r next a (Base b) e h = write_by x (x.registers r) next a _ e h
  store_performs x r next a (Base8 b d) e h = write_by x (x.registers r) next a _ e h
  store_performs x r next a (Base32 b d) e h = write_by x (x.registers r) next a _ e h
  store_performs x r next a (Rip d) e h = write_by x (x.registers r) next a _ e h

  pub stores_word : (x : View) (r n a : ℕ) (m : Arg) (waiting : List MarkKind) → Found setting x.place (insn.MovTo m r) n waiting → Names x (x.place + n) m a → Inside (length x.bytes) a → Leads setting 1 1 waiting x (word_stored x (x.registers r) (x.place + n) a)
  stores_word x r n a m waiting f e h = goes x _ (insn.MovTo m r) n waiting f (store_performs x r (x.place + n) a m e h)

  number_performs : (x : View) (v : ℤ) (next a : ℕ) (m : Arg) → Names x next m a → Inside (length x.bytes) a → perform (insn.MovNumber m v) next (full setting x) ≡ Runs (full setting (word_stored x (word v) next a))
  number_performs x v next a (Reg b) e h = absurd e
  number_performs x v next a (Base b) e h = write_by x (word v) next a _ e h
  number_performs x v next a (Base8 b d) e h = write_by x (word v) next a _ e h
  number_performs x v next a (Base32 b d) e h = write_by x (word v) next a _ e h
  number_performs x v next a (Rip d) e h = write_by x (word v) next a _ e h

  pub stores_number : (x : View) (v : ℤ) (n a : ℕ) (m : Arg) (waiting : List MarkKind) → Found setting x.place (insn.MovNumber m v) n waiting → Names x (x.place + n) m a → Inside (length x.bytes) a → Leads setting 1 1 waiting x (word_stored x (word v) (x.place + n) a)
  stores_number x v n a m waiting f e h = goes x _ (insn.MovNumber m v) n waiting f (number_performs x v (x.place + n) a m e h)

  abbrev byte_loaded : View → ℕ → ℕ → ℕ → View
  byte_loaded x r next a = record x { registers = set_register x.registers r (first_or_0 (drop (a - data_address) x.bytes)); place = next }

  byte_read_by : (x : View) (r next a b : ℕ) → b ≡ a → data_address ≤ a → a < data_address + length x.bytes → loaded_to x r next (byte_at (memory setting x.bytes) b) ≡ Runs (full setting (byte_loaded x r next a))
  byte_read_by x r next a b e low high = ap (loaded_to x r next) (ap (byte_at (memory setting x.bytes)) e ∙ loads_byte setting x.bytes a low high)

  load_byte_performs : (x : View) (r next a : ℕ) (m : Arg) → Names x next m a → data_address ≤ a → a < data_address + length x.bytes → perform (insn.LoadByte r m) next (full setting x) ≡ Runs (full setting (byte_loaded x r next a))
  load_byte_performs x r next a (Reg b) e low high = absurd e
  load_byte_performs x r next a (Base b) e low high = byte_read_by x r next a _ e low high
  load_byte_performs x r next a (Base8 b d) e low high = byte_read_by x r next a _ e low high
  load_byte_performs x r next a (Base32 b d) e low high = byte_read_by x r next a _ e low high
  load_byte_performs x r next a (Rip d) e low high = byte_read_by x r next a _ e low high

  pub loads_one_byte : (x : View) (r n a : ℕ) (m : Arg) (waiting : List MarkKind) → Found setting x.place (insn.LoadByte r m) n waiting → Names x (x.place + n) m a → data_address ≤ a → a < data_address + length x.bytes → Leads setting 1 1 waiting x (byte_loaded x r (x.place + n) a)
  loads_one_byte x r n a m waiting f e low high = goes x _ (insn.LoadByte r m) n waiting f (load_byte_performs x r (x.place + n) a m e low high)

  abbrev byte_stored : View → ℕ → ℕ → ℕ → View
  byte_stored x v next a = record x { bytes = with_byte x.bytes a v; place = next }

  byte_written_by : (x : View) (v next a b : ℕ) → b ≡ a → data_address ≤ a → a < data_address + length x.bytes → stored_to x next b (stored (memory setting x.bytes) b (v ∷ [])) ≡ Runs (full setting (byte_stored x v next a))
  byte_written_by x v next a b e low high = ap (λ b. stored_to x next b (stored (memory setting x.bytes) b (v ∷ []))) e ∙ ap (stored_to x next a) (stores_byte setting x.bytes a v low high)

  store_byte_performs : (x : View) (r next a : ℕ) (m : Arg) → Names x next m a → data_address ≤ a → a < data_address + length x.bytes → perform (insn.StoreByte m r) next (full setting x) ≡ Runs (full setting (byte_stored x (x.registers r % 256) next a))
  store_byte_performs x r next a (Reg b) e low high = absurd e
  store_byte_performs x r next a (Base b) e low high = byte_written_by x (x.registers r % 256) next a _ e low high
  store_byte_performs x r next a (Base8 b d) e low high = byte_written_by x (x.registers r % 256) next a _ e low high
  store_byte_performs x r next a (Base32 b d) e low high = byte_written_by x (x.registers r % 256) next a _ e low high
  store_byte_performs x r next a (Rip d) e low high = byte_written_by x (x.registers r % 256) next a _ e low high

  pub stores_one_byte : (x : View) (r n a : ℕ) (m : Arg) (waiting : List MarkKind) → Found setting x.place (insn.StoreByte m r) n waiting → Names x (x.place + n) m a → data_address ≤ a → a < data_address + length x.bytes → Leads setting 1 1 waiting x (byte_stored x (x.registers r % 256) (x.place + n) a)
  stores_one_byte x r n a m waiting f e low high = goes x _ (insn.StoreByte m r) n waiting f (store_byte_performs x r (x.place + n) a m e low high)

  -- ---- jumps: only here it is seen which form one has

  jump_performs : (x : View) (i : Insn) (next to : ℕ) → GoesTo i next to → perform i next (full setting x) ≡ Runs (full setting (record x { place = to }))
  jump_performs x (insn.Jump d) next to g = ap (λ p. Runs (full setting (record x { place = p }))) g
  jump_performs x (insn.Jump8 d) next to g = ap (λ p. Runs (full setting (record x { place = p }))) g
  jump_performs x _ next to g = absurd g

  pub jumps : (x : View) (l : ℕ) (is : List Item) (waiting : List MarkKind) → Stands setting waiting x.place (Jump l ∷ is) → Leads setting 1 1 waiting x (record x { place = place_of l })
  jumps x l is waiting h = goes x _ h.1 h.0 waiting h.2 (jump_performs x h.1 (x.place + h.0) (place_of l) h.3)

  branch_performs : (x : View) (c : ℕ) (i : Insn) (next to : ℕ) (taken : Bool) → BranchesTo c i next to → condition x.flags c ≡ Some taken → perform i next (full setting x) ≡ Runs (full setting (record x { place = cond taken to next }))
  branch_performs x c (insn.JumpIf n d) next to taken g e =
      ap (λ o. moved (full setting x) (jump_if (with_place next (full setting x).core) d o)) (sym (ap (condition x.flags) g.0) ∙ e)
      ∙ ap (λ p. Runs (full setting (record x { place = cond taken p next }))) g.1
  branch_performs x c (insn.JumpIf8 n d) next to taken g e =
      ap (λ o. moved (full setting x) (jump_if (with_place next (full setting x).core) d o)) (sym (ap (condition x.flags) g.0) ∙ e)
      ∙ ap (λ p. Runs (full setting (record x { place = cond taken p next }))) g.1
  branch_performs x c _ next to taken g e = absurd g

  pub branches : (x : View) (c l : ℕ) (is : List Item) (waiting : List MarkKind) (taken : Bool) (h : Stands setting waiting x.place (JumpIf c l ∷ is)) → condition x.flags c ≡ Some taken → Leads setting 1 1 waiting x (record x { place = cond taken (place_of l) (x.place + h.0) })
  branches x c l is waiting taken h e = goes x _ h.1 h.0 waiting h.2 (branch_performs x c h.1 (x.place + h.0) (place_of l) taken h.3 e)

  -- ---- labels and data words

  pub loads_label : (x : View) (r l : ℕ) (is : List Item) (waiting : List MarkKind) (h : Stands setting waiting x.place (LoadLabel r l ∷ is)) → Leads setting 1 1 waiting x (record x { registers = set_register x.registers r (place_of l); place = x.place + h.0 })
  loads_label x r l is waiting h = goes x _ (insn.Lea r (Rip h.1)) h.0 waiting h.2 (ap (λ v. Runs (full setting (record x { registers = set_register x.registers r v; place = x.place + h.0 }))) h.3)

  pub loads_data : (x : View) (r a : ℕ) (is : List Item) (waiting : List MarkKind) (h : Stands setting waiting x.place (LoadWord r a ∷ is)) → Inside (length x.bytes) a → Leads setting 1 1 waiting x (word_loaded x r (x.place + h.0) a)
  loads_data x r a is waiting h within = loads_word x r h.0 a (Rip h.1) waiting h.2 h.3 within

  pub stores_data : (x : View) (r a : ℕ) (is : List Item) (waiting : List MarkKind) (h : Stands setting waiting x.place (StoreWord a r ∷ is)) → Inside (length x.bytes) a → Leads setting 1 1 waiting x (word_stored x (x.registers r) (x.place + h.0) a)
  stores_data x r a is waiting h within = stores_word x r h.0 a (Rip h.1) waiting h.2 h.3 within
