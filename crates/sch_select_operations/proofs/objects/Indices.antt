-- Registers are tested for a fixnum, for the low byte of a character, and for an index below a length.
use Rattle.std.proofs.Common.{◌≡◌, ℕ, ◌+◌, ◌*◌, ◌<◌, ◌≤◌, ◌%◌, List, [], ◌∷◌, length, Bool, true, false, Some, refl, ap}
use Rattle.std.proofs.Common.{◌∙◌, arith, ◌==◌}
use Rattle.std.specs.Prelude.{ℤ, pos, not, nat_lt, Result, Ok, bit_and}
use Rattle.std.proofs.Math.Nat.{mod-lt}
use Rattle.sch_word.specs.values.Options.{when_ok}
use Rattle.sch_word.specs.declared.stop.Stop.TheVariants.{WrongType, OutOfRange}
use Rattle.sch_word.specs.values.Values.{Value, fixnum, character, boolean, nil, unspecified, symbol, object, procedure, cell}
use Rattle.sch_word.specs.values.PrimitiveRows.{is_index, is_integer, is_character, as_fixnum, as_character}
use Rattle.sch_word.specs.runs.Store.{Store}
use Rattle.sch_word.specs.runs.Computation.{Action, stops}
use Rattle.sch_insn.specs.declared.condition.TheConstants.{NE, AE}
use Rattle.sch_insn.specs.declared.insn.Arg.TheVariants.{Reg, Base32}
use Rattle.sch_insn.specs.declared.insn.Insn.TheVariants.{CmpNumber, CmpFrom}
use Rattle.sch_insn.specs.declared.state.Flags.{Flags}
use Rattle.sch_insn.specs.declared.state.StuckCause.{StuckCause}
use Rattle.sch_insn.specs.Machine.{set_register, add64, word, bits_of, difference_of, condition, word_at, with_flags, with_place}
use Rattle.sch_insn.specs.Step.{Progress, moved}
use Rattle.sch_insn.proofs.Conditions.{on_ne, compared_ne, compared_ae}
use Rattle.sch_insn.proofs.Paths.{leads_on}
use Rattle.sch_asm.specs.declared.item.Item.{Item}
use Rattle.sch_asm.specs.declared.item.Item.TheVariants.{Plain, JumpIf}
use Rattle.sch_word.specs.declared.mark.MarkKind.{MarkKind}
use Rattle.sch_asm.specs.Stands.{Setting, Stands, Found}
use Rattle.sch_asm.specs.Data.{FixnumWord, Inside, word_in}
use Rattle.sch_asm.specs.Views.{View, Leads, full}
use Rattle.sch_asm.proofs.EachItem.{goes, branches}
use Rattle.sch_asm.proofs.Words.{memory, loads}
use Rattle.sch_select_memory.proofs.heap.Elements.{index_tested}
use Rattle.sch_select_memory.specs.Checks.{low_bits, check_fixnum}
use Rattle.sch_select_operations.specs.ObjectCode.{check_index}
use Rattle.sch_select_memory.specs.Addresses.{stop_label}
use Rattle.sch_select_memory.proofs.Straight.{Halts, Kept, kept_set, kept_then, moved_to, Masked, masked}
use Rattle.sch_select_memory.proofs.Straight.{tagged, by_7}

-- ---- values that are fixnums or characters, and others

pub fixnum_of : (v : Value) → is_integer v ≡ true → (n : ℤ) × (v ≡ fixnum n)
fixnum_of (fixnum n) e = (n, refl)
fixnum_of (character c) e = absurd cc
fixnum_of (boolean b) e = absurd cc
fixnum_of nil e = absurd cc
fixnum_of unspecified e = absurd cc
fixnum_of (symbol n) e = absurd cc
fixnum_of (object n) e = absurd cc
fixnum_of (procedure n) e = absurd cc
fixnum_of (cell n) e = absurd cc

pub no_fixnum : (v : Value) (next : ℤ → Action Value) (t : Store) → is_integer v ≡ false → as_fixnum v next t ≡ stops WrongType t
no_fixnum (fixnum n) next t e = absurd cc
no_fixnum (character c) next t e = refl
no_fixnum (boolean b) next t e = refl
no_fixnum nil next t e = refl
no_fixnum unspecified next t e = refl
no_fixnum (symbol n) next t e = refl
no_fixnum (object n) next t e = refl
no_fixnum (procedure n) next t e = refl
no_fixnum (cell n) next t e = refl

pub character_of : (v : Value) → is_character v ≡ true → (n : ℕ) × (v ≡ character n)
character_of (character c) e = (c, refl)
character_of (fixnum n) e = absurd cc
character_of (boolean b) e = absurd cc
character_of nil e = absurd cc
character_of unspecified e = absurd cc
character_of (symbol n) e = absurd cc
character_of (object n) e = absurd cc
character_of (procedure n) e = absurd cc
character_of (cell n) e = absurd cc

pub no_character : (v : Value) (next : ℕ → Action Value) (t : Store) → is_character v ≡ false → as_character v next t ≡ stops WrongType t
no_character (character c) next t e = absurd cc
no_character (fixnum n) next t e = refl
no_character (boolean b) next t e = refl
no_character nil next t e = refl
no_character unspecified next t e = refl
no_character (symbol n) next t e = refl
no_character (object n) next t e = refl
no_character (procedure n) next t e = refl
no_character (cell n) next t e = refl

module _ (setting : Setting) where
  -- the machine goes on, with another word in RDX alone
  pub record Passed (x : View) (waiting : List MarkKind) (steps : ℕ) (rest : List Item) : Type 0 where
    pub registers : ℕ → ℕ
    pub flags : Flags
    pub place : ℕ
    pub leads : Leads setting steps steps waiting x (moved_to x registers flags place)
    pub kept : Kept (λ k. k == 2) x.registers registers
    pub ahead : Stands setting [] place rest

  abbrev pub Checked : Bool → View → List MarkKind → ℕ → List Item → Type 0
  Checked true x waiting steps rest = Passed x waiting steps rest
  Checked false x waiting steps rest = Halts setting x waiting steps WrongType

  kept_rdx : (x : View) (r tag : ℕ) → Kept (λ k. k == 2) x.registers (set_register (set_register x.registers 2 (x.registers r)) 2 tag)
  kept_rdx x r tag = kept_then (λ k. k == 2) x.registers (set_register x.registers 2 (x.registers r)) _
      (kept_set (λ k. k == 2) x.registers 2 (x.registers r) refl)
      (kept_set (λ k. k == 2) (set_register x.registers 2 (x.registers r)) 2 tag refl)

  -- a fixnum, by its tag
  pub fixnum_decided : (r : ℕ) (b : Bool) (x : View) (waiting : List MarkKind) (rest : List Item)
      → (x.registers r % 8 == 0) ≡ b → Stands setting waiting x.place (check_fixnum r rest) → Checked b x waiting 3 rest
  fixnum_decided r b x waiting rest tested h = by b (at ∙ ap (λ b. Some (not b)) tested)
    where
      m : Masked setting x r 8 waiting (JumpIf NE (stop_label WrongType) ∷ rest)
      m = masked setting x r 7 8 waiting (JumpIf NE (stop_label WrongType) ∷ rest) by_7 h

      y : View
      y = tagged setting x r m.tag (bits_of m.tag).flags m.place

      at : condition y.flags NE ≡ Some (not (x.registers r % 8 == 0))
      at = on_ne (bits_of m.tag).flags ∙ ap (λ k. Some (not (k == 0))) m.tag_is

      by : (b : Bool) → condition y.flags NE ≡ Some (not b) → Checked b x waiting 3 rest
      by true e = record {
        registers = y.registers;
        flags = y.flags;
        place = m.place + m.ahead.0;
        leads = leads_on setting.marks m.leads (branches setting y NE (stop_label WrongType) rest [] false m.ahead e);
        kept = kept_rdx x r m.tag;
        ahead = m.ahead.4;
      }
      by false e = record {
        registers = y.registers;
        flags = y.flags;
        least = 3;
        steps = 3;
        leads = leads_on setting.marks m.leads (branches setting y NE (stop_label WrongType) rest [] true m.ahead e);
        few = omega arith;
      }

  -- the low bits of a register are these
  pub low_decided : (r mask size tag : ℕ) (b : Bool) (x : View) (waiting : List MarkKind) (rest : List Item)
      → ((w : ℕ) → bit_and w mask ≡ w % size) → size ≤ 256 → 0 < size → tag < 256 → (x.registers r % size == tag) ≡ b
      → Stands setting waiting x.place (low_bits r mask (Plain (CmpNumber (Reg 2) (pos tag)) ∷ (JumpIf NE (stop_label WrongType) ∷ rest)))
      → Checked b x waiting 4 rest
  low_decided r mask size tag b x waiting rest is small some low tested h = by b (at ∙ ap (λ b. Some (not b)) tested)
    where
      following : List Item
      following = Plain (CmpNumber (Reg 2) (pos tag)) ∷ (JumpIf NE (stop_label WrongType) ∷ rest)

      m : Masked setting x r size waiting following
      m = masked setting x r mask size waiting following is h

      y : View
      y = tagged setting x r m.tag (bits_of m.tag).flags m.place

      z : View
      z = tagged setting x r m.tag (difference_of m.tag tag).flags (m.place + m.ahead.0)

      first : Leads setting 3 3 waiting x z
      first = leads_on setting.marks m.leads (goes setting y z (CmpNumber (Reg 2) (pos tag)) m.ahead.0 [] m.ahead.1 refl)

      at : condition z.flags NE ≡ Some (not (x.registers r % size == tag))
      at = compared_ne m.tag tag (let i = m.tag_is in let k = mod-lt (x.registers r) some in omega (arith, i, k, small)) (omega (arith, low))
          ∙ ap (λ k. Some (not (k == tag))) m.tag_is

      by : (b : Bool) → condition z.flags NE ≡ Some (not b) → Checked b x waiting 4 rest
      by true e = record {
        registers = z.registers;
        flags = z.flags;
        place = z.place + m.ahead.2.0;
        leads = leads_on setting.marks first (branches setting z NE (stop_label WrongType) rest [] false m.ahead.2 e);
        kept = kept_rdx x r m.tag;
        ahead = m.ahead.2.4;
      }
      by false e = record {
        registers = z.registers;
        flags = z.flags;
        least = 4;
        steps = 4;
        leads = leads_on setting.marks first (branches setting z NE (stop_label WrongType) rest [] true m.ahead.2 e);
        few = omega arith;
      }

  -- ---- an index, against a word of the data

  abbrev compared_to : View → (r next : ℕ) → Result ℕ StuckCause → Progress
  compared_to x r next o = moved (full setting x) (when_ok o (λ v. Ok (with_flags (difference_of (x.registers r) v).flags (with_place next (full setting x).core))))

  pub compares_word : (x : View) (r b n a : ℕ) (d : ℤ) (waiting : List MarkKind)
      → Found setting x.place (CmpFrom r (Base32 b d)) n waiting → add64 (x.registers b) (word d) ≡ a
      → Inside (length x.bytes) a
      → Leads setting 1 1 waiting x (moved_to x x.registers (difference_of (x.registers r) (word_in x.bytes a)).flags (x.place + n))
  compares_word x r b n a d waiting f e h = goes setting x _ (CmpFrom r (Base32 b d)) n waiting f
      (ap (compared_to x r (x.place + n)) (ap (word_at (memory setting x.bytes)) e ∙ loads setting x.bytes a h))

  -- the machine goes on, with all registers as they were
  pub record InRange (x : View) (rest : List Item) : Type 0 where
    pub flags : Flags
    pub place : ℕ
    pub leads : Leads setting 2 2 [] x (moved_to x x.registers flags place)
    pub ahead : Stands setting [] place rest

  abbrev pub Ranged : Bool → View → List Item → Type 0
  Ranged true x rest = InRange x rest
  Ranged false x rest = Halts setting x [] 2 OutOfRange

  pub index_decided : (x : View) (n : ℤ) (d : ℤ) (a bound : ℕ) (rest : List Item) → FixnumWord n (x.registers 1)
      → add64 (x.registers 0) (word d) ≡ a → Inside (length x.bytes) a → word_in x.bytes a ≡ 8 * bound
      → 8 * bound < 9223372036854775808 → Stands setting [] x.place (check_index (Base32 0 d) rest)
      → Ranged (is_index n bound) x rest
  index_decided x n d a bound rest hn e within is few h = by (is_index n bound)
      (compared_ae (x.registers 1) (word_in x.bytes a) ∙ ap (λ k. Some (not (nat_lt (x.registers 1) k))) is
      ∙ ap (λ b. Some (not b)) (index_tested n (x.registers 1) bound hn few))
    where
      y : View
      y = moved_to x x.registers (difference_of (x.registers 1) (word_in x.bytes a)).flags (x.place + h.0)

      first : Leads setting 1 1 [] x y
      first = compares_word x 1 0 h.0 a d [] h.1 e within

      by : (b : Bool) → condition y.flags AE ≡ Some (not b) → Ranged b x rest
      by true e = record {
        flags = y.flags;
        place = y.place + h.2.0;
        leads = leads_on setting.marks first (branches setting y AE (stop_label OutOfRange) rest [] false h.2 e);
        ahead = h.2.4;
      }
      by false e = record {
        registers = x.registers;
        flags = y.flags;
        least = 2;
        steps = 2;
        leads = leads_on setting.marks first (branches setting y AE (stop_label OutOfRange) rest [] true h.2 e);
        few = omega arith;
      }
