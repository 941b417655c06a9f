-- From one place of a text to another by instructions without memory: checks, tests and their ends.
use Rattle.std.proofs.Common.{◌≡◌, ℕ, ◌+◌, ◌-◌, ◌^◌, ◌<◌, ◌≤◌, ◌%◌, List, [], ◌∷◌, Bool, true, false, cond, Some, refl}
use Rattle.std.proofs.Common.{sym, ap, ◌∙◌, subst, arith, ◌==◌, ◌||◌, eq-eqb}
use Rattle.std.specs.Prelude.{ℤ, pos, not, bit_and, nat_le}
use Rattle.std.proofs.lemmas.Bool.{le-leb, leb-false, leb-true, lt-leb, ne_eqb}
use Rattle.sch_word.specs.declared.stop.Stop.{Stop}
use Rattle.sch_word.specs.declared.stop.Stop.TheVariants.{WrongType, Overflow}
use Rattle.sch_word.specs.values.Fixnum.{is_fixnum}
use Rattle.sch_word.specs.values.Values.{Value, fixnum, character, boolean, nil, unspecified, symbol, object, procedure, cell}
use Rattle.sch_word.specs.runs.Store.{Store}
use Rattle.sch_word.specs.runs.Computation.{Outcome, gives, stops, spent, Action, require}
use Rattle.sch_word.specs.values.PrimitiveRows.{as_fixnum, as_character, fixnum_or_stop}
use Rattle.sch_insn.specs.declared.condition.TheConstants.{O, E, NE}
use Rattle.sch_insn.specs.declared.insn.Arg.TheVariants.{Reg}
use Rattle.sch_insn.specs.declared.insn.Insn.TheVariants.{MovTo, MovNumber, AndNumber, CmpNumber}
use Rattle.sch_insn.specs.declared.state.Flags.{Flags}
use Rattle.sch_insn.specs.Machine.{Computed, set_register, bits_of, difference_of, condition}
use Rattle.sch_insn.proofs.Conditions.{on_o, on_ne, compared_e, compared_ne}
use Rattle.sch_insn.proofs.Paths.{leads_on}
use Rattle.sch_asm.specs.declared.item.Item.{Item}
use Rattle.sch_asm.specs.declared.item.Item.TheVariants.{Label, Plain, JumpIf}
use Rattle.sch_word.specs.declared.mark.MarkKind.{MarkKind}
use Rattle.sch_asm.specs.Stands.{Setting, Stands}
use Rattle.sch_asm.specs.Data.{FixnumWord}
use Rattle.sch_asm.specs.Views.{View, Leads}
use Rattle.sch_asm.proofs.EachItem.{goes, branches}
use Rattle.sch_select_memory.specs.Parts.{Parts}
use Rattle.sch_select_memory.specs.Encoded.{IsWord, true_word, false_word}
use Rattle.sch_select_memory.specs.Addresses.{stop_label}
use Rattle.sch_select_memory.specs.Checks.{low_bits, check_fixnum, check_character, boolean_code, test_code}
use Rattle.sch_select_memory.specs.Checks.{overflow_code}
use Rattle.sch_select_memory.proofs.heap.Sums.{Computes}
use Rattle.sch_select_memory.proofs.heap.Encodings.{integer_tested, character_tested}
use Rattle.std.proofs.lemmas.Nat.{and_mask}
use Rattle.std.proofs.Math.Nat.{mod-lt}

-- RAX, RCX and RDX are free for one primitive.
abbrev pub is_free : ℕ → Bool
is_free r = (r == 0) || ((r == 1) || (r == 2))

-- one register alone
abbrev pub is_one : ℕ → ℕ → Bool
is_one r k = k == r

pub set_one : (registers : ℕ → ℕ) (r v : ℕ) → set_register registers r v r ≡ v
set_one registers r v = ap (λ b. cond b v (registers r)) (eq-eqb r r refl)

-- Other registers than the free ones keep their words.
abbrev pub Kept : (free : ℕ → Bool) → (before after : ℕ → ℕ) → Type 0
Kept free before after = (r : ℕ) → free r ≡ false → after r ≡ before r

pub kept_set : (free : ℕ → Bool) (registers : ℕ → ℕ) (r v : ℕ) → free r ≡ true
    → Kept free registers (set_register registers r v)
kept_set free registers r v e k f = ap (λ t. cond t v (registers k))
    (ne_eqb k r (λ same. let bad : true ≡ false = sym e ∙ ap free (sym same) ∙ f in absurd cc))

pub kept_then : (free : ℕ → Bool) (a b c : ℕ → ℕ) → Kept free a b → Kept free b c → Kept free a c
kept_then free a b c p q k f = q k f ∙ p k f

-- The same state at another place, with other registers and flags.
abbrev pub moved_to : View → (ℕ → ℕ) → Flags → ℕ → View
moved_to x registers flags place = record x { registers = registers; flags = flags; place = place }

pub by_7 : (w : ℕ) → bit_and w 7 ≡ w % 8
by_7 w = and_mask w 3

pub by_127 : (w : ℕ) → bit_and w 127 ≡ w % 128
by_127 w = and_mask w 7

pub by_255 : (w : ℕ) → bit_and w 255 ≡ w % 256
by_255 w = and_mask w 8

module _ (setting : Setting) where
  open setting use {place_of}

  -- The machine comes to the routine of a stop.
  pub record Halts (x : View) (waiting : List MarkKind) (most : ℕ) (why : Stop) : Type 0 where
    pub registers : ℕ → ℕ
    pub flags : Flags
    pub least : ℕ
    pub steps : ℕ
    pub leads : Leads setting least steps waiting x (moved_to x registers flags (place_of (stop_label why)))
    pub few : steps ≤ most

  pub halts_after : (x : View) (registers : ℕ → ℕ) (flags : Flags) (place : ℕ) (waiting : List MarkKind)
      (a b c most : ℕ) (why : Stop) → Leads setting a b waiting x (moved_to x registers flags place) → b + c ≤ most
      → Halts (moved_to x registers flags place) [] c why → Halts x waiting most why
  halts_after x registers flags place waiting a b c most why p le s = record {
    registers = s.registers;
    flags = s.flags;
    least = a + s.least;
    steps = b + s.steps;
    leads = leads_on setting.marks p s.leads;
    few = omega (arith, s.few, le);
  }

  -- ---- low bits of a register, in RDX

  pub record Masked (x : View) (r size : ℕ) (waiting : List MarkKind) (rest : List Item) : Type 0 where
    pub tag : ℕ
    pub place : ℕ
    pub tag_is : tag ≡ x.registers r % size
    pub leads : Leads setting 2 2 waiting x (moved_to x
        (set_register (set_register x.registers 2 (x.registers r)) 2 tag) (bits_of tag).flags place)
    pub ahead : Stands setting [] place rest

  pub masked : (x : View) (r mask size : ℕ) (waiting : List MarkKind) (rest : List Item)
      → ((w : ℕ) → bit_and w mask ≡ w % size) → Stands setting waiting x.place (low_bits r mask rest)
      → Masked x r size waiting rest
  masked x r mask size waiting rest is h =
      let y : View = record x { registers = set_register x.registers 2 (x.registers r); place = x.place + h.0 } in
      record {
        tag = bit_and (x.registers r) mask;
        place = y.place + h.2.0;
        tag_is = is (x.registers r);
        leads = leads_on setting.marks (goes setting x y (MovTo (Reg 2) r) h.0 waiting h.1 refl)
            (goes setting y _ (AndNumber (Reg 2) (pos mask)) h.2.0 [] h.2.1 refl);
        ahead = h.2.2;
      }

  kept_tag : (registers : ℕ → ℕ) (v tag : ℕ) → Kept is_free registers (set_register (set_register registers 2 v) 2 tag)
  kept_tag registers v tag = kept_then is_free registers (set_register registers 2 v) _
      (kept_set is_free registers 2 v refl) (kept_set is_free (set_register registers 2 v) 2 tag refl)

  abbrev pub tagged : View → (r tag : ℕ) → Flags → ℕ → View
  tagged x r tag flags place = moved_to x (set_register (set_register x.registers 2 (x.registers r)) 2 tag) flags place

  -- the words of values, with these parts of a heap
  module _ (parts : Parts) where
    -- The machine comes to the items that follow with a word of a value in RAX.
    pub record Yields (free : ℕ → Bool) (x : View) (waiting : List MarkKind) (most : ℕ) (v : Value)
        (rest : List Item) : Type 0 where
      pub registers : ℕ → ℕ
      pub flags : Flags
      pub place : ℕ
      pub least : ℕ
      pub steps : ℕ
      pub leads : Leads setting least steps waiting x (moved_to x registers flags place)
      pub few : steps ≤ most
      pub kept : Kept free x.registers registers
      pub value : IsWord parts v (registers 0)
      pub ahead : Stands setting [] place rest

    -- What is owed for an outcome over a store that stays as it is.
    abbrev pub Comes : (free : ℕ → Bool) → View → List MarkKind → ℕ → Store → List Item → Outcome Store Value → Type 0
    Comes free x waiting most t rest (gives v u) = (u ≡ t) × Yields free x waiting most v rest
    Comes free x waiting most t rest (stops why u) = (u ≡ t) × Halts x waiting most why
    Comes free x waiting most t rest (spent u) = ⊥

    pub yields_after : (free : ℕ → Bool) (x : View) (registers : ℕ → ℕ) (flags : Flags) (place : ℕ)
        (waiting : List MarkKind) (a b c most : ℕ) (v : Value) (rest : List Item)
        → Leads setting a b waiting x (moved_to x registers flags place) → Kept free x.registers registers
        → b + c ≤ most → Yields free (moved_to x registers flags place) [] c v rest → Yields free x waiting most v rest
    yields_after free x registers flags place waiting a b c most v rest p k le s = record {
      registers = s.registers;
      flags = s.flags;
      place = s.place;
      least = a + s.least;
      steps = b + s.steps;
      leads = leads_on setting.marks p s.leads;
      few = omega (arith, s.few, le);
      kept = kept_then free x.registers registers s.registers k s.kept;
      value = s.value;
      ahead = s.ahead;
    }

    -- what is ahead, after some steps
    pub comes_after : (free : ℕ → Bool) (x : View) (registers : ℕ → ℕ) (flags : Flags) (place : ℕ)
        (waiting : List MarkKind) (a b c most : ℕ) (t : Store) (rest : List Item) (o : Outcome Store Value)
        → Leads setting a b waiting x (moved_to x registers flags place) → Kept free x.registers registers
        → b + c ≤ most → Comes free (moved_to x registers flags place) [] c t rest o
        → Comes free x waiting most t rest o
    comes_after free x registers flags place waiting a b c most t rest (gives v u) p k le s =
        (s.0, yields_after free x registers flags place waiting a b c most v rest p k le s.1)
    comes_after free x registers flags place waiting a b c most t rest (stops why u) p k le s =
        (s.0, halts_after x registers flags place waiting a b c most why p le s.1)
    comes_after free x registers flags place waiting a b c most t rest (spent u) p k le s = absurd s

    -- ---- a check that a register has a fixnum

    pub fixnum_checked : (r : ℕ) (v : Value) (next : ℤ → Action Value) (x : View) (waiting : List MarkKind) (c : ℕ)
        (t : Store) (code rest : List Item) → IsWord parts v (x.registers r)
        → Stands setting waiting x.place (check_fixnum r code) →
        ((n : ℤ) (tag : ℕ) (flags : Flags) (place : ℕ) → FixnumWord n (x.registers r) → Stands setting [] place code
        → Comes is_free (tagged x r tag flags place) [] c t rest (next n t)) →
        Comes is_free x waiting (c + 3) t rest (as_fixnum v next t)
    fixnum_checked r v next x waiting c t code rest hv h K = by v hv
      where
        m : Masked x r 8 waiting (JumpIf NE (stop_label WrongType) ∷ code)
        m = masked x r 7 8 waiting (JumpIf NE (stop_label WrongType) ∷ code) by_7 h

        y : View
        y = tagged x r m.tag (bits_of m.tag).flags m.place

        at : (b : Bool) → (x.registers r % 8 == 0) ≡ b → condition (bits_of m.tag).flags NE ≡ Some (not b)
        at b e = on_ne (bits_of m.tag).flags ∙ ap (λ k. Some (not (k == 0))) m.tag_is ∙ ap (λ b. Some (not b)) e

        wrong : (x.registers r % 8 == 0) ≡ false → Halts x waiting (c + 3) WrongType
        wrong e = record {
          registers = y.registers;
          flags = y.flags;
          least = 3;
          steps = 3;
          leads = leads_on setting.marks m.leads (branches setting y NE (stop_label WrongType) code [] true m.ahead
              (at false e));
          few = omega arith;
        }

        by : (v : Value) → IsWord parts v (x.registers r) → Comes is_free x waiting (c + 3) t rest (as_fixnum v next t)
        by (fixnum n) hv =
            comes_after is_free x y.registers y.flags (m.place + m.ahead.0) waiting 3 3 c (c + 3) t rest (next n t)
            (leads_on setting.marks m.leads (branches setting y NE (stop_label WrongType) code [] false m.ahead
            (at true (integer_tested parts (fixnum n) _ hv))))
            (kept_tag x.registers (x.registers r) m.tag) (omega arith)
            (K n m.tag y.flags (m.place + m.ahead.0) hv m.ahead.4)
        by (character n) hv = (refl, wrong (integer_tested parts (character n) _ hv))
        by (boolean n) hv = (refl, wrong (integer_tested parts (boolean n) _ hv))
        by nil hv = (refl, wrong (integer_tested parts nil _ hv))
        by unspecified hv = (refl, wrong (integer_tested parts unspecified _ hv))
        by (symbol n) hv = (refl, wrong (integer_tested parts (symbol n) _ hv))
        by (object n) hv = (refl, wrong (integer_tested parts (object n) _ hv))
        by (procedure n) hv = (refl, wrong (integer_tested parts (procedure n) _ hv))
        by (cell n) hv = (refl, wrong (integer_tested parts (cell n) _ hv))

    -- ---- a check that RAX has a character

    pub character_checked : (v : Value) (next : ℕ → Action Value) (x : View) (waiting : List MarkKind) (c : ℕ)
        (t : Store) (code rest : List Item) → IsWord parts v (x.registers 0)
        → Stands setting waiting x.place (check_character code) →
        ((byte : ℕ) (tag : ℕ) (flags : Flags) (place : ℕ) → IsWord parts (character byte) (x.registers 0)
        → Stands setting [] place code → Comes is_free (tagged x 0 tag flags place) [] c t rest (next byte t)) →
        Comes is_free x waiting (c + 4) t rest (as_character v next t)
    character_checked v next x waiting c t code rest hv h K = by v hv
      where
        m : Masked x 0 256 waiting (Plain (CmpNumber (Reg 2) (pos 46)) ∷ (JumpIf NE (stop_label WrongType) ∷ code))
        m = masked x 0 255 256 waiting (Plain (CmpNumber (Reg 2) (pos 46)) ∷
            (JumpIf NE (stop_label WrongType) ∷ code)) by_255 h

        y : View
        y = tagged x 0 m.tag (bits_of m.tag).flags m.place

        z : View
        z = tagged x 0 m.tag (difference_of m.tag 46).flags (m.place + m.ahead.0)

        compared : Leads setting 3 3 waiting x z
        compared = leads_on setting.marks m.leads (goes setting y z (CmpNumber (Reg 2) (pos 46)) m.ahead.0 []
            m.ahead.1 refl)

        at : (b : Bool) → (x.registers 0 % 256 == 46) ≡ b → condition z.flags NE ≡ Some (not b)
        at b e = compared_ne m.tag 46 (let i = m.tag_is in omega (arith, i)) (omega arith)
            ∙ ap (λ k. Some (not (k == 46))) m.tag_is ∙ ap (λ b. Some (not b)) e

        wrong : (x.registers 0 % 256 == 46) ≡ false → Halts x waiting (c + 4) WrongType
        wrong e = record {
          registers = z.registers;
          flags = z.flags;
          least = 4;
          steps = 4;
          leads = leads_on setting.marks compared (branches setting z NE (stop_label WrongType) code [] true m.ahead.2
              (at false e));
          few = omega arith;
        }

        by : (v : Value) → IsWord parts v (x.registers 0) → Comes is_free x waiting (c + 4) t rest
            (as_character v next t)
        by (character n) hv =
            comes_after is_free x z.registers z.flags (z.place + m.ahead.2.0) waiting 4 4 c (c + 4) t rest (next n t)
            (leads_on setting.marks compared (branches setting z NE (stop_label WrongType) code [] false m.ahead.2
            (at true (character_tested parts (character n) _ hv))))
            (kept_tag x.registers (x.registers 0) m.tag) (omega arith)
            (K n m.tag z.flags (z.place + m.ahead.2.0) hv m.ahead.2.4)
        by (fixnum n) hv = (refl, wrong (character_tested parts (fixnum n) _ hv))
        by (boolean n) hv = (refl, wrong (character_tested parts (boolean n) _ hv))
        by nil hv = (refl, wrong (character_tested parts nil _ hv))
        by unspecified hv = (refl, wrong (character_tested parts unspecified _ hv))
        by (symbol n) hv = (refl, wrong (character_tested parts (symbol n) _ hv))
        by (object n) hv = (refl, wrong (character_tested parts (object n) _ hv))
        by (procedure n) hv = (refl, wrong (character_tested parts (procedure n) _ hv))
        by (cell n) hv = (refl, wrong (character_tested parts (cell n) _ hv))

    -- ---- a boolean, by a condition

    pub booleans : (x : View) (n c : ℕ) (b : Bool) (waiting : List MarkKind) (rest : List Item)
        → condition x.flags c ≡ Some b → Stands setting waiting x.place (boolean_code n c rest)
        → Yields is_free x waiting 3 (boolean b) rest
    booleans x n c b waiting rest e h = by b e
      where
        y : View
        y = record x { registers = set_register x.registers 0 true_word; place = x.place + h.0 }

        first : Leads setting 1 1 waiting x y
        first = goes setting x y (MovNumber (Reg 0) (pos true_word)) h.0 waiting h.1 refl

        by : (b : Bool) → condition x.flags c ≡ Some b → Yields is_free x waiting 3 (boolean b) rest
        by true e = record {
          registers = y.registers;
          flags = y.flags;
          place = place_of n;
          least = 2;
          steps = 2;
          leads = leads_on setting.marks first (branches setting y c n
              (Plain (MovNumber (Reg 0) (pos false_word)) ∷ (Label n ∷ rest)) [] true h.2 e);
          few = omega arith;
          kept = kept_set is_free x.registers 0 true_word refl;
          value = refl;
          ahead = subst (λ a. Stands setting [] a rest) (sym h.2.4.2.1) h.2.4.2.2;
        }
        by false e =
            let z : View = record y { place = y.place + h.2.0 } in
            let u : View = record z { registers = set_register z.registers 0 false_word; place = z.place + h.2.4.0 } in
            record {
              registers = u.registers;
              flags = u.flags;
              place = u.place;
              least = 3;
              steps = 3;
              leads = leads_on setting.marks (leads_on setting.marks first
                  (branches setting y c n (Plain (MovNumber (Reg 0) (pos false_word)) ∷ (Label n ∷ rest)) [] false h.2
                  e)) (goes setting z u (MovNumber (Reg 0) (pos false_word)) h.2.4.0 [] h.2.4.1 refl);
              few = omega arith;
              kept = kept_then is_free x.registers y.registers u.registers
                  (kept_set is_free x.registers 0 true_word refl) (kept_set is_free y.registers 0 false_word refl);
              value = refl;
              ahead = h.2.4.2.2;
            }

    -- whether the low bits of RAX are these
    pub tests : (x : View) (n mask size tag : ℕ) (b : Bool) (waiting : List MarkKind) (rest : List Item)
        → ((w : ℕ) → bit_and w mask ≡ w % size) → size ≤ 256 → 0 < size → tag < 256
        → (x.registers 0 % size == tag) ≡ b → Stands setting waiting x.place (test_code n mask tag rest)
        → Yields is_free x waiting 6 (boolean b) rest
    tests x n mask size tag b waiting rest is small some low e h =
        let m = masked x 0 mask size waiting (Plain (CmpNumber (Reg 2) (pos tag)) ∷ boolean_code n E rest) is h in
        let y : View = tagged x 0 m.tag (bits_of m.tag).flags m.place in
        let z : View = tagged x 0 m.tag (difference_of m.tag tag).flags (m.place + m.ahead.0) in
        let lt : m.tag < 2 ^ 64 = (let i = m.tag_is in let k = mod-lt (x.registers 0) some in omega
        (arith, i, k, small)) in
        let at : condition z.flags E ≡ Some b = compared_e m.tag tag lt (omega (arith, low))
        ∙ ap (λ k. Some (k == tag)) m.tag_is ∙ ap Some e in
        yields_after is_free x z.registers z.flags z.place waiting 3 3 3 6 (boolean b) rest
        (leads_on setting.marks m.leads (goes setting y z (CmpNumber (Reg 2) (pos tag)) m.ahead.0 [] m.ahead.1 refl))
        (kept_tag x.registers (x.registers 0) m.tag) (omega arith)
        (booleans z n E b [] rest at m.ahead.2)

    -- ---- the end of what computes a fixnum

    pub ends_fixnum : (n : ℤ) (c : Computed) (x : View) (waiting : List MarkKind) (t : Store) (rest : List Item)
        → Computes n c → x.registers 0 ≡ c.value → x.flags ≡ c.flags
        → Stands setting waiting x.place (overflow_code rest) → Comes is_free x waiting 1 t rest (fixnum_or_stop n t)
    ends_fixnum n c x waiting t rest h value flags st = by (is_fixnum n) refl
      where
        at : (b : Bool) → is_fixnum n ≡ b → condition x.flags O ≡ Some (not b)
        at b e = ap (λ f. condition f O) flags ∙ on_o c.flags ∙ h.flag ∙ ap (λ b. Some (not b)) e

        by : (b : Bool) → is_fixnum n ≡ b → Comes is_free x waiting 1 t rest (require b Overflow (gives (fixnum n)) t)
        by true e = (
          refl,
          record {
            registers = x.registers;
            flags = x.flags;
            place = x.place + st.0;
            least = 1;
            steps = 1;
            leads = branches setting x O (stop_label Overflow) rest waiting false st (at true e);
            few = omega arith;
            kept = λ r f. refl;
            value = subst (FixnumWord n) (sym value) (h.value e);
            ahead = st.4;
          },
        )
        by false e = (
          refl,
          record {
            registers = x.registers;
            flags = x.flags;
            least = 1;
            steps = 1;
            leads = branches setting x O (stop_label Overflow) rest waiting true st (at false e);
            few = omega arith;
          },
        )

-- numbers are compared by their offsets from one that neither is below
pub offset_compared : (a b from : ℕ) → from ≤ a → from ≤ b → nat_le (a - from) (b - from) ≡ nat_le a b
offset_compared a b from low low' = by (nat_le a b) refl
  where
    by : (t : Bool) → nat_le a b ≡ t → nat_le (a - from) (b - from) ≡ nat_le a b
    by true e = le-leb (a - from) (b - from) (let l = leb-true a b e in omega (arith, l, low, low')) ∙ sym e
    by false e = lt-leb (a - from) (b - from) (let l = leb-false a b e in omega (arith, l, low, low')) ∙ sym e
