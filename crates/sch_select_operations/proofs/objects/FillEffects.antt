-- What a new vector or string is checked for, how many bytes it takes, and what is left by the routine that fills it.
use Rattle.std.proofs.Common.{◌≡◌, ℕ, ◌+◌, ◌-◌, ◌*◌, ◌/◌, ◌%◌, ◌^◌, ◌<◌, ◌≤◌, List, [], length, take, drop}
use Rattle.std.proofs.Common.{Bool, true, false, Some, refl, sym, ap, ◌∙◌, arith, ⊎_elim, ◌==◌, ◌||◌}
use Rattle.std.specs.Prelude.{ℤ, ◌≤ℤ◌, pos, negsuc, not, nat_abs, nat_le, int_lt}
use Rattle.std.proofs.lemmas.Int.{ints}
use Rattle.std.proofs.lemmas.List.{drop-drop}
use Rattle.sch_word.specs.declared.stop.Stop.TheVariants.{OutOfRange, HeapLimit}
use Rattle.sch_word.specs.values.PrimitiveRows.{is_natural}
use Rattle.sch_word.specs.runs.Charges.{rounded}
use Rattle.sch_word.specs.runs.ProgramLayout.{data_address}
use Rattle.sch_word.proofs.facts.Lists.{piece_within}
use Rattle.sch_insn.specs.declared.condition.TheConstants.{A, L}
use Rattle.sch_insn.specs.declared.insn.Arg.TheVariants.{Reg}
use Rattle.sch_insn.specs.declared.insn.Insn.TheVariants.{MovTo, AddTo, AddNumber, SubNumber, CmpNumber, Shl, Shr}
use Rattle.sch_insn.specs.declared.state.Flags.{Flags}
use Rattle.sch_insn.specs.Machine.{set_register, sum_of, difference_of, condition, unknown_flags}
use Rattle.sch_insn.proofs.Conditions.{compared_a}
use Rattle.sch_insn.proofs.Paths.{leads_on}
use Rattle.sch_asm.specs.declared.item.Item.{Item}
use Rattle.sch_asm.specs.Stands.{Stands}
use Rattle.sch_asm.specs.Data.{FixnumWord}
use Rattle.sch_asm.specs.Views.{View, Leads}
use Rattle.sch_asm.proofs.EachItem.{goes, branches, jumps}
use Rattle.sch_select_memory.proofs.heap.Comparisons.{at_most_is, tests_less}
use Rattle.sch_select_memory.proofs.heap.Signs.{low_word}
use Rattle.sch_select_memory.proofs.heap.Quotients.{positive_word}
use Rattle.sch_select_memory.proofs.heap.Ranges.{piece_in}
use Rattle.sch_select_memory.specs.Checks.{round_code}
use Rattle.sch_select_memory.specs.Addresses.{heap_offset, stop_label}
use Rattle.sch_select_memory.specs.MakeCode.{check_length, check_room, fill_code}
use Rattle.sch_select_memory.proofs.Straight.{Halts, Kept, kept_set, kept_then, moved_to, offset_compared}
use Rattle.sch_select_memory.proofs.Places.{Plan}
use Rattle.sch_select_memory.proofs.HeapWrites.{Wrote}
use Rattle.sch_select_operations.proofs.objects.Indices.{Ranged}

-- ---- a length, as a number

twice : (b : Bool) → not (not b) ≡ b
twice true = refl
twice false = refl

pub length_word : (n : ℤ) (x : ℕ) → FixnumWord n x → is_natural n ≡ true
    → (x ≡ 8 * nat_abs n) × (nat_abs n < 1152921504606846976)
length_word (pos m) x h e =
    let le : pos m ≤ℤ pos 1152921504606846975 = h.range.high in (low_word m x h, omega (arith, ints, le))
length_word (negsuc m) x h e = absurd (let bad : false ≡ true = e in cc)

-- ---- the bytes of an object, by shifts, from those of its elements

pub rounded_by_shifts : (m : ℕ) → m < 9223372036854775808
    → (m + 23) % 2 ^ 64 / 2 ^ 4 * 2 ^ 4 % 2 ^ 64 ≡ rounded (8 + m)
rounded_by_shifts m lt = omega (arith, lt)

pub rounded_low : (m : ℕ) → 8 + m ≤ rounded (8 + m)
rounded_low m = omega arith

pub rounded_high : (m : ℕ) → rounded (8 + m) ≤ 23 + m
rounded_high m = omega arith

-- ---- what a fill leaves, by pieces

pub filled_wrote : (from to : ℕ) (before after : List ℕ) → data_address ≤ from → from ≤ to
    → length after ≡ length before → take (from - data_address) after ≡ take (from - data_address) before
    → drop (to - data_address) after ≡ drop (to - data_address) before → Wrote from to before after
filled_wrote from to before after low up size front behind = record {
  size = size;
  pieces = λ a n l far. ⊎_elim (λ le. in_front a n l le) (λ le. at_end a n l le) far;
}
  where
    in_front : (a n : ℕ) → data_address ≤ a → a + n ≤ from → piece_in after a n ≡ piece_in before a n
    in_front a n l le =
        let j = a - data_address in let k = from - data_address in
        let within : j + n ≤ k = omega (arith, l, le) in
        sym (piece_within after j n k within) ∙ ap (λ xs. take n (drop j xs)) front ∙ piece_within before j n k within

    at_end : (a n : ℕ) → data_address ≤ a → to ≤ a → piece_in after a n ≡ piece_in before a n
    at_end a n l le =
        let k = a - to in
        let at : (to - data_address) + k ≡ a - data_address = omega (arith, l, le, low, up) in
        let cut : (xs : List ℕ) → drop (a - data_address) xs ≡ drop k (drop (to - data_address) xs) =
        λ xs. ap (λ n. drop n xs) (sym at) ∙ sym (drop-drop k (to - data_address) xs) in
        ap (take n) (cut after ∙ ap (drop k) behind ∙ sym (cut before))

module _ (plan : Plan) where
  open plan use {setting, stack, near}

  abbrev Here : ℕ → List Item → Type 0
  Here a is = Stands setting [] a is

  -- ---- a length that is not negative

  pub length_decided : (x : View) (n : ℤ) (rest : List Item) → FixnumWord n (x.registers 0)
      → Here x.place (check_length rest) → Ranged setting (is_natural n) x rest
  length_decided x n rest hn h = by (is_natural n)
      (tests_less n (pos 0) (x.registers 0) 0 hn (positive_word 0 (omega arith))
      ∙ ap Some (sym (ap not (at_most_is n (pos 0)) ∙ twice (int_lt n (pos 0)))))
    where
      y : View
      y = moved_to x x.registers (difference_of (x.registers 0) 0).flags (x.place + h.0)

      first : Leads setting 1 1 [] x y
      first = goes setting x y (CmpNumber (Reg 0) (pos 0)) h.0 [] h.1 refl

      by : (b : Bool) → condition y.flags L ≡ Some (not b) → Ranged setting b x rest
      by true e = record {
        flags = y.flags;
        place = y.place + h.2.0;
        leads = leads_on setting.marks first (branches setting y L (stop_label OutOfRange) rest [] false h.2 e);
        ahead = h.2.4;
      }
      by false e = record {
        registers = x.registers;
        flags = y.flags;
        least = 2;
        steps = 2;
        leads = leads_on setting.marks first (branches setting y L (stop_label OutOfRange) rest [] true h.2 e);
        few = omega arith;
      }

  -- ---- its bytes into RDX

  pub record Rounded (z : View) (m : ℕ) (following : List Item) : Type 0 where
    pub registers : ℕ → ℕ
    pub flags : Flags
    pub place : ℕ
    pub leads : Leads setting 3 3 [] z (moved_to z registers flags place)
    pub bytes_are : registers 2 ≡ rounded (8 + m)
    pub kept : Kept (λ r. r == 2) z.registers registers
    pub ahead : Here place following

  pub round_here : (z : View) (m : ℕ) (following : List Item) → z.registers 2 ≡ m → m < 9223372036854775808
      → Here z.place (round_code following) → Rounded z m following
  round_here z m following is lt h =
      let s = sum_of (z.registers 2) 23 in
      let q = s.value / 2 ^ 4 in
      let r = q * 2 ^ 4 % 2 ^ 64 in
      let z1 = moved_to z (set_register z.registers 2 s.value) s.flags (z.place + h.0) in
      let z2 = moved_to z (set_register z1.registers 2 q) unknown_flags (z1.place + h.2.0) in
      let z3 = moved_to z (set_register z2.registers 2 r) unknown_flags (z2.place + h.2.2.0) in
      record {
        registers = z3.registers;
        flags = z3.flags;
        place = z3.place;
        leads = leads_on setting.marks (leads_on setting.marks
            (goes setting z z1 (AddNumber (Reg 2) (pos 23)) h.0 [] h.1 refl)
            (goes setting z1 z2 (Shr (Reg 2) 4) h.2.0 [] h.2.1 refl))
            (goes setting z2 z3 (Shl (Reg 2) 4) h.2.2.0 [] h.2.2.1 refl);
        bytes_are = ap (λ k. (k + 23) % 2 ^ 64 / 2 ^ 4 * 2 ^ 4 % 2 ^ 64) is ∙ rounded_by_shifts m lt;
        kept = kept_then (λ r. r == 2) z.registers z1.registers z3.registers
            (kept_set (λ r. r == 2) z.registers 2 s.value refl)
            (kept_then (λ r. r == 2) z1.registers z2.registers z3.registers
            (kept_set (λ r. r == 2) z1.registers 2 q refl) (kept_set (λ r. r == 2) z2.registers 2 r refl));
        ahead = h.2.2.2;
      }

  -- ---- room for them

  pub record Room (z : View) (following : List Item) : Type 0 where
    pub registers : ℕ → ℕ
    pub flags : Flags
    pub place : ℕ
    pub leads : Leads setting 7 7 [] z (moved_to z registers flags place)
    pub kept : Kept (λ r. r == 2) z.registers registers
    pub ahead : Here place following

  abbrev pub Tested : Bool → View → List Item → Type 0
  Tested true z following = Room z following
  Tested false z following = Halts setting z [] 7 HeapLimit

  pub room_tested_here : (next m : ℕ) (z : View) (following : List Item) → z.registers 2 ≡ m → z.registers 12 ≡ next
      → data_address ≤ next → next ≤ stack → m < 9223372036854775808 → Here z.place (round_code (check_room stack following))
      → Tested (nat_le (next + rounded (8 + m)) stack) z following
  room_tested_here next m z following is at above low lt h = by (nat_le (next + rounded (8 + m)) stack) refl
    where
      r : Rounded z m (check_room stack following)
      r = round_here z m (check_room stack following) is lt h

      y : View
      y = moved_to z r.registers r.flags r.place

      i : Here r.place (check_room stack following)
      i = r.ahead

      sum : ℕ
      sum = (sum_of (r.registers 2) (r.registers 12)).value

      y1 : View
      y1 = moved_to z (set_register r.registers 2 sum) (sum_of (r.registers 2) (r.registers 12)).flags (r.place + i.0)

      room : ℕ
      room = (difference_of sum data_address).value

      y2 : View
      y2 = moved_to z (set_register y1.registers 2 room) (difference_of sum data_address).flags (y1.place + i.2.0)

      y3 : View
      y3 = moved_to z y2.registers (difference_of room (heap_offset stack)).flags (y2.place + i.2.2.0)

      free : r.registers 12 ≡ next
      free = r.kept 12 refl ∙ at

      size : r.registers 2 ≡ rounded (8 + m)
      size = r.bytes_are

      fits : next + rounded (8 + m) < 2 ^ 64
      fits = let n = near in let u = rounded_high m in omega (arith, low, lt, n, u)

      sum_is : sum ≡ next + rounded (8 + m)
      sum_is = omega (arith, free, size, fits)

      room_is : room ≡ next + rounded (8 + m) - data_address
      room_is = omega (arith, sum_is, fits, above)

      kept : Kept (λ r. r == 2) z.registers y2.registers
      kept = kept_then (λ r. r == 2) z.registers r.registers y2.registers r.kept
          (kept_then (λ r. r == 2) r.registers y1.registers y2.registers (kept_set (λ r. r == 2) r.registers 2 sum refl)
          (kept_set (λ r. r == 2) y1.registers 2 room refl))

      first : Leads setting 6 6 [] z y3
      first = leads_on setting.marks (leads_on setting.marks (leads_on setting.marks r.leads
          (goes setting y y1 (AddTo (Reg 2) 12) i.0 [] i.1 refl))
          (goes setting y1 y2 (SubNumber (Reg 2) (pos data_address)) i.2.0 [] i.2.1 refl))
          (goes setting y2 y3 (CmpNumber (Reg 2) (pos (heap_offset stack))) i.2.2.0 [] i.2.2.1 refl)

      over : (b : Bool) → nat_le (next + rounded (8 + m)) stack ≡ b → condition y3.flags A ≡ Some (not b)
      over b e = compared_a room (heap_offset stack) (omega (arith, room_is, fits)) (let n = near in omega (arith, n))
          ∙ ap (λ k. Some (not (nat_le k (heap_offset stack)))) room_is
          ∙ ap (λ b. Some (not b)) (offset_compared (next + rounded (8 + m)) stack data_address (omega (arith, above)) (omega (arith, above, low)))
          ∙ ap (λ b. Some (not b)) e

      by : (b : Bool) → nat_le (next + rounded (8 + m)) stack ≡ b → Tested b z following
      by true e = record {
        registers = y2.registers;
        flags = y3.flags;
        place = y3.place + i.2.2.2.0;
        leads = leads_on setting.marks first (branches setting y3 A (stop_label HeapLimit) following [] false i.2.2.2
            (over true e));
        kept = kept;
        ahead = i.2.2.2.4;
      }
      by false e = record {
        registers = y2.registers;
        flags = y3.flags;
        least = 7;
        steps = 7;
        leads = leads_on setting.marks first (branches setting y3 A (stop_label HeapLimit) following [] true i.2.2.2
            (over false e));
        few = omega arith;
      }

  -- ---- where a fill begins, and how many elements it has

  pub record Aimed (z : View) (label next count : ℕ) : Type 0 where
    pub registers : ℕ → ℕ
    pub flags : Flags
    pub leads : Leads setting 5 5 [] z (moved_to z registers flags (setting.place_of label))
    pub address : registers 0 ≡ next + 8
    pub count_is : registers 2 ≡ count
    pub kept : Kept (λ r. (r == 0) || (r == 2)) z.registers registers

  pub aimed_here : (z : View) (label next count : ℕ) → z.registers 0 ≡ 8 * count → z.registers 12 ≡ next
      → next < 2 ^ 32 → Here z.place (fill_code label []) → Aimed z label next count
  aimed_here z label next count length_is at low h =
      let n = z.registers 0 / 2 ^ 3 in
      let s = sum_of (z.registers 12) 8 in
      let z1 = moved_to z (set_register z.registers 2 (z.registers 0)) z.flags (z.place + h.0) in
      let z2 = moved_to z (set_register z1.registers 2 n) unknown_flags (z1.place + h.2.0) in
      let z3 = moved_to z (set_register z2.registers 0 (z.registers 12)) unknown_flags (z2.place + h.2.2.0) in
      let z4 = moved_to z (set_register z3.registers 0 s.value) s.flags (z3.place + h.2.2.2.0) in
      let free : ℕ → Bool = λ r. (r == 0) || (r == 2) in
      record {
        registers = z4.registers;
        flags = z4.flags;
        leads = leads_on setting.marks (leads_on setting.marks (leads_on setting.marks (leads_on setting.marks
            (goes setting z z1 (MovTo (Reg 2) 0) h.0 [] h.1 refl)
            (goes setting z1 z2 (Shr (Reg 2) 3) h.2.0 [] h.2.1 refl))
            (goes setting z2 z3 (MovTo (Reg 0) 12) h.2.2.0 [] h.2.2.1 refl))
            (goes setting z3 z4 (AddNumber (Reg 0) (pos 8)) h.2.2.2.0 [] h.2.2.2.1 refl))
            (jumps setting z4 label [] [] h.2.2.2.2);
        address = omega (arith, at, low);
        count_is = omega (arith, length_is);
        kept = kept_then free z.registers z1.registers z4.registers
            (kept_set free z.registers 2 (z.registers 0) refl)
            (kept_then free z1.registers z2.registers z4.registers (kept_set free z1.registers 2 n refl)
            (kept_then free z2.registers z3.registers z4.registers
            (kept_set free z2.registers 0 (z.registers 12) refl) (kept_set free z3.registers 0 s.value refl)));
      }
