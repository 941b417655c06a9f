-- The heap is tested for room.
use Rattle.std.proofs.Common.{◌≡◌, ℕ, ◌+◌, ◌-◌, ◌≤◌, List, [], Bool, true, false}
use Rattle.std.proofs.Common.{Some, refl, ap, ◌∙◌, arith}
use Rattle.std.specs.Prelude.{pos, not, nat_le}
use Rattle.sch_word.specs.declared.stop.Stop.TheVariants.{HeapLimit}
use Rattle.sch_word.specs.runs.ProgramLayout.{data_address}
use Rattle.sch_insn.specs.declared.condition.TheConstants.{A}
use Rattle.sch_insn.specs.declared.insn.Arg.TheVariants.{Reg}
use Rattle.sch_insn.specs.declared.insn.Insn.TheVariants.{MovTo, SubNumber, CmpNumber}
use Rattle.sch_insn.specs.declared.state.Flags.{Flags}
use Rattle.sch_insn.specs.Machine.{set_register, difference_of, condition}
use Rattle.sch_insn.proofs.Conditions.{compared_a}
use Rattle.sch_insn.proofs.Paths.{leads_on}
use Rattle.sch_asm.specs.declared.item.Item.{Item}
use Rattle.sch_word.specs.declared.mark.MarkKind.{MarkKind}
use Rattle.sch_asm.specs.Stands.{Stands}
use Rattle.sch_asm.specs.Views.{View, Leads}
use Rattle.sch_asm.proofs.EachItem.{goes, branches}
use Rattle.sch_select_operations.specs.ObjectCode.{check_heap}
use Rattle.sch_select_memory.specs.Addresses.{heap_offset, stop_label}
use Rattle.sch_select_memory.proofs.Straight.{is_one, Halts, Kept, kept_set, kept_then, moved_to, offset_compared}
use Rattle.sch_select_memory.proofs.Places.{Plan}

module _ (plan : Plan) where
  open plan use {setting, stack, near}

  abbrev Std : List MarkKind → ℕ → List Item → Type 0
  Std waiting a is = Stands setting waiting a is

  -- RDX has where a new part would end
  pub record HasRoom (x : View) (waiting : List MarkKind) (rest : List Item) : Type 0 where
    pub registers : ℕ → ℕ
    pub flags : Flags
    pub place : ℕ
    pub leads : Leads setting 4 4 waiting x (moved_to x registers flags place)
    pub kept : Kept (is_one 2) x.registers registers
    pub ahead : Std [] place rest

  abbrev pub Tested : Bool → View → List MarkKind → List Item → Type 0
  Tested true x waiting rest = HasRoom x waiting rest
  Tested false x waiting rest = Halts setting x waiting 4 HeapLimit

  pub room_here : (next bytes : ℕ) (x : View) (waiting : List MarkKind) (rest : List Item) → x.registers 12 ≡ next
      → data_address ≤ next → next ≤ stack → bytes ≤ data_address → Std waiting x.place (check_heap stack bytes rest)
      → Tested (nat_le (next + bytes) stack) x waiting rest
  room_here next bytes x waiting rest at above low small h = by (nat_le (next + bytes) stack) refl
    where
      y : View
      y = moved_to x (set_register x.registers 2 (x.registers 12)) x.flags (x.place + h.0)

      sum : ℕ
      sum = (difference_of (x.registers 12) (data_address - bytes)).value

      z : View
      z = moved_to x (set_register y.registers 2 sum) (difference_of (x.registers 12) (data_address - bytes)).flags (y.place + h.2.0)

      u : View
      u = moved_to x z.registers (difference_of sum (heap_offset stack)).flags (z.place + h.2.2.0)

      sum_is : sum ≡ next + bytes - data_address
      sum_is = let n = plan.near in omega (arith, at, above, low, small, n)

      first : Leads setting 3 3 waiting x u
      first = leads_on setting.marks (leads_on setting.marks
          (goes setting x y (MovTo (Reg 2) 12) h.0 waiting h.1 refl)
          (goes setting y z (SubNumber (Reg 2) (pos (data_address - bytes))) h.2.0 [] h.2.1 refl))
          (goes setting z u (CmpNumber (Reg 2) (pos (heap_offset stack))) h.2.2.0 [] h.2.2.1 refl)

      kept : Kept (is_one 2) x.registers z.registers
      kept = kept_then (is_one 2) x.registers y.registers z.registers
          (kept_set (is_one 2) x.registers 2 (x.registers 12) refl) (kept_set (is_one 2) y.registers 2 sum refl)

      over : (b : Bool) → nat_le (next + bytes) stack ≡ b → condition u.flags A ≡ Some (not b)
      over b e = compared_a sum (heap_offset stack) (let n = plan.near in let s = sum_is in omega (arith, s, low, small, n))
          (let n = plan.near in omega (arith, n)) ∙ ap (λ k. Some (not (nat_le k (heap_offset stack)))) sum_is
          ∙ ap (λ b. Some (not b)) (offset_compared (next + bytes) stack data_address (omega (arith, above)) (omega (arith, above, low)))
          ∙ ap (λ b. Some (not b)) e

      by : (b : Bool) → nat_le (next + bytes) stack ≡ b → Tested b x waiting rest
      by true e = record {
        registers = z.registers;
        flags = u.flags;
        place = u.place + h.2.2.2.0;
        leads = leads_on setting.marks first (branches setting u A (stop_label HeapLimit) rest [] false h.2.2.2
            (over true e));
        kept = kept;
        ahead = h.2.2.2.4;
      }
      by false e = record {
        registers = z.registers;
        flags = u.flags;
        least = 4;
        steps = 4;
        leads = leads_on setting.marks first (branches setting u A (stop_label HeapLimit) rest [] true h.2.2.2
            (over false e));
        few = omega arith;
      }
