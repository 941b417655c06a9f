-- A register is tested for the tag of a kind of object.
use Rattle.std.proofs.Common.{◌≡◌, ℕ, ◌+◌, ◌%◌, ◌<◌, List, [], ◌∷◌, Bool, true, false, Some, refl, sym, ap, ◌∙◌, arith}
use Rattle.std.proofs.Common.{◌==◌}
use Rattle.std.specs.Prelude.{pos, not}
use Rattle.std.proofs.lemmas.Bool.{ne_eqb}
use Rattle.sch_word.specs.declared.stop.Stop.TheVariants.{WrongType}
use Rattle.sch_insn.specs.declared.condition.TheConstants.{NE}
use Rattle.sch_insn.specs.declared.insn.Arg.TheVariants.{Reg}
use Rattle.sch_insn.specs.declared.insn.Insn.TheVariants.{CmpNumber}
use Rattle.sch_insn.specs.declared.state.Flags.{Flags}
use Rattle.sch_insn.specs.Machine.{set_register, bits_of, difference_of, condition}
use Rattle.sch_insn.proofs.Conditions.{compared_ne}
use Rattle.sch_insn.proofs.Paths.{leads_on}
use Rattle.sch_asm.specs.declared.item.Item.{Item}
use Rattle.sch_asm.specs.declared.item.Item.TheVariants.{Plain, JumpIf}
use Rattle.sch_word.specs.declared.mark.MarkKind.{MarkKind}
use Rattle.sch_asm.specs.Stands.{Setting, Stands}
use Rattle.sch_asm.specs.Views.{View, Leads}
use Rattle.sch_asm.proofs.EachItem.{goes, branches}
use Rattle.sch_select_operations.specs.ObjectCode.{check_tag}
use Rattle.sch_select_memory.specs.Addresses.{stop_label}
use Rattle.sch_select_memory.proofs.Straight.{Halts, Kept, kept_set, kept_then, moved_to, Masked, masked}
use Rattle.sch_select_memory.proofs.Straight.{tagged, by_7}

-- one register that is among the free ones
pub one_of : (free : ℕ → Bool) (r : ℕ) (registers registers' : ℕ → ℕ) → free r ≡ true
    → Kept (λ k. k == r) registers registers' → Kept free registers registers'
one_of free r registers registers' s kept j e = kept j
    (ne_eqb j r (λ same. let bad : true ≡ false = sym s ∙ ap free (sym same) ∙ e in absurd cc))

module _ (setting : Setting) where
  -- the machine goes on, with another word in RDX alone
  pub record HasTag (x : View) (waiting : List MarkKind) (rest : List Item) : Type 0 where
    pub registers : ℕ → ℕ
    pub flags : Flags
    pub place : ℕ
    pub leads : Leads setting 4 4 waiting x (moved_to x registers flags place)
    pub kept : Kept (λ k. k == 2) x.registers registers
    pub ahead : Stands setting [] place rest

  abbrev pub TagTested : Bool → View → List MarkKind → List Item → Type 0
  TagTested true x waiting rest = HasTag x waiting rest
  TagTested false x waiting rest = Halts setting x waiting 4 WrongType

  pub tag_checked : (r tag : ℕ) (b : Bool) (x : View) (waiting : List MarkKind) (rest : List Item) → tag < 8
      → (x.registers r % 8 == tag) ≡ b → Stands setting waiting x.place (check_tag r tag rest)
      → TagTested b x waiting rest
  tag_checked r tag b x waiting rest low tested h = by b (at ∙ ap (λ b. Some (not b)) tested)
    where
      following : List Item
      following = Plain (CmpNumber (Reg 2) (pos tag)) ∷ (JumpIf NE (stop_label WrongType) ∷ rest)

      m : Masked setting x r 8 waiting following
      m = masked setting x r 7 8 waiting following by_7 h

      y : View
      y = tagged setting x r m.tag (bits_of m.tag).flags m.place

      z : View
      z = tagged setting x r m.tag (difference_of m.tag tag).flags (m.place + m.ahead.0)

      first : Leads setting 3 3 waiting x z
      first = leads_on setting.marks m.leads (goes setting y z (CmpNumber (Reg 2) (pos tag)) m.ahead.0 [] m.ahead.1
          refl)

      at : condition z.flags NE ≡ Some (not (x.registers r % 8 == tag))
      at = compared_ne m.tag tag (let i = m.tag_is in omega (arith, i)) (omega (arith, low))
          ∙ ap (λ k. Some (not (k == tag))) m.tag_is

      kept : Kept (λ k. k == 2) x.registers z.registers
      kept = kept_then (λ k. k == 2) x.registers (set_register x.registers 2 (x.registers r)) z.registers
          (kept_set (λ k. k == 2) x.registers 2 (x.registers r) refl)
          (kept_set (λ k. k == 2) (set_register x.registers 2 (x.registers r)) 2 m.tag refl)

      by : (b : Bool) → condition z.flags NE ≡ Some (not b) → TagTested b x waiting rest
      by true e = record {
        registers = z.registers;
        flags = z.flags;
        place = z.place + m.ahead.2.0;
        leads = leads_on setting.marks first (branches setting z NE (stop_label WrongType) rest [] false m.ahead.2 e);
        kept = kept;
        ahead = m.ahead.2.4;
      }
      by false e = record {
        registers = z.registers;
        flags = z.flags;
        least = 4;
        steps = 4;
        leads = leads_on setting.marks first (branches setting z NE (stop_label WrongType) rest [] true m.ahead.2 e);
        few = omega arith;
      }
