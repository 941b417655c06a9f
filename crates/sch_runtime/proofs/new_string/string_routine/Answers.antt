use Rattle.std.proofs.Common.{◌≡◌, ℕ, List, [], ◌∷◌, ◌++◌, ap, ◌∙◌, append_assoc, pos}
use Rattle.std.proofs.lemmas.Result.{on_ok_weaker}
use Rattle.sch_word.specs.declared.registers.TheConstants.{HEAP_REGISTER, RAX, RCX, RDX}
use Rattle.sch_insn.specs.declared.insn.Arg.TheVariants.{Reg}
use Rattle.sch_insn.specs.declared.insn.Insn.TheVariants.{MovTo, AddNumber, Shr}
use Rattle.sch_asm.specs.declared.item.Item.{Item}
use Rattle.sch_asm.specs.declared.item.Item.TheVariants as item
use Rattle.sch_asm.specs.declared.routine.Routine.TheVariants.{FillBytes}
use Rattle.sch_asm.specs.Routines.{label_of}
use Rattle.sch_select_memory.specs.Encoded.{character_shift, fixnum_shift}
use Rattle.sch_select_memory.specs.Addresses.{part_operand, string_label}
use Rattle.sch_select_memory.specs.Checks.{round_code}
use Rattle.sch_select_memory.specs.MakeCode.{check_filling, check_room, make_string_code}
use Rattle.sch_runtime.proofs.new_string.string_routine.Goals as goal

-- the bytes of the string
abbrev size_items : List Item
size_items = item.Plain (MovTo (Reg RDX) RAX) ∷ (item.Plain (Shr (Reg RDX) fixnum_shift) ∷ round_code [])

-- its length and its bytes, which a routine fills in
abbrev made_items : ℕ → List Item
made_items fill =
    item.Plain (MovTo (part_operand 0) RAX) ∷ (item.Plain (Shr (Reg RCX) character_shift)
    ∷ (item.Plain (MovTo (Reg RDX) RAX) ∷ (item.Plain (Shr (Reg RDX) fixnum_shift)
    ∷ (item.Plain (MovTo (Reg RAX) HEAP_REGISTER) ∷ (item.Plain (AddNumber (Reg RAX) (pos 8)) ∷ (item.Jump fill ∷ []))))))

-- a label and four parts, one behind the other
parts_joined : (a z b c d e : List Item) (heap_end entry fill : ℕ) → z ≡ a ++ item.Label entry ∷ [] → entry ≡ string_label
    → ((rest : List Item) → b ++ rest ≡ z ++ check_filling rest)
    → c ≡ b ++ size_items → ((rest : List Item) → d ++ rest ≡ c ++ check_room heap_end rest)
    → fill ≡ label_of FillBytes → e ≡ d ++ made_items fill → (rest : List Item) → e ++ rest ≡ a ++ item.Label string_label ∷ make_string_code heap_end rest
parts_joined a z b c d e heap_end entry fill at_z entered tested at_c room at_fill at_e rest =
    let made = made_items fill ++ rest in
    ap (λ l. l ++ rest) at_e ∙ append_assoc d (made_items fill) rest ∙ room made
    ∙ ap (λ l. l ++ check_room heap_end made) at_c ∙ append_assoc b size_items (check_room heap_end made)
    ∙ tested (size_items ++ check_room heap_end made)
    ∙ ap (λ l. l ++ check_filling (size_items ++ check_room heap_end made)) at_z
    ∙ append_assoc a (item.Label entry ∷ []) (check_filling (size_items ++ check_room heap_end made))
    ∙ ap (λ n. a ++ item.Label n ∷ check_filling (size_items ++ check_room heap_end made)) entered
    ∙ ap (λ l. a ++ item.Label string_label ∷ check_filling (size_items ++ check_room heap_end (made_items l ++ rest))) at_fill

pub returns : goal.returns
returns c =
    on_ok_weaker c.extend_from_slice-2.result
    (parts_joined c.args.out.now _ _ _ _ _ c.args.heap_end _ _ c.in_ok-push.ensures.ok c.label.ensures c.in_ok-check_filling.ensures
    c.in_ok-extend_from_slice.ensures.ok c.in_ok-check_room.ensures c.label-2.ensures) c.extend_from_slice-2.ensures.ok
