-- A program with its routines: what `resolve` answers, as the text of a machine.
use Rattle.std.proofs.Common.{ℕ, ◌+◌, ◌≤◌, List, [], ◌++◌, length, refl, sym, arith, append-nil}
use Rattle.std.specs.List.{flat_map}
use Rattle.std.specs.Prelude.{IsTrue, false}
use Rattle.sch_word.specs.runs.ProgramLayout.{data_address, text_address}
use Rattle.sch_insn.specs.declared.insn.Insn.{Insn}
use Rattle.sch_insn.specs.Spelling.{AllValid, spelling}
use Rattle.sch_asm.specs.declared.assembly.Word.{Word}
use Rattle.sch_asm.specs.declared.item.Item.{Item}
use Rattle.sch_asm.specs.declared.item.Mark as mark
use Rattle.sch_asm.specs.Items.{marks_arrive}
use Rattle.sch_asm.specs.Codes.{AreResolved}
use Rattle.sch_asm.specs.Stands.{Stands}
use Rattle.sch_asm.specs.Views.{text_at}
use Rattle.sch_asm.proofs.Standing.{arrive_append, resolved_stands, setting_of, stands_back, stands_front}

-- Two lists of items in one text: the first from 400000 hexadecimal on, where the text is entered, and the
-- second somewhere behind.
pub record Joined (xs ys : List Item) (code : List Insn) (marks : List mark.Mark) (place_of : ℕ → ℕ) : Type 0 where
  pub apart : text_address + length (flat_map spelling code) ≤ data_address
  pub first : Stands (setting_of (text_at (flat_map spelling code)) place_of marks apart) [] text_address xs
  pub second : (b : ℕ) × Stands (setting_of (text_at (flat_map spelling code)) place_of marks apart) [] b ys

pub joined : (xs ys : List Item) (ws : List Word) (code : List Insn) (marks : List mark.Mark) (words : List ℕ) (r : AreResolved (xs ++ ys) ws code marks words) → AllValid code → length (flat_map spelling code) ≤ 16777216 → IsTrue (marks_arrive false xs) → IsTrue (marks_arrive false ys) → Joined xs ys code marks r.place_of
joined xs ys ws code marks words r valid small arrive arrive' =
    let text = text_at (flat_map spelling code) in
    let apart : text_address + length (flat_map spelling code) ≤ data_address = omega (arith, small) in
    let setting = setting_of text r.place_of marks apart in
    let all = resolved_stands text r.place_of marks apart (xs ++ ys) code [] refl (sym (append-nil (flat_map spelling code))) valid (arrive_append xs ys false arrive arrive') r.codes in
    record {
      apart = apart;
      first = stands_front setting xs ys [] text_address all;
      second = stands_back setting xs ys [] text_address arrive all;
    }
