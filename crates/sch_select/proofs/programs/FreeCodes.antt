-- What a covered body keeps to.
use Rattle.std.proofs.Common.{◌≡◌, true, ◌&&◌}
use Rattle.std.specs.List.{list_all}
use Rattle.std.proofs.lemmas.Bool.{and_parts}
use Rattle.sch_control.specs.Covered.{has_covered_formals}
use Rattle.sch_control.specs.CoveredOperands.{is_form}
use Rattle.sch_frames.specs.Covered.{instruction_low, is_covered_code, is_covered_instruction, marks_settled, may_stand, plain_instruction}
use Rattle.sch_frames.specs.Tree.{Code}

pub record IsFree (c : Code) : Type 0 where
  pub no_list : has_covered_formals c.entry ≡ true
  pub free : list_all is_covered_instruction c.instructions ≡ true
  pub low : list_all instruction_low c.instructions ≡ true
  pub stands : list_all (may_stand (is_form c.entry)) c.instructions ≡ true
  pub plain : list_all plain_instruction c.instructions ≡ true
  pub settled : marks_settled true c.instructions ≡ true

pub code_parts : (c : Code) → is_covered_code c ≡ true → IsFree c
code_parts c e =
    let p = and_parts (has_covered_formals c.entry) (list_all is_covered_instruction c.instructions
    && (list_all instruction_low c.instructions && (list_all (may_stand (is_form c.entry)) c.instructions
    && (list_all plain_instruction c.instructions && marks_settled true c.instructions)))) e in
    let q = and_parts (list_all is_covered_instruction c.instructions) (list_all instruction_low c.instructions
    && (list_all (may_stand (is_form c.entry)) c.instructions
    && (list_all plain_instruction c.instructions && marks_settled true c.instructions))) p.1 in
    let r = and_parts (list_all instruction_low c.instructions) (list_all (may_stand (is_form c.entry)) c.instructions
    && (list_all plain_instruction c.instructions && marks_settled true c.instructions)) q.1 in
    let s = and_parts (list_all (may_stand (is_form c.entry)) c.instructions)
    (list_all plain_instruction c.instructions && marks_settled true c.instructions) r.1 in
    let t = and_parts (list_all plain_instruction c.instructions) (marks_settled true c.instructions) s.1 in
    record { no_list = p.0; free = q.0; low = r.0; stands = s.0; plain = t.0; settled = t.1 }
