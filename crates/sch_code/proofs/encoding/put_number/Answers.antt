use Rattle.std.proofs.Common.{◌≡◌, rules, to_z, of_z, w8, w32, sym, ap, ◌∙◌}
use Rattle.sch_insn.specs.Spelling.{spelling}
use Rattle.sch_code.proofs.encoding.put_number.Goals as goal

pub returns-in-AddNumber : goal.returns-in-AddNumber
returns-in-AddNumber c =
    let same : to_z w32 (of_z w32 c.in-AddNumber.n) ≡ c.in-AddNumber.n = search rules in (rw same at c.put_wide_and_4.ensures) ∙ ap spelling (sym c.in-AddNumber.is)

pub returns-in-OrNumber : goal.returns-in-OrNumber
returns-in-OrNumber c =
    let same : to_z w32 (of_z w32 c.in-OrNumber.n) ≡ c.in-OrNumber.n = search rules in (rw same at c.put_wide_and_4-in-OrNumber.ensures) ∙ ap spelling (sym c.in-OrNumber.is)

pub returns-in-AndNumber : goal.returns-in-AndNumber
returns-in-AndNumber c =
    let same : to_z w32 (of_z w32 c.in-AndNumber.n) ≡ c.in-AndNumber.n = search rules in (rw same at c.put_wide_and_4-in-AndNumber.ensures) ∙ ap spelling (sym c.in-AndNumber.is)

pub returns-in-SubNumber : goal.returns-in-SubNumber
returns-in-SubNumber c =
    let same : to_z w32 (of_z w32 c.in-SubNumber.n) ≡ c.in-SubNumber.n = search rules in (rw same at c.put_wide_and_4-in-SubNumber.ensures) ∙ ap spelling (sym c.in-SubNumber.is)

pub returns-in-XorNumber : goal.returns-in-XorNumber
returns-in-XorNumber c =
    let same : to_z w32 (of_z w32 c.in-XorNumber.n) ≡ c.in-XorNumber.n = search rules in (rw same at c.put_wide_and_4-in-XorNumber.ensures) ∙ ap spelling (sym c.in-XorNumber.is)

pub returns-in-CmpNumber : goal.returns-in-CmpNumber
returns-in-CmpNumber c =
    let same : to_z w32 (of_z w32 c.in-CmpNumber.n) ≡ c.in-CmpNumber.n = search rules in (rw same at c.put_wide_and_4-in-CmpNumber.ensures) ∙ ap spelling (sym c.in-CmpNumber.is)

pub returns-in-AddNumber8 : goal.returns-in-AddNumber8
returns-in-AddNumber8 c =
    let same : to_z w8 (of_z w8 c.in-AddNumber8.n) ≡ c.in-AddNumber8.n = search rules in (rw same at c.put_wide_and_1.ensures) ∙ ap spelling (sym c.in-AddNumber8.is)

pub returns-in-OrNumber8 : goal.returns-in-OrNumber8
returns-in-OrNumber8 c =
    let same : to_z w8 (of_z w8 c.in-OrNumber8.n) ≡ c.in-OrNumber8.n = search rules in (rw same at c.put_wide_and_1-in-OrNumber8.ensures) ∙ ap spelling (sym c.in-OrNumber8.is)

pub returns-in-AndNumber8 : goal.returns-in-AndNumber8
returns-in-AndNumber8 c =
    let same : to_z w8 (of_z w8 c.in-AndNumber8.n) ≡ c.in-AndNumber8.n = search rules in (rw same at c.put_wide_and_1-in-AndNumber8.ensures) ∙ ap spelling (sym c.in-AndNumber8.is)

pub returns-in-SubNumber8 : goal.returns-in-SubNumber8
returns-in-SubNumber8 c =
    let same : to_z w8 (of_z w8 c.in-SubNumber8.n) ≡ c.in-SubNumber8.n = search rules in (rw same at c.put_wide_and_1-in-SubNumber8.ensures) ∙ ap spelling (sym c.in-SubNumber8.is)

pub returns-in-XorNumber8 : goal.returns-in-XorNumber8
returns-in-XorNumber8 c =
    let same : to_z w8 (of_z w8 c.in-XorNumber8.n) ≡ c.in-XorNumber8.n = search rules in (rw same at c.put_wide_and_1-in-XorNumber8.ensures) ∙ ap spelling (sym c.in-XorNumber8.is)

pub returns-in-CmpNumber8 : goal.returns-in-CmpNumber8
returns-in-CmpNumber8 c =
    let same : to_z w8 (of_z w8 c.in-CmpNumber8.n) ≡ c.in-CmpNumber8.n = search rules in (rw same at c.put_wide_and_1-in-CmpNumber8.ensures) ∙ ap spelling (sym c.in-CmpNumber8.is)
