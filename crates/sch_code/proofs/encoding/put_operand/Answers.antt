use Rattle.std.proofs.Common.{◌≡◌, ◌∷◌, [], ◌++◌, length, rules, to_z, of_z, w8, w32, sym, ap, ◌∙◌, arith, append_assoc, length-append}
use Rattle.sch_insn.specs.Spelling.{modrm, sib, operand, one_byte, four_bytes}
use Rattle.sch_code.proofs.encoding.put_operand.Goals as goal

pub returns-in-Reg : goal.returns-in-Reg
returns-in-Reg c = record {
  spelled = c.put_modrm.ensures ∙ ap (λ m. c.args.to.now ++ operand c.args.r m) (sym c.in-Reg.is);
  short = omega (arith, ap length c.put_modrm.ensures, length-append c.args.to.now (modrm 3 c.args.r c.in-Reg.b ∷ []));
}

pub returns-in-Base : goal.returns-in-Base
returns-in-Base c = record {
  spelled = c.put_base.ensures.spelled ∙ ap (λ m. c.args.to.now ++ operand c.args.r m) (sym c.in-Base.is);
  short = omega (arith, c.put_base.ensures.short);
}

pub returns-in-Base8 : goal.returns-in-Base8
returns-in-Base8 c =
    let base = modrm 1 c.args.r c.in-Base8.b ∷ sib c.in-Base8.b in
    let tail = one_byte c.in-Base8.d in
    let same : to_z w8 (of_z w8 c.in-Base8.d) ≡ c.in-Base8.d = search rules in
    let put = rw same at c.put_i8.ensures in
    record {
      spelled = put ∙ ap (λ l. l ++ tail) c.put_base-in-Base8.ensures.spelled ∙ append_assoc c.args.to.now base tail ∙ ap (λ m. c.args.to.now ++ operand c.args.r m) (sym c.in-Base8.is);
      short = omega (arith, ap length put, length-append c.put_base-in-Base8.new.to tail, c.put_base-in-Base8.ensures.short);
    }

pub returns-in-Base32 : goal.returns-in-Base32
returns-in-Base32 c =
    let base = modrm 2 c.args.r c.in-Base32.b ∷ sib c.in-Base32.b in
    let tail = four_bytes c.in-Base32.d in
    let same : to_z w32 (of_z w32 c.in-Base32.d) ≡ c.in-Base32.d = search rules in
    let put = rw same at c.put_i32.ensures in
    record {
      spelled = put ∙ ap (λ l. l ++ tail) c.put_base-in-Base32.ensures.spelled ∙ append_assoc c.args.to.now base tail ∙ ap (λ m. c.args.to.now ++ operand c.args.r m) (sym c.in-Base32.is);
      short = omega (arith, ap length put, length-append c.put_base-in-Base32.new.to tail, c.put_base-in-Base32.ensures.short);
    }

pub returns-in-Rip : goal.returns-in-Rip
returns-in-Rip c =
    let base = modrm 0 c.args.r 5 ∷ [] in
    let tail = four_bytes c.in-Rip.d in
    let same : to_z w32 (of_z w32 c.in-Rip.d) ≡ c.in-Rip.d = search rules in
    let put = rw same at c.put_i32-in-Rip.ensures in
    record {
      spelled = put ∙ ap (λ l. l ++ tail) c.put_modrm-in-Rip.ensures ∙ append_assoc c.args.to.now base tail ∙ ap (λ m. c.args.to.now ++ operand c.args.r m) (sym c.in-Rip.is);
      short = omega (arith, ap length put, length-append c.put_modrm-in-Rip.new.to tail, ap length c.put_modrm-in-Rip.ensures, length-append c.args.to.now base);
    }
