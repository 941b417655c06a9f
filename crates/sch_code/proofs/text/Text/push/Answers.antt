use Rattle.std.proofs.Common.{◌≡◌, ◌+◌, ◌∷◌, [], ◌++◌, length, take, refl, sym, ap, ◌∙◌, arith}
use Rattle.std.proofs.lemmas.List.{length-take-le}
use Rattle.sch_insn.specs.Spelling.{spelling}
use Rattle.sch_insn.proofs.PrefixCode.{spelling_short}
use Rattle.sch_code.proofs.Spelled.{Overwritten, few, front_kept, front_within, pushed, text_more}
use Rattle.sch_code.proofs.text.Text.push.Goals as goal

pub overflow_add-self : goal.overflow_add-self
overflow_add-self c =
    let size = spelling_short c.args.i.now in
    record { fits = omega (arith, size, c.encode-size.ensures.length, c.self.invariant.1, c.self.inside.bytes.ok.0, c.self.inside.bytes.ok.1, c.self.inside.bytes.small) }

pub overflow_add-self-2 : goal.overflow_add-self-2
overflow_add-self-2 c =
    let front = take c.self.inside.len c.self.inside.bytes.items in
    let n = few front c.self.inside.count c.self.invariant.0 in
    let l = length-take-le c.self.inside.len c.self.inside.bytes.items c.self.invariant.1 in
    record { fits = omega (arith, n, l, c.self.invariant.1, c.self.inside.bytes.ok.0, c.self.inside.bytes.ok.1, c.self.inside.bytes.small) }

pub invariant_of-self-2 : goal.invariant_of-self-2
invariant_of-self-2 c =
    let front = take c.self.inside.len c.self.inside.bytes.items in
    let h : Overwritten c.overwrite.new.bytes.items front c.whole.result.now c.encode-size.new.to c.self.inside.len 16 c.encode-size.result = record {
      put = c.in_ok-overwrite.ensures.ok;
      front = c.whole.ensures;
      count = c.encode-size.ensures.length ∙ sym (ap length c.encode-size.ensures.spelled);
      place = length-take-le c.self.inside.len c.self.inside.bytes.items c.self.invariant.1;
      few = omega (arith, spelling_short c.args.i.now, c.encode-size.ensures.length);
    } in
    let kept : take (c.self.inside.len + c.encode-size.result) c.overwrite.new.bytes.items ≡ front ++ spelling c.args.i.now =
    front_kept _ _ _ _ _ _ _ h ∙ ap (λ l. front ++ l) c.encode-size.ensures.spelled in
    (text_more front _ c.self.inside.count _ c.args.i.now c.self.invariant.0 c.requires.valid kept refl, front_within _ _ _ _ _ _ _ h)

pub returns-clause-ok : goal.returns-clause-ok
returns-clause-ok c =
    let front = take c.self.inside.len c.self.inside.bytes.items in
    let h : Overwritten c.overwrite.new.bytes.items front c.whole.result.now c.encode-size.new.to c.self.inside.len 16 c.encode-size.result = record {
      put = c.in_ok-overwrite.ensures.ok;
      front = c.whole.ensures;
      count = c.encode-size.ensures.length ∙ sym (ap length c.encode-size.ensures.spelled);
      place = length-take-le c.self.inside.len c.self.inside.bytes.items c.self.invariant.1;
      few = omega (arith, spelling_short c.args.i.now, c.encode-size.ensures.length);
    } in
    let kept : take (c.self.inside.len + c.encode-size.result) c.overwrite.new.bytes.items ≡ front ++ spelling c.args.i.now =
    front_kept _ _ _ _ _ _ _ h ∙ ap (λ l. front ++ l) c.encode-size.ensures.spelled in
    pushed front _ c.self.inside.count c.args.i.now c.self.invariant.0 c.requires.valid kept ∙ ap (λ l. l ++ c.args.i.now ∷ []) c.self.view_is
