use Rattle.std.proofs.Common.{◌≡◌, ◌∙◌, ◌++◌, ℕ, List, ap, append_assoc}
use Rattle.std.specs.Prelude.{codes}
use Rattle.sch_listing.specs.Lines.{head_text, number_line}
use Rattle.sch_listing.proofs.printing.write_head.Goals as goal

-- three parts, one behind the other
three_parts : (out one two three x y z : List ℕ) → one ≡ out ++ x → two ≡ one ++ y → three ≡ two ++ z → three ≡ out ++ (x ++ (y ++ z))
three_parts out one two three x y z first second third =
    third ∙ ap (λ text. text ++ z) (second ∙ ap (λ text. text ++ y) first) ∙ append_assoc (out ++ x) y z ∙ append_assoc out x (y ++ z)

pub returns : goal.returns
unfolding head_text
returns c = three_parts c.args.out.now c.extend_from_slice.new.self c.write_number_line.new.out c.write_number_line-2.new.out
    (codes "schc listing 1\n") (number_line (codes "frame") c.args.frame_words) (number_line (codes "instructions") c.args.instructions)
    c.in_ok-extend_from_slice.ensures.ok c.in_ok-write_number_line.ensures c.in_ok-write_number_line-2.ensures
