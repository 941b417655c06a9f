use Rattle.std.proofs.Common.{◌≡◌, ℕ, Bool, true, false, length, sym, ap, ◌∙◌, refl}
use Rattle.std.specs.Prelude.{not, nat_eq}
use Rattle.std.proofs.lemmas.Bool.{eqb-true}
use Rattle.sch_names.specs.NamesView.{names_of}
use Rattle.sch_sketch.specs.DraftView.{drafts_of}
use Rattle.sch_toplevel.specs.Assigned.{assigned_in_each}
use Rattle.sch_toplevel.proofs.WholeTexts.{firsts_same}
use Rattle.sch_toplevel.proofs.texts.adds_assigned.Goals as goal

no_differ : (a b : ℕ) → not (nat_eq a b) ≡ false → a ≡ b
no_differ a b h = go (nat_eq a b) refl h
  where
    go : (c : Bool) → nat_eq a b ≡ c → not c ≡ false → a ≡ b
    go true e k = eqb-true a b e
    go false e k = absurd (cc)

pub returns-clause-same : goal.returns-clause-same
returns-clause-same c = λ h.
    let e = c.in_ok-add_assigned_each.ensures in
    e ∙ firsts_same (names_of c.args.own.now) (assigned_in_each (drafts_of c.args.drafts.now)) (sym (ap (λ l. length l) e) ∙ (sym c.len.ensures ∙ (no_differ _ _ h ∙ c.len-defined.ensures)))
