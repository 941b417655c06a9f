-- The steps of the loops over definitions that name and number them, over plain values.
use Rattle.std.proofs.Common.{◌≡◌, ◌<◌, ◌≤◌, ◌+◌, ℕ, suc, List, [], ◌∷◌, ◌++◌, length, drop, get_or, map, None, refl, sym, ap, subst, ◌∙◌, add-one, append_assoc, arith}
use Rattle.std.proofs.lemmas.Bool.{and_from}
use Rattle.std.proofs.lemmas.List.{map-append, drop_all}
use Rattle.sch_word.specs.values.Literals.{Literal}
use Rattle.sch_lang.specs.declared.tree.Lambda.{Lambda}
use Rattle.sch_lang.specs.Tree.{Lambdas}
use Rattle.sch_lang.specs.View.{expression, function, lambdas_of}
use Rattle.sch_lang.proofs.ListViews.{lambdas_of_list}
use Rattle.sch_read.specs.Grammar.{Datum}
use Rattle.sch_sketch.specs.DraftMeasures.{size}
use Rattle.sch_sketch.specs.DraftView.{draft_of}
use Rattle.sch_link_tables.specs.Constants.{draft_in_range, HasConstants}
use Rattle.sch_link_tables.specs.Named.{firsts, globals_in, symbols_in}
use Rattle.sch_link_tables.specs.Numbered.{numbered}
use Rattle.sch_link_tables.specs.Quoted.{quotes_in}
use Rattle.sch_link_tables.specs.Room.{HasRoom}
use Rattle.sch_link_tables.specs.Sites.{widths}
use Rattle.sch_link_tables.specs.declared.tables.Output.{Output}
use Rattle.sch_link_tables.specs.Programs.{globals_of_each, symbols_of_each, quotes_of_each, widths_of_definitions, procedures}
use Rattle.sch_word.proofs.facts.Lists.{next_left}
use Rattle.sch_link_tables.proofs.FewNumbers.{room_within, room_after}
use Rattle.sch_link_tables.proofs.NameSteps.{firsts_append}
use Rattle.sch_link_tables.proofs.ProcedureLists.{onto, onto_none, onto_more}
use Rattle.sch_link_program.specs.declared.definition.KeptDefinition.{KeptDefinition}
use Rattle.sch_link_program.specs.Definitions.{kept_of, kept_definitions}
use Rattle.sch_link_program.specs.Ranged.{BodiesHaveConstants}
use Rattle.sch_link_program.specs.Size.{size_of_definitions}
use Rattle.sch_link_drafts.proofs.NumberSteps.{then_literals}

module _ (ds : List KeptDefinition) (i : ℕ) where
  pub no_definition : length ds ≤ i → kept_definitions (drop i ds) ≡ []
  no_definition l = ap kept_definitions (drop_all i ds l)

  module _ (d : KeptDefinition) (here : i < length ds) (is : d ≡ get_or ds i d) where
    next_definition : kept_definitions (drop i ds) ≡ kept_of d ∷ kept_definitions (drop (suc i) ds)
    next_definition = ap kept_definitions (next_left ds i d here is)

    -- there is room for the body of a definition, and behind it for the others
    module _ (out : Output) (r : HasRoom out (size_of_definitions (kept_definitions (drop i ds)))) where
      sizes : 1 + d.formals + size (draft_of d.body.now) + size_of_definitions (kept_definitions (drop (suc i) ds)) ≡ size_of_definitions (kept_definitions (drop i ds))
      sizes = ap size_of_definitions (sym next_definition)

      pub room_here : HasRoom out (size (draft_of d.body.now))
      room_here = room_within out (size (draft_of d.body.now)) r (omega (arith, sizes))

      pub next_room : (out' : Output) → length out'.sites ≡ length out.sites + length (widths (draft_of d.body.now)) → length out'.literals ≡ length out.literals + length (quotes_in (draft_of d.body.now)) →
          HasRoom out' (size_of_definitions (kept_definitions (drop (i + 1) ds)))
      next_room out' s l =
          rw add-one (room_after out out' (size_of_definitions (kept_definitions (drop (suc i) ds))) r (draft_of d.body.now) s l (omega (arith, sizes)))

    pub next_globals : (none seen seen' r : List (List ℕ)) → none ≡ [] → seen' ≡ firsts seen (globals_in none (draft_of d.body.now)) →
        firsts seen (globals_of_each (kept_definitions (drop i ds))) ≡ r → firsts seen' (globals_of_each (kept_definitions (drop (i + 1) ds))) ≡ r
    next_globals none seen seen' r z h k =
        let k' = rw next_definition at k in
        rw (add-one, h, z) (sym (firsts_append seen (globals_in [] (draft_of d.body.now)) (globals_of_each (kept_definitions (drop (suc i) ds)))) ∙ k')

    pub next_symbols : (seen seen' r : List (List ℕ)) → seen' ≡ firsts seen (symbols_in (draft_of d.body.now)) →
        firsts seen (symbols_of_each (kept_definitions (drop i ds))) ≡ r → firsts seen' (symbols_of_each (kept_definitions (drop (i + 1) ds))) ≡ r
    next_symbols seen seen' r h k =
        let k' = rw next_definition at k in
        rw (add-one, h) (sym (firsts_append seen (symbols_in (draft_of d.body.now)) (symbols_of_each (kept_definitions (drop (suc i) ds)))) ∙ k')

    pub next_widths : (s s' r : List ℕ) → s' ≡ s ++ widths (draft_of d.body.now) → s ++ widths_of_definitions (kept_definitions (drop i ds)) ≡ r → s' ++ widths_of_definitions (kept_definitions (drop (i + 1) ds)) ≡ r
    next_widths s s' r h k =
        let k' = rw next_definition at k in
        rw (add-one, h) (append_assoc s (widths (draft_of d.body.now)) (widths_of_definitions (kept_definitions (drop (suc i) ds))) ∙ k')

    pub next_quotes : (f : Datum → Literal) (s s' r : List Literal) → s' ≡ s ++ map f (quotes_in (draft_of d.body.now)) →
        s ++ map f (quotes_of_each (kept_definitions (drop i ds))) ≡ r → s' ++ map f (quotes_of_each (kept_definitions (drop (i + 1) ds))) ≡ r
    next_quotes f s s' r h k =
        let k' = rw next_definition at k in
        rw add-one (then_literals f (quotes_in (draft_of d.body.now)) (quotes_of_each (kept_definitions (drop (suc i) ds))) s h refl ∙ k')

    pub next_bodies : HasConstants (draft_of d.body.now) → (BodiesHaveConstants (kept_definitions (drop i ds)) → BodiesHaveConstants (kept_definitions ds)) → BodiesHaveConstants (kept_definitions (drop (i + 1) ds)) → BodiesHaveConstants (kept_definitions ds)
    next_bodies h before rest =
        let rest' : BodiesHaveConstants (kept_definitions (drop (suc i) ds)) = subst (λ k. BodiesHaveConstants (kept_definitions (drop k ds))) (add-one i) rest in
        before (subst BodiesHaveConstants (sym next_definition) (and_from (draft_in_range (draft_of d.body.now)) _ h rest'))

    module _ (globals symbols : List (List ℕ)) where
      pub next_procedures : (all : List Lambda) (q : Lambda) (s l s' l' : ℕ) (r : Lambdas) → (q.name ≡ d.name.now) × (q.formals ≡ d.formals) × (q.rest ≡ d.rest) → expression q.body ≡ numbered [] globals symbols None (draft_of d.body.now) s l →
          s' ≡ s + length (widths (draft_of d.body.now)) → l' ≡ l + length (quotes_in (draft_of d.body.now)) →
          onto (map function all) (procedures globals symbols (kept_definitions (drop i ds)) s l) ≡ r → onto (map function (all ++ q ∷ [])) (procedures globals symbols (kept_definitions (drop (i + 1) ds)) s' l') ≡ r
      next_procedures all q s l s' l' r h m p n k =
          let k' = rw next_definition at k in
          rw (add-one, map-append, onto_more, h.0, h.1, h.2, m, p, n) k'

  pub end_procedures : (globals symbols : List (List ℕ)) (all : List Lambda) (s l : ℕ) (r : Lambdas) → length ds ≤ i → onto (map function all) (procedures globals symbols (kept_definitions (drop i ds)) s l) ≡ r → lambdas_of all ≡ r
  end_procedures globals symbols all s l r h k =
      let k' = rw (no_definition h) at k in
      lambdas_of_list all ∙ sym (onto_none (map function all)) ∙ k'

  pub end_bodies : length ds ≤ i → (BodiesHaveConstants (kept_definitions (drop i ds)) → BodiesHaveConstants (kept_definitions ds)) → BodiesHaveConstants (kept_definitions ds)
  end_bodies h before = before (subst BodiesHaveConstants (sym (no_definition h)) refl)
