-- The drafts of a text assign the names that its first reading found.
use Rattle.std.proofs.Common.{◌≡◌, ℕ, Bool, true, false, cond, List, [], ◌∷◌, ◌++◌, refl, sym, ap, ◌∙◌, append-nil}
use Rattle.std.specs.Str.{bytes_eq}
use Rattle.sch_read.specs.Grammar.{Data}
use Rattle.sch_names.specs.NamesView.{with_name}
use Rattle.sch_names.specs.Scope.{is_among}
use Rattle.sch_sketch.specs.declared.sketch.Position.TheVariants.{Value}
use Rattle.sch_sketch.specs.Sketch.{sketches}
use Rattle.sch_link_tables.specs.Named.{firsts}
use Rattle.sch_link_tables.proofs.NameSteps.{firsts_append}
use Rattle.sch_toplevel.specs.Forms.{sketches_of, defined, own_names}
use Rattle.sch_core.specs.TextLaws.{AssignsTheNamesFound}
use Rattle.sch_core.proofs.readings.ReadingsAgree.{sequences_agree}

-- ## Names that are there stay there

joined_among : (x : List ℕ) (names more : List (List ℕ)) → is_among x names ≡ true → is_among x (names ++ more) ≡ true
joined_among x [] more h = absurd cc
joined_among x (y ∷ ys) more h = by (bytes_eq x y) (joined_among x ys more) h
  where
    by : (b : Bool) → (is_among x ys ≡ true → is_among x (ys ++ more) ≡ true) → cond b true (is_among x ys) ≡ true → cond b true (is_among x (ys ++ more)) ≡ true
    by true later e = refl
    by false later e = later e

one_more_among : (x y : List ℕ) (names : List (List ℕ)) → is_among x names ≡ true → is_among x (with_name y names) ≡ true
one_more_among x y names h = by (is_among y names)
  where
    by : (b : Bool) → is_among x (cond b names (names ++ y ∷ [])) ≡ true
    by true = h
    by false = joined_among x names (y ∷ []) h

still_among : (x : List ℕ) (names xs : List (List ℕ)) → is_among x names ≡ true → is_among x (firsts names xs) ≡ true
still_among x names [] h = h
still_among x names (y ∷ ys) h = still_among x (with_name y names) ys (one_more_among x y names h)

more_owned : (items : Data) (assigned : List (List ℕ)) (x : List ℕ) → is_among x (own_names items []) ≡ true → is_among x (own_names items assigned) ≡ true
more_owned items assigned x h =
    let own = ap (λ l. is_among x (firsts [] l)) (append-nil (defined items)) in
    ap (λ l. is_among x l) (firsts_append [] (defined items) assigned) ∙ still_among x (firsts [] (defined items)) assigned (sym own ∙ h)

pub assigned_names : AssignsTheNamesFound
assigned_names seen items names es p =
    sym (sequences_agree (firsts [] (seen ++ defined items)) false (own_names items []) (own_names items names) (more_owned items names) 1 [] Value (sketches (sketches_of items)) _ _
    p.assigns.drafts es p.assigns.reads p.expands) ∙ sym p.assigns.assigned
