use Rattle.std.proofs.Common.{ap, codes, List, Option, refl, ◌∙◌, ◌≡◌}
use Rattle.clap.specs.Words.{Row, Text, first_of, first_value, found_of, rows_of}
use Rattle.clap.specs.declared.parser.matches.Found.{Found}
use Rattle.clap.proofs.WalkLemmas.{first_value-rows}
use Rattle.sch_words.specs.SimpleCommand.{texts_of_rows}
use Rattle.sch_words.proofs.words_in.Goals as goal

-- what a getter of the matches gives, by the rows
got : (f : Found) (id : Text) (o : Option Text) (rows : List Row) → o ≡ first_value f id → rows_of f ≡ rows → o ≡ first_of id rows
got f id o rows is same = is ∙ first_value-rows f id ∙ ap (first_of id) same

texts_got : (f : Found) (rows : List Row) → rows_of f ≡ rows → (a b d e g h i : Option Text)
    → a ≡ first_value f (codes "verb") → b ≡ first_value f (codes "name") → d ≡ first_value f (codes "second") → e ≡ first_value f (codes "listing")
    → g ≡ first_value f (codes "heap") → h ≡ first_value f (codes "depth") → i ≡ first_value f (codes "steps")
    → record { verb = a; name = b; second = d; listing = e; heap = g; depth = h; steps = i } ≡ texts_of_rows rows
texts_got f rows same a b d e g h i ea eb ed ee eg eh ei =
    rw (
      got f _ a rows ea same,
      got f _ b rows eb same,
      got f _ d rows ed same,
      got f _ e rows ee same,
      got f _ g rows eg same,
      got f _ h rows eh same,
      got f _ i rows ei same,
    ) refl

pub returns : goal.returns
returns c =
    let found = found_of c.args.matches.now in
    texts_got found (rows_of found) refl _ _ _ _ _ _ _ c.get_str.ensures c.get_str-2.ensures c.get_str-3.ensures c.get_str-4.ensures c.get_str-5.ensures c.get_str-6.ensures c.get_str-7.ensures
