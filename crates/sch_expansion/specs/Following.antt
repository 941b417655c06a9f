-- Drafts that are made, and then others.
use Rattle.std.specs.Prelude.{List, [], ◌∷◌}
use Rattle.sch_sketch.specs.Draft.{Draft, Drafts, and_draft}

abbrev pub and_then : List Draft → Drafts → Drafts
and_then [] rest = rest
and_then (e ∷ es) rest = and_draft e (and_then es rest)
