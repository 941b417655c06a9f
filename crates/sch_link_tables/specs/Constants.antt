-- Drafts whose constants are those of a program.
use Rattle.std.specs.Prelude.{◌≡◌, Bool, true, ◌&&◌}
use Rattle.sch_word.specs.values.Values.{is_constant}
use Rattle.sch_sketch.specs.Draft.{Draft, Drafts, constant}
use Rattle.sch_sketch.specs.DraftMeasures.{over, over_each}

-- a node that is a constant is one that a program may have: a fixnum in range, or a character that is a byte
abbrev pub constant_here : Draft → Bool
constant_here (constant c) = is_constant c
constant_here _ = true

abbrev pub draft_in_range : Draft → Bool
draft_in_range = over true (λ a b. a && b) constant_here

abbrev pub drafts_in_range : Drafts → Bool
drafts_in_range = over_each true (λ a b. a && b) constant_here

-- each constant of a draft is one that a program may have
abbrev pub HasConstants : Draft → Type 0
HasConstants e = draft_in_range e ≡ true

abbrev pub HaveConstants : Drafts → Type 0
HaveConstants es = drafts_in_range es ≡ true
