-- Worked rows: the most globals and symbols that numbering takes, and one more of either.
use Rattle.std.proofs.Common.{◌≡◌, length, arith}
use Rattle.sch_names.specs.NamesView.{names_of}
use Rattle.sch_link_drafts.specs.Numbering.{HasFewNames}
use Rattle.sch_link_drafts.specs.declared.expressions.Numbers.{Numbers}

most_names : (tables : Numbers) → length (names_of tables.globals.now) ≡ 4294967295 → length (names_of tables.symbols.now) ≡ 4294967295
    → HasFewNames tables
most_names tables g s = (omega (arith, g), omega (arith, s))

one_more_global : (tables : Numbers) → length (names_of tables.globals.now) ≡ 4294967296 → HasFewNames tables → ⊥
one_more_global tables g few = omega (arith, g, few.0)

one_more_symbol : (tables : Numbers) → length (names_of tables.symbols.now) ≡ 4294967296 → HasFewNames tables → ⊥
one_more_symbol tables s few = omega (arith, s, few.1)
