-- What the words of a command line give.
use Rattle.std.specs.Prelude.{ℕ, List, Option}

abbrev pub Text : Type 0
Text = List ℕ

-- a text for each of three positionals and for each of four options, where the words have one
pub record Texts : Type 0 where
  pub verb : Option Text
  pub name : Option Text
  pub second : Option Text
  pub listing : Option Text
  pub heap : Option Text
  pub depth : Option Text
  pub steps : Option Text
