-- Room for what is numbered: there are numbers of 32 bits for it.
use Rattle.std.specs.Prelude.{ℕ, ◌+◌, ◌<◌, ◌^◌, Bool, true, ◌&&◌, nat_lt, length}
use Rattle.sch_sketch.specs.Draft.{Draft, Drafts, local, set_local}
use Rattle.sch_sketch.specs.DraftMeasures.{over, over_each}
use Rattle.sch_link_tables.specs.declared.tables.Output.{Output}

-- the sites that have numbers and one more for each of some nodes are fewer than 2^32, and so are the literals
pub record HasRoom (out : Output) (nodes : ℕ) : Type 0 where
  pub sites : length out.sites + nodes < 2 ^ 32
  pub literals : length out.literals + nodes < 2 ^ 32

-- a variable that is read or set has fewer than 2^32 variables bound nearer
abbrev pub is_near_here : Draft → Bool
is_near_here (local k) = nat_lt k (2 ^ 32)
is_near_here (set_local k e) = nat_lt k (2 ^ 32)
is_near_here _ = true

-- and so has each variable of a draft, and of drafts
abbrev pub has_near_variables : Draft → Bool
has_near_variables = over true (λ a b. a && b) is_near_here

abbrev pub have_near_variables : Drafts → Bool
have_near_variables = over_each true (λ a b. a && b) is_near_here
