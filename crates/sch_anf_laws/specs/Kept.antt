-- What a program of the language Control keeps of a flat program.
use Rattle.std.specs.Prelude.{◌≡◌, ℕ, IsTrue, nat_eq}
use Rattle.std.specs.List.{count_by}
use Rattle.sch_flat.specs.Measures.{call_sites_of}
use Rattle.sch_flat.specs.Covered as from
use Rattle.sch_flat.specs.Tree as flat
use Rattle.sch_control.specs.Covered.{is_covered_program}
use Rattle.sch_control.specs.Tree as control
use Rattle.sch_control.specs.Valid.{sites_of_each}

-- the nodes with a site are the calls and primitives of the flat program, each as often
abbrev pub SameCalls : flat.Source → control.Source → Type 0
SameCalls p q = (site : ℕ) → count_by (λ at. nat_eq at.0 site) (sites_of_each q.bodies) ≡ count_by (λ x. nat_eq x site) (call_sites_of p)

-- of covered code, covered code
abbrev pub StaysCovered : flat.Source → control.Source → Type 0
StaysCovered p q = IsTrue (from.is_covered_program p) → IsTrue (is_covered_program q)
