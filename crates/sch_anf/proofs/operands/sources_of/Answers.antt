use Rattle.std.proofs.Common.{◌∙◌, sym}
use Rattle.std.proofs.lemmas.Simd.{map-map}
use Rattle.sch_flat.specs.View.{used}
use Rattle.sch_anf_laws.specs.Normal.{source_of}
use Rattle.sch_anf.specs.ScopeTable.{scope_of}
use Rattle.sch_anf.proofs.operands.sources_of.Goals as goal

pub returns : goal.returns
returns c = c.from_vec.ensures ∙ c.in_ok-all.ensures ∙ sym (map-map (source_of (scope_of c.args.v.now.bound.items)) used c.args.xs.now)
