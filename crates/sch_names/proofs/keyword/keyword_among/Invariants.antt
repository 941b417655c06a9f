use Rattle.std.proofs.Common.{◌≡◌, drop, map}
use Rattle.sch_names.specs.Words.{keyword_among, named_of}
use Rattle.sch_names.proofs.keyword.keyword_among.Given as goal

abbrev pub invariant-loop-name : goal.invariant-loop-name
invariant-loop-name l = keyword_among l.x (map named_of (drop l.name-index l.keywords)) ≡ keyword_among l.x (map named_of l.keywords)
