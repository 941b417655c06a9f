use Rattle.std.proofs.Common.{◌+◌, leb, arith, ap, sym, rules}
use Rattle.std.proofs.lemmas.List.Sorted.{IsPartitionPoint-from_clause, IsPartitionedBy-leb}
use Rattle.sch_anf.proofs.BindingLists.{before_is}
use Rattle.sch_anf.proofs.operands.new_label.Goals as goal

pub returns : goal.returns
returns c =
    let starts = c.args.starts.now in
    let parted = IsPartitionedBy-leb (λ x. x) starts c.args.label c.requires.sorted in
    let point = IsPartitionPoint-from_clause (λ x. leb x c.args.label) _ _ c.partition_point.ensures.partitioned parted (λ a r q k. search rules) in
    ap (λ n. c.args.label + n) (sym (before_is starts c.partition_point.result c.args.label c.partition_point.ensures.bound (λ k l. point.0 k 0 (omega arith) l) (λ k l m. point.1 k 0 l m)))
