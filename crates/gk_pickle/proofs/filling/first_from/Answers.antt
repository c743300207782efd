use Rattle.std.proofs.Common.{rules}
use Rattle.std.specs.Prelude.{ltb}
use Rattle.std.proofs.lemmas.List.Sorted.{IsPartitionPoint-from_clause, IsPartitionedBy-ltb}
use Rattle.gk_pickle.proofs.Named.{first_found}
use Rattle.gk_pickle.proofs.filling.first_from.Goals as goal

pub returns : goal.returns
returns c =
    let parted = IsPartitionedBy-ltb (λ x. x) c.args.columns.now c.args.done c.requires in
    let point = IsPartitionPoint-from_clause (λ x. ltb x c.args.done) _ _ c.partition_point-before.ensures.partitioned parted (λ a r q k. search rules) in
    first_found _ _ _ _ _ c.partition_point-before.ensures.bound point c.get.ensures.lookup.0 c.get.ensures.lookup.1 c.copied.ensures
