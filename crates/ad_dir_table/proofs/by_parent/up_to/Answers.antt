use Rattle.std.proofs.Common.{rules, ℕ}
use Rattle.std.specs.Prelude.{nat_le}
use Rattle.std.proofs.lemmas.List.Sorted.{IsPartitionedBy-leb, IsPartitionPoint-from_clause}
use Rattle.ad_dir_table.proofs.NumberLaws.{rises_by, place_is}
use Rattle.ad_dir_table.proofs.by_parent.up_to.Goals as goal

pub returns-clause-place : goal.returns-clause-place
returns-clause-place c =
    let parted = IsPartitionedBy-leb (λ (y : ℕ). y) c.args.numbers.now c.args.number
    (rises_by 0 c.args.numbers.now c.requires) in
    let split = IsPartitionPoint-from_clause (λ (y : ℕ). nat_le y c.args.number) _ _
    c.partition_point.ensures.partitioned parted (λ a r q k. search rules) in
    place_is c.args.number c.args.numbers.now c.partition_point.result c.partition_point.ensures.bound split.0 split.1
