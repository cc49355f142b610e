use Rattle.std.proofs.Common.{ℕ, ltb, arith, rules}
use Rattle.std.proofs.lemmas.Bool.{ltb-true, ltb-false}
use Rattle.std.proofs.lemmas.List.Sorted.{IsPartitionPoint-from_clause, IsPartitionedBy-ltb}
use Rattle.issued_expiries.proofs.CopyLemmas.{non_decreasing}
use Rattle.issued_expiries.proofs.sorted_copies.first_from.Goals as goal

pub returns-clause-below : goal.returns-clause-below
returns-clause-below c = λ i low.
    let parted = IsPartitionedBy-ltb (λ (n : ℕ). n) c.args.commits.now c.args.commit (non_decreasing c.args.commits.now c.requires) in
    let point = IsPartitionPoint-from_clause (λ (n : ℕ). ltb n c.args.commit) _ _ c.partition_point.ensures.partitioned parted (λ a r q k. search rules) in
    ltb-true _ _ (point.0 i 0 (omega arith) low)

pub returns-clause-above : goal.returns-clause-above
returns-clause-above c = λ i from low.
    let parted = IsPartitionedBy-ltb (λ (n : ℕ). n) c.args.commits.now c.args.commit (non_decreasing c.args.commits.now c.requires) in
    let point = IsPartitionPoint-from_clause (λ (n : ℕ). ltb n c.args.commit) _ _ c.partition_point.ensures.partitioned parted (λ a r q k. search rules) in
    ltb-false _ _ (point.1 i 0 from low)
