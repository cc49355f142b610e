use Rattle.std.proofs.Common.{ℕ, ◌≡◌, ◌-◌, Some, length, get_or, refl, sym, ap, ◌∙◌, leb, arith, rules}
use Rattle.std.proofs.lemmas.Option.{slice_get-get_or}
use Rattle.std.specs.VecDeque.{deque_len}
use Rattle.std.proofs.lemmas.List.Sorted.{IsPartitionPoint-from_clause, IsPartitionedBy-leb}
use Rattle.commit_book.proofs.IndexLemmas.{version_last, version_none, version_before}
use Rattle.commit_book.proofs.found.version_of.Goals as goal

-- the last of all is not above the commit
pub returns-then-last-commit : goal.returns-then-last-commit
returns-then-last-commit c =
    let some = c.in_ok-last.ensures.variant.0 refl in
    let size = c.args.commits.now.ok.0 in
    let end : deque_len c.args.commits.now - 1 ≡ length c.args.commits.now.items - 1 = omega (arith, size) in
    version_last c.args.commits.now.items c.args.commit c.in_ok-last.field-0.now c.requires
    (ap Some (c.in_ok-last.ensures.lookup ∙ ap (λ (k : ℕ). get_or c.args.commits.now.items k c.in_ok-last.field-0.now) end)
    ∙ sym (slice_get-get_or c.args.commits.now.items (length c.args.commits.now.items - 1) c.in_ok-last.field-0.now (omega (arith, size, some))))
    c.if-last-commit.true

-- the first is above the commit
pub returns-then-count-eq0 : goal.returns-then-count-eq0
returns-then-count-eq0 c =
    let parted = IsPartitionedBy-leb (λ v. v) c.args.commits.now.items c.args.commit c.requires in
    let point = IsPartitionPoint-from_clause (λ v. leb v c.args.commit) _ _ c.partition_point-count.ensures.partitioned parted (λ a r q k. search rules) in
    version_none c.args.commits.now.items c.args.commit _ point c.if-count-eq0.true

-- those before the point are not above the commit
pub returns-else-count-eq0 : goal.returns-else-count-eq0
returns-else-count-eq0 c =
    let parted = IsPartitionedBy-leb (λ v. v) c.args.commits.now.items c.args.commit c.requires in
    let point = IsPartitionPoint-from_clause (λ v. leb v c.args.commit) _ _ c.partition_point-count.ensures.partitioned parted (λ a r q k. search rules) in
    ap Some c.index.ensures ∙ version_before c.args.commits.now.items c.args.commit _ c.index.result.now point (omega (arith, c.partition_point-count.ensures.bound, c.args.commits.now.ok.0)) (omega arith)
