use Rattle.std.proofs.Common.{List, Some, slice_set, sym, subst}
use Rattle.query_core.specs.Changes.{IsChange}
use Rattle.query_core.specs.Window.{Row}
use Rattle.bucket_store.specs.Rising.{Rises}
use Rattle.bucket_store.proofs.RisingLemmas.{replaced, replaced_rises, inserted, inserted_rises, found_at, missed_at}
use Rattle.bucket_store.proofs.bucket.Bucket.put.Goals as goal

-- the row at the index that was found is the only one of the id
pub invariant_of-self : goal.invariant_of-self
invariant_of-self c =
    let rows = c.self.inside.rows.items in
    let at = found_at c.args.row.0 _ rows c.in-Ok.index c.as_slice.ensures.value c.in-Ok.ensures.within c.in-Ok.ensures.position in
    replaced_rises c.args.row rows c.in-Ok.index c.self.invariant at.0 at.1

pub returns-in-Ok-clause-ok : goal.returns-in-Ok-clause-ok
returns-in-Ok-clause-ok c =
    let rows = c.self.inside.rows.items in
    let at = found_at c.args.row.0 _ rows c.in-Ok.index c.as_slice.ensures.value c.in-Ok.ensures.within c.in-Ok.ensures.position in
    subst (λ (old : List Row). IsChange c.args.row.0 (Some c.args.row) old (slice_set rows c.in-Ok.index c.args.row)) c.self.view_is (replaced c.args.row rows c.in-Ok.index c.self.invariant at.0 at.1)

-- there is none, and all behind the index come after the id
pub invariant_of-self-in-Continue-1 : goal.invariant_of-self-in-Continue-1
invariant_of-self-in-Continue-1 c =
    let rows = c.self.inside.rows.items in
    let at = missed_at c.args.row.0 _ rows c.in-Err.index c.as_slice.ensures.value c.in-Err.ensures.within c.in-Err.ensures.position c.self.invariant in
    subst Rises (sym c.in_ok-insert-in-Err.ensures.items) (inserted_rises c.args.row rows c.in-Err.index at.1 c.self.invariant at.0)

pub returns-in_ok-insert-in-Err-clause-ok : goal.returns-in_ok-insert-in-Err-clause-ok
returns-in_ok-insert-in-Err-clause-ok c =
    let rows = c.self.inside.rows.items in
    let at = missed_at c.args.row.0 _ rows c.in-Err.index c.as_slice.ensures.value c.in-Err.ensures.within c.in-Err.ensures.position c.self.invariant in
    subst (λ (old : List Row). IsChange c.args.row.0 (Some c.args.row) old c.insert.new.self.items) c.self.view_is
    (subst (λ (new : List Row). IsChange c.args.row.0 (Some c.args.row) rows new) (sym c.in_ok-insert-in-Err.ensures.items) (inserted c.args.row rows c.in-Err.index at.1 at.0))
