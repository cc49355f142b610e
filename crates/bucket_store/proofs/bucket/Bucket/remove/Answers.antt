use Rattle.std.proofs.Common.{List, None, sym, subst}
use Rattle.query_core.specs.Changes.{IsChange}
use Rattle.query_core.specs.Window.{Row}
use Rattle.bucket_store.specs.Rising.{Rises}
use Rattle.bucket_store.proofs.RisingLemmas.{removed, removed_rises, unchanged, found_at, missed_at}
use Rattle.bucket_store.proofs.bucket.Bucket.remove.Goals as goal

pub invariant_of-self : goal.invariant_of-self
invariant_of-self c = subst Rises (sym c.remove.ensures.items) (removed_rises c.self.inside.rows.items c.in-Ok.index c.self.invariant)

-- the row at the index that was found is the only one of the id
pub returns-in-Ok : goal.returns-in-Ok
returns-in-Ok c =
    let rows = c.self.inside.rows.items in
    let id = c.args.id.now in
    let at = found_at id _ rows c.in-Ok.index c.as_slice.ensures.value c.in-Ok.ensures.within c.in-Ok.ensures.position in
    subst (λ (old : List Row). IsChange id None old c.remove.new.self.items) c.self.view_is
    (subst (λ (new : List Row). IsChange id None rows new) (sym c.remove.ensures.items) (removed id rows c.in-Ok.index c.self.invariant at.0 at.1))

-- there is none
pub returns-in_default : goal.returns-in_default
returns-in_default c =
    let rows = c.self.inside.rows.items in
    let id = c.args.id.now in
    let at = missed_at id _ rows c.in_default.field-0 c.as_slice.ensures.value c.in_default.ensures.within c.in_default.ensures.position c.self.invariant in
    subst (λ (old : List Row). IsChange id None old old) c.self.view_is (unchanged id rows c.in_default.field-0 at.1 at.0)
