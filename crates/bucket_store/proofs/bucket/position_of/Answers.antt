use Rattle.std.proofs.Common.{rules}
use Rattle.std.specs.Cmp.Lexicographic.{slice_cmp}
use Rattle.std.specs.Ordering.{nat_cmp}
use Rattle.bucket_store.proofs.RisingLemmas.{searched}
use Rattle.bucket_store.proofs.bucket.position_of.Goals as goal

-- each call of the closure compares an id with the wanted one
pub returns-clause-position : goal.returns-clause-position
returns-clause-position c = searched (λ row. slice_cmp nat_cmp row.0 c.args.id.now) c.args.rows.now c.binary_search_by.result c.binary_search_by.ensures.position (λ a r q k. search rules)
