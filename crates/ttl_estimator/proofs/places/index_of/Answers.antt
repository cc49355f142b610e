use Rattle.std.proofs.Common.{ap, bytes_eq, is_some, refl, sym, ◌∙◌}
use Rattle.indexmap.proofs.MapLemmas.{Found-position, some_index}
use Rattle.ttl_estimator.proofs.places.index_of.Goals as goal

-- an index that was found has an entry of the name
pub returns-then-is_at-clause-found : goal.returns-then-is_at-clause-found
returns-then-is_at-clause-found g c =
    let index = c.if-is_at.ensures refl in
    sym (ap is_some index) ∙ some_index (bytes_eq c.args.name.now) c.args.map.now.entries

-- and its value is that of the name
pub returns-then-is_at-clause-value : goal.returns-then-is_at-clause-value
returns-then-is_at-clause-value g c =
    let index = c.if-is_at.ensures refl in
    sym (Found-position (bytes_eq c.args.name.now) c.args.map.now.entries c.args.likely index).value
