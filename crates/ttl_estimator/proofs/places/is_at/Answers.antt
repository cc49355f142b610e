use Rattle.std.proofs.Common.{sym, ◌∙◌}
use Rattle.ttl_estimator.proofs.PlaceLemmas.{place_of}
use Rattle.ttl_estimator.proofs.places.is_at.Goals as goal

-- no other entry has the name
pub returns-in-Some : goal.returns-in-Some
returns-in-Some g c = λ same.
    place_of c.args.map.now c.args.index c.args.name.now c.in-Some.key.now c.in-Some.field-0-1.now c.len-len.ensures.unique (sym c.in-Some.ensures.entry) (sym c.eq.ensures ∙ same)
