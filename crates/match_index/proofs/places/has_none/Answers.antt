-- neither part has one
use Rattle.match_index.proofs.PlaceLemmas.{no_length, no_places}
use Rattle.match_index.proofs.places.has_none.Goals as goal

pub returns-then-is_empty : goal.returns-then-is_empty
returns-then-is_empty c = λ empty.
    no_places c.args.places.now (no_length _ (c.is_empty.ensures.0 c.if-is_empty.true)) (no_length _ (c.is_empty-then-is_empty.ensures.0 empty))
