-- the key is not there, and the others are as before
use Rattle.match_index.proofs.PlaceLemmas.{keys-dropped}
use Rattle.match_index.proofs.places.take_key.Goals as goal

pub returns : goal.returns
returns c = keys-dropped c.args.key.now c.args.keys.now c.swap_remove.new.self c.swap_remove.ensures.updates.0
