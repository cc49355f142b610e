-- the key is there, and the others are as before
use Rattle.match_index.proofs.PlaceLemmas.{keys-added, keys-same, on-any-err}
use Rattle.match_index.proofs.places.put_key.Goals as goal

pub returns-clause-ok : goal.returns-clause-ok
returns-clause-ok c = keys-added c.args.key c.args.keys.now c.insert.new.self c.in_ok-insert.ensures.updates.0

pub returns-in_err-insert-clause-err : goal.returns-in_err-insert-clause-err
returns-in_err-insert-clause-err c = on-any-err c.from_residual.result (keys-same c.args.keys.now c.insert.new.self c.in_err-insert.ensures.err)
