-- by what was taken out
use Rattle.std.proofs.Common.{refl}
use Rattle.match_index.specs.Candidates.{is_query}
use Rattle.match_index.proofs.PlaceLemmas.{placed-less, held_less}
use Rattle.match_index.proofs.keeping.take.Goals as goal

pub returns-clause-held : goal.returns-clause-held
returns-clause-held c = held_less c.args.key.now c.args.held.now.keys c.swap_remove.new.self.keys c.swap_remove.ensures.updates.0

pub returns-clause-placed : goal.returns-clause-placed
returns-clause-placed c =
    placed-less (is_query c.args.key.now) c.args.held.now.keys c.swap_remove.new.self.keys c.args.collections.now c.take_at.new.collections c.args.key.now refl c.requires.placed
    (held_less c.args.key.now c.args.held.now.keys c.swap_remove.new.self.keys c.swap_remove.ensures.updates.0) c.take_at.ensures.query c.take_at.ensures.record
