-- all is matched, and then time passes
use Rattle.durable_book.proofs.OpeningLemmas.{finished}
use Rattle.durable_book.proofs.opening.finish.Goals as goal

pub returns-clause-made : goal.returns-clause-made
returns-clause-made c = λ s at.
    finished c.args.hub.now c.match_all.new.hub c.tick.new.self c.args.moment s at (λ low. c.in_ok-match_all.ensures.matched low s at) c.match_all.ensures.level c.match_all.ensures.setting c.tick.ensures.after
