use Rattle.std.proofs.Common.{◌∙◌}
use Rattle.turnstile.proofs.Takes.{acquired_value}
use Rattle.turnstile.proofs.gate.Turnstile.take.Goals as goal

-- the value of the turn, after the history was observed
pub returns-then-count-lt-MOST-clause-value : goal.returns-then-count-lt-MOST-clause-value
returns-then-count-lt-MOST-clause-value g c = acquired_value g.T.Stands.setting g.T.Stands.legal g.T.Stands.stands (g.T.Stands.setting c.args.self.now.board.shared.key.value) c.loop.seat.me c.try_acquire.new.seat.me c.observe-count.new.seat.me c.observe-count.result c.try_acquire.result
    (c.loop.invariant.0.2 ∙ c.requires.1) c.try_acquire.ensures.acquired c.if-try_acquire.true c.observe-count.ensures.observed

pub release-requires-clause-value : goal.release-requires-clause-value
release-requires-clause-value g c = acquired_value g.T.Stands.setting g.T.Stands.legal g.T.Stands.stands (g.T.Stands.setting c.args.self.now.board.shared.key.value) c.loop.seat.me c.try_acquire.new.seat.me c.observe-count.new.seat.me c.observe-count.result c.try_acquire.result
    (c.loop.invariant.0.2 ∙ c.requires.1) c.try_acquire.ensures.acquired c.if-try_acquire.true c.observe-count.ensures.observed
