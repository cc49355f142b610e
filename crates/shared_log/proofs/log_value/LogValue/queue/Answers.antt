-- a commit is one frame more in the queue
use Rattle.std.proofs.Common.{rules, refl, arith, ◌+◌}
use Rattle.shared_log.proofs.StandLemmas.{queue_done}
use Rattle.shared_log.proofs.log_value.LogValue.queue.Goals as goal

pub returns-clause-queued : goal.returns-clause-queued
returns-clause-queued g c = queue_done _ _ _ (record { kind = 1; clock = c.args.clock; body = c.args.body.now }) c.add_body.new.self (record { frames = c.saturating_add-self-inside.result; commits = c.args.commit; moment = c.self.inside.queued.moment }) (c.self.inside.count + 1)
    c.self.view_is refl refl c.requires.count c.saturating_add-self-inside.ensures (omega arith) refl (search rules)
