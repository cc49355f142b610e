-- a kept moment is one frame more in the queue
use Rattle.std.proofs.Common.{rules, refl, [], arith, ◌+◌}
use Rattle.shared_log.proofs.StandLemmas.{queue_done, moment_frame}
use Rattle.shared_log.proofs.log_value.LogValue.queue_moment.Goals as goal

pub returns-clause-queued : goal.returns-clause-queued
returns-clause-queued g c = queue_done _ _ _ (record { kind = 2; clock = c.args.moment; body = [] }) c.add_moment.new.self (record { frames = c.saturating_add-self-inside.result; commits = c.self.inside.queued.commits; moment = c.max-self-inside.result }) (c.self.inside.count + 1)
    c.self.view_is refl refl c.requires.count c.saturating_add-self-inside.ensures (omega arith) c.max-self-inside.ensures (moment_frame c.self.inside.pending c.add_moment.new.self c.args.moment (search rules))
