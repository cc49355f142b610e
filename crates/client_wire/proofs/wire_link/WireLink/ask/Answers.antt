use Rattle.client_wire.specs.Requests.{request_text}
use Rattle.client_wire.proofs.wire_link.WireLink.ask.Goals as goal

-- the counts rose as the exchange and the verdict on it ask
pub returns-clause-counts : goal.returns-clause-counts
returns-clause-counts g c =
    c.judge_read.ensures.counts
    (record { source = g.S.Source.at c.args.self.now.source; source' = g.S.Source.at c.exchange-read.new.source; sink = g.K.Sink.at c.args.self.now.sink; sink' = g.K.Sink.at c.exchange-read.new.sink })
    (request_text c.args.ask.now c.as_slice-host.result.now) c.exchange-read.ensures
