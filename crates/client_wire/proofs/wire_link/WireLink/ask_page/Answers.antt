use Rattle.client_wire.proofs.wire_link.WireLink.ask_page.Goals as goal

-- the counts rose as the ask and the verdict on its reply ask
pub returns-in-Ok-clause-counts : goal.returns-in-Ok-clause-counts
returns-in-Ok-clause-counts g c =
    c.judge_page.ensures.counts
    (record { source = g.S.Source.at c.args.self.now.source; source' = g.S.Source.at c.ask.new.self.source; sink = g.K.Sink.at c.args.self.now.sink; sink' = g.K.Sink.at c.ask.new.self.sink })
    c.args.self.now.bad_replies c.in-Ok.ensures.counts
