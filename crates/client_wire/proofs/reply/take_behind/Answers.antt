use Rattle.client_wire.proofs.TakenLemmas.{ended_reply, failed_reply, no_memory}
use Rattle.client_wire.proofs.reply.take_behind.Goals as goal

pub returns-in-Err-Memory : goal.returns-in-Err-Memory
returns-in-Err-Memory g c = λ first front.
    no_memory first (g.S.Source.at c.args.source.now) (g.S.Source.at c.take_content.new.source) c.args.front front
    (rw c.in-Err-Memory.field-0-is at c.in-Err-Memory.ensures)

pub returns-in-Ended : goal.returns-in-Ended
returns-in-Ended g c = λ first front.
    let came = rw c.in-Err-Short.field-0-is at c.in-Err-Short.ensures in
    ended_reply first (g.S.Source.at c.args.source.now) (g.S.Source.at c.take_content.new.source) c.args.front front
    c.in-Err-Short.short came.0 (rw c.in-Ended.is at came.1)

pub returns-in-Failed : goal.returns-in-Failed
returns-in-Failed g c = λ first front.
    let came = rw c.in-Err-Short.field-0-is at c.in-Err-Short.ensures in
    failed_reply first (g.S.Source.at c.args.source.now) (g.S.Source.at c.take_content.new.source) c.args.front front
    c.in-Err-Short.short came.0 (rw c.in-Failed.is at came.1)
