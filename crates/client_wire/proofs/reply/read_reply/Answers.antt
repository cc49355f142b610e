use Rattle.client_wire.proofs.TakenLemmas.{none_taken}
use Rattle.client_wire.proofs.reply.read_reply.Goals as goal

pub returns-in-Err : goal.returns-in-Err
returns-in-Err g c = none_taken (g.S.Source.at c.args.source.now)
