use Rattle.http_message.proofs.PartLemmas.{ending_reads}
use Rattle.http_message.proofs.chunk.take_last.Goals as goal

pub returns : goal.returns
returns g c body =
    ending_reads _ _ c.args.input.now c.skip.new.self c.take_trailers.new.input body c.args.at c.args.line c.take_trailers.result
    (record { within = c.requires.within; here = c.requires.here; is = c.requires.is }) c.skip.ensures c.take_trailers.ensures
