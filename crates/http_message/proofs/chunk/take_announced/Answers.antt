use Rattle.http_message.specs.Coded.{IsCutShort, IsPart}
use Rattle.http_message.proofs.ChunkLemmas.{line_bad}
use Rattle.http_message.proofs.InputLemmas.{reads_held}
use Rattle.http_message.proofs.chunk.take_announced.Goals as goal

pub returns-in-None : goal.returns-in-None
returns-in-None g c =
    reads_held _ _ _ c.args.line (IsCutShort c.args.at.coded c.args.at.got) (IsPart c.args.at c.args.body.now c.args.body.now) _ c.skip.ensures
    (line_bad c.args.at.coded c.args.at.got c.args.line c.args.input.now c.requires.within c.requires.here
    (rw c.bytes.ensures at c.in-None.ensures.none))

pub returns-in-Some-eq0 : goal.returns-in-Some-eq0
returns-in-Some-eq0 g c = c.take_last.ensures c.args.body.now
