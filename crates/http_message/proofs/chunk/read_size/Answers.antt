use Rattle.http_message.proofs.ChunkLemmas.{no_other_line}
use Rattle.http_message.proofs.chunk.read_size.Goals as goal

pub returns-else-len-text-clause-none : goal.returns-else-len-text-clause-none
returns-else-len-text-clause-none c =
    let known = rw c.in-Ok-Complete.field-0-is at c.in-Ok-Complete.ensures in
    no_other_line c.args.text.now _ _ known.complete.0 known.complete.1 c.if-len-text.false
