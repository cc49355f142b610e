use Rattle.http_message.proofs.PartLemmas.{content_reads}
use Rattle.http_message.proofs.chunk.take_content.Goals as goal

pub returns : goal.returns
returns g c =
    content_reads _ _ _ _ _ _ c.take_exact.new.into c.in_ok-take_exact.field-0 c.take_line_end.result
    c.in_ok-take_exact.ensures c.take_line_end.ensures
