use Rattle.std.proofs.Common.{refl}
use Rattle.std.proofs.lemmas.Result.{err_from_is_err_and}
use Rattle.http_message.proofs.PartLemmas.{coding_more, coding_ends, coding_breaks, coding_stops}
use Rattle.http_message.proofs.StepLemmas.{decoding_none}
use Rattle.http_message.proofs.coding.take_coded.Goals as goal

pub loop-next-init : goal.loop-next-init
loop-next-init g c = decoding_none _ _ _ _ refl refl

pub loop-next-preserved : goal.loop-next-preserved
loop-next-preserved g c =
    coding_more _ _ _ c.args.input.now c.loop-next.input c.take_part.new.input c.loop-next.body c.take_part.new.body
    c.loop-next.at c.loop-next.invariant c.in-Chunk.next (rw c.in-Chunk.is at c.in_ok-next.ensures)

pub returns-in-End : goal.returns-in-End
returns-in-End g c =
    coding_ends _ _ _ c.args.input.now c.loop-next.input c.take_part.new.input c.loop-next.body c.take_part.new.body
    c.loop-next.at c.loop-next.invariant c.in-End.coded (rw c.in-End.is at c.in_ok-next.ensures)

pub returns-in-Broken : goal.returns-in-Broken
returns-in-Broken g c =
    coding_breaks _ _ _ c.args.input.now c.loop-next.input c.take_part.new.input c.loop-next.body c.take_part.new.body
    c.loop-next.at c.loop-next.invariant c.in-Broken.refused c.in-Broken.coded (rw c.in-Broken.is at c.in_ok-next.ensures)

pub returns-in_err-next : goal.returns-in_err-next
returns-in_err-next g c =
    let p = err_from_is_err_and c.from_residual.result c.from_residual.ensures.1 in
    rw (p.1, p.2)
    (coding_stops _ _ _ c.args.input.now c.loop-next.input c.take_part.new.input c.loop-next.body c.take_part.new.body
    c.loop-next.at c.loop-next.invariant _ c.in_err-next.field-0.0 c.in_err-next.ensures)
