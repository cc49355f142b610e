use Rattle.client_wire.proofs.LinkLemmas.{page_answered, page_counted}
use Rattle.client_wire.proofs.wire_link.judge_page.Goals as goal

-- the counts are as they were
pub returns-then-reply-ne200-clause-counts : goal.returns-then-reply-ne200-clause-counts
returns-then-reply-ne200-clause-counts c e older counted before last =
    let old = counted before last in record { faults = old.faults; bad_replies = old.bad_replies; rises = tt }

-- a bad reply was counted, or memory ran out
pub returns-in-Err : goal.returns-in-Err
returns-in-Err c = record {
  answered = λ e host reads. page_answered e host c.args.reply.now c.as_slice.result.now c.in-Err.refusal c.args.bad_replies.now c.refuse_page.new.bad_replies c.refuse_page.result c.refuse_page.ensures c.if-reply-ne200.false c.as_slice.ensures c.in-Err.ensures.told reads;
  counts = λ e older counted. page_counted e older c.in-Err.refusal c.args.bad_replies.now c.refuse_page.new.bad_replies c.refuse_page.result c.refuse_page.ensures counted;
}
