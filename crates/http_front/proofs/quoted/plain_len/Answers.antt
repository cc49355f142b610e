use Rattle.http_front.proofs.QuotedLemmas.{plain_more, plain_whole}
use Rattle.http_front.proofs.quoted.plain_len.Goals as goal

pub loop-index-preserved : goal.loop-index-preserved
loop-index-preserved c =
    plain_more c.args.text.now c.loop-index.index c.loop-index-test.true (c.is_plain.ensures c.if-not-is_plain.false) c.loop-index.invariant

pub returns-clause-plain : goal.returns-clause-plain
returns-clause-plain c = plain_whole c.args.text.now c.loop-index.index c.loop-index-test.false c.loop-index.invariant
